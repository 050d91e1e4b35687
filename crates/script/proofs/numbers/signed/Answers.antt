use Rattle.std.proofs.Common.{◌≡◌, Ok, neg_ℤ, pos, to_z, of_z, w64, ◌-ℤ◌, arith, rules}
use Rattle.std.proofs.lemmas.Int.{ints}
use Rattle.script.proofs.Signs.{after_minus, without_minus}
use Rattle.script.proofs.numbers.signed.Goals as goal

pub overflow_cast-result : goal.overflow_cast-result
overflow_cast-result g c =
    let d = after_minus c.args.text.now c.in-Some.digits.now c.in-Some.ensures.cases.0 c.in-Some.ensures.cases.1 in
    let small = c.requires.small (Ok c.in_ok-read-in-Some.field-0) (c.in-Some.digits, c.in_ok-read-in-Some.ensures, d.0) in
    omega (arith, ints, small)

pub overflow_sub-result : goal.overflow_sub-result
overflow_sub-result g c =
    let d = after_minus c.args.text.now c.in-Some.digits.now c.in-Some.ensures.cases.0 c.in-Some.ensures.cases.1 in
    let small = c.requires.small (Ok c.in_ok-read-in-Some.field-0) (c.in-Some.digits, c.in_ok-read-in-Some.ensures, d.0) in
    omega (arith, ints, small)

pub overflow_cast-result-in-None : goal.overflow_cast-result-in-None
overflow_cast-result-in-None g c =
    let d = without_minus c.args.text.now c.in-None.ensures.cases in
    let small = c.requires.small (Ok c.in_ok-read-in-None.field-0) (c.args.text, c.in_ok-read-in-None.ensures, d.0) in
    omega (arith, ints, small)

pub returns-in_ok-read-in-Some : goal.returns-in_ok-read-in-Some
returns-in_ok-read-in-Some g c =
    let d = after_minus c.args.text.now c.in-Some.digits.now c.in-Some.ensures.cases.0 c.in-Some.ensures.cases.1 in
    let n = c.in_ok-read-in-Some.field-0 in
    let small = c.requires.small (Ok n) (c.in-Some.digits, c.in_ok-read-in-Some.ensures, d.0) in
    let neg : to_z w64 (of_z w64 (pos 0 -ℤ to_z w64 n)) ≡ neg_ℤ (pos n) = search (rules, small) in
    (Ok n, (c.in-Some.digits, c.in_ok-read-in-Some.ensures, d.0), rw (d.1, neg))

pub returns-in_ok-read-in-None : goal.returns-in_ok-read-in-None
returns-in_ok-read-in-None g c =
    let d = without_minus c.args.text.now c.in-None.ensures.cases in
    let n = c.in_ok-read-in-None.field-0 in
    let small = c.requires.small (Ok n) (c.args.text, c.in_ok-read-in-None.ensures, d.0) in
    let same : to_z w64 n ≡ pos n = search (rules, small) in
    (Ok n, (c.args.text, c.in_ok-read-in-None.ensures, d.0), rw (d.1, same))
