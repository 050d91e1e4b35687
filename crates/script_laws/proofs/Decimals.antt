-- The shortest form of a number: digits that read as n are no fewer than those that are written for n.
use Rattle.std.proofs.Common.{◌≡◌, ℕ, zero, suc, ◌+◌, ◌-◌, ◌*◌, ◌^◌, ◌<◌, ◌≤◌, Bool, true, false, cond, ◌&&◌, leb, List, [], ◌∷◌, length, drop, ℤ, pos, negsuc, neg_ℤ, ◌≤ℤ◌, Some, None, decimal, Option, sym, refl, ap, ◌∙◌, mul-le-mul_right, mul_assoc, mul_comm, pow-suc, arith, length-drop}
use native.Mathlib.Nat.{pow-le-pow_right}
use Rattle.std.proofs.lemmas.Fmt.{length-decimal-le}
use Rattle.std.proofs.lemmas.Int.{ints}
use Rattle.std.proofs.lemmas.Bool.{and_parts, leb-true}
use Rattle.std.specs.Option.{option_map}
use Rattle.std.specs.Char.{is_ascii_digit}
use Rattle.std.specs.Fmt.{signed_decimal}
use Rattle.script.specs.Numbers.{digits_on, number_of, minus, with_sign, signed_of}
use Rattle.script_laws.specs.Decimals.{ShortestDecimals}
use Rattle.script_laws.proofs.Marks.{number_decimal}
use Rattle.script_laws.proofs.Back.{no_minus}

-- k digits after m write a number below (m + 1) * 10 ^ k
below_if : (b : Bool) (m n c : ℕ) (cs : List ℕ) → is_ascii_digit c ≡ b → ((j : ℕ) → digits_on j cs ≡ Some n → n < (j + 1) * 10 ^ length cs) → cond b (digits_on (m * 10 + (c - 48)) cs) None ≡ Some n → n < (m + 1) * 10 ^ suc (length cs)
below_if true m n c cs t ih e =
    let p = and_parts (leb 48 c) (leb c 57) t in
    let high = leb-true c 57 p.1 in
    let h = ih (m * 10 + (c - 48)) e in
    let k = 10 ^ length cs in
    let small : m * 10 + (c - 48) + 1 ≤ (m + 1) * 10 = omega arith in
    let wide : (m * 10 + (c - 48) + 1) * k ≤ (m + 1) * 10 * k = mul-le-mul_right k small in
    let q : (m + 1) * 10 ^ suc (length cs) ≡ (m + 1) * 10 * k = ap (λ x. (m + 1) * x) (pow-suc 10 (length cs) ∙ mul_comm k 10) ∙ sym (mul_assoc (m + 1) 10 k) in
    omega (arith, h, wide, q)
below_if false m n c cs t ih e = let z : ◌≡◌ {A = ℕ} 0 1 = cc in absurd (omega arith)

pub below : (m n : ℕ) (ds : List ℕ) → digits_on m ds ≡ Some n → n < (m + 1) * 10 ^ length ds
below m n [] e = let p : m ≡ n = cc in omega (arith, p)
below m n (c ∷ cs) e = below_if (is_ascii_digit c) m n c cs refl (λ j. below j n cs) e

-- digits that read as n are no fewer than those written for n, and there are some
number_if : (b : Bool) (n : ℕ) (text : List ℕ) → (leb 1 (length text) && leb (length text) 10) ≡ b → cond b (digits_on 0 text) None ≡ Some n → (length (decimal n) ≤ length text) × (0 < length text)
number_if true n text t e =
    let p = and_parts (leb 1 (length text)) (leb (length text) 10) t in
    let low = leb-true 1 (length text) p.0 in
    let high = leb-true (length text) 10 p.1 in
    let h = below 0 n text e in
    let wide : 10 ^ length text ≤ 10 ^ 10 = pow-le-pow_right {n = 10} (omega arith) high in
    (length-decimal-le (length text) n (omega arith) (omega (arith, h)) (omega (arith, h, wide)), omega arith)
number_if false n text t e = let z : ◌≡◌ {A = ℕ} 0 1 = cc in absurd (omega arith)

some_number : (f : ℕ → ℤ) (o : Option ℕ) (z : ℤ) → option_map f o ≡ Some z → (n : ℕ) × (o ≡ Some n) × (f n ≡ z)
some_number f (Some n) z e = (n, refl, cc)
some_number f None z e = let k : ◌≡◌ {A = ℕ} 0 1 = cc in absurd (omega arith)

-- a minus is one byte more, at most
negated : (n : ℕ) → length (signed_decimal (neg_ℤ (pos n))) ≤ suc (length (decimal n))
negated zero = omega arith
negated (suc n) = omega arith

shortest_if : (b : Bool) (z : ℤ) (text : List ℕ) → option_map (with_sign b) (number_of (cond b (drop 1 text) text)) ≡ Some z → length (signed_decimal z) ≤ length text
shortest_if true z text e =
    let r = some_number (with_sign true) (number_of (drop 1 text)) z e in
    let h = number_if _ r.0 (drop 1 text) refl r.1 in
    omega (arith, ap (λ y. length (signed_decimal y)) r.2, negated r.0, h.0, h.1, length-drop 1 text)
shortest_if false z text e =
    let r = some_number (with_sign false) (number_of text) z e in
    let h = number_if _ r.0 text refl r.1 in
    omega (arith, ap (λ y. length (signed_decimal y)) r.2, h.0)

reads_signed : (z : ℤ) → negsuc 2147483647 ≤ℤ z → z ≤ℤ pos 4294967295 → signed_of (signed_decimal z) ≡ Some z
reads_signed (pos n) low high = let s : n < 10 ^ 10 = omega (arith, ints) in rw (no_minus n (omega arith), number_decimal n s)
reads_signed (negsuc n) low high = let s : suc n < 10 ^ 10 = omega (arith, ints) in rw (number_decimal (suc n) s)

pub shortest_decimals : ShortestDecimals
shortest_decimals z low high = record { reads = reads_signed z low high; shortest = λ other e. shortest_if (minus other) z other e }
