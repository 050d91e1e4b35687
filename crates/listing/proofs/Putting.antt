-- One text written after another.
use Rattle.std.proofs.Common.{◌≡◌, ℕ, ◌+◌, ◌/◌, ◌%◌, ◌^◌, ◌<◌, ◌≤◌, List, [], ◌∷◌, ◌++◌, length, take, drop, set, ℤ, pos, negsuc, nat_abs, ◌<ℤ◌, decimal, sym, refl, ap, ◌∙◌, subst, append_assoc, add-one, arith, length-append, length-drop}
use borrow.Rule.Slice.PartMut.{put_mid}
use Rattle.std.proofs.lemmas.List.{take_at, drop_at, drop-drop, length-take-le, length_push, set_split}
use Rattle.std.proofs.lemmas.Fmt.{decimal_step}
use Rattle.std.proofs.lemmas.Int.{ints}
use Rattle.std.specs.Fmt.{signed_decimal}
use Rattle.listing.specs.Puts.{Puts, Room}

-- the length of an output stays
length_put : (text : List ℕ) (at : ℕ) (before : List ℕ) → at + length text ≤ length before → length (take at before ++ (text ++ drop (at + length text) before)) ≡ length before
length_put text at before h =
    let t = length-take-le at before (omega arith) in
    simp (length-append, length-drop) (omega (arith, t))

-- what stands behind a text that was written
drop_put : (a : List ℕ) (at n : ℕ) (before : List ℕ) → at + length a ≤ length before → drop (at + length a + n) (take at before ++ (a ++ drop (at + length a) before)) ≡ drop (at + length a + n) before
drop_put a at n before h =
    let l : length (take at before ++ a) ≡ at + length a = simp length-append (omega (arith, length-take-le at before (omega arith))) in
    sym (drop-drop n (at + length a) _)
    ∙ ap (drop n) (ap (drop (at + length a)) (sym (append_assoc (take at before) a (drop (at + length a) before))) ∙ drop_at (take at before ++ a) (drop (at + length a) before) (at + length a) l)
    ∙ drop-drop n (at + length a) before

take_put : (a : List ℕ) (at : ℕ) (before : List ℕ) → at + length a ≤ length before → take (at + length a) (take at before ++ (a ++ drop (at + length a) before)) ≡ take at before ++ a
take_put a at before h =
    let l : length (take at before ++ a) ≡ at + length a = simp length-append (omega (arith, length-take-le at before (omega arith))) in
    ap (take (at + length a)) (sym (append_assoc (take at before) a (drop (at + length a) before))) ∙ take_at (take at before ++ a) (drop (at + length a) before) (at + length a) l

-- one write after another
pub then_puts : {a b : List ℕ} {at : ℕ} {x y z : List ℕ} {m n : ℕ} → Puts a at x y m → Puts b m y z n → Puts (a ++ b) at x z n
then_puts {a} {b} {at} {x} {y} {z} {m} {n} f g =
    let l = length_put a at x f.within in
    let same = ap length f.bytes ∙ l in
    let w : at + length (a ++ b) ≤ length x = simp length-append (omega (arith, f.place, g.within, same)) in
    let e : m ≡ at + length a = f.place in
    let d : at + length a + length b ≡ at + length (a ++ b) = simp length-append (omega arith) in
    let front : take m y ≡ take at x ++ a = ap (λ k. take k y) e ∙ ap (take (at + length a)) f.bytes ∙ take_put a at x f.within in
    let back : drop (m + length b) y ≡ drop (at + length (a ++ b)) x = ap (λ k. drop (k + length b) y) e ∙ ap (drop (at + length a + length b)) f.bytes ∙ drop_put a at (length b) x f.within ∙ ap (λ k. drop k x) d in
    record {
      within = w;
      bytes = g.bytes ∙ ap (λ l. l ++ (b ++ drop (m + length b) y)) front ∙ ap (λ l. (take at x ++ a) ++ (b ++ l)) back ∙ append_assoc (take at x) a (b ++ drop (at + length (a ++ b)) x) ∙ ap (λ l. take at x ++ l) (sym (append_assoc a b (drop (at + length (a ++ b)) x)));
      place = g.place ∙ ap (λ k. k + length b) e ∙ d;
    }

-- a text under another name
pub puts_is : {a b : List ℕ} {at : ℕ} {x y : List ℕ} {n : ℕ} → a ≡ b → Puts a at x y n → Puts b at x y n
puts_is {a} {b} {at} {x} {y} {n} e f = subst (λ l. Puts l at x y n) e f

pub room_is : {a b : List ℕ} {at : ℕ} {x : List ℕ} → a ≡ b → Room a at x → Room b at x
room_is {a} {b} {at} {x} e h = subst (λ l. Room l at x) e h

-- one byte
pub puts_byte : (b at : ℕ) (x : List ℕ) → at < length x → Puts (b ∷ []) at x (set x at b) (at + 1)
puts_byte b at x h = record { within = omega arith; bytes = set_split x at b h ∙ ap (λ k. take at x ++ b ∷ drop k x) (sym (add-one at)); place = refl }

pub below_zero : (z : ℤ) → z <ℤ pos 0 → 45 ∷ decimal (nat_abs z) ≡ signed_decimal z
below_zero (pos n) h = absurd (omega (arith, ints))
below_zero (negsuc n) h = refl

-- a part of the output
pub puts_part : (text : List ℕ) (at k : ℕ) (x ys : List ℕ) → ys ≡ text → k ≡ length text → Room text at x → Puts text at x (put_mid at k x ys) (at + length text)
puts_part text at k x ys e n h = record {
  within = h.fits;
  bytes = ap (λ l. take at x ++ (l ++ drop k (drop at x))) e ∙ ap (λ l. take at x ++ (text ++ l)) (drop-drop k at x ∙ ap (λ m. drop (at + m) x) n);
  place = refl;
}

-- one digit less
pub length_step : (n : ℕ) → 10 ≤ n → n < 2 ^ 64 → length (decimal n) ≡ length (decimal (n / 10)) + 1
length_step n h f = ap length (decimal_step n h f) ∙ length_push (decimal (n / 10)) (48 + n % 10)

-- room for what comes after a text, and for a text alone
pub room_next : {a b : List ℕ} {at : ℕ} {x y : List ℕ} {m : ℕ} → Puts a at x y m → Room (a ++ b) at x → Room b m y
room_next {a} {b} {at} {x} {y} {m} f h =
    let same = ap length f.bytes ∙ length_put a at x f.within in
    record { fits = omega (arith, f.place, same, length-append a b) }

pub room_first : (a b : List ℕ) {at : ℕ} {x : List ℕ} → Room (a ++ b) at x → Room a at x
room_first a b {at} {x} h = record { fits = omega (arith, length-append a b) }

-- nothing was written yet
pub puts_none : (x : List ℕ) → Puts [] 0 x x 0
puts_none x = record { within = omega arith; bytes = refl; place = refl }
