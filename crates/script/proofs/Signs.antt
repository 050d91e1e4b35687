-- The sign in front of a number.
use Rattle.std.proofs.Common.{◌≡◌, ℕ, Bool, true, false, eqb, List, [], ◌∷◌, take, drop, sym, ◌∙◌, arith}
use Rattle.std.proofs.lemmas.Bool.{cond-true, cond-false}
use Rattle.std.specs.Cmp.Lexicographic.{pointwise}
use Rattle.script.specs.Numbers.{minus, unsigned}

-- whether a text begins with the byte of a minus
minus_is : (xs : List ℕ) (t : Bool) → pointwise eqb (take 1 xs) (45 ∷ []) ≡ t → minus xs ≡ t
minus_is [] t e = e
minus_is (x ∷ xs) t e = grind arith

pub after_minus : (xs ds : List ℕ) → pointwise eqb (take 1 xs) (45 ∷ []) ≡ true → ds ≡ drop 1 xs → (ds ≡ unsigned xs) × (minus xs ≡ true)
after_minus xs ds e is = let m = minus_is xs true e in (is ∙ sym (cond-true _ _ _ m), m)

pub without_minus : (xs : List ℕ) → pointwise eqb (take 1 xs) (45 ∷ []) ≡ false → (xs ≡ unsigned xs) × (minus xs ≡ false)
without_minus xs e = let m = minus_is xs false e in (sym (cond-false _ _ _ m), m)
