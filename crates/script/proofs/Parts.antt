-- The parts of a line, by the place of the first mark.
use Rattle.std.proofs.Common.{◌≡◌, ℕ, zero, suc, ◌+◌, ◌-◌, ◌<◌, ◌≤◌, Bool, true, false, cond, eqb, List, [], ◌∷◌, length, get_or, take, drop, Some, None, refl, sym, ap, ◌∙◌, add-one, arith}
use Rattle.std.proofs.lemmas.Bool.{cond-true, cond-false}
use Rattle.std.proofs.lemmas.List.{take_rest}
use Rattle.std.proofs.lemmas.List.Quantifiers.{position-Some}
use Rattle.std.proofs.lemmas.Grind.{common_steps}
use Rattle.std.proofs.lemmas.List.Sums.{fails_before_first}
use Rattle.std.specs.List.{position, position_or_len}
use Rattle.script.specs.Fields.{before, after}

module _ (b : ℕ) where
  before_first : (xs : List ℕ) (i : ℕ) → i < length xs → eqb (get_or xs i 0) b ≡ true → ((k : ℕ) → k < i → eqb (get_or xs k 0) b ≡ false) → take i xs ≡ before b xs
  before_first [] i lt is un = absurd (omega arith)
  before_first (x ∷ xs) zero lt is un = sym (cond-true _ _ _ is)
  before_first (x ∷ xs) (suc i) lt is un =
      ap (λ l. x ∷ l) (before_first xs i (omega arith) is (λ k h. un (suc k) (omega arith))) ∙ sym (cond-false _ _ _ (un 0 (omega arith)))

  after_first : (xs : List ℕ) (i : ℕ) → i < length xs → eqb (get_or xs i 0) b ≡ true → ((k : ℕ) → k < i → eqb (get_or xs k 0) b ≡ false) → Some (drop (suc i) xs) ≡ after b xs
  after_first [] i lt is un = absurd (omega arith)
  after_first (x ∷ xs) zero lt is un = sym (cond-true _ _ _ is)
  after_first (x ∷ xs) (suc i) lt is un = after_first xs i (omega arith) is (λ k h. un (suc k) (omega arith)) ∙ sym (cond-false _ _ _ (un 0 (omega arith)))

  pub before_place : (xs : List ℕ) (i : ℕ) → position (λ x. eqb x b) xs ≡ Some i → take i xs ≡ before b xs
  before_place xs i is = let p = position-Some (λ x. eqb x b) xs i 0 is in before_first xs i p.0 p.1 p.2

  pub after_place : (xs : List ℕ) (i : ℕ) → position (λ x. eqb x b) xs ≡ Some i → Some (take (length xs - (i + 1)) (drop (i + 1) xs)) ≡ after b xs
  after_place xs i is =
      let p = position-Some (λ x. eqb x b) xs i 0 is in
      ap (λ (l : List ℕ). Some l) (take_rest xs (i + 1) ∙ ap (λ n. drop n xs) (add-one i)) ∙ after_first xs i p.0 p.1 p.2

  none_if : (t : Bool) (x : ℕ) (xs : List ℕ) → (after b xs ≡ None → before b xs ≡ xs) → cond t (Some xs) (after b xs) ≡ None → cond t [] (x ∷ before b xs) ≡ x ∷ xs
  none_if true x xs ih e = let z : ◌≡◌ {A = ℕ} 0 1 = cc in absurd (omega arith)
  none_if false x xs ih e = ap (λ l. x ∷ l) (ih e)

  pub before_all : (xs : List ℕ) → after b xs ≡ None → before b xs ≡ xs
  before_all [] e = refl
  before_all (x ∷ xs) e = none_if (eqb x b) x xs (before_all xs) e

  after_never : (xs : List ℕ) → ((k : ℕ) → k < length xs → eqb (get_or xs k 0) b ≡ false) → after b xs ≡ None
  after_never [] un = refl
  after_never (x ∷ xs) un = cond-false _ _ _ (un 0 (omega arith)) ∙ after_never xs (λ k h. un (suc k) (omega arith))

  pub after_none : (xs : List ℕ) → position (λ x. eqb x b) xs ≡ None → after b xs ≡ None
  after_none xs e =
      let past : length xs ≤ position_or_len (λ x. eqb x b) xs = grind (arith, common_steps) in
      after_never xs (λ k h. fails_before_first (λ x. eqb x b) xs k 0 (omega arith))
