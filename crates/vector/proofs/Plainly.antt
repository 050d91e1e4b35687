-- The plain vector's pop and write by places: what a container that keeps its values by place compares itself with.
use Rattle.std.proofs.Common.{◌≡◌, ℕ, zero, suc, ◌-◌, ◌≤◌, Bool, true, false, cond, ltb, List, [], ◌∷◌, length, take, set, Some, sym, refl, ap, le_of_suc-le-suc, arith, ltb-false}
use Rattle.std.specs.List.{slice_get}
use Rattle.vector.specs.Plain.{last, but_last, popped, after_pop}
use Rattle.vector.specs.declared.Answer.TheVariants.{Value}

module _ {V : Type 0} where
  last_nth : (v : V) (xs : List V) → slice_get (v ∷ xs) (length xs) ≡ Some (last v xs)
  last_nth v [] = refl
  last_nth v (x ∷ xs) = last_nth x xs

  but_last_take : (v : V) (xs : List V) → but_last v xs ≡ take (length xs) (v ∷ xs)
  but_last_take v [] = refl
  but_last_take v (x ∷ xs) = ap (λ (ys : List V). v ∷ ys) (but_last_take x xs)

  pub after_pop_take : (xs : List V) → after_pop xs ≡ take (length xs - 1) xs
  after_pop_take [] = refl
  after_pop_take (x ∷ xs) = let e : suc (length xs) - 1 ≡ length xs = omega arith in rw e (but_last_take x xs)

  -- a pop answers what stands at the last place
  pub popped_nth : (xs : List V) (v : V) → slice_get xs (length xs - 1) ≡ Some v → popped xs ≡ Value v
  popped_nth [] v e = let z : ◌≡◌ {A = ℕ} 0 1 = cc in absurd (omega arith)
  popped_nth (x ∷ xs) v e =
      let i : suc (length xs) - 1 ≡ length xs = omega arith in
      let h : slice_get (x ∷ xs) (length xs) ≡ Some v = rw i at e in
      let l = last_nth x xs in
      let k : last x xs ≡ v = cc in
      ap Value k

  set_past : (xs : List V) (i : ℕ) (v : V) → length xs ≤ i → set xs i v ≡ xs
  set_past [] i v h = refl
  set_past (x ∷ xs) zero v h = absurd (omega arith)
  set_past (x ∷ xs) (suc i) v h = ap (λ (ys : List V). x ∷ ys) (set_past xs i v (le_of_suc-le-suc h))

  -- a write out of the list changes nothing
  pub written : (xs : List V) (i : ℕ) (v : V) → cond (ltb i (length xs)) (set xs i v) xs ≡ set xs i v
  written xs i v = go (ltb i (length xs)) refl
    where
      go : (b : Bool) → ltb i (length xs) ≡ b → cond b (set xs i v) xs ≡ set xs i v
      go true e = refl
      go false e = sym (set_past xs i v (ltb-false i (length xs) e))
