-- What a set-up asks: words that are all 0, and enough of them.
use Rattle.std.proofs.Common.{◌≡◌, ℕ, zero, suc, ◌+◌, ◌-◌, ◌^◌, ◌<◌, ◌≤◌, min, Bool, true, false, ◌&&◌, eqb, ltb, leb, List, [], ◌∷◌, length, get_or, Option, refl, inl, inr, arith}
use Rattle.std.proofs.lemmas.Bool.{and_parts, and_from, eqb-true, eq-eqb, and_left, and_right, ne_eqb, cases_Bool, not-false, leb-true}
use Rattle.vector.specs.Calls.{all_zero}
use Rattle.vector.specs.Refusals.{first_row, outside, set_up_rows}

pub zeros_from : (ws : List ℕ) → ((k : ℕ) → k < length ws → get_or ws k 0 ≡ 0) → all_zero ws ≡ true
zeros_from [] h = refl
zeros_from (w ∷ ws) h =
    and_from (eqb w 0) (all_zero ws) (eq-eqb w 0 (h 0 (omega arith))) (zeros_from ws (λ k l. h (suc k) (omega arith)))

pub not_zeros : (ws : List ℕ) (k : ℕ) → (get_or ws k 0 ≡ 0 → ⊥) → all_zero ws ≡ false
not_zeros [] k h = absurd (h refl)
not_zeros (w ∷ ws) zero h = and_left (eqb w 0) (all_zero ws) (ne_eqb w 0 h)
not_zeros (w ∷ ws) (suc k) h = and_right (eqb w 0) (all_zero ws) (not_zeros ws k h)

pub zeros_at : (ws : List ℕ) (k : ℕ) → all_zero ws ≡ true → get_or ws k 0 ≡ 0
zeros_at [] k h = refl
zeros_at (w ∷ ws) zero h = eqb-true w 0 (and_parts (eqb w 0) (all_zero ws) h).0
zeros_at (w ∷ ws) (suc k) h = zeros_at ws k (and_parts (eqb w 0) (all_zero ws) h).1

pub from_outside : (l h n : ℕ) → outside l h n ≡ false → (l ≤ n) × (n ≤ h)
from_outside l h n e =
    let p = and_parts (leb l n) (leb n h) (not-false (leb l n && leb n h) e) in
    (leb-true l n p.0, leb-true n h p.1)

-- the words needed, cut to what a word can say, judge as they would uncut: where they are cut, the capacity is refused
pub cut : (base set k t words n : ℕ) (zeros : Bool) (o : Option ℕ) → base < 2 ^ 63 → n ≡ min (base + k) (2 ^ 64 - 1) → first_row (set_up_rows set k t words n zeros) ≡ o → first_row (set_up_rows set k t words (base + k) zeros) ≡ o
cut base set k t words n zeros o small e h = elim (cases_Bool (ltb 0 set)) [
  | inl before ↦ rw before (rw before at h)
  | inr new ↦ elim (cases_Bool (outside 1 64 k)) [
    | inl out ↦ rw (new, out) (rw (new, out) at h)
    | inr fits ↦ let l = (from_outside 1 64 k fits).1 in let same : base + k ≡ n = omega arith in rw same h
  ]
]
