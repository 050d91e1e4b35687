-- The words still fit after each swap.
use Rattle.std.specs.Prelude.{◌≡◌, ℕ, suc, ◌+◌, ◌^◌, ◌<◌, ◌≤◌, List, length, slice_index, slice_index_or, slice_set}
use Rattle.std.proofs.Common.{sym, ap, subst, ◌∙◌, inl, inr, arith}
use Rattle.std.proofs.lemmas.List.{length-set, get_or-set_same, get_or-set_other}
use Rattle.std.proofs.lemmas.Bool.{cases_eq}
use Rattle.lock_vector.specs.Stages.{cell, plain, value_of}
use Rattle.lock_vector.specs.Meaning.{WordsFit}
use Rattle.lock_vector.specs.Items.{value_plain}

-- the word is a plain one
abbrev Plain : ℕ → Type 0
Plain w = w ≡ plain (value_of w)

plain_plain : (a : ℕ) → a < 2 ^ 32 → Plain (plain a)
plain_plain a h = ap plain (sym (value_plain a h))

module _ (capacity : ℕ) (W : List ℕ) (fit : WordsFit capacity W) where
  -- a location that is in the memory
  pub in_room : (i : ℕ) → i < 401 + capacity → i < length W
  in_room i l = let r = fit.room in omega arith

  -- one word changed, with length n after
  fit_set : (at x n : ℕ) → slice_index (slice_set W at x) 1 ≡ n → n ≤ capacity → ((i : ℕ) → i < n → Plain (slice_index (slice_set W at x) (cell i))) → WordsFit capacity (slice_set W at x)
  fit_set at x n e l p = record {
    room = rw (length-set W at x) fit.room;
    within = rw e l;
    plains = λ i h. p i (rw e at h);
  }

  pub fit_lock : (x : ℕ) → WordsFit capacity (slice_set W 0 x)
  fit_lock x =
      fit_set 0 x (slice_index W 1) (get_or-set_other W 0 1 x 0 (omega arith)) fit.within
      (λ i h. let e : slice_index_or (slice_set W 0 x) (cell i) 0 ≡ slice_index_or W (cell i) 0 = get_or-set_other W 0 (cell i) x 0 (omega arith) in subst Plain (sym e) (fit.plains i h))

  pub fit_past : (j x : ℕ) → slice_index W 1 ≤ j → WordsFit capacity (slice_set W (cell j) x)
  fit_past j x l =
      fit_set (cell j) x (slice_index W 1) (get_or-set_other W (cell j) 1 x 0 (omega arith)) fit.within
      (λ i h. let e : slice_index_or (slice_set W (cell j) x) (cell i) 0 ≡ slice_index_or W (cell i) 0 = get_or-set_other W (cell j) (cell i) x 0 (omega arith) in subst Plain (sym e) (fit.plains i h))

  pub fit_write : (j a : ℕ) → j < capacity → a < 2 ^ 32 → WordsFit capacity (slice_set W (cell j) (plain a))
  fit_write j a l small =
      fit_set (cell j) (plain a) (slice_index W 1) (get_or-set_other W (cell j) 1 (plain a) 0 (omega arith)) fit.within
      (λ i h. elim (cases_eq i j) [
        | inl q ↦ let e : slice_index_or (slice_set W (cell j) (plain a)) (cell i) 0 ≡ plain a = rw q (get_or-set_same W (cell j) (plain a) 0 (in_room (cell j) (omega arith))) in subst Plain (sym e) (plain_plain a small)
        | inr q ↦ let e : slice_index_or (slice_set W (cell j) (plain a)) (cell i) 0 ≡ slice_index_or W (cell i) 0 = get_or-set_other W (cell j) (cell i) (plain a) 0 (λ z. q (omega arith)) in subst Plain (sym e) (fit.plains i h)
      ])

  pub fit_grow : (a : ℕ) → slice_index W 1 < capacity → a < 2 ^ 32 → slice_index W (cell (slice_index W 1)) ≡ plain a → WordsFit capacity (slice_set W 1 (suc (slice_index W 1)))
  fit_grow a l small here =
      let n : ℕ = slice_index_or W 1 0 in
      fit_set 1 (suc n) (suc n) (get_or-set_same W 1 (suc n) 0 (in_room 1 (omega arith))) l
      (λ i h.
      let e : slice_index_or (slice_set W 1 (suc n)) (cell i) 0 ≡ slice_index_or W (cell i) 0 = get_or-set_other W 1 (cell i) (suc n) 0 (omega arith) in
      elim (cases_eq i n) [
        | inl q ↦ let x : slice_index_or W (cell i) 0 ≡ plain a = rw q here in subst Plain (sym (e ∙ x)) (plain_plain a small)
        | inr q ↦ subst Plain (sym e) (fit.plains i (omega arith))
      ])

  pub fit_shrink : (to : ℕ) → suc to ≡ slice_index W 1 → WordsFit capacity (slice_set W 1 to)
  fit_shrink to s =
      let w = fit.within in
      fit_set 1 to to (get_or-set_same W 1 to 0 (in_room 1 (omega arith))) (omega arith)
      (λ i h.
      let e : slice_index_or (slice_set W 1 to) (cell i) 0 ≡ slice_index_or W (cell i) 0 = get_or-set_other W 1 (cell i) to 0 (omega arith) in
      subst Plain (sym e) (fit.plains i (omega arith)))
