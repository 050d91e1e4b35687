-- The values of the cells, and what a swap of a word does to them.
use Rattle.std.specs.Prelude.{◌≡◌, ℕ, suc, ◌+◌, ◌-◌, ◌^◌, ◌<◌, ◌≤◌, min, true, false, ◌≢◌, List, [], ◌∷◌, ◌++◌, map, length, take, drop, set, Some, nat_lt, slice_index, slice_index_or, slice_set, refl}
use Rattle.std.proofs.Common.{sym, ap, ◌∙◌, arith}
use Rattle.std.proofs.Math.Seq.{take-set-lt}
use Rattle.std.specs.List.{slice_get}
use Rattle.std.proofs.lemmas.List.{length-map, length-drop, length-take-le, get_or-take, get_or-map, get_or-drop, get_or-set_same, get_or-set_other, drop-set-lt, drop-set-add, map-set, take_more, take-take, take-set-le}
use Rattle.std.proofs.lemmas.Option.{slice_get-get_or, slice_get_past}
use Rattle.std.proofs.lemmas.Bool.{lt-ltb, le-ltb}
use Rattle.vector.specs.declared.Op.TheVariants.{Push, Pop, Read, Write}
use Rattle.vector.specs.declared.Answer.TheVariants.{Position, Value, Full, Empty, Out, Done}
use Rattle.vector.specs.Plain.{answer, after, value_or_out, popped, after_pop}
use Rattle.vector.proofs.Plainly.{popped_nth, after_pop_take}
use Rattle.lock_vector.specs.Stages.{cell, plain, value_of}
use Rattle.lock_vector.specs.Meaning.{values, items, WordsFit}

pub value_plain : (a : ℕ) → a < 2 ^ 32 → value_of (plain a) ≡ a
value_plain a h = omega arith

values_low : (W : List ℕ) (at x : ℕ) → at < 401 → values (slice_set W at x) ≡ values W
values_low W at x h = ap (map value_of) (drop-set-lt 401 W at x h)

values_cell : (W : List ℕ) (i x : ℕ) → values (slice_set W (cell i) x) ≡ slice_set (values W) i (value_of x)
values_cell W i x = ap (map value_of) (drop-set-add 401 W i x) ∙ map-set value_of (drop 401 W) i x

-- a pop of nothing
pop_none : (xs : List ℕ) → length xs ≡ 0 → (popped xs ≡ Empty) × (after_pop xs ≡ xs)
pop_none [] e = (refl, refl)
pop_none (x ∷ xs) e = absurd (omega arith)

module _ (capacity : ℕ) (W : List ℕ) (fit : WordsFit capacity W) where
  pub as_is : min (slice_index W 1) capacity ≡ slice_index W 1
  as_is = let h = fit.within in omega arith

  items_is : items capacity W ≡ take (slice_index W 1) (values W)
  items_is = ap (λ k. take k (values W)) as_is

  values_len : length (values W) ≡ length W - 401
  values_len = simp (length-map, length-drop)

  long : slice_index_or W 1 0 ≤ length (values W)
  long = let a = fit.within in let b = fit.room in let e = values_len in omega arith

  pub items_len : length (items capacity W) ≡ slice_index W 1
  items_len = ap length items_is ∙ length-take-le (slice_index W 1) (values W) long

  value_at : (i : ℕ) → i < capacity → slice_index (values W) i ≡ value_of (slice_index W (cell i))
  value_at i l =
      let b = fit.room in
      let k : i < length (drop 401 W) = simp length-drop (omega arith) in
      get_or-map value_of (drop 401 W) i 0 0 k ∙ ap value_of (get_or-drop 401 W i 0)

  item_at : (i : ℕ) → i < slice_index W 1 → slice_index (items capacity W) i ≡ value_of (slice_index W (cell i))
  item_at i l =
      let a = fit.within in
      ap (λ xs. slice_index xs i) items_is ∙ get_or-take (slice_index W 1) (values W) i 0 l ∙ value_at i (omega arith)

  nth_item : (i : ℕ) → i < slice_index W 1 → slice_get (items capacity W) i ≡ Some (value_of (slice_index W (cell i)))
  nth_item i l =
      let e = items_len in
      slice_get-get_or (items capacity W) i 0 (omega arith) ∙ ap Some (item_at i l)

  -- what the plain vector answers, and what it holds then
  abbrev xs : List ℕ
  xs = items capacity W

  pub push_full : (a : ℕ) → capacity ≤ slice_index W 1 → (answer capacity xs (Push a) ≡ Full) × (after capacity xs (Push a) ≡ xs)
  push_full a l =
      let e = items_len in
      let b : nat_lt (length xs) capacity ≡ false = le-ltb (length xs) capacity (omega arith) in
      (rw b, rw b)

  pub pop_empty : slice_index_or W 1 0 ≡ 0 → (answer capacity xs Pop ≡ Empty) × (after capacity xs Pop ≡ xs)
  pop_empty z =
      let e = items_len in
      pop_none xs (omega arith)

  pub read_out : (i : ℕ) → slice_index W 1 ≤ i → answer capacity xs (Read i) ≡ Out
  read_out i l =
      let e = items_len in
      ap value_or_out (slice_get_past xs i (omega arith))

  pub write_out : (i a : ℕ) → slice_index W 1 ≤ i → (answer capacity xs (Write i a) ≡ Out) × (after capacity xs (Write i a) ≡ xs)
  write_out i a l =
      let e = items_len in
      let b : nat_lt i (length xs) ≡ false = le-ltb i (length xs) (omega arith) in
      (rw b, rw b)

  pub read_in : (i : ℕ) → i < slice_index W 1 → answer capacity xs (Read i) ≡ Value (value_of (slice_index W (cell i)))
  read_in i l = ap value_or_out (nth_item i l)

  pub write_in : (i a : ℕ) → i < slice_index W 1 → a < 2 ^ 32 → (answer capacity xs (Write i a) ≡ Done) × (items capacity (slice_set W (cell i) (plain a)) ≡ after capacity xs (Write i a))
  write_in i a l small =
      let e = items_len in
      let b : nat_lt i (length xs) ≡ true = lt-ltb i (length xs) (omega arith) in
      let n : slice_index_or (slice_set W (cell i) (plain a)) 1 0 ≡ slice_index_or W 1 0 = get_or-set_other W (cell i) 1 (plain a) 0 (omega arith) in
      let v : values (slice_set W (cell i) (plain a)) ≡ set (values W) i a = values_cell W i (plain a) ∙ ap (set (values W) i) (value_plain a small) in
      (rw b, rw (b, n, v, as_is) (take-set-lt (slice_index W 1) (values W) i a l))

  pub push_in : (a : ℕ) → slice_index W 1 < capacity → a < 2 ^ 32 → slice_index W (cell (slice_index W 1)) ≡ plain a
      → (answer capacity xs (Push a) ≡ Position (slice_index W 1)) × (items capacity (slice_set W 1 (suc (slice_index W 1))) ≡ after capacity xs (Push a))
  push_in a l small here =
      let e = items_len in
      let r = fit.room in
      let b : nat_lt (length xs) capacity ≡ true = lt-ltb (length xs) capacity (omega arith) in
      let n : slice_index_or (slice_set W 1 (suc (slice_index W 1))) 1 0 ≡ suc (slice_index W 1) = get_or-set_same W 1 (suc (slice_index W 1)) 0 (omega arith) in
      let v = values_low W 1 (suc (slice_index W 1)) (omega arith) in
      let m : min (suc (slice_index W 1)) capacity ≡ slice_index W 1 + 1 = omega arith in
      let w = values_len in
      let more = take_more (values W) (slice_index W 1) 0 (omega arith) in
      let x : slice_index_or (values W) (slice_index W 1) 0 ≡ a = value_at (slice_index W 1) l ∙ ap value_of here ∙ value_plain a small in
      (rw (b, e), rw (b, n, v, m, as_is) (more ∙ ap (λ y. take (slice_index W 1) (values W) ++ (y ∷ [])) x))

  pub pop_in : (to : ℕ) → suc to ≡ slice_index W 1
      → (answer capacity xs Pop ≡ Value (value_of (slice_index W (cell to)))) × (items capacity (slice_set W 1 to) ≡ after capacity xs Pop)
  pop_in to s =
      let e = items_len in
      let r = fit.room in
      let i = fit.within in
      let last : length xs - 1 ≡ to = omega arith in
      let n : slice_index_or (slice_set W 1 to) 1 0 ≡ to = get_or-set_same W 1 to 0 (omega arith) in
      let v = values_low W 1 to (omega arith) in
      let m : min to capacity ≡ to = omega arith in (
        popped_nth xs _ (rw last (nth_item to (omega arith))),
        rw (after_pop_take xs, n, v, m, last, items_is) (sym (take-take to (slice_index W 1) (values W) (omega arith))),
      )

  -- words that keep the length and the values
  pub items_low : (at x : ℕ) → at ≢ 1 → at < 401 → items capacity (slice_set W at x) ≡ items capacity W
  items_low at x ne l =
      let n : slice_index_or (slice_set W at x) 1 0 ≡ slice_index_or W 1 0 = get_or-set_other W at 1 x 0 (λ q. ne (sym q)) in
      let v = values_low W at x l in
      rw (n, v)

  pub items_past : (i x : ℕ) → slice_index W 1 ≤ i → items capacity (slice_set W (cell i) x) ≡ items capacity W
  items_past i x l =
      let n : slice_index_or (slice_set W (cell i) x) 1 0 ≡ slice_index_or W 1 0 = get_or-set_other W (cell i) 1 x 0 (omega arith) in
      let v = values_cell W i x in
      rw (n, v, as_is) (take-set-le (slice_index W 1) (values W) i (value_of x) l)
