-- The values of the cells below a size, as a list: its length, its places, and what a pop and a write make of it.
use Rattle.std.proofs.Common.{◌≡◌, ℕ, zero, suc, ◌-◌, ◌<◌, ◌≤◌, List, [], ◌∷◌, length, get_or, take, set, Some, None, sym, refl, ap, ◌∙◌, inl, inr, arith}
use Rattle.std.proofs.lemmas.List.{length_push, get_or_push, get_or_append_left, set-append_left, set-append_right, take-append-le}
use Rattle.std.proofs.lemmas.Option.{slice_get-get_or, slice_get_past}
use Rattle.std.proofs.lemmas.Bool.{cases_eq}
use Rattle.std.specs.List.{slice_get}
use Rattle.linearization.specs.Meaning.{values}
use Rattle.descriptor_steps.specs.Shared.{Cell, plain, upd, value_in}
use Rattle.linearization.proofs.Tests.{upd_same, upd_other}

pub values_length : (f : ℕ → Cell) (n : ℕ) → length (values f n) ≡ n
values_length f zero = refl
values_length f (suc n) = let e = values_length f n in let h = length_push (values f n) (value_in (f n)) in omega arith

pub values_cong : (f h : ℕ → Cell) (n : ℕ) → ((k : ℕ) → k < n → value_in (f k) ≡ value_in (h k)) → values f n ≡ values h n
values_cong f h zero e = refl
values_cong f h (suc n) e =
    let a = values_cong f h n (λ k l. e k (omega arith)) in
    let b = e n (omega arith) in
    cc

values_get : (f : ℕ → Cell) (n i : ℕ) → i < n → get_or (values f n) i 0 ≡ value_in (f i)
values_get f zero i h = absurd (omega arith)
values_get f (suc n) i h =
    elim (cases_eq i n) [
      | inl e ↦ let z = values_length f n in let y = get_or_push (values f n) (value_in (f n)) 0 i (omega arith) in cc
      | inr e ↦ let z = values_length f n in let y = get_or_append_left (values f n) (value_in (f n) ∷ []) 0 i (omega arith) in let x = values_get f n i (omega arith) in cc
    ]

pub values_nth : (f : ℕ → Cell) (n i : ℕ) → i < n → slice_get (values f n) i ≡ Some (value_in (f i))
values_nth f n i h =
    let l = values_length f n in
    slice_get-get_or (values f n) i 0 (omega arith) ∙ ap Some (values_get f n i h)

pub values_nth_past : (f : ℕ → Cell) (n i : ℕ) → n ≤ i → slice_get (values f n) i ≡ None
values_nth_past f n i h = let l = values_length f n in slice_get_past (values f n) i (omega arith)

take_whole : (l : List ℕ) (n : ℕ) → length l ≡ n → take n l ≡ l
take_whole [] zero h = refl
take_whole [] (suc n) h = refl
take_whole (x ∷ l) zero h = absurd (omega arith)
take_whole (x ∷ l) (suc n) h = ap {B = List ℕ} (λ r. x ∷ r) (take_whole l n (omega arith))

pub values_take : (f : ℕ → Cell) (n : ℕ) → take n (values f (suc n)) ≡ values f n
values_take f n =
    let z = values_length f n in
    let y = take-append-le n (values f n) (value_in (f n) ∷ []) (omega arith) in
    y ∙ take_whole (values f n) n z

pub values_set : (f : ℕ → Cell) (x n i : ℕ) → i < n → set (values f n) i x ≡ values (upd f i (plain x)) n
values_set f x zero i h = absurd (omega arith)
values_set f x (suc n) i h =
    elim (cases_eq i n) [
      | inl e ↦ let z = values_length f n in
          let y = set-append_right (values f n) (value_in (f n) ∷ []) n i x z (omega arith) in
          let d : i - n ≡ 0 = omega arith in
          let u : upd f i (plain x) n ≡ plain x = rw (← e) (upd_same f i (plain x)) in
          let c = values_cong (upd f i (plain x)) f n (λ k l. ap value_in (upd_other f i (plain x) k (λ q. absurd (omega (arith, q))))) in
          cc
      | inr e ↦ let z = values_length f n in
          let y = set-append_left (values f n) (value_in (f n) ∷ []) i x (omega arith) in
          let w = values_set f x n i (omega arith) in
          let u = upd_other f i (plain x) n (λ q. e (sym q)) in
          cc
    ]
