-- Small facts the other files go by: a function with one value changed, and what the tests of cells and statuses tell.
use Rattle.std.proofs.Common.{◌≡◌, ℕ, Bool, true, false, ◌&&◌, eqb, ◌≢◌, ◌⊎◌, sym, refl, ap, inl, inr, true≢false, Some, None, Option, is_some}
use Rattle.std.proofs.lemmas.Bool.{cases_eq, eqb-true, eq-eqb, ne_eqb, and_parts, and_from}
use Rattle.descriptor_steps.specs.Shared.{Cell, empty, plain, frozen, Status, pending, done, final, upd, same_cell, same_done}

pub no_way : {A : Type 0} → ◌≡◌ {A = Bool} true false → A
no_way e = absurd (true≢false e)

pub none_there : {A : Type 0} (o : Option A) → is_some o ≡ false → o ≡ None
none_there None h = refl
none_there (Some x) h = no_way h

module _ {A : Type 0} where
  pub upd_same : (f : ℕ → A) (i : ℕ) (v : A) → upd f i v i ≡ v
  unfolding upd
  upd_same f i v = rw (eq-eqb i i refl)

  pub upd_other : (f : ℕ → A) (i : ℕ) (v : A) (k : ℕ) → k ≢ i → upd f i v k ≡ f k
  unfolding upd
  upd_other f i v k ne = rw (ne_eqb k i ne)

pub same_cell_true : (w v : Cell) → same_cell w v ≡ true → w ≡ v
same_cell_true (empty k) (empty l) h = ap empty (eqb-true k l h)
same_cell_true (empty k) (plain b) h = no_way (sym h)
same_cell_true (empty k) (frozen b l i) h = no_way (sym h)
same_cell_true (plain a) (empty l) h = no_way (sym h)
same_cell_true (plain a) (plain b) h = ap plain (eqb-true a b h)
same_cell_true (plain a) (frozen b l i) h = no_way (sym h)
same_cell_true (frozen a k j) (empty l) h = no_way (sym h)
same_cell_true (frozen a k j) (plain b) h = no_way (sym h)
same_cell_true (frozen a k j) (frozen b l i) h =
    let p = and_parts (eqb a b) (eqb k l && eqb j i) h in
    let q = and_parts (eqb k l) (eqb j i) p.1 in
    let x = eqb-true a b p.0 in
    let y = eqb-true k l q.0 in
    let z = eqb-true j i q.1 in
    cc

pub same_cell_refl : (w : Cell) → same_cell w w ≡ true
same_cell_refl (empty k) = eq-eqb k k refl
same_cell_refl (plain a) = eq-eqb a a refl
same_cell_refl (frozen a k j) = and_from (eqb a a) (eqb k k && eqb j j) (eq-eqb a a refl) (and_from (eqb k k) (eqb j j) (eq-eqb k k refl) (eq-eqb j j refl))

pub same_cell_false : (w v : Cell) → same_cell w v ≡ false → w ≢ v
same_cell_false w v h e = let x = same_cell_refl v in no_way (cc)

pub same_done_true : (v : Status) (a : ℕ) → same_done v a ≡ true → v ≡ done a
same_done_true pending a h = no_way (sym h)
same_done_true (done b) a h = ap done (eqb-true b a h)
same_done_true (final b) a h = no_way (sym h)

pub same_done_false : (v : Status) (a : ℕ) → same_done v a ≡ false → v ≢ done a
same_done_false v a h e = let x = eq-eqb a a refl in no_way (cc)

module _ {A : Type 0} where
  pub at_upd : (f : ℕ → A) (i : ℕ) (v : A) (k : ℕ) → ((k ≡ i) × (upd f i v k ≡ v)) ⊎ ((k ≢ i) × (upd f i v k ≡ f k))
  at_upd f i v k = elim (cases_eq k i) [ inl e ↦ inl (e, rw e (upd_same f i v)) | inr e ↦ inr (e, upd_other f i v k e) ]
