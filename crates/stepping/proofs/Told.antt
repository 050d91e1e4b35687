-- What is read off a log is true of it: a thread is told the one number of its own that was begun and has not ended.
use Rattle.std.proofs.Common.{◌≡◌, ℕ, true, false, List, [], ◌∷◌, Some, None, sym, refl, subst, inl, inr, arith}
use Rattle.vector.specs.Meaning.{Row, idle, waiting, served, Meaning, row_of}
use Rattle.vector.specs.declared.Op.{Op}
use Rattle.vector.specs.declared.Answer.{Answer}
use Rattle.stepping.specs.Log.{about, told, Among, ends, effects, OpenIn, Tells}
use Rattle.stepping.specs.declared.Record.{Record}
use Rattle.stepping.specs.declared.Record.TheVariants.{Begin, Effect, End}
use Rattle.stepping.proofs.Logs.{begun_about, effect_about, about_effect, about_end}
use Rattle.stepping.proofs.Kept.{standing, number_told, Kept, Backed}

module _ {T : Type 0} (value : T → ℕ) (item : ℕ → T) (log : List (Record T)) (m : Meaning) (k : Kept value item log m) (t : ℕ) where
  -- an open operation is what its thread is told
  open_told : (n : ℕ) → OpenIn t n log → number_told (told t log) ≡ Some n
  open_told n ((o, begun), going) = elim (k.accounted n t o begun) [ inl (a, over) ↦ absurd (going a over) | inr tells ↦ tells ]

  only : (n j : ℕ) → told t log ≡ Some (record { number = j; effect = true }) → OpenIn t n log → n ≡ j
  only n j is h = let e = open_told n h in cc

  only_waiting : (n j : ℕ) → told t log ≡ Some (record { number = j; effect = false }) → OpenIn t n log → n ≡ j
  only_waiting n j is h = let e = open_told n h in cc

  none_open : told t log ≡ None → (n : ℕ) → OpenIn t n log → ⊥
  none_open is n h = let e = open_told n h in let z : ◌≡◌ {A = ℕ} 0 1 = cc in omega arith

  -- neither the begin nor the effect of a number is another record of it
  no_end : (n u : ℕ) (o : Op T) (a : Answer T) → about n log ≡ Begin n u o ∷ [] → Among (n, a) (ends log) → ⊥
  no_end n u o a is h = go (subst (Among (End n a)) is (about_end log n a h))
    where
      go : Among (End n a) (Begin n u o ∷ []) → ⊥
      go (inl e) = let z : ◌≡◌ {A = ℕ} 0 1 = cc in omega arith
      go (inr i) = i

  no_end_yet : (n u : ℕ) (o : Op T) (a : Answer T) → about n log ≡ Begin n u o ∷ Effect n ∷ [] → Among (n, a) (ends log) → ⊥
  no_end_yet n u o a is h = go (subst (Among (End n a)) is (about_end log n a h))
    where
      go : Among (End n a) (Begin n u o ∷ Effect n ∷ []) → ⊥
      go (inl e) = let z : ◌≡◌ {A = ℕ} 0 1 = cc in omega arith
      go (inr (inl e)) = let z : ◌≡◌ {A = ℕ} 0 1 = cc in omega arith
      go (inr (inr i)) = i

  no_effect : (n u : ℕ) (o : Op T) → about n log ≡ Begin n u o ∷ [] → Among n (effects log) → ⊥
  no_effect n u o is h = go (subst (Among (Effect n)) is (about_effect log n h))
    where
      go : Among (Effect n) (Begin n u o ∷ []) → ⊥
      go (inl e) = let z : ◌≡◌ {A = ℕ} 0 1 = cc in omega arith
      go (inr i) = i

  by_row : (xs : List (ℕ × Answer T)) (r : Row) → told t log ≡ standing r → Backed value item log xs t r → Tells t log (standing r)
  by_row xs idle is backed = none_open is
  by_row xs (waiting op n) is (o, e, f, about_n) = (
    ((o, begun_about log n t o [] about_n), λ a. no_end n t o a about_n),
    λ j. only_waiting j n is,
    λ z. let y : ◌≡◌ {A = ℕ} 0 1 = cc in absurd (omega arith),
    λ h. absurd (no_effect n t o about_n h),
  )
  by_row xs (served op n a) is (o, e, about_n) = (
    ((o, begun_about log n t o (Effect n ∷ []) about_n), λ b. no_end_yet n t o b about_n),
    λ j. only j n is,
    λ z. effect_about log n t o [] about_n,
    λ h. refl,
  )

  pub tells : Tells t log (told t log)
  tells = subst (Tells t log) (sym (k.opens t)) (by_row _ (row_of m.rows t) (k.opens t) (k.backed t))
