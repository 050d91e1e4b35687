-- The steps at L1, L2, L3, P1 and L4: look at the current operation, choose, answer or install.
use Rattle.std.proofs.Common.{◌≡◌, ℕ, zero, suc, Bool, true, false, cond, eqb, ltb, ◌⊎◌, List, [], ◌∷◌, length, sym, refl, ◌∙◌, inl, inr, arith, Some, None, Option, is_some}
use Rattle.std.proofs.lemmas.Bool.{cases_Bool, eqb-true, ltb-true, ltb-false, le-ltb}
use Rattle.vector.specs.Plain.{popped, after_pop}
use Rattle.vector.specs.declared.Answer.{Answer}
use Rattle.vector.specs.declared.Answer.TheVariants.{Full, Empty}
use Rattle.vector.specs.declared.Op.{Op}
use Rattle.vector.specs.declared.Op.TheVariants.{Push, Pop, Read, Write, Size}
use Rattle.linearization.specs.Invariant.{Facts}
use Rattle.linearization.specs.Knowledge.{Puts, Final, Settled, op_of, from_L1, Verdict, Ready, Helping, Knows, Thread}
use Rattle.descriptor_steps.specs.Machine.{quiet, serving, choose, help, on_L1, on_L2, on_P1, act}
use Rattle.linearization.specs.Meaning.{size_now, items}
use Rattle.descriptor_steps.specs.Shared.{Cell, empty, plain, frozen, Status, pending, done, final, Shared, install, is_final, size_after}
use Rattle.linearization.specs.Names.{Then, own, to_L1, L1, L2, L3, P1, L4, goto, end, Plan, pushing, popping}
use Rattle.linearization.proofs.Consequences.{Plainly, is_current, settled_size}
use Rattle.linearization.proofs.Install.{install_facts, install_follows, install_same}
use Rattle.linearization.proofs.Outcomes.{Outcome, moves, unput_new, Free, free_from, free_thread, stay, says, free_after}
use Rattle.linearization.proofs.Stable.{pop_planned}
use Rattle.linearization.proofs.Tests.{no_way, upd_same}
use Rattle.linearization.proofs.Values.{values_length}

module _ {s : Shared} {put : Puts} (g : Facts s put) (n : ℕ) where
  -- choose, over a settled operation
  pub choose_ok : (op : Op ℕ) (c m : ℕ) → s.plan n ≡ None → from_L1 op ≡ true → Settled s c → m ≡ size_after (s.plan c) → Knows s put n op (choose s.cap c m op)
  choose_ok (Push x) c m u o t e = go (ltb m s.cap) refl
    where
      go : (b : Bool) → ltb m s.cap ≡ b → Knows s put n (Push x) (cond b (P1 c m x) (L3 c Full))
      go true h = (u, o, t, refl, e, ltb-true m s.cap h)
      go false h = (u, o, t, (let k = ltb-false m s.cap h in omega arith, refl))
  choose_ok Pop c zero u o t e = (u, o, t, (sym e, refl))
  choose_ok Pop c (suc m) u o t e = (u, o, t, (refl, e))
  choose_ok Size c m u o t e = (u, o, t, cc)
  choose_ok (Read i) c m u o t e = no_way (sym o)
  choose_ok (Write i x) c m u o t e = no_way (sym o)

  -- to help c, which is not final
  pub help_ok : (op : Op ℕ) (c : ℕ) (r : Then) → Free s put n → Helping s n op c r → (p : Option Plan) → s.plan c ≡ p → is_some p ≡ true → is_final (s.status c) ≡ false → Knows s put n op (help c p r)
  help_ok op c r f b None e h u = no_way (sym h)
  help_ok op c r f b (Some (pushing p x d)) e h u = (b, cc)
  help_ok op c r f b (Some (popping p)) e h u = (b, cc, elim (f c) [ inl z ↦ z | inr z ↦ no_way (cc) ])

  pub at_L1 : (op : Op ℕ) → Thread s put n op L1 → Outcome s put n op (act s n op L1)
  at_L1 op l = go s.cur refl
    where
      go : (k : ℕ) → s.cur ≡ k → Outcome s put n op (quiet s (goto (on_L1 s op k)))
      go zero e = stay g L1 l (inl refl) (choose s.cap 0 0 op) (choose_ok op 0 0 l.here.0 l.here.1 (inl refl) (let z = g.zero_unplanned in cc))
      go (suc k) e = stay g L1 l (inl refl) (L2 (suc k)) (l.here.0, l.here.1, planned (s.plan (suc k)) refl)
        where
          planned : (p : Option Plan) → s.plan (suc k) ≡ p → is_some (s.plan (suc k)) ≡ true
          planned None q = let z = g.current_planned (cc) in absurd (omega arith)
          planned (Some p) q = cc

  pub at_L2 : (op : Op ℕ) (c : ℕ) → Thread s put n op (L2 c) → Outcome s put n op (act s n op (L2 c))
  at_L2 op c l = go (s.status c) refl
    where
      fr : Free s put n
      fr = free_from g (L2 c) l (inl refl)

      go : (v : Status) → s.status c ≡ v → Outcome s put n op (quiet s (goto (on_L2 s op c v)))
      go pending e = stay g (L2 c) l (inl refl) (help c (s.plan c) to_L1) (help_ok op c to_L1 fr (l.here.0, l.here.1) (s.plan c) refl l.here.2 (cc))
      go (done a) e = stay g (L2 c) l (inl refl) (help c (s.plan c) to_L1) (help_ok op c to_L1 fr (l.here.0, l.here.1) (s.plan c) refl l.here.2 (cc))
      go (final a) e = stay g (L2 c) l (inl refl) (choose s.cap c (size_after (s.plan c)) op) (choose_ok op c (size_after (s.plan c)) l.here.0 l.here.1 (inr (cc)) refl)

  pub at_L3 : (op : Op ℕ) (c : ℕ) (a : Answer ℕ) → Thread s put n op (L3 c a) → Outcome s put n op (act s n op (L3 c a))
  at_L3 op c a l = go (eqb s.cur c) refl
    where
      settled : s.cur ≡ c → Settled s s.cur
      settled e = elim l.here.2 [ inl x ↦ inl (e ∙ x) | inr x ↦ inr (cc) ]

      nothing : (xs : List ℕ) → length xs ≡ 0 → a ≡ Empty → (popped xs ≡ a) × (after_pop xs ≡ xs)
      nothing [] z v = (sym v, refl)
      nothing (x ∷ xs) z v = absurd (omega arith)

      verdict : s.cur ≡ c → (o : Op ℕ) → Verdict o (size_after (s.plan c)) s.cap a → Plainly s o s a
      verdict e (Push x) v =
          let z = (settled_size g (settled e)).0 in
          let y = values_length s.cell (size_now s) in
          let q : size_after (s.plan s.cur) ≡ size_after (s.plan c) = cc in
          let h = le-ltb (length (items s)) s.cap (omega arith) in
          (cc, cc)
      verdict e Pop v =
          let z = (settled_size g (settled e)).0 in
          let y = values_length s.cell (size_now s) in
          let q : length (items s) ≡ 0 = cc in
          nothing (items s) q v.1
      verdict e Size v =
          let z = (settled_size g (settled e)).0 in
          let y = values_length s.cell (size_now s) in
          let q : length (items s) ≡ size_after (s.plan c) = cc in
          (cc, refl)
      verdict e (Read i) v = absurd v
      verdict e (Write i x) v = absurd v

      go : (b : Bool) → eqb s.cur c ≡ b → Outcome s put n op (cond b (serving s n (end a)) (quiet s (goto L1)))
      go true h = says g a l.here.0 (verdict (eqb-true s.cur c h) op l.here.3)
      go false h = stay g (L3 c a) l (inl refl) L1 (l.here.0, l.here.1)

  pub at_P1 : (op : Op ℕ) (c m x : ℕ) → Thread s put n op (P1 c m x) → Outcome s put n op (act s n op (P1 c m x))
  at_P1 op c m x l = go (s.cell m) refl
    where
      settled_e : (e : ℕ) → s.cell m ≡ empty e → s.cur ≡ c → (e ≡ 0) ⊎ Final s e
      settled_e e h q =
          elim (g.empty_by m e h) [
            | inl y ↦ inl y
            | inr y ↦ elim (cases_Bool (is_final (s.status e))) [
              | inl z ↦ inr z
              | inr z ↦ let k = is_current g e (pop_planned (s.plan e) y.0) z in
                  elim l.here.2 [ inl w ↦ inl (k ∙ q ∙ w) | inr w ↦ no_way (cc) ]
            ]
          ]

      go : (w : Cell) → s.cell m ≡ w → Outcome s put n op (quiet s (goto (on_P1 c m x w)))
      go (empty e) h = stay g (P1 c m x) l (inl refl) (L4 c (pushing m x e)) (l.here.0, l.here.1, l.here.2, (l.here.3, l.here.4, l.here.5, λ q. (h, settled_e e h q)))
      go (plain a) h = stay g (P1 c m x) l (inl refl) L1 (l.here.0, l.here.1)
      go (frozen a k j) h = stay g (P1 c m x) l (inl refl) L1 (l.here.0, l.here.1)

  pub at_L4 : (op : Op ℕ) (c : ℕ) (p : Plan) → Thread s put n op (L4 c p) → Outcome s put n op (act s n op (L4 c p))
  at_L4 op c p l = go (eqb s.cur c) refl
    where
      fits : (p : Plan) → Ready s c p op → op ≡ op_of (Some p)
      fits (pushing m x e) r = r.0
      fits (popping m) r = r.0

      next : (q : Plan) → p ≡ q → Knows (install s n p) put n op (help n (Some q) own)
      next (pushing m x d) e =
          let z = fits p l.here.3 in
          let y = upd_same s.plan n (Some p) in
          ((refl, cc, cc), cc)
      next (popping m) e =
          let z = fits p l.here.3 in
          let y = upd_same s.plan n (Some p) in
          ((refl, cc, cc), cc, unput_new g n n l.here.0)

      go : (b : Bool) → eqb s.cur c ≡ b → Outcome s put n op (cond b (quiet (install s n p) (goto (help n (Some p) own))) (quiet s (goto L1)))
      go true h =
          let e = eqb-true s.cur c h in
          let gl = install_facts g n c p op l.number l.here.0 e l.here.2 l.here.3 in
          let fo = install_follows g n c p op l.number l.here.0 e l.here.2 l.here.3 in
          let sa = install_same g n c p op l.number l.here.0 e l.here.2 l.here.3 in
          moves (record { facts = gl; follows = fo }) sa (free_thread gl l.number (free_after fo (free_from g (L4 c p) l (inl refl))) (help n (Some p) own) (next p refl))
      go false h = stay g (L4 c p) l (inl refl) L1 (l.here.0, l.here.1)
