-- In the log of a run each number begins one operation, and each end has an answer that a plain vector gave to it.
use Rattle.std.proofs.Common.{◌≡◌, ℕ, Bool, true, false, cond, eqb, List, [], ◌∷◌, sym, refl, ap, ◌∙◌, subst, inl, inr, arith}
use Rattle.std.proofs.lemmas.Bool.{eq-eqb, both_ways}
use Rattle.std.specs.List.{AllByRecursion}
use Rattle.vector.specs.Plain.{after}
use Rattle.vector.specs.declared.Op.{Op}
use Rattle.vector.specs.declared.Answer.{Answer}
use Rattle.stepping.specs.Log.{Among, begins, ends, number_of, about, Course, not_begun, waits, effective, ended}
use Rattle.stepping.specs.Runs.{plain_answers, capacity_of}
use Rattle.stepping.specs.declared.Record.{Record}
use Rattle.stepping.specs.declared.Record.TheVariants.{Begin, Effect, End}
use Rattle.script_laws.specs.Laws.{CanAnswer, RunsAreAnswered}

among_all : {X : Type 0} (P : X → Type 0) (xs : List X) (x : X) → AllByRecursion P xs → Among x xs → P x
among_all P [] x h m = absurd m
among_all P (y ∷ ys) x h (inl e) = subst P (sym e) h.0
among_all P (y ∷ ys) x h (inr m) = among_all P ys x h.1 m

module _ {T : Type 0} where
  begin_in : (log : List (Record T)) (n t : ℕ) (op : Op T) → Among (n, t, op) (begins log) → Among (Begin n t op) log
  begin_in [] n t op m = m
  begin_in (Begin k u oq ∷ rs) n t op (inl e) = inl (ap (λ (b : ℕ × ℕ × Op T). Begin b.0 b.1 b.2) e)
  begin_in (Begin k u oq ∷ rs) n t op (inr m) = inr (begin_in rs n t op m)
  begin_in (Effect k ∷ rs) n t op m = inr (begin_in rs n t op m)
  begin_in (End k a ∷ rs) n t op m = inr (begin_in rs n t op m)

  end_among : (log : List (Record T)) (n : ℕ) (a : Answer T) → Among (End n a) log → Among (n, a) (ends log)
  end_among [] n a m = m
  end_among (Begin k u oq ∷ rs) n a (inl e) = let z : ◌≡◌ {A = ℕ} 0 1 = cc in absurd (omega arith)
  end_among (Begin k u oq ∷ rs) n a (inr m) = end_among rs n a m
  end_among (Effect k ∷ rs) n a (inl e) = let z : ◌≡◌ {A = ℕ} 0 1 = cc in absurd (omega arith)
  end_among (Effect k ∷ rs) n a (inr m) = end_among rs n a m
  end_among (End k b ∷ rs) n a (inl e) = let p : n ≡ k = cc in let q : a ≡ b = cc in inl (λ i. (p i, q i))
  end_among (End k b ∷ rs) n a (inr m) = inr (end_among rs n a m)

  kept_if : (b : Bool) (r : Record T) (rs : List (Record T)) (x : Record T) → Among x rs → Among x (cond b (r ∷ rs) rs)
  kept_if true r rs x m = inr m
  kept_if false r rs x m = m

  here_if : (b : Bool) (r : Record T) (rs : List (Record T)) (x : Record T) → b ≡ true → x ≡ r → Among x (cond b (r ∷ rs) rs)
  here_if true r rs x t e = inl e
  here_if false r rs x t e = absurd (both_ways false refl t)

  about_begin : (log : List (Record T)) (n t : ℕ) (op : Op T) → Among (Begin n t op) log → Among (Begin n t op) (about n log)
  about_begin [] n t op m = m
  about_begin (r ∷ rs) n t op (inl e) = here_if (eqb (number_of r) n) r (about n rs) (Begin n t op) (eq-eqb _ n (ap number_of (sym e))) e
  about_begin (r ∷ rs) n t op (inr m) = kept_if (eqb (number_of r) n) r (about n rs) (Begin n t op) (about_begin rs n t op m)

  no_effect : (n t k : ℕ) (op : Op T) → Begin n t op ≡ Effect k → ⊥
  no_effect n t k op e = let z : ◌≡◌ {A = ℕ} 0 1 = cc in omega arith

  no_end : (n t k : ℕ) (op : Op T) (a : Answer T) → Begin n t op ≡ End k a → ⊥
  no_end n t k op a e = let z : ◌≡◌ {A = ℕ} 0 1 = cc in omega arith

  -- a course has one begin, at its beginning
  first_begin : (n t : ℕ) (op : Op T) (xs : List (Record T)) → Course n xs → Among (Begin n t op) xs → (rest : List (Record T)) × (xs ≡ Begin n t op ∷ rest)
  first_begin n t op [] not_begun m = absurd m
  first_begin n t op (x ∷ []) waits (inl e) = ([], ap (λ y. y ∷ []) (sym e))
  first_begin n t op (x ∷ []) waits (inr m) = absurd m
  first_begin n t op (x ∷ y ∷ []) effective (inl e) = (y ∷ [], ap (λ w. w ∷ y ∷ []) (sym e))
  first_begin n t op (x ∷ y ∷ []) effective (inr (inl e)) = absurd (no_effect n t n op e)
  first_begin n t op (x ∷ y ∷ []) effective (inr (inr m)) = absurd m
  first_begin n t op (x ∷ y ∷ z ∷ []) (ended {a = b}) (inl e) = (y ∷ z ∷ [], ap (λ w. w ∷ y ∷ z ∷ []) (sym e))
  first_begin n t op (x ∷ y ∷ z ∷ []) (ended {a = b}) (inr (inl e)) = absurd (no_effect n t n op e)
  first_begin n t op (x ∷ y ∷ z ∷ []) (ended {a = b}) (inr (inr (inl e))) = absurd (no_end n t n op b e)
  first_begin n t op (x ∷ y ∷ z ∷ []) (ended {a = b}) (inr (inr (inr m))) = absurd m
  first_begin n t op (x ∷ y ∷ z ∷ (w ∷ ws)) c m = elim c [ ]

  -- an answer of the plain vector is one to an operation with its number
  answered_op : (capacity : ℕ) (xs : List T) (ops : List (ℕ × Op T)) (n : ℕ) (a : Answer T) → Among (n, a) (plain_answers capacity xs ops) → (op : Op T) × Among (n, op) ops × CanAnswer op a
  answered_op capacity xs [] n a m = absurd m
  answered_op capacity xs ((k, op) ∷ ops) n a (inl e) = let p : n ≡ k = ap (λ (x : ℕ × Answer T). x.0) e in (op, inl (λ i. (p i, op)), (capacity, xs, ap (λ (x : ℕ × Answer T). x.1) e))
  answered_op capacity xs ((k, op) ∷ ops) n a (inr m) = let r = answered_op capacity (after capacity xs op) ops n a m in (r.0, inr r.1, r.2)

  pub runs_are_answered : RunsAreAnswered T
  runs_are_answered value bound calls log m law =
      let true_log = law.log_is_true in
      let plain = law.plainly_ordered in
      record {
        one_begin = λ n t u op oq h k.
            let p = first_begin n t op (about n log) (true_log.courses n) (about_begin log n t op h) in
            let q = first_begin n u oq (about n log) (true_log.courses n) (about_begin log n u oq k) in
            let e : Begin n t op ∷ p.0 ≡ Begin n u oq ∷ q.0 = sym p.1 ∙ q.1 in
            cc;
        ends = λ n a h.
            let r = answered_op (capacity_of calls) [] plain.ops n a (among_all _ (ends log) (n, a) plain.answered (end_among log n a h)) in
            let b = among_all _ plain.ops (n, r.0) plain.in_order.begun r.1 in
            (b.0, r.0, begin_in log n b.0 r.0 b.1, r.2);
      }
