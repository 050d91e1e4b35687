-- What a log keeps true of what the container means, one record after the other: each record extends the course of one number, and
-- what the log says of the other numbers and threads stands.
use Rattle.std.proofs.Common.{◌≡◌, ℕ, suc, ◌-◌, ◌<◌, ◌≤◌, Bool, true, false, cond, eqb, ◌≢◌, ◌⊎◌, List, [], ◌∷◌, ◌++◌, map, length, set, Some, None, Ok, Option, sym, refl, ap, ◌∙◌, subst, inl, inr, arith, eq-eqb, ne_eqb}
use Rattle.std.specs.List.{AllByRecursion}
use Rattle.std.proofs.lemmas.List.{append-nil, append_assoc, map_push}
use Rattle.std.proofs.ByRecursion.{All-push, All-weaker}
use Rattle.std.proofs.lemmas.Bool.{cases_eq}
use Rattle.vector.specs.Plain.{answer, after, map_op, map_answer}
use Rattle.vector.specs.Meaning.{Row, idle, waiting, served, Meaning, row_of, is_open}
use Rattle.vector.specs.Calls.{begun, taken, over, Takes, Ends, Moves}
use Rattle.vector.specs.declared.Op.{Op}
use Rattle.vector.specs.declared.Answer.{Answer}
use Rattle.vector.specs.declared.Ended.{Ended}
use Rattle.vector.specs.declared.Stepped.{Stepped}
use Rattle.vector.proofs.Natural.{after_map, answer_map, answer_back, after_back, Back}
use Rattle.vector.proofs.Rows.{open_within, at_threads}
use Rattle.stepping.specs.Bench.{typed_end, typed}
use Rattle.stepping.specs.Log.{effect_record, end_record, step_records, number_of, about, told, marked, closed, Among, begins, effects, ends, begin_of, effect_of, end_of, Course, not_begun, waits, effective, ended}
use Rattle.stepping.specs.Runs.{plain_answers, plain_items, InOrderOfEffect}
use Rattle.stepping.specs.declared.Open.{Open}
use Rattle.stepping.specs.declared.Record.{Record}
use Rattle.stepping.specs.declared.Record.TheVariants.{Begin, Effect, End}
use Rattle.stepping.proofs.Logs.{among_left, among_last, among_push, joined_push, about_same, about_other, told_push, answers_push, items_push, begun_about}

-- a row as the log tells of it
abbrev pub standing : Row → Option Open
standing idle = None
standing (waiting op n) = Some (record { number = n; effect = false })
standing (served op n a) = Some (record { number = n; effect = true })

-- the number that a thread is told
abbrev pub number_told : Option Open → Option ℕ
number_told None = None
number_told (Some o) = Some o.number

number_marked : (n : ℕ) (o : Option Open) → number_told (marked n o) ≡ number_told o
number_marked n None = refl
number_marked n (Some o) = go (eqb o.number n)
  where
    go : (b : Bool) → number_told (cond b (Some (record { number = o.number; effect = true })) (Some o)) ≡ Some o.number
    go true = refl
    go false = refl

module _ {T : Type 0} where
  -- a begun operation has ended, or it is what its thread is told
  abbrev pub Accounted : List (Record T) → Type 0
  Accounted log = (n t : ℕ) (o : Op T) → Among (n, t, o) (begins log) → ((a : Answer T) × Among (n, a) (ends log)) ⊎ (number_told (told t log) ≡ Some n)

  begin_accounted : (log : List (Record T)) (n t : ℕ) (o : Op T) → Accounted log → told t log ≡ None → Accounted (log ++ Begin n t o ∷ [])
  begin_accounted log n t o all none j u q h =
      elim (among_push (begins log) (j, u, q) (n, t, o) (subst (Among (j, u, q)) (joined_push begin_of log (Begin n t o)) h)) [
        | inl old ↦ elim (all j u q old) [
          | inl (a, i) ↦ inl (a, subst (Among (j, a)) (sym (joined_push end_of log (Begin n t o) ∙ append-nil (ends log))) i)
          | inr tells ↦ inr (ap number_told (told_push u log (Begin n t o)) ∙ rw (ne_eqb t u (λ (e : t ≡ u). other u j (sym e) tells)) tells)
        ]
        | inr e ↦
            let here : t ≡ u = sym (ap (λ x. x.1) e) in
            let named : n ≡ j = sym (ap (λ x. x.0) e) in
            inr (ap number_told (told_push u log (Begin n t o)) ∙ rw (eq-eqb t u here) (ap Some named))
      ]
    where
      other : (u j : ℕ) → u ≡ t → number_told (told u log) ≡ Some j → ⊥
      other u j e tells =
          let none_of : number_told (told u log) ≡ None = ap (λ x. number_told (told x log)) e ∙ ap number_told none in
          let z : ◌≡◌ {A = ℕ} 0 1 = cc in omega arith

  effect_accounted : (log : List (Record T)) (n : ℕ) → Accounted log → Accounted (log ++ Effect n ∷ [])
  effect_accounted log n all j u q h =
      elim (all j u q (subst (Among (j, u, q)) (joined_push begin_of log (Effect n) ∙ append-nil (begins log)) h)) [
        | inl (a, i) ↦ inl (a, subst (Among (j, a)) (sym (joined_push end_of log (Effect n) ∙ append-nil (ends log))) i)
        | inr tells ↦ inr (ap number_told (told_push u log (Effect n)) ∙ number_marked n (told u log) ∙ tells)
      ]

  end_accounted : (log : List (Record T)) (n t : ℕ) (a : Answer T) → Accounted log → number_told (told t log) ≡ Some n → ((u : ℕ) → u ≢ t → closed n (told u log) ≡ told u log) → Accounted (log ++ End n a ∷ [])
  end_accounted log n t a all own others j u q h =
      let more : ends (log ++ End n a ∷ []) ≡ ends log ++ (n, a) ∷ [] = joined_push end_of log (End n a) in
      elim (all j u q (subst (Among (j, u, q)) (joined_push begin_of log (End n a) ∙ append-nil (begins log)) h)) [
        | inl (b, i) ↦ inl (b, subst (Among (j, b)) (sym more) (among_left (j, b) (ends log) ((n, a) ∷ []) i))
        | inr tells ↦ elim (cases_eq u t) [
          | inl e ↦
              let tells_t : number_told (told t log) ≡ Some j = subst (λ (x : ℕ). number_told (told x log) ≡ Some j) e tells in
              let same : n ≡ j = cc in
              inl (a, subst (λ (x : ℕ). Among (x, a) (ends (log ++ End n a ∷ []))) same (subst (Among (n, a)) (sym more) (among_last (ends log) (n, a))))
          | inr ne ↦ inr (ap number_told (told_push u log (End n a) ∙ others u ne) ∙ tells)
        ]
      ]

  -- what holds of the records of every operation, one record later
  by_number : (P : ℕ → List (Record T) → Type 0) (log : List (Record T)) (r : Record T) → P (number_of r) (about (number_of r) log ++ r ∷ []) → ((n : ℕ) → n ≢ number_of r → P n (about n log)) → (n : ℕ) → P n (about n (log ++ r ∷ []))
  by_number P log r here there n =
      elim (cases_eq n (number_of r)) [
        | inl e ↦ subst (λ (x : ℕ). P x (about x (log ++ r ∷ []))) (sym e) (subst (P (number_of r)) (sym (about_same log r)) here)
        | inr apart ↦ subst (P n) (sym (about_other log r n (λ e. apart (sym e)))) (there n apart)
      ]

  module _ (value : T → ℕ) (item : ℕ → T) where
    -- what the log has behind the row of thread t
    abbrev pub Backed : List (Record T) → List (ℕ × Answer T) → ℕ → Row → Type 0
    Backed log answers t idle = Unit {0}
    Backed log answers t (waiting op n) = (o : Op T) × (op ≡ map_op value o) × (map_op item (map_op value o) ≡ o) × (about n log ≡ Begin n t o ∷ [])
    Backed log answers t (served op n a) = (o : Op T) × Among (n, map_answer item a) answers × (about n log ≡ Begin n t o ∷ Effect n ∷ [])

    pub record Kept (log : List (Record T)) (m : Meaning) : Type 0 where
      pub ops : List (ℕ × Op T)
      pub in_order : InOrderOfEffect log ops
      pub answered : AllByRecursion (λ e. Among e (plain_answers m.capacity [] ops)) (ends log)
      pub come_back : AllByRecursion (Back value item) (plain_items m.capacity [] ops)
      pub items_meant : map value (plain_items m.capacity [] ops) ≡ m.items
      pub later : (n : ℕ) → m.given < n → about n log ≡ []
      pub backed : (t : ℕ) → Backed log (plain_answers m.capacity [] ops) t (row_of m.rows t)
      pub courses : (n : ℕ) → Course n (about n log)
      pub opens : (t : ℕ) → told t log ≡ standing (row_of m.rows t)
      pub accounted : Accounted log

    -- a row stays backed under a record of another operation
    backed_on : (log : List (Record T)) (r : Record T) (xs ys : List (ℕ × Answer T)) (u : ℕ) (row : Row)
        → ((n : ℕ) (o : Op T) (rest : List (Record T)) → about n log ≡ Begin n u o ∷ rest → number_of r ≢ n)
        → Backed log xs u row → Backed (log ++ r ∷ []) (xs ++ ys) u row
    backed_on log r xs ys u idle apart h = tt
    backed_on log r xs ys u (waiting op n) apart (o, e, f, h) = (o, e, f, about_other log r n (apart n o [] h) ∙ h)
    backed_on log r xs ys u (served op n a) apart (o, e, h) = (o, among_left (n, map_answer item a) xs ys e, about_other log r n (apart n o (Effect n ∷ []) h) ∙ h)

    -- and its thread is told of as before
    standing_on : (log : List (Record T)) (xs : List (ℕ × Answer T)) (n : ℕ) (u : ℕ) (row : Row)
        → ((j : ℕ) (o : Op T) (rest : List (Record T)) → about j log ≡ Begin j u o ∷ rest → n ≢ j)
        → Backed log xs u row → (marked n (standing row) ≡ standing row) × (closed n (standing row) ≡ standing row)
    standing_on log xs n u idle apart h = (refl, refl)
    standing_on log xs n u (waiting op j) apart (o, e, f, h) =
        let ne : eqb j n ≡ false = ne_eqb j n (λ e. apart j o [] h (sym e)) in (rw ne, rw ne)
    standing_on log xs n u (served op j a) apart (o, e, h) =
        let ne : eqb j n ≡ false = ne_eqb j n (λ e. apart j o (Effect j ∷ []) h (sym e)) in (rw ne, rw ne)

    pub begin_keeps : (log : List (Record T)) (m : Meaning) (t : ℕ) (o : Op T) → Kept log m → 1 ≤ t → t ≤ length m.rows → row_of m.rows t ≡ idle → map_op item (map_op value o) ≡ o → Kept (log ++ Begin (suc m.given) t o ∷ []) (begun m t (map_op value o))
    begin_keeps log m t o k low high free back =
        let n : ℕ = suc m.given in
        let r : Record T = Begin n t o in
        let xs : List (ℕ × Answer T) = plain_answers m.capacity [] k.ops in
        let fresh : about n log ≡ [] = k.later n (omega arith) in
        let here : about n (log ++ r ∷ []) ≡ r ∷ [] = about_same log r ∙ ap (λ l. l ++ r ∷ []) fresh in
        let apart : (u : ℕ) (j : ℕ) (q : Op T) (rest : List (Record T)) → about j log ≡ Begin j u q ∷ rest → n ≢ j =
        λ u j q rest h e. let g : about j log ≡ [] = subst (λ (i : ℕ). about i log ≡ []) e fresh in let z : ◌≡◌ {A = ℕ} 0 1 = cc in omega arith in
        let new : Row = waiting (map_op value o) n in
        record {
          ops = k.ops;
          in_order = record {
            by_effect = k.in_order.by_effect ∙ sym (joined_push effect_of log r ∙ append-nil (effects log));
            begun = All-weaker _ _ (λ q h. (h.0, subst (Among (q.0, h.0, q.1)) (sym (joined_push begin_of log r)) (among_left (q.0, h.0, q.1) (begins log) ((n, t, o) ∷ []) h.1))) k.ops k.in_order.begun;
          };
          answered = subst (AllByRecursion (λ e. Among e xs)) (sym (joined_push end_of log r ∙ append-nil (ends log))) k.answered;
          come_back = k.come_back;
          items_meant = k.items_meant;
          later = λ j h. about_other log r j (omega arith) ∙ k.later j (omega arith);
          backed = at_threads (λ u row. Backed (log ++ r ∷ []) xs u row) m.rows t new low high
              (o, refl, back, here)
              (λ u ne. subst (λ (l : List (ℕ × Answer T)). Backed (log ++ r ∷ []) l u (row_of m.rows u)) (append-nil xs) (backed_on log r xs [] u (row_of m.rows u) (apart u) (k.backed u)));
          courses = by_number Course log r (subst (Course n) (sym (ap (λ l. l ++ r ∷ []) fresh)) waits) (λ j ne. k.courses j);
          opens = at_threads (λ u row. told u (log ++ r ∷ []) ≡ standing row) m.rows t new low high
              (told_push t log r ∙ rw (eq-eqb t t refl))
              (λ u ne. told_push u log r ∙ rw (ne_eqb t u (λ e. ne (sym e))) (k.opens u));
          accounted = begin_accounted log n t o k.accounted (k.opens t ∙ ap standing free);
        }

    -- a row that is open is backed by a begin of its own thread, so no other thread has its number
    others : (log : List (Record T)) (n t u : ℕ) (o : Op T) (rest : List (Record T)) → about n log ≡ Begin n t o ∷ rest → u ≢ t
        → (j : ℕ) (q : Op T) (tail : List (Record T)) → about j log ≡ Begin j u q ∷ tail → n ≢ j
    others log n t u o rest h apart j q tail g e =
        let f : about j log ≡ Begin n t o ∷ rest = subst (λ (i : ℕ). about i log ≡ Begin n t o ∷ rest) e h in
        apart (cc)

    effect_keeps : (log : List (Record T)) (m : Meaning) (t : ℕ) (op : Op ℕ) (n : ℕ) → Kept log m → row_of m.rows t ≡ waiting op n → Kept (log ++ Effect n ∷ []) (taken m t op n)
    effect_keeps log m t op n k row =
        let r : Record T = Effect n in
        let c : ℕ = m.capacity in
        let xs : List (ℕ × Answer T) = plain_answers c [] k.ops in
        let held : List T = plain_items c [] k.ops in
        let b : Backed log xs t (waiting op n) = subst (Backed log xs t) row (k.backed t) in
        let o : Op T = b.0 in
        let was : about n log ≡ Begin n t o ∷ [] = b.3 in
        let in' = open_within m.rows t (ap is_open row) in
        let ys : List (ℕ × Answer T) = (n, answer c held o) ∷ [] in
        let more : plain_answers c [] (k.ops ++ (n, o) ∷ []) ≡ xs ++ ys = answers_push c [] k.ops n o in
        let given : answer c m.items op ≡ map_answer value (answer c held o) =
        ap (λ l. answer c l op) (sym k.items_meant) ∙ ap (answer c (map value held)) b.1 ∙ answer_map value c held o in
        let typed : map_answer item (answer c m.items op) ≡ answer c held o =
        ap (map_answer item) given ∙ answer_back value item c held o k.come_back in
        let new : Row = served op n (answer c m.items op) in
        let apart : (u : ℕ) → u ≢ t → (j : ℕ) (q : Op T) (tail : List (Record T)) → about j log ≡ Begin j u q ∷ tail → n ≢ j = λ u ne. others log n t u o [] was ne in
        let here : about n (log ++ r ∷ []) ≡ Begin n t o ∷ Effect n ∷ [] = about_same log r ∙ ap (λ l. l ++ r ∷ []) was in
        record {
          ops = k.ops ++ (n, o) ∷ [];
          in_order = record {
            by_effect = map_push (λ q. q.0) k.ops (n, o) ∙ ap (λ l. l ++ n ∷ []) k.in_order.by_effect ∙ sym (joined_push effect_of log r);
            begun = subst (λ (l : List (ℕ × ℕ × Op T)). AllByRecursion (λ q. (u : ℕ) × Among (q.0, u, q.1) l) (k.ops ++ (n, o) ∷ [])) (sym (joined_push begin_of log r ∙ append-nil (begins log)))
                (All-push _ k.ops (n, o) k.in_order.begun (t, begun_about log n t o [] was));
          };
          answered = subst (AllByRecursion (λ e. Among e (plain_answers c [] (k.ops ++ (n, o) ∷ [])))) (sym (joined_push end_of log r ∙ append-nil (ends log)))
              (All-weaker _ _ (λ e h. subst (Among e) (sym more) (among_left e xs ys h)) (ends log) k.answered);
          come_back = subst (AllByRecursion (Back value item)) (sym (items_push c [] k.ops n o)) (after_back value item c held o b.2 k.come_back);
          items_meant = ap (map value) (items_push c [] k.ops n o) ∙ sym (after_map value c held o) ∙ ap (λ l. after c l (map_op value o)) k.items_meant ∙ ap (after c m.items) (sym b.1);
          later = λ j h. about_other log r j (λ e. let g : about n log ≡ [] = k.later n (omega (arith, e)) in let z : ◌≡◌ {A = ℕ} 0 1 = cc in omega arith) ∙ k.later j h;
          backed = subst (λ (l : List (ℕ × Answer T)). (u : ℕ) → Backed (log ++ r ∷ []) l u (row_of (set m.rows (t - 1) new) u)) (sym more)
              (at_threads (λ u row. Backed (log ++ r ∷ []) (xs ++ ys) u row) m.rows t new in'.0 in'.1
              (o, subst (λ (a : Answer T). Among (n, a) (xs ++ ys)) (sym typed) (among_last xs (n, answer c held o)), here)
              (λ u ne. backed_on log r xs ys u (row_of m.rows u) (apart u ne) (k.backed u)));
          courses = by_number Course log r (subst (Course n) (sym (ap (λ l. l ++ r ∷ []) was)) effective) (λ j ne. k.courses j);
          opens = at_threads (λ u row. told u (log ++ r ∷ []) ≡ standing row) m.rows t new in'.0 in'.1
              (told_push t log r ∙ ap (marked n) (k.opens t ∙ ap standing row) ∙ rw (eq-eqb n n refl))
              (λ u ne. told_push u log r ∙ ap (marked n) (k.opens u) ∙ (standing_on log xs n u (row_of m.rows u) (apart u ne) (k.backed u)).0);
          accounted = effect_accounted log n k.accounted;
        }

    end_keeps : (log : List (Record T)) (m : Meaning) (t : ℕ) (op : Op ℕ) (n : ℕ) (a : Answer ℕ) → Kept log m → row_of m.rows t ≡ served op n a → Kept (log ++ End n (map_answer item a) ∷ []) (over m t)
    end_keeps log m t op n a k row =
        let r : Record T = End n (map_answer item a) in
        let xs : List (ℕ × Answer T) = plain_answers m.capacity [] k.ops in
        let b : Backed log xs t (served op n a) = subst (Backed log xs t) row (k.backed t) in
        let o : Op T = b.0 in
        let was : about n log ≡ Begin n t o ∷ Effect n ∷ [] = b.2 in
        let in' = open_within m.rows t (ap is_open row) in
        let apart : (u : ℕ) → u ≢ t → (j : ℕ) (q : Op T) (tail : List (Record T)) → about j log ≡ Begin j u q ∷ tail → n ≢ j = λ u ne. others log n t u o (Effect n ∷ []) was ne in
        let stays : (u : ℕ) → u ≢ t → closed n (told u log) ≡ told u log =
        λ u ne. ap (closed n) (k.opens u) ∙ (standing_on log xs n u (row_of m.rows u) (apart u ne) (k.backed u)).1 ∙ sym (k.opens u) in
        record {
          ops = k.ops;
          in_order = record {
            by_effect = k.in_order.by_effect ∙ sym (joined_push effect_of log r ∙ append-nil (effects log));
            begun = subst (λ (l : List (ℕ × ℕ × Op T)). AllByRecursion (λ q. (u : ℕ) × Among (q.0, u, q.1) l) k.ops) (sym (joined_push begin_of log r ∙ append-nil (begins log))) k.in_order.begun;
          };
          answered = subst (AllByRecursion (λ e. Among e xs)) (sym (joined_push end_of log r)) (All-push _ (ends log) (n, map_answer item a) k.answered b.1);
          come_back = k.come_back;
          items_meant = k.items_meant;
          later = λ j h. about_other log r j (λ e. let g : about n log ≡ [] = k.later n (omega (arith, e)) in let z : ◌≡◌ {A = ℕ} 0 1 = cc in omega arith) ∙ k.later j h;
          backed = at_threads (λ u row. Backed (log ++ r ∷ []) xs u row) m.rows t idle in'.0 in'.1 tt
              (λ u ne. subst (λ (l : List (ℕ × Answer T)). Backed (log ++ r ∷ []) l u (row_of m.rows u)) (append-nil xs) (backed_on log r xs [] u (row_of m.rows u) (apart u ne) (k.backed u)));
          courses = by_number Course log r (subst (Course n) (sym (ap (λ l. l ++ r ∷ []) was)) ended) (λ j ne. k.courses j);
          opens = at_threads (λ u row. told u (log ++ r ∷ []) ≡ standing row) m.rows t idle in'.0 in'.1
              (told_push t log r ∙ ap (closed n) (k.opens t ∙ ap standing row) ∙ rw (eq-eqb n n refl))
              (λ u ne. told_push u log r ∙ stays u ne ∙ k.opens u);
          accounted = end_accounted log n t (map_answer item a) k.accounted (ap number_told (k.opens t ∙ ap standing row)) stays;
        }

    -- nothing begun yet
    pub empty_keeps : (m : Meaning) → m.items ≡ [] → ((t : ℕ) → row_of m.rows t ≡ idle) → Kept [] m
    empty_keeps m none all = record {
      ops = [];
      in_order = record { by_effect = refl; begun = tt };
      answered = tt;
      come_back = tt;
      items_meant = sym none;
      later = λ n h. refl;
      backed = λ t. subst (Backed [] [] t) (sym (all t)) tt;
      courses = λ n. not_begun;
      opens = λ t. ap standing (sym (all t));
      accounted = λ n t o h. absurd h;
    }

    takes_keeps : (log : List (Record T)) (m b : Meaning) (e : Option ℕ) → Takes m e b → Kept log m → Kept (log ++ effect_record e) b
    takes_keeps log m b None same k = subst (λ (l : List (Record T)). Kept l b) (sym (append-nil log)) (subst (Kept log) (sym same) k)
    takes_keeps log m b (Some n) (t, op, row, same) k = subst (Kept (log ++ Effect n ∷ [])) (sym same) (effect_keeps log m t op n k row)

    ends_keeps : (log : List (Record T)) (m b : Meaning) (t : ℕ) (e : Option (Ended ℕ)) → Ends m t e b → Kept log m → Kept (log ++ end_record (typed_end item e)) b
    ends_keeps log m b t None same k = subst (λ (l : List (Record T)). Kept l b) (sym (append-nil log)) (subst (Kept log) (sym same) k)
    ends_keeps log m b t (Some e) (op, row, same) k = subst (Kept (log ++ End e.number (map_answer item e.answer) ∷ [])) (sym same) (end_keeps log m t op e.number e.answer k row)

    pub step_keeps : (log : List (Record T)) (m b : Meaning) (t : ℕ) (y : Stepped ℕ) → Moves m t y b → Kept log m → Kept (log ++ step_records (Ok (typed item y))) b
    step_keeps log m b t y (mid, takes, ends') k =
        subst (λ (l : List (Record T)). Kept l b) (append_assoc log (effect_record y.effect) (end_record (typed_end item y.end)))
        (ends_keeps (log ++ effect_record y.effect) mid b t y.end ends' (takes_keeps log m mid y.effect takes k))
