-- A thread alone ends in time: while it stays open each of its steps takes one of the steps left, of which there are never more than
-- the bound; so a thread that made as many steps has been seen without an open operation.
use Rattle.std.proofs.Common.{◌≡◌, ℕ, ◌+◌, ◌<◌, ◌≤◌, true, false, ◌≢◌, ◌⊎◌, List, [], ◌∷◌, ◌++◌, length, is_some, Some, None, Ok, Err, Option, sym, refl, ap, ◌∙◌, subst, inl, inr, arith, eq-eqb}
use Rattle.std.proofs.lemmas.List.{append-nil, append_assoc}
use Rattle.std.proofs.lemmas.Grind.{flat_map-append}
use Rattle.std.proofs.lemmas.Bool.{cases_eq}
use Rattle.items.specs.declared.Kind.{Ghosts as Kind}
use Rattle.vector.specs.Plain.{map_op}
use Rattle.vector.specs.Meaning.{Row, idle, waiting, served, Shown, Lawful, Alone, unset, row_of, is_open}
use Rattle.vector.specs.declared.container.Container.{Ghosts as Container}
use Rattle.vector.proofs.Rows.{open_within, row_set_same}
use Rattle.stepping.specs.Log.{records, recorded, told, IdleIn, Tells}
use Rattle.stepping.specs.History.{Does, Performed}
use Rattle.stepping.specs.Runs.{is_step, steps_of, EndsInTime}
use Rattle.stepping.specs.declared.Open.{Open}
use Rattle.stepping.specs.declared.Record.{Record}
use Rattle.stepping.specs.declared.Event.{Event}
use Rattle.stepping.specs.declared.Event.TheVariants.{SetUp as SetUpCall, Begin as BeginCall, Step as StepCall, Look as LookCall}
use Rattle.stepping.proofs.Logs.{joined_push}
use Rattle.stepping.proofs.Passes.{set_up_passes, begin_passes, step_passes}
use Rattle.stepping.proofs.Kept.{standing}
use Rattle.stepping.proofs.Law.{Held, onward, after_run, parted, at_first, tells_then}

some_standing : (r : Row) → is_some (standing r) ≡ is_open r
some_standing idle = refl
some_standing (waiting op n) = refl
some_standing (served op n a) = refl

none_standing : (r : Row) → standing r ≡ None → r ≡ idle
none_standing idle e = refl
none_standing (waiting op n) e = let z : ◌≡◌ {A = ℕ} 0 1 = cc in absurd (omega arith)
none_standing (served op n a) e = let z : ◌≡◌ {A = ℕ} 0 1 = cc in absurd (omega arith)

no_open : (r : Row) → r ≡ idle → is_open r ≡ true → ⊥
no_open r e o = let f : is_open r ≡ false = ap is_open e in let z : ◌≡◌ {A = ℕ} 0 1 = cc in omega arith

-- thread t is told an open operation, and no other thread is
abbrev AloneIn : {T : Type 0} → ℕ → List (Record T) → Type 0
AloneIn t log = (is_some (told t log) ≡ true) × ((u : ℕ) → u ≢ t → told u log ≡ None)

-- so at every moment from the end of pre to the end of mid
abbrev AloneDuring : {T : Type 0} → ℕ → List (Event T) → List (Event T) → Type 0
AloneDuring {T} t pre mid = (so_far later : List (Event T)) → mid ≡ so_far ++ later → AloneIn t (recorded (pre ++ so_far))

module _ {C K T : Type 0} (c : Container C) (k : Kind K T) where
  alone : (log : List (Record T)) (s : Shown) (t : ℕ) → Held c k log s → AloneIn t log → Alone s.meaning.rows t
  alone log s t h (some, none) = (
    sym (some_standing (row_of s.meaning.rows t)) ∙ ap is_some (sym (h.kept.opens t)) ∙ some,
    λ u ne. none_standing (row_of s.meaning.rows u) (sym (h.kept.opens u) ∙ none u ne),
  )

  -- a call while thread t is alone, before it and after it
  one_less : (log : List (Record T)) (x w : C) (e : Event T) (t : ℕ) → Does c k log x e w → Held c k log (c.shows x) → Alone (c.shows x).meaning.rows t → Alone (c.shows w).meaning.rows t → is_step t e + (c.shows w).left ≤ (c.shows x).left
  one_less log x w (SetUpCall n m (Ok v)) t ((pass, rest), table) h (here, others) then =
      let s = c.shows x in
      let none = (h.before (set_up_passes s n m pass).0).0 in
      let in' = open_within s.meaning.rows t here in
      let e : length s.meaning.rows ≡ 0 = ap (λ m. length m.rows) none in
      absurd (omega (arith, e, in'.0, in'.1))
  one_less log x w (SetUpCall n m (Err f)) t ((refusal, same), table) h here then = omega (arith, ap (λ s. s.left) same)
  one_less log x w (BeginCall u op (Ok n)) t ((pass, (number, means, make)), table, back) h (here, others) (there, others') =
      let s = c.shows x in
      let p = begin_passes s u (map_op k.value op) pass in
      absurd (elim (cases_eq u t) [
        | inl e ↦ let f : is_open (row_of s.meaning.rows t) ≡ false = subst (λ (i : ℕ). is_open (row_of s.meaning.rows i) ≡ false) e p.2 in let z : ◌≡◌ {A = ℕ} 0 1 = cc in omega arith
        | inr ne ↦ no_open (row_of (c.shows w).meaning.rows u) (others' u ne)
            (ap (λ m. is_open (row_of m.rows u)) means ∙ ap is_open (row_set_same s.meaning.rows u _ p.0 p.1))
      ])
  one_less log x w (BeginCall u op (Err f)) t ((refusal, same), table, back) h here then = omega (arith, ap (λ s. s.left) same)
  one_less log x w (StepCall u (Ok v)) t (y, is, ((pass, (moves, make, falls)), table)) h (here, others) then =
      let s = c.shows x in
      let p = step_passes s u pass in
      elim (cases_eq u t) [
        | inl e ↦ let a : Alone s.meaning.rows u = subst (Alone s.meaning.rows) (sym e) (here, others) in rw (eq-eqb u t e) (omega (arith, falls a))
        | inr ne ↦ absurd (no_open (row_of s.meaning.rows u) (others u ne) p.2)
      ]
  one_less log x w (StepCall u (Err f)) t ((refusal, same), table) h here then = omega (arith, ap (λ s. s.left) same)
  one_less log x w (LookCall u r) t (looks, same) h here then = omega (arith, ap (λ y. (c.shows y).left) same)

  steps_fall : (pre mid : List (Event T)) (log : List (Record T)) (x w : C) (t : ℕ) → Performed c k log x mid w → Held c k log (c.shows x) → log ≡ recorded pre → AloneDuring t pre mid → steps_of t mid + (c.shows w).left ≤ (c.shows x).left
  steps_fall pre [] log x w t same h is during = omega (arith, ap (λ y. (c.shows y).left) same)
  steps_fall pre (e ∷ mid) log x w t (u, does, law, run) h is during =
      let a = onward c k log x u h e does in
      let now_log : log ++ records e ≡ recorded (pre ++ e ∷ []) = ap (λ l. l ++ records e) is ∙ sym (joined_push records pre e) in
      let at_x : AloneIn t log = subst (AloneIn t) (ap recorded (append-nil pre) ∙ sym is) (during [] (e ∷ mid) refl) in
      let at_u : AloneIn t (log ++ records e) = subst (AloneIn t) (sym now_log) (during (e ∷ []) mid refl) in
      let one = one_less log x u e t does h (alone log (c.shows x) t h at_x) (alone (log ++ records e) (c.shows u) t a.held at_u) in
      let rest = steps_fall (pre ++ e ∷ []) mid (log ++ records e) u w t run a.held now_log
      (λ so_far later eq. subst (λ (l : List (Event T)). AloneIn t (recorded l)) (sym (append_assoc pre (e ∷ []) so_far)) (during (e ∷ so_far) later (ap (λ l. e ∷ l) eq))) in
      omega (arith, one, rest)

-- Either thread t is told an open operation at every moment of mid, or at one it is told none.
module _ {T : Type 0} (t : ℕ) where
  abbrev StaysOpen : List (Event T) → List (Event T) → Type 0
  StaysOpen pre mid = (so_far later : List (Event T)) → mid ≡ so_far ++ later → is_some (told t (recorded (pre ++ so_far))) ≡ true

  abbrev ToldNone : List (Event T) → List (Event T) → Type 0
  ToldNone pre mid = (so_far : List (Event T)) × (later : List (Event T)) × (mid ≡ so_far ++ later) × (told t (recorded (pre ++ so_far)) ≡ None)

  open_or_none : (pre mid : List (Event T)) → StaysOpen pre mid ⊎ ToldNone pre mid
  open_or_none pre [] = go (told t (recorded (pre ++ []))) refl
    where
      go : (o : Option Open) → told t (recorded (pre ++ [])) ≡ o → StaysOpen pre [] ⊎ ToldNone pre []
      go None e = inr ([], [], refl, e)
      go (Some o) e = inl at
        where
          at : StaysOpen pre []
          at [] later is = ap is_some e
          at (x ∷ so_far) later is = let z : ◌≡◌ {A = ℕ} 0 1 = cc in absurd (omega arith)
  open_or_none pre (x ∷ mid) = go (open_or_none (pre ++ x ∷ []) mid) (told t (recorded (pre ++ []))) refl
    where
      go : StaysOpen (pre ++ x ∷ []) mid ⊎ ToldNone (pre ++ x ∷ []) mid → (o : Option Open) → told t (recorded (pre ++ [])) ≡ o → StaysOpen pre (x ∷ mid) ⊎ ToldNone pre (x ∷ mid)
      go rest None e = inr ([], x ∷ mid, refl, e)
      go rest (Some o) e =
          elim rest [
            | inl all ↦ inl (at all)
            | inr (s, l, is, none) ↦ inr (x ∷ s, l, ap (λ q. x ∷ q) is, subst (λ (q : List (Event T)). told t (recorded q) ≡ None) (append_assoc pre (x ∷ []) s) none)
          ]
        where
          at : StaysOpen (pre ++ x ∷ []) mid → StaysOpen pre (x ∷ mid)
          at all [] later is = ap is_some e
          at all (y ∷ so_far) later is =
              let tails : mid ≡ so_far ++ later = cc in
              let heads : x ≡ y = cc in
              subst (λ (z : Event T). is_some (told t (recorded (pre ++ z ∷ so_far))) ≡ true) heads
              (subst (λ (q : List (Event T)). is_some (told t (recorded q)) ≡ true) (append_assoc pre (x ∷ []) so_far) (all so_far later tails))

-- who has no open operation in the log is told none
told_none : {T : Type 0} (u : ℕ) (log : List (Record T)) (o : Option Open) → Tells u log o → IdleIn u log → o ≡ None
told_none u log None h idle_u = refl
told_none u log (Some o) h idle_u = absurd (idle_u o.number h.0)

module _ {C K T : Type 0} (c : Container C) (k : Kind K T) (x w : C) (es : List (Event T)) (new : (c.shows x).meaning ≡ unset) (lawful : (y : C) → Lawful (c.shows y)) (run : Performed c k [] x es w) where
  few_steps : (pre mid post : List (Event T)) (t : ℕ) → es ≡ pre ++ (mid ++ post) → AloneDuring t pre mid → steps_of t mid < (c.shows x).make.bound
  few_steps pre mid post t is during =
      let p = parted c k [] x w pre (mid ++ post) (subst (λ (l : List (Event T)). Performed c k [] x l w) is run) in
      let a = after_run c k [] x p.0 pre p.1 (at_first c k x new) in
      let q = parted c k (recorded pre) p.0 w mid post p.2 in
      let b = after_run c k (recorded pre) p.0 q.0 mid q.1 a.held in
      let f = steps_fall c k pre mid (recorded pre) p.0 q.0 t q.1 a.held refl during in
      let first : AloneIn t (recorded pre) = subst (λ (l : List (Event T)). AloneIn t (recorded l)) (append-nil pre) (during [] mid refl) in
      let last : AloneIn t (recorded pre ++ recorded mid) = subst (AloneIn t) (flat_map-append records pre mid) (during mid [] (sym (append-nil mid))) in
      let bounded = (lawful p.0).left_alone t (alone c k (recorded pre) (c.shows p.0) t a.held first) in
      let more = (lawful q.0).left_alone t (alone c k (recorded pre ++ recorded mid) (c.shows q.0) t b.held last) in
      let same = ap (λ m. m.bound) a.make_same in
      omega (arith, more.0, bounded.1, same, f)

  pub ends_in_time : EndsInTime (c.shows x).make.bound es
  ends_in_time pre mid post t is others many =
      let moment : (so_far later : List (Event T)) → mid ≡ so_far ++ later → es ≡ (pre ++ so_far) ++ (later ++ post) = λ so_far later e.
      is ∙ ap (λ l. pre ++ (l ++ post)) e ∙ ap (λ l. pre ++ l) (append_assoc so_far later post) ∙ sym (append_assoc pre so_far (later ++ post)) in
      let tells_at : (so_far later : List (Event T)) → mid ≡ so_far ++ later → (u : ℕ) → Tells u (recorded (pre ++ so_far)) (told u (recorded (pre ++ so_far))) = λ so_far later e u.
      tells_then c k x w es new run (pre ++ so_far) (later ++ post) u (moment so_far later e) in
      elim (open_or_none t pre mid) [
        | inl all ↦
            let short : steps_of t mid < (c.shows x).make.bound = few_steps pre mid post t is
            (λ so_far later e. (all so_far later e, λ u ne. told_none u (recorded (pre ++ so_far)) (told u (recorded (pre ++ so_far))) (tells_at so_far later e u) (others so_far later e u ne))) in
            absurd (omega arith)
        | inr (so_far, later, e, none) ↦ (so_far, later, e, subst (Tells t (recorded (pre ++ so_far))) none (tells_at so_far later e t))
      ]
