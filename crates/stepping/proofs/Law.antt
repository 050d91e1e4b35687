-- The law of runs, by induction over the calls: `Held` is what every call keeps.
use Rattle.std.proofs.Common.{◌≡◌, ℕ, ◌≤◌, ◌≢◌, List, [], ◌∷◌, ◌++◌, map, length, Some, None, Ok, Err, fold, Option, sym, refl, ap, ◌∙◌, subst, arith}
use Rattle.std.specs.List.{flat_map, AllByRecursion}
use Rattle.std.proofs.lemmas.List.{append-nil, append_assoc}
use Rattle.std.proofs.lemmas.Grind.{flat_map-append}
use Rattle.items.specs.declared.Kind.{Ghosts as Kind}
use Rattle.vector.specs.Plain.{map_op}
use Rattle.vector.specs.Meaning.{Shown, unset, row_of}
use Rattle.vector.specs.Calls.{begun}
use Rattle.vector.specs.declared.Ended.{Ended}
use Rattle.vector.specs.declared.Stepped.{Stepped}
use Rattle.vector.specs.declared.container.Container.{Ghosts as Container}
use Rattle.vector.proofs.Rows.{row_replicate}
use Rattle.stepping.specs.Log.{records, recorded, effect_record, end_record, step_records, ends, begin_of, effect_of, end_of, Among, told, Tells}
use Rattle.stepping.specs.History.{Does, Performed}
use Rattle.stepping.specs.Runs.{granted_begin, told_effect, the_effect, handed_end, the_end, LogIsTrue, PlainlyOrdered, named_capacity, capacity_of, plain_answers, plain_items}
use Rattle.stepping.specs.declared.Open.{Open}
use Rattle.stepping.specs.declared.Record.{Record}
use Rattle.stepping.specs.declared.Record.TheVariants.{Begin}
use Rattle.stepping.specs.declared.Event.{Event}
use Rattle.stepping.specs.declared.Event.TheVariants.{SetUp as SetUpCall, Begin as BeginCall, Step as StepCall, Look as LookCall}
use Rattle.stepping.proofs.Passes.{set_up_passes, begin_passes, step_passes, closed_idle, moves_same}
use Rattle.stepping.proofs.Kept.{Kept, empty_keeps, begin_keeps, step_keeps}
use Rattle.stepping.proofs.Told.{tells}

module _ {C K T : Type 0} (c : Container C) (k : Kind K T) where
  -- what every call keeps
  pub record Held (log : List (Record T)) (s : Shown) : Type 0 where
    pub kept : Kept k.value k.item log s.meaning
    pub before : s.meaning.capacity ≡ 0 → (s.meaning ≡ unset) × (log ≡ [])

  -- what one call leaves
  pub record Onward (log : List (Record T)) (s : Shown) (e : Event T) (w : Shown) : Type 0 where
    pub held : Held (log ++ records e) w
    pub make_same : w.make ≡ s.make
    pub capacity_now : w.meaning.capacity ≡ named_capacity s.meaning.capacity e

  module _ (log : List (Record T)) (s w : Shown) (h : Held log s) where
    -- a call that changes and records nothing
    stays : (e : Event T) → w ≡ s → records e ≡ [] → ((n : ℕ) → named_capacity n e ≡ n) → Onward log s e w
    stays e same none named = record {
      held = subst (Held (log ++ records e)) (sym same) (subst (λ (l : List (Record T)). Held l s) (sym (ap (λ l. log ++ l) none ∙ append-nil log)) h);
      make_same = ap (λ x. x.make) same;
      capacity_now = ap (λ x. x.meaning.capacity) same ∙ sym (named s.meaning.capacity);
    }

    -- a container with a thread has been set up
    started : (t : ℕ) → 1 ≤ t → t ≤ length s.meaning.rows → s.meaning.capacity ≢ 0
    started t low high e =
        let none : length s.meaning.rows ≡ 0 = ap (λ m. length m.rows) (h.before e).0 in
        omega (arith, none)

  pub onward : (log : List (Record T)) (x u : C) → Held log (c.shows x) → (e : Event T) → Does c k log x e u → Onward log (c.shows x) e (c.shows u)
  onward log x u h (SetUpCall n m (Ok v)) ((pass, (means, make)), table) =
      let p = set_up_passes (c.shows x) n m pass in
      record {
        held = record {
          kept = subst (λ (l : List (Record T)). Kept k.value k.item l (c.shows u).meaning) (sym (append-nil log ∙ (h.before p.0).1))
              (empty_keeps k.value k.item (c.shows u).meaning (ap (λ q. q.items) means) (λ t. ap (λ q. row_of q.rows t) means ∙ row_replicate m t));
          before = λ z. let e : n ≡ 0 = sym (ap (λ q. q.capacity) means) ∙ z in absurd (omega (arith, e, p.1));
        };
        make_same = make;
        capacity_now = ap (λ q. q.capacity) means;
      }
  onward log x u h (SetUpCall n m (Err f)) ((refusal, same), table) = stays log (c.shows x) (c.shows u) h (SetUpCall n m (Err f)) same refl (λ i. refl)
  onward log x u h (BeginCall t op (Ok n)) ((pass, (number, means, make)), table, back) =
      let s = c.shows x in
      let p = begin_passes s t (map_op k.value op) pass in
      let free = closed_idle (row_of s.meaning.rows t) p.2 in
      record {
        held = record {
          kept = subst (Kept k.value k.item (log ++ Begin n t op ∷ [])) (sym means)
              (subst (λ (j : ℕ). Kept k.value k.item (log ++ Begin j t op ∷ []) (begun s.meaning t (map_op k.value op))) (sym number)
              (begin_keeps k.value k.item log s.meaning t op h.kept p.0 p.1 free back));
          before = λ z. absurd (started log s (c.shows u) h t p.0 p.1 (sym (ap (λ q. q.capacity) means) ∙ z));
        };
        make_same = make;
        capacity_now = ap (λ q. q.capacity) means;
      }
  onward log x u h (BeginCall t op (Err f)) ((refusal, same), table, back) = stays log (c.shows x) (c.shows u) h (BeginCall t op (Err f)) same refl (λ i. refl)
  onward log x u h (StepCall t (Ok v)) (y, is, ((pass, (moves, make, falls)), table)) =
      let s = c.shows x in
      let w = c.shows u in
      let p = step_passes s t pass in
      let q = moves_same s.meaning w.meaning t y moves in
      record {
        held = record {
          kept = subst (λ (z : Stepped T). Kept k.value k.item (log ++ step_records (Ok z)) w.meaning) (sym is)
              (step_keeps k.value k.item log s.meaning w.meaning t y moves h.kept);
          before = λ z. absurd (started log s w h t p.0 p.1 (sym q.0 ∙ z));
        };
        make_same = make;
        capacity_now = q.0;
      }
  onward log x u h (StepCall t (Err f)) ((refusal, same), table) = stays log (c.shows x) (c.shows u) h (StepCall t (Err f)) same refl (λ i. refl)
  onward log x u h (LookCall t r) (looks, same) = stays log (c.shows x) (c.shows u) h (LookCall t r) (ap c.shows same) refl (λ i. refl)

  -- what a run leaves
  pub record After (log : List (Record T)) (s : Shown) (es : List (Event T)) (w : Shown) : Type 0 where
    pub held : Held (log ++ recorded es) w
    pub make_same : w.make ≡ s.make
    pub capacity_now : w.meaning.capacity ≡ fold named_capacity s.meaning.capacity es

  pub after_run : (log : List (Record T)) (x w : C) (es : List (Event T)) → Performed c k log x es w → Held log (c.shows x) → After log (c.shows x) es (c.shows w)
  after_run log x w [] same h = record {
    held = subst (λ (y : C). Held (log ++ []) (c.shows y)) (sym same) (subst (λ (l : List (Record T)). Held l (c.shows x)) (sym (append-nil log)) h);
    make_same = ap (λ y. (c.shows y).make) same;
    capacity_now = ap (λ y. (c.shows y).meaning.capacity) same;
  }
  after_run log x w (e ∷ es) (u, does, law, rest) h =
      let a = onward log x u h e does in
      let b = after_run (log ++ records e) u w es rest a.held in
      record {
        held = subst (λ (l : List (Record T)). Held l (c.shows w)) (append_assoc log (records e) (recorded es)) b.held;
        make_same = b.make_same ∙ a.make_same;
        capacity_now = b.capacity_now ∙ ap (λ n. fold named_capacity n es) a.capacity_now;
      }

  -- a run in two parts
  pub parted : (log : List (Record T)) (x w : C) (es fs : List (Event T)) → Performed c k log x (es ++ fs) w → (u : C) × Performed c k log x es u × Performed c k (log ++ recorded es) u fs w
  parted log x w [] fs run = (x, refl, subst (λ (l : List (Record T)). Performed c k l x fs w) (sym (append-nil log)) run)
  parted log x w (e ∷ es) fs (u, does, law, run) =
      let p = parted (log ++ records e) u w es fs run in
      (p.0, (u, does, law, p.1), subst (λ (l : List (Record T)). Performed c k l p.0 fs w) (append_assoc log (records e) (recorded es)) p.2)

  -- before the first call
  pub at_first : (x : C) → (c.shows x).meaning ≡ unset → Held [] (c.shows x)
  at_first x new = record {
    kept = empty_keeps k.value k.item (c.shows x).meaning (ap (λ m. m.items) new) (λ t. ap (λ m. row_of m.rows t) new ∙ row_replicate 0 t);
    before = λ z. (new, refl);
  }

  -- (a) each record is one that the call gave
  begins_of : (e : Event T) → flat_map begin_of (records e) ≡ granted_begin e
  begins_of (SetUpCall n m r) = refl
  begins_of (BeginCall t op (Ok n)) = refl
  begins_of (BeginCall t op (Err f)) = refl
  begins_of (StepCall t (Ok s)) = go s.effect s.end
    where
      go : (x : Option ℕ) (y : Option (Ended T)) → flat_map begin_of (effect_record {T = T} x ++ end_record y) ≡ []
      go None None = refl
      go None (Some e) = refl
      go (Some n) None = refl
      go (Some n) (Some e) = refl
  begins_of (StepCall t (Err f)) = refl
  begins_of (LookCall t r) = refl

  effects_of : (e : Event T) → flat_map effect_of (records e) ≡ told_effect e
  effects_of (SetUpCall n m r) = refl
  effects_of (BeginCall t op (Ok n)) = refl
  effects_of (BeginCall t op (Err f)) = refl
  effects_of (StepCall t (Ok s)) = go s.effect s.end
    where
      go : (x : Option ℕ) (y : Option (Ended T)) → flat_map effect_of (effect_record {T = T} x ++ end_record y) ≡ the_effect x
      go None None = refl
      go None (Some e) = refl
      go (Some n) None = refl
      go (Some n) (Some e) = refl
  effects_of (StepCall t (Err f)) = refl
  effects_of (LookCall t r) = refl

  ends_of : (e : Event T) → flat_map end_of (records e) ≡ handed_end e
  ends_of (SetUpCall n m r) = refl
  ends_of (BeginCall t op (Ok n)) = refl
  ends_of (BeginCall t op (Err f)) = refl
  ends_of (StepCall t (Ok s)) = go s.effect s.end
    where
      go : (x : Option ℕ) (y : Option (Ended T)) → flat_map end_of (effect_record {T = T} x ++ end_record y) ≡ the_end y
      go None None = refl
      go None (Some e) = refl
      go (Some n) None = refl
      go (Some n) (Some e) = refl
  ends_of (StepCall t (Err f)) = refl
  ends_of (LookCall t r) = refl

  by_events : {A : Type 0} (f : Record T → List A) (g : Event T → List A) → ((e : Event T) → flat_map f (records e) ≡ g e) → (es : List (Event T)) → flat_map f (recorded es) ≡ flat_map g es
  by_events f g each [] = refl
  by_events f g each (e ∷ es) = flat_map-append f (records e) (recorded es) ∙ ap (λ l. l ++ flat_map f (recorded es)) (each e) ∙ ap (λ l. g e ++ l) (by_events f g each es)

  module _ (x w : C) (es : List (Event T)) (new : (c.shows x).meaning ≡ unset) (run : Performed c k [] x es w) where
    -- at every moment what is read off the log is true
    pub tells_then : (pre post : List (Event T)) (t : ℕ) → es ≡ pre ++ post → Tells t (recorded pre) (told t (recorded pre))
    tells_then pre post t is =
        let p = parted [] x w pre post (subst (λ (l : List (Event T)). Performed c k [] x l w) is run) in
        let a = after_run [] x p.0 pre p.1 (at_first x new) in
        tells k.value k.item (recorded pre) (c.shows p.0).meaning a.held.kept t

    looked : (pre post : List (Event T)) (t : ℕ) (o : Option Open) → es ≡ pre ++ LookCall t (Ok o) ∷ post → o ≡ told t (recorded pre)
    looked pre post t o is =
        let p = parted [] x w pre (LookCall t (Ok o) ∷ post) (subst (λ (l : List (Event T)). Performed c k [] x l w) is run) in
        p.2.1.0.1

    end : After [] (c.shows x) es (c.shows w)
    end = after_run [] x w es run (at_first x new)

    pub log_is_true : LogIsTrue es (recorded es)
    log_is_true = record {
      written = refl;
      begins_granted = by_events begin_of granted_begin begins_of es;
      effects_told = by_events effect_of told_effect effects_of es;
      ends_handed_out = by_events end_of handed_end ends_of es;
      courses = end.held.kept.courses;
      looks = λ pre post t o is. subst (Tells t (recorded pre)) (sym (looked pre post t o is)) (tells_then pre (LookCall t (Ok o) ∷ post) t is);
    }

    -- (b)
    pub plainly_ordered : PlainlyOrdered k.value es (recorded es) (c.shows w).meaning
    plainly_ordered =
        let m = (c.shows w).meaning in
        let kept : Kept k.value k.item (recorded es) m = end.held.kept in
        let capacity : m.capacity ≡ capacity_of es = end.capacity_now ∙ ap (λ n. fold named_capacity n es) (ap (λ m. m.capacity) new) in
        record {
          ops = kept.ops;
          in_order = kept.in_order;
          answered = subst (λ (n : ℕ). AllByRecursion (λ e. Among e (plain_answers n [] kept.ops)) (ends (recorded es))) capacity kept.answered;
          capacity_meant = capacity;
          items_meant = subst (λ (n : ℕ). map k.value (plain_items n [] kept.ops) ≡ m.items) capacity kept.items_meant;
        }
