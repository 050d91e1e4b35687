-- From the calls that led to a bench to the law of runs: a bench just made over a container not yet set up has room for all records
-- to come, so that the log is that of the calls.
use Rattle.std.proofs.Common.{◌≡◌, ℕ, ◌+◌, ◌≤◌, List, [], ◌∷◌, ◌++◌, length, Ok, Err, vec_items, vec_capacity, sym, refl, ap, ◌∙◌, subst, arith}
use Rattle.std.proofs.lemmas.List.{append-nil, append_assoc, length-append, length-set, length-replicate, take_all}
use Rattle.items.specs.declared.Kind.{Ghosts as Kind}
use Rattle.vector.specs.Meaning.{Lawful, unset, idle}
use Rattle.vector.specs.declared.Stepped.{Stepped}
use Rattle.vector.specs.declared.container.Container.{Ghosts as Container}
use Rattle.stepping.specs.Log.{records, recorded, step_records}
use Rattle.stepping.specs.Bench.{Logs, Makes, Calls, Looks}
use Rattle.stepping.specs.History.{Leads, Led, GoesOn, Does, Performed, Ran, RunsOn}
use Rattle.stepping.specs.declared.Record.{Record}
use Rattle.stepping.specs.declared.Event.{Event}
use Rattle.stepping.specs.declared.Event.TheVariants.{SetUp as SetUpCall, Begin as BeginCall, Step as StepCall, Look as LookCall}
use Rattle.stepping.specs.declared.running.Running.{Running}
use Rattle.stepping.proofs.Logs.{nothing_more, grown_twice}
use Rattle.stepping.proofs.Passes.{moves_same}
use Rattle.stepping.proofs.Space.{to_come, new_owes, set_up_owes, begin_owes, step_owes}
use Rattle.stepping.proofs.Law.{log_is_true, plainly_ordered, after_run, at_first}
use Rattle.stepping.proofs.Timely.{ends_in_time}

module _ {C K T : Type 0} where
  -- a call that records nothing
  pub kept_log : (b b' : Running C K T) → b'.log ≡ b.log → Logs b [] b'
  kept_log b b' same =
      let items = vec_items b.log in
      let fits : length items ≤ vec_capacity b.log = omega (arith, b.log.ok.0, b.log.ok.1) in
      record {
        logged = ap (λ l. vec_items l) same ∙ nothing_more (vec_capacity b.log) items [] refl fits;
        room = ap (λ l. vec_capacity l) same;
      }

module _ {C K T : Type 0} (c : Container C) (k : Kind K T) where
  -- Histories, one after the other.
  leads_on : (b u w : Running C K T) (es fs : List (Event T)) → Leads c k b es u → Leads c k u fs w → Leads c k b (es ++ fs) w
  leads_on b u w [] fs same rest = subst (λ (x : Running C K T). Leads c k x fs w) same rest
  leads_on b u w (e ∷ es) fs (v, call, first) rest = (v, call, leads_on v u w es fs first rest)

  pub leads_push : (b u w : Running C K T) (es : List (Event T)) (e : Event T) → Leads c k b es u → Calls c k u e w → Leads c k b (es ++ e ∷ []) w
  leads_push b u w es e led call = leads_on b u w es (e ∷ []) led (w, call, refl)

  pub led_first : (start : C) (b : Running C K T) → Makes c start b → (c.shows start).meaning ≡ unset → Led c k start [] b
  led_first start b made new = record { first = b; not_set_up = new; made = made; leads = refl }

  pub led_on : (b b' : Running C K T) (more : List (Event T)) → Leads c k b more b' → (start : C) (es : List (Event T)) → Led c k start es b → Led c k start (es ++ more) b'
  led_on b b' more leads start es led = record { first = led.first; not_set_up = led.not_set_up; made = led.made; leads = leads_on led.first b b' es more led.leads leads }

  pub goes_on : (b b' : Running C K T) (e : Event T) → Calls c k b e b' → GoesOn c k b e b'
  goes_on b b' e call = led_on b b' (e ∷ []) (b', call, refl)

  -- The log of a history, as far as it has room.
  calls_log : (b b' : Running C K T) (e : Event T) → Calls c k b e b' → Logs b (records e) b'
  calls_log b b' (SetUpCall n m r) call = kept_log b b' call.log_same
  calls_log b b' (BeginCall t op r) call = call.logs
  calls_log b b' (StepCall t r) call = call.logs
  calls_log b b' (LookCall t r) (looks, same) = kept_log b b' (ap (λ x. x.log) same)

  pub leads_log : (b b' : Running C K T) (es : List (Event T)) → Leads c k b es b' → Logs b (recorded es) b'
  leads_log b b' [] same = kept_log b b' (ap (λ x. x.log) same)
  leads_log b b' (e ∷ es) (u, call, leads) =
      let one = calls_log b u e call in
      let rest = leads_log u b' es leads in
      record {
        logged = grown_twice (vec_capacity b.log) (vec_capacity u.log) (vec_items b.log) (vec_items u.log) (vec_items b'.log) (records e) (records e) (recorded es) (recorded es) one.logged refl one.room rest.logged refl;
        room = rest.room ∙ one.room;
      }

  -- The log of the bench has room for the records to come, and the threads are the container's.
  record Whole (b : Running C K T) : Type 0 where
    room : length (vec_items b.log) + to_come (c.shows b.container) ≤ vec_capacity b.log
    counted : b.threads ≡ length (c.shows b.container).meaning.rows

  -- what one call of such a bench comes to
  record Went (b : Running C K T) (e : Event T) (u : Running C K T) : Type 0 where
    does : Does c k (vec_items b.log) b.container e u.container
    whole : Whole u
    logged : vec_items u.log ≡ vec_items b.log ++ records e

  module _ (b u : Running C K T) (h : Whole b) where
    all_logged : (e : Event T) → Calls c k b e u → length (records e) + to_come (c.shows u.container) ≡ to_come (c.shows b.container) → vec_items u.log ≡ vec_items b.log ++ records e
    all_logged e call owes =
        let items = vec_items b.log in
        let fits : length (items ++ records e) ≤ vec_capacity b.log = omega (arith, length-append items (records e), owes, h.room) in
        (calls_log b u e call).logged ∙ take_all (vec_capacity b.log) (items ++ records e) fits

    goes : (e : Event T) → Calls c k b e u → Does c k (vec_items b.log) b.container e u.container
        → length (records e) + to_come (c.shows u.container) ≡ to_come (c.shows b.container) → u.threads ≡ length (c.shows u.container).meaning.rows → Went b e u
    goes e call does owes counted =
        let logged = all_logged e call owes in
        record {
          does = does;
          whole = record {
            room = omega (arith, ap length logged, length-append (vec_items b.log) (records e), (calls_log b u e call).room, owes, h.room);
            counted = counted;
          };
          logged = logged;
        }

    -- a refused call, which leaves what the container shows
    rows_same : c.shows u.container ≡ c.shows b.container → u.threads ≡ b.threads → u.threads ≡ length (c.shows u.container).meaning.rows
    rows_same same threads = threads ∙ h.counted ∙ sym (ap (λ s. length s.meaning.rows) same)

  module _ (lawful : (x : C) → Lawful (c.shows x)) where
    went : (b u : Running C K T) (e : Event T) → Calls c k b e u → Whole b → Went b e u
    went b u (SetUpCall n m (Ok x)) call h =
        goes b u h (SetUpCall n m (Ok x)) call (call.means, call.table)
        (omega (arith, set_up_owes (c.shows b.container) (c.shows u.container) n m x (lawful b.container).before call.means))
        (call.threads_now ∙ sym (ap (λ q. length q.rows) call.means.1.0 ∙ length-replicate m idle))
    went b u (SetUpCall n m (Err f)) call h =
        goes b u h (SetUpCall n m (Err f)) call (call.means, call.table) (omega (arith, ap to_come call.means.1)) (rows_same b u h call.means.1 call.threads_now)
    went b u (BeginCall t op (Ok n)) call h =
        goes b u h (BeginCall t op (Ok n)) call (call.means, call.table, call.back)
        (begin_owes (c.shows b.container) (c.shows u.container) t _ n call.means)
        (call.threads_same ∙ h.counted ∙ sym (ap (λ q. length q.rows) call.means.1.1 ∙ length-set (c.shows b.container).meaning.rows _ _))
    went b u (BeginCall t op (Err f)) call h =
        goes b u h (BeginCall t op (Err f)) call (call.means, call.table, call.back) (omega (arith, ap to_come call.means.1)) (rows_same b u h call.means.1 call.threads_same)
    went b u (StepCall t (Ok x)) call h =
        let s = c.shows b.container in
        let w = c.shows u.container in
        let y = call.turned.0 in
        let is = call.turned.1 in
        let did = call.turned.2.0 in
        goes b u h (StepCall t (Ok x)) call call.turned
        (omega (arith, ap (λ (z : Stepped T). length (step_records (Ok z))) is, step_owes s w k.item t y did))
        (call.threads_same ∙ h.counted ∙ sym (moves_same s.meaning w.meaning t y did.1.0).1)
    went b u (StepCall t (Err f)) call h =
        let did = call.turned.0 in
        goes b u h (StepCall t (Err f)) call call.turned (omega (arith, ap to_come did.1)) (rows_same b u h did.1 call.threads_same)
    went b u (LookCall t r) (looks, same) h =
        let stays = ap (λ x. c.shows x.container) same in
        goes b u h (LookCall t r) (looks, same) (subst (λ (n : ℕ). Looks n (vec_items b.log) t r) h.counted looks, ap (λ x. x.container) same)
        (omega (arith, ap to_come stays)) (rows_same b u h stays (ap (λ x. x.threads) same))

    -- what a history comes to
    performed : (b b' : Running C K T) (es : List (Event T)) → Leads c k b es b' → Whole b → Performed c k (vec_items b.log) b.container es b'.container × (vec_items b'.log ≡ vec_items b.log ++ recorded es)
    performed b b' [] same h = (ap (λ x. x.container) same, ap (λ x. vec_items x.log) same ∙ sym (append-nil (vec_items b.log)))
    performed b b' (e ∷ es) (u, call, leads) h =
        let one = went b u e call h in
        let rest = performed u b' es leads one.whole in
        let run = subst (λ (l : List (Record T)). Performed c k l u.container es b'.container) one.logged rest.0 in (
          (u.container, one.does, lawful u.container, run),
          rest.1 ∙ ap (λ l. l ++ recorded es) one.logged ∙ append_assoc (vec_items b.log) (records e) (recorded es),
        )

    first_whole : (start : C) (b : Running C K T) → (c.shows start).meaning ≡ unset → Makes c start b → Whole b
    first_whole start b new made =
        let shows_new : (c.shows b.container).meaning ≡ unset = ap (λ x. (c.shows x).meaning) made.over ∙ new in
        record {
          room = omega (arith, ap length made.empty, new_owes (c.shows b.container) shows_new, ap (λ x. (c.shows x).make.numbers) made.over, made.room);
          counted = made.no_threads ∙ sym (ap (λ m. length m.rows) shows_new);
        }

    -- the law of runs, of every history
    pub ran : (start : C) (es : List (Event T)) (b : Running C K T) → Led c k start es b → Ran c k start es (vec_items b.log) b.container
    ran start es b led =
        let first = led.first in
        let new = led.not_set_up in
        let made = led.made in
        let all = performed first b es led.leads (first_whole start first new made) in
        let x = b.container in
        let run : Performed c k [] start es x =
        subst (λ (y : C). Performed c k [] y es x) made.over (subst (λ (l : List (Record T)). Performed c k l first.container es x) made.empty all.0) in
        let log : vec_items b.log ≡ recorded es = all.1 ∙ ap (λ l. l ++ recorded es) made.empty in
        let same : (c.shows x).make.bound ≡ (c.shows start).make.bound = ap (λ m. m.bound) (after_run c k [] start x es run (at_first c k start new)).make_same in
        record {
          performed = run;
          law = rw (log, same) (record {
            log_is_true = log_is_true c k start x es new run;
            plainly_ordered = plainly_ordered c k start x es new run;
            ends_in_time = ends_in_time c k start x es new lawful run;
          });
        }

    pub runs_on : (b b' : Running C K T) (more : List (Event T)) → Leads c k b more b' → RunsOn c k b more b'
    runs_on b b' more leads start es led =
        let on = led_on b b' more leads start es led in
        (on, ran start (es ++ more) b' on)
