-- A bench just made that was asked for the calls of a script, and was then closed, ran as it should.
use Rattle.std.proofs.Common.{◌≡◌, ℕ, List, [], Ok, Err, Result, refl, ap, subst}
use Rattle.items.specs.declared.Kind.{Ghosts as Kind}
use Rattle.vector.specs.Meaning.{unset}
use Rattle.vector.specs.declared.container.Container.{Ghosts as Container}
use Rattle.stepping.specs.Log.{recorded}
use Rattle.stepping.specs.History.{Leads, Led, Ran, Closes}
use Rattle.stepping.specs.declared.Record.{Record}
use Rattle.stepping.specs.declared.running.Running.{Running}
use Rattle.refusal.specs.declared.Refusal.{Refusal}
use Rattle.script.specs.Faults.{at_line}
use Rattle.script.specs.declared.fault.Fault.{Fault}
use Rattle.listing.specs.Listings.{listing, Listed}
use Rattle.script_run.specs.Calls.{Asked}
use Rattle.script_run.specs.Drives.{told_at, Drives}
use Rattle.script_run.specs.Outcomes.{Writes, Tells, RunOf}
use Rattle.script_run.proofs.Driving.{drives_plays}

pub ran_so : {C K T : Type 0} (c : Container C) (k : Kind K T) (text : T → List ℕ) (words : List ℕ) (calls : List (Asked T)) (start x : C) (b b' : Running C K T)
    (log : List (Record T)) (v : Result (Unit {0}) Fault) (out : List ℕ) (r : Result ℕ Fault) (out' : List ℕ)
    → (c.shows start).meaning ≡ unset → (c.shows start).words ≡ words → Led c k start [] b → Drives c k b calls v b' → Closes c k b' log x
    → Tells v (listing text log) out r out' → RunOf c k text words calls out r out'
ran_so {C} {K} {T} c k text words calls start x b b' log v out r out' new over before did closes tells =
    let played = drives_plays c k b b' calls v did in
    let es = played.0 in
    let led : Led c k start es b' = record { first = before.first; not_set_up = new; made = before.made; leads = subst (λ (u : Running C K T). Leads c k u es b') before.leads played.1 } in
    let ran = closes start es led in
    let written : log ≡ recorded es = ran.law.log_is_true.written in
    record {
      start = start;
      last = x;
      events = es;
      verdict = v;
      not_set_up = new;
      over_words = over;
      plays = played.2;
      ran = subst (λ (l : List (Record T)). Ran c k start es l x) written ran;
      tells = subst (λ (l : List (Record T)). Tells v (listing text l) out r out') written tells;
    }

-- a listing too long is a fault of no line
pub writes_so : (text out out' : List ℕ) (given : Result ℕ Refusal) → Listed text out out' given → Writes text out (told_at 0 given) out'
writes_so text out out' (Ok n) wrote = wrote
writes_so text out out' (Err why) wrote = ((wrote.0, wrote.1, refl), ap (at_line 0) wrote.2)
