-- Calls asked for one after the other are a history of the bench, and calls asked for in parts are those of the whole.
use Rattle.std.proofs.Common.{◌≡◌, ℕ, List, [], ◌∷◌, ◌++◌, Some, None, Ok, Err, Option, Result, sym, refl, subst, arith}
use Rattle.refusal.specs.declared.Refusal.{Refusal}
use Rattle.items.specs.declared.Kind.{Ghosts as Kind}
use Rattle.vector.specs.declared.container.Container.{Ghosts as Container}
use Rattle.stepping.specs.Bench.{Calls}
use Rattle.stepping.specs.History.{Leads}
use Rattle.stepping.specs.declared.Event.{Event}
use Rattle.stepping.specs.declared.running.Running.{Running}
use Rattle.script.specs.Faults.{at_line}
use Rattle.script.specs.declared.fault.Fault.{Fault}
use Rattle.script_run.specs.Calls.{Asked, refused_as, refusal_in, After, Plays}
use Rattle.script_run.specs.Drives.{told_at, Then, Drives}

granted_not_fault : {A : Type 0} (f : Fault) → ◌≡◌ {A = Result (Unit {0}) Fault} (Ok tt) (Err f) → A
granted_not_fault f e = let z : ◌≡◌ {A = ℕ} 0 1 = cc in absurd (omega arith)

module _ {C K T : Type 0} (c : Container C) (k : Kind K T) where
  go_on : {P Q : Type 0} (line : ℕ) (o : Option Refusal) (u v b' : Running C K T) (r : Result (Unit {0}) Fault) → (P → Q) → Then c k line o P u (Ok tt) v → Then c k line o Q u r b'
  go_on line None u v b' r f p = f p
  go_on line (Some why) u v b' r f (same, e) = granted_not_fault (at_line line why) e

  stop : {P Q : Type 0} (line : ℕ) (o : Option Refusal) (u b' : Running C K T) (r : Result (Unit {0}) Fault) → (P → Q) → Then c k line o P u r b' → Then c k line o Q u r b'
  stop line None u b' r f p = f p
  stop line (Some why) u b' r f p = p

  -- a call that was refused is the last
  pub told_stop : (P : Type 0) (line : ℕ) (given : Result (Unit {0}) Refusal) (u : Running C K T) (f : Fault) → told_at line given ≡ Err f → Then c k line (refused_as given) P u (Err f) u
  told_stop P line (Ok t) u f e = granted_not_fault f e
  told_stop P line (Err why) u f e = (refl, sym e)

  -- calls all granted, and then others
  pub drives_then : (b v b' : Running C K T) (xs ys : List (Asked T)) (r : Result (Unit {0}) Fault) → Drives c k b xs (Ok tt) v → Drives c k v ys r b' → Drives c k b (xs ++ ys) r b'
  drives_then b v b' [] ys r (same, e) rest = subst (λ (x : Running C K T). Drives c k x ys r b') same rest
  drives_then b v b' ((line, Err why) ∷ xs) ys r (same, e) rest = granted_not_fault (at_line line why) e
  drives_then b v b' ((line, Ok call) ∷ xs) ys r (e, u, called, did, more) rest =
      (e, u, called, did, go_on line (refusal_in e) u v b' r (λ d. drives_then u v b' xs ys r d rest) more)

  -- a fault among the first is the fault of all
  pub drives_stop : (b v : Running C K T) (xs ys : List (Asked T)) (f : Fault) → Drives c k b xs (Err f) v → Drives c k b (xs ++ ys) (Err f) v
  drives_stop b v [] ys f (same, e) = granted_not_fault f (sym e)
  drives_stop b v ((line, Err why) ∷ xs) ys f did = did
  drives_stop b v ((line, Ok call) ∷ xs) ys f (e, u, called, did, more) =
      (e, u, called, did, stop line (refusal_in e) u v (Err f) (λ d. drives_stop u v xs ys f d) more)

  -- the events of the calls that were made
  abbrev pub PlayedSo : Running C K T → List (Asked T) → Result (Unit {0}) Fault → Running C K T → Type 0
  PlayedSo b xs r b' = (es : List (Event T)) × Leads c k b es b' × Plays xs es r

  one_more : (b u b' : Running C K T) (line : ℕ) (e : Event T) (xs : List (Asked T)) (r : Result (Unit {0}) Fault) → Calls c k b e u
      → (o : Option Refusal) → refusal_in e ≡ o → (Drives c k u xs r b' → PlayedSo u xs r b') → Then c k line o (Drives c k u xs r b') u r b'
      → (es : List (Event T)) × Leads c k b (e ∷ es) b' × After line (refusal_in e) (Plays xs es r) es r
  one_more b u b' line e xs r did None is f d =
      let played = f d in
      (played.0, (u, did, played.1), rw is played.2)
  one_more b u b' line e xs r did (Some why) is f (same, fault) = ([], (u, did, same), rw is (refl, fault))

  pub drives_plays : (b b' : Running C K T) (xs : List (Asked T)) (r : Result (Unit {0}) Fault) → Drives c k b xs r b' → PlayedSo b xs r b'
  drives_plays b b' [] r (same, e) = ([], same, (refl, e))
  drives_plays b b' ((line, Err why) ∷ xs) r (same, e) = ([], same, (refl, e))
  drives_plays b b' ((line, Ok call) ∷ xs) r (e, u, called, did, more) =
      let played = one_more b u b' line e xs r did (refusal_in e) refl (drives_plays u b' xs r) more in
      (e ∷ played.0, played.1, (called, played.2))
