-- That a vector holds together can be shown in one way only, so that its type may say it.
use Rattle.std.specs.Prelude.{◌≡◌, ℕ, ◌≤◌, false, ◌≢◌, List, length, get_or, Some, None, Option}
use Rattle.std.proofs.Common.{sym, ap, ◌∙◌, inl, inr, arith}
use Rattle.std.proofs.Props.{props}
use Rattle.std.proofs.lemmas.Bool.{cases_eq}
use mathlib.Core.HLevel.{Σ_prop_path}
use Rattle.vector.specs.declared.Op.{Op}
use Rattle.vector.specs.declared.Op.TheVariants.{Push, Pop, Read, Write, Size}
use Rattle.vector.specs.declared.Answer.{Answer}
use Rattle.vector.specs.declared.threads.Task.{Task}
use Rattle.vector.specs.declared.threads.Threads.{Threads}
use Rattle.vector.specs.Plain.{Small}
use Rattle.vector.specs.Threads.{task_of}
use Rattle.lock_vector.specs.declared.stages.Loading.TheVariants.{K2, K3}
use Rattle.lock_vector.specs.declared.stages.Swapping.TheVariants.{K1, K4, K5, K6}
use Rattle.lock_vector.specs.declared.stages.Stage.{Stage}
use Rattle.lock_vector.specs.declared.stages.Stage.TheVariants.{Load, Swap}
use Rattle.lock_vector.specs.Meaning.{inside, Aims, Puts, Resizes, Seen, Inside, Lock, free, held, WordsFit, Known, Bare, Running, Sound}
use Rattle.lock_vector.specs.Turns.{no_way}
use Rattle.lock_vector.specs.Stepping.{inside_open}

aims_once : (capacity n i : ℕ) (op : Op ℕ) → IsProp (Aims capacity n i op)
aims_once capacity n i (Push a) = hlevel props
aims_once capacity n i Pop = hlevel props
aims_once capacity n i (Read j) = hlevel props
aims_once capacity n i (Write j a) = hlevel props
aims_once capacity n i Size = hlevel props

puts_once : (capacity n i v : ℕ) (op : Op ℕ) → IsProp (Puts capacity n i v op)
puts_once capacity n i v (Push a) = hlevel props
puts_once capacity n i v Pop = hlevel props
puts_once capacity n i v (Read j) = hlevel props
puts_once capacity n i v (Write j a) = hlevel props
puts_once capacity n i v Size = hlevel props

resizes_once : (capacity : ℕ) (W : List ℕ) (n to : ℕ) (answer : Answer ℕ) (op : Op ℕ) → IsProp (Resizes capacity W n to answer op)
resizes_once capacity W n to answer (Push a) = hlevel props
resizes_once capacity W n to answer Pop = hlevel props
resizes_once capacity W n to answer (Read j) = hlevel props
resizes_once capacity W n to answer (Write j a) = hlevel props
resizes_once capacity W n to answer Size = hlevel props

seen_once : (capacity : ℕ) (W : List ℕ) (s : Stage) (op : Op ℕ) → IsProp (Seen capacity W s op)
seen_once capacity W (Load K2) op = hlevel props
seen_once capacity W (Load (K3 i)) op = aims_once _ _ _ op
seen_once capacity W (Swap K1) op = hlevel props
seen_once capacity W (Swap (K4 i seen v)) op = hlevel (props, puts_once)
seen_once capacity W (Swap (K5 from to answer)) op = hlevel (props, resizes_once)
seen_once capacity W (Swap (K6 answer)) op = hlevel props

inside_once : (capacity : ℕ) (W : List ℕ) (row : Option (Task Stage)) → IsProp (Inside capacity W row)
inside_once capacity W None = hlevel props
inside_once capacity W (Some o) = hlevel (props, seen_once)

small_once : (op : Op ℕ) → IsProp (Small op)
small_once (Push v) = hlevel props
small_once Pop = hlevel props
small_once (Read i) = hlevel props
small_once (Write i v) = hlevel props
small_once Size = hlevel props

known_once : (given : ℕ) (row : Option (Task Stage)) → IsProp (Known given row)
known_once given None = hlevel props
known_once given (Some o) = hlevel (props, small_once)

-- Of operations that have numbers, one alone can have the lock.
module _ (capacity given threads : ℕ) (W : List ℕ) (rows : List (Option (Task Stage))) (known : (u : ℕ) → Known given (task_of rows u)) where
  -- who has the lock
  abbrev Holder : ℕ → Type 0
  Holder u = (u ≤ threads) × Inside capacity W (task_of rows u) × ((v : ℕ) → v ≢ u → inside (task_of rows v) ≡ false)

  holder_once : (u : ℕ) → IsProp (Holder u)
  holder_once u = hlevel (props, inside_once)

  same_holder : (u v : ℕ) → Holder u → Holder v → u ≡ v
  same_holder u v h k =
      let b = inside_open capacity given W (task_of rows v) k.1 (known v) in
      elim (cases_eq u v) [ inl e ↦ e | inr e ↦ no_way (sym b.1 ∙ h.2 v (λ q. e (sym q))) ]

  lock_once : IsProp (Lock capacity threads W rows)
  lock_once (free z out) (free z' out') =
      let zero : IsProp (get_or W 0 0 ≡ 0) = hlevel props in
      let outs : IsProp ((u : ℕ) → inside (task_of rows u) ≡ false) = hlevel props in
      λ i. free (zero z z' i) (outs out out' i)
  lock_once (free z out) (held u l x others) = let b = inside_open capacity given W (task_of rows u) x (known u) in let p = b.0 in absurd (omega arith)
  lock_once (held u l x others) (free z out) = let b = inside_open capacity given W (task_of rows u) x (known u) in let p = b.0 in absurd (omega arith)
  lock_once (held u l x others) (held v m y rest) =
      ap (λ (h : (w : ℕ) × Holder w). held h.0 h.1.0 h.1.1 h.1.2)
      (Σ_prop_path holder_once {u = (u, (l, x, others))} {v = (v, (m, y, rest))} (same_holder u v (l, x, others) (m, y, rest)))

running_once : (T : Threads Stage) (W : List ℕ) → IsProp (Running T W)
running_once T W x y =
    let some : IsProp (1 ≤ T.capacity) = hlevel props in
    let few : IsProp (T.count ≤ 8) = hlevel props in
    let eight : IsProp (length T.rows ≡ 8) = hlevel props in
    let fit : IsProp (WordsFit T.capacity W) = hlevel props in
    let known : IsProp ((u : ℕ) → Known T.given (task_of T.rows u)) = hlevel known_once in
    λ i. record {
      some = some x.some y.some i;
      few = few x.few y.few i;
      eight = eight x.eight y.eight i;
      fit = fit x.fit y.fit i;
      known = known x.known y.known i;
      lock = lock_once T.capacity T.given T.count W T.rows x.known x.lock y.lock i;
    }

bare_once : (T : Threads Stage) → IsProp (Bare T)
bare_once T = hlevel props

pub sound_once : (T : Threads Stage) (W : List ℕ) → IsProp (Sound T W)
sound_once T W (inl b) (inl d) = ap inl (bare_once T b d)
sound_once T W (inl b) (inr r) = let z = b.bare in let o = r.some in absurd (omega arith)
sound_once T W (inr r) (inl b) = let z = b.bare in let o = r.some in absurd (omega arith)
sound_once T W (inr r) (inr s) = ap inr (running_once T W r s)
