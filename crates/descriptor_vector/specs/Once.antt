-- What is said of a call can be so in one way only, so that it follows from a type that says no more than that the vector holds
-- together somehow: which words were ever put is known to a proof alone.
use Rattle.std.specs.Prelude.{◌≡◌, ℕ, ◌≤◌, Bool, true, false, cond, List, length, Some, None, Ok, Err, Option, Result, refl}
use Rattle.std.proofs.Common.{sym, ap, ◌∙◌, inl, inr}
use Rattle.std.proofs.Props.{props}
use mathlib.Core.HLevel.{is_prop→PathP}
use mathlib.Core.Logic.{∥∥₁_elim, ∥∥₁_map}
use Rattle.refusal.specs.declared.Refusal.{Refusal}
use Rattle.vector.specs.declared.Op.{Op}
use Rattle.vector.specs.declared.Op.TheVariants.{Size}
use Rattle.vector.specs.declared.Answer.{Answer}
use Rattle.vector.specs.declared.Ended.{Ended}
use Rattle.vector.specs.declared.Stepped.{Stepped}
use Rattle.vector.specs.Meaning.{Row as Meant, idle as no_operation, waiting, served, Meaning, Shown, Lawful, row_of, is_open}
use Rattle.vector.specs.Calls.{SetsUp, Begins, Steps, Takes, Ends, Moves, taken, over}
use Rattle.vector.specs.Threads.{task_of, rows_of}
use Rattle.descriptor_steps.specs.Shared.{Shared}
use Rattle.descriptor_vector.specs.declared.table.Table.{Table}
use Rattle.linearization.specs.Names.{Row, Stage, open_at}
use Rattle.linearization.specs.Meaning.{meant, took_effect, answer_of}
use Rattle.linearization.proofs.Tests.{no_way}
use Rattle.linearization.proofs.Threads.{row_meant}
use Rattle.descriptor_vector.specs.Calls.{Prepares, Admits, Advances}
use Rattle.descriptor_vector.specs.Sound.{memory_of, shown, Sound}
use Rattle.descriptor_vector.specs.Keeps.{keeps_set_up, keeps_begin, keeps_step}
use Rattle.descriptor_vector.specs.Keeps as keeps

-- the operation and the number of a row
abbrev op_of : Meant → Op ℕ
op_of no_operation = Size
op_of (waiting op n) = op
op_of (served op n a) = op

abbrev number_of : Meant → ℕ
number_of no_operation = 0
number_of (waiting op n) = n
number_of (served op n a) = n

same_waiting : (op op' : Op ℕ) (n n' : ℕ) → waiting op n ≡ waiting op' n' → op ≡ op'
same_waiting op op' n n' e = ap op_of e

same_served : (op op' : Op ℕ) (n n' : ℕ) (a a' : Answer ℕ) → served op n a ≡ served op' n' a' → op ≡ op'
same_served op op' n n' a a' e = ap op_of e

-- no two threads wait with the same number
abbrev Apart : List Meant → Type 0
Apart rows = (t u n : ℕ) (op op' : Op ℕ) → row_of rows t ≡ waiting op n → row_of rows u ≡ waiting op' n → t ≡ u

takes_same : (m : Meaning) → Apart m.rows → (e : Option ℕ) (b d : Meaning) → Takes m e b → Takes m e d → b ≡ d
takes_same m apart None b d x y = x ∙ sym y
takes_same m apart (Some n) b d x y =
    let t = apart x.0 y.0 n x.1 y.1 x.2 y.2 in
    let o = same_waiting x.1 y.1 n n (sym x.2 ∙ ap (row_of m.rows) t ∙ y.2) in
    x.3 ∙ (λ i. taken m (t i) (o i) n) ∙ sym y.3

takes_once : (m : Meaning) → Apart m.rows → (e : Option ℕ) (b : Meaning) → IsProp (Takes m e b)
takes_once m apart None b x y = let once : IsProp (b ≡ m) = hlevel props in once x y
takes_once m apart (Some n) b x y =
    let t : x.0 ≡ y.0 = apart x.0 y.0 n x.1 y.1 x.2 y.2 in
    let o : x.1 ≡ y.1 = same_waiting x.1 y.1 n n (sym x.2 ∙ ap (row_of m.rows) t ∙ y.2) in
    let here : (u : ℕ) (op : Op ℕ) → IsProp (row_of m.rows u ≡ waiting op n) = hlevel props in
    let after : (u : ℕ) (op : Op ℕ) → IsProp (b ≡ taken m u op n) = hlevel props in
    λ i. (
      t i,
      o i,
      is_prop→PathP (λ j. row_of m.rows (t j) ≡ waiting (o j) n) (λ j. here (t j) (o j)) x.2 y.2 i,
      is_prop→PathP (λ j. b ≡ taken m (t j) (o j) n) (λ j. after (t j) (o j)) x.3 y.3 i,
    )

ends_once : (b : Meaning) (t : ℕ) (e : Option (Ended ℕ)) (m : Meaning) → IsProp (Ends b t e m)
ends_once b t None m x y = let once : IsProp (m ≡ b) = hlevel props in once x y
ends_once b t (Some e) m x y =
    let o : x.0 ≡ y.0 = same_served x.0 y.0 e.number e.number e.answer e.answer (sym x.1 ∙ y.1) in
    let here : (op : Op ℕ) → IsProp (row_of b.rows t ≡ served op e.number e.answer) = hlevel props in
    let after : IsProp (m ≡ over b t) = hlevel props in
    λ i. (o i, is_prop→PathP (λ j. row_of b.rows t ≡ served (o j) e.number e.answer) (λ j. here (o j)) x.1 y.1 i, after x.2 y.2 i)

moves_once : (m : Meaning) → Apart m.rows → (t : ℕ) (x : Stepped ℕ) (m' : Meaning) → IsProp (Moves m t x m')
moves_once m apart t s m' x y =
    let b : x.0 ≡ y.0 = takes_same m apart s.effect x.0 y.0 x.1 y.1 in
    λ i. (
      b i,
      is_prop→PathP (λ j. Takes m s.effect (b j)) (λ j. takes_once m apart s.effect (b j)) x.1 y.1 i,
      is_prop→PathP (λ j. Ends (b j) t s.end m') (λ j. ends_once (b j) t s.end m') x.2 y.2 i,
    )

sets_up_once : {X : Type 0} (s : Shown) (k n : ℕ) (r : Result X Refusal) (s' : Shown) → IsProp (SetsUp s k n r s')
sets_up_once s k n (Ok x) s' = hlevel props
sets_up_once s k n (Err f) s' = hlevel props

begins_once : (s : Shown) (t : ℕ) (op : Op ℕ) (r : Result ℕ Refusal) (s' : Shown) → IsProp (Begins s t op r s')
begins_once s t op (Ok x) s' = hlevel props
begins_once s t op (Err f) s' = hlevel props

steps_once : (s : Shown) → Apart s.meaning.rows → (t : ℕ) (r : Result (Stepped ℕ) Refusal) (s' : Shown) → IsProp (Steps s t r s')
steps_once s apart t (Ok x) s' = let once = moves_once s.meaning apart t x s'.meaning in hlevel (props, once)
steps_once s apart t (Err f) s' = hlevel props

lawful_once : (s : Shown) → IsProp (Lawful s)
lawful_once s = hlevel props

-- the numbers of the rows of a vector that holds together are apart
waits : (s : Shared) (row : Row) (op : Op ℕ) (n : ℕ) → meant s row ≡ waiting op n → (op' : Op ℕ) × (g : Stage) × (row ≡ open_at n op' g)
waits s None op n e = no_way (sym (ap is_open e))
waits s (Some w) op n e = (w.op, w.stage, ap (λ k. open_at k w.op w.stage) (sym (go (took_effect s w.number)) ∙ ap number_of e))
  where
    go : (b : Bool) → number_of (cond b (served w.op w.number (answer_of (s.plan w.number) (s.status w.number))) (waiting w.op w.number)) ≡ w.number
    go true = refl
    go false = refl

apart : (T : Table) (W : List ℕ) → Sound T W → Apart (shown T W).meaning.rows
apart T W (inl e) t u n op op' x y = no_way (sym (ap is_open x) ∙ ap (λ (m : Meaning). is_open (row_of m.rows t)) e ∙ keeps.nobody t)
apart T W (inr run) t u n op op' x y =
    let s = memory_of T W in
    let rows = rows_of T.threads in
    let p = waits s (task_of rows t) op n (sym (row_meant s rows t) ∙ x) in
    let q = waits s (task_of rows u) op' n (sym (row_meant s rows u) ∙ y) in
    run.invariant.apart t u n p.0 q.0 p.1 q.1 p.2 q.2

module _ (T : Table) (W : List ℕ) (sound : ∥ Sound T W ∥₁) where
  pub lawful : Lawful (shown T W)
  lawful = ∥∥₁_elim sound (lawful_once (shown T W)) (keeps.lawful T W)

  all_apart : Apart (shown T W).meaning.rows
  all_apart = let once : IsProp (Apart (shown T W).meaning.rows) = hlevel props in ∥∥₁_elim sound once (apart T W)

  pub stays_set_up : {X : Type 0} (k n : ℕ) (r : Result X Refusal) (T' : Table) (W' : List ℕ) → Prepares T W k n r T' W' → ∥ Sound T' W' ∥₁
  stays_set_up k n r T' W' h = ∥∥₁_map sound (λ s. (keeps_set_up T W k n r T' W' h s).0)

  pub sets_up : {X : Type 0} (k n : ℕ) (r : Result X Refusal) (T' : Table) (W' : List ℕ) → Prepares T W k n r T' W' → SetsUp (shown T W) k n r (shown T' W')
  sets_up k n r T' W' h = ∥∥₁_elim sound (sets_up_once (shown T W) k n r (shown T' W')) (λ s. (keeps_set_up T W k n r T' W' h s).1)

  module _ (few : T.threads.count ≤ 8) (eight : length T.threads.rows ≡ 8) (t : ℕ) where
    pub stays_begun : (op : Op ℕ) (r : Result ℕ Refusal) (T' : Table) (W' : List ℕ) → Admits T W t op r T' W' → ∥ Sound T' W' ∥₁
    stays_begun op r T' W' h = ∥∥₁_map sound (λ s. (keeps_begin T W few eight t op r T' W' h s).0)

    pub begins : (op : Op ℕ) (r : Result ℕ Refusal) (T' : Table) (W' : List ℕ) → Admits T W t op r T' W' → Begins (shown T W) t op r (shown T' W')
    begins op r T' W' h = ∥∥₁_elim sound (begins_once (shown T W) t op r (shown T' W')) (λ s. (keeps_begin T W few eight t op r T' W' h s).1)

    pub stays_stepped : (r : Result (Stepped ℕ) Refusal) (T' : Table) (W' : List ℕ) → Advances T W t r T' W' → ∥ Sound T' W' ∥₁
    stays_stepped r T' W' h = ∥∥₁_map sound (λ s. (keeps_step T W few eight t r T' W' h s).0)

    pub steps : (r : Result (Stepped ℕ) Refusal) (T' : Table) (W' : List ℕ) → Advances T W t r T' W' → Steps (shown T W) t r (shown T' W')
    steps r T' W' h = ∥∥₁_elim sound (steps_once (shown T W) all_apart t r (shown T' W')) (λ s. (keeps_step T W few eight t r T' W' h s).1)
