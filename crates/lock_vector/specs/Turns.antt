-- A turn: a thread of a running vector at a stage of its open operation. What the stage leads to is one of three things, and each
-- keeps the vector running and is a step of its meaning: on to another stage, an effect, the end.
use Rattle.std.specs.Prelude.{◌≡◌, ℕ, ◌-◌, ◌<◌, ◌≤◌, Bool, true, false, ◌≢◌, List, length, set, Some, None, sum_by, Option, slice_index, slice_set, refl}
use Rattle.std.proofs.Common.{sym, ap, subst, ◌∙◌, inl, inr, true≢false, arith}
use Rattle.std.proofs.lemmas.List.{length-set}
use Rattle.std.proofs.lemmas.Bool.{cases_eq}
use Rattle.vector.specs.declared.Op.{Op}
use Rattle.vector.specs.declared.Answer.{Answer}
use Rattle.vector.specs.declared.Stepped.{Stepped}
use Rattle.vector.specs.declared.threads.Task.{Task}
use Rattle.vector.specs.declared.threads.Threads.{Threads}
use Rattle.vector.specs.Plain.{answer, after, Small}
use Rattle.vector.specs.Meaning.{waiting, served, row_of, Alone}
use Rattle.vector.specs.Calls.{Moves, taken}
use Rattle.vector.specs.Threads.{task_of, with_row, rows_of}
use Rattle.vector.proofs.Tasks.{same_meaning, row_kept, means, rows_after, task_set_same, task_set_other, at_tasks, left_after}
use Rattle.lock_vector.specs.declared.stages.Swapping.TheVariants.{K6}
use Rattle.lock_vector.specs.declared.stages.Stage.{Stage}
use Rattle.lock_vector.specs.declared.stages.Stage.TheVariants.{Swap}
use Rattle.lock_vector.specs.declared.stages.Moved.{Moved}
use Rattle.lock_vector.specs.Stages.{quiet, effected, finished}
use Rattle.lock_vector.specs.Meaning.{items, meant, meant_at, rank, rank_at, shown, inside, inside_at, Seen, Inside, Lock, free, held, WordsFit, Known, Running}

pub no_way : {A : Type 0} → ◌≡◌ {A = Bool} true false → A
no_way e = absurd (true≢false e)

abbrev pub task : ℕ → Op ℕ → Stage → Task Stage
task n op s = record { number = n; op = op; stage = s }

pub record Turn (T : Threads Stage) (W : List ℕ) (t number : ℕ) (op : Op ℕ) (stage : Stage) : Type 0 where
  pub running : Running T W
  pub low : 1 ≤ t
  pub high : t ≤ T.count
  pub at : task_of T.rows t ≡ Some (task number op stage)

-- what is shown of a granted step
pub record Good (T : Threads Stage) (W : List ℕ) (t : ℕ) (s : Stepped ℕ) (T' : Threads Stage) (W' : List ℕ) : Type 0 where
  pub runs : Running T' W'
  pub moves : Moves (shown T W).meaning t s (shown T' W').meaning
  pub falls : Alone (shown T W).meaning.rows t → (shown T' W').left < (shown T W).left

-- the stage leads to m, with the words W' then
abbrev pub Leads : Threads Stage → List ℕ → ℕ → Moved → List ℕ → Type 0
Leads T W t m W' = Good T W t m.stepped (with_row T t m.row) W'

-- no thread but t is inside
abbrev Others : Threads Stage → ℕ → Type 0
Others T t = (u : ℕ) → u ≢ t → inside (task_of T.rows u) ≡ false

module _ {T : Threads Stage} {W : List ℕ} {t number : ℕ} {op : Op ℕ} {stage : Stage} (turn : Turn T W t number op stage) where
  abbrev c : ℕ
  c = T.capacity

  few : T.count ≤ length T.rows
  few = let a = turn.running.few in let b = turn.running.eight in omega arith

  long : t ≤ length T.rows
  long = let a = few in let h = turn.high in omega arith

  pub known : (1 ≤ number) × (number ≤ T.given) × Small op
  known = subst (Known T.given) turn.at (turn.running.known t)

  -- who is inside has the lock alone
  pub mine : inside_at stage ≡ true → (slice_index W 0 ≡ number) × Seen c W stage op × Others T t
  mine i = go turn.running.lock
    where
      go : Lock c T.count W T.rows → (slice_index W 0 ≡ number) × Seen c W stage op × Others T t
      go (free z out) = no_way (sym i ∙ sym (ap inside turn.at) ∙ out t)
      go (held u l h out) = elim (cases_eq t u) [
        | inl e ↦ let k : Inside c W (Some (task number op stage)) = subst (Inside c W) turn.at (rw e h) in (k.0, k.1, λ v ne. out v (λ q. ne (q ∙ sym e)))
        | inr ne ↦ no_way (sym i ∙ sym (ap inside turn.at) ∙ out t ne)
      ]

  now_held : (row : Option (Task Stage)) (W' : List ℕ) → Inside c W' row → Others T t → Lock c T.count W' (slice_set T.rows (t - 1) row)
  now_held row W' h others =
      held t turn.high (subst (Inside c W') (sym (task_set_same T.rows t row turn.low long)) h)
      (λ u ne. ap inside (task_set_other T.rows t u row turn.low ne) ∙ others u ne)

  now_free : (row : Option (Task Stage)) (W' : List ℕ) → slice_index W' 0 ≡ 0 → inside row ≡ false → Others T t → Lock c T.count W' (slice_set T.rows (t - 1) row)
  now_free row W' z h others = free z (at_tasks (λ _ r. inside r ≡ false) T.rows t row turn.low long h others)

  now_runs : (row : Option (Task Stage)) (W' : List ℕ) → Known T.given row → WordsFit c W' → Lock c T.count W' (slice_set T.rows (t - 1) row) → Running (with_row T t row) W'
  now_runs row W' k fit lock = record {
    some = turn.running.some;
    few = turn.running.few;
    eight = length-set T.rows (t - 1) row ∙ turn.running.eight;
    fit = fit;
    known = at_tasks (λ _. Known T.given) T.rows t row turn.low long k (λ u _. turn.running.known u);
    lock = lock;
  }

  row_means : row_of (shown T W).meaning.rows t ≡ meant_at stage op number
  row_means = means meant refl T.count T.rows few t turn.high ∙ ap meant turn.at

  rows_now : (row : Option (Task Stage)) → (shown (with_row T t row) W).meaning.rows ≡ slice_set (shown T W).meaning.rows (t - 1) (meant row)
  rows_now row = rows_after meant refl T.count T.rows few t row turn.low turn.high

  less : (row : Option (Task Stage)) → rank row < rank_at stage → sum_by rank (rows_of (with_row T t row)) < sum_by rank (rows_of T)
  less row l =
      let e = ap rank turn.at in
      left_after rank T.count T.rows few t turn.low turn.high row (omega arith)

  -- quietly on to another stage inside
  pub on : (next : Stage) (W' : List ℕ) → meant_at stage op number ≡ waiting op number → meant_at next op number ≡ waiting op number
      → rank_at next < rank_at stage → items c W' ≡ items c W → WordsFit c W' → Inside c W' (Some (task number op next)) → Others T t
      → Leads T W t (quiet (task number op stage) next) W'
  on next W' w w' l e fit h others =
      let row : Option (Task Stage) = Some (task number op next) in
      record {
        runs = now_runs row W' known fit (now_held row W' h others);
        moves = (
          (shown T W).meaning,
          refl,
          same_meaning refl e (rows_now row ∙ row_kept (shown T W).meaning.rows t (meant_at next op number) turn.low (row_means ∙ w ∙ sym w')) refl,
        );
        falls = λ _. less row l;
      }

  -- with an effect
  pub takes : (a : Answer ℕ) (W' : List ℕ) → meant_at stage op number ≡ waiting op number → 1 < rank_at stage
      → a ≡ answer c (items c W) op → items c W' ≡ after c (items c W) op → WordsFit c W' → slice_index W' 0 ≡ number → Others T t
      → Leads T W t (effected (task number op stage) a) W'
  takes a W' w l q e fit h others =
      let row : Option (Task Stage) = Some (task number op (Swap (K6 a))) in
      record {
        runs = now_runs row W' known fit (now_held row W' (h, tt) others);
        moves = (
          taken (shown T W).meaning t op number,
          (t, op, row_means ∙ w, refl),
          same_meaning refl e (rows_now row ∙ ap (λ b. set (shown T W).meaning.rows (t - 1) (served op number b)) q) refl,
        );
        falls = λ _. less row l;
      }

  -- the end
  pub ends : (a : Answer ℕ) (W' : List ℕ) → meant_at stage op number ≡ served op number a → 0 < rank_at stage
      → items c W' ≡ items c W → WordsFit c W' → slice_index W' 0 ≡ 0 → Others T t
      → Leads T W t (finished (task number op stage) a) W'
  ends a W' w l e fit h others = record {
    runs = now_runs None W' tt fit (now_free None W' h refl others);
    moves = (
      (shown T W).meaning,
      refl,
      (op, row_means ∙ w, same_meaning refl e (rows_now None) refl),
    );
    falls = λ _. less None l;
  }
