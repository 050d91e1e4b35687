-- What each call does to the fields of the direct container.
use Rattle.std.specs.Prelude.{◌≡◌, ℕ, suc, true, List, [], is_some, Some, None, Option, Result}
use Rattle.refusal.specs.declared.Refusal.{Refusal}
use Rattle.vector.specs.Plain.{answer, after}
use Rattle.vector.specs.Refusals.{Judged, set_up_rows, begin_rows, step_rows}
use Rattle.vector.specs.Threads.{idle_threads, task_of, with_row, begun_by}
use Rattle.vector.specs.declared.Op.{Op}
use Rattle.vector.specs.declared.Stepped.{Stepped}
use Rattle.direct.specs.Shows.{Own, whole}
use Rattle.direct.specs.declared.Direct.{Direct}

-- the values that it holds
abbrev pub held : Direct → List ℕ
held d = d.values.items

-- the operation of a thread, if it has one
abbrev pub own : Direct → ℕ → Option Own
own d t = task_of d.threads.rows t

-- set-up: an empty vector, and no operation
abbrev pub Prepares : {X : Type 0} → Direct → ℕ → ℕ → Result X Refusal → Direct → Type 0
Prepares d capacity threads r d' =
    Judged (set_up_rows d.threads.capacity capacity threads 0 0 true) r (d' ≡ d)
    (λ _. (d'.threads ≡ idle_threads capacity threads) × (held d' ≡ []))

-- begin: the operation waits in the row of its thread, with the next number
abbrev pub Admits : Direct → ℕ → Op ℕ → Result ℕ Refusal → Direct → Type 0
Admits d t op r d' =
    Judged (begin_rows d.threads.count t (is_some (own d t)) 400 d.threads.given d.threads.capacity op) r (d' ≡ d)
    (λ n. (n ≡ suc d.threads.given) × (d'.threads ≡ begun_by d.threads t (record { number = n; op = op; stage = tt })) × (held d' ≡ held d))

-- what a granted step does with the operation of its thread; without one no step is granted
abbrev pub Does : Direct → ℕ → Option Own → Stepped ℕ → Direct → Type 0
Does d t None s d' = ⊥
Does d t (Some w) s d' =
    (s ≡ whole w.number (answer d.threads.capacity (held d) w.op))
    × (d'.threads ≡ with_row d.threads t None)
    × (held d' ≡ after d.threads.capacity (held d) w.op)

-- step: the operation of the thread takes effect and ends
abbrev pub Performs : Direct → ℕ → Result (Stepped ℕ) Refusal → Direct → Type 0
Performs d t r d' = Judged (step_rows d.threads.count t (is_some (own d t))) r (d' ≡ d) (λ s. Does d t (own d t) s d')
