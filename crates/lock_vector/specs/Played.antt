-- Played runs: what the step table tells in turn when threads take their steps, by computation.
use Rattle.std.specs.Prelude.{◌≡◌, ℕ, ◌-◌, List, [], ◌∷◌, ◌++◌, replicate, Some, None}
use Rattle.vector.specs.declared.Op.TheVariants.{Push, Size}
use Rattle.vector.specs.declared.Answer.{Answer}
use Rattle.vector.specs.declared.Answer.TheVariants.{Position, Length}
use Rattle.vector.specs.declared.Stepped.{Stepped}
use Rattle.vector.specs.declared.threads.Threads.{Threads}
use Rattle.vector.specs.Threads.{idle_threads, task_of, with_row}
use Rattle.lock_vector.specs.declared.stages.Stage.{Stage}
use Rattle.lock_vector.specs.Calls.{moved_row, stored_row, admitted}

-- what the steps of these threads tell, in turn
abbrev pub run : List ℕ → Threads Stage → List ℕ → List (Stepped ℕ)
run [] T words = []
run (t ∷ ts) T words =
    (moved_row T.capacity words (task_of T.rows t)).stepped
    ∷ run ts (with_row T t (moved_row T.capacity words (task_of T.rows t)).row) (stored_row words (task_of T.rows t))

-- a step tells of no effect and no end
abbrev pub nothing : Stepped ℕ
nothing = record { effect = None; end = None }

-- operation n takes effect
abbrev pub effect_of : ℕ → Stepped ℕ
effect_of n = record { effect = Some n; end = None }

-- operation n ends with an answer
abbrev pub end_of : ℕ → Answer ℕ → Stepped ℕ
end_of n a = record { effect = None; end = Some (record { number = n; answer = a }) }

-- a push alone on a fresh vector takes six steps: the effect at step k, and the answer position 0 at the sixth
abbrev pub FreshPush : ℕ → Type 0
FreshPush k =
    run (replicate 6 1) (admitted (idle_threads 2 1) 1 (Push 17)) (replicate 403 0)
    ≡ replicate (k - 1) nothing ++ effect_of 1 ∷ end_of 1 (Position 0) ∷ []

-- thread 2 asks for the size while thread 1 has the lock for a push: it waits, and then answers 1
abbrev pub WaitingSize : Type 0
WaitingSize =
    run (1 ∷ 2 ∷ 1 ∷ 1 ∷ 1 ∷ 1 ∷ 2 ∷ 1 ∷ 2 ∷ 2 ∷ 2 ∷ []) (admitted (admitted (idle_threads 2 2) 1 (Push 17)) 2 Size) (replicate 403 0)
    ≡ nothing ∷ nothing ∷ nothing ∷ nothing ∷ nothing ∷ effect_of 1 ∷ nothing ∷ end_of 1 (Position 0) ∷ nothing ∷ effect_of 2 ∷ end_of 2 (Length 1) ∷ []
