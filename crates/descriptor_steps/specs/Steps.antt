-- The step table over words: what each stage asks of the memory, and where what it finds leads.
use Rattle.std.specs.Prelude.{ℕ, Bool, true, false, cond, replicate, Some, None, Option, slice_index_or, slice_set}
use Rattle.memory.specs.declared.Swapped.TheVariants.{Yes, No}
use Rattle.descriptor_words.specs.declared.access.Access.{Access}
use Rattle.descriptor_words.specs.declared.access.Access.TheVariants.{LoadCurrent, LoadStatus, LoadCell, SwapCurrent, SwapStatus, SwapCell}
use Rattle.descriptor_words.specs.declared.access.Found.{Found}
use Rattle.descriptor_words.specs.declared.access.Found.TheVariants as found
use Rattle.vector.specs.declared.Op.{Op}
use Rattle.vector.specs.declared.Answer.TheVariants.{Done}
use Rattle.vector.specs.declared.Stepped.{Stepped}
use Rattle.descriptor_steps.specs.declared.stage.Moved.{Moved}
use Rattle.descriptor_steps.specs.declared.stage.Plans.{Plans}
use Rattle.descriptor_steps.specs.Shared.{Cell, empty, plain, frozen, Status, pending, done, final, Plan, Shared, position, pushed, emptied_by, value_in}
use Rattle.descriptor_steps.specs.Machine.{Stage, L1, L2, L3, P1, L4, H1, H2, G1, G2, G3, G4, G5, G5w, G6, G7, O1, R1, R2, R3, W1, W2, W3, Next, goto, end, own, help, go_on, Res, act, ended}

-- No number has a plan; the plan of a number; and with another plan of number n.
abbrev pub no_plans : Plans
no_plans = record { by_number = replicate 401 None }

abbrev pub plan_of : Plans → ℕ → Option Plan
plan_of plans k = slice_index_or plans.by_number k None

abbrev pub with_plan : Plans → ℕ → Plan → Plans
with_plan plans n p = record { by_number = slice_set plans.by_number n (Some p) }

-- The one access of a stage, of the operation with number n.
abbrev pub access : (ℕ → Option Plan) → ℕ → Stage → Access
access plan n L1 = LoadCurrent
access plan n (L2 c) = LoadStatus c
access plan n (L3 c a) = LoadCurrent
access plan n (P1 c m x) = LoadCell m
access plan n (L4 c p) = SwapCurrent c n
access plan n (H1 c r) = SwapCell (position (plan c)) (empty (emptied_by (plan c))) (plain (pushed (plan c)))
access plan n (H2 c r) = SwapStatus c pending (final 0)
access plan n (G1 c r) = LoadCell (position (plan c))
access plan n (G2 c a k j r) = LoadStatus k
access plan n (G3 c w r) = SwapCell (position (plan c)) w (frozen (value_in w) c n)
access plan n (G4 c a j r) = SwapStatus c pending (done a)
access plan n (G5 c r) = LoadStatus c
access plan n (G5w c a j r) = LoadStatus c
access plan n (G6 c a j b r) = SwapCell (position (plan c)) (frozen a c j) (empty c)
access plan n (G7 c b r) = SwapStatus c (done b) (final b)
access plan n O1 = LoadStatus n
access plan n (R1 i) = LoadCell i
access plan n (R2 i a k j) = LoadStatus k
access plan n (R3 i a k j) = LoadCell i
access plan n (W1 i x) = LoadCell i
access plan n (W2 i x a k j) = LoadStatus k
access plan n (W3 i x w) = SwapCell i w (plain x)

-- What a stage reads of what its access found; what it did not ask for it never reads.
abbrev pub number_found : Found → ℕ
number_found (found.Number k) = k
number_found (found.Status s) = 0
number_found (found.Cell c) = 0
number_found (found.Swap b) = 0

abbrev pub status_found : Found → Status
status_found (found.Number k) = pending
status_found (found.Status s) = s
status_found (found.Cell c) = pending
status_found (found.Swap b) = pending

abbrev pub cell_found : Found → Cell
cell_found (found.Number k) = empty 0
cell_found (found.Status s) = empty 0
cell_found (found.Cell c) = c
cell_found (found.Swap b) = empty 0

abbrev pub took : Found → Bool
took (found.Number k) = false
took (found.Status s) = false
took (found.Cell c) = false
took (found.Swap Yes) = true
took (found.Swap No) = false

-- All that a stage that loads sees of the memory: what it found stands at every place.
abbrev pub seen : Plans → ℕ → Found → Shared
seen plans capacity f =
    record { cur = number_found f; status = λ _. status_found f; cell = λ _. cell_found f; plan = plan_of plans; cap = capacity }

-- A step leads on, or takes effect for an operation, or installs a plan.
abbrev pub to : Next → Moved
to x = record { next = x; served = None; plan = None }

abbrev pub serves : ℕ → Next → Moved
serves k x = record { next = x; served = Some k; plan = None }

abbrev pub installs : Plan → Next → Moved
installs p x = record { next = x; served = None; plan = Some p }

abbrev pub moved : Res → Moved
moved r = record { next = r.nx; served = r.served; plan = None }

-- Where a stage leads: a load by the machine's table at what it sees, a swap by whether it took place.
abbrev pub leads : Shared → Bool → ℕ → Op ℕ → Stage → Moved
leads s took n op L1 = moved (act s n op L1)
leads s took n op (L2 c) = moved (act s n op (L2 c))
leads s took n op (L3 c a) = moved (act s n op (L3 c a))
leads s took n op (P1 c m x) = moved (act s n op (P1 c m x))
leads s took n op (L4 c p) = cond took (installs p (goto (help n (Some p) own))) (to (goto L1))
leads s took n op (H1 c r) = cond took (serves c (goto (H2 c r))) (to (goto (H2 c r)))
leads s took n op (H2 c r) = to (go_on (s.plan c) r)
leads s took n op (G1 c r) = moved (act s n op (G1 c r))
leads s took n op (G2 c a k j r) = moved (act s n op (G2 c a k j r))
leads s took n op (G3 c w r) = cond took (to (goto (G4 c (value_in w) n r))) (to (goto (G1 c r)))
leads s took n op (G4 c a j r) = cond took (serves c (goto (G6 c a j a r))) (to (goto (G5w c a j r)))
leads s took n op (G5 c r) = moved (act s n op (G5 c r))
leads s took n op (G5w c a j r) = moved (act s n op (G5w c a j r))
leads s took n op (G6 c a j b r) = to (goto (G7 c b r))
leads s took n op (G7 c b r) = to (go_on (s.plan c) r)
leads s took n op O1 = moved (act s n op O1)
leads s took n op (R1 i) = moved (act s n op (R1 i))
leads s took n op (R2 i a k j) = moved (act s n op (R2 i a k j))
leads s took n op (R3 i a k j) = moved (act s n op (R3 i a k j))
leads s took n op (W1 i x) = moved (act s n op (W1 i x))
leads s took n op (W2 i x a k j) = moved (act s n op (W2 i x a k j))
leads s took n op (W3 i x w) = cond took (serves n (end Done)) (to (goto (W1 i x)))

-- The plans after a step.
abbrev pub plans_after : Plans → ℕ → Option Plan → Plans
plans_after plans n None = plans
plans_after plans n (Some p) = with_plan plans n p

-- What a step tells.
abbrev pub tells : ℕ → Moved → Stepped ℕ
tells n m = record { effect = m.served; end = ended n m.next }
