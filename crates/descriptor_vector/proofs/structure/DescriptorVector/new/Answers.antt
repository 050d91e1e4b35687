-- What is just made means nothing yet.
use Rattle.std.proofs.Common.{◌≡◌, ℕ, List, ◌∙◌, inl}
use Rattle.vector.specs.Meaning.{unset}
use Rattle.vector.specs.Threads.{idle_threads}
use Rattle.vector.specs.declared.threads.Threads.{Threads}
use Rattle.descriptor_steps.specs.declared.stage.Plans.{Plans}
use Rattle.descriptor_steps.specs.Steps.{no_plans}
use Rattle.linearization.specs.Names.{Stage}
use Rattle.descriptor_vector.specs.Sound.{shown}
use Rattle.descriptor_vector.specs.Fresh.{means_nothing}
use Rattle.descriptor_vector.proofs.structure.DescriptorVector.new.Goals as goal

made : (words : List ℕ) (threads : Threads Stage) (plans : Plans) → threads ≡ idle_threads 0 0 → plans ≡ no_plans
    → (shown (record { threads = threads; plans = plans }) words).meaning ≡ unset
made words threads plans p q = (λ i. (shown (record { threads = p i; plans = q i }) words).meaning) ∙ means_nothing words

pub invariant_of-result-clause-sound : goal.invariant_of-result-clause-sound
invariant_of-result-clause-sound g c = ∣ inl (made (g.M.Memory.words c.args.memory) c.new.result c.new-2.result c.new.ensures c.new-2.ensures) ∣₁

pub returns-clause-unset : goal.returns-clause-unset
returns-clause-unset g c = made (g.M.Memory.words c.args.memory) c.new.result c.new-2.result c.new.ensures c.new-2.ensures
