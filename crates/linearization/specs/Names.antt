-- The stages, plans and rows of the step table, by short names.
pub use Rattle.descriptor_steps.specs.declared.stage.Plan.{Plan}
pub use Rattle.descriptor_steps.specs.declared.stage.Plan.TheVariants.{Pushing as pushing, Popping as popping}
pub use Rattle.descriptor_steps.specs.declared.stage.Then.{Then}
pub use Rattle.descriptor_steps.specs.declared.stage.Then.TheVariants.{Own as own, ToL1 as to_L1, ToW1 as to_W1}
pub use Rattle.descriptor_steps.specs.declared.stage.Stage.{Stage}
pub use Rattle.descriptor_steps.specs.declared.stage.Stage.TheVariants.{L1, L2, L3, P1, L4, H1, H2, G1, G2, G3, G4, G5, G5w, G6, G7, O1, R1, R2, R3, W1, W2, W3}
pub use Rattle.descriptor_steps.specs.declared.stage.Next.{Next}
pub use Rattle.descriptor_steps.specs.declared.stage.Next.TheVariants.{Goto as goto, End as end}
pub use Rattle.descriptor_steps.specs.Machine.{Row, idle, open_at}
