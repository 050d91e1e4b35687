-- Every step of a thread has one of the outcomes, at each of the stages.
use Rattle.std.proofs.Common.{ℕ}
use Rattle.vector.specs.declared.Op.{Op}
use Rattle.linearization.specs.Invariant.{Facts}
use Rattle.linearization.specs.Knowledge.{Puts, Thread}
use Rattle.descriptor_steps.specs.Machine.{act}
use Rattle.descriptor_steps.specs.Shared.{Shared}
use Rattle.linearization.specs.Names.{Stage, L1, L2, L3, P1, L4, H1, H2, G1, G2, G3, G4, G5, G5w, G6, G7, O1, R1, R2, R3, W1, W2, W3}
use Rattle.linearization.proofs.AtG.{at_G1, at_G2, at_G3, at_G4, at_G5, at_G5w, at_G6, at_G7, at_O1}
use Rattle.linearization.proofs.AtH.{at_H1, at_H2}
use Rattle.linearization.proofs.AtL.{at_L1, at_L2, at_L3, at_P1, at_L4}
use Rattle.linearization.proofs.AtRW.{at_R1, at_R2, at_R3, at_W1, at_W2, at_W3}
use Rattle.linearization.proofs.Outcomes.{Outcome}

pub outcome : {s : Shared} {put : Puts} (g : Facts s put) (n : ℕ) (op : Op ℕ) (x : Stage) → Thread s put n op x → Outcome s put n op (act s n op x)
outcome g n op L1 l = at_L1 g n op l
outcome g n op (L2 c) l = at_L2 g n op c l
outcome g n op (L3 c a) l = at_L3 g n op c a l
outcome g n op (P1 c m x) l = at_P1 g n op c m x l
outcome g n op (L4 c p) l = at_L4 g n op c p l
outcome g n op (H1 c r) l = at_H1 g n op c r l
outcome g n op (H2 c r) l = at_H2 g n op c r l
outcome g n op (G1 c r) l = at_G1 g n op c r l
outcome g n op (G2 c a k j r) l = at_G2 g n op c a k j r l
outcome g n op (G3 c w r) l = at_G3 g n op c w r l
outcome g n op (G4 c a j r) l = at_G4 g n op c a j r l
outcome g n op (G5 c r) l = at_G5 g n op c r l
outcome g n op (G5w c a j r) l = at_G5w g n op c a j r l
outcome g n op (G6 c a j b r) l = at_G6 g n op c a j b r l
outcome g n op (G7 c b r) l = at_G7 g n op c b r l
outcome g n op O1 l = at_O1 g n op l
outcome g n op (R1 i) l = at_R1 g n op i l
outcome g n op (R2 i a k j) l = at_R2 g n op i a k j l
outcome g n op (R3 i a k j) l = at_R3 g n op i a k j l
outcome g n op (W1 i x) l = at_W1 g n op i x l
outcome g n op (W2 i x a k j) l = at_W2 g n op i x a k j l
outcome g n op (W3 i x w) l = at_W3 g n op i x w l
