-- What the stages are for: the code takes them family by family.
use Rattle.descriptor_steps.specs.Machine.{Stage, L1, L2, L3, P1, L4, H1, H2, G1, G2, G3, G4, G5, G5w, G6, G7, O1, R1, R2, R3, W1, W2, W3}

-- To find out where the vector stands and install the own operation, to carry out a push or a pop, to read, or to write.
pub data Purpose : Type 0 where
  looking : Purpose
  pushing_on : Purpose
  popping_on : Purpose
  reading : Purpose
  writing : Purpose

abbrev pub purpose : Stage → Purpose
purpose L1 = looking
purpose (L2 c) = looking
purpose (L3 c a) = looking
purpose (P1 c m x) = looking
purpose (L4 c p) = looking
purpose (H1 c r) = pushing_on
purpose (H2 c r) = pushing_on
purpose (G1 c r) = popping_on
purpose (G2 c a k j r) = popping_on
purpose (G3 c w r) = popping_on
purpose (G4 c a j r) = popping_on
purpose (G5 c r) = popping_on
purpose (G5w c a j r) = popping_on
purpose (G6 c a j b r) = popping_on
purpose (G7 c b r) = popping_on
purpose O1 = popping_on
purpose (R1 i) = reading
purpose (R2 i a k j) = reading
purpose (R3 i a k j) = reading
purpose (W1 i x) = writing
purpose (W2 i x a k j) = writing
purpose (W3 i x w) = writing
