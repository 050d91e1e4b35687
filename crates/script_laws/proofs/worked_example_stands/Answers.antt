use Rattle.std.proofs.Common.{refl}
use Rattle.std.specs.Fmt.{digits}
use Rattle.script_laws.proofs.worked_example_stands.Goals as goal

pub returns : goal.returns
unfolding digits
returns c = record { read = refl; listed = refl }
