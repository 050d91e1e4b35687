use Rattle.script_laws.proofs.Decimals.{shortest_decimals}
use Rattle.script_laws.proofs.decimals_are_shortest.Goals as goal

pub returns : goal.returns
returns c = shortest_decimals
