use Rattle.script_laws.proofs.Back.{read_back, number_back, point_back}
use Rattle.script_laws.proofs.begin_lines_are_script_lines.Goals as goal

pub returns : goal.returns
returns c = record { numbers = read_back _ _ _ number_back; points = read_back _ _ _ point_back }
