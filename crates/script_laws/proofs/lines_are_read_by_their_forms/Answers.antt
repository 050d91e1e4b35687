use Rattle.script_laws.proofs.Items.{number_items, point_items}
use Rattle.script_laws.proofs.Lines.{reads_just}
use Rattle.script_laws.proofs.lines_are_read_by_their_forms.Goals as goal

pub returns : goal.returns
returns c = record { numbers = reads_just _ _ number_items; points = reads_just _ _ point_items }
