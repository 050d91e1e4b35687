use Rattle.std.proofs.Common.{refl}
use Rattle.script.specs.Items.{number_item, point_item}
use Rattle.script_laws.proofs.Back.{number_back, point_back}
use Rattle.script_laws.proofs.Determines.{determines, number_line, point_line}
use Rattle.script_laws.proofs.listing_determines_the_log.Goals as goal

pub returns : goal.returns
returns c = record {
  numbers = determines _ number_item _ number_back number_line refl refl;
  points = determines _ point_item _ point_back point_line refl refl;
}
