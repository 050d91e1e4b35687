use Rattle.std.proofs.Common.{refl}
use Rattle.script.specs.Items.{point_at}
use Rattle.script.proofs.examples.examples_hold.Goals as goal

pub returns : goal.returns
unfolding point_at
returns c = record {
  number_items = record { zeros = refl; eleven = refl; minus_ten = refl; minus_zero = refl; least = refl; below = refl; most = refl; above = refl; none = refl; minus_alone = refl; plus = refl; decimal = refl; point = refl };
  coordinates = record { half = refl; minus_half = refl; below_half = refl; at_half = refl; to_zero = refl; from_zero = refl; no_whole = refl; no_tenth = refl; two_decimals = refl; ten_digits = refl; eleven_digits = refl };
  point_items = record { rounded = refl; past = refl; past_below = refl; form_first = refl; two = refl; four = refl; number = refl };
  commands = record { push = refl; pop = refl; read = refl; write = refl; size = refl; steps = refl; most_steps = refl; no_steps = refl; many_steps = refl; large_thread = refl; large_index = refl; minus_thread = refl; minus_index = refl; minus_count = refl; two_spaces = refl; space_first = refl; space_last = refl; space_alone = refl; return = refl; other_letter = refl; two_letters = refl; header = refl; form_first = refl; range_next = refl };
  header_lines = record { all_first = refl; all_second = refl; large = refl; exchanged = refl; capital = refl; four_letters = refl; no_threads = refl; one_more = refl; minus = refl };
  scripts = record { empty = refl; comments = refl; odd_comment = refl; header_alone = refl; no_line_feed = refl; no_header = refl; spaced_comment = refl; odd_before = refl; control_bytes = refl; lines = refl };
}
