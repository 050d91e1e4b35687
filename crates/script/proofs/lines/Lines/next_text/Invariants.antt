use Rattle.std.proofs.Common.{◌≡◌, ◌≤◌, length}
use Rattle.script.specs.Reading.{texts_left}
use Rattle.script.proofs.lines.Lines.next_text.Given as goal

abbrev pub invariant-loop-row : goal.invariant-loop-row
invariant-loop-row l = record {
  same : texts_left l.initial.self ≡ texts_left l.self;
  within : length l.self.rest.bytes.now ≤ length l.initial.self.rest.bytes.now;
}

abbrev pub decreases-loop-row : goal.decreases-loop-row
decreases-loop-row l = length l.self.rest.bytes.now
