use Rattle.std.proofs.Common.{true, false, sym}
use Rattle.script.proofs.Cuts.{ascii_is}
use Rattle.script.proofs.texts.Row.of_form.Goals as goal
use Rattle.script.proofs.texts.Row.of_form.Goals.{else-self-via-then-self+else-is_ascii, else-self-via-else-self}

pub returns-then-is_ascii : goal.returns-then-is_ascii
returns-then-is_ascii c = rw (c.if-self.true, sym (ascii_is _ true c.if-is_ascii.ensures.cases))

pub returns-else-self : goal.returns-else-self
returns-else-self c = elim c.else-self.branch [
  | else-self-via-then-self+else-is_ascii w ↦ rw (w.if-self.true, sym (ascii_is _ false w.if-is_ascii.ensures.cases))
  | else-self-via-else-self w ↦ rw w.if-self.false
]
