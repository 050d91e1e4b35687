use Rattle.std.proofs.Common.{◌<◌, length, refl, sym, arith, rules}
use Rattle.std.proofs.lemmas.Bool.{eqb-false}
use Rattle.script.proofs.Cuts.{row_first, row_shorter}
use Rattle.script.proofs.texts.RowsIterator.next.Goals as goal

pub returns-clause-steps : goal.returns-clause-steps
returns-clause-steps c =
    let bytes = c.args.self.now.bytes.now in
    let some : 0 < length bytes = omega (arith, eqb-false (length bytes) 0 (sym c.if-is_empty.ensures)) in
    let h = row_first bytes c.split.result.1 c.unwrap_or-self.result _ c.split.ensures.after some c.unwrap_or-self.ensures refl in
    rw (c.split.ensures.before, c.is_some.ensures) h

pub returns-clause-goes : goal.returns-clause-goes
returns-clause-goes c =
    let bytes = c.args.self.now.bytes.now in
    let some : 0 < length bytes = omega (arith, eqb-false (length bytes) 0 (sym c.if-is_empty.ensures)) in
    let h : length c.unwrap_or-self.result.now < length bytes = row_shorter bytes c.split.result.1 c.unwrap_or-self.result _ c.split.ensures.after some c.unwrap_or-self.ensures refl in
    search (rules, h)
