use Rattle.vector.proofs.Plainly.{after_pop_take}
use Rattle.std.proofs.Common.{sym, ap, ◌∙◌}
use Rattle.std.specs.List.{slice_get}
use Rattle.vector.specs.Plain.{value_or_out}
use Rattle.direct.proofs.Values.{got_is, popped_is, value_is}
use Rattle.direct.proofs.plain.perform.Goals as goal

pub returns-in-Pop-clause-answers : goal.returns-in-Pop-clause-answers
returns-in-Pop-clause-answers c = rw c.in-Pop.is (popped_is _ _ _ c.pop.ensures.value c.map_or.ensures)

pub returns-in-Pop-clause-holds : goal.returns-in-Pop-clause-holds
returns-in-Pop-clause-holds c = rw c.in-Pop.is (c.pop.ensures.rest ∙ sym (after_pop_take _))

pub returns-in-Read-clause-answers : goal.returns-in-Read-clause-answers
returns-in-Read-clause-answers c =
    let found = got_is _ _ _ c.get.ensures.lookup.0 c.get.ensures.lookup.1 in
    let here = ap (λ xs. slice_get xs c.in-Read.i) c.deref.ensures.0 in
    rw c.in-Read.is (value_is _ _ c.map_or-in-Read.ensures ∙ ap value_or_out (c.copied.ensures ∙ found ∙ here))
