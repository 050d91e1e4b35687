use Rattle.std.proofs.Common.{ℕ, Bool, not, List, refl, ◌∙◌, rules, tests}
use Rattle.std.proofs.lemmas.Iterator.Consumers.{YieldsList-from_first}
use Rattle.std.proofs.lemmas.Iterator.Search.{any_from_yields_List}
use Rattle.script.specs.Entries.{row_of}
use Rattle.script.specs.Lines.{lines_of, skipped}
use Rattle.script.proofs.Cuts.{any_header}
use Rattle.script.proofs.texts.has_header_line.Goals as goal

pub returns : goal.returns
returns c =
    let test : List ℕ × Bool → Bool = λ l. not (skipped l.0) in
    let lines = lines_of c.args.bytes.now in
    any_from_yields_List test c.any.new.self _ _ c.any.ensures.ran (YieldsList-from_first row_of (λ rows. lines_of rows.bytes.now) lines refl) (λ x b q k. search (rules, tests))
    ∙ any_header lines
