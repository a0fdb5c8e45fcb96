use Rattle.std.proofs.Common.{◌≡◌, ◌∙◌, ◌<◌, ◌∷◌, [], Some, None, length, sym, arith}
use Rattle.ds_store_journal.specs.Standings.{before_in}
use Rattle.ds_store_edits.proofs.Makers.{stand_as_said, stand_on, tellings_none, tellings_said, uncounted_on}
use Rattle.ds_store_edits.proofs.edits.Passed.skip.Goals as goal

pub returns-in_default-clause-passed : goal.returns-in_default-clause-passed
returns-in_default-clause-passed c skipped before after has =
    let layout = c.args.layout.now in
    let line = c.args.line.now in
    let says : None ≡ before_in layout line = sym c.in_default.is ∙ c.read_before.ensures.says in
    record {
      standings = λ none. stand_on layout c.args.self.now.standings.items before line skipped says (has.standings none);
      left = has.left ∙ tellings_none layout line after skipped says;
      full = λ is. uncounted_on layout before (line ∷ []) (has.full is);
    }

pub returns-clause-passed : goal.returns-clause-passed
returns-clause-passed c skipped before after has =
    let layout = c.args.layout.now in
    let line = c.args.line.now in
    let xs = c.args.self.now.standings.items in
    let m = c.in-Some.field-0 in
    let says : Some m ≡ before_in layout line = sym c.in-Some.is ∙ c.read_before.ensures.says in
    let low : m.process < length xs = omega (arith, c.in-Some.ensures.inside, c.requires) in
    let told = tellings_said layout line after m skipped says in
    record {
      standings = λ none. stand_as_said layout xs before line m low skipped says (has.standings none);
      left = omega (arith, has.left, told, c.saturating_sub-self.ensures);
      full = λ is. uncounted_on layout before (line ∷ []) (has.full is);
    }
