use Rattle.std.proofs.Common.{rules, ◌≡◌, ◌<◌, ◌∙◌, refl, sym, arith}
use Rattle.std.specs.Prelude.{slice_index_or}
use Rattle.ds_store_journal.specs.Journals.{asked_view}
use Rattle.ds_store_journal.specs.Standings.{none_made}
use Rattle.ds_store_journal.proofs.Noting.{one_counted}
use Rattle.ds_store_journal.proofs.standings.mentioned.Goals as goal

pub returns-in-None-clause-full : goal.returns-in-None-clause-full
returns-in-None-clause-full c =
    let layout = c.args.layout.now in
    let line = c.args.line.now in
    let asked = c.in-Some.asked in
    let s = slice_index_or c.args.standings.now asked.process none_made in
    let more = one_counted layout asked.process s line (asked_view asked) (sym c.is_skipped.ensures ∙ c.if-is_skipped.false) c.in-Some.ensures.asks refl in
    let low : asked.process < layout.processes = c.in-Some.ensures.inside.0 in
    let full = c.in-None.ensures.full in
    (refl, (asked.process, low, omega (arith, more, full)))
