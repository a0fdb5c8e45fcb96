use Rattle.std.proofs.Common.{◌∙◌, map, sym}
use Rattle.ds_eval.specs.Rows.{row_from, seen_in}
use Rattle.ds_eval.proofs.Tallies.{after_error, counted, tally_of, tally_stopped}
use Rattle.ds_eval.proofs.gather.tally_with_row.Goals as goal

pub returns-then-is_some-clause-tally : goal.returns-then-is_some-clause-tally
returns-then-is_some-clause-tally c = λ vs t. after_error c.args.fold.wants vs (map (seen_in c.args.fold.errors c.args.inputs.now.items) (row_from c.args.first c.args.columns)) c.args.tally (sym c.is_some.ensures ∙ c.if-is_some.true) t

pub returns-in-Ok-clause-tally : goal.returns-in-Ok-clause-tally
returns-in-Ok-clause-tally c = λ vs t. tally_of c.args.fold.wants _ c.in-Ok.totals (c.in-Ok.ensures.counted vs (counted c.args.fold.wants vs c.args.tally (sym c.is_some.ensures ∙ c.if-is_some.false) t))

pub returns-in-Err-clause-tally : goal.returns-in-Err-clause-tally
returns-in-Err-clause-tally c = λ vs t. tally_stopped c.args.fold.wants _ c.args.tally.totals c.in-Err.error (c.in-Err.ensures.error vs (counted c.args.fold.wants vs c.args.tally (sym c.is_some.ensures ∙ c.if-is_some.false) t).no_error)
