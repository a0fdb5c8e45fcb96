use Rattle.std.proofs.Common.{◌≡◌, take}
use Rattle.ds_trace_brief.specs.Briefs.{words_after}
use Rattle.ds_trace_brief.proofs.columns.words_of.Given as goal

abbrev pub invariant-loop-event : goal.invariant-loop-event
invariant-loop-event l = l.words.items ≡ words_after l.trace l.number (take l.event-index l.events)
