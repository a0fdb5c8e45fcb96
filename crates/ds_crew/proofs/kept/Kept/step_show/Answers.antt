use Rattle.std.proofs.Common.{ap, ◌∙◌}
use Rattle.ds_state.specs.Value.{WorldValue}
use Rattle.ds_crew.specs.Kept.{report_of}
use Rattle.ds_crew.proofs.Settles.{settled_as}
use Rattle.ds_crew.proofs.kept.Kept.step_show.Goals as goal

pub returns-in-Some-Answers-Settled-clause-settled : goal.returns-in-Some-Answers-Settled-clause-settled
returns-in-Some-Answers-Settled-clause-settled g c = λ is.
    settled_as c.args.process c.replace.new.values.items c.step-turn.new.world (c.replace.ensures ∙ c.of.ensures ∙ ap (λ (w : WorldValue). report_of w.reports c.args.process) c.world-2.view_is) (c.step-turn.ensures.settles is)
