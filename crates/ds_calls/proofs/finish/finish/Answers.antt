use Rattle.std.proofs.Common.{[], ◌∷◌, ◌++◌, subst}
use Rattle.std.specs.Prelude.{Option}
use Rattle.ds_core.specs.declared.reply.Reply.TheVariants.{Stepped}
use Rattle.ds_calls.specs.Wanted.{wants}
use Rattle.ds_calls.specs.Whole.{stays, goes}
use Rattle.ds_calls.specs.Driven.{Went}
use Rattle.ds_calls.proofs.Stepping.{calls_on}
use Rattle.ds_calls.proofs.finish.finish.Goals as goal

pub steps-init : goal.steps-init
steps-init g c = record { events = []; replies = []; goes = stays; calling = c.requires; same = λ answer h. h }

pub steps-preserved : goal.steps-preserved
steps-preserved g c =
    let i = c.steps.invariant in
    let went = subst (λ (r : Option g.row.E.Denot). Went g.E.CallEnd.kind.answer c.steps.world c.args.process r c.go.new.world) c.in_default.is c.go.ensures in
    record {
      events = i.events ++ wants c.steps.world c.args.process ∷ [];
      replies = i.replies ++ Stepped ∷ [];
      goes = goes i.events i.replies c.steps.world c.go.new.world i.goes went.0.fits;
      calling = calls_on g.E.CallEnd.kind.is c.steps.world c.go.new.world c.args.process i.calling went.0;
      same = λ answer h. i.same answer (went.0.same answer h);
    }
