use Rattle.std.proofs.Common.{ℕ, Option, Err, sym, subst}
use Rattle.ds_server.specs.DeskCalls.{View}
use Rattle.ds_server.specs.Replies.{Refused, report_view}
use Rattle.ds_server.specs.Desks.{Seated}
use Rattle.ds_server.specs.WorldDesks.{Does, views, views_by_any, has_no_view, world_rules}
use Rattle.ds_server.proofs.Runs.{snapshot_runs}
use Rattle.ds_server.proofs.Worlds.{stays_seated}
use Rattle.ds_server.proofs.world.viewed.Goals as goal

pub returns-in-Some-clause-does : goal.returns-in-Some-clause-does
returns-in-Some-clause-does c =
    subst (λ (j : Option ℕ). Does c.args.world.now (View j) (report_view c.settled.result) c.settled.new.world) (sym c.in-Some.is)
    (views c.in-Some.process c.settled.result c.settled.new.world c.settled.ensures.takes)

pub returns-in-Some-clause-seated : goal.returns-in-Some-clause-seated
returns-in-Some-clause-seated c =
    subst (λ (j : Option ℕ). Seated world_rules j c.settled.new.world) (sym c.in-Some.is)
    (stays_seated c.in-Some.process c.args.world.now c.settled.new.world (snapshot_runs c.in-Some.process c.args.world.now c.settled.new.world c.settled.result c.settled.ensures.takes) c.settled.ensures.free
    (subst (λ (j : Option ℕ). Seated world_rules j c.args.world.now) c.in-Some.is c.requires))

pub returns-in-Ok-clause-does : goal.returns-in-Ok-clause-does
returns-in-Ok-clause-does c =
    subst (λ (j : Option ℕ). Does c.args.world.now (View j) (report_view c.settled-in-Ok.result) c.settled-in-Ok.new.world) (sym c.in-None.is)
    (views_by_any c.in-Ok.process c.in-Ok._last c.settled-in-Ok.result c.joined_any.new.world c.settled-in-Ok.new.world c.in-Ok.ensures.does c.settled-in-Ok.ensures.takes)

pub returns-in-Err-clause-does : goal.returns-in-Err-clause-does
returns-in-Err-clause-does c =
    subst (λ (j : Option ℕ). Does c.args.world.now (View j) (Refused c.in-Err.refusal) c.joined_any.new.world) (sym c.in-None.is)
    (has_no_view c.in-Err.refusal c.joined_any.new.world c.in-Err.ensures.does)
