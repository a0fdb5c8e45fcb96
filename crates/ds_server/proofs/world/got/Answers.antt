use Rattle.std.proofs.Common.{ℕ, List, Ok, Err, refl, sym, subst}
use Rattle.ds_formula.specs.Cells.{IsInside}
use Rattle.ds_eval.specs.declared.value.Value.{Value}
use Rattle.ds_layout.specs.declared.layout.Layout.{Layout}
use Rattle.ds_calls.proofs.Runs.{run_keeps_layout}
use Rattle.ds_server.specs.declared.desk.CallRefusal.TheVariants as refusal
use Rattle.ds_server.specs.declared.desk.Got.TheVariants as got
use Rattle.ds_server.specs.declared.desk.Reported.{Reported}
use Rattle.ds_server.specs.declared.desk.Reported.TheVariants as report
use Rattle.ds_server.specs.DeskCalls.{View}
use Rattle.ds_server.specs.Replies.{report_view}
use Rattle.ds_server.specs.WorldDesks.{Does, Finds, gets}
use Rattle.ds_server.proofs.Runs.{does_runs}
use Rattle.ds_server.proofs.world.got.Goals as goal

pub found-requires : goal.found-requires
found-requires c =
    subst (λ (l : Layout). IsInside l.shape c.args.cell)
    (sym (run_keeps_layout c.args.world.now c.viewed.new.world (does_runs c.args.world.now c.viewed.new.world (View c.args.joined) (report_view c.viewed.result) c.viewed.ensures.does))) c.requires.inside

pub returns-in-Ok-clause-does : goal.returns-in-Ok-clause-does
returns-in-Ok-clause-does c =
    gets c.args.joined c.args.cell (Ok (report.Settled c.in-Ok-Settled.values)) (Ok c.in-Ok.got) c.viewed.new.world
    (subst (λ (r : Reported). Does c.args.world.now (View c.args.joined) (report_view (Ok r)) c.viewed.new.world) c.in-Ok-Settled.field-0-is c.in-Ok-Settled.ensures.does)
    (subst (λ (values : List Value). Finds c.viewed.new.world c.args.cell values (Ok c.in-Ok.got)) c.deref.ensures.value c.in-Ok.ensures)

pub returns-in-Ok-Settled-clause-does : goal.returns-in-Ok-Settled-clause-does
returns-in-Ok-Settled-clause-does c =
    gets c.args.joined c.args.cell (Ok (report.Settled c.in-Ok-Settled.values)) (Err refusal.NoMemory) c.viewed.new.world
    (subst (λ (r : Reported). Does c.args.world.now (View c.args.joined) (report_view (Ok r)) c.viewed.new.world) c.in-Ok-Settled.field-0-is c.in-Ok-Settled.ensures.does) refl

pub returns-in-Ok-Unsettled-clause-does : goal.returns-in-Ok-Unsettled-clause-does
returns-in-Ok-Unsettled-clause-does c =
    gets c.args.joined c.args.cell (Ok (report.Unsettled c.in-Ok-Unsettled.place c.in-Ok-Unsettled.word)) (Ok (got.Unsettled c.in-Ok-Unsettled.place c.in-Ok-Unsettled.word)) c.viewed.new.world
    (subst (λ (r : Reported). Does c.args.world.now (View c.args.joined) (report_view (Ok r)) c.viewed.new.world) c.in-Ok-Unsettled.field-0-is c.in-Ok-Unsettled.ensures.does) refl

pub returns-clause-does : goal.returns-clause-does
returns-clause-does c = gets c.args.joined c.args.cell (Err c.in-Err.refusal) (Err c.in-Err.refusal) c.viewed.new.world c.in-Err.ensures.does refl
