use Rattle.std.proofs.Common.{refl, sym, ap, arith}
use Rattle.ds_formula.specs.Cells.{cell_at}
use Rattle.ds_core.specs.declared.event.Event.TheVariants.{BeginWork}
use Rattle.ds_calls.specs.declared.settle.SettleStage.{SettleStage}
use Rattle.ds_script.specs.declared.drive.Until.TheVariants.{InRound}
use Rattle.ds_script.specs.ScriptTexts.{reply_text}
use Rattle.ds_script.specs.Doing.{Says, Works, at_turn, end_text, settle}
use Rattle.ds_script.proofs.Played.{leads_from, one, stays}
use Rattle.ds_script.proofs.Settles.{of_nobody}
use Rattle.ds_script_json.proofs.carry.settle_nobody.Goals as goal

pub returns-in-Ends-clause-played : goal.returns-in-Ends-clause-played
returns-in-Ends-clause-played c =
    stays (settle c.args.world.now c.args.process) (Says (end_text c.args.world.now c.args.process c.in-Ends.end)) c.args.world.now
    (ap (λ (t : SettleStage). at_turn c.args.world.now c.args.process t) c.in-Ends.ensures.value)

pub returns-in-Works-clause-played : goal.returns-in-Works-clause-played
returns-in-Works-clause-played c =
    leads_from (settle c.args.world.now c.args.process) (Works c.args.process c.in-Works.rounds c.in-Works.cell) (Says (reply_text c.begin.new.world c.args.process c.begin.result)) c.args.world.now c.begin.new.world
    (sym (ap (λ (t : SettleStage). at_turn c.args.world.now c.args.process t) c.in-Works.ensures.value))
    (one (Works c.args.process c.in-Works.rounds c.in-Works.cell) (Says (reply_text c.begin.new.world c.args.process c.begin.result)) c.args.world.now c.begin.new.world
    (BeginWork c.args.process (cell_at c.args.world.now.sheet.layout.shape c.in-Works.cell)) c.begin.result refl c.begin.ensures
    (of_nobody c.args.world.now c.begin.new.world c.args.process (cell_at c.args.world.now.sheet.layout.shape c.in-Works.cell) (InRound c.in-Works.rounds c.in-Works.cell) c.begin.result c.begin.ensures
    (λ below. let past = c.requires in omega (arith, below, past))))
