use Rattle.std.proofs.Common.{List, ℕ, refl, sym, ap, arith}
use Rattle.ds_formula.specs.Cells.{cell_at}
use Rattle.ds_core.specs.declared.event.Event.TheVariants.{BeginWork}
use Rattle.ds_calls.specs.declared.settle.SettleStage.{SettleStage}
use Rattle.ds_script.specs.declared.drive.Until.TheVariants.{InRound}
use Rattle.ds_script.specs.ScriptTexts.{reply_text}
use Rattle.ds_script.specs.Doing.{Says, Works, at_turn, end_text, settle}
use Rattle.ds_script.specs.Plays.{Played}
use Rattle.ds_script.proofs.Played.{answered, leads_from, one, stays}
use Rattle.ds_script.proofs.Settles.{of_nobody}
use Rattle.ds_script.proofs.settle.of_nobody.Goals as goal

pub returns-in-Ends : goal.returns-in-Ends
returns-in-Ends c =
    answered c.end_bytes.result (end_text c.args.world.now c.args.process c.in-Ends.end) (λ (t : List ℕ). Played (settle c.args.world.now c.args.process) c.args.world.now t c.args.world.now) c.end_bytes.ensures
    (stays (settle c.args.world.now c.args.process) (Says (end_text c.args.world.now c.args.process c.in-Ends.end)) c.args.world.now
    (ap (λ (t : SettleStage). at_turn c.args.world.now c.args.process t) c.in-Ends.ensures.value))

pub returns-in-Works : goal.returns-in-Works
returns-in-Works c =
    answered c.reply_bytes.result (reply_text c.begin-reply.new.world c.args.process c.begin-reply.result) (λ (t : List ℕ). Played (settle c.args.world.now c.args.process) c.args.world.now t c.begin-reply.new.world) c.reply_bytes.ensures
    (leads_from (settle c.args.world.now c.args.process) (Works c.args.process c.in-Works.rounds c.in-Works.cell) (Says (reply_text c.begin-reply.new.world c.args.process c.begin-reply.result)) c.args.world.now c.begin-reply.new.world
    (sym (ap (λ (t : SettleStage). at_turn c.args.world.now c.args.process t) c.in-Works.ensures.value))
    (one (Works c.args.process c.in-Works.rounds c.in-Works.cell) (Says (reply_text c.begin-reply.new.world c.args.process c.begin-reply.result)) c.args.world.now c.begin-reply.new.world
    (BeginWork c.args.process (cell_at c.args.world.now.sheet.layout.shape c.in-Works.cell)) c.begin-reply.result refl c.begin-reply.ensures
    (of_nobody c.args.world.now c.begin-reply.new.world c.args.process (cell_at c.args.world.now.sheet.layout.shape c.in-Works.cell) (InRound c.in-Works.rounds c.in-Works.cell) c.begin-reply.result c.begin-reply.ensures
    (λ below. let past = c.requires in omega (arith, below, past)))))
