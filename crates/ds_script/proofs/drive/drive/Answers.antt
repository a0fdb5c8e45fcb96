use Rattle.std.proofs.Common.{refl}
use Rattle.ds_script.specs.Doing.{Drives}
use Rattle.ds_script.specs.Plays.{halted}
use Rattle.ds_script.specs.declared.turn.Left.TheVariants as left
use Rattle.ds_script.proofs.Played.{leads_on, one, stays}
use Rattle.ds_script.proofs.Turning.{stays_within}
use Rattle.ds_script.proofs.drive.drive.Goals as goal

pub steps-init : goal.steps-init
steps-init c = record { leads = stays (Drives c.args.process c.args.until) (Drives c.args.process c.args.until) c.args.world.now refl; within = c.requires }

pub steps-preserved-in_default-3 : goal.steps-preserved-in_default-3
steps-preserved-in_default-3 c =
    let turn = c.take_turn-turn.ensures in
    record {
      leads = leads_on (Drives c.args.process c.args.until) (Drives c.args.process c.args.until) (Drives c.args.process c.args.until) c.args.world.now c.steps.world c.take_turn-turn.new.world
          c.steps.invariant.leads
          (one (Drives c.args.process c.args.until) (Drives c.args.process c.args.until) c.steps.world c.take_turn-turn.new.world turn.event c.take_turn-turn.result.reply turn.asked turn.fits
          (c.in_default.ensures.goes c.take_turn-turn.new.world c.args.process turn.event turn.remains));
      within = stays_within c.steps.world c.take_turn-turn.new.world turn.event c.take_turn-turn.result.reply (left.Drives c.args.process c.args.until) turn.fits c.steps.invariant.within;
    }

pub returns-in-Some : goal.returns-in-Some
returns-in-Some c =
    let turn = c.take_turn-turn.ensures in
    leads_on (Drives c.args.process c.args.until) (Drives c.args.process c.args.until) (halted c.take_turn-turn.new.world c.args.process c.args.until c.in-Some.halt) c.args.world.now c.steps.world c.take_turn-turn.new.world
    c.steps.invariant.leads
    (one (Drives c.args.process c.args.until) (halted c.take_turn-turn.new.world c.args.process c.args.until c.in-Some.halt) c.steps.world c.take_turn-turn.new.world turn.event c.take_turn-turn.result.reply turn.asked turn.fits
    (c.in-Some.ensures.halts c.take_turn-turn.new.world c.args.process turn.event turn.remains))
