use Rattle.std.proofs.Common.{◌<◌, sym, subst}
use Rattle.ds_layout.specs.declared.layout.Layout.{Layout}
use Rattle.ds_calls.specs.declared.settle.SettleStage.{SettleStage}
use Rattle.ds_calls.specs.Settling.{Settling, begins, works}
use Rattle.ds_calls.proofs.settle.settle.Goals as goal

pub works-init : goal.works-init
works-init c =
    record {
      settling = subst (λ (t : SettleStage). Settling c.args.process c.args.world.now t c.args.world.now) (sym c.first_turn-turn.ensures.value) begins;
      there = c.requires;
      inside = c.first_turn-turn.ensures.inside;
      free = λ h. h;
    }

pub works-preserved : goal.works-preserved
works-preserved c =
    let i = c.works.invariant in
    let w = c.work-turn.ensures.works in
    record {
      settling = subst (λ (t : SettleStage). Settling c.args.process c.args.world.now t c.work-turn.new.world) (sym w.next_is)
          (works c.in-Works.rounds c.in-Works.cell c.works.world c.work-turn.new.world w.result (subst (λ (t : SettleStage). Settling c.args.process c.args.world.now t c.works.world) c.in-Works.is i.settling) w.whole);
      there = subst (λ (l : Layout). c.args.process < l.processes) (sym w.layout) i.there;
      inside = c.work-turn.ensures.inside;
      free = λ h. w.free (i.free h);
    }
