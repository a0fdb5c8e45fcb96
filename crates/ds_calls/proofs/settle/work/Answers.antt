use Rattle.std.proofs.Common.{◌<◌, sym, subst}
use Rattle.ds_formula.specs.Cells.{cell_at}
use Rattle.ds_layout.specs.Places.{cells_of}
use Rattle.ds_layout.specs.declared.layout.Layout.{Layout}
use Rattle.ds_core.specs.declared.event.Event.TheVariants.{BeginWork}
use Rattle.ds_calls.specs.declared.settle.SettleStage.TheVariants.{Works}
use Rattle.ds_calls.specs.Settling.{works_left}
use Rattle.ds_calls.proofs.Runs.{whole_runs, run_keeps_layout}
use Rattle.ds_calls.proofs.Settles.{whole_free}
use Rattle.ds_calls.proofs.settle.work.Goals as goal

pub worked-requires : goal.worked-requires
worked-requires c =
    let w = c.work_on-answered.ensures in
    subst (λ (l : Layout). c.args.cell < cells_of l)
    (sym (run_keeps_layout c.args.world.now c.work_on-answered.new.world (whole_runs _ _ c.args.process (BeginWork c.args.process (cell_at c.args.world.now.sheet.layout.shape c.args.cell)) c.args.world.now c.work_on-answered.result c.work_on-answered.new.world w.whole)))
    c.requires.cell

pub returns-clause-works : goal.returns-clause-works
returns-clause-works c =
    let w = c.work_on-answered.ensures in
    record {
      result = c.work_on-answered.result;
      whole = w.whole;
      next_is = c.worked.ensures.value;
      layout = run_keeps_layout c.args.world.now c.work_on-answered.new.world (whole_runs _ _ c.args.process (BeginWork c.args.process (cell_at c.args.world.now.sheet.layout.shape c.args.cell)) c.args.world.now c.work_on-answered.result c.work_on-answered.new.world w.whole);
      free = whole_free c.args.process c.args.world.now c.work_on-answered.new.world c.work_on-answered.result w.idle w.unchanged;
    }

pub returns-clause-fewer : goal.returns-clause-fewer
returns-clause-fewer c =
    let w = c.work_on-answered.ensures in
    subst (λ (l : Layout). works_left (cells_of c.work_on-answered.new.world.sheet.layout) c.worked.result < works_left (cells_of l) (Works c.args.rounds c.args.cell))
    (run_keeps_layout c.args.world.now c.work_on-answered.new.world (whole_runs _ _ c.args.process (BeginWork c.args.process (cell_at c.args.world.now.sheet.layout.shape c.args.cell)) c.args.world.now c.work_on-answered.result c.work_on-answered.new.world w.whole))
    c.worked.ensures.fewer
