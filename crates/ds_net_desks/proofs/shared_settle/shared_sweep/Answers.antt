use Rattle.std.proofs.Common.{refl, ◌∙◌, rules}
use Rattle.ds_net_desks.specs.SharedDesks.{rests, sheet_of}
use Rattle.ds_net_desks.proofs.Sharing.{breaks, broke, one_more}
use Rattle.ds_net_desks.proofs.shared_settle.shared_sweep.Goals as goal

pub loop-index-init : goal.loop-index-init
loop-index-init c = record { worked = rests; sheet = refl; cells = search rules }

pub returns-in_err-round-clause-err : goal.returns-in_err-round-clause-err
returns-in_err-round-clause-err c =
    let e = c.in_err-round.field-0.0 in
    let breaks_off = breaks (sheet_of c.args.seat.now) c.args.seat.now c.loop-index.seat c.work-worked.new.self c.cell-in-Some.result c.work-worked.result e c.loop-index.invariant.worked c.loop-index.invariant.sheet c.work-worked.ensures.made c.in_err-round.ensures in
    broke (sheet_of c.args.seat.now) c.args.seat.now c.work-worked.new.self c.from_residual.result e c.from_residual.ensures.1 breaks_off

pub returns-in_err-round-clause-works : goal.returns-in_err-round-clause-works
returns-in_err-round-clause-works c =
    one_more (sheet_of c.args.seat.now) c.args.seat.now c.loop-index.seat c.work-worked.new.self c.cell-in-Some.result c.work-worked.result c.loop-index.invariant.worked c.loop-index.invariant.sheet c.work-worked.ensures.made c.work-worked.ensures.err c.work-worked.ensures.seat

pub loop-index-preserved : goal.loop-index-preserved
loop-index-preserved c = record {
  worked = one_more (sheet_of c.args.seat.now) c.args.seat.now c.loop-index.seat c.work-worked.new.self c.cell-in-Some.result c.work-worked.result c.loop-index.invariant.worked c.loop-index.invariant.sheet c.work-worked.ensures.made c.work-worked.ensures.err c.work-worked.ensures.seat;
  sheet = c.work-worked.ensures.seat.0 ∙ c.loop-index.invariant.sheet;
  cells = search rules;
}
