use Rattle.std.proofs.Common.{refl, ◌∙◌}
use Rattle.ds_net_desks.specs.SharedDesks.{sheet_of}
use Rattle.ds_net_desks.proofs.Sharing.{works_after, breaks_after, broke, same_sheet}
use Rattle.ds_net_desks.proofs.shared_settle.shared_settle.Goals as goal

pub returns-in_err-found-clause-err : goal.returns-in_err-found-clause-err
returns-in_err-found-clause-err g c =
    let e = c.in_err-found.field-0.0 in
    broke (sheet_of c.args.seat.now) c.args.seat.now c.shared_sweep.new.seat c.from_residual.result e c.from_residual.ensures.1 c.in_err-found.ensures.err

pub loop-init : goal.loop-init
loop-init g c = record { worked = c.shared_sweep.ensures.works; sheet = same_sheet (sheet_of c.args.seat.now) c.args.seat.now c.shared_sweep.new.seat refl c.shared_sweep.ensures.works }

pub returns-in_err-found-2-clause-err : goal.returns-in_err-found-2-clause-err
returns-in_err-found-2-clause-err g c =
    let e = c.in_err-found-2.field-0.0 in
    let breaks_off = breaks_after (sheet_of c.args.seat.now) c.args.seat.now c.loop.seat c.shared_round.new.seat e c.loop.invariant.worked c.loop.invariant.sheet c.in_err-found-2.ensures.err in
    broke (sheet_of c.args.seat.now) c.args.seat.now c.shared_round.new.seat c.from_residual-in_err-found-2.result e c.from_residual-in_err-found-2.ensures.1 breaks_off

pub returns-in_err-found-2-clause-works : goal.returns-in_err-found-2-clause-works
returns-in_err-found-2-clause-works g c = works_after (sheet_of c.args.seat.now) c.args.seat.now c.loop.seat c.shared_round.new.seat c.loop.invariant.worked c.loop.invariant.sheet c.shared_round.ensures.works

pub loop-preserved : goal.loop-preserved
loop-preserved g c = record {
  worked = works_after (sheet_of c.args.seat.now) c.args.seat.now c.loop.seat c.shared_round.new.seat c.loop.invariant.worked c.loop.invariant.sheet c.shared_round.ensures.works;
  sheet = same_sheet (sheet_of c.loop.seat) c.loop.seat c.shared_round.new.seat refl c.shared_round.ensures.works ∙ c.loop.invariant.sheet;
}
