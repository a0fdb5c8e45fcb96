use Rattle.std.proofs.Common.{rules, ◌≡◌, subst}
use Rattle.std.specs.Arc.{arc_value}
use Rattle.ds_shared_seats.specs.Calls.{Works}
use Rattle.ds_shared_seats.proofs.Going.{goes_of}
use Rattle.ds_shared_seats.proofs.seat.Seat.work.Goals as goal

pub returns-clause-made : goal.returns-clause-made
returns-clause-made c =
    let h = c.work.ensures in
    let p = c.args.self.now.pass in
    let is : c.deref.result.now ≡ arc_value c.args.self.now.sheet = c.deref.ensures in (
      search rules,
      subst (λ s. Works s c.args.cell c.args.steps p c.work.new.pass c.work.result) is (record {
        goes = goes_of c.args.steps c.of-fuse.result c.work.new.fuse p c.work.new.pass c.work.result c.of-fuse.ensures h.steps h.pass.1 h.kept;
        answered = h.answered;
        runs = h.runs;
        stopped = h.stopped;
        refused = h.refused;
        short = h.few;
        unchanged = h.unchanged;
      }),
    )
