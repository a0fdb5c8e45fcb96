use Rattle.std.proofs.Common.{◌≡◌, subst}
use Rattle.std.specs.Arc.{arc_value}
use Rattle.ds_shared_seats.specs.Calls.{Recovers}
use Rattle.ds_shared_seats.proofs.Going.{goes_of}
use Rattle.ds_shared_seats.proofs.seat.Seat.recover.Goals as goal

pub returns-clause-made : goal.returns-clause-made
returns-clause-made c =
    let h = c.recover.ensures in
    let p = c.args.self.now.pass in
    let is : c.deref.result.now ≡ arc_value c.args.self.now.sheet = c.deref.ensures in
    subst (λ s. Recovers s c.args.steps p c.recover.new.pass c.recover.result) is (record {
      goes = goes_of c.args.steps c.of-fuse.result c.recover.new.fuse p c.recover.new.pass c.recover.result c.of-fuse.ensures h.steps h.pass.1 h.kept;
      answered = h.answered;
      runs = h.runs;
      stopped = h.stopped;
      refused = h.refused;
      short = h.few;
    })
