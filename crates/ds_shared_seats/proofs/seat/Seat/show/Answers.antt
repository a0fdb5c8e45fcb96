use Rattle.std.proofs.Common.{rules, ◌≡◌, subst}
use Rattle.std.specs.Arc.{arc_value}
use Rattle.ds_shared_seats.specs.Calls.{Reports}
use Rattle.ds_shared_seats.proofs.Going.{goes_of}
use Rattle.ds_shared_seats.proofs.seat.Seat.show.Goals as goal

pub returns-in-Some-clause-made : goal.returns-in-Some-clause-made
returns-in-Some-clause-made c =
    let h = c.show-ended.ensures in
    let p = c.args.self.now.pass in
    let is : c.deref.result.now ≡ arc_value c.args.self.now.sheet = c.deref.ensures in (
      c.show-ended.result.1,
      subst (λ s. Reports s c.args.steps p c.show-ended.new.pass c.show-ended.result.0 c.show-ended.result.1) is (record {
        goes = goes_of c.args.steps c.of-fuse.result c.show-ended.new.fuse p c.show-ended.new.pass c.show-ended.result.0 c.of-fuse.ensures h.steps h.pass.1 h.kept;
        answered = h.answered;
        runs = h.runs;
        stopped = h.stopped;
        refused = h.refused;
        short = h.few;
        unchanged = h.unchanged;
      }),
      search rules,
    )

pub returns-in_default-clause-made : goal.returns-in_default-clause-made
returns-in_default-clause-made c =
    let h = c.show-ended.ensures in
    let p = c.args.self.now.pass in
    let is : c.deref.result.now ≡ arc_value c.args.self.now.sheet = c.deref.ensures in (
      c.show-ended.result.1,
      subst (λ s. Reports s c.args.steps p c.show-ended.new.pass c.show-ended.result.0 c.show-ended.result.1) is (record {
        goes = goes_of c.args.steps c.of-fuse.result c.show-ended.new.fuse p c.show-ended.new.pass c.show-ended.result.0 c.of-fuse.ensures h.steps h.pass.1 h.kept;
        answered = h.answered;
        runs = h.runs;
        stopped = h.stopped;
        refused = h.refused;
        short = h.few;
        unchanged = h.unchanged;
      }),
      search rules,
    )
