use Rattle.std.proofs.Common.{rules, ◌≡◌, subst}
use Rattle.std.specs.Arc.{arc_value}
use Rattle.ds_shared_seats.specs.Calls.{Edits}
use Rattle.ds_shared_seats.proofs.Going.{goes_of}
use Rattle.ds_shared_seats.proofs.seat.Seat.edit.Goals as goal

pub returns-clause-made : goal.returns-clause-made
returns-clause-made c =
    let h = c.edit.ensures in
    let p = c.args.self.now.pass in
    let is : c.deref.result.now ≡ arc_value c.args.self.now.sheet = c.deref.ensures in (
      search rules,
      subst (λ s. Edits s c.args.cell c.args.text.now c.args.steps p c.edit.new.pass c.edit.result) is (record {
        goes = goes_of c.args.steps c.of-fuse.result c.edit.new.fuse p c.edit.new.pass c.edit.result c.of-fuse.ensures h.steps h.pass.1 h.kept;
        answered = h.answered;
        runs = h.runs;
        stopped = h.stopped;
        refused = h.refused;
        short = h.few;
        unchanged = h.unchanged;
      }),
    )
