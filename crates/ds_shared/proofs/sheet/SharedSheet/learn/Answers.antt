use Rattle.std.proofs.Common.{◌∙◌, [], refl, subst, ℕ}
use Rattle.atomic_table.specs.Table.{Me}
use Rattle.pm_board.specs.Looks.{Looks}
use Rattle.ds_structure_shared.specs.Boards.{SheetView}
use Rattle.ds_shared.proofs.Noting.{has_learned, note_begins}
use Rattle.ds_shared.proofs.sheet.SharedSheet.learn.Goals as goal

pub returns-clause-pass : goal.returns-clause-pass
returns-clause-pass c =
    let p = c.args.pass.now in
    let l = subst (λ (m : Me ℕ SheetView). Looks m.0 [] c.look.new.place.me.0) c.join.ensures.1 c.look.ensures.2 in (
      record { table = c.look.ensures.0 ∙ (c.join.ensures.0 ∙ c.requires.pass.table); process = c.requires.pass.process },
      has_learned p.place c.args.note.place c.look.new.place p.process p.number p.stopped p.known c.args.note.known l c.look.ensures.1 p _ refl refl refl refl refl refl,
    )

pub returns-clause-note : goal.returns-clause-note
returns-clause-note c =
    let p = c.args.pass.now in
    let l = subst (λ (m : Me ℕ SheetView). Looks m.0 [] c.look.new.place.me.0) c.join.ensures.1 c.look.ensures.2 in
    note_begins p.place c.args.note.place c.look.new.place p.process p.number p.stopped p.known c.args.note.known l c.look.ensures.1
