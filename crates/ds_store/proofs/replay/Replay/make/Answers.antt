use Rattle.std.proofs.Common.{◌++◌, ◌∷◌, [], refl, subst, inl, inr, ⊎_elim, arith}
use Rattle.std.specs.Arc.{arc_value}
use Rattle.ds_store_journal.specs.Journals.{KeptEdit, asked_view}
use Rattle.ds_store.specs.Replays.{MissesEdit}
use Rattle.ds_store.proofs.Growing.{if_err, keeps_one, on_ok}
use Rattle.ds_store.proofs.replay.Replay.make.Goals as goal

pub returns-clause-made : goal.returns-clause-made
returns-clause-made c =
    let a = c.args.asked in
    let layout = c.args.self.now.layout in
    on_ok c.edit.result c.edit.ensures.made (λ made lines line is asks h.
    let edit : KeptEdit = record { process = a.process; number = c.in-Some.number; cell = a.cell; text = a.text.now } in
    let counted = c.in-Some.ensures.counted h.edits edit h.goes_on.counts_are refl in
    record {
      edits = h.edits ++ edit ∷ [];
      goes_on = keeps_one layout c.args.self.now.counts.counts.items c.count.new.self.counts.items lines line h.edits edit h.goes_on is asks counted.0 counted.1;
      made = made layout h.edits h.made;
    })

pub returns-in_default-clause-unmade : goal.returns-in_default-clause-unmade
returns-in_default-clause-unmade c low seated inside =
    ⊎_elim (λ few. absurd (omega (arith, few, low))) (λ full. inl (full, refl)) (c.count.ensures.refused c.in_default.is)

pub returns-clause-unmade : goal.returns-clause-unmade
returns-clause-unmade c low seated inside =
    let a = c.args.asked in
    let s = arc_value c.args.self.now.sheet.sheet.sheet in
    if_err c.edit.result (c.edit.ensures.not_done seated inside) (λ fault misses.
    inr (subst (λ n. MissesEdit s c.args.self.now.sheet.seats.items c.edit.new.self.seats.items (asked_view a) n fault) c.in-Some.ensures.number misses))
