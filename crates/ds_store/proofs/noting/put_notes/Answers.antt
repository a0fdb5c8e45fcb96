use Rattle.std.proofs.Common.{◌≡◌, ◌∙◌, ◌+◌, ◌++◌, ◌∷◌, [], ap, arith, append_assoc, length, map, refl, subst, take}
use Rattle.std.proofs.lemmas.Grind.{common_steps}
use Rattle.std.specs.String.{string_bytes}
use Rattle.ds_store_keys.specs.Keys.{keys_of}
use Rattle.ds_store_keys.specs.Tables.{AreKeys}
use Rattle.std.proofs.lemmas.Option.{slice_get_read}
use Rattle.ds_store_journal.proofs.Noting.{if_err}
use Rattle.ds_store.proofs.Unkept.{one_of_keys}
use Rattle.ds_store.proofs.noting.put_notes.Goals as goal

pub returns-in_err-put_note-clause-unkept : goal.returns-in_err-put_note-clause-unkept
returns-in_err-put_note-clause-unkept c known are =
    let notes = c.args.notes.now in
    let i = c.loop-note.note-index in
    let at = slice_get_read notes (length notes) i c.note-item.result refl c.loop-note-test.true c.note-item.is in
    let fails = c.in_err-put_note.ensures.unkept (known ++ take i notes) (c.loop-note.invariant.2 known are) in
    if_err c.from_residual.result _ _ c.from_residual.ensures (λ told is. rw is (one_of_keys c.args.layout.now known notes i c.note-item.result c.in_err-put_note.field-0.0 at fails))

pub loop-note-preserved : goal.loop-note-preserved
loop-note-preserved c =
    let notes = c.args.notes.now in
    let i = c.loop-note.note-index in
    let note = c.note-item.result in
    let inv = c.loop-note.invariant in
    let first = keys_of c.args.layout.now (map string_bytes c.args.texts.now.items) in
    let next : take i notes ++ note ∷ [] ≡ take (i + 1) notes = grind (arith, common_steps) in (
      (λ counts held edits goes. c.in_ok-put_note.ensures.journal counts held edits (inv.0 counts held edits goes)),
      c.in_ok-put_note.ensures.keys ∙ (ap (λ ks. ks ++ note ∷ []) inv.1 ∙ (append_assoc first (take i notes) (note ∷ []) ∙ ap (λ ks. first ++ ks) next)),
      (λ before are. subst (AreKeys c.put_note.new.table) (append_assoc before (take i notes) (note ∷ []) ∙ ap (λ ks. before ++ ks) next) (c.in_ok-put_note.ensures.table (before ++ take i notes) (inv.2 before are))),
      (λ none. c.in_ok-put_note.ensures.plain (inv.3 none)),
    )
