-- Each access of an edit can be performed: its buffer has room, or an entry.
use Rattle.std.proofs.Common.{ℕ, ◌≡◌, ◌<◌, ◌≤◌, ◌+◌, ◌-◌, [], ◌∷◌, ap, ◌∙◌, subst, arith, zero, suc, length, map}
use Rattle.std.specs.Prelude.{slice_index_or}
use Rattle.std.specs.List.{range_with_len}
use Rattle.std.proofs.lemmas.List.FromFn.{length-map-range_with_len}
use Rattle.ds_words.specs.declared.words.TheConstants.{BUFFER_ENTRIES}
use Rattle.ds_layout.specs.declared.place.TheConstants.{RECORDS}
use Rattle.ds_layout.specs.declared.place.Place.{Place}
use Rattle.ds_layout.specs.declared.place.Place.TheVariants as place
use Rattle.ds_layout.specs.declared.layout.Layout.{Layout}
use Rattle.ds_layout.specs.Places.{IsPlace}
use Rattle.ds_layout.specs.SheetMemory.{CanPerform, HasBuffer, HasEntry}
use Rattle.ds_state.specs.Edits.{PlainEditCall, text_parts}
use Rattle.ds_state.specs.World.{edit_of, PlainWorld, record_place, index_place, done_place}
use Rattle.ds_state.specs.Known.{word_of, pending, ended}
use Rattle.ds_state.specs.Owing.{entry}
use Rattle.ds_state.specs.CallsFit.{EditFits, CallFits, record_entry}
use Rattle.ds_state.specs.Sound.{IsSound}
use Rattle.ds_state.specs.declared.stage.Stage.{Stage}
use Rattle.ds_state.specs.declared.stage.Stage.TheVariants.{StoreHeader, StoreText, FlushHeader, FlushText, BackRecord, StorePending, FlushPending, BackPending, OrIndex, FlushIndex, BackIndex, LoadHead, FlushNoted, BackNoted, OrDone, FlushDone, BackDone, Swap, FlushOwn, BackOwn, OrMark, FlushMark, BackMark, StoreOutcome, FlushOutcome, BackOutcome, Answer}
use Rattle.ds_state.specs.declared.situation.Situation.{Situation}
use Rattle.ds_state.specs.declared.situation.Situation.TheVariants.{Editing}
use Rattle.ds_edit.specs.EditSteps.{access_at}
use Rattle.ds_edit.proofs.Named as named
use Rattle.ds_edit.proofs.Turns.{on}
use Rattle.ds_layout.specs.declared.place.Edition.{Edition}
use Rattle.ds_layout.specs.Places.{parts_in}

record_is_place : (layout : Layout) (edition : Edition) (p n k : ℕ) → p < layout.processes → n < RECORDS → k ≤ parts_in edition → IsPlace layout (record_place edition p n k)
record_is_place layout edition p n zero a b c = (a, b)
record_is_place layout edition p n (suc k) a b c = (a, b, omega arith)

module _ (e : PlainEditCall) (w : PlainWorld) (low : e.process < w.layout.processes) where
  room : w.memory.buffer e.process ≡ [] → (e.process < w.layout.processes) × (length (w.memory.buffer e.process) < BUFFER_ENTRIES)
  room none = (low, rw none (omega arith))

  one : (r : Place) (value : ℕ) → w.memory.buffer e.process ≡ entry r value ∷ [] → IsPlace w.layout r → (e.process < w.layout.processes) × HasEntry w.layout w.memory e.process
  one r value alone there = (low, record { entry = entry r value; rest = []; oldest = alone; there = there })

  buffered : (s : Stage) → EditFits w e.process (on e s) → HasBuffer w.layout w.memory e.process (access_at e s)
  buffered StoreHeader f = tt
  buffered (StoreText part) f = tt
  buffered FlushHeader f = room f.buffer
  buffered (FlushText part) f =
      let l : length (w.memory.buffer e.process) ≡ suc part = ap length f.buffer ∙ length-map-range_with_len (record_entry e.edition (edit_of e)) 0 (suc part) in
      let p : part < text_parts e.text = f.is.stage in
      let t = f.is.text.short in
      (low, omega arith)
  buffered (BackRecord left) f =
      let k : ℕ = text_parts e.text - left in
      let t = f.is.fits in (
        low,
        record {
          entry = record_entry e.edition (edit_of e) k;
          rest = map (record_entry e.edition (edit_of e)) (range_with_len (k + 1) left);
          oldest = f.buffer;
          there = record_is_place w.layout e.edition e.process e.number k low f.is.number (omega arith);
        },
      )
  buffered StorePending f = tt
  buffered FlushPending f = room f.buffer
  buffered BackPending f = one (place.Announce e.process) (word_of w (edit_of e) pending) f.buffer low
  buffered (OrIndex i) f = tt
  buffered (FlushIndex i) f = room f.buffer
  buffered (BackIndex i) f = one (index_place (slice_index_or e.refs i 0) e.cell) f.buffer.value f.buffer.alone (named.reference_named w.layout (on e (BackIndex i)) i (record { cells = f.sheet.cells; processes = f.sheet.processes }) f.is f.is.stage)
  buffered LoadHead f = tt
  buffered (FlushNoted head) f = room f.buffer
  buffered (BackNoted head) f = one (place.Head e.cell) f.buffer.value f.buffer.alone (rw f.sheet.cells f.is.cell)
  buffered (OrDone head) f = tt
  buffered (FlushDone head) f = room f.buffer
  buffered (BackDone head) f =
      let n = f.is.stage.packs.number in
      one (done_place head.process head.number) f.buffer.value f.buffer.alone (rw f.sheet.processes f.is.stage.process, omega arith)
  buffered (Swap noted) f = tt
  buffered (FlushOwn own) f = room f.buffer
  buffered (BackOwn own) f = one (place.Head e.cell) f.buffer.value f.buffer.alone (rw f.sheet.cells f.is.cell)
  buffered (OrMark own) f = tt
  buffered (FlushMark own) f = room f.buffer
  buffered (BackMark own) f = one (place.Mark e.cell) f.buffer.value f.buffer.alone (rw f.sheet.cells f.is.cell)
  buffered (StoreOutcome how) f = tt
  buffered (FlushOutcome how) f = room f.buffer
  buffered (BackOutcome how) f = one (place.Announce e.process) (word_of w (edit_of e) (ended how)) f.buffer low
  buffered (Answer how) f = tt

-- in a sound world an edit can perform the access of its stage
pub can_perform : (e : PlainEditCall) (w : PlainWorld) → IsSound w → e.process < w.layout.processes → w.situation e.process ≡ Editing e → CanPerform w.layout w.memory e.process (access_at e e.stage)
can_perform e w sound low at =
    let fits : EditFits w e.process e = subst (λ (x : Situation). CallFits w e.process x) at (sound.calls e.process low) in
    (named.each_named w.layout e fits.sheet fits.is, buffered e w low e.stage fits)
