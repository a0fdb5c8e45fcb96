-- Each access of work is possible.
use Rattle.std.proofs.Common.{◌≡◌, ◌<◌, ◌/◌, ◌%◌, List, [], ◌∷◌, length, arith}
use Rattle.ds_words.specs.declared.access.BufferEntry.{BufferEntry}
use Rattle.ds_layout.specs.declared.place.Place.{Place}
use Rattle.ds_layout.specs.declared.place.Place.TheVariants.{Mark}
use Rattle.ds_layout.specs.Places.{cells_of, IsPlace}
use Rattle.ds_layout.specs.SheetMemory.{CanPerform, HasEntry}
use Rattle.ds_state.specs.Text.{IsText}
use Rattle.ds_state.specs.Works.{PlainWorkCall}
use Rattle.ds_state.specs.World.{PlainEdit, PlainWorld, of_cell, IsHeadBy}
use Rattle.ds_state.specs.Owing.{entry}
use Rattle.ds_state.specs.KnownWork.{WorkFits, ReadsPart, value_entry, kind_entry}
use Rattle.ds_work.specs.WorkSteps.{at, access_at}
use Rattle.ds_state.specs.Sound.{IsSound, IsOfSheet}
use Rattle.ds_state.specs.declared.work.WorkStage.{WorkStage}
use Rattle.ds_state.specs.declared.work.WorkStage.TheVariants.{LoadMark, Claim, FlushClaim, BackClaim, LoadHead, LoadHeader, LoadText, Read, LoadValue, LoadKind, LoadOwnValue, LoadOwnKind, Wait, StoreValue, StoreKind, FlushValue, FlushKind, BackValue, BackKind, Telling, Clear, ClearDirty, Give, GiveDirty, FlushCleared, BackCleared, Answer}
use Rattle.ds_state.specs.declared.spread.Spread.TheVariants.{LoadRow, OrTold, FlushTold, BackTold}
use Rattle.ds_state.specs.declared.situation.Situation.TheVariants.{Working}
use Rattle.ds_state.proofs.Found.{gave_counts}
use Rattle.ds_state.proofs.Noted.{of_sheet_middle}
use Rattle.ds_work.proofs.EachWork.{text_of, fits_at}
use Rattle.ds_work.proofs.Keeping.{noted_of, fits_noted}

module _ (w : PlainWorld) (e : PlainWorkCall) (sound : IsSound w) (real : e.process < w.layout.processes) where
  inside : (s : WorkStage) → WorkFits w e.process (at e s) → e.cell < cells_of w.layout
  inside s fits = rw fits.cells fits.cell

  room : (xs : List (BufferEntry Place)) → w.memory.buffer e.process ≡ xs → length xs < 32 → length (w.memory.buffer e.process) < 32
  room xs is few = rw is few

  oldest : (x : BufferEntry Place) (xs : List (BufferEntry Place)) → w.memory.buffer e.process ≡ x ∷ xs → IsPlace w.layout x.place → HasEntry w.layout w.memory e.process
  oldest x xs is there = record { entry = x; rest = xs; oldest = is; there = there }

  header : (by : PlainEdit) → IsHeadBy (of_cell e.cell w.counted) e.head by → (e.head / 256 % 256 < w.layout.processes) × (e.head % 256 < 256)
  header by gave =
      let sheet : IsOfSheet w by = of_sheet_middle w sound.of_sheet e.cell gave.before by gave.after gave.parts in
      let is = gave.is in
      let p = sheet.process in
      let n = sheet.number in
      let limited = w.layout.limited in
      (omega arith, omega arith)

  named : (s : WorkStage) → w.situation e.process ≡ Working (at e s) → WorkFits w e.process (at e s) → CanPerform w.layout w.memory e.process (access_at w.layout.shape e s)
  named LoadMark was fits = (inside LoadMark fits, tt)
  named Claim was fits = (inside Claim fits, tt)
  named FlushClaim was fits = (inside FlushClaim fits, (real, room [] fits.buffer (omega arith)))
  named BackClaim was fits = (tt, (real, oldest (entry (Mark e.cell) fits.buffer.value) [] fits.buffer.alone (inside BackClaim fits)))
  named LoadHead was fits = (inside LoadHead fits, tt)
  named LoadHeader was fits = (header fits.knows.loaded.1.0 fits.knows.loaded.1.1, tt)
  named (LoadText part) was fits =
      let r : ReadsPart w e.cell e.head e.length e.text part = fits.knows.loaded.1 in
      let h = header r.by r.gave in
      let text : IsText r.by.text = text_of w sound r.by (gave_counts w e.cell e.head r.by r.gave) in
      let short = text.short in
      let size = r.size in
      let within = fits.at in
      let sheet : IsOfSheet w r.by = of_sheet_middle w sound.of_sheet e.cell r.gave.before r.by r.gave.after r.gave.parts in
      let room' = fits_noted w e.edition r.by sheet (noted_of e (LoadText part) w sound real was) in
      ((h.0, h.1, omega arith), tt)
  named Read was fits = (tt, tt)
  named (LoadValue i) was fits = ((fits.knows.loaded.rows i fits.at).0, tt)
  named (LoadKind i value) was fits = ((fits.knows.loaded.0.rows i fits.at).0, tt)
  named LoadOwnValue was fits = (inside LoadOwnValue fits, tt)
  named LoadOwnKind was fits = (inside LoadOwnKind fits, tt)
  named Wait was fits = (tt, tt)
  named StoreValue was fits = (inside StoreValue fits, tt)
  named StoreKind was fits = (inside StoreKind fits, tt)
  named FlushValue was fits = (inside FlushValue fits, (real, room [] fits.buffer (omega arith)))
  named FlushKind was fits = (inside FlushKind fits, (real, room (value_entry e ∷ []) fits.buffer (omega arith)))
  named BackValue was fits = (tt, (real, oldest (value_entry e) (kind_entry e ∷ []) fits.buffer (inside BackValue fits)))
  named BackKind was fits = (tt, (real, oldest (kind_entry e) [] fits.buffer (inside BackKind fits)))
  named (Telling (LoadRow part)) was fits = ((inside (Telling (LoadRow part)) fits, rw fits.cells fits.at.1), tt)
  named (Telling (OrTold d)) was fits = (rw fits.cells fits.at, tt)
  named (Telling (FlushTold d)) was fits = (rw fits.cells fits.at, (real, room [] fits.buffer (omega arith)))
  named (Telling (BackTold d)) was fits = (tt, (real, oldest (entry (Mark d) fits.buffer.value) [] fits.buffer.alone (rw fits.cells fits.at)))
  named (Clear changed) was fits = (inside (Clear changed) fits, tt)
  named ClearDirty was fits = (inside ClearDirty fits, tt)
  named Give was fits = (inside Give fits, tt)
  named GiveDirty was fits = (inside GiveDirty fits, tt)
  named (FlushCleared end) was fits = (inside (FlushCleared end) fits, (real, room [] fits.buffer (omega arith)))
  named (BackCleared end) was fits = (tt, (real, oldest (entry (Mark e.cell) fits.buffer.value) [] fits.buffer.alone (inside (BackCleared end) fits)))
  named (Answer end) was fits = (tt, tt)

  pub can_perform : (stage : WorkStage) → w.situation e.process ≡ Working (at e stage) → CanPerform w.layout w.memory e.process (access_at w.layout.shape e stage)
  can_perform stage was = named stage was (fits_at e stage w sound real was)
