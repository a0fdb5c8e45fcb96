-- Each access of an edit names a place of its sheet.
use Rattle.std.proofs.Common.{ℕ, ◌/◌, ◌<◌, length, slice_index_or, arith}
use Rattle.std.proofs.lemmas.List.Elements.{All-get_or}
use Rattle.ds_layout.specs.declared.layout.Layout.{Layout}
use Rattle.ds_layout.specs.Places.{cells_of, parts_of}
use Rattle.ds_layout.specs.SheetMemory.{NamesPlace}
use Rattle.ds_state.specs.Edits.{PlainEditCall, IsEdit, IsStage}
use Rattle.ds_state.specs.declared.stage.Stage.{Stage}
use Rattle.ds_state.specs.declared.stage.Stage.TheVariants.{StoreHeader, StoreText, FlushHeader, FlushText, BackRecord, StorePending, FlushPending, BackPending, OrIndex, FlushIndex, BackIndex, LoadHead, FlushNoted, BackNoted, OrDone, FlushDone, BackDone, Swap, FlushOwn, BackOwn, OrMark, FlushMark, BackMark, StoreOutcome, FlushOutcome, BackOutcome, Answer}
use Rattle.ds_edit.specs.EditSteps.{access_at}
use Rattle.ds_state.specs.CallsFit.{IsSheetOf}

-- the place of an edit's bit in the row of a reference is one of its sheet
pub reference_named : (layout : Layout) (e : PlainEditCall) (i : ℕ) → IsSheetOf layout e → IsEdit e → i < length e.refs
    → (slice_index_or e.refs i 0 < cells_of layout) × (e.cell / 64 < parts_of layout)
reference_named layout e i s is l =
    let r : slice_index_or e.refs i 0 < e.cells = All-get_or (λ r. r < e.cells) e.refs i 0 l is.refs in
    let c = is.cell in
    let k = s.cells in
    (omega arith, omega arith)

named : (layout : Layout) (e : PlainEditCall) → IsSheetOf layout e → IsEdit e → (stage : Stage) → IsStage e stage → NamesPlace layout (access_at e stage)
named layout e s is StoreHeader h = (rw s.processes is.process, is.number)
named layout e s is (StoreText part) h = let t = is.fits in (rw s.processes is.process, is.number, omega arith)
named layout e s is FlushHeader h = (rw s.processes is.process, is.number)
named layout e s is (FlushText part) h = let t = is.fits in (rw s.processes is.process, is.number, omega arith)
named layout e s is (BackRecord left) h = tt
named layout e s is StorePending h = rw s.processes is.process
named layout e s is FlushPending h = rw s.processes is.process
named layout e s is BackPending h = tt
named layout e s is (OrIndex i) h = reference_named layout e i s is h
named layout e s is (FlushIndex i) h = reference_named layout e i s is h
named layout e s is (BackIndex i) h = tt
named layout e s is LoadHead h = rw s.cells is.cell
named layout e s is (FlushNoted head) h = rw s.cells is.cell
named layout e s is (BackNoted head) h = tt
named layout e s is (OrDone head) h = let n = h.packs.number in (rw s.processes h.process, omega arith)
named layout e s is (FlushDone head) h = let n = h.packs.number in (rw s.processes h.process, omega arith)
named layout e s is (BackDone head) h = tt
named layout e s is (Swap noted) h = rw s.cells is.cell
named layout e s is (FlushOwn own) h = rw s.cells is.cell
named layout e s is (BackOwn own) h = tt
named layout e s is (OrMark own) h = rw s.cells is.cell
named layout e s is (FlushMark own) h = rw s.cells is.cell
named layout e s is (BackMark own) h = tt
named layout e s is (StoreOutcome how) h = rw s.processes is.process
named layout e s is (FlushOutcome how) h = rw s.processes is.process
named layout e s is (BackOutcome how) h = tt
named layout e s is (Answer how) h = tt

-- each access of an edit names a place of its sheet
pub each_named : (layout : Layout) (e : PlainEditCall) → IsSheetOf layout e → IsEdit e → NamesPlace layout (access_at e e.stage)
each_named layout e s is = named layout e s is e.stage is.stage
