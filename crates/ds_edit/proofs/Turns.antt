-- What each step of an edit has in common.
use Rattle.std.proofs.Common.{ℕ, ◌≡◌, ◌<◌, ◌^◌, List, [], ◌∷◌, ◌++◌, refl, ap, sym, ◌∙◌, subst, arith, length, Some}
use Rattle.std.specs.Prelude.{Option}
use Rattle.std.proofs.lemmas.List.{append-nil}
use Rattle.ds_words.specs.declared.access.BufferEntry.{BufferEntry}
use Rattle.ds_words.specs.Memory.{Memory, WritesBack, BacksFirst}
use Rattle.ds_layout.specs.declared.place.Place.{Place}
use Rattle.ds_state.specs.Edits.{PlainEditCall, text_parts}
use Rattle.ds_state.specs.World.{edit_of, PlainIssue, PlainWorld}
use Rattle.ds_state.specs.Known.{known_at, Knowing}
use Rattle.ds_state.specs.CallsFit.{held_at, Holds, EditFits, CallFits}
use Rattle.ds_state.specs.Owing.{HoldsNone}
use Rattle.ds_state.specs.declared.stage.Stage.{Stage}
use Rattle.ds_state.specs.declared.situation.Situation.{Situation}
use Rattle.ds_state.specs.declared.situation.Situation.TheVariants.{Editing}
use Rattle.ds_state.proofs.Accesses.{Turn}
use Rattle.ds_state.proofs.Frames.{Goes, notes, noted_in}
use Rattle.ds_state.specs.Editions.{Agrees}
use Rattle.ds_state.specs.LayoutsFit.{LayoutFits}
use Rattle.ds_state.specs.Sound.{IsSound}
use Rattle.ds_state.specs.declared.stage.Stage.TheVariants.{Answer}
use Rattle.ds_edit.specs.EditSteps.{next_at}
use Rattle.ds_edit.specs.EditTakes.{StepsAt, counted_at, open_edit_at, after}
use Rattle.ds_edit.proofs.Stays.{stays}

-- the edit at a stage
abbrev pub on : PlainEditCall → Stage → PlainEditCall
on e s = record e { stage = s }

-- what is known of it at a stage, and what its buffer holds
abbrev pub Known_on : PlainWorld → PlainEditCall → ℕ → Stage → Type 0
Known_on w e since s = Knowing w e.edition (edit_of e) e.refs since (known_at (text_parts e.text) (length e.refs) s)

-- the buffer holds what the edit's does at this stage
abbrev pub Holds_on : PlainWorld → PlainEditCall → Stage → Type 0
Holds_on w e s = Holds w e.edition (edit_of e) (held_at (text_parts e.text) e.refs s)

-- a step before the answer, by which nothing is linearized
pub record IsPlainStep (e : PlainEditCall) (s : Stage) (word : ℕ) : Type 0 where
  pub goes_on : after e s word ≡ Editing (on e (next_at e s word))
  pub counts : counted_at (edit_of e) s word ≡ []
  pub pends : (issue : Option PlainIssue) → open_edit_at issue s ≡ issue

noted_after : (e : PlainEditCall) (s : Stage) (word : ℕ) → noted_in (after e s word) ≡ Some e.edition
noted_after e (Answer how) word = refl
noted_after e _ word = refl

-- its process is one of the sheet, and both sides say the layout that it noted
pub is_within : (e : PlainEditCall) (s : Stage) (w : PlainWorld) → EditFits w e.process (on e s) → e.process < w.layout.processes
is_within e s w fits = rw fits.sheet.processes fits.is.process

-- in a sound world both sides say the layout that an edit relies on
pub noted_of : (e : PlainEditCall) (s : Stage) (w : PlainWorld) → IsSound w → w.situation e.process ≡ Editing (on e s) → EditFits w e.process (on e s) → Agrees w.memory e.edition
noted_of e s w sound at fits = subst (λ (x : Situation). LayoutFits w e.process x) at (sound.layouts e.process (is_within e s w fits))

module _ (e : PlainEditCall) (s : Stage) (word : ℕ) (old new : PlainWorld) (t : StepsAt e s word old new) where
  same_counted : counted_at (edit_of e) s word ≡ [] → new.counted ≡ old.counted
  same_counted none = t.counted ∙ ap (λ es. old.counted ++ es) none ∙ append-nil old.counted

  -- it keeps the layout that it noted
  pub goes_on : old.situation e.process ≡ Editing (on e s) → e.process < old.layout.processes → Goes e.process old new
  goes_on at real = notes e.edition real (ap noted_in at) (ap noted_in t.situation ∙ noted_after e s word)

  pub turn : old.situation e.process ≡ Editing (on e s) → e.process < old.layout.processes → counted_at (edit_of e) s word ≡ [] → Turn e.process old new
  turn at real none = record {
    layout = t.layout;
    counted = same_counted none;
    situations = t.others;
    pendings = t.others_open_edits;
    goes = goes_on at real;
  }

  pub goes : IsPlainStep e s word → new.situation e.process ≡ Editing (on e (next_at e s word))
  goes plain = t.situation ∙ plain.goes_on

  pub stays_open : IsPlainStep e s word → new.open_edits e.process ≡ old.open_edits e.process
  stays_open plain = t.open_edits ∙ plain.pends (old.open_edits e.process)

  -- what fits the next stage, where that is known and held
  pub fits_next : (fits : EditFits old e.process (on e s)) → IsPlainStep e s word → word < 2 ^ 64 → HoldsNone new e.process
      → Known_on new e fits.since (next_at e s word) → Holds_on new e (next_at e s word)
      → CallFits new e.process (new.situation e.process)
  fits_next fits plain small free knows holds = subst (λ (x : Situation). CallFits new e.process x) (sym (t.situation ∙ plain.goes_on)) (record {
    mine = refl;
    is = record {
      process = fits.is.process;
      processes = fits.is.processes;
      number = fits.is.number;
      cell = fits.is.cell;
      cells = fits.is.cells;
      text = fits.is.text;
      fits = fits.is.fits;
      refs = fits.is.refs;
      stage = stays e s word small fits.is.stage;
    };
    sheet = record { cells = rw t.layout fits.sheet.cells; processes = rw t.layout fits.sheet.processes };
    refs = rw t.layout fits.refs;
    since = fits.since;
    open_edits = t.open_edits ∙ plain.pends (old.open_edits e.process) ∙ fits.open_edits;
    issued = (let l = ap length (same_counted plain.counts) in let i = fits.issued in omega arith);
    holds_none = free;
    knows = knows;
    buffer = holds;
  })

-- the entry that is written back is the oldest
pub back_first : {p : ℕ} {old new : Memory Place} (x : BufferEntry Place) (xs : List (BufferEntry Place)) → old.buffer p ≡ x ∷ xs → BacksFirst p old new → WritesBack p x xs old new
back_first {p} {old} {new} x xs holds (entry, rest, m) =
    let both : x ∷ xs ≡ entry ∷ rest = sym holds ∙ m.oldest in
    let a : entry ≡ x = cc in
    let b : rest ≡ xs = cc in
    subst (λ (r : List (BufferEntry Place)). WritesBack p x r old new) b (subst (λ (y : BufferEntry Place). WritesBack p y rest old new) a m)
