-- What an edit's announcements and its record say: its number, and its cell.
use Rattle.std.proofs.Common.{ℕ, ◌≡◌, ◌<◌, ◌≤◌, ◌+◌, ◌∙◌, refl, ap, arith, zero, suc, length, List}
use Rattle.ds_formula.specs.Limits.{TEXT_MOST}
use Rattle.ds_layout.specs.Announcement.{number_after}
use Rattle.ds_layout.specs.Header.{header_of}
use Rattle.ds_layout.specs.Places.{cells_of}
use Rattle.ds_layout.specs.declared.announcement.Phase.{Phase}
use Rattle.ds_layout.specs.declared.announcement.Phase.TheVariants as phase
use Rattle.ds_layout.specs.declared.place.Edition.{Edition}
use Rattle.ds_layout.proofs.Packed.{header_of-header_word}
use Rattle.ds_state.specs.Headers.{SaysCell, HasCell}
use Rattle.ds_state.specs.Known.{IsRecorded}
use Rattle.ds_state.specs.World.{PlainEdit, PlainWorld, record_word, announcement, phase_among, last_announcement}

-- the number after the one that a word announces is read off it, in any phase
pub announced_number : (n : ℕ) (f : Phase) → number_after (announcement n f) ≡ n + 1
announced_number n phase.Pending = omega arith
announced_number n phase.Done = omega arith
announced_number n phase.NotDone = omega arith

-- how the edit before ended is announced with that one's number
pub last_number : (edits : List PlainEdit) (p n : ℕ) → number_after (last_announcement edits p n) ≡ n
last_number edits p zero = refl
last_number edits p (suc n) = let is = announced_number n (phase_among edits p n) in omega (arith, is)

-- the header's word of an edit of the sheet says its cell
pub says_own : (w : PlainWorld) (e : PlainEdit) (word : ℕ) → word ≡ record_word e 0 → e.cell < cells_of w.layout → length e.text ≤ TEXT_MOST → SaysCell w.layout e.cell word
says_own w e word is low few =
    let m = w.layout.limited in
    let reads = header_of-header_word (cells_of w.layout) (record { cell = e.cell; length = length e.text }) (record { cell = omega arith; length = omega arith }) (record { cell = low; length = few }) in
    record { header = record { cell = e.cell; length = length e.text }; is = ap (λ x. header_of (cells_of w.layout) x) is ∙ reads; of_cell = refl }

-- an edit whose header stands on both sides has its cell there
pub recorded_cell : (w : PlainWorld) (edition : Edition) (e : PlainEdit) (stored back : ℕ) → 0 < back → IsRecorded w edition e stored back → e.cell < cells_of w.layout → length e.text ≤ TEXT_MOST → HasCell w e.process e.number
recorded_cell w edition e stored back some r low few = record {
  cell = e.cell;
  cached = says_own w e _ (r.cached 0 (let f = r.fewer in omega (arith, some, f))) low few;
  persisted = says_own w e _ (r.persisted 0 some) low few;
}
