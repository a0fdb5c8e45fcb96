-- What the words of a sheet say, in a few letters.
use Rattle.std.specs.Prelude.{ℕ, ◌==◌, List, ◌++◌, Option, Some, None, codes, if◌then◌else◌}
use Rattle.std.specs.Int.{w64, cast_signed}
use Rattle.std.specs.Fmt.{decimal, signed_decimal}
use Rattle.ds_formula.specs.Cells.{cell_at}
use Rattle.ds_formula.specs.Names.{cell_text}
use Rattle.ds_layout.specs.Announcement.{announcement_of}
use Rattle.ds_layout.specs.Head.{head_of}
use Rattle.ds_layout.specs.Header.{header_of}
use Rattle.ds_layout.specs.Mark.{mark_of, state_of}
use Rattle.ds_layout.specs.Places.{cells_of, edition_of}
use Rattle.ds_layout.specs.Stored.{stored_of}
use Rattle.ds_layout.specs.declared.announcement.Announcement.{Announcement}
use Rattle.ds_layout.specs.declared.announcement.Phase.{Phase}
use Rattle.ds_layout.specs.declared.announcement.Phase.TheVariants.{Pending, Done, NotDone}
use Rattle.ds_layout.specs.declared.head.Head.{Head}
use Rattle.ds_layout.specs.declared.header.Header.{Header}
use Rattle.ds_layout.specs.declared.layout.Layout.{Layout}
use Rattle.ds_layout.specs.declared.mark.State.{State}
use Rattle.ds_layout.specs.declared.mark.State.TheVariants.{Clean, Marked, Held}
use Rattle.ds_layout.specs.declared.place.Edition.{Edition}
use Rattle.ds_layout.specs.declared.place.Edition.TheVariants.{First, Second}
use Rattle.ds_layout.specs.declared.place.Place.{Place}
use Rattle.ds_layout.specs.declared.place.Place.TheVariants as place
use Rattle.ds_layout.specs.declared.stored.Kind.{Kind}
use Rattle.ds_layout.specs.declared.stored.Kind.TheVariants as kinds

-- the layout that a version says
abbrev pub edition_label : Edition → List ℕ
edition_label First = codes "layout 1"
edition_label Second = codes "layout 2"

-- the edit that a head names, if it names one
abbrev pub head_label : Option Head → List ℕ
head_label (Some head) = codes "edit " ++ (decimal head.process ++ (codes " " ++ decimal head.number))
head_label None = codes "none"

-- the state of a mark
abbrev pub state_label : State → List ℕ
state_label Clean = codes "clean"
state_label Marked = codes "dirty"
state_label (Held process) = codes "held " ++ decimal process

-- the kind of a value
abbrev pub kind_name : Kind → List ℕ
kind_name kinds.Blank = codes "blank"
kind_name kinds.Number = codes "number"
kind_name kinds.DivZero = codes "#DIV/0!"
kind_name kinds.Num = codes "#NUM!"
kind_name kinds.Circular = codes "Err:522"

-- how far an announced edit is
abbrev pub phase_name : Phase → List ℕ
phase_name Pending = codes "pending"
phase_name Done = codes "done"
phase_name NotDone = codes "not done"

-- the edit that is announced, if one is
abbrev pub announcement_label : Option Announcement → List ℕ
announcement_label (Some announcement) = decimal announcement.number ++ (codes " " ++ phase_name announcement.phase)
announcement_label None = codes "none"

-- the cell and the length that a header says; the number of a word that is none, or of one that is not written
abbrev pub header_label : Layout → ℕ → Option Header → List ℕ
header_label layout word (Some header) =
    if word == 0 then decimal word else cell_text (cell_at layout.shape header.cell) ++ (codes " " ++ decimal header.length)
header_label layout word None = decimal word

-- what the word of this place says, where it is no part of a text and no row of bits
abbrev pub label_of : Layout → Place → ℕ → Option (List ℕ)
label_of layout place.Version word = Some (edition_label (edition_of word))
label_of layout (place.Head cell) word = Some (head_label (head_of layout.processes word))
label_of layout (place.Mark cell) word = Some (state_label (state_of (mark_of layout.processes word)))
label_of layout (place.Value cell) word = Some (signed_decimal (cast_signed w64 word))
label_of layout (place.Kind cell) word = Some (kind_name (stored_of (cells_of layout) 0 word).kind)
label_of layout (place.Announce process) word = Some (announcement_label (announcement_of word))
label_of layout (place.Header process number) word = Some (header_label layout word (header_of (cells_of layout) word))
label_of layout (place.Index row part) word = None
label_of layout (place.Text edition process number part) word = None
label_of layout (place.Done process part) word = None
