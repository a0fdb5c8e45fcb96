-- What a crash takes back.
use Rattle.std.specs.Prelude.{ℕ, zero, suc, ◌==◌, List, [], ◌∷◌, ◌++◌, length, Option, Some, None, codes, if◌then◌else◌}
use Rattle.std.specs.Fmt.{decimal}
use Rattle.ds_formula.specs.Cells.{cell_at}
use Rattle.ds_formula.specs.Names.{cell_text}
use Rattle.ds_words.specs.declared.words.Word.{Word}
use Rattle.ds_layout.specs.Head.{head_of}
use Rattle.ds_layout.specs.declared.head.Head.{Head}
use Rattle.ds_layout.specs.declared.layout.Layout.{Layout}
use Rattle.ds_layout.specs.declared.place.Place.{Place}
use Rattle.ds_layout.specs.declared.place.Place.TheVariants as place
use Rattle.ds_trace.specs.declared.row.Trace.{Trace}
use Rattle.ds_trace_scene.specs.Columns.{word_after, word_before}
use Rattle.ds_trace_brief.specs.Keeping.{place_at}

-- the edit that a cell's head names, if it names one
abbrev pub edit_text : Layout → ℕ → Option Head → List ℕ
edit_text layout cell (Some head) =
    codes "edit " ++ (decimal head.number ++ (codes " of process " ++ (decimal head.process ++ (codes " in " ++ cell_text (cell_at layout.shape cell)))))
edit_text layout cell None = []

-- the edit that a crash takes back by which a word is no longer the one and is the other: the one that the cached side of
-- a head named; else nothing
abbrev pub taken_text : Layout → Place → Word → Word → List ℕ
taken_text layout (place.Head cell) old new = if old.cached == new.cached then [] else edit_text layout cell (head_of layout.processes old.cached)
taken_text layout _ old new = []

-- one more edit in the sentence, if it is one
abbrev pub joined : List ℕ → List ℕ → List ℕ
joined sentence [] = sentence
joined [] (letter ∷ edit) = codes "the crash takes back " ++ letter ∷ edit
joined (first ∷ sentence) (letter ∷ edit) = (first ∷ sentence) ++ (codes ", " ++ letter ∷ edit)

-- the sentence of what the crash, the event with this number, takes back of the first words, this many; nothing where it
-- takes back nothing of them
abbrev pub taken_below : Trace → ℕ → ℕ → List ℕ
taken_below trace event zero = []
taken_below trace event (suc number) =
    joined (taken_below trace event number) (taken_text trace.layout (place_at trace number) (word_before trace number event) (word_after trace number event))

-- the sentence, or that there is none
abbrev pub or_none : List ℕ → List ℕ
or_none [] = codes "the crash takes back no edit"
or_none (letter ∷ sentence) = letter ∷ sentence

-- what is said of a crash, the event with this number
abbrev pub crash_text : Trace → ℕ → List ℕ
crash_text trace event = or_none (taken_below trace event (length trace.places.items))
