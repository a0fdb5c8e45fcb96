-- What the two words of a cell show, and the words of an entry.
use Rattle.std.specs.Prelude.{ℕ, ℤ, pos}
use Rattle.ds_eval.specs.declared.value.Value.{Value}
use Rattle.ds_eval.specs.declared.value.Value.TheVariants as value
use Rattle.ds_eval.specs.declared.inputs.Entry as entries
use Rattle.ds_layout.specs.declared.stored.Kind.{Kind}
use Rattle.ds_layout.specs.declared.stored.Kind.TheVariants as kind
use Rattle.ds_layout.specs.declared.stored.Stored.{Stored}
use Rattle.ds_layout.specs.Stored.{stored_of, value_word, kind_word}

-- the value that a kind shows, where the value word has this number
abbrev pub shown : Kind → ℤ → Value
shown kind.Blank number = value.Blank
shown kind.Number number = value.Number number
shown kind.DivZero number = value.DivZero
shown kind.Num number = value.Num
shown kind.Circular number = value.Circular

-- the value that a cell's kind and number show
abbrev pub shown_of : Stored → Value
shown_of stored = shown stored.kind stored.value

-- the entry that a value word and a kind word show, in a sheet with that number of cells
abbrev pub shown_entry : ℕ → ℕ → ℕ → entries.Entry
shown_entry cells v k = record { value = shown_of (stored_of cells v k); height = (stored_of cells v k).height }

-- the kind that a value is stored with
abbrev pub kind_for : Value → Kind
kind_for value.Blank = kind.Blank
kind_for (value.Number z) = kind.Number
kind_for value.DivZero = kind.DivZero
kind_for value.Num = kind.Num
kind_for value.Circular = kind.Circular

-- the number that a value is stored with: 0 where it is no number
abbrev pub number_for : Value → ℤ
number_for (value.Number z) = z
number_for _ = pos 0

-- what is stored for an entry: its kind, its height and its number
abbrev pub stored_for : entries.Entry → Stored
stored_for e = record { kind = kind_for e.value; height = e.height; value = number_for e.value }

-- the value word of an entry
abbrev pub value_for : entries.Entry → ℕ
value_for e = value_word (stored_for e)

-- the kind word of an entry
abbrev pub word_for : entries.Entry → ℕ
word_for e = kind_word (stored_for e)
