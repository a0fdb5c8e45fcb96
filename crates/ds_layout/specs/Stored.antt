-- What a cell shows, in two words.
use Rattle.std.specs.Prelude.{ℕ, ℤ, pos, ◌≡◌, ◌+◌, ◌*◌, ◌/◌, ◌%◌, ◌<◌, ◌==◌, nat_lt, if◌then◌else◌}
use Rattle.std.specs.Int.{w64, cast_signed, cast_unsigned}
use Rattle.ds_layout.specs.declared.stored.Kind.{Kind}
use Rattle.ds_layout.specs.declared.stored.Kind.TheVariants.{Blank, Number, DivZero, Num, Circular}
use Rattle.ds_layout.specs.declared.stored.Stored.{Stored}

-- the code of a kind in a kind word
abbrev pub kind_code : Kind → ℕ
kind_code Blank = 0
kind_code Number = 1
kind_code DivZero = 2
kind_code Num = 3
kind_code Circular = 4

-- the height and the number that go with a kind, in a sheet with that number of cells
abbrev pub Goes : ℕ → Kind → ℕ → ℤ → Type 0
Goes cells Blank height value = (height < cells) × (value ≡ pos 0)
Goes cells Number height value = height < cells
Goes cells DivZero height value = (height < cells) × (value ≡ pos 0)
Goes cells Num height value = (height < cells) × (value ≡ pos 0)
Goes cells Circular height value = (height ≡ cells) × (value ≡ pos 0)

-- what a cell can show in a sheet with that number of cells
abbrev pub IsStored : ℕ → Stored → Type 0
IsStored cells s = Goes cells s.kind s.height s.value

-- the kind word of what a cell shows: its height and the code of its kind
abbrev pub kind_word : Stored → ℕ
kind_word s = s.height * 8 + kind_code s.kind

-- the value word of what a cell shows: its number in two's complement
abbrev pub value_word : Stored → ℕ
value_word s = cast_unsigned w64 s.value

-- what a kind's code, with this height and this number, says: a code of 4 or more is a circular reference
abbrev pub stored_by : ℕ → ℕ → ℕ → ℤ → Stored
stored_by cells height code value =
    if code == 0 then record { kind = Blank; height = height; value = pos 0 }
    else (if code == 1 then record { kind = Number; height = height; value = value }
    else (if code == 2 then record { kind = DivZero; height = height; value = pos 0 }
    else (if code == 3 then record { kind = Num; height = height; value = pos 0 }
    else record { kind = Circular; height = cells; value = pos 0 })))

-- what the value's word and the kind's word say: a height out of range or a kind of 4 or more is a circular reference
abbrev pub stored_of : ℕ → ℕ → ℕ → Stored
stored_of cells value kind =
    if nat_lt (kind / 8) cells then stored_by cells (kind / 8) (kind % 8) (cast_signed w64 value)
    else record { kind = Circular; height = cells; value = pos 0 }
