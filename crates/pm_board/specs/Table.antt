-- The words of a structure on a table. The two sides of a word lie beside each other, the cached one first. Each of the
-- structure's first words lies 64 bytes after the one before, so that no two share a line of a cache; what lies between
-- serves nothing. After them one word follows on the other.
use Rattle.std.specs.Prelude.{ℕ, ◌+◌, ◌*◌, ◌<◌, ◌==◌, nat_lt, if◌then◌else◌, bit_or, List, [], ◌∷◌, ◌++◌, length, slice_index, Option, Some, None}
use prog.Atomic.{either}
use Rattle.ds_words.specs.declared.access.Class.{Class}
use Rattle.ds_words.specs.declared.access.Class.TheVariants.{Stamped, Bit, Owned}
use Rattle.ds_words.specs.declared.access.BufferEntry.{BufferEntry}
use Rattle.ds_words.specs.declared.access.Access.{Access}
use Rattle.ds_words.specs.declared.access.Access.TheVariants.{Nothing, Load, Store, Or, SwapIf, Flush, Back}
use Rattle.ds_words.specs.declared.words.TheConstants.{BUFFER_ENTRIES}
use Rattle.ds_words.specs.Memory.{Memory, newer}

-- the number of the table's word that is the cached side of word n, where this number of first words lies apart; it is
-- also how many words of the table the first n words take
unfoldable pub cached_at : ℕ → ℕ → ℕ
cached_at apart n = if nat_lt n apart then 8 * n else 6 * apart + 2 * n

-- that of its persisted side
abbrev pub persisted_at : ℕ → ℕ → ℕ
persisted_at apart n = cached_at apart n + 1

-- the table's words as a memory, with these buffers
abbrev pub two_sided : ℕ → List ℕ → (ℕ → List (BufferEntry ℕ)) → Memory ℕ
two_sided apart words buffer = record {
  cached = λ n. slice_index words (cached_at apart n);
  persisted = λ n. slice_index words (persisted_at apart n);
  buffer = buffer;
}

-- the oldest entry of a buffer
abbrev pub oldest_of : List (BufferEntry ℕ) → Option (BufferEntry ℕ)
oldest_of [] = None
oldest_of (x ∷ rest) = Some x

-- the buffer without it
abbrev pub rest_of : List (BufferEntry ℕ) → List (BufferEntry ℕ)
rest_of [] = []
rest_of (x ∷ rest) = rest

-- the table's word that an access takes, with this oldest entry
abbrev pub word_of : ℕ → Access ℕ → Option (BufferEntry ℕ) → ℕ
word_of apart Nothing oldest = 0
word_of apart (Load n) oldest = cached_at apart n
word_of apart (Store n value) oldest = cached_at apart n
word_of apart (Or n bits) oldest = cached_at apart n
word_of apart (SwapIf n expected value) oldest = cached_at apart n
word_of apart (Flush n) oldest = cached_at apart n
word_of apart Back None = 0
word_of apart Back (Some x) = persisted_at apart x.place

-- what it makes of that word
abbrev pub change : Access ℕ → Option (BufferEntry ℕ) → ℕ → ℕ
change Nothing oldest found = found
change (Load n) oldest found = found
change (Store n value) oldest found = value
change (Or n bits) oldest found = bit_or found bits
change (SwapIf n expected value) oldest found = either (found == expected) value found
change (Flush n) oldest found = found
change Back None found = found
change Back (Some x) found = newer x.class found x.value

-- what it answers
abbrev pub answer : Access ℕ → ℕ → ℕ
answer (Load n) found = found
answer (SwapIf n expected value) found = found
answer _ found = 0

-- what the table reports of its step: the number found, or, where it stores, the number stored
abbrev pub reported_back : Class → ℕ → ℕ → ℕ
reported_back Stamped found value = found
reported_back Bit found value = found
reported_back Owned found value = value

-- what a call of the table reports of an access, with the oldest entry of the buffer, where the word is this
abbrev pub reported : Access ℕ → Option (BufferEntry ℕ) → ℕ → ℕ
reported (Store n value) oldest found = value
reported Back None found = found
reported Back (Some x) found = reported_back x.class found x.value
reported _ oldest found = found

-- the buffer after it
abbrev pub buffer_after : (ℕ → Class) → Access ℕ → List (BufferEntry ℕ) → ℕ → List (BufferEntry ℕ)
buffer_after class_of (Flush n) buffer found = buffer ++ record { place = n; class = class_of n; value = found } ∷ []
buffer_after class_of Back buffer found = rest_of buffer
buffer_after class_of _ buffer found = buffer

-- a flush finds room
abbrev pub HasRoom : Access ℕ → List (BufferEntry ℕ) → Type 0
HasRoom (Flush n) buffer = length buffer < BUFFER_ENTRIES
HasRoom _ buffer = Unit {0}
