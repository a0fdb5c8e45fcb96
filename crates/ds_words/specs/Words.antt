-- Words by their numbers, and the memory that they are.
use Rattle.std.specs.Prelude.{ℕ, ◌≡◌, ◌<◌, List, [], ◌∷◌, length, slice_index_or, slice_set, replicate}
use Rattle.ds_words.specs.declared.access.Class.{Class}
use Rattle.ds_words.specs.declared.access.Class.TheVariants.{Stamped}
use Rattle.ds_words.specs.declared.access.BufferEntry.{BufferEntry}
use Rattle.ds_words.specs.declared.access.Access.{Access}
use Rattle.ds_words.specs.declared.access.Access.TheVariants.{Nothing, Load, Store, Or, SwapIf, Flush, Back}
use Rattle.ds_words.specs.declared.words.Word.{Word}
use Rattle.ds_words.specs.declared.words.TheConstants.{BUFFER_ENTRIES}
use Rattle.ds_words.specs.Memory.{Memory}

-- how many entries a buffer may have
abbrev pub BUFFER_MOST : ℕ
BUFFER_MOST = 32

-- the class and both sides of each word, and the buffer of each process
pub record WordsValue : Type 0 where
  pub classes : List Class
  pub words : List Word
  pub buffers : List (List (BufferEntry ℕ))

-- a word that is zero on both sides
abbrev pub zero_word : Word
zero_word = record { cached = 0; persisted = 0 }

-- the word with this number, zero where there is none
unfoldable pub word_at : WordsValue → ℕ → Word
word_at v n = slice_index_or v.words n zero_word

-- the words with both sides of this one changed
unfoldable pub with_word : WordsValue → ℕ → Word → WordsValue
with_word v n w = record v { words = slice_set v.words n w }

-- the class of the word with this number
unfoldable pub class_at : WordsValue → ℕ → Class
class_at v n = slice_index_or v.classes n Stamped

-- the buffer of the process, empty where there is no such process
unfoldable pub buffer_of : WordsValue → ℕ → List (BufferEntry ℕ)
buffer_of v p = slice_index_or v.buffers p []

-- the words with the buffer of the process changed
unfoldable pub with_buffer : WordsValue → ℕ → List (BufferEntry ℕ) → WordsValue
with_buffer v p entries = record v { buffers = slice_set v.buffers p entries }

-- the words as a memory
abbrev pub memory_of : WordsValue → Memory ℕ
memory_of v = record {
  cached = λ n. (word_at v n).cached;
  persisted = λ n. (word_at v n).persisted;
  buffer = λ p. buffer_of v p;
}

-- words of these classes that are zero on both sides, with an empty buffer for each process
abbrev pub fresh_words : List Class → ℕ → WordsValue
fresh_words classes processes = record {
  classes = classes;
  words = replicate (length classes) zero_word;
  buffers = replicate processes [];
}

-- both have as many words, of the same classes, and as many processes
pub record SameShape (old new : WordsValue) : Type 0 where
  pub classes : new.classes ≡ old.classes
  pub words : length new.words ≡ length old.words
  pub buffers : length new.buffers ≡ length old.buffers

-- there is a word with this number
abbrev pub HasWord : WordsValue → ℕ → Type 0
HasWord v n = n < length v.words

-- there is a process with this number
abbrev pub HasProcess : WordsValue → ℕ → Type 0
HasProcess v p = p < length v.buffers

-- the buffer of the process has room for one more entry
abbrev pub HasRoom : WordsValue → ℕ → Type 0
HasRoom v p = length (buffer_of v p) < BUFFER_ENTRIES

-- the oldest entry of the process is one for a word that is there
pub record HasEntry (v : WordsValue) (p : ℕ) : Type 0 where
  pub process : HasProcess v p
  pub entry : BufferEntry ℕ
  pub rest : List (BufferEntry ℕ)
  pub oldest : buffer_of v p ≡ entry ∷ rest
  pub there : HasWord v entry.place

-- the process may perform the access: its word is there, and the buffer has the room or the entry for it
abbrev pub CanPerform : WordsValue → ℕ → Access ℕ → Type 0
CanPerform v p Nothing = Unit {0}
CanPerform v p (Load word) = HasWord v word
CanPerform v p (Store word value) = HasWord v word
CanPerform v p (Or word bits) = HasWord v word
CanPerform v p (SwapIf word expected value) = HasWord v word
CanPerform v p (Flush word) = HasWord v word × HasProcess v p × HasRoom v p
CanPerform v p Back = HasEntry v p

-- a word after a crash: both sides are what the persisted one was
abbrev pub crashed : Word → Word
crashed w = record { cached = w.persisted; persisted = w.persisted }
