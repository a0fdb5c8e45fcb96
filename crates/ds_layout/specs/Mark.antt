-- The mark of a cell.
use Rattle.std.specs.Prelude.{ℕ, ◌≡◌, ◌+◌, ◌-◌, ◌*◌, ◌/◌, ◌%◌, ◌^◌, ◌<◌, ◌==◌, nat_lt, Option, Some, None, Bool, true, false, if◌then◌else◌}
use Rattle.ds_layout.specs.declared.mark.Mark.{Mark}
use Rattle.ds_layout.specs.declared.mark.State.{State}
use Rattle.ds_layout.specs.declared.mark.State.TheVariants.{Clean, Marked, Held}

-- the code of a mark's holder: 0 for nobody
abbrev pub holder_code : Option ℕ → ℕ
holder_code None = 0
holder_code (Some process) = process + 1

-- the dirty bit of a mark's word
abbrev pub dirty_bit : Bool → ℕ
dirty_bit false = 0
dirty_bit true = 1

-- each part of the mark fits its place in the word
pub record CanPack (mark : Mark) : Type 0 where
  pub generation : mark.generation < 2 ^ 59
  pub holder : holder_code mark.holder < 16

-- the word of a mark: its generation, the code of its holder and its dirty bit
abbrev pub mark_word : Mark → ℕ
mark_word mark = mark.generation * 32 + holder_code mark.holder * 2 + dirty_bit mark.dirty

-- the holder that this code in a mark's word stands for: nobody for 0
abbrev pub holder_of : ℕ → Option ℕ
holder_of code = if code == 0 then None else Some (code - 1)

-- the parts of a mark's word, whatever they are
abbrev pub parts_of : ℕ → Mark
parts_of word = record {
  generation = word / 32;
  holder = holder_of (word / 2 % 16);
  dirty = word % 2 == 1;
}

-- the holder, where it is one of that number of processes; any other one is nobody
abbrev pub present : ℕ → Option ℕ → Option ℕ
present processes None = None
present processes (Some process) = if nat_lt process processes then Some process else None

-- the generation in a mark's word
abbrev pub generation_of : ℕ → ℕ
generation_of word = word / 32

-- the tenure in a mark's word: its generation with its holder
abbrev pub tenure : ℕ → ℕ
tenure word = word / 2

-- the word of a clean mark: no holder, not dirty
abbrev pub IsClean : ℕ → Type 0
IsClean word = word % 32 ≡ 0

-- the word of a mark that is not dirty: clean, or held and not marked since
abbrev pub IsEven : ℕ → Type 0
IsEven word = word % 2 ≡ 0

-- the word of a mark whose holder is this process
abbrev pub IsHeldBy : ℕ → ℕ → Type 0
IsHeldBy q word = word / 2 % 16 ≡ q + 1

-- whether it is the word of a mark whose holder is this process
abbrev pub is_held_by : ℕ → ℕ → Bool
is_held_by q word = word / 2 % 16 == q + 1

-- the word of the next generation after this one, held by nobody and clean
abbrev pub freed_after : ℕ → ℕ
freed_after word = (generation_of word + 1) * 32

-- the word of the next generation after this one, held by the process and clean
abbrev pub held_after : ℕ → ℕ → ℕ
held_after process word = (generation_of word + 1) * 32 + (process + 1) * 2

-- the word of the same mark, dirty, of one that is not
abbrev pub dirtied : ℕ → ℕ
dirtied word = word + 1

-- the word of the same mark, dirty, of any one
abbrev pub marked : ℕ → ℕ
marked word = dirtied (tenure word * 2)

-- what a mark's word says in a sheet with that number of processes
abbrev pub mark_of : ℕ → ℕ → Mark
mark_of processes word = record {
  generation = word / 32;
  holder = present processes (holder_of (word / 2 % 16));
  dirty = word % 2 == 1;
}

-- the state of a mark with this holder, where it has one, that is dirty or not
abbrev pub state_by : Option ℕ → Bool → State
state_by (Some process) dirty = Held process
state_by None false = Clean
state_by None true = Marked

-- the state of a mark: clean without a holder and not dirty, marked without a holder and dirty, else held
abbrev pub state_of : Mark → State
state_of mark = state_by mark.holder mark.dirty
