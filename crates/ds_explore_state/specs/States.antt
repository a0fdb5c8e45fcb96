-- What a state is, and its key.
use Rattle.std.specs.Prelude.{ℕ, zero, suc, ◌≡◌, ◌<◌, ◌++◌, List, [], ◌∷◌, Option, Some, length, map, option_map, slice_get}
use Rattle.std.specs.List.{AllByRecursion}
use Rattle.ds_words.specs.declared.access.BufferEntry.{BufferEntry}
use Rattle.ds_words.specs.declared.words.Word.{Word}
use Rattle.ds_layout.specs.declared.place.Place.{Place}
use Rattle.ds_layout.specs.SheetMemory.{memory}
use Rattle.ds_state.specs.Value.{WorldValue}
use Rattle.ds_state.specs.declared.answer.Answer.{Answer}
use Rattle.ds_state.specs.declared.situation.Situation.{Situation}
use Rattle.ds_state.specs.declared.situation.Situation.TheVariants.{Stopped}
use Rattle.ds_explore_state.specs.declared.part.Part.{Part}
use Rattle.ds_explore_state.specs.declared.part.Part.TheVariants as parts
use Rattle.ds_explore_state.specs.declared.position.Position.{Position}
use Rattle.ds_explore_state.specs.declared.position.ProcessState.{ProcessState}
use Rattle.ds_explore_state.specs.declared.touched.Touched.{Touched}

-- a process beside its situation: its buffer, the oldest entry first, what its call was answered, and the text of that
pub record PlainSeat : Type 0 where
  pub buffer : List (BufferEntry Place)
  pub answer : Option Answer
  pub text : List ℕ

-- the same, without where it lies in memory
abbrev pub seat_of : ProcessState → PlainSeat
seat_of seat = record { buffer = seat.buffer.items; answer = seat.answer; text = seat.text.items }

-- a part of a state: both sides of the words of a group; or what a process does, and what it has besides
pub data PlainPart : Type 0 where
  Words : List Word → PlainPart
  Process : Option Situation → Option PlainSeat → PlainPart

-- the same, without where it lies in memory
abbrev pub plain_part : Part → PlainPart
plain_part (parts.Words words) = Words words.items
plain_part (parts.Process situation seat) = Process situation (Some (seat_of seat))

-- the same of some parts
abbrev pub plain_parts : List Part → List PlainPart
plain_parts ps = map plain_part ps

-- both sides of the word at a place
abbrev pub word_in : WorldValue → Place → Word
word_in w place = record { cached = (memory w.sheet).cached place; persisted = (memory w.sheet).persisted place }

-- what a crash leaves of the word at a place
abbrev pub lost_in : WorldValue → Place → Word
lost_in w place = record { cached = (memory w.sheet).persisted place; persisted = (memory w.sheet).persisted place }

-- the places of the groups
abbrev pub groups_of : Touched → List (List Place)
groups_of touched = map (λ group. group.items) touched.groups.items

-- all places of groups, one group after the other
abbrev pub all_places : List (List Place) → List Place
all_places [] = []
all_places (group ∷ groups) = group ++ all_places groups

-- the words of each group, where a place has this one
abbrev pub words_by : (Place → Word) → List (List Place) → List PlainPart
words_by word groups = map (λ group. Words (map word group)) groups

-- a process of a position
abbrev pub process_in : Position → ℕ → PlainPart
process_in x p = Process (slice_get x.world.situations p) (option_map seat_of (slice_get x.seats.items p))

-- what a crash leaves of a process that has this: it has stopped, its buffer is empty, and it was answered what it was
abbrev pub lost_seat : ProcessState → PlainSeat
lost_seat seat = record { buffer = []; answer = seat.answer; text = seat.text.items }

-- what a crash leaves of a process of a position
abbrev pub lost_process_in : Position → ℕ → PlainPart
lost_process_in x p = Process (Some Stopped) (option_map lost_seat (slice_get x.seats.items p))

-- the parts of the numbers below n, in their order
abbrev pub parts_below : (ℕ → PlainPart) → ℕ → List PlainPart
parts_below part zero = []
parts_below part (suc n) = parts_below part n ++ part n ∷ []

-- the state of a position: the words of these groups, and its processes
abbrev pub state_of : List (List Place) → Position → List PlainPart
state_of groups x = words_by (word_in x.world) groups ++ parts_below (process_in x) (length x.seats.items)

-- the state that a crash leaves
abbrev pub crashed_state_of : List (List Place) → Position → List PlainPart
crashed_state_of groups x = words_by (lost_in x.world) groups ++ parts_below (lost_process_in x) (length x.seats.items)

-- the key of a state, where parts have these numbers: the number of each part
abbrev pub IsKey : List PlainPart → List ℕ → List PlainPart → Type 0
IsKey numbered key state = map (slice_get numbered) key ≡ map Some state

-- what has a number keeps it
abbrev pub KeepsNumbers : List PlainPart → List PlainPart → Type 0
KeepsNumbers old new = (k : ℕ) (part : PlainPart) → slice_get old k ≡ Some part → slice_get new k ≡ Some part

-- both positions have the same in these words, in their situations, in their buffers and in what was answered
pub record SameState (groups : List (List Place)) (x y : Position) : Type 0 where
  pub words : AllByRecursion (AllByRecursion (λ place. word_in x.world place ≡ word_in y.world place)) groups
  pub count : length x.seats.items ≡ length y.seats.items
  pub situations : (p : ℕ) → p < length x.seats.items → slice_get x.world.situations p ≡ slice_get y.world.situations p
  pub seats : (p : ℕ) → p < length x.seats.items → option_map seat_of (slice_get x.seats.items p) ≡ option_map seat_of (slice_get y.seats.items p)
