-- Sheets whose seats are taken, and come back.
use Rattle.std.specs.Prelude.{ℕ, ◌≡◌, ◌≢◌, ◌≤◌, ◌<◌, List, [], ◌∷◌, Bool, All, Contains, map, slice_index_or}
use Rattle.std.specs.Arc.{arc_value}
use Rattle.std.specs.List.{range_with_len}
use Rattle.std.specs.Mem.Slots.{slots_items}
use mathlib.Core.List.{IsPrefix}
use Rattle.rtrb.specs.Ring.{known_items}
use Rattle.ds_formula.specs.declared.cells.Cell.{Cell}
use Rattle.ds_formula.specs.Cells.{IsInside}
use Rattle.pm_base.specs.Structures.{In}
use Rattle.pm_board.specs.Rule.{Closes}
use Rattle.pm_board.specs.Starts.{start_of}
use Rattle.pm_board.specs.Views.{past_of}
use Rattle.ds_structure.specs.Sheet.{sheet}
use Rattle.ds_structure_shared.specs.Boards.{SheetSeated, sole}
use Rattle.ds_shared.specs.declared.pass.Pass.{Pass}
use Rattle.ds_shared.specs.declared.sheet.ClosedSheet.{ClosedSheet}
use Rattle.ds_shared.specs.declared.sheet.SharedSheet.{SharedSheet}
use Rattle.ds_shared.specs.Answers.{IsFresh, IsOf, seated_by}
use Rattle.ds_shared.specs.Known.{past_in}
use Rattle.ds_shared_seats.specs.declared.fault.Fault.{Fault}
use Rattle.ds_shared_seats.specs.declared.fault.Fault.TheVariants.{NoCell, NoProcess, SeatTaken, NoMemory}
use Rattle.ds_shared_seats.specs.Homes.{AreLooked}
use Rattle.ds_shared_seats.specs.declared.ring.Home.{Home}
use Rattle.ds_shared_seats.specs.declared.seat.Seat.{Seat}
use Rattle.ds_shared_seats.specs.declared.sheet.OpenSheet.{OpenSheet}

-- the seat is one of the sheet
abbrev pub IsSeatOf : SharedSheet → Seat → Type 0
IsSeatOf s seat = arc_value seat.sheet ≡ s

-- the sheet has no such cell
abbrev pub LacksCell : SharedSheet → Cell → Fault → Type 0
LacksCell s cell NoCell = IsInside s.board.layout.shape cell → ⊥
LacksCell s cell why = ⊥

-- ---- sheets

-- every seat is at home, with a pass that was answered nothing and took no step: stopped, or not
abbrev pub AllFresh : Bool → OpenSheet → Type 0
AllFresh stopped s = All (λ h. (p : Pass) × (known_items h.end ≡ p ∷ []) × IsFresh stopped p) s.homes.items

-- the same sheet with the same past, whose homes may have been looked at
pub record IsStill (old new : OpenSheet) : Type 0 where
  pub sheet : arc_value new.sheet ≡ arc_value old.sheet
  pub past : new.past ≡ old.past
  pub homes : AreLooked old.homes.items new.homes.items

-- the seat of the process is taken: it is one of the sheet, its pass is the one that lay in the process's home, and all
-- else of the sheet stays
pub record Takes (process : ℕ) (old new : OpenSheet) (seat : Seat) : Type 0 where
  pub seat_of : IsSeatOf (arc_value old.sheet) seat
  pub process_is : seat.pass.process ≡ process
  pub last : seat.last.items ≡ []
  pub came : (d : Home) → (rest : List Pass) × IsPrefix (known_items (slice_index_or old.homes.items process d).end) (seat.pass ∷ rest)
  pub sheet : arc_value new.sheet ≡ arc_value old.sheet
  pub past : new.past ≡ old.past
  pub others : (k : ℕ) (d : Home) → k ≢ process → slice_index_or new.homes.items k d ≡ slice_index_or old.homes.items k d

-- why the seat of the process is not taken: there is no such process; or no pass was found in its home; or an allocation
-- failed
abbrev pub CanNotTake : ℕ → OpenSheet → Fault → Type 0
CanNotTake process s NoProcess = (arc_value s.sheet).board.layout.processes ≤ process
CanNotTake process s SeatTaken = (d : Home) → known_items (slice_index_or s.homes.items process d).end ≡ []
CanNotTake process s NoMemory = process < (arc_value s.sheet).board.layout.processes
CanNotTake process s why = ⊥

-- the sheet is closed with these passes: a run leads to its words, to a world in which the process of each does what its
-- pass says; what they were answered, and what was answered before, is remembered
pub record IsClosedWith (s : SharedSheet) (past : List SheetSeated) (passes : List Pass) (c : ClosedSheet) : Type 0 where
  pub layout : c.layout ≡ s.board.layout
  pub handed : (p : Pass) → Contains passes p → In (past_of c.words.before) (sole p.place)
  pub before : (e : SheetSeated) → In past e → In (past_of c.words.before) e
  pub stand : Closes sheet s.board.words.key (start_of s.board.words.table.shared.key) (slots_items c.words.table.words) (seated_by passes) (past_of c.words.before)

-- the sheet is closed with a pass of each of its processes, in order
pub record IsClosed (s : OpenSheet) (c : ClosedSheet) : Type 0 where
  pub passes : List Pass
  pub each : map (λ p. p.process) passes ≡ range_with_len 0 (arc_value s.sheet).board.layout.processes
  pub of : All (λ p. IsOf (arc_value s.sheet) p) passes
  pub closed : IsClosedWith (arc_value s.sheet) (past_in s.past.place) passes c

-- why a sheet is not closed: a seat may not have come back, or an allocation have failed
abbrev pub CanNotClose : Fault → Type 0
CanNotClose SeatTaken = Unit {0}
CanNotClose NoMemory = Unit {0}
CanNotClose why = ⊥
