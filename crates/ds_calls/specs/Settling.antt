-- A settle: whole works on the cells that are marked, in rounds.
use Rattle.std.specs.Prelude.{ℕ, zero, suc, ◌≡◌, ◌<◌, ◌+◌, ◌-◌, ◌*◌, Option, Some, None, Result, Ok, Err}
use Rattle.ds_formula.specs.Cells.{cell_at}
use Rattle.ds_layout.specs.Places.{cells_of}
use Rattle.ds_state.specs.Value.{WorldValue, world_of}
use Rattle.ds_state.specs.declared.refusal.Refusal.{Refusal}
use Rattle.ds_state.specs.declared.answer.Answer.TheVariants.{Work}
use Rattle.ds_state.specs.declared.work.WorkEnd.{WorkEnd}
use Rattle.ds_state.specs.declared.work.WorkEnd.TheVariants as work_ends
use Rattle.ds_core.specs.declared.event.Event.TheVariants.{BeginWork}
use Rattle.ds_calls.specs.declared.settle.SettleEnd.TheVariants.{Left, Refused, NoMemory}
use Rattle.ds_calls.specs.declared.settle.SettleStage.{SettleStage}
use Rattle.ds_calls.specs.declared.settle.SettleStage.TheVariants.{Ends, Works}
use Rattle.ds_calls.specs.Marked.{marked_from, left_in}
use Rattle.ds_calls.specs.Whole.{Whole, KeepsFree}

-- a settle ends with the number of cells that are left
abbrev pub ends : WorldValue → SettleStage
ends w = Ends (Left (left_in (world_of w)))

-- a round begins with work on the first marked cell; where none is marked, the settle ends
abbrev pub first_of : WorldValue → ℕ → Option ℕ → SettleStage
first_of w rounds None = ends w
first_of w rounds (Some cell) = Works rounds cell

-- a settle with n rounds left begins the next one; with none left it ends
abbrev pub round : WorldValue → ℕ → SettleStage
round w zero = ends w
round w (suc rounds) = first_of w rounds (marked_from (world_of w) (cells_of w.sheet.layout) 0)

-- a round goes on with the next marked cell; where none is marked, the next round begins
abbrev pub next_of : WorldValue → ℕ → Option ℕ → SettleStage
next_of w rounds None = round w rounds
next_of w rounds (Some cell) = Works rounds cell

-- a round that has worked on a cell goes on after that cell
abbrev pub goes_behind : WorldValue → ℕ → ℕ → SettleStage
goes_behind w rounds cell = next_of w rounds (marked_from (world_of w) (cells_of w.sheet.layout - (cell + 1)) (cell + 1))

-- what a settle does once a work of its has ended so: it ends where the begin was refused or an allocation failed, else
-- it goes on after the cell
abbrev pub worked : WorldValue → ℕ → ℕ → Result WorkEnd Refusal → SettleStage
worked w rounds cell (Err why) = Ends (Refused why)
worked w rounds cell (Ok work_ends.NoMemory) = Ends NoMemory
worked w rounds cell (Ok end) = goes_behind w rounds cell

-- a settle begins, with two rounds more than the sheet has cells
abbrev pub first_turn : WorldValue → SettleStage
first_turn w = round w (cells_of w.sheet.layout + 2)

-- a settle by the process has come to this turn: it began with two rounds more than the sheet has cells, and each work
-- so far was a whole one
pub data Settling (p : ℕ) (first : WorldValue) : SettleStage → WorldValue → Type 0 where
  begins : Settling p first (first_turn first) first
  works : (rounds cell : ℕ) (old new : WorldValue) (result : Result WorkEnd Refusal) → Settling p first (Works rounds cell) old
      → Whole Work p (BeginWork p (cell_at old.sheet.layout.shape cell)) old result new → Settling p first (worked new rounds cell result) new

-- a number that grows less with each work of a settle on a sheet of that number of cells
abbrev pub works_left : ℕ → SettleStage → ℕ
works_left cells (Ends end) = 0
works_left cells (Works rounds cell) = 1 + rounds * (cells + 1) + (cells - cell)

-- the cell that the settle works on next is one of n
abbrev pub IsInTurn : ℕ → SettleStage → Type 0
IsInTurn cells (Ends end) = Unit {0}
IsInTurn cells (Works rounds cell) = cell < cells

-- a whole work of the process on the cell, and what the settle does next
pub record WorksOnce (p rounds cell : ℕ) (old : WorldValue) (next : SettleStage) (new : WorldValue) : Type 0 where
  pub result : Result WorkEnd Refusal
  pub whole : Whole Work p (BeginWork p (cell_at old.sheet.layout.shape cell)) old result new
  pub next_is : next ≡ worked new rounds cell result
  pub layout : new.sheet.layout ≡ old.sheet.layout
  pub free : KeepsFree p old new
