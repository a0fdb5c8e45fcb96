-- Exit statuses of scripts and grids (our own rule).
use Rattle.std.specs.Prelude.{ℕ, suc, Bool, true}
use Rattle.ds_script_io.specs.declared.ending.ScriptEnd.{ScriptEnd}
use Rattle.ds_script_io.specs.declared.ending.ScriptEnd.TheVariants.{Ended, Fault, TooLong, ReadFailed, WriteFailed, NoMemory}
use Rattle.ds_grid.specs.declared.ending.GridEnd.{GridEnd}
use Rattle.ds_grid.specs.declared.ending.GridEnd.TheVariants as grids

-- the exit status of `dsheet run`, by how the script ended
abbrev pub status_of : ScriptEnd → ℕ
status_of Ended = 0
status_of (Fault line kind) = 1
status_of TooLong = 3
status_of ReadFailed = 3
status_of WriteFailed = 3
status_of NoMemory = 4

-- the exit status of `dsheet run`, by how the script ended, whether it is strict, and how many of its answers are refusals: a
-- strict one that has ended is one with a fault where there is any
abbrev pub run_status_of : ScriptEnd → Bool → ℕ → ℕ
run_status_of Ended true (suc refused) = 1
run_status_of end strict refused = status_of end

-- the exit status of `dsheet report`, by how the report of the grid ended
abbrev pub grid_status_of : GridEnd → ℕ
grid_status_of grids.Ended = 0
grid_status_of (grids.Grid fault) = 1
grid_status_of (grids.CellFault cell fault) = 1
grid_status_of grids.TooLong = 3
grid_status_of grids.ReadFailed = 3
grid_status_of grids.WriteFailed = 3
grid_status_of grids.NoMemory = 4
