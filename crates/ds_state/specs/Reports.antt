-- The last settled show of each process.
use Rattle.std.specs.Prelude.{ℕ, ◌≤◌, List, [], All, replicate, slice_set}
use Rattle.ds_eval.specs.declared.value.Value.{Value}

-- how many cells each show has room for, and the values of each process's last one
pub record PlainReports : Type 0 where
  pub cells : ℕ
  pub values : List (List Value)

-- each show has room for all cells
abbrev pub HaveRoom : ℕ → List ℕ → Type 0
HaveRoom cells rooms = All (λ room. cells ≤ room) rooms

-- the snapshots where no process has settled one yet: room for that number of cells, and no values
abbrev pub no_reports : ℕ → ℕ → PlainReports
no_reports processes cells = record { cells = cells; values = replicate processes [] }

-- the snapshots where these values are the process's last settled one
abbrev pub with_report : PlainReports → ℕ → List Value → PlainReports
with_report r process values = record r { values = slice_set r.values process values }
