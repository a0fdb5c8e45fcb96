-- Where a call leaves the seat of its process.
use Rattle.std.proofs.Common.{ℕ, ◌≡◌, List, []}
use Rattle.std.specs.Prelude.{Some}
use Rattle.atomic_table.specs.Table.{Me}
use Rattle.ds_words.specs.declared.access.BufferEntry.{BufferEntry}
use Rattle.pm_base.specs.Structures.{Structure, Calls}
use Rattle.pm_base.specs.declared.history.Entry.{Entry}
use Rattle.pm_board.specs.declared.board.Deeds.{Deeds}
use Rattle.pm_board.specs.declared.board.View.{View}
use Rattle.pm_board.specs.Machines.{IsIn, Breaks, before_all, within}
use Rattle.pm_board.specs.Views.{lone, seated}
use Rattle.pm_board.specs.Views.{RunsOne, Sits}

pub sits_at : {S T : Type 0} (me : Me ℕ (View S T)) (p process : ℕ) (now does : S) (x : List (BufferEntry ℕ)) (held : Deeds S T) (seen : List (Entry S T)) → me ≡ (lone (seated p now x held), []) → held.seen ≡ Some seen → p ≡ process → now ≡ does → Sits me process does
sits_at me p process now does x held seen at looked own is = record { runs = record { seat = seated p now x held; at = at; own = own; seen = seen; looked = looked }; does = is }

pub runs_on : {K S T C E : Type 0} (s : Structure K S T) (c : Calls K S T C E) (key : K) (first : C) (old me : Me ℕ (View S T)) (call : C) (n process : ℕ) → RunsOne old process → ((d : C) (ts : List T) (x : List (BufferEntry ℕ)) (k : ℕ) (m : Me ℕ (View S T)) → IsIn s c key first old m d x k → c.process d ≡ process) → Breaks s c key first old me call n → RunsOne me process
runs_on s c key first old me call n process runs same before_all = runs
runs_on s c key first old me call n process runs same (within m d x k is few goes) = record { seat = seated (c.process d) (c.doing d) x is.held; at = is.at; own = same d is.responses x k m is; seen = _; looked = is.grows.seen }
