-- What a pass's fields say of its seat at the table.
use Rattle.std.specs.Prelude.{ℕ, ◌≡◌, ◌<◌, Bool, List, []}
use Rattle.atomic_table.specs.Seated.{TableId}
use Rattle.pm_base.specs.declared.history.Deed.{Deed}
use Rattle.pm_board.specs.Views.{deeds_at}
use Rattle.pq.specs.declared.calls.Doing.{Doing}
use Rattle.pq.specs.declared.calls.Response.{Response}
use Rattle.pq_seats.specs.declared.pass.Pass.{Pass}

-- the pass is one of the queue with this table, which has this number of processes
pub record IsOf (table : TableId) (processes : ℕ) (p : Pass) : Type 0 where
  pub table_is : p.place.table_id ≡ table
  pub process : p.process < processes

-- what the process of a pass did at its queue, the last thing first: each call that it began, and each answer
abbrev pub outcomes : Pass → List (Deed Doing Response)
outcomes p = (deeds_at p.place.me).done

-- the pass has begun no call: it is stopped or not, its next operation is number 0, and it was answered nothing
pub record IsFresh (stopped : Bool) (p : Pass) : Type 0 where
  pub stopped_is : p.stopped ≡ stopped
  pub next : p.next ≡ 0
  pub outcomes_are : outcomes p ≡ []
