-- What a process wants next in its call.
use Rattle.std.specs.Prelude.{ℕ}
use Rattle.ds_formula.specs.declared.cells.Shape.{Shape}
use Rattle.ds_eval.specs.Tasks.{PlainEvaluated, local_of}
use Rattle.ds_state.specs.Value.{WorldValue, world_of}
use Rattle.ds_state.specs.Works.{PlainWorkCall}
use Rattle.ds_state.specs.declared.work.WorkStage.{WorkStage}
use Rattle.ds_state.specs.declared.work.WorkStage.TheVariants.{Wait}
use Rattle.ds_state.specs.declared.situation.Situation.{Situation}
use Rattle.ds_state.specs.declared.situation.Situation.TheVariants.{Working}
use Rattle.ds_work.specs.WorkTakes.{task_at}
use Rattle.ds_core.specs.declared.event.Event.{Event}
use Rattle.ds_core.specs.declared.event.Event.TheVariants.{Step, Offer}

-- the task of a work that waits, evaluated
abbrev pub evaluated : Shape → PlainWorkCall → PlainEvaluated
evaluated shape e = record { task = task_at shape e; entry = local_of (task_at shape e) }

-- the event that a process in work wants at a stage: where the work waits, the offer of its entry; else a step
abbrev pub wanted_at : ℕ → Shape → PlainWorkCall → WorkStage → Event
wanted_at p shape e Wait = Offer (evaluated shape e)
wanted_at p shape e stage = Step p

-- the event that a process in this situation wants: a step; where its work waits, the offer of the entry that it waits
-- for
abbrev pub wanted : ℕ → Shape → Situation → Event
wanted p shape (Working e) = wanted_at p shape e e.stage
wanted p shape s = Step p

-- the event that the process of the world wants next
abbrev pub wants : WorldValue → ℕ → Event
wants v p = wanted p v.sheet.layout.shape ((world_of v).situation p)
