-- A process that is alone.
use Rattle.std.specs.Prelude.{ℕ, ◌≡◌, ◌≢◌, List, [], ◌∷◌, true, false}
use Rattle.ds_core.specs.declared.event.Event.{Event}
use Rattle.ds_core.specs.declared.event.Event.TheVariants.{Step, Evict, Offer}
use Rattle.ds_layout.specs.Bits.{HasBit}
use Rattle.ds_layout.specs.Mark.{IsClean}
use Rattle.ds_layout.specs.declared.place.Place.TheVariants.{Mark}
use Rattle.ds_state.specs.World.{PlainWorld, index_place}
use Rattle.ds_work.specs.WorkShows.{shown_in}
use Rattle.ds_state.specs.declared.answer.Answer.{Answer}
use Rattle.ds_state.specs.declared.answer.Answer.TheVariants.{Edit, Work}
use Rattle.ds_state.specs.declared.answer.EditEnd.TheVariants.{Done}
use Rattle.ds_state.specs.declared.work.WorkEnd.TheVariants.{Published, Again, NoMemory}
use Rattle.ds_core.specs.declared.reply.Reply.{Reply}
use Rattle.ds_core.specs.declared.reply.Reply.TheVariants.{Answered}

-- an event that may come while the process is alone: a step of its own, or an eviction
abbrev pub IsSoloEvent : ℕ → Event → Type 0
IsSoloEvent p (Step q) = q ≡ p
IsSoloEvent p (Evict place) = Unit {0}
IsSoloEvent p event = ⊥

-- each event of a list is a step of the process or an eviction
abbrev pub IsSolo : ℕ → List Event → Type 0
IsSolo p [] = Unit {0}
IsSolo p (event ∷ events) = IsSoloEvent p event × IsSolo p events

-- where the reply is an answer, it is Done with this number
abbrev pub IsDoneOnly : ℕ → Reply → Type 0
IsDoneOnly number (Answered answer) = answer ≡ Edit (Done number)
IsDoneOnly number reply = Unit {0}

-- each answer among the replies is Done with this number
abbrev pub AreDoneOnly : ℕ → List Reply → Type 0
AreDoneOnly number [] = Unit {0}
AreDoneOnly number (reply ∷ replies) = IsDoneOnly number reply × AreDoneOnly number replies

-- ---- work

-- an event that may come while the process's work is alone: a step of its own, an eviction, or an offer to that work
abbrev pub IsLoneEvent : ℕ → Event → Type 0
IsLoneEvent p (Step q) = q ≡ p
IsLoneEvent p (Evict place) = Unit {0}
IsLoneEvent p (Offer value) = value.task.process ≡ p
IsLoneEvent p event = ⊥

-- each event of a list is a step of the process, an eviction, or an offer to its work
abbrev pub IsLone : ℕ → List Event → Type 0
IsLone p [] = Unit {0}
IsLone p (event ∷ events) = IsLoneEvent p event × IsLone p events

-- the word of the cell's own index row has the cell's bit: its text refers to it, or did
abbrev pub StandsInOwnRow : PlainWorld → ℕ → Type 0
StandsInOwnRow w cell = HasBit (w.memory.cached (index_place cell cell)) cell

-- an answer of work on this cell that was alone from the first world on, with what the last one shows. Published says
-- that the cell is clean, and whether it shows another value now; where it does, the cell does not stand in its own
-- index row. Where it stands there, a new value is answered Again. Where an allocation fails the cell shows what it
-- did.
abbrev pub IsLoneAnswer : PlainWorld → PlainWorld → ℕ → Answer → Type 0
IsLoneAnswer first last cell (Work (Published true)) = IsClean (last.memory.cached (Mark cell)) × (shown_in last cell ≢ shown_in first cell) × (StandsInOwnRow first cell → ⊥)
IsLoneAnswer first last cell (Work (Published false)) = IsClean (last.memory.cached (Mark cell)) × (shown_in last cell ≡ shown_in first cell)
IsLoneAnswer first last cell (Work Again) = StandsInOwnRow first cell × (shown_in last cell ≢ shown_in first cell)
IsLoneAnswer first last cell (Work NoMemory) = shown_in last cell ≡ shown_in first cell
IsLoneAnswer first last cell answer = ⊥

-- where the reply is an answer, it is one of work that was alone
abbrev pub IsLoneReply : PlainWorld → PlainWorld → ℕ → Reply → Type 0
IsLoneReply first last cell (Answered answer) = IsLoneAnswer first last cell answer
IsLoneReply first last cell reply = Unit {0}

-- each answer among the replies is one of work that was alone
abbrev pub AreLoneReplies : PlainWorld → PlainWorld → ℕ → List Reply → Type 0
AreLoneReplies first last cell [] = Unit {0}
AreLoneReplies first last cell (reply ∷ replies) = IsLoneReply first last cell reply × AreLoneReplies first last cell replies
