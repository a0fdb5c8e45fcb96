-- What may happen at a position, and where it leads.
use Rattle.std.specs.Prelude.{ℕ, ◌≡◌, ◌≢◌, ◌<◌, ◌⊎◌, ◌++◌, IsTrue, All, List, [], ◌∷◌, Contains, Option, Some, None, length, map, slice_get, slice_set, slice_index_or}
use Rattle.ds_formula.specs.declared.cells.Shape.{Shape}
use Rattle.ds_words.specs.declared.access.Access.{Access}
use Rattle.ds_words.specs.declared.access.Access.TheVariants.{Nothing, Store, Or, SwapIf, Flush, Back}
use Rattle.ds_words.specs.declared.access.BufferEntry.{BufferEntry}
use Rattle.ds_layout.specs.Places.{IsPlace, class_of}
use Rattle.ds_layout.specs.declared.place.Place.{Place}
use Rattle.ds_state.specs.Value.{WorldValue, world_of}
use Rattle.ds_state.specs.declared.situation.Situation.{Situation}
use Rattle.ds_state.specs.declared.situation.Situation.TheVariants.{Editing, Working, Showing, Recovering, Migrating}
use Rattle.ds_state.specs.declared.work.WorkStage.TheVariants.{Read, Give}
use Rattle.ds_state.specs.Works.{PlainWorkCall}
use Rattle.ds_eval.specs.declared.inputs.Entry.{Entry}
use Rattle.ds_edit.specs.EditSteps as edits
use Rattle.ds_work.specs.WorkSteps as works
use Rattle.ds_work.specs.Reading.{unseen}
use Rattle.ds_work.specs.WorkTakes.{IsOffered, Waits}
use Rattle.ds_show.specs.ShowSteps as shows
use Rattle.ds_recover.specs.RecoverySteps as recoveries
use Rattle.ds_recover.specs.MigrationSteps as migrations
use Rattle.ds_core.specs.Own.{IsInCall}
use Rattle.ds_core.specs.Takes.{Fits}
use Rattle.ds_core.specs.declared.event.Event.TheVariants as events
use Rattle.ds_core.specs.declared.reply.Reply.{Reply}
use Rattle.ds_core.specs.declared.reply.Reply.TheVariants as replies
use Rattle.ds_script.specs.ScriptTexts.{reply_text}
use Rattle.ds_explore_state.specs.declared.position.Move.{Move}
use Rattle.ds_explore_state.specs.declared.position.Move.TheVariants.{Step, Stop, Evict}
use Rattle.ds_explore_state.specs.declared.position.Position.{Position}
use Rattle.ds_explore_state.specs.declared.orders.Allowed.{Allowed}
use Rattle.ds_explore_state.specs.States.{PlainSeat, seat_of, word_in}

-- a process in this situation is in a call
abbrev pub IsUnderWay : Option Situation → Type 0
IsUnderWay None = ⊥
IsUnderWay (Some situation) = IsInCall situation

-- the process is one of the position, and is in a call
pub record IsBusy (x : Position) (p : ℕ) : Type 0 where
  pub there : p < length x.seats.items
  pub calls : IsUnderWay (slice_get x.world.situations p)

-- the sides of the word at the place differ
pub record HasDirt (w : WorldValue) (place : Place) : Type 0 where
  pub there : IsPlace w.sheet.layout place
  pub differs : (word_in w place).cached ≢ (word_in w place).persisted

-- this may happen, of the evictions those of these words: a step or a stop of a process that is in a call; while one is,
-- an eviction of a word whose sides differ
abbrev pub MayHappen : Allowed → List Place → Position → Move → Type 0
MayHappen allowed places x (Step p) = IsBusy x p
MayHappen allowed places x (Stop p) = IsTrue allowed.stops × IsBusy x p
MayHappen allowed places x (Evict place) = IsTrue allowed.evictions × HasDirt x.world place × ((i : ℕ) × (slice_get places i ≡ Some place)) × ((p : ℕ) × IsBusy x p)

-- the access that the next step of a process in this situation makes
abbrev pub access_in : Shape → Option Situation → Access Place
access_in shape (Some (Editing e)) = edits.access_at e e.stage
access_in shape (Some (Working e)) = works.access_at shape e e.stage
access_in shape (Some (Showing e)) = shows.access_at e.stage
access_in shape (Some (Recovering e)) = recoveries.access_at e e.stage
access_in shape (Some (Migrating e)) = migrations.access_at e e.stage
access_in shape _ = Nothing

-- a buffer after an access, in the world after it
abbrev pub buffer_after : Access Place → WorldValue → List (BufferEntry Place) → List (BufferEntry Place)
buffer_after (Flush place) w buffer = buffer ++ record { place = place; class = class_of place; value = (word_in w place).cached } ∷ []
buffer_after Back w [] = []
buffer_after Back w (entry ∷ rest) = rest
buffer_after _ w buffer = buffer

-- the place of the oldest entry of a buffer
abbrev pub oldest_in : List (BufferEntry Place) → Option Place
oldest_in [] = None
oldest_in (entry ∷ rest) = Some entry.place

-- the place of the word that an access may write, by a process with this buffer
abbrev pub written_by : Access Place → List (BufferEntry Place) → Option Place
written_by (Store place value) buffer = Some place
written_by (Or place bits) buffer = Some place
written_by (SwapIf place expected value) buffer = Some place
written_by Back buffer = oldest_in buffer
written_by _ buffer = None

-- what a process has after a step with this reply, in the world after it: an answer is kept with its text
abbrev pub seat_after : ℕ → Access Place → Reply → WorldValue → PlainSeat → PlainSeat
seat_after p access (replies.Answered answer) w seat = record { buffer = buffer_after access w seat.buffer; answer = Some answer; text = reply_text w p (replies.Answered answer) }
seat_after p access reply w seat = record { buffer = buffer_after access w seat.buffer; answer = seat.answer; text = seat.text }

-- what a process has that has stopped with this reply: its buffer is lost
abbrev pub seat_stopped : ℕ → Reply → WorldValue → PlainSeat → PlainSeat
seat_stopped p reply w seat = record { buffer = []; answer = seat.answer; text = reply_text w p reply }

-- what the processes of a position have
abbrev pub seats_of : Position → List PlainSeat
seats_of x = map seat_of x.seats.items

-- a process that is none of the position has nothing
abbrev pub no_seat : PlainSeat
no_seat = record { buffer = []; answer = None; text = [] }

-- what one process has is changed
abbrev pub with_seat : (PlainSeat → PlainSeat) → ℕ → List PlainSeat → List PlainSeat
with_seat change p seats = slice_set seats p (change (slice_index_or seats p no_seat))

-- no work of the process waits for an entry
abbrev pub WaitsForNone : WorldValue → ℕ → Type 0
WaitsForNone w p = (e : PlainWorkCall) → Waits (world_of w) p e → ⊥

-- the world is that before a step of the process: where its work waits, it is first given an entry
abbrev pub IsReady : WorldValue → ℕ → WorldValue → Type 0
IsReady old p mid = ((mid ≡ old) × WaitsForNone old p) ⊎ ((entry : Entry) × IsOffered (world_of old) p entry (world_of mid))

-- the work has read its text: it did not lack the memory, and has looked at no reference yet
abbrev pub IsReadAnew : Situation → Type 0
IsReadAnew (Working e) = (e.stage ≢ Give) × All (λ input. input ≡ unseen input.cell) e.inputs
IsReadAnew _ = ⊥

-- a work that is to read its text has read it, in the second of these situations of its process
abbrev pub ReadsWhereItShould : Situation → Situation → Type 0
ReadsWhereItShould (Working e) after = e.stage ≡ Read → IsReadAnew after
ReadsWhereItShould before after = Unit {0}

-- the process makes a step, by which at most the word at this place is written
pub record Steps (p : ℕ) (written : Option Place) (old : WorldValue) (before : List PlainSeat) (new : WorldValue) (after : List PlainSeat) : Type 0 where
  pub mid : WorldValue
  pub reply : Reply
  pub ready : IsReady old p mid
  pub access : Access Place
  pub makes : access ≡ access_in mid.sheet.layout.shape (slice_get mid.situations p)
  pub writes : written ≡ written_by access (slice_index_or before p no_seat).buffer
  pub fits : Fits mid (events.Step p) reply new
  pub reads : ReadsWhereItShould ((world_of mid).situation p) ((world_of new).situation p)
  pub seats : after ≡ with_seat (seat_after p access reply new) p before

-- the process stops
pub record Stops (p : ℕ) (written : Option Place) (old : WorldValue) (before : List PlainSeat) (new : WorldValue) (after : List PlainSeat) : Type 0 where
  pub reply : Reply
  pub writes : written ≡ None
  pub fits : Fits old (events.Stop p) reply new
  pub seats : after ≡ with_seat (seat_stopped p reply new) p before

-- the word is evicted
pub record Evicts (place : Place) (written : Option Place) (old : WorldValue) (before : List PlainSeat) (new : WorldValue) (after : List PlainSeat) : Type 0 where
  pub reply : Reply
  pub writes : written ≡ Some place
  pub fits : Fits old (events.Evict place) reply new
  pub seats : after ≡ before

-- what happens leads there, from this world and what the processes have; at most the word at this place is written
abbrev pub HappensTo : Move → Option Place → WorldValue → List PlainSeat → WorldValue → List PlainSeat → Type 0
HappensTo (Step p) written old before new after = Steps p written old before new after
HappensTo (Stop p) written old before new after = Stops p written old before new after
HappensTo (Evict place) written old before new after = Evicts place written old before new after

-- what happens leads from the one position to the other, and writes at most the word at this place
abbrev pub HappensAt : Position → Move → Option Place → Position → Type 0
HappensAt x move written y = HappensTo move written x.world (seats_of x) y.world (seats_of y)

-- what happens leads from the one position to the other
abbrev pub Happens : Position → Move → Position → Type 0
Happens x move y = (written : Option Place) × HappensAt x move written y
