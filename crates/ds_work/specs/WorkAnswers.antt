-- What the answers of work say, of the worlds before and after the step that decides them.
use Rattle.std.specs.Prelude.{ℕ, ◌≡◌, ◌≢◌, ◌<◌}
use Rattle.ds_words.specs.declared.access.Access.{Access}
use Rattle.ds_words.specs.declared.access.Access.TheVariants as acts
use Rattle.ds_layout.specs.declared.mark.TheConstants.{DIRTY}
use Rattle.ds_layout.specs.declared.place.Place.{Place}
use Rattle.ds_layout.specs.declared.mark.State.{State}
use Rattle.ds_layout.specs.declared.mark.State.TheVariants.{Clean, Marked, Held}
use Rattle.ds_layout.specs.declared.place.Place.TheVariants as place
use Rattle.ds_layout.specs.Mark.{mark_of, state_of, generation_of, freed_after, dirtied}
use Rattle.ds_state.specs.Works.{PlainWorkCall, SEEN_MOST}
use Rattle.ds_state.specs.Owing.{StandsIn}
use Rattle.ds_state.specs.World.{PlainWorld}
use Rattle.ds_state.specs.Standing.{value_for, word_for}
use Rattle.ds_state.specs.declared.work.WorkEnd.{WorkEnd}
use Rattle.ds_state.specs.declared.work.WorkEnd.TheVariants.{NotDirty, Missed, Worn, Published, Again, NoMemory}
use Rattle.ds_state.specs.declared.work.WorkStage.{WorkStage}
use Rattle.ds_state.specs.declared.work.WorkStage.TheVariants.{LoadMark, Claim, Clear, ClearDirty, Give, GiveDirty, FlushCleared, BackCleared, Answer}

-- the stage is one after the letting go: the work is to answer this
abbrev pub IsDecided : WorkStage → WorkEnd → Type 0
IsDecided (FlushCleared e) end = e ≡ end
IsDecided (BackCleared e) end = e ≡ end
IsDecided (Answer e) end = e ≡ end
IsDecided _ end = ⊥

-- the mark of the work's cell, as processes see it
abbrev pub mark_now : PlainWorld → PlainWorkCall → ℕ
mark_now w e = w.memory.cached (place.Mark e.cell)

-- what the mark of the work's cell says, as processes see it: clean, held or marked
abbrev pub state_now : PlainWorld → PlainWorkCall → State
state_now w e = state_of (mark_of e.processes (mark_now w e))

-- the work's cell is let go clean, and its value and kind are those of the work's entry
pub record IsPublished (e : PlainWorkCall) (new : PlainWorld) : Type 0 where
  pub clean : mark_now new e ≡ freed_after e.mark
  pub value : new.memory.cached (place.Value e.cell) ≡ value_for e.entry
  pub kind : new.memory.cached (place.Kind e.cell) ≡ word_for e.entry

-- the answer is true by the step from this stage, from the one world to the other: a mark that was clean, held, or worn
-- when it was seen; a claim that another mark forestalled; a cell that is let go, clean with the words of its entry, or
-- dirty since it was marked meanwhile, or dirty where an allocation fails. A step of no other stage decides.
abbrev pub IsTrueAnswer : PlainWorkCall → WorkStage → PlainWorld → PlainWorld → WorkEnd → Type 0
IsTrueAnswer e LoadMark old new NotDirty = state_now old e ≡ Clean
IsTrueAnswer e LoadMark old new Missed = (q : ℕ) × (state_now old e ≡ Held q)
IsTrueAnswer e LoadMark old new Worn = (state_now old e ≡ Marked) × (SEEN_MOST < generation_of (mark_now old e))
IsTrueAnswer e Claim old new Missed = mark_now old e ≢ e.mark
IsTrueAnswer e (Clear changed) old new end = (end ≡ Published changed) × IsPublished e new
IsTrueAnswer e ClearDirty old new end = (end ≡ Again) × (mark_now old e ≡ dirtied e.mark) × (mark_now new e ≡ dirtied (freed_after e.mark))
IsTrueAnswer e Give old new end = (end ≡ NoMemory) × (mark_now new e ≡ dirtied (freed_after e.mark))
IsTrueAnswer e GiveDirty old new end = (end ≡ NoMemory) × (mark_now new e ≡ dirtied (freed_after e.mark))
IsTrueAnswer e (FlushCleared before) old new end = before ≡ end
IsTrueAnswer e (BackCleared before) old new end = before ≡ end
IsTrueAnswer e (Answer before) old new end = before ≡ end
IsTrueAnswer e _ old new end = ⊥

-- an access of work adds to no word but the mark of a cell whose bit stands in the row that it has loaded, and there
-- the dirty bit alone
abbrev pub OrsOnly : PlainWorkCall → Access Place → Type 0
OrsOnly e (acts.Or r bits) = (d : ℕ) × (r ≡ place.Mark d) × (bits ≡ DIRTY) × StandsIn e.row d
OrsOnly e _ = Unit {0}
