-- How many steps of its own a work has left.
use Rattle.std.specs.Prelude.{ℕ, ◌≡◌, ◌+◌, ◌-◌, ◌*◌, ◌<◌, length}
use Rattle.ds_layout.specs.Bits.{parts_for}
use Rattle.ds_layout.specs.TextWords as text_words
use Rattle.ds_state.specs.World.{PlainWorld}
use Rattle.ds_state.specs.declared.situation.Situation.TheVariants.{Working}
use Rattle.ds_state.specs.Works.{PlainWorkCall}
use Rattle.ds_state.specs.declared.spread.Spread.TheVariants.{LoadRow, OrTold, FlushTold, BackTold}
use Rattle.ds_state.specs.declared.work.WorkStage.{WorkStage}
use Rattle.ds_state.specs.declared.work.WorkStage.TheVariants.{LoadMark, Claim, FlushClaim, BackClaim, LoadHead, LoadHeader, LoadText, Read, LoadValue, LoadKind, LoadOwnValue, LoadOwnKind, Wait, StoreValue, StoreKind, FlushValue, FlushKind, BackValue, BackKind, Telling, Clear, ClearDirty, Give, GiveDirty, FlushCleared, BackCleared, Answer}

-- how many steps telling takes at most: one for each part of the row, three for each cell
abbrev pub telling : PlainWorkCall → ℕ
telling e = 3 * e.cells + parts_for e.cells

-- how many steps of work are left at most from a stage on, the answer's among them: before the content is read, for a
-- content with that number of references; an offer counts as one
abbrev pub left : ℕ → PlainWorkCall → WorkStage → ℕ
left r e LoadMark = 51 + telling e + 2 * r
left r e Claim = 50 + telling e + 2 * r
left r e FlushClaim = 49 + telling e + 2 * r
left r e BackClaim = 48 + telling e + 2 * r
left r e LoadHead = 47 + telling e + 2 * r
left r e LoadHeader = 46 + telling e + 2 * r
left r e (LoadText part) = 15 + telling e + 2 * r + (text_words.parts_for e.length - part)
left r e Read = 15 + telling e + 2 * r
left r e (LoadValue i) = 14 + telling e + 2 * (length e.inputs - i)
left r e (LoadKind i value) = 13 + telling e + 2 * (length e.inputs - i)
left r e LoadOwnValue = 14 + telling e
left r e LoadOwnKind = 13 + telling e
left r e Wait = 12 + telling e
left r e StoreValue = 11 + telling e
left r e StoreKind = 10 + telling e
left r e FlushValue = 9 + telling e
left r e FlushKind = 8 + telling e
left r e BackValue = 7 + telling e
left r e BackKind = 6 + telling e
left r e (Telling (LoadRow part)) = 5 + 3 * e.cells + (parts_for e.cells - part)
left r e (Telling (OrTold d)) = 5 + 3 * (e.cells - d)
left r e (Telling (FlushTold d)) = 4 + 3 * (e.cells - d)
left r e (Telling (BackTold d)) = 3 + 3 * (e.cells - d)
left r e (Clear changed) = 5
left r e ClearDirty = 4
left r e Give = 5
left r e GiveDirty = 4
left r e (FlushCleared end) = 3
left r e (BackCleared end) = 2
left r e (Answer end) = 1

-- how many steps the work has left at most from its own stage on, for a content with that number of references
abbrev pub steps_left : ℕ → PlainWorkCall → ℕ
steps_left r e = left r e e.stage

-- fewer steps of the work are left after a step, but for the answer's, which is the last; reading and waiting are no
-- such steps
abbrev pub Falls : ℕ → PlainWorkCall → PlainWorkCall → WorkStage → Type 0
Falls r e f Read = Unit {0}
Falls r e f Wait = Unit {0}
Falls r e f (Answer end) = Unit {0}
Falls r e f stage = steps_left r f < left r e stage

-- the process is in the work that this one has come to be, with fewer steps left: before the content is read, for as
-- many references as the sheet has cells
pub record GoesOn (p : ℕ) (e : PlainWorkCall) (new : PlainWorld) : Type 0 where
  pub work : PlainWorkCall
  pub works : new.situation p ≡ Working work
  pub cells : work.cells ≡ e.cells
  pub fewer : steps_left e.cells work < steps_left e.cells e
