-- Positions in which the same may happen.
use Rattle.std.specs.Prelude.{ℕ, ◌≡◌, map}
use Rattle.ds_words.specs.Memory.{SameMemory}
use Rattle.ds_layout.specs.SheetMemory.{memory}
use Rattle.ds_layout.specs.declared.place.Place.{Place}
use Rattle.ds_state.specs.Value.{WorldValue, world_of}
use Rattle.ds_explore_state.specs.declared.position.Position.{Position}
use Rattle.ds_explore_state.specs.Orders.{seats_of}
use Rattle.ds_explore_state.specs.States.{lost_seat}

-- worlds that are the same in all that an event looks at: the sheet, both sides of each word, each buffer, and what each
-- process does. They may differ in what is noted for proofs of edits that are linearized or open, in what is counted,
-- and in the values of earlier reports
pub record AreAlike (v w : WorldValue) : Type 0 where
  pub layout : w.sheet.layout ≡ v.sheet.layout
  pub memory : SameMemory (memory v.sheet) (memory w.sheet)
  pub situation : (q : ℕ) → (world_of w).situation q ≡ (world_of v).situation q

-- positions of such worlds, whose processes have the same besides
pub record ArePositionsAlike (x y : Position) : Type 0 where
  pub worlds : AreAlike x.world y.world
  pub seats : seats_of y ≡ seats_of x

-- positions of which a crash leaves the same: the sheet, what is persisted of each word, and what each process was answered
pub record LeaveAlike (x y : Position) : Type 0 where
  pub layout : y.world.sheet.layout ≡ x.world.sheet.layout
  pub persisted : (r : Place) → (memory y.world.sheet).persisted r ≡ (memory x.world.sheet).persisted r
  pub answered : map lost_seat y.seats.items ≡ map lost_seat x.seats.items
