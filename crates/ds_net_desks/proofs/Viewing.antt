-- Views over a shared sheet with a store.
use Rattle.std.proofs.Common.{◌≡◌, ◌⊎◌, ℕ, Option, Some, None}
use Rattle.ds_formula.specs.declared.cells.Shape.{Shape}
use Rattle.ds_server.specs.DeskCalls.{View}
use Rattle.ds_server.specs.Replies.{Said}
use Rattle.ds_net_desks.specs.declared.numbered_seat.NumberedSeat.{NumberedSeat}
use Rattle.ds_net_desks.specs.CellQuestions.{HasComputed}
use Rattle.ds_net_desks.specs.DeskSeats.{HasNoSeat, HasViewed}
use Rattle.ds_net_desks.specs.StoredDesks.{Notes, StoredDeals}

-- a view, whatever seat the session has
pub views : (shape : Shape) (old new : Option NumberedSeat) (before after : Notes) (joined : Option ℕ) (what : Said) → (HasViewed old what new × (after.seen ≡ before.seen)) ⊎ (HasNoSeat old new × HasComputed shape before.seen what after.seen)
    → after.heard ≡ before.heard → after.keyed ≡ before.keyed → StoredDeals shape old before (View joined) what new after
views shape (Some old) (Some new) before after joined what h e k = (h, e, k)
views shape (Some old) None before after joined what h e k = (h, e, k)
views shape None (Some new) before after joined what h e k = (h, e, k)
views shape None None before after joined what h e k = (h, e, k)
