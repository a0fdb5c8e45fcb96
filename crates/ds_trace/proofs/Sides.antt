-- Places that a sheet does not have, and rows of single events.
use Rattle.std.proofs.Common.{ℕ, ◌≡◌, ◌∙◌, Bool, true, false, List, refl, sym, ap, subst}
use Rattle.std.specs.Prelude.{if◌then◌else◌}
use Rattle.ds_layout.specs.declared.layout.Layout.{Layout}
use Rattle.ds_layout.specs.declared.place.Place.{Place}
use Rattle.ds_layout.specs.Places.{IsPlace, cells_of, parts_of}
use Rattle.ds_layout.specs.SheetMemory.{is_place, side_at, memory}
use Rattle.ds_layout.proofs.Sheet.{IsPlaceOf-is_place_of}
use Rattle.ds_state.specs.Value.{WorldValue}
use Rattle.ds_script.specs.declared.order.Call.{Call}
use Rattle.ds_script.specs.declared.order.Call.TheVariants as calls
use Rattle.ds_script.specs.Orders.{beginning}
use Rattle.ds_trace.specs.declared.row.Happening.{Happening}
use Rattle.ds_trace.specs.declared.row.Happening.TheVariants.{Begins}
use Rattle.ds_core.specs.declared.event.Event.{Event}
use Rattle.ds_core.specs.declared.reply.Reply.{Reply}
use Rattle.ds_trace.specs.declared.row.TraceRow.{TraceRow}
use Rattle.ds_trace.specs.Rows.{Tells, IsRowOf, OneMore, what_of, text_by, begin_in, text_in, sides_of}

-- a place that is none of the sheet reads as 0
outside_by : (b : Bool) (n : ℕ) → (b ≡ true → ⊥) → (if b then n else 0) ≡ 0
outside_by true n none = absurd (none refl)
outside_by false n none = refl

outside : (layout : Layout) (side : ℕ → ℕ) (place : Place) → (IsPlace layout place → ⊥) → side_at layout side place ≡ 0
unfolding side_at
outside layout side place none =
    outside_by (is_place layout place) _ (λ e. none (IsPlaceOf-is_place_of (cells_of layout) (parts_of layout) layout.processes place e))

-- a place that is none of the sheet reads as 0 on both sides
pub reads_zero : (v : WorldValue) (place : Place) → (IsPlace v.sheet.layout place → ⊥) → record { cached = 0; persisted = 0 } ≡ sides_of v place
reads_zero v place none = ap (λ (n : ℕ). record { cached = n; persisted = 0 }) (sym (outside v.sheet.layout _ place none)) ∙ ap (λ (n : ℕ). record { cached = (memory v.sheet).cached place; persisted = n }) (sym (outside v.sheet.layout _ place none))

-- a place that was found not to be one of the sheet is none of its layout
pub not_there : (layout now : Layout) (place : Place) (there : Bool) → ((there ≡ true → IsPlace now place) × (IsPlace now place → there ≡ true)) → there ≡ false → now ≡ layout → IsPlace layout place → ⊥
not_there layout now place there is false_is same h =
    let yes : there ≡ true = is.1 (subst (λ (l : Layout). IsPlace l place) (sym same) h) in
    let e : true ≡ false = sym yes ∙ false_is in
    cc

-- ---- rows

-- the row that reports an event is its row
pub told : (places : List Place) (old new : WorldValue) (event : Event) (reply : Reply) (what : Happening) (text : List ℕ) (r s : List TraceRow)
    → what ≡ what_of old event → text ≡ text_by event → OneMore (Tells places new what reply text) r s → OneMore (IsRowOf places old event reply new) r s
told places old new event reply what text r s is same h = (
  h.0,
  h.1,
  subst (λ (w : Happening). Tells places new w reply (text_by event) h.0) is (subst (λ (t : List ℕ). Tells places new what reply t h.0) same h.2),
)

-- a call that begins
pub begin_what : (old : WorldValue) (p : ℕ) (call : Call) → Begins p (begin_in call) ≡ what_of old (beginning p call)
begin_what old p (calls.Edit cell text) = refl
begin_what old p (calls.Work cell) = refl
begin_what old p calls.Show = refl
begin_what old p calls.Recovery = refl
begin_what old p calls.Migration = refl

-- the text that an edit is to have is the same by its call and by its event
pub begin_text : (p : ℕ) (call : Call) → text_in call ≡ text_by (beginning p call)
begin_text p (calls.Edit cell text) = refl
begin_text p (calls.Work cell) = refl
begin_text p calls.Show = refl
begin_text p calls.Recovery = refl
begin_text p calls.Migration = refl
