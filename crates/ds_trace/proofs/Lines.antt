-- A script, line by line.
use Rattle.std.proofs.Common.{ℕ, suc, ◌+◌, ◌≡◌, ◌∙◌, inl, inr, Bool, List, [], ◌∷◌, ◌++◌, length, map, Ok, Err, refl, sym, ap, subst}
use Rattle.std.specs.Prelude.{Option, Some, None, Result}
use Rattle.ds_layout.specs.declared.place.Edition.TheVariants.{Second}
use Rattle.ds_layout.specs.declared.place.Place.{Place}
use Rattle.ds_words.specs.declared.words.Word.{Word}
use Rattle.ds_state.specs.Value.{WorldValue}
use Rattle.ds_core.specs.declared.event.Event.{Event}
use Rattle.ds_core.specs.declared.reply.Reply.{Reply}
use Rattle.ds_trace.specs.Rows.{sides_of}
use Rattle.ds_script_io.specs.declared.ending.ScriptFault.{ScriptFault}
use Rattle.ds_script_io.specs.declared.ending.ScriptFault.TheVariants.{LineTooLong}
use Rattle.ds_script_io.specs.ScriptLines.{AtFront, NoLine, ALine, LongLine, next_of}
use Rattle.ds_script.specs.declared.order.Begun.{Begun}
use Rattle.ds_script.specs.declared.order.Begun.TheVariants as begun
use Rattle.ds_script.specs.Orders.{Deed, Order, Make, Does, order_of}
use Rattle.ds_script.specs.Running.{after}
use Rattle.ds_script.specs.Script.{Progress, IsMade, begins_at, goes_on, Carried, begins, skips, makes, obeys, FaultAt}
use Rattle.ds_trace.specs.declared.row.TraceRow.{TraceRow}
use Rattle.ds_trace.specs.declared.record.Hindrance.{Hindrance}
use Rattle.ds_trace.specs.declared.record.Hindrance.TheVariants as hindrances
use Rattle.ds_trace.specs.declared.turn.NoTrace.TheVariants.{TooManyEvents, NoMemory}
use Rattle.ds_trace.specs.declared.record.Untraced.TheVariants as untraced
use Rattle.ds_script.specs.Doing.{IsOrderOf, plan}
use Rattle.ds_trace.specs.Trails.{AreRows, Hinders, ObeysBy, Overflows}
use Rattle.ds_trace.specs.Traces.{IsRecord, IsTooLong, IsUntraced, PassesLine, StopsLine, why_not}
use Rattle.ds_trace.proofs.Trails.{row_count, rows_on}

-- the lines led here, and these are the rows of their run
pub record Led (places : List Place) (whole : Bool) (script : List ℕ) (lines : ℕ) (first : Begun) (w : WorldValue) (rows : List TraceRow) (rest : List ℕ) : Type 0 where
  pub progress : Progress
  pub begun_is : progress.begun ≡ first
  pub world_is : progress.world ≡ w
  pub out : List ℕ
  pub carried : Carried whole script lines progress out rest
  pub are : AreRows places progress.start progress.events progress.replies rows progress.world

-- so, and these are the words of the new sheet at the places
pub record LedFrom (places : List Place) (whole : Bool) (script : List ℕ) (lines : ℕ) (first : Begun) (w : WorldValue) (rows : List TraceRow) (start : List Word) (rest : List ℕ) : Type 0 where
  pub led : Led places whole script lines first w rows rest
  pub starts : start ≡ map (sides_of led.progress.start) places

-- no lines lead to the first world, and have no rows
pub begins_led : (places : List Place) (whole : Bool) (script : List ℕ) (w : WorldValue) (rows : List TraceRow) → IsMade 2 2 2 Second w → rows ≡ [] → Led places whole script 0 begun.Nothing w rows script
begins_led places whole script w rows made none = record {
  progress = begins_at begun.Nothing w;
  begun_is = refl;
  world_is = refl;
  out = [];
  carried = begins w made;
  are = subst (λ (l : List TraceRow). AreRows places w [] [] l w) (sym none) refl;
}

-- before the first line the run has begun in the first world
pub begins_start : (places : List Place) (whole : Bool) (script : List ℕ) (w : WorldValue) (rows : List TraceRow) (made : IsMade 2 2 2 Second w) (none : rows ≡ []) → (begins_led places whole script w rows made none).progress.start ≡ w
unfolding begins_led
begins_start places whole script w rows made none = refl

-- where no event has a row yet, the world is the new sheet
no_events : (places : List Place) (old : WorldValue) (events : List Event) (replies : List Reply) (rows : List TraceRow) (new : WorldValue) → AreRows places old events replies rows new → rows ≡ [] → new ≡ old
no_events places old [] [] [] new h none = h
no_events places old (event ∷ events) (reply ∷ replies) (row ∷ rows) new h none = absurd (let bad : row ∷ rows ≡ [] = none in cc)
no_events places old [] [] (row ∷ rows) new h none = absurd h
no_events places old [] (reply ∷ replies) rows new h none = absurd h
no_events places old (event ∷ events) [] rows new h none = absurd h
no_events places old (event ∷ events) (reply ∷ replies) [] new h none = absurd h

-- a run without rows has begun in the world where it stands
pub starts_here : (places : List Place) (whole : Bool) (script : List ℕ) (lines : ℕ) (first : Begun) (w : WorldValue) (rows : List TraceRow) (rest : List ℕ) (led : Led places whole script lines first w rows rest) → rows ≡ []
    → led.progress.start ≡ w
starts_here places whole script lines first w rows rest led none =
    sym (no_events places led.progress.start led.progress.events led.progress.replies rows led.progress.world led.are none) ∙ led.world_is

-- ---- one line more

carries_led : (places : List Place) (whole : Bool) (script : List ℕ) (lines : ℕ) (p : Progress) (out rest line behind : List ℕ) (order : Order) (now : Begun) (new : WorldValue) (rows rows' : List TraceRow)
    → Carried whole script lines p out rest → next_of whole rest ≡ ALine line behind → order_of p.begun p.world line ≡ Ok (Some order) → now ≡ after order
    → AreRows places p.start p.events p.replies rows p.world → ObeysBy places p.world order new rows rows' → Led places whole script (suc lines) now new rows' behind
carries_led places whole script lines p out rest line behind (Make first columns rows processes edition) now new r s carried next asks begun_is are h = record {
  progress = begins_at first new;
  begun_is = sym begun_is;
  world_is = refl;
  out = out;
  carried = makes lines p out rest line behind first columns rows processes edition new carried next asks h.0;
  are = subst (λ (l : List TraceRow). AreRows places new [] [] l new) (sym h.1) refl;
}
carries_led places whole script lines p out rest line behind (Does deed) now new r s carried next asks begun_is are h = record {
  progress = goes_on p h.2.events h.2.replies new;
  begun_is = sym begun_is;
  world_is = refl;
  out = out ++ h.2.text;
  carried = obeys lines p out rest line behind deed h.0 h.2.events h.2.replies h.2.text new carried next asks h.1 h.2.plays;
  are = subst (λ (l : List TraceRow). AreRows places p.start (p.events ++ h.2.events) (p.replies ++ h.2.replies) l new) (sym h.2.behind)
      (rows_on places p.events p.replies r h.2.events h.2.replies h.2.rows p.start p.world new are h.2.are);
}

carries_still : (places : List Place) (whole : Bool) (script : List ℕ) (lines : ℕ) (p : Progress) (out rest line behind : List ℕ) (order : Order) (now : Begun) (new : WorldValue) (rows rows' : List TraceRow)
    → (carried : Carried whole script lines p out rest) (next : next_of whole rest ≡ ALine line behind) (asks : order_of p.begun p.world line ≡ Ok (Some order)) (begun_is : now ≡ after order)
    → (are : AreRows places p.start p.events p.replies rows p.world) (obeys_so : ObeysBy places p.world order new rows rows') → (rows' ≡ [] → ⊥)
    → (carries_led places whole script lines p out rest line behind order now new rows rows' carried next asks begun_is are obeys_so).progress.start ≡ p.start
unfolding carries_led
carries_still places whole script lines p out rest line behind (Make first columns rows processes edition) now new r s carried next asks begun_is are h some = absurd (some h.1)
carries_still places whole script lines p out rest line behind (Does deed) now new r s carried next asks begun_is are h some = refl

module _ (places : List Place) (whole : Bool) (script : List ℕ) (lines : ℕ) (first : Begun) (w : WorldValue) (rows : List TraceRow) (rest : List ℕ) (led : Led places whole script lines first w rows rest) where
  -- what a line asks for at the point that the lines led to
  asked : (line : List ℕ) (r : Result (Option Order) ScriptFault) → order_of first w line ≡ r → order_of led.progress.begun led.progress.world line ≡ r
  asked line r is = ap (λ (b : Begun). order_of b led.progress.world line) led.begun_is ∙ ap (λ (v : WorldValue). order_of first v line) led.world_is ∙ is

  pub line_more : (line behind : List ℕ) → next_of whole rest ≡ ALine line behind → (now : Begun) (new : WorldValue) (rows' : List TraceRow) → PassesLine places first w line now new rows rows' → Led places whole script (suc lines) now new rows' behind
  line_more line behind next now new rows' (inl s) = record {
    progress = led.progress;
    begun_is = led.begun_is ∙ sym s.still;
    world_is = led.world_is ∙ sym s.same;
    out = led.out;
    carried = skips lines led.progress led.out rest line behind led.carried next (asked line (Ok None) s.asks);
    are = subst (λ (l : List TraceRow). AreRows places led.progress.start led.progress.events led.progress.replies l led.progress.world) (sym s.no_row) led.are;
  }
  line_more line behind next now new rows' (inr e) =
      carries_led places whole script lines led.progress led.out rest line behind e.order now new rows rows' led.carried next (asked line (Ok (Some e.order)) e.asks) e.begun_is led.are
      (subst (λ (v : WorldValue). ObeysBy places v e.order new rows rows') (sym led.world_is) e.obeys)

  -- a line that leaves rows has left the new sheet
  pub still : (line behind : List ℕ) (next : next_of whole rest ≡ ALine line behind) (now : Begun) (new : WorldValue) (rows' : List TraceRow) (passes : PassesLine places first w line now new rows rows') → (rows' ≡ [] → ⊥)
      → (line_more line behind next now new rows' passes).progress.start ≡ led.progress.start
  unfolding line_more
  still line behind next now new rows' (inl s) some = refl
  still line behind next now new rows' (inr e) some =
      carries_still places whole script lines led.progress led.out rest line behind e.order now new rows rows' led.carried next (asked line (Ok (Some e.order)) e.asks) e.begun_is led.are
      (subst (λ (v : WorldValue). ObeysBy places v e.order new rows rows') (sym led.world_is) e.obeys) some

  -- a deed lacks the room for its events, in some order of its cells
  abbrev InSomeOrder : WorldValue → Deed → Type 0
  InSomeOrder v deed = (order : List ℕ) × IsOrderOf v deed order × Overflows (plan v order deed) v (length rows)

  -- a line whose order is not carried out for want of room
  no_room : (line behind : List ℕ) → next_of whole rest ≡ ALine line behind → (order : Order) → order_of first w line ≡ Ok (Some order) → Hinders w order rows TooManyEvents → IsTooLong whole script
  no_room line behind next (Make begun columns rows' processes edition) asks h = absurd (let bad : TooManyEvents ≡ NoMemory = h in cc)
  no_room line behind next (Does deed) asks (inl lacks) = absurd (let bad : TooManyEvents ≡ NoMemory = lacks in cc)
  no_room line behind next (Does deed) asks (inr h) = (let k : InSomeOrder led.progress.world deed = subst (λ (v : WorldValue). InSomeOrder v deed) (sym led.world_is) h in record {
    lines = lines;
    progress = led.progress;
    out = led.out;
    rest = rest;
    line = line;
    behind = behind;
    deed = deed;
    carried = led.carried;
    next = next;
    asks = asked line (Ok (Some (Does deed))) asks;
    order = k.0;
    order_is = k.1;
    overflows = subst (λ (n : ℕ). Overflows (plan led.progress.world k.0 deed) led.progress.world n) (row_count places led.progress.events led.progress.replies rows led.progress.start led.progress.world led.are) k.2;
  })

  -- a line that stops the script
  pub line_stops : (line behind : List ℕ) → next_of whole rest ≡ ALine line behind → (stop : Hindrance) → StopsLine first w line rows stop → IsUntraced whole script (why_not (lines + 1) stop)
  line_stops line behind next (hindrances.Fault kind) h = (
    led.out,
    record {
      lines = lines;
      progress = led.progress;
      rest = rest;
      carried = led.carried;
      number = refl;
      fault = subst (λ (f : AtFront). FaultAt led.progress f kind) (sym next) (asked line (Err kind) h);
    },
  )
  line_stops line behind next (hindrances.NoTrace TooManyEvents) h = no_room line behind next h.0 h.1 h.2
  line_stops line behind next (hindrances.NoTrace NoMemory) h = tt

  -- a line that is too long
  pub breaks_long : next_of whole rest ≡ LongLine → IsUntraced whole script (untraced.Fault (lines + 1) LineTooLong)
  breaks_long long = (
    led.out,
    record {
      lines = lines;
      progress = led.progress;
      rest = rest;
      carried = led.carried;
      number = refl;
      fault = subst (λ (f : AtFront). FaultAt led.progress f LineTooLong) (sym long) refl;
    },
  )

  -- no line is left
  pub ends_led : (start : List Word) → start ≡ map (sides_of led.progress.start) places → next_of whole rest ≡ NoLine → IsRecord whole script places start w rows
  ends_led start starts none = record {
    lines = lines;
    progress = led.progress;
    out = led.out;
    rest = rest;
    carried = led.carried;
    none = none;
    world_is = led.world_is;
    starts = starts;
    are = led.are;
  }
