-- Rows, one after the other.
use Rattle.std.proofs.Common.{ℕ, suc, ◌≡◌, ◌<◌, ◌∙◌, ◌⊎◌, inl, inr, List, [], ◌∷◌, ◌++◌, length, refl, sym, ap, subst, append_assoc, Some, None, arith}
use Rattle.std.specs.Prelude.{Option, Result, Ok, Err, OnOk, IfErr, IsErrAnd}
use Rattle.std.proofs.lemmas.List.{append-nil, length-append}
use Rattle.ds_layout.specs.declared.place.Place.{Place}
use Rattle.ds_formula.specs.declared.cells.Cell.{Cell}
use Rattle.ds_layout.specs.SheetMemory.{memory}
use Rattle.ds_state.specs.Value.{WorldValue, world_of}
use Rattle.ds_formula.specs.Cells.{cell_at}
use Rattle.ds_core.specs.declared.event.Event.{Event}
use Rattle.ds_core.specs.declared.event.Event.TheVariants.{BeginWork}
use Rattle.ds_calls.specs.Wanted.{wants}
use Rattle.ds_core.specs.declared.reply.Reply.{Reply}
use Rattle.ds_script.specs.Doing.{Doing, Says, Once, asks, told}
use Rattle.ds_script.specs.Plays.{Plays}
use Rattle.ds_script.specs.ScriptTexts.{reply_text, peek_text, word_text}
use Rattle.ds_script.specs.declared.order.Command.{Command}
use Rattle.ds_script.specs.declared.order.Command.TheVariants as commands
use Rattle.ds_script.specs.Orders.{command_view}
use Rattle.ds_script.proofs.Played.{plays_on}
use Rattle.ds_script.specs.declared.turn.Left.{Left}
use Rattle.ds_script.specs.declared.turn.Left.TheVariants as left
use Rattle.ds_script.specs.ScriptTurns.{Remains, doing_of}
use Rattle.ds_trace.specs.declared.row.TraceRow.{TraceRow}
use Rattle.ds_trace.specs.declared.turn.NoTrace.{NoTrace}
use Rattle.ds_trace.specs.declared.turn.NoTrace.TheVariants.{TooManyEvents, NoMemory}
use Rattle.ds_trace.specs.Rows.{Happens, IsFull, OneMore}
use Rattle.ds_trace.specs.Trails.{AreRows, BreaksOff, Trail, TakesTurn, ObeysBy}

-- ---- rows

-- the rows of two runs, one after the other, are those of both
pub rows_on : (places : List Place) (events : List Event) (replies : List Reply) (rows : List TraceRow) (events' : List Event) (replies' : List Reply) (rows' : List TraceRow) (old mid new : WorldValue)
    → AreRows places old events replies rows mid → AreRows places mid events' replies' rows' new → AreRows places old (events ++ events') (replies ++ replies') (rows ++ rows') new
rows_on places [] [] [] events' replies' rows' old mid new h k = subst (λ (v : WorldValue). AreRows places v events' replies' rows' new) h k
rows_on places (event ∷ events) (reply ∷ replies) (row ∷ rows) events' replies' rows' old mid new h k =
    (h.0, h.1, h.2, rows_on places events replies rows events' replies' rows' h.0 mid new h.3 k)
rows_on places [] [] (row ∷ rows) events' replies' rows' old mid new h k = absurd h
rows_on places [] (reply ∷ replies) rows events' replies' rows' old mid new h k = absurd h
rows_on places (event ∷ events) [] rows events' replies' rows' old mid new h k = absurd h
rows_on places (event ∷ events) (reply ∷ replies) [] events' replies' rows' old mid new h k = absurd h

-- there are as many rows as events
pub row_count : (places : List Place) (events : List Event) (replies : List Reply) (rows : List TraceRow) (old new : WorldValue) → AreRows places old events replies rows new → length rows ≡ length events
row_count places [] [] [] old new h = refl
row_count places (event ∷ events) (reply ∷ replies) (row ∷ rows) old new h = ap (λ (n : ℕ). suc n) (row_count places events replies rows h.0 new h.3)
row_count places [] [] (row ∷ rows) old new h = absurd h
row_count places [] (reply ∷ replies) rows old new h = absurd h
row_count places (event ∷ events) [] rows old new h = absurd h
row_count places (event ∷ events) (reply ∷ replies) [] old new h = absurd h

-- one row more
pub longer : (P : TraceRow → Type 0) (before after : List TraceRow) → OneMore P before after → length before < length after
longer P before after h =
    let size : length after ≡ length (before ++ h.0 ∷ []) = ap (λ (l : List TraceRow). length l) h.1 in
    let sum = length-append before (h.0 ∷ []) in
    omega (arith, size, sum)

-- ---- a command on its way

-- the command has been played up to here, where this is left of it, and the rows of its events stand after the others
pub record OnTheWay (places : List Place) (doing : Doing) (old : WorldValue) (last : Doing) (new : WorldValue) (before after : List TraceRow) : Type 0 where
  pub events : List Event
  pub replies : List Reply
  pub rows : List TraceRow
  pub plays : Plays doing old events replies last new
  pub are : AreRows places old events replies rows new
  pub behind : after ≡ before ++ rows

-- a command is on its way where it begins, and has no rows
pub sets_out : (places : List Place) (doing : Doing) (w : WorldValue) (rows : List TraceRow) → OnTheWay places doing w doing w rows rows
sets_out places doing w rows = record { events = []; replies = []; rows = []; plays = (refl, refl); are = refl; behind = sym (append-nil rows) }

-- one event more
pub further : (places : List Place) (doing last : Doing) (old mid new : WorldValue) (event : Event) (reply : Reply) (r s t : List TraceRow)
    → OnTheWay places doing old last mid r s → asks last mid ≡ Some event → Happens places mid event reply new s t → OnTheWay places doing old (told last event reply new) new r t
further places doing last old mid new event reply r s t way asked h = record {
  events = way.events ++ event ∷ [];
  replies = way.replies ++ reply ∷ [];
  rows = way.rows ++ h.row.0 ∷ [];
  plays = plays_on way.events way.replies (event ∷ []) (reply ∷ []) doing last (told last event reply new) old mid new way.plays (new, asked, h.fits, (refl, refl));
  are = rows_on places way.events way.replies way.rows (event ∷ []) (reply ∷ []) (h.row.0 ∷ []) old mid new way.are (new, h.fits, h.row.2, refl);
  behind = h.row.1 ∙ ap (λ (l : List TraceRow). l ++ h.row.0 ∷ []) way.behind ∙ append_assoc r way.rows (h.row.0 ∷ []);
}

pub way_to : (places : List Place) (doing a b : Doing) (old new : WorldValue) (r s : List TraceRow) → a ≡ b → OnTheWay places doing old a new r s → OnTheWay places doing old b new r s
way_to places doing a b old new r s is h = subst (λ (d : Doing). OnTheWay places doing old d new r s) is h

-- it has come to its end
pub arrives : (places : List Place) (doing : Doing) (text : List ℕ) (old new : WorldValue) (r s : List TraceRow) → OnTheWay places doing old (Says text) new r s → Trail places doing old new r s
arrives places doing text old new r s h = record { events = h.events; replies = h.replies; text = text; rows = h.rows; plays = h.plays; are = h.are; behind = h.behind }

-- a command of one event, as a begin, a stop, a crash or an eviction
pub once : (places : List Place) (p : ℕ) (event : Event) (reply : Reply) (old new : WorldValue) (r s : List TraceRow) → Happens places old event reply new r s → Trail places (Once p event) old new r s
once places p event reply old new r s h =
    arrives places (Once p event) (reply_text new p reply) old new r s
    (further places (Once p event) (Once p event) old old new event reply r r s (sets_out places (Once p event) old r) refl h)

-- ---- turns

module _ (places : List Place) (doing : Doing) (l : Left) (next : Option Left) (old mid new : WorldValue) (r s t : List TraceRow) (way : OnTheWay places doing old (doing_of l) mid r s) (turn : TakesTurn places l mid next new s t) where
  on : OnTheWay places doing old (told (doing_of l) turn.event turn.reply new) new r t
  on = further places doing (doing_of l) old mid new turn.event turn.reply r s t way turn.asked turn.happens

  pub goes_on : (m : Left) → next ≡ Some m → OnTheWay places doing old (doing_of m) new r t
  goes_on m is = way_to places doing (told (doing_of l) turn.event turn.reply new) (doing_of m) old new r t
      (subst (λ (o : Option Left). Remains o (told (doing_of l) turn.event turn.reply new)) is turn.remains) on

  pub is_over : next ≡ None → Trail places doing old new r t
  is_over is =
      let end = subst (λ (o : Option Left). Remains o (told (doing_of l) turn.event turn.reply new)) is turn.remains in
      arrives places doing end.0 old new r t (way_to places doing (told (doing_of l) turn.event turn.reply new) (Says end.0) old new r t end.1 on)

-- ---- for want of room

-- a command that has come here by these rows breaks off where it wants an event more
pub breaks_way : (places : List Place) (doing last : Doing) (old mid : WorldValue) (r s : List TraceRow) (event : Event) (why : NoTrace)
    → OnTheWay places doing old last mid r s → asks last mid ≡ Some event → IsFull s why → BreaksOff doing old r why
breaks_way places doing last old mid r s event NoMemory way asked full = tt
breaks_way places doing last old mid r s event TooManyEvents way asked full =
    let count = row_count places way.events way.replies way.rows old mid way.are in
    let size : length s ≡ length (r ++ way.rows) = ap (λ (l : List TraceRow). length l) way.behind in
    let sum = length-append r way.rows in
    record {
      events = way.events;
      replies = way.replies;
      last = last;
      world = mid;
      event = event;
      plays = way.plays;
      wants = asked;
      full = omega (arith, count, size, sum, full);
    }

-- so does one that has not begun
pub breaks_here : (places : List Place) (doing : Doing) (w : WorldValue) (r : List TraceRow) (event : Event) (why : NoTrace) → asks doing w ≡ Some event → IsFull r why → BreaksOff doing w r why
breaks_here places doing w r event why asked full = breaks_way places doing doing w w r r event why (sets_out places doing w r) asked full

-- what is left of a command wants an event
pub breaks_turn : (places : List Place) (doing : Doing) (l : Left) (old mid : WorldValue) (r s : List TraceRow) (why : NoTrace) → OnTheWay places doing old (doing_of l) mid r s → IsFull s why → BreaksOff doing old r why
breaks_turn places doing (left.Drives p until) old mid r s why way full = breaks_way places doing (doing_of (left.Drives p until)) old mid r s (wants mid p) why way refl full
breaks_turn places doing (left.Works p rounds cell) old mid r s why way full =
    breaks_way places doing (doing_of (left.Works p rounds cell)) old mid r s (BeginWork p (cell_at mid.sheet.layout.shape cell)) why way refl full
breaks_turn places doing (left.WorksInOrder p cell rest) old mid r s why way full =
    breaks_way places doing (doing_of (left.WorksInOrder p cell rest)) old mid r s (BeginWork p (cell_at mid.sheet.layout.shape cell)) why way refl full
breaks_turn places doing (left.DrivesInOrder p rest) old mid r s why way full = breaks_way places doing (doing_of (left.DrivesInOrder p rest)) old mid r s (wants mid p) why way refl full

-- one event, and what breaks off behind it
pub breaks_later : (places : List Place) (doing : Doing) (old mid : WorldValue) (event : Event) (reply : Reply) (r s : List TraceRow) (why : NoTrace)
    → asks doing old ≡ Some event → Happens places old event reply mid r s → BreaksOff (told doing event reply mid) mid s why → BreaksOff doing old r why
breaks_later places doing old mid event reply r s NoMemory asked h rest = tt
breaks_later places doing old mid event reply r s TooManyEvents asked h rest =
    let size : length s ≡ length (r ++ h.row.0 ∷ []) = ap (λ (l : List TraceRow). length l) h.row.1 in
    let sum = length-append r (h.row.0 ∷ []) in
    let full = rest.full in
    record {
      events = event ∷ rest.events;
      replies = reply ∷ rest.replies;
      last = rest.last;
      world = rest.world;
      event = rest.event;
      plays = (mid, asked, h.fits, rest.plays);
      wants = rest.wants;
      full = omega (arith, size, sum, full);
    }

-- an error that is handed on
pub handed_on : {A : Type 0} (result : Result A NoTrace) (why : NoTrace) (P : NoTrace → Type 0) → IsErrAnd result (λ e. e ≡ why) → P why → IfErr result P
handed_on (Ok done) why P is h = tt
handed_on (Err e) why P is h = subst P (sym is) h

-- what follows from an error follows where there is one
pub on_err : {A E : Type 0} (result : Result A E) (P Q : E → Type 0) → ((e : E) → P e → Q e) → IfErr result P → IfErr result Q
on_err (Ok done) P Q f h = tt
on_err (Err e) P Q f h = f e h

-- ---- commands

-- nothing is left
pub none_left : (places : List Place) (doing : Doing) (w : WorldValue) (rows : List TraceRow) → Remains None doing → Trail places doing w w rows rows
none_left places doing w rows end = arrives places doing end.0 w w rows rows (way_to places doing doing (Says end.0) w w rows rows end.1 (sets_out places doing w rows))

-- one event, and the rest of the command
pub event_first : (places : List Place) (doing : Doing) (old mid new : WorldValue) (event : Event) (reply : Reply) (r s t : List TraceRow)
    → asks doing old ≡ Some event → Happens places old event reply mid r s → Trail places (told doing event reply mid) mid new s t → Trail places doing old new r t
event_first places doing old mid new event reply r s t asked h rest = record {
  events = event ∷ rest.events;
  replies = reply ∷ rest.replies;
  text = rest.text;
  rows = h.row.0 ∷ rest.rows;
  plays = (mid, asked, h.fits, rest.plays);
  are = (mid, h.fits, h.row.2, rest.are);
  behind = rest.behind ∙ ap (λ (l : List TraceRow). l ++ rest.rows) h.row.1 ∙ append_assoc r (h.row.0 ∷ []) rest.rows;
}

-- what follows from what holds where there is no error holds there, too
pub on_ok : {E : Type 0} (result : Result (Unit {0}) E) (P Q : Type 0) → (P → Q) → OnOk result P → OnOk result Q
on_ok (Ok done) P Q f h = f h
on_ok (Err e) P Q f h = tt

-- what a cell shows, or a word, is shown without an event
pub looks : (places : List Place) (w : WorldValue) (command : Command) (rows : List TraceRow) → ((cell : Cell) × (command ≡ commands.Peek cell)) ⊎ ((place : Place) × (command ≡ commands.Word place)) → ObeysBy places w (command_view command) w rows rows
looks places w command rows (inl h) =
    subst (λ (d : Command). ObeysBy places w (command_view d) w rows rows) (sym h.1) ([], refl, none_left places (Says (peek_text (world_of w) h.0)) w rows (peek_text (world_of w) h.0, refl))
looks places w command rows (inr h) =
    subst (λ (d : Command). ObeysBy places w (command_view d) w rows rows) (sym h.1) ([], refl, none_left places (Says (word_text (memory w.sheet) h.0)) w rows (word_text (memory w.sheet) h.0, refl))
