-- A script, line by line, up to a step.
use Rattle.std.proofs.Common.{ℕ, suc, ◌+◌, ◌≡◌, ◌<◌, ◌∙◌, inl, inr, Bool, List, [], ◌∷◌, ◌++◌, Ok, Err, refl, sym, ap, subst, arith, add-one}
use Rattle.std.specs.Prelude.{Option, Some, None, Result}
use Rattle.ds_layout.specs.declared.place.Edition.TheVariants.{Second}
use Rattle.ds_state.specs.Value.{WorldValue}
use Rattle.ds_core.specs.declared.event.Event.TheVariants.{Step}
use Rattle.ds_script_io.specs.declared.ending.ScriptFault.{ScriptFault}
use Rattle.ds_script_io.specs.declared.ending.ScriptFault.TheVariants.{LineTooLong}
use Rattle.ds_script_io.specs.ScriptLines.{AtFront, NoLine, ALine, LongLine, next_of}
use Rattle.ds_script.specs.declared.order.Begun.{Begun}
use Rattle.ds_script.specs.declared.order.Begun.TheVariants as begun
use Rattle.ds_script.specs.Orders.{Order, Make, Does, order_of}
use Rattle.ds_script.specs.Doing.{Doing, plan}
use Rattle.ds_script.specs.Plays.{Plays}
use Rattle.ds_script.specs.Running.{after}
use Rattle.ds_script.specs.Script.{Progress, IsMade, begins_at, goes_on, Carried, begins, skips, makes, obeys, FaultAt, StandsAt, steps_taken}
use Rattle.ds_script.proofs.Scripts.{carried_runs}
use Rattle.ds_script_stops.specs.declared.reach.ScriptPosition.{ScriptPosition}
use Rattle.ds_script_stops.specs.declared.reach.StepPoint.{StepPoint}
use Rattle.ds_script_stops.specs.declared.reach.Hindrance.{Hindrance}
use Rattle.ds_script_stops.specs.declared.reach.Hindrance.TheVariants as hindrances
use Rattle.ds_script_stops.specs.StopBlocks.{BreaksBefore}
use Rattle.ds_script.specs.declared.turn.Left.{Left}
use Rattle.ds_script.specs.ScriptTurns.{doing_of}
use Rattle.ds_script_stops.specs.Reaching.{Ends, Halts, EndsOrder, HaltsOrder, PassesLine, StopsLine, Led, IsInside, IsAtLeft, IsAt, EndsHere, FallsShort, short_at}
use Rattle.ds_script_stops.proofs.Playing.{count_on}
use Rattle.ds_script_stops.proofs.Carrying.{way_ends, way_halts}

-- no lines lead to the first world
pub begins_led : (whole : Bool) (script : List ℕ) (w : WorldValue) → IsMade 2 2 2 Second w → Led whole script 0 (record { begun = begun.Nothing; taken = 0 }) w script
begins_led whole script w made = record { progress = begins_at begun.Nothing w; begun_is = refl; world_is = refl; count = refl; out = []; carried = begins w made }

-- ---- one line more

ends_led : (whole : Bool) (script : List ℕ) (lines : ℕ) (p : Progress) (out rest line behind : List ℕ) (order : Order) (taken : ℕ) (now : StepPoint) (new : WorldValue)
    → Carried whole script lines p out rest → next_of whole rest ≡ ALine line behind → order_of p.begun p.world line ≡ Ok (Some order) → now.begun ≡ after order
    → steps_taken p.events p.replies ≡ taken → EndsOrder p.world order taken now.taken new → Led whole script (suc lines) now new behind
ends_led whole script lines p out rest line behind (Make first columns rows processes edition) taken now new carried next asks begun_is count h = record {
  progress = begins_at first new;
  begun_is = sym begun_is;
  world_is = refl;
  count = sym h.0;
  out = out;
  carried = makes lines p out rest line behind first columns rows processes edition new carried next asks h.1;
}
ends_led whole script lines p out rest line behind (Does deed) taken now new carried next asks begun_is count h = record {
  progress = goes_on p h.2.events h.2.replies new;
  begun_is = sym begun_is;
  world_is = refl;
  count = let both = count_on p.events p.replies h.2.events h.2.replies p.start p.world (carried_runs whole script lines p out rest carried) in
      let own = h.2.count in omega (arith, both, count, own);
  out = out ++ h.2.text;
  carried = obeys lines p out rest line behind deed h.0 h.2.events h.2.replies h.2.text new carried next asks h.1 h.2.plays;
}

module _ (whole : Bool) (script : List ℕ) (lines : ℕ) (point : StepPoint) (w : WorldValue) (rest line behind : List ℕ) (led : Led whole script lines point w rest) (next : next_of whole rest ≡ ALine line behind) where
  -- what the line asks for at the point that the lines led to
  asked : (r : Result (Option Order) ScriptFault) → order_of point.begun w line ≡ r → order_of led.progress.begun led.progress.world line ≡ r
  asked r is = ap (λ (b : Begun). order_of b led.progress.world line) led.begun_is ∙ ap (λ (v : WorldValue). order_of point.begun v line) led.world_is ∙ is

  pub line_more : (now : StepPoint) (new : WorldValue) → PassesLine w point line now new → Led whole script (suc lines) now new behind
  line_more now new (inl s) = record {
    progress = led.progress;
    begun_is = led.begun_is ∙ sym (ap (λ (x : StepPoint). x.begun) s.still);
    world_is = led.world_is ∙ sym s.same;
    count = led.count ∙ sym (ap (λ (x : StepPoint). x.taken) s.still);
    out = led.out;
    carried = skips lines led.progress led.out rest line behind led.carried next (asked (Ok None) s.asks);
  }
  line_more now new (inr e) =
      ends_led whole script lines led.progress led.out rest line behind e.order point.taken now new led.carried next (asked (Ok (Some e.order)) e.asks) e.begun_is led.count
      (subst (λ (v : WorldValue). EndsOrder v e.order point.taken now.taken new) (sym led.world_is) e.ends)

  -- a run that stands at a step of the line
  stands : (order : Order) (last : ℕ) (left : Option Left) (new : WorldValue) → order_of led.progress.begun led.progress.world line ≡ Ok (Some order) → HaltsOrder led.progress.world order point.taken last left new → StandsAt whole script last new
  stands (Make first columns rows processes edition) last left new asks h = absurd h
  stands (Does deed) last left new asks h = record {
    lines = lines;
    progress = led.progress;
    out = led.out;
    rest = rest;
    line = line;
    behind = behind;
    carried = led.carried;
    next = next;
    deed = deed;
    asks = asks;
    order = h.0;
    order_is = h.1;
    events = h.2.events;
    replies = h.2.replies;
    p = h.2.p;
    reply = h.2.reply;
    doing = h.2.last;
    plays = h.2.plays;
    taken = h.2.taken;
    so_many = let both = count_on led.progress.events led.progress.replies (h.2.events ++ Step h.2.p ∷ []) (h.2.replies ++ h.2.reply ∷ []) led.progress.start led.progress.world (carried_runs whole script lines led.progress led.out rest led.carried) in
        let own = h.2.count in
        let before = led.count in omega (arith, both, before, own);
  }

  -- where it stands: in the line's command, or after it
  at : (order : Order) (last : ℕ) (begun : Begun) (left : Option Left) (new : WorldValue) → order_of point.begun w line ≡ Ok (Some order) → begun ≡ after order → HaltsOrder w order point.taken last left new
      → IsAtLeft whole script (lines + 1) (record { begun = begun; taken = last }) behind left new
  at (Make first columns rows processes edition) last begun left new asks is h = absurd h
  at (Does deed) last begun None new asks is h =
      let over : Ends (plan w h.0 deed) w point.taken last new = record {
        events = h.2.events ++ Step h.2.p ∷ [];
        replies = h.2.replies ++ h.2.reply ∷ [];
        text = h.2.remains.0;
        plays = subst (λ (d : Doing). Plays (plan w h.0 deed) w (h.2.events ++ Step h.2.p ∷ []) (h.2.replies ++ h.2.reply ∷ []) d new) h.2.remains.1 h.2.plays;
        count = h.2.count;
      } in
      let more = ends_led whole script lines led.progress led.out rest line behind (Does deed) point.taken (record { begun = begun; taken = last }) new led.carried next (asked (Ok (Some (Does deed))) asks) is led.count
      (subst (λ (v : WorldValue). EndsOrder v (Does deed) point.taken last new) (sym led.world_is) (h.0, h.1, over)) in
      rw add-one more
  at (Does deed) last begun (Some l) new asks is h = record {
    before = lines;
    from = point;
    world = w;
    all = rest;
    led = led;
    line = line;
    next = next;
    lines_are = refl;
    deed = deed;
    asks = asks;
    begun_is = is;
    order = h.0;
    order_is = h.1;
    way = record { events = h.2.events ++ Step h.2.p ∷ []; replies = h.2.replies ++ h.2.reply ∷ []; last = h.2.last; plays = h.2.plays; is = h.2.remains; count = h.2.count };
  }

  pub halted : (order : Order) (last : ℕ) (begun : Begun) (left : Option Left) (new : WorldValue) → order_of point.begun w line ≡ Ok (Some order) → begun ≡ after order → HaltsOrder w order point.taken last left new
      → StandsAt whole script last new × IsAtLeft whole script (lines + 1) (record { begun = begun; taken = last }) behind left new
  halted order last begun left new asks is h = (
    stands order last left new (asked (Ok (Some order)) asks) (subst (λ (v : WorldValue). HaltsOrder v order point.taken last left new) (sym led.world_is) h),
    at order last begun left new asks is h,
  )

  -- a line that stops the run
  pub line_stops : (last : ℕ) (stop : Hindrance) → point.taken < last → StopsLine w point line stop → (new : WorldValue) → FallsShort whole script last new (short_at (lines + 1) stop)
  line_stops last (hindrances.Fault kind) below h new = record {
    out = led.out;
    breaks = record {
      lines = lines;
      progress = led.progress;
      rest = rest;
      carried = led.carried;
      number = refl;
      fault = subst (λ (f : AtFront). FaultAt led.progress f kind) (sym next) (asked (Err kind) h);
    };
    fewer = let count = led.count in omega (arith, count, below);
  }
  line_stops last hindrances.NoMemory below h new = tt

-- ---- in a command

-- a run of a script that has something left of a command stands in that command
pub inside : (whole : Bool) (script : List ℕ) (place : ScriptPosition) (l : Left) (w : WorldValue) → place.left ≡ Some l → IsAt whole script place w → IsInside whole script place.lines place.point place.rest.now l w
inside whole script place l w is h = subst (λ (o : Option Left). IsAtLeft whole script place.lines place.point place.rest.now o w) is h

module _ (whole : Bool) (script : List ℕ) (lines : ℕ) (point : StepPoint) (rest : List ℕ) (l : Left) (w : WorldValue) (i : IsInside whole script lines point rest l w) where
  -- the command goes on to its end
  pub inside_ends : (now : ℕ) (new : WorldValue) → Ends (doing_of l) w point.taken now new → Led whole script lines (record { begun = point.begun; taken = now }) new rest
  inside_ends now new h =
      let over = way_ends (plan i.world i.order i.deed) i.world w new l i.from.taken point.taken now i.way h in
      let ends : PassesLine i.world i.from i.line (record { begun = point.begun; taken = now }) new = inr (record { order = Does i.deed; asks = i.asks; begun_is = i.begun_is; ends = (i.order, i.order_is, over) }) in
      let more = line_more whole script i.before i.from i.world i.all i.line rest i.led i.next (record { begun = point.begun; taken = now }) new ends in
      let number : suc i.before ≡ lines = sym (add-one i.before) ∙ sym i.lines_are in
      subst (λ (n : ℕ). Led whole script n (record { begun = point.begun; taken = now }) new rest) number more

  -- and to its next step
  pub inside_halts : (last : ℕ) (left : Option Left) (new : WorldValue) → Halts (doing_of l) w point.taken last left new
      → StandsAt whole script last new × IsAtLeft whole script lines (record { begun = point.begun; taken = last }) rest left new
  inside_halts last left new h =
      subst (λ (n : ℕ). StandsAt whole script last new × IsAtLeft whole script n (record { begun = point.begun; taken = last }) rest left new) (sym i.lines_are)
      (halted whole script i.before i.from i.world i.all i.line rest i.led i.next (Does i.deed) last point.begun left new i.asks i.begun_is (i.order, i.order_is, way_halts (plan i.world i.order i.deed) i.world w new l i.from.taken point.taken last left i.way h))

-- ---- its end

module _ (whole : Bool) (script : List ℕ) (lines : ℕ) (point : StepPoint) (w : WorldValue) (rest : List ℕ) (last : ℕ) (led : Led whole script lines point w rest) (below : point.taken < last) where
  pub ends_short : next_of whole rest ≡ NoLine → EndsHere whole script last w
  ends_short none = record {
    ends = record {
      out = led.out;
      finishes = record { lines = lines; progress = led.progress; rest = rest; carried = led.carried; none = none };
      fewer = let count = led.count in omega (arith, count, below);
    };
    world_is = led.world_is;
  }

  pub breaks_long : next_of whole rest ≡ LongLine → BreaksBefore whole script last (lines + 1) LineTooLong
  breaks_long long = record {
    out = led.out;
    breaks = record {
      lines = lines;
      progress = led.progress;
      rest = rest;
      carried = led.carried;
      number = refl;
      fault = subst (λ (f : AtFront). FaultAt led.progress f LineTooLong) (sym long) refl;
    };
    fewer = let count = led.count in omega (arith, count, below);
  }
