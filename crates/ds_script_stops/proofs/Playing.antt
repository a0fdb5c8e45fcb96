-- A command that is played up to a step.
use Rattle.std.proofs.Common.{ℕ, ◌+◌, ◌-◌, ◌*◌, ◌≡◌, ◌<◌, ◌∙◌, Bool, true, false, List, [], ◌∷◌, ◌++◌, Some, None, refl, sym, ap, subst, arith, add-zero, lit<}
use Rattle.std.specs.Prelude.{Option}
use Rattle.ds_state.specs.Value.{WorldValue}
use Rattle.ds_core.specs.Takes.{WorldRun}
use Rattle.ds_core.specs.declared.event.Event.{Event}
use Rattle.ds_core.specs.declared.event.Event.TheVariants.{Step, Offer}
use Rattle.ds_core.specs.declared.reply.Reply.{Reply}
use Rattle.ds_script.specs.Doing.{Doing, asks, told}
use Rattle.ds_script.specs.Plays.{Plays}
use Rattle.ds_script.specs.Script.{step_taken, steps_taken}
use Rattle.ds_script.proofs.Played.{plays_on, play_runs}
use Rattle.ds_script.specs.declared.turn.Left.{Left}
use Rattle.ds_script.specs.declared.turn.CommandTurn.{CommandTurn}
use Rattle.ds_script.specs.ScriptTurns.{Remains, IsStep, TakesTurn, doing_of, steps_of, events_from, events_to_step}
use Rattle.ds_script_stops.specs.Reaching.{OnTheWay, Ends, Halts}

-- ---- counting

-- the steps of a run, and of what comes after it
pub count_on : (events : List Event) (replies : List Reply) (more : List Event) (behind : List Reply) (old mid : WorldValue)
    → WorldRun old events replies mid → steps_taken (events ++ more) (replies ++ behind) ≡ steps_taken events replies + steps_taken more behind
count_on [] [] more behind old mid h = let e : steps_taken more behind ≡ 0 + steps_taken more behind = omega arith in e
count_on (event ∷ events) (reply ∷ replies) more behind old mid h =
    let e = count_on events replies more behind h.0 mid h.2 in
    omega (arith, e)
count_on [] (reply ∷ replies) more behind old mid h = absurd h
count_on (event ∷ events) [] more behind old mid h = absurd h

-- one event more
one_more : (events : List Event) (replies : List Reply) (event : Event) (reply : Reply) (a b : Doing) (old mid : WorldValue)
    → Plays a old events replies b mid → steps_taken (events ++ event ∷ []) (replies ++ reply ∷ []) ≡ steps_taken events replies + step_taken event reply
one_more events replies event reply a b old mid h =
    count_on events replies (event ∷ []) (reply ∷ []) old mid (play_runs events replies a b old mid h) ∙ (let e : steps_taken events replies + (step_taken event reply + 0) ≡ steps_taken events replies + step_taken event reply = omega arith in e)

-- ---- on the way

-- a command is on its way where it begins
pub sets_out : (l : Left) (w : WorldValue) (before : ℕ) → OnTheWay (doing_of l) w before before l w
sets_out l w before = record { events = []; replies = []; last = doing_of l; plays = (refl, refl); is = refl; count = add-zero before }

step_count : (b : Bool) (event : Event) (reply : Reply) → IsStep b event reply → step_taken event reply ≡ steps_of b
step_count true event reply h = ap (λ (e : Event). step_taken e reply) h.1 ∙ h.2
step_count false event reply h = h

-- the number of steps grew, so that the event was one
was_step : (b : Bool) (event : Event) (reply : Reply) (taken last : ℕ) → IsStep b event reply → taken < last → taken + steps_of b ≡ last → IsStep true event reply
was_step true event reply taken last h below is = h
was_step false event reply taken last h below is = absurd (let e : ⊥ = omega (arith, below, is) in e)

module _ (doing : Doing) (old mid new : WorldValue) (before taken now : ℕ) (l : Left) (turn : CommandTurn) (way : OnTheWay doing old before taken l mid) (turns : TakesTurn l mid turn new) (is_now : now ≡ taken + steps_of turn.stepped) where
  -- the event of a turn, after those before
  further : Plays doing old (way.events ++ turns.event ∷ []) (way.replies ++ turn.reply ∷ []) (told (doing_of l) turns.event turn.reply new) new
  further =
      plays_on way.events way.replies (turns.event ∷ []) (turn.reply ∷ []) doing (doing_of l) (told (doing_of l) turns.event turn.reply new) old mid new
      (subst (λ (d : Doing). Plays doing old way.events way.replies d mid) way.is way.plays) (new, turns.asked, turns.fits, (refl, refl))

  counted : before + steps_taken (way.events ++ turns.event ∷ []) (way.replies ++ turn.reply ∷ []) ≡ now
  counted =
      let one = one_more way.events way.replies turns.event turn.reply doing way.last old mid way.plays in
      let steps = step_count turn.stepped turns.event turn.reply turns.is in
      omega (arith, one, steps, is_now, way.count)

  pub on_way : (next : Left) → Remains (Some next) (told (doing_of l) turns.event turn.reply new) → OnTheWay doing old before now next new
  on_way next is = record {
    events = way.events ++ turns.event ∷ [];
    replies = way.replies ++ turn.reply ∷ [];
    last = told (doing_of l) turns.event turn.reply new;
    plays = further;
    is = is;
    count = counted;
  }

  pub is_over : Remains None (told (doing_of l) turns.event turn.reply new) → Ends doing old before now new
  is_over is = record {
    events = way.events ++ turns.event ∷ [];
    replies = way.replies ++ turn.reply ∷ [];
    text = is.0;
    plays = subst (λ (d : Doing). Plays doing old (way.events ++ turns.event ∷ []) (way.replies ++ turn.reply ∷ []) d new) is.1 further;
    count = counted;
  }

  pub stands : (last : ℕ) → taken < last → now ≡ last → Halts doing old before last turn.left new
  stands last below is =
      let step = was_step turn.stepped turns.event turn.reply taken last turns.is below (sym is_now ∙ is) in
      record {
        events = way.events;
        replies = way.replies;
        p = step.0;
        reply = turn.reply;
        last = told (doing_of l) turns.event turn.reply new;
        plays = subst (λ (e : Event). Plays doing old (way.events ++ e ∷ []) (way.replies ++ turn.reply ∷ []) (told (doing_of l) turns.event turn.reply new) new) step.1 further;
        taken = step.2;
        count = subst (λ (e : Event). before + steps_taken (way.events ++ e ∷ []) (way.replies ++ turn.reply ∷ []) ≡ last) step.1 (counted ∙ is);
        remains = turns.remains;
        within = turns.within;
      }

-- ---- how many turns are left

at_most : (e : Option Event) → events_from e < 4
at_most None = lit< tt
at_most (Some (Step p)) = lit< tt
at_most (Some (Offer value)) = lit< tt
at_most (Some event) = lit< tt

fewer_by : (b : Bool) (taken now last n m : ℕ) → now ≡ taken + steps_of b → now < last → m < 4 → (b ≡ false → m < n) → 4 * (last - now) + m < 4 * (last - taken) + n
fewer_by true taken now last n m is below few less = omega (arith, is, below, few)
fewer_by false taken now last n m is below few less = let k = less refl in omega (arith, is, below, k)

-- each event of a command that goes up to a step leaves fewer to come
pub fewer : (old new : WorldValue) (l next : Left) (turn : CommandTurn) (taken now last : ℕ) → now ≡ taken + steps_of turn.stepped → now < last
    → (turn.stepped ≡ false → events_to_step new next < events_to_step old l) → 4 * (last - now) + events_to_step new next < 4 * (last - taken) + events_to_step old l
fewer old new l next turn taken now last is below less = fewer_by turn.stepped taken now last (events_to_step old l) (events_to_step new next) is below (at_most (asks (doing_of next) new)) less

-- it is no more than the last one, and another
pub below_by : (b : Bool) (taken now last : ℕ) → now ≡ taken + steps_of b → taken < last → (now ≡ last → ⊥) → now < last
below_by true taken now last is below other = omega (arith, is, below, other)
below_by false taken now last is below other = omega (arith, is, below)
