-- A command that is carried out up to a step.
use Rattle.std.proofs.Common.{ℕ, ◌+◌, ◌≡◌, ◌<◌, ◌∙◌, List, [], ◌∷◌, ◌++◌, Some, None, sym, ap, subst, arith, append_assoc}
use Rattle.std.specs.Prelude.{Option}
use Rattle.ds_state.specs.Value.{WorldValue}
use Rattle.ds_core.specs.declared.event.Event.{Event}
use Rattle.ds_core.specs.declared.event.Event.TheVariants.{Step}
use Rattle.ds_core.specs.declared.reply.Reply.{Reply}
use Rattle.ds_script.specs.Orders.{Order, Make, Does}
use Rattle.ds_script.specs.Doing.{Doing, Says, plan}
use Rattle.ds_script.specs.Plays.{Plays}
use Rattle.ds_script.specs.Script.{steps_taken}
use Rattle.ds_script.proofs.Played.{plays_on, play_runs}
use Rattle.ds_script.specs.declared.turn.Left.{Left}
use Rattle.ds_script.specs.ScriptTurns.{doing_of}
use Rattle.ds_script_stops.specs.declared.play.Played.{Played}
use Rattle.ds_script_stops.specs.declared.play.Played.TheVariants as played
use Rattle.ds_script_stops.specs.Reaching.{Opens, OpensOrder, OnTheWay, Ends, Halts, IsPlayed, IsCarried, EndsOrder, taken_before}
use Rattle.ds_script_stops.proofs.Playing.{count_on}

-- ---- a command that is on its way

-- a command that is on its way, and is then played to its end, ends
pub way_ends : (doing : Doing) (old mid new : WorldValue) (l : Left) (before taken now : ℕ) → OnTheWay doing old before taken l mid → Ends (doing_of l) mid taken now new → Ends doing old before now new
way_ends doing old mid new l before taken now o e = record {
  events = o.events ++ e.events;
  replies = o.replies ++ e.replies;
  text = e.text;
  plays = plays_on o.events o.replies e.events e.replies doing (doing_of l) (Says e.text) old mid new
      (subst (λ (d : Doing). Plays doing old o.events o.replies d mid) o.is o.plays) e.plays;
  count = let both = count_on o.events o.replies e.events e.replies old mid (play_runs o.events o.replies doing o.last old mid o.plays) in
      omega (arith, both, o.count, e.count);
}

-- a command that is on its way, and is then played up to a step, halts there
pub way_halts : (doing : Doing) (old mid new : WorldValue) (l : Left) (before taken last : ℕ) (left : Option Left) → OnTheWay doing old before taken l mid → Halts (doing_of l) mid taken last left new → Halts doing old before last left new
way_halts doing old mid new l before taken last left o h =
    let events : (o.events ++ h.events) ++ Step h.p ∷ [] ≡ o.events ++ (h.events ++ Step h.p ∷ []) = append_assoc o.events h.events (Step h.p ∷ []) in
    let replies : (o.replies ++ h.replies) ++ h.reply ∷ [] ≡ o.replies ++ (h.replies ++ h.reply ∷ []) = append_assoc o.replies h.replies (h.reply ∷ []) in
    let plays : Plays doing old (o.events ++ (h.events ++ Step h.p ∷ [])) (o.replies ++ (h.replies ++ h.reply ∷ [])) h.last new =
    plays_on o.events o.replies (h.events ++ Step h.p ∷ []) (h.replies ++ h.reply ∷ []) doing (doing_of l) h.last old mid new
    (subst (λ (d : Doing). Plays doing old o.events o.replies d mid) o.is o.plays) h.plays in
    let count : before + steps_taken (o.events ++ (h.events ++ Step h.p ∷ [])) (o.replies ++ (h.replies ++ h.reply ∷ [])) ≡ last =
    (let both = count_on o.events o.replies (h.events ++ Step h.p ∷ []) (h.replies ++ h.reply ∷ []) old mid (play_runs o.events o.replies doing o.last old mid o.plays) in omega (arith, both, o.count, h.count)) in
    record {
      events = o.events ++ h.events;
      replies = o.replies ++ h.replies;
      p = h.p;
      reply = h.reply;
      last = h.last;
      plays = subst (λ (es : List Event). Plays doing old es ((o.replies ++ h.replies) ++ h.reply ∷ []) h.last new) (sym events)
          (subst (λ (rs : List Reply). Plays doing old (o.events ++ (h.events ++ Step h.p ∷ [])) rs h.last new) (sym replies) plays);
      taken = h.taken;
      count = ap (λ (es : List Event). before + steps_taken es ((o.replies ++ h.replies) ++ h.reply ∷ [])) events
          ∙ ap (λ (rs : List Reply). before + steps_taken (o.events ++ (h.events ++ Step h.p ∷ [])) rs) replies ∙ count;
      remains = h.remains;
      within = h.within;
    }

-- a command that was played up to its first step
opened : (doing : Doing) (old mid : WorldValue) (l : Left) (before : ℕ) → Opens doing old (Some l) mid → OnTheWay doing old before before l mid
opened doing old mid l before o = record { events = o.events; replies = o.replies; last = o.last; plays = o.plays; is = o.remains; count = let none = o.none in omega (arith, none) }

-- ---- by its order

-- how far an order is carried out that was opened
pub carried_on : (order : Order) (old mid new : WorldValue) (l : Left) (taken before last : ℕ) (how : Played) → before ≡ taken_before order taken
    → OpensOrder old order (Some l) mid → IsPlayed (doing_of l) mid before last how new → IsCarried old order taken last how new
carried_on (Make first columns rows processes edition) old mid new l taken before last how is o h = absurd (let n : Some l ≡ None = o.0 in cc)
carried_on (Does deed) old mid new l taken before last (played.Ended now) is o h =
    ((o.0, o.1, subst (λ (n : ℕ). Ends (plan old o.0 deed) old n now new) is (way_ends (plan old o.0 deed) old mid new l before before now (opened (plan old o.0 deed) old mid l before o.2) h.0)), h.1)
carried_on (Does deed) old mid new l taken before last (played.Halted left) is o h =
    (o.0, o.1, subst (λ (n : ℕ). Halts (plan old o.0 deed) old n last left new) is (way_halts (plan old o.0 deed) old mid new l before before last left (opened (plan old o.0 deed) old mid l before o.2) h))

pub ends_at_once : (order : Order) (old new : WorldValue) (taken before : ℕ) → before ≡ taken_before order taken → OpensOrder old order None new → EndsOrder old order taken before new
ends_at_once (Make first columns rows processes edition) old new taken before is o = (is, o.1)
ends_at_once (Does deed) old new taken before is o = (
  o.0,
  o.1,
  record {
    events = o.2.events;
    replies = o.2.replies;
    text = o.2.remains.0;
    plays = subst (λ (d : Doing). Plays (plan old o.0 deed) old o.2.events o.2.replies d new) o.2.remains.1 o.2.plays;
    count = let none = o.2.none in omega (arith, none, is);
  },
)

pub before_below : (order : Order) (taken before last : ℕ) → before ≡ taken_before order taken → taken < last → before < last
before_below (Make first columns rows processes edition) taken before last is below = omega (arith, is, below)
before_below (Does deed) taken before last is below = omega (arith, is, below)
