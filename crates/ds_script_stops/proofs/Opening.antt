-- A command up to its first step.
use Rattle.std.proofs.Common.{ℕ, ◌≡◌, ◌∙◌, List, [], ◌∷◌, Some, None, refl, sym, ap, subst, arith}
use Rattle.std.specs.Prelude.{Option, IfSome, unwrap_or}
use Rattle.ds_state.specs.Value.{WorldValue}
use Rattle.ds_core.specs.Takes.{Fits}
use Rattle.ds_core.specs.declared.event.Event.{Event}
use Rattle.ds_core.specs.declared.event.Event.TheVariants as events
use Rattle.ds_core.specs.declared.reply.Reply.{Reply}
use Rattle.ds_script.specs.declared.drive.Until.TheVariants.{ToAnswer}
use Rattle.ds_script.specs.declared.order.Call.{Call}
use Rattle.ds_script.specs.declared.order.Call.TheVariants as calls
use Rattle.ds_script.specs.declared.order.Command.{Command}
use Rattle.ds_script.specs.declared.order.Command.TheVariants as commands
use Rattle.ds_script.specs.declared.point.PointName.{PointName}
use Rattle.ds_script.specs.Orders.{beginning, command_view}
use Rattle.ds_script.specs.Doing.{Doing, Says, Once, Calls, called}
use Rattle.ds_script.specs.Plays.{Plays, Played}
use Rattle.ds_script.specs.Script.{step_taken, steps_taken}
use Rattle.ds_script.specs.Running.{Obeys}
use Rattle.ds_script.proofs.Driving.{if_some}
use Rattle.ds_script.specs.declared.turn.Left.{Left}
use Rattle.ds_script.specs.declared.turn.Left.TheVariants as left
use Rattle.ds_script.specs.ScriptTurns.{Remains, IsWithin}
use Rattle.ds_script_stops.specs.Reaching.{Opens, OpensOrder}

-- ---- no event

-- a command of which so much is left is played up to its first step where it stands
pub opens_at : (doing : Doing) (w : WorldValue) (l : Option Left) → Remains l doing → Opens doing w l w
opens_at doing w l remains = record { events = []; replies = []; last = doing; plays = (refl, refl); none = refl; remains = remains }

-- ---- the beginning of a call

begins_unstepped : (p : ℕ) (call : Call) (reply : Reply) → step_taken (beginning p call) reply ≡ 0
begins_unstepped p (calls.Edit cell text) reply = refl
begins_unstepped p (calls.Work cell) reply = refl
begins_unstepped p calls.Show reply = refl
begins_unstepped p calls.Recovery reply = refl
begins_unstepped p calls.Migration reply = refl

-- a call's command, with its begin, is played up to its first step
pub call_opens : (old new : WorldValue) (p : ℕ) (call : Call) (reply : Reply) (l : Option Left) → Fits old (beginning p call) reply new → Remains l (called new p ToAnswer reply)
    → Opens (Calls p (beginning p call)) old l new
call_opens old new p call reply l fits remains = record {
  events = beginning p call ∷ [];
  replies = reply ∷ [];
  last = called new p ToAnswer reply;
  plays = (new, refl, fits, (refl, refl));
  none = let none = begins_unstepped p call reply in omega (arith, none);
  remains = remains;
}

-- a call that is driven works on no cell of a settle
pub call_within : (w : WorldValue) (p : ℕ) (l : Option Left) → IfSome l (λ next. next ≡ left.Drives p ToAnswer) → IfSome l (IsWithin w)
call_within w p l same = if_some l (λ next. next ≡ left.Drives p ToAnswer) (IsWithin w) (λ next is. subst (λ (x : Left). IsWithin w x) (sym is) tt) same

-- ---- one event, or none, and the end

said_steps : (text : List ℕ) (old : WorldValue) (events : List Event) (replies : List Reply) (last : Doing) (new : WorldValue) → Plays (Says text) old events replies last new → steps_taken events replies ≡ 0
said_steps text old [] [] last new h = refl
said_steps text old (event ∷ events) (reply ∷ replies) last new h = absurd (let e : None ≡ Some event = h.1 in cc)
said_steps text old [] (reply ∷ replies) last new h = absurd h
said_steps text old (event ∷ events) [] last new h = absurd h

once_steps : (p : ℕ) (wanted : Event) (none : (reply : Reply) → step_taken wanted reply ≡ 0) (old : WorldValue) (events : List Event) (replies : List Reply) (last : Doing) (new : WorldValue)
    → Plays (Once p wanted) old events replies last new → steps_taken events replies ≡ 0
once_steps p wanted none old [] [] last new h = refl
once_steps p wanted none old (event ∷ events) (reply ∷ replies) last new h =
    let is : event ≡ wanted = sym (ap (λ (o : Option Event). unwrap_or o wanted) h.1) in
    let first : step_taken event reply ≡ 0 = ap (λ (e : Event). step_taken e reply) is ∙ none reply in
    let rest = said_steps _ h.0 events replies last new h.3 in
    omega (arith, first, rest)
once_steps p wanted none old [] (reply ∷ replies) last new h = absurd h
once_steps p wanted none old (event ∷ events) [] last new h = absurd h

once_opens : (p : ℕ) (wanted : Event) (none : (reply : Reply) → step_taken wanted reply ≡ 0) (old : WorldValue) (text : List ℕ) (new : WorldValue) → Played (Once p wanted) old text new → Opens (Once p wanted) old None new
once_opens p wanted none old text new h = record {
  events = h.events;
  replies = h.replies;
  last = Says text;
  plays = h.plays;
  none = once_steps p wanted none old h.events h.replies (Says text) new h.plays;
  remains = (text, refl);
}

says_opens : (said : List ℕ) (old : WorldValue) (text : List ℕ) (new : WorldValue) → Played (Says said) old text new → Opens (Says said) old None new
says_opens said old text new h = record {
  events = h.events;
  replies = h.replies;
  last = Says text;
  plays = h.plays;
  none = said_steps said old h.events h.replies (Says text) new h.plays;
  remains = (text, refl);
}

-- a command that takes no step
pub stepless : (old new : WorldValue) (command : Command) (answer : List ℕ)
    → ((p : ℕ) (call : Call) → command ≡ commands.Whole p call → ⊥) → ((p : ℕ) → command ≡ commands.Settle p → ⊥) → ((p : ℕ) → command ≡ commands.Recalculate p → ⊥) → ((p : ℕ) → command ≡ commands.Step p → ⊥)
    → ((p : ℕ) (name : PointName) → command ≡ commands.RunTo p name → ⊥) → ((p : ℕ) → command ≡ commands.Run p → ⊥)
    → Obeys old (command_view command) answer new → OpensOrder old (command_view command) None new
stepless old new (commands.Sheet layout) answer a b r c d e h = (refl, h.1)
stepless old new (commands.Layout layout edition) answer a b r c d e h = (refl, h.1)
stepless old new (commands.Whole p call) answer a b r c d e h = absurd (a p call refl)
stepless old new (commands.Begin p call) answer a b r c d e h = (h.0, h.1, once_opens p (beginning p call) (begins_unstepped p call) old answer new h.2)
stepless old new (commands.Settle p) answer a b r c d e h = absurd (b p refl)
stepless old new (commands.Recalculate p) answer a b r c d e h = absurd (r p refl)
stepless old new (commands.Step p) answer a b r c d e h = absurd (c p refl)
stepless old new (commands.RunTo p name) answer a b r c d e h = absurd (d p name refl)
stepless old new (commands.Run p) answer a b r c d e h = absurd (e p refl)
stepless old new (commands.Stop p) answer a b r c d e h = (h.0, h.1, once_opens p (events.Stop p) (λ reply. refl) old answer new h.2)
stepless old new commands.Crash answer a b r c d e h = (h.0, h.1, once_opens 0 events.Crash (λ reply. refl) old answer new h.2)
stepless old new (commands.Evict place) answer a b r c d e h = (h.0, h.1, once_opens 0 (events.Evict place) (λ reply. refl) old answer new h.2)
stepless old new (commands.Peek cell) answer a b r c d e h = (h.0, h.1, says_opens _ old answer new h.2)
stepless old new (commands.Word place) answer a b r c d e h = (h.0, h.1, says_opens _ old answer new h.2)
