-- What is reported after a crash.
use Rattle.std.proofs.Common.{ℕ, ◌≡◌, ◌∙◌, Bool, List, [], ◌∷◌, ◌++◌, sym, ap, subst, append_assoc}
use Rattle.std.specs.Prelude.{Result, Ok, Err, IfOk, IfErr, OnOk}
use Rattle.std.proofs.lemmas.List.{append-nil}
use Rattle.ds_state.specs.Value.{WorldValue}
use Rattle.ds_core.specs.Takes.{Fits}
use Rattle.ds_core.specs.declared.event.Event.TheVariants as events
use Rattle.ds_core.specs.declared.reply.Reply.{Reply}
use Rattle.ds_core.specs.declared.reply.Reply.TheVariants.{Crashed}
use Rattle.ds_script.specs.Orders.{Deed, Whole, Settle}
use Rattle.ds_script.specs.Doing.{plan}
use Rattle.ds_script.specs.Plays.{Played}
use Rattle.ds_script_stops.specs.StopBlocks.{no_deed, one_deed_more, IsBlock, recoveries, deeds_behind, stop_text}
use Rattle.ds_script_stops.specs.Reaching.{Tells, TellsBlock}
use Rattle.ds_script.specs.Script.{StandsAt}

pub crash_fits : (old new : WorldValue) (reply : Reply) → Fits old events.Crash reply new → Fits old events.Crash Crashed new
crash_fits old new Crashed h = h
crash_fits old new reply h = absurd h.takes

-- what follows from what holds where there is no error holds there, too
pub on_ok : {A E : Type 0} (r : Result A E) (P Q : Type 0) → (P → Q) → OnOk r P → OnOk r Q
on_ok (Ok x) P Q f h = f h
on_ok (Err e) P Q f h = tt

-- and what is so of a result at its variant
pub if_ok : {A E : Type 0} (r : Result A E) (P Q : A → Type 0) → ((x : A) → P x → Q x) → IfOk r P → IfOk r Q
if_ok (Ok x) P Q f h = f x h
if_ok (Err e) P Q f h = tt

-- what follows from what holds of an error holds of it, too
pub if_err : {A E : Type 0} (r : Result A E) (P Q : E → Type 0) → ((e : E) → P e → Q e) → IfErr r P → IfErr r Q
if_err (Ok x) P Q f h = tt
if_err (Err e) P Q f h = f e h

-- nothing is answered yet
pub tells_none : (w : WorldValue) (text : List ℕ) → Tells w [] text text w
tells_none w text = record { events = []; replies = []; answers = []; behind = no_deed; is = sym (append-nil text) }

-- one deed more
pub tells_more : (start w new : WorldValue) (deeds : List Deed) (deed : Deed) (before text answer now : List ℕ) → Tells start deeds before text w → Played (plan w [] deed) w answer new → now ≡ text ++ answer
    → Tells start (deeds ++ deed ∷ []) before now new
tells_more start w new deeds deed before text answer now t h is = record {
  events = t.events ++ h.events;
  replies = t.replies ++ h.replies;
  answers = t.answers ++ answer;
  behind = one_deed_more deeds t.events t.replies t.answers w deed h.events h.replies answer new t.behind h.plays;
  is = is ∙ ap (λ (x : List ℕ). x ++ answer) t.is ∙ append_assoc before t.answers answer;
}

-- a settle and a report after the recoveries
pub tells_behind : (start new : WorldValue) (processes : ℕ) (before now : List ℕ) → Tells start ((recoveries processes ++ Settle 0 ∷ []) ++ Whole 0 (events.BeginShow 0) ∷ []) before now new
    → Tells start (deeds_behind processes) before now new
tells_behind start new processes before now t =
    subst (λ (deeds : List Deed). Tells start deeds before now new) (append_assoc (recoveries processes) (Settle 0 ∷ []) (Whole 0 (events.BeginShow 0) ∷ [])) t

-- a crash and what is reported after it are the block of the stop
pub tells_block : (k : ℕ) (old crashed new : WorldValue) (text : List ℕ) → Fits old events.Crash Crashed crashed → Tells crashed (deeds_behind crashed.sheet.layout.processes) (stop_text k) text new → TellsBlock k old text new
tells_block k old crashed new text crash t = record { crashed = crashed; crash = crash; events = t.events; replies = t.replies; answers = t.answers; behind = t.behind; is = t.is }

-- a block, where the script stands
pub is_block : (whole : Bool) (script : List ℕ) (k : ℕ) (w new : WorldValue) (text : List ℕ) → StandsAt whole script k w → TellsBlock k w text new → IsBlock whole script k text
is_block whole script k w new text stands t = record {
  world = w;
  stands = stands;
  crashed = t.crashed;
  crash = t.crash;
  events = t.events;
  replies = t.replies;
  answers = t.answers;
  new = new;
  behind = t.behind;
  is = t.is;
}
