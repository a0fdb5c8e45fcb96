-- Plays, one after another.
use Rattle.std.proofs.Common.{ℕ, ◌≡◌, List, [], ◌∷◌, ◌++◌, refl, sym, subst, Some}
use Rattle.std.specs.Prelude.{Result, Ok, Err, IfOk}
use Rattle.std.specs.Global.{Vec}
use Rattle.ds_state.specs.Value.{WorldValue}
use Rattle.ds_core.specs.Takes.{Fits, WorldRun}
use Rattle.ds_core.specs.declared.event.Event.{Event}
use Rattle.ds_core.specs.declared.reply.Reply.{Reply}
use Rattle.ds_script.specs.Doing.{Doing, Says, asks, told}
use Rattle.ds_script.specs.Plays.{Plays, Leads, Played}

-- two plays of a command, one after the other, are a play
pub plays_on : (events : List Event) (replies : List Reply) (events' : List Event) (replies' : List Reply) (a b c : Doing) (old mid new : WorldValue)
    → Plays a old events replies b mid → Plays b mid events' replies' c new → Plays a old (events ++ events') (replies ++ replies') c new
plays_on [] [] events' replies' a b c old mid new h k =
    subst (λ (d : Doing). Plays d old events' replies' c new) h.0 (subst (λ (v : WorldValue). Plays b v events' replies' c new) h.1 k)
plays_on (event ∷ events) (reply ∷ replies) events' replies' a b c old mid new h k =
    (h.0, h.1, h.2, plays_on events replies events' replies' (told a event reply h.0) b c h.0 mid new h.3 k)
plays_on [] (reply ∷ replies) events' replies' a b c old mid new h k = absurd h
plays_on (event ∷ events) [] events' replies' a b c old mid new h k = absurd h

-- what is played is a run
pub play_runs : (events : List Event) (replies : List Reply) (a b : Doing) (old new : WorldValue) → Plays a old events replies b new → WorldRun old events replies new
play_runs [] [] a b old new h = h.1
play_runs (event ∷ events) (reply ∷ replies) a b old new h = (h.0, h.2, play_runs events replies (told a event reply h.0) b h.0 new h.3)
play_runs [] (reply ∷ replies) a b old new h = absurd h
play_runs (event ∷ events) [] a b old new h = absurd h

-- ---- where plays lead

-- what leads a command on, twice, leads it on
pub leads_on : (a b c : Doing) (old mid new : WorldValue) → Leads a old b mid → Leads b mid c new → Leads a old c new
leads_on a b c old mid new h k = record {
  events = h.events ++ k.events;
  replies = h.replies ++ k.replies;
  plays = plays_on h.events h.replies k.events k.replies a b c old mid new h.plays k.plays;
}

-- no events lead a command to where it stands
pub stays : (a b : Doing) (w : WorldValue) → b ≡ a → Leads a w b w
stays a b w same = record { events = []; replies = []; plays = (same, refl) }

-- a command leads on from where it stands, by whatever name
pub leads_from : (a b c : Doing) (old new : WorldValue) → a ≡ b → Leads b old c new → Leads a old c new
leads_from a b c old new is h = subst (λ (d : Doing). Leads d old c new) (sym is) h

-- one event
pub one : (a b : Doing) (old new : WorldValue) (event : Event) (reply : Reply) → asks a old ≡ Some event → Fits old event reply new → told a event reply new ≡ b → Leads a old b new
one a b old new event reply asked fits is = record { events = event ∷ []; replies = reply ∷ []; plays = (new, asked, fits, (sym is, refl)) }

-- ---- texts

-- a text, and nothing more
pub says_so : (text : List ℕ) (w : WorldValue) → Played (Says text) w text w
says_so text w = stays (Says text) (Says text) w refl

pub if_ok : {E : Type 0} (result : Result (Vec ℕ) E) (P Q : Vec ℕ → Type 0) → ((v : Vec ℕ) → P v → Q v) → IfOk result P → IfOk result Q
if_ok (Ok v) P Q f h = f v h
if_ok (Err e) P Q f h = tt

-- a text that is the answer
pub answered : {E : Type 0} (result : Result (Vec ℕ) E) (text : List ℕ) (Q : List ℕ → Type 0) → IfOk result (λ v. v.items ≡ text) → Q text → IfOk result (λ v. Q v.items)
answered (Ok v) text Q is q = subst Q (sym is) q
answered (Err e) text Q is q = tt
