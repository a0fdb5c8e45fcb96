-- A command from event to event.
use Rattle.std.specs.Prelude.{ℕ, ◌≡◌, List, [], ◌∷◌, Some}
use Rattle.ds_state.specs.Value.{WorldValue}
use Rattle.ds_core.specs.Takes.{Fits}
use Rattle.ds_core.specs.declared.event.Event.{Event}
use Rattle.ds_core.specs.declared.event.Event.TheVariants.{Step}
use Rattle.ds_core.specs.declared.reply.Reply.{Reply}
use Rattle.ds_core.specs.declared.reply.Reply.TheVariants.{Stepped}
use Rattle.ds_calls.specs.Wanted.{wants}
use Rattle.ds_script.specs.Doing.{Doing, Says, Drives, asks, told, ended}
use Rattle.ds_script.specs.ScriptTexts.{at_text, reply_text}
use Rattle.ds_script.specs.declared.drive.Until.{Until}
use Rattle.ds_script.specs.declared.drive.Until.TheVariants.{InRound, ToPoint}
use Rattle.ds_script.specs.declared.drive.Halt.{Halt}
use Rattle.ds_script.specs.declared.drive.Halt.TheVariants.{At, Replied}

-- each event is the one that the command wants, and its reply takes the command on, up to this, which need not be the
-- end
abbrev pub Plays : Doing → WorldValue → List Event → List Reply → Doing → WorldValue → Type 0
Plays doing old [] [] last new = (last ≡ doing) × (new ≡ old)
Plays doing old (event ∷ events) (reply ∷ replies) last new =
    (mid : WorldValue) × (asks doing old ≡ Some event) × Fits old event reply mid × Plays (told doing event reply mid) mid events replies last new
Plays doing old [] (reply ∷ replies) last new = ⊥
Plays doing old (event ∷ events) [] last new = ⊥

-- some events lead the command from where it stands to there, from the one world to the other
pub record Leads (doing : Doing) (old : WorldValue) (last : Doing) (new : WorldValue) : Type 0 where
  pub events : List Event
  pub replies : List Reply
  pub plays : Plays doing old events replies last new

-- the command is played to its end, where it has this text
abbrev pub Played : Doing → WorldValue → List ℕ → WorldValue → Type 0
Played doing old text new = Leads doing old (Says text) new

-- what a command has left to do where its process is driven no further
abbrev pub halted : WorldValue → ℕ → Until → Halt → Doing
halted w p until (At name) = Says (at_text p name)
halted w p until (Replied reply) = ended w p until reply

-- the text of a command whose process is driven no further, outside a round of a settle
abbrev pub halt_text : WorldValue → ℕ → Halt → List ℕ
halt_text w p (At name) = at_text p name
halt_text w p (Replied reply) = reply_text w p reply

-- why a process is driven no further up to here where its last turn was a step or an offer
abbrev pub at_end : Until → Halt
at_end (ToPoint name) = At name
at_end until = Replied Stepped

-- the process is driven, but not in a round of a settle
abbrev pub IsNoRound : Until → Type 0
IsNoRound (InRound rounds cell) = ⊥
IsNoRound until = Unit {0}

-- the process that is driven wants a step: no work of its waits
abbrev pub WantsStep : WorldValue → ℕ → Type 0
WantsStep w p = wants w p ≡ Step p
