-- Calls that begin, and points that are passed.
use Rattle.std.proofs.Common.{ℕ, ◌≡◌, ◌⊎◌, refl, ap, sym, subst, inl, inr}
use Rattle.ds_state.specs.Value.{WorldValue}
use Rattle.ds_core.specs.declared.reply.Reply.{Reply}
use Rattle.ds_core.specs.declared.reply.Reply.TheVariants.{Begun, Entered}
use Rattle.ds_calls.specs.Whole.{HasBegun}
use Rattle.ds_script.specs.declared.drive.Until.{Until}
use Rattle.ds_script.specs.declared.drive.Until.TheVariants.{OneStep, ToPoint, ToAnswer, InRound}
use Rattle.ds_script.specs.declared.drive.Halt.{Halt}
use Rattle.ds_script.specs.declared.drive.Halt.TheVariants.{At, Replied}
use Rattle.ds_script.specs.ScriptTexts.{reply_text}
use Rattle.ds_script.specs.Doing.{Says, Drives, called}
use Rattle.ds_script.specs.Plays.{IsNoRound, halted, halt_text}

-- a command whose call has begun drives its process
pub begun_by : (w : WorldValue) (p : ℕ) (until : Until) (reply : Reply) → ((n : ℕ) × (reply ≡ Begun n)) ⊎ (reply ≡ Entered) → called w p until reply ≡ Drives p until
begun_by w p until reply (inl h) = ap (λ (r : Reply). called w p until r) h.1
begun_by w p until reply (inr h) = ap (λ (r : Reply). called w p until r) h

-- a reply with a number, or that a call is entered, says that one has begun
pub has_begun : (reply : Reply) → ((n : ℕ) × (reply ≡ Begun n)) ⊎ (reply ≡ Entered) → HasBegun reply
has_begun reply (inl h) = subst HasBegun (sym h.1) tt
has_begun reply (inr h) = subst HasBegun (sym h) tt

-- a command whose call has not begun says the reply
pub refused_by : (w : WorldValue) (p : ℕ) (until : Until) (reply : Reply) → ((n : ℕ) → reply ≡ Begun n → ⊥) → (reply ≡ Entered → ⊥) → called w p until reply ≡ Says (reply_text w p reply)
refused_by w p until (Begun n) a b = absurd (a n refl)
refused_by w p until Entered a b = absurd (b refl)
refused_by w p until reply a b = refl

-- a process that is not driven in a round ends with a text
pub no_round : (w : WorldValue) (p : ℕ) (until : Until) (halt : Halt) → IsNoRound until → halted w p until halt ≡ Says (halt_text w p halt)
no_round w p (InRound rounds cell) halt h = absurd h
no_round w p OneStep (At name) h = refl
no_round w p OneStep (Replied reply) h = refl
no_round w p (ToPoint name) (At at) h = refl
no_round w p (ToPoint name) (Replied reply) h = refl
no_round w p ToAnswer (At name) h = refl
no_round w p ToAnswer (Replied reply) h = refl
