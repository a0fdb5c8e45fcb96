-- Why a process that is driven is driven no further.
use Rattle.std.proofs.Common.{ℕ, ◌≡◌, Bool, true, false, List, Some, None, refl}
use Rattle.std.specs.Prelude.{if◌then◌else◌}
use Rattle.ds_state.specs.Value.{WorldValue, world_of}
use Rattle.ds_state.specs.declared.situation.Situation.{Situation}
use Rattle.ds_core.specs.declared.event.Event.{Event}
use Rattle.ds_core.specs.declared.event.Event.TheVariants.{Offer}
use Rattle.ds_core.specs.declared.reply.Reply.{Reply}
use Rattle.ds_core.specs.declared.reply.Reply.TheVariants.{Stepped}
use Rattle.ds_script.specs.declared.point.PointName.{PointName}
use Rattle.ds_script.specs.declared.drive.Until.{Until}
use Rattle.ds_script.specs.declared.drive.Until.TheVariants.{OneStep, ToPoint, ToAnswer, InRound}
use Rattle.ds_script.specs.Points.{has_passed}
use Rattle.ds_script.specs.ScriptTexts.{at_text, reply_text}
use Rattle.ds_script.specs.Doing.{Doing, Says, Drives, driven, ended, offered, stepped, to_point}
use Rattle.ds_script.specs.Plays.{IsNoRound, at_end, halted}
use Rattle.ds_script.specs.declared.turn.Left.{Left}
use Rattle.ds_script.specs.declared.turn.Left.TheVariants as left
use Rattle.ds_script.specs.ScriptTurns.{IsWithin, Remains, doing_of}
use Rattle.ds_script.proofs.Turning.{not_said}

-- what is driven is not over
not_over : (p : ℕ) (until : Until) → Remains None (Drives p until) → ⊥
not_over p until h = let is : Drives p until ≡ Says h.0 = h.1 in cc

over_at : (text : List ℕ) (p : ℕ) (until : Until) (passed : Bool) → Remains None (if passed then Says text else Drives p until) → (if passed then Says text else Drives p until) ≡ Says text
over_at text p until true h = refl
over_at text p until false h = absurd (not_over p until h)

on_at : (text : List ℕ) (p : ℕ) (until : Until) (l : Left) (passed : Bool) → Remains (Some l) (if passed then Says text else Drives p until) → (if passed then Says text else Drives p until) ≡ Drives p until
on_at text p until l true h = absurd (not_said text l h)
on_at text p until l false h = refl

-- ---- a turn that neither answers nor is refused

offer_over : (w : WorldValue) (p : ℕ) (until : Until) → Remains None (offered w p until) → offered w p until ≡ halted w p until (at_end until)
offer_over w p OneStep h = absurd (not_over p OneStep h)
offer_over w p (ToPoint name) h = over_at (at_text p name) p (ToPoint name) (has_passed ((world_of w).situation p) name) h
offer_over w p ToAnswer h = absurd (not_over p ToAnswer h)
offer_over w p (InRound rounds cell) h = absurd (not_over p (InRound rounds cell) h)

step_over : (w : WorldValue) (p : ℕ) (until : Until) → Remains None (stepped w p until) → stepped w p until ≡ halted w p until (at_end until)
step_over w p OneStep h = refl
step_over w p (ToPoint name) h = over_at (at_text p name) p (ToPoint name) (has_passed ((world_of w).situation p) name) h
step_over w p ToAnswer h = absurd (not_over p ToAnswer h)
step_over w p (InRound rounds cell) h = absurd (not_over p (InRound rounds cell) h)

-- the last one
pub over : (w : WorldValue) (p : ℕ) (until : Until) (event : Event) → Remains None (driven w p until event Stepped) → driven w p until event Stepped ≡ halted w p until (at_end until)
over w p until (Offer value) h = offer_over w p until h
over w p until event h = step_over w p until h

offer_on : (w : WorldValue) (p : ℕ) (until : Until) (l : Left) → Remains (Some l) (offered w p until) → offered w p until ≡ Drives p until
offer_on w p (ToPoint name) l h = on_at (at_text p name) p (ToPoint name) l (has_passed ((world_of w).situation p) name) h
offer_on w p OneStep l h = refl
offer_on w p ToAnswer l h = refl
offer_on w p (InRound rounds cell) l h = refl

step_on : (w : WorldValue) (p : ℕ) (until : Until) (l : Left) → Remains (Some l) (stepped w p until) → stepped w p until ≡ Drives p until
step_on w p OneStep l h = absurd (not_said (reply_text w p Stepped) l h)
step_on w p (ToPoint name) l h = on_at (at_text p name) p (ToPoint name) l (has_passed ((world_of w).situation p) name) h
step_on w p ToAnswer l h = refl
step_on w p (InRound rounds cell) l h = refl

-- one that is not the last
pub on : (w : WorldValue) (p : ℕ) (until : Until) (event : Event) (l : Left) → Remains (Some l) (driven w p until event Stepped) → driven w p until event Stepped ≡ Drives p until
on w p until (Offer value) l h = offer_on w p until l h
on w p until event l h = step_on w p until l h

-- ---- another reply

pub replied : (w : WorldValue) (p : ℕ) (until : Until) (event : Event) (reply : Reply) → (reply ≡ Stepped → ⊥) → driven w p until event reply ≡ ended w p until reply
replied w p until event Stepped other = absurd (other refl)
replied w p until (Offer value) reply other = refl
replied w p until event reply other = refl

-- ---- cells

-- outside a round no cell is worked on
pub no_round_within : (w : WorldValue) (p : ℕ) (until : Until) → IsNoRound until → IsWithin w (left.Drives p until)
no_round_within w p OneStep h = tt
no_round_within w p (ToPoint name) h = tt
no_round_within w p ToAnswer h = tt
no_round_within w p (InRound rounds cell) h = absurd h
