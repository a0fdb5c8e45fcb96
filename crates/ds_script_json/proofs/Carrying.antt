-- Where a process is driven to.
use Rattle.std.proofs.Common.{ℕ, ◌≡◌, List, refl, sym, subst, ap, ◌∙◌}
use Rattle.ds_state.specs.Value.{WorldValue}
use Rattle.ds_script.specs.declared.drive.Until.{Until}
use Rattle.ds_script.specs.declared.drive.Halt.{Halt}
use Rattle.ds_script.specs.Doing.{Doing, Says, Drives}
use Rattle.ds_script.specs.Plays.{IsNoRound, Leads, Played, halt_text, halted}
use Rattle.ds_script.proofs.Calling.{no_round}
use Rattle.ds_script.proofs.Played.{stays}
use Rattle.ds_script_json.specs.declared.carry.CommandEnd.{CommandEnd}
use Rattle.ds_script_json.specs.CommandEnds.{text_of}

-- a text, and nothing more
pub says_so : (text : List ℕ) (w : WorldValue) → Played (Says text) w text w
says_so text w = stays (Says text) (Says text) w refl

-- a process that was driven, and not in a round of a settle, ends its command with the text of where it was driven to
pub driven : (old new : WorldValue) (p : ℕ) (until : Until) (halt : Halt) (end : CommandEnd) → IsNoRound until → Leads (Drives p until) old (halted new p until halt) new
    → text_of new end ≡ halt_text new p halt → Played (Drives p until) old (text_of new end) new
driven old new p until halt end outside leads is =
    subst (λ (d : Doing). Leads (Drives p until) old d new) (no_round new p until halt outside ∙ ap (λ (t : List ℕ). Says t) (sym is)) leads
