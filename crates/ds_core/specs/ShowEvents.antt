-- The beginning of a show and its steps, from world to world.
use Rattle.std.specs.Prelude.{ℕ, ◌≡◌, ◌<◌}
use Rattle.ds_state.specs.declared.turn.Turn.{Turn}
use Rattle.ds_state.specs.Value.{WorldValue, world_of, SameReports}
use Rattle.ds_state.specs.declared.refusal.Refusal.{Refusal}
use Rattle.ds_state.specs.declared.show.ShowEnd.{ShowEnd}
use Rattle.ds_state.specs.declared.answer.Answer.TheVariants.{Show}
use Rattle.ds_core.specs.Replies.{reply_of}
use Rattle.ds_show.specs.ShowBegun.{IsBegun, Refuses}
use Rattle.ds_show.specs.ShowTakes as shows
use Rattle.ds_core.specs.declared.reply.Reply.{Reply}
use Rattle.ds_core.specs.declared.reply.Reply.TheVariants.{Entered, Refused, NotEnabled}

-- the reply to a step of a show: Stepped, or its answer
abbrev pub show_reply : Turn ShowEnd → Reply
show_reply what = reply_of Show what

-- the process makes one step of its show, with the reply of that step
pub record ShowStepsBy (old : WorldValue) (p : ℕ) (reply : Reply) (new : WorldValue) : Type 0 where
  pub what : Turn ShowEnd
  pub steps : shows.StepsBy old p what new
  pub is : reply ≡ show_reply what

-- a show of a process of the sheet begins; counts and kept snapshots stay
pub record ShowBegins (old : WorldValue) (p : ℕ) (new : WorldValue) : Type 0 where
  pub there : p < old.sheet.layout.processes
  pub begun : IsBegun (world_of old) p (world_of new)
  pub done : new.done ≡ old.done
  pub reports : SameReports old new

-- the begin of a show is refused for a cause that holds; the world stays
pub record ShowRefused (old : WorldValue) (p : ℕ) (why : Refusal) (new : WorldValue) : Type 0 where
  pub there : p < old.sheet.layout.processes
  pub holds : Refuses old p why
  pub same : new ≡ old

-- the sheet has no such process; the world stays
pub record NoSuchProcess (old : WorldValue) (p : ℕ) (new : WorldValue) : Type 0 where
  pub none : p < old.sheet.layout.processes → ⊥
  pub same : new ≡ old

-- what the begin of a show does, by its reply
abbrev pub BeginShowTakes : WorldValue → ℕ → Reply → WorldValue → Type 0
BeginShowTakes old p Entered new = ShowBegins old p new
BeginShowTakes old p (Refused why) new = ShowRefused old p why new
BeginShowTakes old p NotEnabled new = NoSuchProcess old p new
BeginShowTakes old p _ new = ⊥
