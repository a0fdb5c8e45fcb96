-- What of an exploration is written, in each form (our own formats).
use Rattle.std.specs.Prelude.{ℕ, ◌≡◌, ◌≢◌, ◌-◌, Bool, true, List, Option, Some, None, length, slice_get}
use Rattle.std.specs.Io.KnownBytes.{Appends}
use Rattle.ds_cli.specs.declared.exploring.ExploreForm.{ExploreForm}
use Rattle.ds_cli.specs.declared.exploring.ExploreForm.TheVariants as forms
use Rattle.ds_explore.specs.Explored.{end_of, exploration_text, outcome_text, wrong_in}
use Rattle.ds_explore.specs.declared.explore.ExploreEnd.{ExploreEnd}
use Rattle.ds_explore.specs.declared.explore.ExploreEnd.TheVariants as ends
use Rattle.ds_explore.specs.declared.exploration.Exploration.{Exploration}
use Rattle.ds_explore.specs.declared.exploration.Outcome.{Outcome}
use Rattle.ds_explore_summary.specs.Lines.{lines_text}
use Rattle.ds_explore_summary.specs.Summaries.{summary_text}
use Rattle.ds_trace_picture.specs.Drawing.{PICTURE_MOST, Draws}
use Rattle.ds_trace_picture.specs.declared.script.PictureEnd.{PictureEnd}
use Rattle.ds_trace_picture.specs.declared.script.PictureEnd.TheVariants as drawn
use Rattle.ds_analyze.specs.declared.form.Unwritten.{Unwritten}
use Rattle.ds_analyze.specs.declared.form.Unwritten.TheVariants as unwritten

-- the outcome with this number, from 1, if there is one
abbrev pub numbered : Exploration → ℕ → Option Outcome
numbered exploration number = slice_get exploration.outcomes.items (number - 1)

-- the bytes are the text of the outcome with this number
pub record IsOutcomeText (exploration : Exploration) (number : ℕ) (out : List ℕ) : Type 0 where
  pub outcome : Outcome
  pub there : numbered exploration number ≡ Some outcome
  pub is : out ≡ outcome_text number outcome

-- the bytes are a picture of the script of the outcome with this number
pub record IsOutcomePicture (exploration : Exploration) (number : ℕ) (out : List ℕ) : Type 0 where
  pub outcome : Outcome
  pub there : numbered exploration number ≡ Some outcome
  pub draws : Draws PICTURE_MOST outcome.script.items drawn.Drawn out

-- the bytes are what this form asks for
abbrev pub IsForm : Exploration → ExploreForm → List ℕ → Type 0
IsForm exploration forms.All out = out ≡ exploration_text exploration
IsForm exploration forms.Summary out = out ≡ summary_text exploration
IsForm exploration forms.Json out = out ≡ lines_text exploration
IsForm exploration (forms.Outcome number) out = IsOutcomeText exploration number out
IsForm exploration (forms.Picture number) out = IsOutcomePicture exploration number out

-- the form is of the outcome with this number: its text, or its picture
abbrev pub AsksFor : ExploreForm → ℕ → Type 0
AsksFor (forms.Outcome asked) number = asked ≡ number
AsksFor (forms.Picture asked) number = asked ≡ number
AsksFor form number = ⊥

-- the script has no picture, for this reason
abbrev pub LacksPicture : List ℕ → PictureEnd → Type 0
LacksPicture script end = (end ≢ drawn.Drawn) × (end ≢ drawn.WriteFailed → (out : List ℕ) × Draws PICTURE_MOST script end out)

-- the form is a picture, and the script of its outcome has none, for this reason
abbrev pub LacksPictureOf : Exploration → ExploreForm → PictureEnd → Type 0
LacksPictureOf exploration (forms.Picture number) end = (outcome : Outcome) × (numbered exploration number ≡ Some outcome) × LacksPicture outcome.script.items end
LacksPictureOf exploration form end = ⊥

-- where that is said to be why the form is not written: no outcome has its number, and this is how many there are; or it is
-- JSON, and a text is not UTF-8; or there is no picture
abbrev pub IsUnwritten : Exploration → ExploreForm → Unwritten → Type 0
IsUnwritten exploration form (unwritten.NoOutcome number count) = AsksFor form number × (numbered exploration number ≡ None) × (count ≡ length exploration.outcomes.items)
IsUnwritten exploration form unwritten.NotUtf8 = form ≡ forms.Json
IsUnwritten exploration form (unwritten.NoPicture end) = LacksPictureOf exploration form end
IsUnwritten exploration form unwritten.NoMemory = Unit {0}

-- this form of the exploration was written and passed on, and it is said how the exploration ends; or the writer failed
abbrev pub WritesForm : Exploration → ExploreForm → Option (List ℕ) → Option (List ℕ) → Bool → ExploreEnd → Type 0
WritesForm exploration form before now flushed end =
    end ≢ ends.WriteFailed → (out : List ℕ) × Appends before now out × IsForm exploration form out × (end ≡ end_of exploration.is_cut (wrong_in exploration)) × (flushed ≡ true)
