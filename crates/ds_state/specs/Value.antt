-- The plain value of a world, and the world that it stands for.
use Rattle.std.specs.Prelude.{ℕ, ◌≡◌, ◌≤◌, ◌+◌, ◌*◌, List, length, slice_index_or, Option, None}
use Rattle.ds_layout.specs.declared.place.TheConstants.{RECORDS}
use Rattle.ds_layout.specs.SheetMemory.{SheetValue, memory}
use Rattle.ds_layout.specs.declared.layout.Layout.{Layout}
use Rattle.ds_layout.specs.Places.{cells_of}
use Rattle.ds_state.specs.Reports.{PlainReports}
use Rattle.ds_state.specs.World.{PlainEdit, PlainIssue, PlainWorld}
use Rattle.ds_state.specs.Sound.{IsSound}
use Rattle.ds_state.specs.Dones.{HasAnswered}
use Rattle.ds_state.specs.Underway.{shows_under_way}
use Rattle.ds_state.specs.declared.reports.TheConstants.{SETTLED_MOST}
use Rattle.ds_state.specs.declared.situation.Situation.{Situation}
use Rattle.ds_state.specs.declared.situation.Situation.TheVariants.{Idle}
use Rattle.ds_layout.specs.declared.place.Edition.{Edition}
use Rattle.ds_layout.specs.declared.place.Edition.TheVariants.{First}
use Rattle.ds_state.specs.declared.situation.Rest.{Rest}

-- a sheet and its words, what each process does, the linearized edits, the edit of each process that is not answered,
-- how many edits were answered Done and how many shows Settled, and each process's last settled show
pub record WorldValue : Type 0 where
  pub sheet : SheetValue
  pub situations : List Situation
  pub counted : List PlainEdit
  pub open_edits : List (Option PlainIssue)
  pub done : ℕ
  pub settled : ℕ
  pub reports : PlainReports

-- before its first edit, in a layout
abbrev pub rest_in : Edition → Rest
rest_in edition = record { number = 0; edition = edition }

-- before its first edit, in the first layout
abbrev pub first_rest : Rest
first_rest = rest_in First

-- the plain world that a value stands for: what it has of no process is what a new world has
abbrev pub world_of : WorldValue → PlainWorld
world_of v = record {
  layout = v.sheet.layout;
  memory = memory v.sheet;
  situation = λ p. slice_index_or v.situations p (Idle first_rest);
  counted = v.counted;
  open_edits = λ p. slice_index_or v.open_edits p None;
}

-- one snapshot for each process, of as many cells as the sheet has
pub record AreReportsOf (layout : Layout) (r : PlainReports) : Type 0 where
  pub cells : r.cells ≡ cells_of layout
  pub processes : length r.values ≡ layout.processes

-- the shows that are under way can be counted, too, when they are settled
abbrev pub HasCountsLeft : List Situation → ℕ → Type 0
HasCountsLeft situations settled = settled + shows_under_way situations ≤ SETTLED_MOST

-- a good value: its world is sound, each process has a situation, a place for its edit and one for its show, as
-- many linearized edits are answered as were answered Done, and each show under way can be counted
pub record IsGood (v : WorldValue) : Type 0 where
  pub sound : IsSound (world_of v)
  pub situations : length v.situations ≡ v.sheet.layout.processes
  pub open_edits : length v.open_edits ≡ v.sheet.layout.processes
  pub reports : AreReportsOf v.sheet.layout v.reports
  pub answered : HasAnswered (world_of v).counted (world_of v).open_edits v.done
  pub counts : HasCountsLeft v.situations v.settled

-- a good value, with a place in the list for each edit that its processes can number
pub record IsReserved (v : WorldValue) (room : ℕ) : Type 0 where
  pub good : IsGood v
  pub reserved : v.sheet.layout.processes * RECORDS ≤ room

-- the count of settled shows and the values kept of them are the same in both worlds
pub record SameReports (old new : WorldValue) : Type 0 where
  pub settled : new.settled ≡ old.settled
  pub reports : new.reports ≡ old.reports
