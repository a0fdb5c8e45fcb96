-- What all cells show where every mark is clean and no edit is open.
use Rattle.std.specs.Prelude.{ℕ, ◌≡◌, ◌<◌, None}
use Rattle.ds_formula.specs.Cells.{index_of}
use Rattle.ds_formula.specs.Plain.{PlainContent}
use Rattle.ds_eval.specs.Local.{local}
use Rattle.ds_layout.specs.declared.place.Place.TheVariants.{Head, Mark}
use Rattle.ds_state.specs.World.{PlainWorld}
use Rattle.ds_layout.specs.Mark.{IsClean}
use Rattle.ds_state.specs.Standing.{cached_side, entry_on, HasContent}

-- every mark is clean, and every edit is answered
pub record IsCalm (w : PlainWorld) : Type 0 where
  pub clean : (c : ℕ) → IsClean (w.memory.cached (Mark c))
  pub answered : (p : ℕ) → p < w.layout.processes → w.open_edits p ≡ None

-- what the cell shows is what its content gives of what the others show
pub record IsLocalAt (w : PlainWorld) (c : ℕ) : Type 0 where
  pub content : PlainContent
  pub has : HasContent w c (w.memory.cached (Head c)) content
  pub is : entry_on w.layout (cached_side w.memory) c ≡ local w.layout.shape content (λ d. entry_on w.layout (cached_side w.memory) (index_of w.layout.shape d))
