-- When a world is quiescent, by its value.
use Rattle.std.proofs.Common.{◌≡◌, ◌∙◌, arith, None}
use Rattle.std.specs.Prelude.{All}
use Rattle.std.proofs.lemmas.List.{get_or_default}
use Rattle.ds_layout.specs.SheetMemory.{memory}
use Rattle.ds_state.specs.Value.{WorldValue, world_of, IsGood}
use Rattle.ds_state.specs.Shown.{AllClean, IsQuiet}

-- a good world where no place has an open edit and every mark is clean is quiescent
pub quiet_by : (v : WorldValue) → IsGood v → All (λ issue. issue ≡ None) v.open_edits → AllClean v.sheet.layout (memory v.sheet) → IsQuiet (world_of v)
quiet_by v g none clean = record { answered = λ p lt. let size = g.open_edits in none p None (omega arith); clean = clean }

-- in a quiescent world no process's place for an open edit has one
pub answered_by : (v : WorldValue) → IsGood v → IsQuiet (world_of v) → All (λ issue. issue ≡ None) v.open_edits
answered_by v g q = λ k d lt. let size = g.open_edits in get_or_default v.open_edits k d None lt ∙ q.answered k (omega arith)
