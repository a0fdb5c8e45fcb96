-- Exit statuses of explorations and pictures (our own rule).
use Rattle.std.specs.Prelude.{ℕ}
use Rattle.ds_explore.specs.declared.explore.ExploreEnd.{ExploreEnd}
use Rattle.ds_explore.specs.declared.explore.ExploreEnd.TheVariants as explored
use Rattle.ds_trace_picture.specs.declared.script.PictureEnd.{PictureEnd}
use Rattle.ds_trace_picture.specs.declared.script.PictureEnd.TheVariants as drawn

-- the exit status of `dsheet explore`, by how the exploration ended
abbrev pub explore_status_of : ExploreEnd → ℕ
explore_status_of explored.Ended = 0
explore_status_of explored.Wrong = 1
explore_status_of (explored.Fault line kind) = 1
explore_status_of explored.TooManyStates = 3
explore_status_of explored.TooLong = 3
explore_status_of explored.FoundTooLong = 3
explore_status_of explored.WriteFailed = 3
explore_status_of explored.NoMemory = 4

-- the exit status of `dsheet trace`, by how the drawing of the script ended
abbrev pub picture_status_of : PictureEnd → ℕ
picture_status_of drawn.Drawn = 0
picture_status_of (drawn.Fault line kind) = 1
picture_status_of drawn.ScriptTooLong = 3
picture_status_of drawn.TooManyEvents = 3
picture_status_of drawn.TooLong = 3
picture_status_of drawn.WriteFailed = 3
picture_status_of drawn.NoMemory = 4
