use Rattle.std.proofs.Common.{length}
use Rattle.ds_key.proofs.key.+is_visible.Given as goal

abbrev pub decreases-is_visible : goal.decreases-is_visible
decreases-is_visible l = length l.text.now
