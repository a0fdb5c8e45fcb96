use Rattle.std.proofs.Common.{◌≡◌, length}
use Rattle.ds_svg.proofs.page.Page.close_all.Given as goal

abbrev pub invariant-elements : goal.invariant-elements
invariant-elements l = l.self.limit ≡ l.fn.self.limit

abbrev pub decreases-elements : goal.decreases-elements
decreases-elements l = length l.self.elements
