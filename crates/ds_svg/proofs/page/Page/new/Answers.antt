use Rattle.std.proofs.Common.{arith}
use Rattle.ds_svg.proofs.Fronts.{begun}
use Rattle.ds_svg.proofs.page.Page.new.Goals as goal

pub invariant_of-result : goal.invariant_of-result
invariant_of-result c = record {
  front = begun c.new.result.items c.in_ok-piece.piece.items c.args.attributes.now c.new.ensures.items c.in_ok-piece.ensures;
  within = let size = c.len.ensures in let short = c.if-len-limit.false in omega (arith, size, short);
}
