use Rattle.std.proofs.Common.{◌+◌, ℕ, refl, sym, subst}
use Rattle.std.specs.Global.{Vec}
use Rattle.ds_stop_groups.specs.declared.groups.Group.{Group}
use Rattle.ds_stop_groups.proofs.Blocks.{Stands, stands_first, stands_last, stands_next, stands_same}
use Rattle.ds_stop_groups.proofs.groups.lines_of.Goals.{then-are_same, else-are_same+in_ok-put_group-2}
use Rattle.ds_stop_groups.proofs.groups.lines_of.Goals as goal

pub blocks-2-init : goal.blocks-2-init
blocks-2-init c =
    stands_first c.args.start c.args.text.now c.new-lines.result.items c.in_ok-block.block.after.now c.in_ok-block.block.answers.now c.new-lines.ensures.items c.in_ok-block.ensures.block

pub returns-then-is_over-clause-groups : goal.returns-then-is_over-clause-groups
returns-then-is_over-clause-groups c =
    stands_last c.args.start c.args.text.now c.blocks-2.lines.items c.put_group.new.lines.items c.blocks-2.rest.now c.blocks-2.group.answers.now c.blocks-2.group.first c.blocks-2.group.more
    c.blocks-2.invariant (c.if-is_over.ensures.0 refl) c.in_ok-put_group.ensures.line

pub blocks-2-preserved : goal.blocks-2-preserved
blocks-2-preserved c = elim c.if-are_same.branch [
  | then-are_same w ↦
      subst (λ (g : Group). Stands c.args.start c.args.text.now c.if-are_same.lines.items c.in_ok-block-2.block.after.now g.first g.more g.answers.now) (sym w.group-is)
      (subst (λ (v : Vec ℕ). Stands c.args.start c.args.text.now v.items c.in_ok-block-2.block.after.now c.blocks-2.group.first (c.blocks-2.group.more + 1) c.blocks-2.group.answers.now) (sym w.lines-is)
      (stands_same c.args.start c.args.text.now c.blocks-2.lines.items c.blocks-2.rest.now c.in_ok-block-2.block.after.now c.blocks-2.group.answers.now c.in_ok-block-2.block.answers.now
      c.blocks-2.group.first c.blocks-2.group.more c.in_ok-stop.stop c.blocks-2.invariant c.in_ok-block-2.ensures.block c.in_ok-stop.ensures.stop (w.if-are_same.ensures.same refl)))
  | else-are_same+in_ok-put_group-2 w ↦
      subst (λ (g : Group). Stands c.args.start c.args.text.now c.if-are_same.lines.items c.in_ok-block-2.block.after.now g.first g.more g.answers.now) (sym w.group-is)
      (subst (λ (v : Vec ℕ). Stands c.args.start c.args.text.now v.items c.in_ok-block-2.block.after.now c.in_ok-stop.stop 0 c.in_ok-block-2.block.answers.now) (sym w.lines-is)
      (stands_next c.args.start c.args.text.now c.blocks-2.lines.items w.put_group-else-are_same.new.lines.items c.blocks-2.rest.now c.in_ok-block-2.block.after.now c.blocks-2.group.answers.now c.in_ok-block-2.block.answers.now
      c.blocks-2.group.first c.blocks-2.group.more c.in_ok-stop.stop c.blocks-2.invariant c.in_ok-block-2.ensures.block c.in_ok-stop.ensures.stop (w.if-are_same.ensures.another refl) w.in_ok-put_group-2.ensures.line))
]
