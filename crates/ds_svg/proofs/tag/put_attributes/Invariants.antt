use Rattle.std.proofs.Common.{◌≡◌, ◌++◌, take}
use Rattle.ds_svg.specs.Markup.{attributes_text}
use Rattle.ds_svg.proofs.tag.put_attributes.Given as goal

abbrev pub invariant-loop-attribute : goal.invariant-loop-attribute
invariant-loop-attribute l = l.text.items ≡ l.fn.text.items ++ attributes_text (take l.attribute-index l.attributes)
