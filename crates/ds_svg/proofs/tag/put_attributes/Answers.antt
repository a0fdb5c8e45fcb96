use Rattle.std.proofs.Common.{ℕ, ◌∙◌, List, ◌++◌, take, get_or, ap, sym}
use Rattle.std.specs.List.{flat_map}
use Rattle.std.proofs.lemmas.List.{flat_map_more, take_more}
use Rattle.ds_svg.specs.declared.tag.Attribute.{Attribute}
use Rattle.ds_svg.specs.declared.tag.Name.TheVariants as names
use Rattle.ds_svg.specs.declared.tag.AttributeValue.TheVariants as values
use Rattle.ds_svg.specs.Markup.{attribute_text}
use Rattle.ds_svg.proofs.tag.put_attributes.Goals as goal

abbrev none : Attribute
none = record { name = names.Class; value = values.Number 0 }

pub loop-attribute-preserved : goal.loop-attribute-preserved
loop-attribute-preserved c =
    c.in_ok-put_attribute.ensures
    ∙ ap (λ (l : List ℕ). l ++ attribute_text (get_or c.args.attributes.now c.loop-attribute.attribute-index none)) c.loop-attribute.invariant
    ∙ flat_map_more attribute_text c.args.text.now.items (take c.loop-attribute.attribute-index c.args.attributes.now) (get_or c.args.attributes.now c.loop-attribute.attribute-index none)
    ∙ ap (λ (l : List Attribute). c.args.text.now.items ++ flat_map attribute_text l) (sym (take_more c.args.attributes.now c.loop-attribute.attribute-index none c.loop-attribute-test.true))
