use Rattle.std.proofs.Common.{ℕ, ◌∙◌, List, ◌++◌, take, get_or, ap, sym}
use Rattle.std.specs.List.{flat_map}
use Rattle.std.proofs.lemmas.List.{flat_map_more, take_more}
use Rattle.ds_svg.specs.Markup.{piece_of}
use Rattle.ds_svg.proofs.escape.put_escaped.Goals as goal

pub loop-byte-preserved : goal.loop-byte-preserved
loop-byte-preserved c =
    c.in_ok-put.ensures
    ∙ ap (λ (l : List ℕ). l ++ piece_of (get_or c.args.bytes.now c.loop-byte.byte-index 0)) c.loop-byte.invariant
    ∙ flat_map_more piece_of c.args.text.now.items (take c.loop-byte.byte-index c.args.bytes.now) (get_or c.args.bytes.now c.loop-byte.byte-index 0)
    ∙ ap (λ (l : List ℕ). c.args.text.now.items ++ flat_map piece_of l) (sym (take_more c.args.bytes.now c.loop-byte.byte-index 0 c.loop-byte-test.true))
