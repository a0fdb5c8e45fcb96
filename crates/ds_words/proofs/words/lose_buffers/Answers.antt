use Rattle.std.proofs.Common.{set, ap, ◌∙◌, add-one, [], map, refl, arith}
use Rattle.std.proofs.lemmas.List.{map-set}
use Rattle.std.proofs.Math.ListN.{length-set}
use Rattle.ds_words.proofs.Laws.{map_two_more}
use Rattle.ds_words.proofs.words.lose_buffers.Goals as goal

pub loop-i-preserved : goal.loop-i-preserved
loop-i-preserved c = record {
  empty_below = map-set (λ b. b.items) c.loop-i.buffers.items c.loop-i.i c.clear.new.self
      ∙ ap (λ z. set (map (λ b. b.items) c.loop-i.buffers.items) c.loop-i.i z) c.clear.ensures
      ∙ rw add-one (map_two_more (λ b. []) (λ b. b.items) c.args.buffers.now.items (map (λ b. b.items) c.loop-i.buffers.items) c.loop-i.i [] (omega arith) (λ x. refl) c.loop-i.invariant.empty_below);
  same_length = length-set c.loop-i.buffers.items c.loop-i.i c.clear.new.self ∙ c.loop-i.invariant.same_length;
}
