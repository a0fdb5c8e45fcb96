use Rattle.std.proofs.Common.{List, subst, ℕ, ◌≡◌}
use Rattle.std.specs.Prelude.{All}
use Rattle.std.specs.Global.{Vec}
use Rattle.std.proofs.lemmas.List.{take_all}
use Rattle.std.proofs.lemmas.List.Elements.{All-map, All-more}
use Rattle.ds_explore.proofs.Telling.{differs}
use Rattle.ds_explore.proofs.exploration.is_new.Goals as goal

pub loop-other-preserved : goal.loop-other-preserved
loop-other-preserved c =
    All-more (λ (other : Vec ℕ). other.items ≡ c.args.key.now → ⊥) c.args.keys.now c.loop-other.other-index c.other-item.result c.loop-other-test.true c.loop-other.invariant
    (subst (λ (other : Vec ℕ). other.items ≡ c.args.key.now → ⊥) c.other-item.is (λ same. differs c.as_slice.result.now c.other-item.result.items c.args.key.now c.as_slice.ensures.value (c.if-eq.ensures) same))

pub returns : goal.returns
returns c = λ yes.
    All-map (λ (other : List ℕ). other ≡ c.args.key.now → ⊥) (λ (v : Vec ℕ). v.items) c.args.keys.now
    (subst (λ (keys : List (Vec ℕ)). All (λ (other : Vec ℕ). other.items ≡ c.args.key.now → ⊥) keys) (take_all c.loop-other.other-index c.args.keys.now c.loop-other-test.false) c.loop-other.invariant)
