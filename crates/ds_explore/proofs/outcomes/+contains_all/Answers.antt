use Rattle.std.proofs.Common.{List, ℕ, arith, ◌≡◌, ◌-◌, drop, length, subst, take}
use Rattle.std.specs.Global.{Vec}
use Rattle.std.specs.Prelude.{◌↔◌, All, IsTrue}
use Rattle.std.proofs.lemmas.List.{length-drop, take_all}
use Rattle.ds_explore.specs.Judging.{IsPart, texts_of}
use Rattle.ds_explore.proofs.Telling.{part_of, parts_more}
use Rattle.ds_explore.proofs.outcomes.+contains_all.Goals as goal

pub returns-then-contains : goal.returns-then-contains
returns-then-contains t c =
    let parts = c.args.parts.now in
    let long = length-drop 1 parts in
    let e : take (length parts - 1) (drop 1 parts) ≡ drop 1 parts = take_all (length parts - 1) (drop 1 parts) (omega (arith, long)) in
    parts_more c.args.text.now parts c.first-item.result c.contains_all.result c.in-len1-up.len_at_least c.first-item.is
    (part_of c.args.text.now c.deref.result.now c.first-item.result.items c.deref.ensures.value (c.contains.ensures.0 c.if-contains.true))
    (subst (λ (l : List (Vec ℕ)). IsTrue c.contains_all.result ↔ All (IsPart c.args.text.now) (texts_of l)) e c.contains_all.ensures)
