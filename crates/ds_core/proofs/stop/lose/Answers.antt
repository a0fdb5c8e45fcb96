use Rattle.std.proofs.Common.{◌≡◌, List, length, refl, sym, ◌∙◌, subst, arith}
use Rattle.ds_layout.specs.SheetMemory.{memory}
use Rattle.ds_state.specs.World.{PlainEdit}
use Rattle.ds_core.specs.StopEvents.{HasHeadPlace}
use Rattle.ds_core.proofs.Lost.{IsSifted, sifted_first, sifted_out, sifted_in, sifted_last, sifted_at}
use Rattle.ds_core.proofs.stop.lose.Goals as goal
use Rattle.ds_core.proofs.stop.lose.Goals.{then-not-is_lost, else-not-is_lost}

pub loop-i-init : goal.loop-i-init
loop-i-init c = (sifted_first (memory c.args.words.now) c.args.counted.now.items, refl)

pub is_lost-requires : goal.is_lost-requires
is_lost-requires c =
    let h : IsSifted (memory c.args.words.now) c.args.counted.now.items c.loop-i.counted.items c.loop-i.i c.loop-i.kept = c.loop-i.invariant.0 in
    let size = h.size in
    let same = c.len-i-end.ensures in
    let lt = c.loop-i-test.true in
    sifted_at (memory c.args.words.now) c.args.counted.now.items c.loop-i.counted.items c.loop-i.i c.loop-i.kept (λ (e : PlainEdit). HasHeadPlace c.args.words.now.layout e) h c.requires c.index.result.now (omega arith) c.index.ensures

pub index_mut-requires : goal.index_mut-requires
index_mut-requires c = let h : IsSifted (memory c.args.words.now) c.args.counted.now.items c.loop-i.counted.items c.loop-i.i c.loop-i.kept = c.loop-i.invariant.0 in let f = h.fewer in let s = h.size in let same = c.len-i-end.ensures in let lt = c.loop-i-test.true in omega arith

pub overflow_add-kept : goal.overflow_add-kept
overflow_add-kept c = let h : IsSifted (memory c.args.words.now) c.args.counted.now.items c.loop-i.counted.items c.loop-i.i c.loop-i.kept = c.loop-i.invariant.0 in let f = h.fewer in let lt = c.loop-i-test.true in let fits = c.len-i-end.type_inv in omega arith

pub loop-i-preserved : goal.loop-i-preserved
loop-i-preserved c =
    let m = memory c.args.words.now in
    let old : List PlainEdit = c.args.counted.now.items in
    let h : IsSifted m old c.loop-i.counted.items c.loop-i.i c.loop-i.kept = c.loop-i.invariant.0 in
    let size = h.size in
    let same = c.len-i-end.ensures in
    let lt = c.loop-i-test.true in
    elim c.if-not-is_lost.branch [
      | then-not-is_lost w ↦ (
        rw (w.counted-is, w.kept-is) (sifted_in m old c.loop-i.counted.items c.loop-i.i c.loop-i.kept h c.index.result.now (omega arith) c.index.ensures (sym c.is_lost.ensures ∙ w.if-not-is_lost.true)),
        rw w.counted-is c.loop-i.invariant.1,
      )
      | else-not-is_lost w ↦ (
        rw (w.counted-is, w.kept-is) (sifted_out m old c.loop-i.counted.items c.loop-i.i c.loop-i.kept h c.index.result.now (omega arith) c.index.ensures (sym c.is_lost.ensures ∙ w.if-not-is_lost.false)),
        rw w.counted-is c.loop-i.invariant.1,
      )
    ]

pub returns : goal.returns
returns c =
    let m = memory c.args.words.now in
    let old : List PlainEdit = c.args.counted.now.items in
    let h : IsSifted m old c.loop-i.counted.items c.loop-i.i c.loop-i.kept = c.loop-i.invariant.0 in
    let all : c.loop-i.i ≡ length old = (let a = c.loop-i.auto.i-end in let b = c.loop-i-test.false in let s = c.len-i-end.ensures in omega arith) in
    record {
      items = c.truncate.ensures.items ∙ sifted_last m old c.loop-i.counted.items c.loop-i.kept (subst (λ n. IsSifted m old c.loop-i.counted.items n c.loop-i.kept) all h);
      capacity = c.truncate.ensures.capacity ∙ c.loop-i.invariant.1;
    }
