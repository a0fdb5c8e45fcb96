use Rattle.std.proofs.Common.{◌≤◌, ℕ, arith, sym, subst}
use Rattle.ds_words.specs.declared.words.Word.{Word}
use Rattle.pm_explore.specs.Lists.{IsAt}
use Rattle.pm_explore.specs.declared.position.Told.{Told}
use Rattle.pm_explore.proofs.Closing.{at_in, more_below}
use Rattle.pm_explore.proofs.Lists.{at_one}
use Rattle.test_pm_explore.proofs.marks.is_up_for_good.Goals as goal

pub loop-i-preserved : goal.loop-i-preserved
loop-i-preserved c = more_below (λ k. (t : Told ℕ) → IsAt c.args.x.now.told.items k t → (w : Word) × IsAt c.args.x.now.cells.words.items 0 w × (t.response ≤ w.persisted)) c.loop-i.i c.loop-i.invariant
    (λ t there. subst (λ (z : Told ℕ). (w : Word) × IsAt c.args.x.now.cells.words.items 0 w × (z.response ≤ w.persisted)) (at_one c.args.x.now.told.items c.loop-i.i c.index.result.now t (record { low = there.low; is = sym c.index.ensures }) there) (rw c.deref.ensures.value at (c.is_up-up.ensures c.if-not-up.false)))

pub returns : goal.returns
returns c = λ _ t inside. let r = at_in c.args.x.now.told.items t inside in let low = r.1.low in c.loop-i.invariant r.0 (omega (arith, low, c.loop-i-test.false, c.len-i-end.ensures, c.args.x.now.told.ok.0)) t r.1
