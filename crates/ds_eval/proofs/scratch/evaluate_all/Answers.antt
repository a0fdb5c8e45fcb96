use Rattle.std.proofs.Common.{arith, ◌≡◌, ◌∙◌, ◌+◌, ◌||◌, Bool, true, false, ap, refl, subst, sym}
use Rattle.ds_formula.specs.Plain.{PlainContent}
use Rattle.ds_eval.specs.Inputs.{entry_in, PlainInputs}
use Rattle.ds_eval.specs.Local.{local}
use Rattle.ds_eval.specs.SheetContents.{contents_of}
use Rattle.ds_eval.specs.declared.inputs.Input.{Input}
use Rattle.std.proofs.Common.{List}
use Rattle.ds_eval.proofs.Rounds.{IsRound, round_goes_on, round_done, round_unchanged, content_at}
use Rattle.ds_eval.proofs.scratch.evaluate_all.Goals as goal

neither : (a b : Bool) → (a || b) ≡ false → (a ≡ false) × (b ≡ false)
neither true b e = absurd cc
neither false b e = (refl, e)

pub loop-k-preserved : goal.loop-k-preserved
loop-k-preserved c =
    let sheet = c.args.sheet.now in
    let k = c.loop-k.k in
    let h = content_at sheet k c.index.result.now (omega (arith, sheet.whole, c.count-k-end.ensures.value)) c.index.ensures in
    let e = c.local-entry.ensures ∙ ap (λ (p : PlainContent). local sheet.shape p (entry_in c.loop-k.table.items)) h in
    subst (λ (xs : List Input). IsRound sheet.shape (contents_of sheet) c.args.table.now.items xs (k + 1) (c.loop-k.changed || c.set-differs.result))
    (sym (ap (λ (p : PlainInputs). p.items) c.set-differs.ensures.after))
    (round_goes_on sheet.shape (contents_of sheet) c.args.table.now.items c.loop-k.table.items k c.loop-k.changed c.set-differs.result (c.loop-k.changed || c.set-differs.result) c.local-entry.result
    (omega (arith, c.count-k-end.ensures.value)) c.loop-k.invariant e c.set-differs.ensures.unchanged (neither c.loop-k.changed c.set-differs.result))

pub returns-clause-rounds : goal.returns-clause-rounds
returns-clause-rounds c =
    round_done c.args.sheet.now.shape (contents_of c.args.sheet.now) c.args.table.now.items c.loop-k.table.items c.loop-k.k c.loop-k.changed (omega (arith, c.count-k-end.ensures.value)) c.loop-k.invariant

pub returns-clause-unchanged : goal.returns-clause-unchanged
returns-clause-unchanged c =
    round_unchanged c.args.sheet.now.shape (contents_of c.args.sheet.now) c.args.table.now.items c.loop-k.table.items c.loop-k.k c.loop-k.changed (omega (arith, c.count-k-end.ensures.value)) c.loop-k.invariant
