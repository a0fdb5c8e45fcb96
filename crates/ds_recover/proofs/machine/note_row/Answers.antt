use Rattle.std.proofs.Common.{◌≡◌, ◌+◌, ◌++◌, ◌∷◌, [], ap, ◌∙◌, subst, refl, arith, length-append}
use Rattle.ds_state.specs.Works.{PlainRecoverCall}
use Rattle.ds_state.specs.RecoverStages.{IsStage}
use Rattle.ds_state.specs.declared.recovery.RecoverStage.{RecoverStage}
use Rattle.ds_state.specs.declared.recovery.RecoverStage.TheVariants.{Telling}
use Rattle.ds_state.specs.declared.spread.Spread.TheVariants.{LoadRow}
use Rattle.ds_recover.proofs.RecoveryReads.{row_stage, staged}
use Rattle.ds_recover.proofs.machine.note_row.Goals as goal

pub invariant_of-call : goal.invariant_of-call
invariant_of-call c =
    let i = c.call.inside in
    let e : PlainRecoverCall = record { process = i.process; edition = i.edition; cells = i.cells; processes = i.processes; mark = i.mark; row = i.row; announcement = i.announcement; cell = i.cell; stage = i.stage } in
    let f : PlainRecoverCall = record e { row = i.row ++ c.args.word ∷ [] } in
    let at : e.stage ≡ Telling c.args.cell (LoadRow c.args.part) = ap (λ (x : PlainRecoverCall). x.stage) c.call.view_is ∙ c.requires in
    let was : IsStage e (Telling c.args.cell (LoadRow c.args.part)) = subst (λ (s : RecoverStage). IsStage e s) at c.call.invariant.stage in
    rw (c.row_from-call-inside.ensures, c.as_slice.ensures, c.push.ensures)
    (staged e _ c.call.invariant refl refl refl (row_stage f c.args.cell (c.args.part + 1) was.0 (let l = was.1.0 in omega arith) (let l = was.1.1 in omega (arith, length-append i.row (c.args.word ∷ [])))))
