-- Work marks only the cells of its row, and says truly whether its entry differs.
use Rattle.std.proofs.Common.{◌≡◌, refl, subst, true, false}
use Rattle.ds_formula.specs.declared.cells.Shape.{Shape}
use Rattle.ds_state.specs.Works.{PlainWorkCall, IsWork, IsSame, Differs, TellsFits}
use Rattle.ds_state.specs.declared.work.WorkStage.{WorkStage}
use Rattle.ds_state.specs.declared.work.WorkStage.TheVariants.{Clear, Telling}
use Rattle.ds_state.specs.declared.spread.Spread.TheVariants.{OrTold}
use Rattle.ds_work.specs.WorkSteps.{access_at}
use Rattle.ds_work.specs.WorkAnswers.{OrsOnly}

ors_at : (shape : Shape) (e : PlainWorkCall) (s : WorkStage) → TellsFits e s → OrsOnly e (access_at shape e s)
ors_at shape e (Telling (OrTold d)) told = (d, refl, refl, told.1)
ors_at shape e _ told = tt

-- an access of work adds bits to no word but marks of cells that its row has, and there the dirty bit alone
pub ors_only : (shape : Shape) (e : PlainWorkCall) → IsWork e → OrsOnly e (access_at shape e e.stage)
ors_only shape e h = ors_at shape e e.stage h.told

-- a work that lets its cell go as changed has found words that are not those of its entry
pub changed_differs : (e : PlainWorkCall) → IsWork e → e.stage ≡ Clear true → Differs e
changed_differs e h is = subst (λ (s : WorkStage). TellsFits e s) is h.told

-- a work that lets its cell go as unchanged has found the words of its entry
pub unchanged_same : (e : PlainWorkCall) → IsWork e → e.stage ≡ Clear false → IsSame e
unchanged_same e h is = subst (λ (s : WorkStage). TellsFits e s) is h.told
