-- What a step of an edit leaves all others, and what its beginning does.
use Rattle.std.proofs.Common.{ℕ, ◌≡◌, ◌<◌, List, [], ◌∷◌, refl, ap, sym, ◌∙◌, subst, arith, inl, inr, true, false, zero, suc}
use Rattle.std.specs.Prelude.{Contains, Bool, if◌then◌else◌}
use Rattle.std.proofs.lemmas.List.Elements.{Contains-append_cases}
use Rattle.ds_state.specs.Edits.{PlainEditCall, IsEdit}
use Rattle.ds_state.specs.Works.{PlainShowCall}
use Rattle.ds_state.specs.World.{PlainEdit, PlainWorld, edit_of}
use Rattle.ds_state.specs.CallsFit.{IsSheetOf, HasRefs}
use Rattle.ds_state.specs.Leaves.{Leaves}
use Rattle.ds_state.specs.Sound.{IsSound}
use Rattle.ds_state.specs.declared.stage.Stage.{Stage}
use Rattle.ds_state.specs.declared.stage.Stage.TheVariants.{Swap, Answer}
use Rattle.ds_state.specs.declared.situation.Situation.TheVariants.{Editing, Showing}
use Rattle.ds_state.proofs.Leaves.{leaves_of, leaves_same, middles_left}
use Rattle.ds_state.proofs.Spent.{swap_law}
use Rattle.ds_edit.specs.EditSteps.{wins}
use Rattle.ds_edit.specs.EditTakes.{Steps, Begins, after, counted_at}
use Rattle.ds_edit.proofs.Answering.{begin_sound}
use Rattle.ds_edit.proofs.Sound.{step_sound}

-- it is no show
no_show : (e : PlainEditCall) (s : Stage) (word : ℕ) (f : PlainShowCall) → after e s word ≡ Showing f → ⊥
no_show e (Answer how) word f is = cc
no_show e s word f is = cc

nothing : (d : PlainEdit) → Contains [] d → ⊥
nothing d h = omega (arith, h.1)

one_of : (b : Bool) (c d : PlainEdit) → Contains (if b then c ∷ [] else []) d → c ≡ d
one_of true c d (zero, lt, is) = is
one_of true c d (suc k, lt, is) = absurd (omega (arith, lt))
one_of false c d h = absurd (nothing d h)

-- what is linearized by a step is the edit, at its swap
record IsSwapped (e : PlainEditCall) (s : Stage) (d : PlainEdit) : Type 0 where
  noted : ℕ
  at : s ≡ Swap noted
  is : edit_of e ≡ d

swapped : (e : PlainEditCall) (s : Stage) (word : ℕ) (d : PlainEdit) → Contains (counted_at (edit_of e) s word) d → IsSwapped e s d
swapped e (Swap noted) word d h = record { noted = noted; at = refl; is = one_of (wins noted word) (edit_of e) d h }
swapped e s word d h = absurd (nothing d h)

-- what a step of an edit leaves is what a process's doing leaves
pub edit_leaves : (e : PlainEditCall) (word : ℕ) (old new : PlainWorld) → IsSound old → e.process < old.layout.processes → old.situation e.process ≡ Editing e → Steps e word old new → Leaves e.process old new
edit_leaves e word old new sound real was t =
    let k = step_sound e word old new sound real was t in
    leaves_of e.process old new k
    (λ d here. elim (Contains-append_cases old.counted (counted_at (edit_of e) e.stage word) d (subst (λ (es : List PlainEdit). Contains es d) t.counted here)) [
      | inl before ↦ inl before
      | inr added ↦ (
          let s : IsSwapped e e.stage d = swapped e e.stage word d added in
          inr (sym (ap (λ (x : PlainEdit). x.process) s.is), λ n spent. subst (λ (x : PlainEdit). n < x.number) s.is (swap_law old e s.noted n sound real was s.at spent)))
    ])
    (middles_left e.process old new k (λ f is. no_show e e.stage word f (sym t.situation ∙ is)))

-- what the begin of an edit leaves is what a process's doing leaves
pub begin_leaves : (e : PlainEditCall) (old new : PlainWorld) → IsSound old → IsEdit e → IsSheetOf old.layout e → HasRefs old.layout.shape e.text e.refs → Begins e old new → Leaves e.process old new
begin_leaves e old new sound is sheet refs b =
    let k = begin_sound e old new sound is sheet refs b in
    leaves_same e.process old new k b.counted (middles_left e.process old new k (λ f now. let both : Editing e ≡ Showing f = sym b.situation ∙ now in cc))
