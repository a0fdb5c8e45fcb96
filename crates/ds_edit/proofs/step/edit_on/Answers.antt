use Rattle.std.proofs.Common.{ℕ, ◌≡◌, ◌<◌, ◌++◌, List, arith, refl, ap, sym, ◌∙◌, subst, get_or}
use Rattle.std.specs.Prelude.{Option, None, vec_capacity}
use Rattle.std.proofs.lemmas.List.{get_or_default}
use Rattle.ds_layout.specs.SheetMemory.{PerformsAt, memory}
use Rattle.ds_state.specs.Edits.{PlainEditCall}
use Rattle.ds_state.specs.Value.{first_rest, WorldValue, IsReserved}
use Rattle.ds_state.specs.World.{PlainEdit, PlainIssue, edit_of}
use Rattle.ds_state.specs.declared.stage.Stage.{Stage}
use Rattle.ds_state.specs.declared.stage.Outcome.{Outcome}
use Rattle.ds_state.specs.declared.situation.Situation.TheVariants.{Idle, Editing}
use Rattle.ds_edit.specs.EditSteps.{access_at}
use Rattle.ds_edit.specs.EditTakes.{IsEditing, StepsBy, after, after_by, counted_at, counted_by, done_at, done_by, done_with, effect_at, open_edit_at, open_edit_by, outcome_by, turn_at}
use Rattle.ds_state.specs.EditEndings.{outcome_at}
use Rattle.ds_edit.specs.declared.machine.Effect.{Effect}
use Rattle.ds_edit.proofs.Effects.{after_same, counted_same, open_edit_same, outcome_same, counts_swaps}
use Rattle.ds_state.specs.declared.answer.EditEnd.{EditEnd}
use Rattle.ds_state.specs.declared.turn.Turn.{Turn}
use Rattle.ds_edit.proofs.Driving.{perform_at, next, next_is, next_kept, next_room, next_takes, open_edit_there}
use Rattle.ds_state.proofs.Dones.{few_done}
use Rattle.ds_edit.proofs.step.edit_on.Goals as goal

pub perform-word-requires : goal.perform-word-requires
perform-word-requires c =
    let v : WorldValue = record { sheet = c.world.inside.words; situations = c.world.inside.situations.items; counted = c.world.inside.counted.items; open_edits = c.world.inside.open_edits.items; done = c.world.inside.done; settled = c.world.inside.settled; reports = c.world.inside.reports } in
    let p : ℕ = c.args.process in
    let e : PlainEditCall = c.requires.0 in
    let at : IsEditing v p e = subst (λ (w : WorldValue). IsEditing w p e) (sym c.world.view_is) c.requires.1 in
    let stage : c.args.stage ≡ e.stage = c.requires.2 in
    rw c.requires.3 (perform_at v c.world.invariant.good p e at)

pub count-requires : goal.count-requires
count-requires c =
    let v : WorldValue = record { sheet = c.world.inside.words; situations = c.world.inside.situations.items; counted = c.world.inside.counted.items; open_edits = c.world.inside.open_edits.items; done = c.world.inside.done; settled = c.world.inside.settled; reports = c.world.inside.reports } in
    let p : ℕ = c.args.process in
    let e : PlainEditCall = c.requires.0 in
    let at : IsEditing v p e = subst (λ (w : WorldValue). IsEditing w p e) (sym c.world.view_is) c.requires.1 in
    let stage : c.args.stage ≡ e.stage = c.requires.2 in
    let word : ℕ = c.perform-word.result in
    let performs : PerformsAt (access_at e e.stage) p (memory v.sheet) (memory c.perform-word.new.self) word = rw (← c.requires.3) c.perform-word.ensures.performs in
    let what : c.effect_of-what.result ≡ effect_at e.stage word = c.effect_of-what.ensures ∙ ap (λ (s : Stage). effect_at s word) stage in
    λ is.
    let won = counts_swaps e.stage word (sym what ∙ is) in
    next_room v c.world.invariant.good p e at word c.perform-word.new.self c.perform-word.ensures.layout performs
    _ won.0 c.world.invariant.reserved won.1 won.2

pub done_after-world-inside-requires : goal.done_after-world-inside-requires
done_after-world-inside-requires c =
    let v : WorldValue = record { sheet = c.world.inside.words; situations = c.world.inside.situations.items; counted = c.world.inside.counted.items; open_edits = c.world.inside.open_edits.items; done = c.world.inside.done; settled = c.world.inside.settled; reports = c.world.inside.reports } in
    let p : ℕ = c.args.process in
    let e : PlainEditCall = c.requires.0 in
    let at : IsEditing v p e = subst (λ (w : WorldValue). IsEditing w p e) (sym c.world.view_is) c.requires.1 in
    let stage : c.args.stage ≡ e.stage = c.requires.2 in
    few_done v c.world.invariant.good

pub invariant_of-world : goal.invariant_of-world
invariant_of-world c =
    let v : WorldValue = record { sheet = c.world.inside.words; situations = c.world.inside.situations.items; counted = c.world.inside.counted.items; open_edits = c.world.inside.open_edits.items; done = c.world.inside.done; settled = c.world.inside.settled; reports = c.world.inside.reports } in
    let p : ℕ = c.args.process in
    let e : PlainEditCall = c.requires.0 in
    let at : IsEditing v p e = subst (λ (w : WorldValue). IsEditing w p e) (sym c.world.view_is) c.requires.1 in
    let stage : c.args.stage ≡ e.stage = c.requires.2 in
    let word : ℕ = c.perform-word.result in
    let performs : PerformsAt (access_at e e.stage) p (memory v.sheet) (memory c.perform-word.new.self) word = rw (← c.requires.3) c.perform-word.ensures.performs in
    let there : p < _ = open_edit_there v c.world.invariant.good p e at in
    let what : c.effect_of-what.result ≡ effect_at e.stage word = c.effect_of-what.ensures ∙ ap (λ (s : Stage). effect_at s word) stage in
    let situation : c.go_on.new.situation ≡ after e e.stage word = c.go_on.ensures e (c.index_mut.ensures.value ∙ get_or_default v.situations p c.index_mut.result.now (Idle first_rest) at.there ∙ at.is) ∙ ap (λ (x : Effect). after_by e word x) what ∙ after_same e e.stage word refl in
    let counted : c.count.new.counted.items ≡ v.counted ++ counted_at (edit_of e) e.stage word = c.count.ensures.items e (c.index.ensures ∙ get_or_default v.situations p c.index.result.now (Idle first_rest) at.there ∙ at.is) ∙ ap (λ (x : Effect). v.counted ++ counted_by (edit_of e) x) what ∙ ap (λ (es : List PlainEdit). v.counted ++ es) (counted_same (edit_of e) e.stage word) in
    let open_edit : c.close.new.open_edit ≡ open_edit_at (get_or v.open_edits p None) e.stage = c.close.ensures ∙ ap (λ (i : Option PlainIssue). open_edit_by i c.effect_of-what.result) (c.index_mut-2.ensures.value ∙ get_or_default v.open_edits p c.index_mut-2.result.now None there) ∙ ap (λ (x : Effect). open_edit_by (get_or v.open_edits p None) x) what ∙ open_edit_same (get_or v.open_edits p None) e.stage word in
    let done : c.done_after-world-inside.result ≡ done_at v.done e.stage = c.done_after-world-inside.ensures ∙ ap (λ (x : Effect). done_by v.done x) what ∙ ap (λ (o : Option Outcome). done_with v.done o) (outcome_same e.stage word) in
    subst (λ (w : WorldValue). IsReserved w (vec_capacity c.count.new.counted)) (sym (next_is v c.world.invariant.good p e at word c.perform-word.new.self c.perform-word.ensures.layout performs c.go_on.new.situation c.count.new.counted.items c.close.new.open_edit c.done_after-world-inside.result situation counted open_edit done))
    (next_kept v c.world.invariant.good p e at word c.perform-word.new.self c.perform-word.ensures.layout performs _ _ c.world.invariant.reserved (omega arith))

pub returns : goal.returns
returns c =
    let v : WorldValue = record { sheet = c.world.inside.words; situations = c.world.inside.situations.items; counted = c.world.inside.counted.items; open_edits = c.world.inside.open_edits.items; done = c.world.inside.done; settled = c.world.inside.settled; reports = c.world.inside.reports } in
    let p : ℕ = c.args.process in
    let e : PlainEditCall = c.requires.0 in
    let at : IsEditing v p e = subst (λ (w : WorldValue). IsEditing w p e) (sym c.world.view_is) c.requires.1 in
    let stage : c.args.stage ≡ e.stage = c.requires.2 in
    let word : ℕ = c.perform-word.result in
    let performs : PerformsAt (access_at e e.stage) p (memory v.sheet) (memory c.perform-word.new.self) word = rw (← c.requires.3) c.perform-word.ensures.performs in
    let there : p < _ = open_edit_there v c.world.invariant.good p e at in
    let what : c.effect_of-what.result ≡ effect_at e.stage word = c.effect_of-what.ensures ∙ ap (λ (s : Stage). effect_at s word) stage in
    let situation : c.go_on.new.situation ≡ after e e.stage word = c.go_on.ensures e (c.index_mut.ensures.value ∙ get_or_default v.situations p c.index_mut.result.now (Idle first_rest) at.there ∙ at.is) ∙ ap (λ (x : Effect). after_by e word x) what ∙ after_same e e.stage word refl in
    let counted : c.count.new.counted.items ≡ v.counted ++ counted_at (edit_of e) e.stage word = c.count.ensures.items e (c.index.ensures ∙ get_or_default v.situations p c.index.result.now (Idle first_rest) at.there ∙ at.is) ∙ ap (λ (x : Effect). v.counted ++ counted_by (edit_of e) x) what ∙ ap (λ (es : List PlainEdit). v.counted ++ es) (counted_same (edit_of e) e.stage word) in
    let open_edit : c.close.new.open_edit ≡ open_edit_at (get_or v.open_edits p None) e.stage = c.close.ensures ∙ ap (λ (i : Option PlainIssue). open_edit_by i c.effect_of-what.result) (c.index_mut-2.ensures.value ∙ get_or_default v.open_edits p c.index_mut-2.result.now None there) ∙ ap (λ (x : Effect). open_edit_by (get_or v.open_edits p None) x) what ∙ open_edit_same (get_or v.open_edits p None) e.stage word in
    let done : c.done_after-world-inside.result ≡ done_at v.done e.stage = c.done_after-world-inside.ensures ∙ ap (λ (x : Effect). done_by v.done x) what ∙ ap (λ (o : Option Outcome). done_with v.done o) (outcome_same e.stage word) in
    let outcome : outcome_by c.effect_of-what.result ≡ outcome_at c.args.stage = ap (λ (x : Effect). outcome_by x) c.effect_of-what.ensures ∙ outcome_same c.args.stage word in
    record {
      takes = λ f is.
          let same : e ≡ f = (let both : Editing e ≡ Editing f = sym c.requires.1.is ∙ is.is in cc) in
          let turn : turn_at v.sheet.layout.processes e.number e.stage ≡ turn_at v.sheet.layout.processes f.number c.args.stage =
          ap (λ (x : PlainEditCall). turn_at v.sheet.layout.processes x.number e.stage) same ∙ ap (λ (s : Stage). turn_at v.sheet.layout.processes f.number s) (sym stage) in
          rw (← c.world.view_is)
          (subst (λ (w : WorldValue). StepsBy v p (turn_at v.sheet.layout.processes f.number c.args.stage) w) (sym (next_is v c.world.invariant.good p e at word c.perform-word.new.self c.perform-word.ensures.layout performs c.go_on.new.situation c.count.new.counted.items c.close.new.open_edit c.done_after-world-inside.result situation counted open_edit done))
          (subst (λ (x : Turn EditEnd). StepsBy v p x (next v c.world.invariant.good p e at word c.perform-word.new.self c.perform-word.ensures.layout performs)) turn
          (next_takes v c.world.invariant.good p e at word c.perform-word.new.self c.perform-word.ensures.layout performs)));
      outcome = outcome;
    }
