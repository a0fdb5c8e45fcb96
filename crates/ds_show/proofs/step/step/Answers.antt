use Rattle.std.proofs.Common.{ℕ, ◌≡◌, ◌+◌, arith, ap, sym, ◌∙◌, subst}
use Rattle.ds_state.specs.declared.turn.Turn.{Turn}
use Rattle.ds_state.specs.declared.show.ShowEnd.{ShowEnd}
use Rattle.std.specs.Prelude.{vec_capacity}
use Rattle.std.proofs.lemmas.List.{get_or_default}
use Rattle.ds_layout.specs.SheetMemory.{PerformsAt, memory}
use Rattle.ds_state.specs.Works.{PlainShowCall}
use Rattle.ds_state.specs.Value.{WorldValue, IsReserved}
use Rattle.ds_state.specs.declared.situation.Situation.TheVariants.{Idle}
use Rattle.ds_show.specs.ShowSteps.{access_at, after, effect_at}
use Rattle.ds_show.specs.ShowTakes.{settled_by, StepsBy}
use Rattle.ds_show.proofs.ShowGood.{IsShowing, showing_from, perform_at, can_count, next_is, next_kept, next_takes}
use Rattle.ds_show.proofs.step.step.Goals as goal
use Rattle.ds_state.specs.Value.{first_rest}

pub perform-word-requires : goal.perform-word-requires
perform-word-requires c =
    let v : WorldValue = record { sheet = c.world.inside.words; situations = c.world.inside.situations.items; counted = c.world.inside.counted.items; open_edits = c.world.inside.open_edits.items; done = c.world.inside.done; settled = c.world.inside.settled; reports = c.world.inside.reports } in
    let e : PlainShowCall = c.in-Some.call.now in
    let at : IsShowing v c.args.process e = showing_from v c.args.process e c.index.result.now (omega arith) c.index.ensures c.in-Some.ensures.some in
    rw c.want-access.ensures (perform_at v c.world.invariant.good c.args.process e at)

pub settled_after-world-inside-requires : goal.settled_after-world-inside-requires
settled_after-world-inside-requires c =
    let v : WorldValue = record { sheet = c.world.inside.words; situations = c.world.inside.situations.items; counted = c.world.inside.counted.items; open_edits = c.world.inside.open_edits.items; done = c.world.inside.done; settled = c.world.inside.settled; reports = c.world.inside.reports } in
    let e : PlainShowCall = c.in-Some.call.now in
    let at : IsShowing v c.args.process e = showing_from v c.args.process e c.index.result.now (omega arith) c.index.ensures c.in-Some.ensures.some in
    can_count v c.world.invariant.good c.args.process e at

pub invariant_of-world : goal.invariant_of-world
invariant_of-world c =
    let v : WorldValue = record { sheet = c.world.inside.words; situations = c.world.inside.situations.items; counted = c.world.inside.counted.items; open_edits = c.world.inside.open_edits.items; done = c.world.inside.done; settled = c.world.inside.settled; reports = c.world.inside.reports } in
    let p : ℕ = c.args.process in
    let e : PlainShowCall = c.in-Some.call.now in
    let word : ℕ = c.perform-word.result in
    let at : IsShowing v p e = showing_from v p e c.index.result.now (omega arith) c.index.ensures c.in-Some.ensures.some in
    let performs : PerformsAt (access_at e.stage) p (memory v.sheet) (memory c.perform-word.new.self) word = rw (sym c.want-access.ensures) c.perform-word.ensures.performs in
    let situation : c.go_on.new.situation ≡ after e e.stage word = c.go_on.ensures e (c.index_mut.ensures.value ∙ get_or_default v.situations p c.index_mut.result.now (Idle first_rest) at.there ∙ at.is) in
    let settled : c.settled_after-world-inside.result ≡ v.settled + settled_by (effect_at e.stage) = c.settled_after-world-inside.ensures ∙ ap (λ (w : Turn ShowEnd). v.settled + settled_by w) c.effect_of-what.ensures in
    subst (λ (w : WorldValue). IsReserved w (vec_capacity c.world.inside.counted)) (sym (next_is v c.world.invariant.good p e at word c.perform-word.new.self c.perform-word.ensures.layout performs c.go_on.new.situation c.settled_after-world-inside.result c.keep.new.reports situation settled c.keep.ensures))
    (next_kept v c.world.invariant.good p e at word c.perform-word.new.self c.perform-word.ensures.layout performs _ c.world.invariant)

pub returns : goal.returns
returns c =
    let v : WorldValue = record { sheet = c.world.inside.words; situations = c.world.inside.situations.items; counted = c.world.inside.counted.items; open_edits = c.world.inside.open_edits.items; done = c.world.inside.done; settled = c.world.inside.settled; reports = c.world.inside.reports } in
    let p : ℕ = c.args.process in
    let e : PlainShowCall = c.in-Some.call.now in
    let word : ℕ = c.perform-word.result in
    let at : IsShowing v p e = showing_from v p e c.index.result.now (omega arith) c.index.ensures c.in-Some.ensures.some in
    let performs : PerformsAt (access_at e.stage) p (memory v.sheet) (memory c.perform-word.new.self) word = rw (sym c.want-access.ensures) c.perform-word.ensures.performs in
    let situation : c.go_on.new.situation ≡ after e e.stage word = c.go_on.ensures e (c.index_mut.ensures.value ∙ get_or_default v.situations p c.index_mut.result.now (Idle first_rest) at.there ∙ at.is) in
    let settled : c.settled_after-world-inside.result ≡ v.settled + settled_by (effect_at e.stage) = c.settled_after-world-inside.ensures ∙ ap (λ (w : Turn ShowEnd). v.settled + settled_by w) c.effect_of-what.ensures in
    rw (← c.world.view_is)
    (subst (λ (w : WorldValue). StepsBy v p c.effect_of-what.result w) (sym (next_is v c.world.invariant.good p e at word c.perform-word.new.self c.perform-word.ensures.layout performs c.go_on.new.situation c.settled_after-world-inside.result c.keep.new.reports situation settled c.keep.ensures))
    (next_takes v c.world.invariant.good p e at word c.perform-word.new.self c.perform-word.ensures.layout performs c.effect_of-what.result c.effect_of-what.ensures))
