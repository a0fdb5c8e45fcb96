use Rattle.std.proofs.Common.{ℕ, ◌≡◌, arith, sym, ◌∙◌, subst}
use Rattle.std.specs.Prelude.{vec_capacity}
use Rattle.std.proofs.lemmas.List.{get_or_default}
use Rattle.ds_layout.specs.SheetMemory.{PerformsAt, memory}
use Rattle.ds_state.specs.Works.{PlainMigrateCall}
use Rattle.ds_state.specs.Value.{WorldValue, first_rest, IsReserved}
use Rattle.ds_state.specs.declared.situation.Situation.TheVariants.{Idle}
use Rattle.ds_recover.specs.MigrationSteps.{access_at, after}
use Rattle.ds_recover.specs.MigrationTakes.{StepsBy}
use Rattle.ds_recover.proofs.MigrationGood.{IsMoved, moved_from, perform_at, next_is, next_kept, next_takes}
use Rattle.ds_recover.proofs.migrate_step.step.Goals as goal

pub perform-word-requires : goal.perform-word-requires
perform-word-requires c =
    let v : WorldValue = record { sheet = c.world.inside.words; situations = c.world.inside.situations.items; counted = c.world.inside.counted.items; open_edits = c.world.inside.open_edits.items; done = c.world.inside.done; settled = c.world.inside.settled; reports = c.world.inside.reports } in
    let e : PlainMigrateCall = c.in-Some.call.now in
    let at : IsMoved v c.args.process e = moved_from v c.args.process e c.index.result.now (omega arith) c.index.ensures c.in-Some.ensures.some in
    rw c.want-access.ensures (perform_at v c.world.invariant.good c.args.process e at)

pub invariant_of-world : goal.invariant_of-world
invariant_of-world c =
    let v : WorldValue = record { sheet = c.world.inside.words; situations = c.world.inside.situations.items; counted = c.world.inside.counted.items; open_edits = c.world.inside.open_edits.items; done = c.world.inside.done; settled = c.world.inside.settled; reports = c.world.inside.reports } in
    let p : ℕ = c.args.process in
    let e : PlainMigrateCall = c.in-Some.call.now in
    let word : ℕ = c.perform-word.result in
    let at : IsMoved v p e = moved_from v p e c.index.result.now (omega arith) c.index.ensures c.in-Some.ensures.some in
    let performs : PerformsAt (access_at e e.stage) p (memory v.sheet) (memory c.perform-word.new.self) word = rw (sym c.want-access.ensures) c.perform-word.ensures.performs in
    let situation : c.go_on.new.situation ≡ after e e.stage word = c.go_on.ensures e (c.index_mut.ensures.value ∙ get_or_default v.situations p c.index_mut.result.now (Idle first_rest) at.there ∙ at.is) in
    subst (λ (w : WorldValue). IsReserved w (vec_capacity c.world.inside.counted)) (sym (next_is v c.world.invariant.good p e at word c.perform-word.new.self c.perform-word.ensures.layout performs c.go_on.new.situation situation))
    (next_kept v c.world.invariant.good p e at word c.perform-word.new.self c.perform-word.ensures.layout performs _ c.world.invariant)

pub returns : goal.returns
returns c =
    let v : WorldValue = record { sheet = c.world.inside.words; situations = c.world.inside.situations.items; counted = c.world.inside.counted.items; open_edits = c.world.inside.open_edits.items; done = c.world.inside.done; settled = c.world.inside.settled; reports = c.world.inside.reports } in
    let p : ℕ = c.args.process in
    let e : PlainMigrateCall = c.in-Some.call.now in
    let word : ℕ = c.perform-word.result in
    let at : IsMoved v p e = moved_from v p e c.index.result.now (omega arith) c.index.ensures c.in-Some.ensures.some in
    let performs : PerformsAt (access_at e e.stage) p (memory v.sheet) (memory c.perform-word.new.self) word = rw (sym c.want-access.ensures) c.perform-word.ensures.performs in
    let situation : c.go_on.new.situation ≡ after e e.stage word = c.go_on.ensures e (c.index_mut.ensures.value ∙ get_or_default v.situations p c.index_mut.result.now (Idle first_rest) at.there ∙ at.is) in
    rw (← c.world.view_is)
    (subst (λ (w : WorldValue). StepsBy v p c.effect_of-what.result w) (sym (next_is v c.world.invariant.good p e at word c.perform-word.new.self c.perform-word.ensures.layout performs c.go_on.new.situation situation))
    (next_takes v c.world.invariant.good p e at word c.perform-word.new.self c.perform-word.ensures.layout performs c.effect_of-what.result c.effect_of-what.ensures))
