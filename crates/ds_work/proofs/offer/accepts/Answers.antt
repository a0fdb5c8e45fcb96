use Rattle.std.proofs.Common.{ℕ, ◌≡◌, ◌<◌, ◌∙◌, length, get_or, refl, ap, sym, subst, arith}
use Rattle.std.proofs.lemmas.List.{get_or_default}
use Rattle.ds_eval.specs.Inputs.{entry_in}
use Rattle.ds_eval.specs.Local.{local}
use Rattle.ds_eval.specs.Tasks.{PlainTask, local_of}
use Rattle.ds_state.specs.Works.{PlainWorkCall}
use Rattle.ds_state.specs.Value.{WorldValue, world_of}
use Rattle.ds_state.specs.declared.situation.Situation.TheVariants.{Idle, Working}
use Rattle.ds_work.specs.WorkSteps.{offered}
use Rattle.ds_work.specs.WorkTakes.{WaitsFor}
use Rattle.ds_work.proofs.Driving.{is_offered, offered_kept}
use Rattle.ds_work.proofs.offer.accepts.Goals as goal
use Rattle.ds_state.specs.Value.{first_rest}

pub invariant_of-world : goal.invariant_of-world
invariant_of-world c =
    let v : WorldValue = record { sheet = c.world.inside.words; situations = c.world.inside.situations.items; counted = c.world.inside.counted.items; open_edits = c.world.inside.open_edits.items; done = c.world.inside.done; settled = c.world.inside.settled; reports = c.world.inside.reports } in
    let task : PlainTask = c.args.evaluated.now.task in
    let p : ℕ = task.process in
    let for : WaitsFor (world_of v) task = subst (λ (w : WorldValue). WaitsFor (world_of w) task) (sym c.world.view_is) (subst (λ (t : PlainTask). WaitsFor (world_of c.args.world.now) t) c.task.ensures (c.if-not-waits_for.ensures.yes refl)) in
    let e : PlainWorkCall = for.work in
    let low : p < v.sheet.layout.processes = for.waits.inside in
    let works : (world_of v).situation p ≡ Working e = for.waits.works in
    let there : p < length v.situations = (let n = c.world.invariant.good.situations in omega (arith, n, low)) in
    let process : c.behind-evaluated.inside.process ≡ p = ap (λ (x : PlainTask). x.process) (c.behind-evaluated.view_is ∙ c.task-2.ensures) in
    let is : c.entry-entry.result ≡ local v.sheet.layout.shape e.content (entry_in e.inputs) = c.entry-entry.ensures.local ∙ ap (λ (x : PlainTask). local_of x) for.is in
    let situation : c.accept.new.situation ≡ Working (offered e c.entry-entry.result) = c.accept.ensures e (c.index_mut.ensures.value ∙ ap (λ (q : ℕ). get_or v.situations q c.index_mut.result.now) process ∙ get_or_default v.situations p c.index_mut.result.now (Idle first_rest) there ∙ works) in
    rw (process, situation) (offered_kept v c.world.invariant.good p e low works c.entry-entry.result for.waits.waits is _ c.world.invariant)

pub returns-clause-offered : goal.returns-clause-offered
returns-clause-offered c =
    let v : WorldValue = record { sheet = c.world.inside.words; situations = c.world.inside.situations.items; counted = c.world.inside.counted.items; open_edits = c.world.inside.open_edits.items; done = c.world.inside.done; settled = c.world.inside.settled; reports = c.world.inside.reports } in
    let task : PlainTask = c.args.evaluated.now.task in
    let p : ℕ = task.process in
    let for : WaitsFor (world_of v) task = subst (λ (w : WorldValue). WaitsFor (world_of w) task) (sym c.world.view_is) (subst (λ (t : PlainTask). WaitsFor (world_of c.args.world.now) t) c.task.ensures (c.if-not-waits_for.ensures.yes refl)) in
    let e : PlainWorkCall = for.work in
    let low : p < v.sheet.layout.processes = for.waits.inside in
    let works : (world_of v).situation p ≡ Working e = for.waits.works in
    let there : p < length v.situations = (let n = c.world.invariant.good.situations in omega (arith, n, low)) in
    let process : c.behind-evaluated.inside.process ≡ p = ap (λ (x : PlainTask). x.process) (c.behind-evaluated.view_is ∙ c.task-2.ensures) in
    let is : c.entry-entry.result ≡ local v.sheet.layout.shape e.content (entry_in e.inputs) = c.entry-entry.ensures.local ∙ ap (λ (x : PlainTask). local_of x) for.is in
    let situation : c.accept.new.situation ≡ Working (offered e c.entry-entry.result) = c.accept.ensures e (c.index_mut.ensures.value ∙ ap (λ (q : ℕ). get_or v.situations q c.index_mut.result.now) process ∙ get_or_default v.situations p c.index_mut.result.now (Idle first_rest) there ∙ works) in
    λ yes. rw (← c.world.view_is, process, situation, ← c.entry-entry.ensures.value) (is_offered v c.world.invariant.good p e low works c.entry-entry.result for.waits.waits is)
