use Rattle.std.proofs.Common.{ℕ, ◌≡◌, ◌<◌, ◌∙◌, length, ap, arith}
use Rattle.std.proofs.lemmas.List.{get_or_default}
use Rattle.ds_eval.specs.Inputs.{entry_in}
use Rattle.ds_eval.specs.Local.{local}
use Rattle.ds_layout.specs.declared.layout.Layout.{Layout}
use Rattle.ds_state.specs.Works.{PlainWorkCall}
use Rattle.ds_state.specs.Value.{WorldValue, world_of}
use Rattle.ds_state.specs.declared.situation.Situation.TheVariants.{Idle, Working}
use Rattle.ds_work.specs.WorkSteps.{offered}
use Rattle.ds_work.proofs.Driving.{situation_at, is_offered, offered_kept}
use Rattle.ds_work.proofs.offer.offer_own.Goals as goal
use Rattle.ds_state.specs.Value.{first_rest}

pub invariant_of-world : goal.invariant_of-world
invariant_of-world c =
    let v : WorldValue = record { sheet = c.world.inside.words; situations = c.world.inside.situations.items; counted = c.world.inside.counted.items; open_edits = c.world.inside.open_edits.items; done = c.world.inside.done; settled = c.world.inside.settled; reports = c.world.inside.reports } in
    let p : ℕ = c.args.process in
    let low : p < v.sheet.layout.processes = (let n = c.world.invariant.good.situations in let len = c.len.ensures in let lt = c.if-process-len.false in omega (arith, n, len, lt)) in
    let waits = c.in-Some.ensures.waits in
    let e : PlainWorkCall = waits.0 in
    let works : (world_of v).situation p ≡ Working e = situation_at v p c.index.result.now c.world.invariant.good low c.index.ensures ∙ waits.1 in
    let there : p < length v.situations = (let n = c.world.invariant.good.situations in omega (arith, n, low)) in
    let is : c.in-Some.entry ≡ local v.sheet.layout.shape e.content (entry_in e.inputs) = c.in-Some.ensures.value e waits.1 ∙ ap (λ (l : Layout). local l.shape e.content (entry_in e.inputs)) c.layout.ensures in
    let situation : c.accept.new.situation ≡ Working (offered e c.in-Some.entry) = c.accept.ensures e (c.index_mut.ensures.value ∙ get_or_default v.situations p c.index_mut.result.now (Idle first_rest) there ∙ works) in
    rw situation (offered_kept v c.world.invariant.good p e low works c.in-Some.entry waits.2 is _ c.world.invariant)

pub returns-clause-offered : goal.returns-clause-offered
returns-clause-offered c = λ yes.
    let v : WorldValue = record { sheet = c.world.inside.words; situations = c.world.inside.situations.items; counted = c.world.inside.counted.items; open_edits = c.world.inside.open_edits.items; done = c.world.inside.done; settled = c.world.inside.settled; reports = c.world.inside.reports } in
    let p : ℕ = c.args.process in
    let low : p < v.sheet.layout.processes = (let n = c.world.invariant.good.situations in let len = c.len.ensures in let lt = c.if-process-len.false in omega (arith, n, len, lt)) in
    let waits = c.in-Some.ensures.waits in
    let e : PlainWorkCall = waits.0 in
    let works : (world_of v).situation p ≡ Working e = situation_at v p c.index.result.now c.world.invariant.good low c.index.ensures ∙ waits.1 in
    let there : p < length v.situations = (let n = c.world.invariant.good.situations in omega (arith, n, low)) in
    let is : c.in-Some.entry ≡ local v.sheet.layout.shape e.content (entry_in e.inputs) = c.in-Some.ensures.value e waits.1 ∙ ap (λ (l : Layout). local l.shape e.content (entry_in e.inputs)) c.layout.ensures in
    let situation : c.accept.new.situation ≡ Working (offered e c.in-Some.entry) = c.accept.ensures e (c.index_mut.ensures.value ∙ get_or_default v.situations p c.index_mut.result.now (Idle first_rest) there ∙ works) in
    (c.in-Some.entry, rw (← c.world.view_is, situation) (is_offered v c.world.invariant.good p e low works c.in-Some.entry waits.2 is))
