use Rattle.std.proofs.Common.{ℕ, ◌≡◌, ◌<◌, ◌∙◌, length, sym, subst, arith}
use Rattle.std.proofs.lemmas.List.{get_or_default}
use Rattle.ds_layout.specs.declared.layout.Layout.{Layout}
use Rattle.ds_state.specs.Works.{PlainWorkCall}
use Rattle.ds_state.specs.Value.{WorldValue, world_of}
use Rattle.ds_state.specs.declared.situation.Situation.TheVariants.{Idle}
use Rattle.ds_state.specs.declared.work.WorkStage.TheVariants.{Read}
use Rattle.ds_work.specs.Reading.{IsReading}
use Rattle.ds_work.specs.WorkTakes.{IsIn}
use Rattle.ds_work.proofs.Driving.{read_takes, read_kept, reads_at}
use Rattle.ds_work.proofs.drive.read_on.Goals as goal
use Rattle.ds_state.specs.Value.{first_rest}

pub invariant_of-world : goal.invariant_of-world
invariant_of-world c =
    let v : WorldValue = record { sheet = c.world.inside.words; situations = c.world.inside.situations.items; counted = c.world.inside.counted.items; open_edits = c.world.inside.open_edits.items; done = c.world.inside.done; settled = c.world.inside.settled; reports = c.world.inside.reports } in
    let p : ℕ = c.args.process in
    let e : PlainWorkCall = c.requires.0 in
    let is_in : IsIn (world_of v) p e = subst (λ (w : WorldValue). IsIn (world_of w) p e) (sym c.world.view_is) c.requires.1 in
    let low : p < v.sheet.layout.processes = is_in.inside in
    let there : p < length v.situations = (let n = c.world.invariant.good.situations in omega (arith, n, low)) in
    let at_read : e.stage ≡ Read = reads_at e.stage c.requires.2 in
    let out = c.read.ensures e (c.index_mut.ensures.value ∙ get_or_default v.situations p c.index_mut.result.now (Idle first_rest) there ∙ is_in.works) in
    let f : PlainWorkCall = out.0 in
    let reading : IsReading v.sheet.layout.shape e f = subst (λ (l : Layout). IsReading l.shape e f) c.layout.ensures out.2 in
    rw out.1 (read_kept v c.world.invariant.good p e low is_in.works f at_read reading _ c.world.invariant)

pub returns-clause-takes : goal.returns-clause-takes
returns-clause-takes c =
    let v : WorldValue = record { sheet = c.world.inside.words; situations = c.world.inside.situations.items; counted = c.world.inside.counted.items; open_edits = c.world.inside.open_edits.items; done = c.world.inside.done; settled = c.world.inside.settled; reports = c.world.inside.reports } in
    let p : ℕ = c.args.process in
    let e : PlainWorkCall = c.requires.0 in
    let is_in : IsIn (world_of v) p e = subst (λ (w : WorldValue). IsIn (world_of w) p e) (sym c.world.view_is) c.requires.1 in
    let low : p < v.sheet.layout.processes = is_in.inside in
    let there : p < length v.situations = (let n = c.world.invariant.good.situations in omega (arith, n, low)) in
    let at_read : e.stage ≡ Read = reads_at e.stage c.requires.2 in
    let out = c.read.ensures e (c.index_mut.ensures.value ∙ get_or_default v.situations p c.index_mut.result.now (Idle first_rest) there ∙ is_in.works) in
    let f : PlainWorkCall = out.0 in
    let reading : IsReading v.sheet.layout.shape e f = subst (λ (l : Layout). IsReading l.shape e f) c.layout.ensures out.2 in
    rw (← c.world.view_is, out.1) (read_takes v c.world.invariant.good p e low is_in.works f at_read is_in.is reading)
