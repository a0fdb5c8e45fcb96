use Rattle.std.proofs.Common.{ℕ, ◌≡◌, ◌<◌, ◌∙◌, length, refl, ap, sym, subst, arith}
use Rattle.ds_layout.specs.SheetMemory.{PerformsAt, memory}
use Rattle.ds_state.specs.Works.{PlainWorkCall}
use Rattle.ds_state.specs.Value.{WorldValue, world_of}
use Rattle.ds_state.specs.declared.situation.Situation.TheVariants.{Idle}
use Rattle.ds_state.specs.declared.work.WorkStage.{WorkStage}
use Rattle.ds_state.specs.declared.work.WorkStage.TheVariants.{Answer}
use Rattle.ds_work.specs.WorkSteps.{access_at, after, IsPlainStep, StepsAt}
use Rattle.ds_work.specs.WorkTakes.{IsIn, answers}
use Rattle.ds_work.proofs.Driving.{put, mine, steps_at, step_kept, answers_at}
use Rattle.ds_work.proofs.drive.close.Goals as goal
use Rattle.ds_state.specs.declared.situation.Rest.{Rest}

pub invariant_of-world : goal.invariant_of-world
invariant_of-world c =
    let v : WorldValue = record { sheet = c.world.inside.words; situations = c.world.inside.situations.items; counted = c.world.inside.counted.items; open_edits = c.world.inside.open_edits.items; done = c.world.inside.done; settled = c.world.inside.settled; reports = c.world.inside.reports } in
    let p : ℕ = c.args.process in
    let e : PlainWorkCall = c.requires.0 in
    let is_in : IsIn (world_of v) p e = subst (λ (w : WorldValue). IsIn (world_of w) p e) (sym c.world.view_is) c.requires.1 in
    let low : p < v.sheet.layout.processes = is_in.inside in
    let there : p < length v.situations = (let n = c.world.invariant.good.situations in omega (arith, n, low)) in
    let at_answer : e.stage ≡ Answer c.args.end = answers_at e.stage c.args.end c.requires.2 in
    let performs : PerformsAt (access_at v.sheet.layout.shape e e.stage) p (memory v.sheet) (memory v.sheet) 0 =
    subst (λ (s : WorkStage). PerformsAt (access_at v.sheet.layout.shape e s) p (memory v.sheet) (memory v.sheet) 0) (sym at_answer) (refl, record { cached = λ r. refl; persisted = λ r. refl; buffer = λ q. refl }) in
    let situation : Idle c.args.next ≡ after e e.stage 0 = ap (λ (n : Rest). Idle n) (sym c.requires.3) ∙ ap (λ (s : WorkStage). after e s 0) (sym at_answer) in
    let plain : IsPlainStep e.stage = subst (λ (s : WorkStage). IsPlainStep s) (sym at_answer) tt in
    rw c.exchange-ended.ensures.items (step_kept v c.world.invariant.good p e low is_in.works 0 v.sheet refl performs (Idle c.args.next) situation plain _ c.world.invariant)

pub returns-clause-takes : goal.returns-clause-takes
returns-clause-takes c =
    let v : WorldValue = record { sheet = c.world.inside.words; situations = c.world.inside.situations.items; counted = c.world.inside.counted.items; open_edits = c.world.inside.open_edits.items; done = c.world.inside.done; settled = c.world.inside.settled; reports = c.world.inside.reports } in
    let p : ℕ = c.args.process in
    let e : PlainWorkCall = c.requires.0 in
    let is_in : IsIn (world_of v) p e = subst (λ (w : WorldValue). IsIn (world_of w) p e) (sym c.world.view_is) c.requires.1 in
    let low : p < v.sheet.layout.processes = is_in.inside in
    let there : p < length v.situations = (let n = c.world.invariant.good.situations in omega (arith, n, low)) in
    let at_answer : e.stage ≡ Answer c.args.end = answers_at e.stage c.args.end c.requires.2 in
    let performs : PerformsAt (access_at v.sheet.layout.shape e e.stage) p (memory v.sheet) (memory v.sheet) 0 =
    subst (λ (s : WorkStage). PerformsAt (access_at v.sheet.layout.shape e s) p (memory v.sheet) (memory v.sheet) 0) (sym at_answer) (refl, record { cached = λ r. refl; persisted = λ r. refl; buffer = λ q. refl }) in
    let situation : Idle c.args.next ≡ after e e.stage 0 = ap (λ (n : Rest). Idle n) (sym c.requires.3) ∙ ap (λ (s : WorkStage). after e s 0) (sym at_answer) in
    let plain : IsPlainStep e.stage = subst (λ (s : WorkStage). IsPlainStep s) (sym at_answer) tt in
    rw (← c.world.view_is, c.exchange-ended.ensures.items) (record {
      inside = low;
      work = e;
      mine = mine v c.world.invariant.good p e low is_in.works;
      works = is_in.works;
      is = is_in.is;
      turn = answers c.args.end at_answer (subst (λ (s : WorkStage). StepsAt e s 0 (world_of v) (world_of (put v p v.sheet (Idle c.args.next)))) at_answer (steps_at v c.world.invariant.good p e low is_in.works 0 v.sheet refl performs (Idle c.args.next) situation plain));
    })
