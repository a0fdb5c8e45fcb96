use Rattle.std.proofs.Common.{ℕ, ◌≡◌, ◌<◌, ◌∙◌, length, sym, subst, arith}
use Rattle.std.proofs.lemmas.List.{get_or_default}
use Rattle.ds_layout.specs.SheetMemory.{CanPerform, memory}
use Rattle.ds_state.specs.Works.{PlainWorkCall}
use Rattle.ds_state.specs.Value.{WorldValue, world_of, first_rest}
use Rattle.ds_state.specs.declared.situation.Situation.TheVariants.{Idle, Working}
use Rattle.ds_work.specs.WorkSteps.{access_at, after}
use Rattle.ds_work.specs.WorkTakes.{GoesBy, IsIn, steps}
use Rattle.ds_work.proofs.Driving.{mine, perform_at, steps_at, step_kept, steps_plain, steps_not_answer, steps_after}
use Rattle.ds_work.proofs.drive.step_on.Goals as goal

pub go_on-requires : goal.go_on-requires
go_on-requires c = λ f is.
    let v : WorldValue = record { sheet = c.world.inside.words; situations = c.world.inside.situations.items; counted = c.world.inside.counted.items; open_edits = c.world.inside.open_edits.items; done = c.world.inside.done; settled = c.world.inside.settled; reports = c.world.inside.reports } in
    let p : ℕ = c.args.process in
    let e : PlainWorkCall = c.requires.0 in
    let is_in : IsIn (world_of v) p e = subst (λ (w : WorldValue). IsIn (world_of w) p e) (sym c.world.view_is) c.requires.1 in
    let there : p < length v.situations = (let n = c.world.invariant.good.situations in let low = is_in.inside in omega (arith, n, low)) in
    let works : Working f ≡ Working e = sym is ∙ c.index_mut.ensures.value ∙ get_or_default v.situations p c.index_mut.result.now (Idle first_rest) there ∙ is_in.works in
    let same : f ≡ e = cc in
    subst (λ (x : PlainWorkCall). CanPerform v.sheet.layout (memory v.sheet) p (access_at v.sheet.layout.shape x x.stage)) (sym same) (perform_at v c.world.invariant.good p e is_in.inside is_in.works)

pub invariant_of-world : goal.invariant_of-world
invariant_of-world c =
    let v : WorldValue = record { sheet = c.world.inside.words; situations = c.world.inside.situations.items; counted = c.world.inside.counted.items; open_edits = c.world.inside.open_edits.items; done = c.world.inside.done; settled = c.world.inside.settled; reports = c.world.inside.reports } in
    let p : ℕ = c.args.process in
    let e : PlainWorkCall = c.requires.0 in
    let is_in : IsIn (world_of v) p e = subst (λ (w : WorldValue). IsIn (world_of w) p e) (sym c.world.view_is) c.requires.1 in
    let low : p < v.sheet.layout.processes = is_in.inside in
    let there : p < length v.situations = (let n = c.world.invariant.good.situations in omega (arith, n, low)) in
    let turn = c.requires.2 in
    let goes : GoesBy e p v.sheet c.go_on.new.words c.go_on.new.situation = c.go_on.ensures e (c.index_mut.ensures.value ∙ get_or_default v.situations p c.index_mut.result.now (Idle first_rest) there ∙ is_in.works) in
    let situation : c.go_on.new.situation ≡ after e e.stage goes.word = goes.goes ∙ steps_after e e.stage goes.word turn in
    step_kept v c.world.invariant.good p e low is_in.works goes.word c.go_on.new.words goes.layout goes.performs c.go_on.new.situation situation (steps_plain e.stage turn) _ c.world.invariant

pub returns-clause-takes : goal.returns-clause-takes
returns-clause-takes c =
    let v : WorldValue = record { sheet = c.world.inside.words; situations = c.world.inside.situations.items; counted = c.world.inside.counted.items; open_edits = c.world.inside.open_edits.items; done = c.world.inside.done; settled = c.world.inside.settled; reports = c.world.inside.reports } in
    let p : ℕ = c.args.process in
    let e : PlainWorkCall = c.requires.0 in
    let is_in : IsIn (world_of v) p e = subst (λ (w : WorldValue). IsIn (world_of w) p e) (sym c.world.view_is) c.requires.1 in
    let low : p < v.sheet.layout.processes = is_in.inside in
    let there : p < length v.situations = (let n = c.world.invariant.good.situations in omega (arith, n, low)) in
    let turn = c.requires.2 in
    let goes : GoesBy e p v.sheet c.go_on.new.words c.go_on.new.situation = c.go_on.ensures e (c.index_mut.ensures.value ∙ get_or_default v.situations p c.index_mut.result.now (Idle first_rest) there ∙ is_in.works) in
    let situation : c.go_on.new.situation ≡ after e e.stage goes.word = goes.goes ∙ steps_after e e.stage goes.word turn in
    rw (← c.world.view_is) (record {
      inside = low;
      work = e;
      mine = mine v c.world.invariant.good p e low is_in.works;
      works = is_in.works;
      is = is_in.is;
      turn = steps goes.word (steps_at v c.world.invariant.good p e low is_in.works goes.word c.go_on.new.words goes.layout goes.performs c.go_on.new.situation situation (steps_plain e.stage turn)) (steps_not_answer e.stage turn);
    })
