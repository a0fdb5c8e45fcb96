use Rattle.std.proofs.Common.{ℕ, ◌+◌, [], sym, subst, arith, take, get_or, refl, List}
use Rattle.std.proofs.lemmas.List.{take_more, take_all}
use Rattle.pm_explore.specs.Closed.{RunsBy}
use Rattle.pm_explore.specs.declared.setting.Move.{Move}
use Rattle.pm_explore.specs.declared.setting.Move.TheVariants.{Begin}
use Rattle.pm_explore.specs.Positions.{Point, Shows}
use Rattle.pm_explore.proofs.Closing.{not_begun, last_of}
use Rattle.pm_explore.proofs.schedule.replay.Goals as goal

pub loop-i-init : goal.loop-i-init
loop-i-init g c = λ first last start run.
    subst (λ (z : Point _ _ g.P.Explored.structure.Hidden). Shows c.args.setting.now.window.items c.in-To.start z) (sym (not_begun g.P.Explored.structure c.args.setting.now first last [] run refl)) ((rw c.in-To.is at c.in_ok-start.ensures) first start)

pub loop-i-preserved : goal.loop-i-preserved
loop-i-preserved g c = λ first last start run.
    let sch : List Move = c.args.schedule.now in
    let i : ℕ = c.loop-i.i in
    let l = last_of g.P.Explored.structure c.args.setting.now first last (take (i + 1) sch) (take i sch) (get_or sch i (Begin 0)) run (take_more sch i (Begin 0) (omega (arith, c.loop-i-test.true))) in
    (rw c.in-To-came.is at c.in_ok-came.ensures) l.point last l.says (c.loop-i.invariant first l.point start l.run) l.passes

pub returns : goal.returns
returns g c = λ first last start run. c.loop-i.invariant first last start (subst (λ (z : List Move). RunsBy g.P.Explored.structure c.args.setting.now first z last) (sym (take_all c.loop-i.i c.args.schedule.now (omega (arith, c.loop-i-test.false)))) run)
