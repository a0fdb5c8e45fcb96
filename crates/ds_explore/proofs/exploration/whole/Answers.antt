use Rattle.std.proofs.Common.{List, ◌∙◌, subst, sym, ℕ}
use Rattle.std.specs.Global.{Vec}
use Rattle.ds_explore.specs.declared.exploration.Outcome.{Outcome}
use Rattle.ds_explore.specs.Explored.{AreOutcomes}
use Rattle.ds_explore.specs.Judging.{texts_of}
use Rattle.ds_explore.specs.Whole.{GoesThrough, IsCut}
use Rattle.ds_explore.proofs.Going.{exploration_cut, exploration_whole}
use Rattle.ds_explore.proofs.exploration.whole.Goals as goal

pub returns-then-found : goal.returns-then-found
returns-then-found c = λ options begins.
    exploration_cut c.args.script.now options c.args.start.now (texts_of c.in_ok-all.all.keys.items) c.in_ok-cut.field-0 begins
    (subst (λ (v : Vec Outcome). AreOutcomes c.args.script.now c.args.start.now (texts_of c.in_ok-all.all.keys.items) v.items) (sym c.in_ok-cut.ensures.outcomes) c.in_ok-all.ensures) c.in_ok-cut.ensures.cut.0 c.in_ok-cut.ensures.cut.1
    (subst (λ (keys : List (Vec ℕ)). IsCut c.args.start.now (texts_of keys) c.in_ok-cut.field-0) c.deref.ensures.value c.in_ok-cut.ensures.found)
    (λ yes. c.in_ok-is_endless.ensures (sym c.in_ok-cut.ensures.endless ∙ yes))

pub returns : goal.returns
returns c = λ options begins.
    exploration_whole c.args.script.now options c.args.start.now (texts_of c.in_ok-all.all.keys.items) c.in_ok-gone_through.field-0 begins
    (subst (λ (v : Vec Outcome). AreOutcomes c.args.script.now c.args.start.now (texts_of c.in_ok-all.all.keys.items) v.items) (sym c.in_ok-gone_through.ensures.outcomes) c.in_ok-all.ensures) c.in_ok-gone_through.ensures.through.0
    (subst (λ (keys : List (Vec ℕ)). GoesThrough c.args.start.now (texts_of keys) c.in_ok-gone_through.field-0) c.deref-2.ensures.value c.in_ok-gone_through.ensures.through.1)
    (λ yes. c.in_ok-is_endless.ensures (sym c.in_ok-gone_through.ensures.endless ∙ yes))
