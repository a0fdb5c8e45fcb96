use Rattle.std.proofs.Common.{rules, ℕ, ◌≡◌, ◌+◌, refl, ap, ◌∙◌, subst}
use Rattle.ds_formula.specs.declared.cells.Cell.{Cell}
use Rattle.ds_formula.specs.Cells.{cell_at, count_of}
use Rattle.ds_layout.specs.declared.layout.Layout.{Layout}
use Rattle.ds_crew.specs.Trails.{Trail, GoesOver, HasTurned, none}
use Rattle.ds_crew.proofs.Trails.{over_one_more}
use Rattle.ds_crew.proofs.workers.round.Goals as goal

pub loop-index-init : goal.loop-index-init
loop-index-init g c = none

pub loop-index-preserved : goal.loop-index-preserved
loop-index-preserved g c =
    let n = c.loop-index.index in
    let cell : c.cell.result ≡ cell_at c.args.sheet.now.layout.shape n = c.cell.ensures.value ∙ ap (λ (l : Layout). cell_at l.shape n) c.layout.ensures in
    over_one_more (λ (index : ℕ) (old new : Trail). HasTurned c.args.process (cell_at c.args.sheet.now.layout.shape index) old new) c.args.trail.now c.loop-index.trail c.turn.new.trail n (n + 1) refl c.loop-index.invariant
    (subst (λ (here : Cell). HasTurned c.args.process here c.loop-index.trail c.turn.new.trail) cell c.turn.ensures)

pub returns : goal.returns
returns g c =
    let count : c.count-index-end.result ≡ count_of c.args.sheet.now.layout.shape = c.count-index-end.ensures.value ∙ ap (λ (l : Layout). count_of l.shape) c.layout.ensures in
    let end : c.loop-index.index ≡ c.count-index-end.result = search rules in
    subst (λ (n : ℕ). GoesOver (λ (index : ℕ) (old new : Trail). HasTurned c.args.process (cell_at c.args.sheet.now.layout.shape index) old new) c.args.trail.now n c.loop-index.trail) (end ∙ count) c.loop-index.invariant
