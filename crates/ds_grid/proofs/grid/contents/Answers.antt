use Rattle.std.proofs.Common.{List, ℕ, ◌+◌, refl, ◌≡◌, ap, ◌∙◌, sym, map, subst, length, ◌++◌, ◌∷◌, [], arith}
use Rattle.csv.specs.Records.{fields_of}
use Rattle.ds_formula.specs.declared.content.Content.{Content}
use Rattle.ds_grid.specs.declared.ending.GridEnd.{GridEnd}
use Rattle.ds_grid.specs.Grids.{AreRead, FailsAt}
use Rattle.ds_grid.specs.Labels.{held_text}
use Rattle.ds_grid.proofs.Fields.{read_more, first_fault}
use Rattle.ds_grid.proofs.grid.contents.Goals as goal
use Rattle.ds_grid.proofs.grid.contents.Goals.{in-NoMemory, in_default}

pushed_length : (xs : List Content) (x : Content) → length (xs ++ x ∷ []) ≡ length xs + 1
pushed_length [] x = refl
pushed_length (y ∷ xs) x = let k = pushed_length xs x in omega arith

pub returns-in-Err-clause-fails : goal.returns-in-Err-clause-fails
returns-in-Err-clause-fails c = elim c.match-fault.branch [
  | in-NoMemory w ↦ subst (λ (e : GridEnd). FailsAt c.args.form c.args.shape.now (map fields_of c.args.records.now) e) (sym w.result-is) tt
  | in_default w ↦ subst (λ (e : GridEnd). FailsAt c.args.form c.args.shape.now (map fields_of c.args.records.now) e) (sym w.result-is)
      (first_fault c.args.form c.args.shape.now (map fields_of c.args.records.now) c.loop-index.contents.items c.loop-index.index c.cell-cell.result c.held_text-text.result.now c.in-Err.fault c.loop-index.invariant.read c.loop-index.invariant.all
      c.cell-cell.ensures.back c.cell-cell.ensures.inside (c.held_text-text.ensures ∙ ap (λ (t : List ℕ). held_text c.args.form t) c.field.ensures) c.in-Err.ensures w.in_default.not-NoMemory)
]

pub loop-index-preserved : goal.loop-index-preserved
loop-index-preserved c =
    let items : c.push.new.self.items ≡ c.loop-index.contents.items ++ c.in-Ok.content ∷ [] = c.in_ok-push-in-Ok.ensures.items in
    let all : length c.loop-index.contents.items ≡ c.loop-index.index = c.loop-index.invariant.all in
    record {
      read = subst (λ (xs : List Content). AreRead c.args.form c.args.shape.now (map fields_of c.args.records.now) xs) (sym items)
          (read_more c.args.form c.args.shape.now (map fields_of c.args.records.now) c.loop-index.contents.items c.in-Ok.content c.loop-index.index c.cell-cell.result c.held_text-text.result.now c.loop-index.invariant.read all
          c.cell-cell.ensures.value (c.held_text-text.ensures ∙ ap (λ (t : List ℕ). held_text c.args.form t) c.field.ensures) c.in-Ok.ensures);
      all = ap length items ∙ pushed_length c.loop-index.contents.items c.in-Ok.content ∙ ap (λ n. n + 1) all;
    }
