-- Tasks with equal parts are equal.
use Rattle.std.proofs.Common.{◌≡◌, ℕ, List, ap, subst, ◌∙◌}
use Rattle.std.proofs.Props.{props}
use Rattle.ds_formula.specs.Shapes.{MayHave}
use Rattle.ds_formula.specs.declared.cells.Shape.{Shape}
use Rattle.ds_formula.specs.declared.cells.Cell.{Cell}
use Rattle.ds_formula.specs.Plain.{PlainContent}
use Rattle.ds_eval.specs.declared.inputs.Input.{Input}
use Rattle.ds_eval.specs.Tasks.{PlainTask}

abbrev pub task : ℕ → Cell → ℕ → Shape → PlainContent → List Input → PlainTask
task p c g s k i = record { process = p; cell = c; generation = g; shape = s; content = k; inputs = i }

-- tasks with equal parts are equal
pub task_same : {p q : ℕ} {c d : Cell} {g h : ℕ} {s t : Shape} {k l : PlainContent} {i j : List Input} → p ≡ q → c ≡ d → g ≡ h → s ≡ t → k ≡ l → i ≡ j → task p c g s k i ≡ task q d h t l j
task_same {p} {q} {c} {d} {g} {h} {s} {t} {k} {l} {i} {j} e f m n o r =
    ap (λ (x : ℕ). task x c g s k i) e
    ∙ ap (λ (x : Cell). task q x g s k i) f
    ∙ ap (λ (x : ℕ). task q d x s k i) m
    ∙ ap (λ (x : Shape). task q d h x k i) n
    ∙ ap (λ (x : PlainContent). task q d h t x i) o
    ∙ ap (λ (x : List Input). task q d h t l x) r

may_have_prop : (columns rows : ℕ) → IsProp (MayHave columns rows)
may_have_prop columns rows = hlevel props

abbrev shape_of : (columns rows : ℕ) → MayHave columns rows → Shape
shape_of c r w = record { columns = c; rows = r; within = w }

-- shapes with as many columns and rows are equal
pub shape_same : (s t : Shape) → s.columns ≡ t.columns → s.rows ≡ t.rows → s ≡ t
shape_same s t p q =
    let first : (w : MayHave s.columns s.rows) → s ≡ shape_of s.columns s.rows w = λ w. ap (shape_of s.columns s.rows) (may_have_prop s.columns s.rows s.within w) in
    let second = subst (λ (c : ℕ). (w : MayHave c s.rows) → s ≡ shape_of c s.rows w) p first in
    let third = subst (λ (r : ℕ). (w : MayHave t.columns r) → s ≡ shape_of t.columns r w) q second in
    third t.within
