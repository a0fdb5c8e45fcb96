use Rattle.std.proofs.Common.{◌≡◌, ◌⊎◌, ℕ, inl, inr, map, subst, ⊎_elim}
use Rattle.std.specs.String.{string_bytes}
use Rattle.ds_a1.specs.declared.notation.Notation.TheVariants.{A1}
use Rattle.ds_a1_script.specs.declared.lines.Commands.TheVariants.{OfScript}
use Rattle.ds_batch.specs.Openings.{HasNoText, HaveRefused}
use Rattle.ds_batch.proofs.Openings.{if_err, refused_here}
use Rattle.ds_batch.proofs.lines.lines_from_a1.Goals as goal

pub returns-in_err-open-clause-status : goal.returns-in_err-open-clause-status
returns-in_err-open-clause-status g c =
    if_err (λ (status : ℕ). (status ≡ 4) ⊎ ((status ≡ 1) × HaveRefused A1 (map string_bytes c.args.lines.now))) c.from_residual.result c.in_err-open.field-0.0 c.from_residual.ensures.1
    (⊎_elim inl
    (λ one. inr (one.0, refused_here c.args.lines.now c.loop-line.line-index c.line-item.result c.loop-line-test.true c.line-item.is (subst (HasNoText OfScript) c.deref.ensures one.1)))
    c.in_err-open.ensures.status)
