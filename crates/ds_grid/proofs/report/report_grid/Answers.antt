use Rattle.std.proofs.Common.{ℕ, sym, subst, List, [], inl}
use Rattle.ds_script_io.proofs.Known.{Appends-none}
use Rattle.ds_script_io.specs.declared.input.InputEnd.{InputEnd}
use Rattle.ds_grid.specs.Grids.{Ran, Fails}
use Rattle.ds_grid.proofs.Fields.{ran_of}
use Rattle.ds_grid.proofs.report.report_grid.Goals as goal

pub returns-clause-outcome : goal.returns-clause-outcome
returns-clause-outcome g c = λ no_failure. (
  c.in-Ok.input.bytes.items,
  [],
  c.in-Ok.ensures.bytes,
  Appends-none _,
  inl (record {
    end = c.in-Ok.input.end;
    ends_with = c.in-Ok.ensures.end;
    ran = subst (λ (e : InputEnd). Ran c.args.form e c.in-Ok.input.bytes.items [] c.in-Err.end) (sym c.in-Ended.is)
        (ran_of c.args.form c.in-Ok.input.bytes.items c.in-Err.end (subst (λ (bytes : List ℕ). Fails c.args.form bytes c.in-Err.end) c.deref.ensures.value c.in-Err.ensures.fails));
  }),
)
