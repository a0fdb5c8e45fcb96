use Rattle.std.proofs.Common.{inl}
use Rattle.ds_script_io.proofs.Known.{Appends-Keeps}
use Rattle.ds_script.proofs.script.run_within.Goals as goal

pub returns-in-Ok-flush-clause-outcome : goal.returns-in-Ok-flush-clause-outcome
returns-in-Ok-flush-clause-outcome g c = λ ne.
    let w = c.run_input-end.ensures.writes ne in (
      c.in-Ok.input.bytes.items,
      w.0,
      c.in-Ok.ensures.bytes,
      Appends-Keeps _ _ _ w.0 w.1 c.flush.ensures.bytes,
      inl (record { end = c.in-Ok.input.end; ends_with = c.in-Ok.ensures.end; writes = w.2 }),
    )
