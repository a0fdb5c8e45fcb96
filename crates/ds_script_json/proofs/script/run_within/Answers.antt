use Rattle.std.proofs.Common.{inl}
use Rattle.ds_script_io.proofs.Known.{Appends-Keeps}
use Rattle.ds_script.specs.Script.{is_whole}
use Rattle.ds_script_json.proofs.script.run_within.Goals as goal

pub returns-in-Ok-flush-clause-outcome : goal.returns-in-Ok-flush-clause-outcome
returns-in-Ok-flush-clause-outcome g c = λ ne.
    let w = c.run_input-end.ensures.writes ne in (
      c.in-Ok.input.bytes.items,
      w.0,
      w.1,
      is_whole c.in-Ok.input.end,
      c.in-Ok.ensures.bytes,
      Appends-Keeps _ _ _ w.1 w.2 c.flush.ensures.bytes,
      inl (record { end = c.in-Ok.input.end; ends_with = c.in-Ok.ensures.end; writes = w.3 }),
      w.4,
    )
