use Rattle.std.proofs.Common.{◌≡◌, ◌<◌, ℕ, List, Some, map}
use Rattle.csv.specs.Reading.{Reached, Ready, default_config, source_of, strip_bom, reader_config, reader_state, reader_trim}
use Rattle.csv.specs.Records.{fields_of}
use Rattle.csv.specs.declared.parser.State.TheVariants as state
use Rattle.csv.specs.declared.reader.Trim.TheVariants as trim
use Rattle.ds_grid.proofs.grid.records.Given as goal

abbrev pub invariant-loop-row : goal.invariant-loop-row
invariant-loop-row l = record {
  trims : reader_trim l.row-iterator.rdr ≡ trim.None;
  ready : Ready l.row-iterator.rdr;
  left : 0 < l.row-iterator.left;
  config : reader_config l.row-iterator.rdr ≡ default_config;
  rest : List ℕ;
  source : source_of (λ s. Some s.now) l.row-iterator.rdr ≡ Some rest;
  reached : Reached default_config state.StartRecord (strip_bom l.fn.text) (map fields_of l.rows.items) (reader_state l.row-iterator.rdr) rest;
}
