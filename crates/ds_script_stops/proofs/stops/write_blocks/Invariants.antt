use Rattle.std.proofs.Common.{ℕ, ◌≡◌, ◌≤◌, ◌+◌, List, length}
use Rattle.std.specs.Prelude.{IfSome}
use Rattle.std.specs.Io.KnownBytes.{Appends}
use Rattle.ds_script_io.specs.Streams.{writer_of, write_failed}
use Rattle.ds_script_stops.specs.StopBlocks.{Blocks}
use Rattle.ds_script.specs.ScriptTurns.{IsWithin}
use Rattle.ds_script_stops.specs.Reaching.{IsAt}
use Rattle.ds_script_stops.proofs.stops.write_blocks.Given as goal

abbrev pub invariant-loop-stops : goal.invariant-loop-stops
invariant-loop-stops g l = record {
  out : List ℕ;
  written : Appends (g.W.Write.contents (writer_of l.fn.writer)) (g.W.Write.contents (writer_of l.writer)) out;
  blocks : Blocks l.range l.whole l.script l.stops out;
  no_failure : write_failed l.writer ≡ write_failed l.fn.writer;
  at : IsAt l.whole l.script l.place l.world;
  taken : l.place.point.taken ≡ l.stops;
  within : IfSome l.place.left (IsWithin l.world);
  short : l.place.lines + length l.place.rest.now ≤ length l.script;
}
