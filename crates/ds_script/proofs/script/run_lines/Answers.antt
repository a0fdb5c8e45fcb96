use Rattle.std.proofs.Common.{◌≡◌, ◌+◌, ◌∙◌, [], refl, arith, subst, sym, add-one, Err, inr}
use Rattle.ds_script_io.specs.Streams.{writer_of, write_failed}
use Rattle.ds_script_io.specs.declared.ending.ScriptFault.TheVariants.{LineTooLong}
use Rattle.ds_script_io.specs.ScriptLines.{AtFront, ALine, next_of}
use Rattle.ds_script_io.proofs.Known.{Appends-none}
use Rattle.ds_script_io.proofs.LinesLemmas.{next_shorter}
use Rattle.ds_script.specs.declared.order.Begun.TheVariants as begun
use Rattle.ds_script.specs.declared.script.Break.{Break}
use Rattle.ds_script.specs.Script.{begins_at, begins, FaultAt}
use Rattle.ds_script.specs.Running.{RanLines, HidesNone}
use Rattle.ds_script.proofs.Scripts.{line_more, line_stops, same_after}
use Rattle.ds_script.proofs.script.run_lines.Goals as goal

pub returns-in_default-clause-ran : goal.returns-in_default-clause-ran
returns-in_default-clause-ran g c = ([], Appends-none _, inr refl)

pub lines-init : goal.lines-init
lines-init g c = record {
  out = [];
  written = Appends-none _;
  led = record { progress = begins_at begun.Nothing c.in-Ok.world; begun_is = refl; world_is = refl; carried = begins c.in-Ok.world c.in-Ok.ensures };
  no_failure = refl;
  within = omega arith;
}

pub returns-in-Err-clause-ran : goal.returns-in-Err-clause-ran
returns-in-Err-clause-ran g c =
    subst (λ (b : Break). RanLines c.args.whole c.args.script.now (g.W.Write.contents (writer_of c.args.writer.now)) (g.W.Write.contents (writer_of c.obey.new.writer)) (write_failed c.obey.new.writer) (Err b)) (sym c.break_at.ensures)
    (line_stops c.args.whole c.args.script.now c.lines.lines c.lines.begun c.lines.world c.lines.invariant.out c.lines.rest.now c.in-Line.line.now c.in-Line.behind.now _ _ _ _ c.in-Err.stop
    c.lines.invariant.led c.lines.invariant.written (sym c.in-Line.ensures) c.in-Err.ensures.stopped)

pub lines-preserved : goal.lines-preserved
lines-preserved g c =
    let next : next_of c.args.whole c.lines.rest.now ≡ ALine c.in-Line.line.now c.in-Line.behind.now = sym c.in-Line.ensures in
    let more = line_more c.args.whole c.args.script.now c.lines.lines c.lines.begun c.lines.world c.lines.invariant.out c.lines.rest.now c.in-Line.line.now c.in-Line.behind.now
    (g.W.Write.contents (writer_of c.args.writer.now)) (g.W.Write.contents (writer_of c.lines.writer)) (g.W.Write.contents (writer_of c.obey.new.writer)) c.in-Ok-obey.now c.obey.new.world
    c.lines.invariant.led c.lines.invariant.written next c.in-Ok-obey.ensures.obeyed in
    let shorter = next_shorter c.args.whole c.lines.rest.now c.in-Line.line.now c.in-Line.behind.now next in
    record {
      out = more.0;
      written = more.1;
      led = rw add-one more.2;
      no_failure = c.in-Ok-obey.ensures.no_failure ∙ c.lines.invariant.no_failure;
      within = omega (arith, shorter, c.lines.invariant.within);
    }

pub lines-smaller : goal.lines-smaller
lines-smaller g c = next_shorter c.args.whole c.lines.rest.now c.in-Line.line.now c.in-Line.behind.now (sym c.in-Line.ensures)

pub returns-in-Nothing-clause-ran : goal.returns-in-Nothing-clause-ran
returns-in-Nothing-clause-ran g c =
    let l = c.lines.invariant.led in (
      c.lines.invariant.out,
      c.lines.invariant.written,
      record { lines = c.lines.lines; progress = l.progress; rest = c.lines.rest.now; carried = l.carried; none = sym c.in-Nothing.ensures },
    )

pub returns-in-TooLong-clause-ran : goal.returns-in-TooLong-clause-ran
returns-in-TooLong-clause-ran g c =
    let l = c.lines.invariant.led in (
      c.lines.invariant.out,
      c.lines.invariant.written,
      record {
        lines = c.lines.lines;
        progress = l.progress;
        rest = c.lines.rest.now;
        carried = l.carried;
        number = refl;
        fault = subst (λ (f : AtFront). FaultAt l.progress f LineTooLong) c.in-TooLong.ensures refl;
      },
    )

pub returns-in-Err-clause-none_hidden : goal.returns-in-Err-clause-none_hidden
returns-in-Err-clause-none_hidden g c =
    subst (λ (b : Break). HidesNone (Err b) (write_failed c.args.writer.now) (write_failed c.obey.new.writer)) (sym c.break_at.ensures)
    (same_after c.in-Err.stop (c.lines.lines + 1) (write_failed c.args.writer.now) (write_failed c.obey.new.writer) (λ ne. c.in-Err.ensures.none_hidden ne ∙ c.lines.invariant.no_failure))
