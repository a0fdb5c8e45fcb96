use Rattle.std.proofs.Common.{◌≡◌, ◌∙◌, [], refl, arith, sym, add-one, inr}
use Rattle.ds_script_io.specs.Streams.{writer_of}
use Rattle.ds_script_io.specs.ScriptLines.{ALine, next_of}
use Rattle.ds_script_io.proofs.Known.{Appends-none}
use Rattle.ds_script_io.proofs.LinesLemmas.{next_shorter}
use Rattle.ds_script.specs.declared.order.Begun.TheVariants as begun
use Rattle.ds_script.specs.Script.{begins_at}
use Rattle.ds_script_json.specs.JsonScripts.{begins}
use Rattle.ds_script_json.proofs.JsonRuns.{finishes, is_too_long, line_more, line_stops}
use Rattle.ds_script_json.proofs.script.run_lines.Goals as goal

pub returns-in_default-clause-ran : goal.returns-in_default-clause-ran
returns-in_default-clause-ran g c = record { out = []; json = []; written = Appends-none _; is_end = inr refl; says = inr (refl, refl) }

pub lines-init : goal.lines-init
lines-init g c = record {
  so = record {
    out = [];
    json = [];
    written = Appends-none _;
    led = record { progress = begins_at begun.Nothing c.in-Ok.world; begun_is = refl; world_is = refl; answered = begins c.in-Ok.world c.in-Ok.ensures };
  };
  no_failure = refl;
  within = omega arith;
}

pub returns-in-Err-clause-ran : goal.returns-in-Err-clause-ran
returns-in-Err-clause-ran g c =
    line_stops c.args.whole c.args.script.now c.lines.lines c.lines.begun c.lines.world c.lines.rest.now c.in-Line.line.now c.in-Line.behind.now _ _ _ _ c.in-Err.end
    c.lines.invariant.so (sym c.in-Line.ensures) c.in-Err.ensures.stopped

pub lines-preserved : goal.lines-preserved
lines-preserved g c =
    let next : next_of c.args.whole c.lines.rest.now ≡ ALine c.in-Line.line.now c.in-Line.behind.now = sym c.in-Line.ensures in
    let more = line_more c.args.whole c.args.script.now c.lines.lines c.lines.begun c.lines.world c.lines.rest.now c.in-Line.line.now c.in-Line.behind.now
    (g.W.Write.contents (writer_of c.args.writer.now)) (g.W.Write.contents (writer_of c.lines.writer)) (g.W.Write.contents (writer_of c.obey.new.writer)) c.in-Ok-obey.now c.obey.new.world
    c.lines.invariant.so next c.in-Ok-obey.ensures.obeyed in
    let shorter = next_shorter c.args.whole c.lines.rest.now c.in-Line.line.now c.in-Line.behind.now next in
    record {
      so = rw add-one more;
      no_failure = c.in-Ok-obey.ensures.no_failure ∙ c.lines.invariant.no_failure;
      within = omega (arith, shorter, c.lines.invariant.within);
    }

pub lines-smaller : goal.lines-smaller
lines-smaller g c = next_shorter c.args.whole c.lines.rest.now c.in-Line.line.now c.in-Line.behind.now (sym c.in-Line.ensures)

pub returns-in-Nothing-clause-ran : goal.returns-in-Nothing-clause-ran
returns-in-Nothing-clause-ran g c =
    finishes c.args.whole c.args.script.now c.lines.lines c.lines.begun c.lines.world _ _ c.lines.rest.now c.lines.invariant.so (sym c.in-Nothing.ensures)

pub returns-in-TooLong-clause-ran : goal.returns-in-TooLong-clause-ran
returns-in-TooLong-clause-ran g c =
    is_too_long c.args.whole c.args.script.now c.lines.lines c.lines.begun c.lines.world _ _ c.lines.rest.now c.lines.invariant.so (sym c.in-TooLong.ensures)

pub returns-in-Err-clause-none_hidden : goal.returns-in-Err-clause-none_hidden
returns-in-Err-clause-none_hidden g c = λ ne. c.in-Err.ensures.none_hidden ne ∙ c.lines.invariant.no_failure
