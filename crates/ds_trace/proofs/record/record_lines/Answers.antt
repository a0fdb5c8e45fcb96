use Rattle.std.proofs.Common.{◌≡◌, ◌∙◌, refl, suc, true, false, ap, map, sym, subst, arith, add-one}
use Rattle.std.specs.Global.{Vec}
use Rattle.ds_words.specs.declared.words.Word.{Word}
use Rattle.ds_state.specs.Value.{WorldValue}
use Rattle.ds_trace.specs.Rows.{sides_of}
use Rattle.ds_trace.proofs.record.record_lines.Goals.{then-has_none+in_ok-start-in-Line, else-has_none}
use Rattle.ds_script_io.specs.ScriptLines.{ALine, next_of}
use Rattle.ds_script_io.proofs.LinesLemmas.{next_shorter}
use Rattle.ds_trace.specs.declared.record.Untraced.{Untraced}
use Rattle.ds_trace.specs.Traces.{IsUntraced}
use Rattle.ds_trace.proofs.Lines.{LedFrom, begins_led, begins_start, starts_here, still, line_more, line_stops, ends_led, breaks_long}
use Rattle.ds_trace.proofs.record.record_lines.Goals as goal

pub lines-init : goal.lines-init
lines-init c = record {
  from = record {
    led = begins_led c.args.places.now c.args.whole c.args.script.now c.args.world.now c.args.rows.now.items c.requires.made c.requires.empty;
    starts = c.in_ok-start.ensures
        ∙ ap (λ (v : WorldValue). map (sides_of v) c.args.places.now) (sym (begins_start c.args.places.now c.args.whole c.args.script.now c.args.world.now c.args.rows.now.items c.requires.made c.requires.empty));
  };
  within = omega arith;
}

pub returns-in-Nothing-clause-record : goal.returns-in-Nothing-clause-record
returns-in-Nothing-clause-record c =
    ends_led c.args.places.now c.args.whole c.args.script.now c.lines.lines c.lines.begun c.lines.world c.lines.rows.items c.lines.rest.now c.lines.invariant.from.led c.lines.start.items c.lines.invariant.from.starts (sym c.in-Nothing.ensures)

pub returns-in-TooLong-clause-untraced : goal.returns-in-TooLong-clause-untraced
returns-in-TooLong-clause-untraced c =
    breaks_long c.args.places.now c.args.whole c.args.script.now c.lines.lines c.lines.begun c.lines.world c.lines.rows.items c.lines.rest.now c.lines.invariant.from.led (sym c.in-TooLong.ensures)

pub returns-in-Err-clause-untraced : goal.returns-in-Err-clause-untraced
returns-in-Err-clause-untraced c =
    subst (λ (why : Untraced). IsUntraced c.args.whole c.args.script.now why) (sym c.why_not.ensures)
    (line_stops c.args.places.now c.args.whole c.args.script.now c.lines.lines c.lines.begun c.lines.world c.lines.rows.items c.lines.rest.now c.lines.invariant.from.led
    c.in-Line.line.now c.in-Line.behind.now (sym c.in-Line.ensures) c.in-Err.stop c.in-Err.ensures.stops)

pub lines-preserved : goal.lines-preserved
lines-preserved c =
    let next : next_of c.args.whole c.lines.rest.now ≡ ALine c.in-Line.line.now c.in-Line.behind.now = sym c.in-Line.ensures in
    let more = line_more c.args.places.now c.args.whole c.args.script.now c.lines.lines c.lines.begun c.lines.world c.lines.rows.items c.lines.rest.now c.lines.invariant.from.led
    c.in-Line.line.now c.in-Line.behind.now next c.in-Ok.now c.obey.new.world c.obey.new.rows.items c.in-Ok.ensures.passes in
    let shorter = next_shorter c.args.whole c.lines.rest.now c.in-Line.line.now c.in-Line.behind.now next in
    let from : LedFrom c.args.places.now c.args.whole c.args.script.now (suc c.lines.lines) c.in-Ok.now c.obey.new.world c.obey.new.rows.items c.if-has_none.start.items c.in-Line.behind.now = record {
      led = more;
      starts = elim c.if-has_none.branch [
        | then-has_none+in_ok-start-in-Line w ↦
            ap (λ (v : Vec Word). v.items) w.start-is ∙ w.in_ok-start-in-Line.ensures
            ∙ ap (λ (v : WorldValue). map (sides_of v) c.args.places.now) (sym (starts_here c.args.places.now c.args.whole c.args.script.now (suc c.lines.lines) c.in-Ok.now c.obey.new.world c.obey.new.rows.items c.in-Line.behind.now more (w.if-has_none.ensures.0 refl)))
        | else-has_none w ↦
            ap (λ (v : Vec Word). v.items) w.start-is ∙ c.lines.invariant.from.starts
            ∙ ap (λ (v : WorldValue). map (sides_of v) c.args.places.now) (sym (still c.args.places.now c.args.whole c.args.script.now c.lines.lines c.lines.begun c.lines.world c.lines.rows.items c.lines.rest.now c.lines.invariant.from.led
            c.in-Line.line.now c.in-Line.behind.now next c.in-Ok.now c.obey.new.world c.obey.new.rows.items c.in-Ok.ensures.passes (λ none. (let bad : false ≡ true = w.if-has_none.ensures.1 none in cc))))
      ];
    } in
    record {
      from = rw add-one from;
      within = omega (arith, shorter, c.lines.invariant.within);
    }
