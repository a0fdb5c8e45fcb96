use Rattle.std.proofs.Common.{◌≡◌, ℕ, sym, subst, arith, add-one}
use Rattle.std.specs.Prelude.{Option}
use Rattle.ds_script_io.specs.ScriptLines.{ALine, next_of}
use Rattle.ds_script_io.proofs.LinesLemmas.{next_shorter}
use Rattle.ds_script.specs.declared.turn.Left.{Left}
use Rattle.ds_script_stops.specs.declared.reach.Advance.{Advance}
use Rattle.ds_script_stops.specs.declared.reach.Advance.TheVariants.{Passed, Halted}
use Rattle.ds_script_stops.specs.declared.reach.Short.{Short}
use Rattle.ds_script_stops.specs.Reaching.{Led, Advances, IsAtLeft, FallsShort}
use Rattle.ds_script_stops.proofs.Lines.{line_more, line_stops, halted, ends_short, breaks_long}
use Rattle.ds_script_stops.proofs.reach.through_lines.Goals as goal

pub lines-init : goal.lines-init
lines-init c = record {
  led = λ script h. subst (λ (o : Option Left). IsAtLeft c.args.whole script c.args.from.lines c.args.from.point c.args.from.rest.now o c.args.world.now) c.requires.between h;
  below = c.requires.below;
  within = omega arith;
}

pub returns-in-Nothing-clause-falls : goal.returns-in-Nothing-clause-falls
returns-in-Nothing-clause-falls c = λ script h.
    ends_short c.args.whole script c.lines.lines c.lines.point c.lines.world c.lines.rest.now c.args.last (c.lines.invariant.led script h) c.lines.invariant.below (sym c.in-Nothing.ensures)

pub returns-in-TooLong-clause-falls : goal.returns-in-TooLong-clause-falls
returns-in-TooLong-clause-falls c = λ script h.
    breaks_long c.args.whole script c.lines.lines c.lines.point c.lines.world c.lines.rest.now c.args.last (c.lines.invariant.led script h) c.lines.invariant.below (sym c.in-TooLong.ensures)

pub lines-preserved : goal.lines-preserved
lines-preserved c =
    let next : next_of c.args.whole c.lines.rest.now ≡ ALine c.in-Line.line.now c.in-Line.behind.now = sym c.in-Line.ensures in
    let shorter = next_shorter c.args.whole c.lines.rest.now c.in-Line.line.now c.in-Line.behind.now next in
    let passes : Advances c.lines.world c.lines.point c.in-Line.line.now c.args.last (Passed c.in-Ok-Passed.now) c.obey.new.world =
    subst (λ (a : Advance). Advances c.lines.world c.lines.point c.in-Line.line.now c.args.last a c.obey.new.world) c.in-Ok-Passed.field-0-is c.in-Ok-Passed.ensures.advances in
    record {
      led = λ script h. subst (λ (n : ℕ). Led c.args.whole script n c.in-Ok-Passed.now c.obey.new.world c.in-Line.behind.now) (sym (add-one c.lines.lines))
          (line_more c.args.whole script c.lines.lines c.lines.point c.lines.world c.lines.rest.now c.in-Line.line.now c.in-Line.behind.now (c.lines.invariant.led script h) next
          c.in-Ok-Passed.now c.obey.new.world passes.0);
      below = passes.1;
      within = omega (arith, shorter, c.lines.invariant.within);
    }

pub returns-in-Ok-Halted-clause-stands : goal.returns-in-Ok-Halted-clause-stands
returns-in-Ok-Halted-clause-stands c = λ script h.
    let e : Advances c.lines.world c.lines.point c.in-Line.line.now c.args.last (Halted c.in-Ok-Halted.begun c.in-Ok-Halted.left) c.obey.new.world =
    subst (λ (a : Advance). Advances c.lines.world c.lines.point c.in-Line.line.now c.args.last a c.obey.new.world) c.in-Ok-Halted.field-0-is c.in-Ok-Halted.ensures.advances in
    halted c.args.whole script c.lines.lines c.lines.point c.lines.world c.lines.rest.now c.in-Line.line.now c.in-Line.behind.now (c.lines.invariant.led script h) (sym c.in-Line.ensures)
    e.order c.args.last c.in-Ok-Halted.begun c.in-Ok-Halted.left c.obey.new.world e.asks e.begun_is e.halts

pub returns-in-Err-clause-falls : goal.returns-in-Err-clause-falls
returns-in-Err-clause-falls c = λ script h.
    subst (λ (s : Short). FallsShort c.args.whole script c.args.last c.obey.new.world s) (sym c.stop_at.ensures)
    (line_stops c.args.whole script c.lines.lines c.lines.point c.lines.world c.lines.rest.now c.in-Line.line.now c.in-Line.behind.now (c.lines.invariant.led script h) (sym c.in-Line.ensures)
    c.args.last c.in-Err.stop c.lines.invariant.below c.in-Err.ensures.stops c.obey.new.world)
