use Rattle.std.proofs.Common.{List, ℕ}
use Rattle.std.specs.Prelude.{None}
use Rattle.ds_script.specs.Script.{StandsAt}
use Rattle.ds_script_stops.specs.declared.reach.ScriptPosition.{ScriptPosition}
use Rattle.ds_script_stops.specs.Reaching.{IsAt, FallsShort}
use Rattle.ds_script_stops.proofs.Lines.{inside, inside_ends, inside_halts}
use Rattle.ds_script_stops.proofs.Telling.{if_ok, if_err}
use Rattle.ds_script_stops.proofs.reach.go_on.Goals as goal

pub returns-in-Halted-clause-stands : goal.returns-in-Halted-clause-stands
returns-in-Halted-clause-stands c = λ script h.
    inside_halts c.args.whole script c.args.place.lines c.args.place.point c.args.place.rest.now c.in-Some.left c.args.world.now
    (inside c.args.whole script c.args.place c.in-Some.left c.args.world.now c.in-Some.is h) c.args.last c.in-Halted.left c.play.new.world c.in-Halted.ensures

pub returns-in-Ended-clause-stands : goal.returns-in-Ended-clause-stands
returns-in-Ended-clause-stands c =
    let between : ScriptPosition = record { lines = c.args.place.lines; point = record { begun = c.args.place.point.begun; taken = c.in-Ended.taken }; left = None; rest = c.args.place.rest } in
    if_ok c.through_lines-in-Ended.result
    (λ now. (script : List ℕ) → IsAt c.args.whole script between c.play.new.world → StandsAt c.args.whole script c.args.last c.through_lines-in-Ended.new.world × IsAt c.args.whole script now c.through_lines-in-Ended.new.world)
    (λ now. (script : List ℕ) → IsAt c.args.whole script c.args.place c.args.world.now → StandsAt c.args.whole script c.args.last c.through_lines-in-Ended.new.world × IsAt c.args.whole script now c.through_lines-in-Ended.new.world)
    (λ now f. λ script h. f script (inside_ends c.args.whole script c.args.place.lines c.args.place.point c.args.place.rest.now c.in-Some.left c.args.world.now
    (inside c.args.whole script c.args.place c.in-Some.left c.args.world.now c.in-Some.is h) c.in-Ended.taken c.play.new.world c.in-Ended.ensures.0))
    c.through_lines-in-Ended.ensures.stands

pub returns-in-Ended-clause-falls : goal.returns-in-Ended-clause-falls
returns-in-Ended-clause-falls c =
    let between : ScriptPosition = record { lines = c.args.place.lines; point = record { begun = c.args.place.point.begun; taken = c.in-Ended.taken }; left = None; rest = c.args.place.rest } in
    if_err c.through_lines-in-Ended.result
    (λ short. (script : List ℕ) → IsAt c.args.whole script between c.play.new.world → FallsShort c.args.whole script c.args.last c.through_lines-in-Ended.new.world short)
    (λ short. (script : List ℕ) → IsAt c.args.whole script c.args.place c.args.world.now → FallsShort c.args.whole script c.args.last c.through_lines-in-Ended.new.world short)
    (λ short f. λ script h. f script (inside_ends c.args.whole script c.args.place.lines c.args.place.point c.args.place.rest.now c.in-Some.left c.args.world.now
    (inside c.args.whole script c.args.place c.in-Some.left c.args.world.now c.in-Some.is h) c.in-Ended.taken c.play.new.world c.in-Ended.ensures.0))
    c.through_lines-in-Ended.ensures.falls
