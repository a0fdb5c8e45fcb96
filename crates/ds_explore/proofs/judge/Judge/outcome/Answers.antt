use Rattle.std.proofs.Common.{refl, subst, sym, map}
use Rattle.std.specs.Global.{Vec}
use Rattle.std.specs.Prelude.{Option}
use Rattle.ds_state.specs.declared.answer.Answer.{Answer}
use Rattle.ds_explore_state.specs.States.{seat_of}
use Rattle.ds_explore.specs.Judging.{AreAnswers, texts_of}
use Rattle.ds_explore.proofs.judge.Judge.outcome.Goals as goal

pub returns : goal.returns
returns c = record {
  ending = c.in_ok-ending.ending;
  reported = c.end.new.world;
  judged = c.in_ok-flaws.ensures;
  answered = subst (λ (v : Vec (Option Answer)). AreAnswers c.args.world.now (map seat_of c.args.seats.now) v.items (texts_of c.in_ok-answers.field-0.texts.items)) (sym c.in_ok-ending.ensures.answers) c.in_ok-answers.ensures;
  resolved = c.in_ok-ending.ensures.reports;
  crashed_is = c.in_ok-ending.ensures.crashed;
  crashed_found = refl;
}
