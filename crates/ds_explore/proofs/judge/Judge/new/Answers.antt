use Rattle.std.proofs.Common.{◌≡◌, List, map, subst}
use Rattle.std.specs.Prelude.{option_map}
use Rattle.ds_state.specs.Value.{WorldValue}
use Rattle.ds_state.specs.declared.situation.Situation.{Situation}
use Rattle.ds_explore.specs.Judging.{asked_in, plain_asked}
use Rattle.ds_explore.proofs.judge.Judge.new.Goals as goal

pub returns : goal.returns
returns c =
    let lost = c.in_ok-crashed.ensures in
    record {
      asked = subst (λ (w : WorldValue). map (option_map plain_asked) c.in_ok-asked.asked.items ≡ map asked_in w.situations) c.world.view_is
          (subst (λ (s : List Situation). map (option_map plain_asked) c.in_ok-asked.asked.items ≡ map asked_in s) c.deref.ensures.value c.in_ok-asked.ensures);
      texts = c.in_ok-now.ensures;
      lost = lost.0;
      crashes = lost.1;
      crashed = lost.2;
    }
