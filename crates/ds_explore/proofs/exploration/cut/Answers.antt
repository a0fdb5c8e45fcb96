use Rattle.std.proofs.Common.{◌<◌, ℕ, subst}
use Rattle.ds_explore.proofs.exploration.cut.Goals as goal

pub returns-clause-found : goal.returns-clause-found
returns-clause-found c = record {
  states = c.args.found.now.search.found;
  counted = c.states-states.ensures;
  met = λ number low. c.in_ok-met.ensures c.if-not-met.false number (subst (λ (n : ℕ). number < n) c.states-states.ensures low);
  gone = c.in_ok-gone.ensures c.if-not-gone.false;
}
