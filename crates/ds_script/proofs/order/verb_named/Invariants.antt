use Rattle.std.proofs.Common.{◌≡◌, drop}
use Rattle.ds_script.specs.Named.{named_in}
use Rattle.ds_script.specs.Orders.{all_verbs, name_of_verb}
use Rattle.ds_script.proofs.order.verb_named.Given as goal

abbrev pub invariant-loop-verb : goal.invariant-loop-verb
invariant-loop-verb l = named_in name_of_verb all_verbs l.word ≡ named_in name_of_verb (drop l.verb-index all_verbs) l.word
