use Rattle.pm_board.specs.Rule.{AreFirst}
use Rattle.pm_board.proofs.board.first_words.Given as goal

abbrev pub invariant-loop-word : goal.invariant-loop-word
invariant-loop-word g l = AreFirst g.P.Structured.structure l.key l.word l.words.items
