-- How the table of a board began.
use Rattle.pm_board.specs.declared.board.Fixed.{Fixed}
use Rattle.pm_board.specs.Rule.{Start}

-- by what was fixed when it was made
abbrev pub start_of : {K S T : Type 0} → Fixed K S T → Start
start_of k = record { stopped = k.stopped; words = k.words.value.items }
