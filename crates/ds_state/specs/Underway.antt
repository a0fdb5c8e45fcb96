-- How many shows are under way.
use Rattle.std.specs.Prelude.{ℕ, ◌+◌, List, [], ◌∷◌}
use Rattle.ds_state.specs.declared.situation.Situation.{Situation}
use Rattle.ds_state.specs.declared.situation.Situation.TheVariants.{Idle, Stopped, Editing, Working, Recovering, Showing, Migrating}

-- 1 where the process is in a show, else 0
abbrev pub reports_in : Situation → ℕ
reports_in (Idle next) = 0
reports_in Stopped = 0
reports_in (Editing e) = 0
reports_in (Working e) = 0
reports_in (Recovering e) = 0
reports_in (Migrating e) = 0
reports_in (Showing e) = 1

-- how many of all processes are in a show
abbrev pub shows_under_way : List Situation → ℕ
shows_under_way [] = 0
shows_under_way (s ∷ ss) = reports_in s + shows_under_way ss
