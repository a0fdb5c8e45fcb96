-- A session whose lines are the body of a request.
use Rattle.std.specs.Prelude.{◌≡◌, ◌≢◌, ◌==◌, ◌-◌, ℕ, List, [], ◌∷◌, ◌++◌, length, slice_get, Bool, false, not, Option, Some, None, if◌then◌else◌}
use Rattle.ds_server.specs.declared.session.SessionEnd.{SessionEnd}
use Rattle.ds_server.specs.declared.session.SessionEnd.TheVariants.{Ended, WriteFailed}
use Rattle.ds_server.specs.SessionLimits.{SESSION_LINE_MOST, SESSION_MOST}
use Rattle.ds_server.specs.Desks.{Rules}
use Rattle.ds_server.specs.Session.{Outcome}

-- whether this is the last byte of a line that has no line feed
abbrev pub is_open_at : Option ℕ → Bool
is_open_at None = false
is_open_at (Some last) = not (last == 10)

-- whether the last line of a body has no line feed
abbrev pub is_open : List ℕ → Bool
is_open body = is_open_at (slice_get body (length body - 1))

-- the lines of a body: its bytes, and a line feed after the last line where it has none
abbrev pub whole_lines : List ℕ → List ℕ
whole_lines body = if is_open body then body ++ 10 ∷ [] else body

-- a session over just these lines, its answers, and how it ended: it has read `read` of them, all where it ended well
pub record Plays {B : Type 0} (rules : Rules B) (old : B) (lines answers : List ℕ) (end : SessionEnd) (new : B) : Type 0 where
  pub read : List ℕ
  pub rest : List ℕ
  pub out : List ℕ
  pub is : lines ≡ read ++ rest
  pub all : end ≡ Ended → rest ≡ []
  pub outcome : Outcome rules SESSION_LINE_MOST SESSION_MOST old read out new end
  pub written : end ≢ WriteFailed → answers ≡ out
