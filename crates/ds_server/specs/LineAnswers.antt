-- What answering one line leaves.
use Rattle.std.specs.Prelude.{◌≡◌, ℕ, Bool, true, false, List, map, Option, option_map, Result, Ok, Err}
use Rattle.std.specs.Io.KnownBytes.{Appends}
use Rattle.ds_formula.specs.declared.cells.Shape.{Shape}
use Rattle.ds_server.specs.declared.request.LineFault.TheVariants.{LineTooLong}
use Rattle.ds_server.specs.declared.answer.Response.{Response}
use Rattle.ds_server.specs.declared.answer.Response.TheVariants as response
use Rattle.ds_server.specs.declared.session.Hindrance.{Hindrance}
use Rattle.ds_server.specs.declared.session.Hindrance.TheVariants as hindrances
use Rattle.ds_server.specs.declared.session.SessionEnd.{SessionEnd}
use Rattle.ds_server.specs.declared.session.SessionEnd.TheVariants as ends
use Rattle.ds_server.specs.Replies.{Said, Joined, JoinedLost, Done, Overtaken, Settled, Unsettled, Tells, GotCell, Listed, Resolved, Refused, Faulted, entry_view}
use Rattle.ds_server.specs.Desks.{Rules, Seated, joined_after}
use Rattle.ds_server.specs.SessionTexts.{said_text}
use Rattle.ds_server.specs.Session.{Answers}

-- what a response says
abbrev pub response_view : Response → Said
response_view (response.Joined process last) = Joined process last
response_view (response.JoinedLost process last) = JoinedLost process last
response_view (response.Done number) = Done number
response_view (response.Overtaken number by) = Overtaken number by
response_view (response.Settled values) = Settled values.items
response_view (response.Unsettled place word) = Unsettled place word
response_view (response.Tells last) = Tells last
response_view (response.GotCell cell value edit) = GotCell cell value (option_map entry_view edit)
response_view (response.Listed from history) = Listed from (map entry_view history.edits.items) history.of
response_view (response.Resolved edit) = Resolved (option_map entry_view edit)
response_view (response.Refused why) = Refused why
response_view (response.Faulted fault) = Faulted fault

-- what is said is written, or memory is wanted to make its text, or a write failed
abbrev pub Writes : Shape → Said → Option (List ℕ) → Option (List ℕ) → Bool → Bool → Result (Unit {0}) Hindrance → Type 0
Writes shape said before now failed_before failed_now (Ok done) = Appends before now (said_text shape said) × (failed_now ≡ failed_before)
Writes shape said before now failed_before failed_now (Err hindrances.NoMemory) = (now ≡ before) × (failed_now ≡ failed_before)
Writes shape said before now failed_before failed_now (Err hindrances.WriteFailed) = failed_now ≡ true

-- what is said to a line that was read; to one that is too long, unread
abbrev pub Says : {B : Type 0} → Rules B → Bool → B → Option ℕ → List ℕ → Said → B → Type 0
Says rules true old joined line said new = (said ≡ Faulted LineTooLong) × (new ≡ old)
Says rules false old joined line said new = Answers rules old joined line said new

-- a line is answered, and the answer written, or not
pub record Turned {B : Type 0} (rules : Rules B) (long : Bool) (old : B) (joined : Option ℕ) (line : List ℕ) (before now : Option (List ℕ)) (failed_before failed_now : Bool) (result : Result (Unit {0}) Hindrance) (new : B) (after : Option ℕ) : Type 0 where
  pub said : Said
  pub says : Says rules long old joined line said new
  pub joined_is : after ≡ joined_after joined said
  pub seated : Seated rules after new
  pub writes : Writes (rules.shape old) said before now failed_before failed_now result

-- how a session ends that a line stops
abbrev pub end_of : Hindrance → SessionEnd
end_of hindrances.NoMemory = ends.NoMemory
end_of hindrances.WriteFailed = ends.WriteFailed
