-- What is said to a value.
use Rattle.std.proofs.Common.{◌≡◌, ℕ, Bool, true, false, List, Option, Some, None, Ok, Err, refl, sym, ap, ◌∙◌}
use Rattle.std.specs.Prelude.{codes, if◌then◌else◌}
use Rattle.serde_json.specs.Data.{Data}
use Rattle.ds_formula.specs.declared.cells.Shape.{Shape}
use Rattle.ds_server.specs.declared.request.LineFault.{LineFault}
use Rattle.ds_server.specs.declared.request.LineFault.TheVariants as faults
use Rattle.ds_server.specs.DeskCalls.{Call}
use Rattle.ds_server.specs.Replies.{Said, Joined, JoinedLost, Done, Overtaken, Settled, Unsettled, Tells, GotCell, Listed, Resolved, Left, Refused, Faulted, has_lost, said_to}
use Rattle.ds_server.specs.Desks.{Rules, joined_after}
use Rattle.ds_server.specs.LineRequests.{call_of, number_field}
use Rattle.ds_server.specs.Asked.{ReadsJson}
use Rattle.ds_server.specs.Session.{Obeys, refuses, calls, Answers, no_json, no_memory}

same_call : (s t : Shape) (n m : ℕ) (a b : Option (List ℕ)) (joined : Option ℕ) (d : Data) → s ≡ t → n ≡ m → a ≡ b → call_of s n a joined d ≡ call_of t m b joined d
same_call s t n m a b joined d es en ea = ap (λ (x : Shape). call_of x n a joined d) es ∙ ap (λ (x : ℕ). call_of t x a joined d) en ∙ ap (λ (x : Option (List ℕ)). call_of t m x joined d) ea

-- a value that asks for a call is answered as the desk answers that
pub obeys_call : {B : Type 0} (rules : Rules B) (old : B) (joined : Option ℕ) (d : Data) (s : Shape) (n : ℕ) (a : Option (List ℕ)) (call : Call) (said : Said) (new : B)
    → s ≡ rules.shape old → n ≡ rules.processes old → a ≡ rules.token old → Ok call ≡ call_of s n a joined d → rules.does old call said new → Obeys rules old joined d (said_to (number_field (codes "told") d) said) new
obeys_call rules old joined d s n a call said new es en ea e h = calls call said new (sym (e ∙ same_call s (rules.shape old) n (rules.processes old) a (rules.token old) joined d es en ea)) h

-- what is said of a lost edit changes nothing of which process is joined
pub joined_alike : (done joined : Option ℕ) (said : Said) → joined_after joined (said_to done said) ≡ joined_after joined said
joined_alike None joined said = refl
joined_alike (Some done) joined (Joined process last) = by_loss (has_lost done last)
  where
    by_loss : (b : Bool) → joined_after joined (if b then JoinedLost process last else Joined process last) ≡ Some process
    by_loss true = refl
    by_loss false = refl
joined_alike (Some done) joined (JoinedLost process last) = refl
joined_alike (Some done) joined (Done number) = refl
joined_alike (Some done) joined (Overtaken number by) = refl
joined_alike (Some done) joined (Settled values) = refl
joined_alike (Some done) joined (Unsettled place word) = refl
joined_alike (Some done) joined (Tells last) = refl
joined_alike (Some done) joined (GotCell cell value edit) = refl
joined_alike (Some done) joined (Listed from edits of) = refl
joined_alike (Some done) joined (Resolved edit) = refl
joined_alike (Some done) joined Left = refl
joined_alike (Some done) joined (Refused why) = refl
joined_alike (Some done) joined (Faulted fault) = refl

-- a value that asks for no call is answered with its fault, and the desk stays
pub obeys_fault : {B : Type 0} (rules : Rules B) (old : B) (joined : Option ℕ) (d : Data) (s : Shape) (n : ℕ) (a : Option (List ℕ)) (fault : LineFault)
    → s ≡ rules.shape old → n ≡ rules.processes old → a ≡ rules.token old → Err fault ≡ call_of s n a joined d → Obeys rules old joined d (Faulted fault) old
obeys_fault rules old joined d s n a fault es en ea e = refuses fault (sym (e ∙ same_call s (rules.shape old) n (rules.processes old) a (rules.token old) joined d es en ea))

-- a line that reads as no JSON, or for which an allocation fails, is answered so, and the desk stays
pub no_value : {B : Type 0} (rules : Rules B) (old : B) (joined : Option ℕ) (line : List ℕ) (fault : LineFault) → ReadsJson line (Err fault) → Answers rules old joined line (Faulted fault) old
no_value rules old joined line faults.NotJson h = no_json h
no_value rules old joined line faults.NoMemory h = no_memory
no_value rules old joined line faults.UnknownOp h = absurd h
no_value rules old joined line faults.BadField h = absurd h
no_value rules old joined line faults.LineTooLong h = absurd h
no_value rules old joined line faults.NotJoined h = absurd h
no_value rules old joined line faults.AlreadyJoined h = absurd h
no_value rules old joined line faults.Denied h = absurd h
