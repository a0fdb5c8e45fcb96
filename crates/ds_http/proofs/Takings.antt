-- Processes that are tried one after another.
use Rattle.std.proofs.Common.{◌≡◌, ◌≢◌, ◌≤◌, ◌+◌, sym, subst, inl, inr, ℕ, Option, Ok, Err}
use Rattle.ds_state.specs.declared.recovery.LastEdit.{LastEdit}
use Rattle.ds_server.specs.declared.desk.CallRefusal.{CallRefusal}
use Rattle.ds_server.specs.declared.desk.CallRefusal.TheVariants as refusal
use Rattle.ds_server.specs.DeskCalls.{Join}
use Rattle.ds_server.specs.Replies.{Joined, Refused}
use Rattle.ds_server.specs.Desks.{Rules}
use Rattle.ds_http.specs.Taking.{Takes, Tried, all_taken, next_of, refused, takes, tries}

-- one process more is another's
pub one_more : {B : Type 0} (rules : Rules B) (first old new : B) (processes tried : ℕ) → processes ≡ rules.processes first
    → Tried rules first tried old → rules.does old (Join (next_of processes tried)) (Refused refusal.ProcessTaken) new → Tried rules first (tried + 1) new
one_more rules first old new processes tried is before does =
    tries tried old new before (subst (λ (n : ℕ). rules.does old (Join (next_of n tried)) (Refused refusal.ProcessTaken) new) is does)

-- one is taken
pub one_taken : {B : Type 0} (rules : Rules B) (first old new : B) (processes tried : ℕ) (last : Option LastEdit) → processes ≡ rules.processes first
    → Tried rules first tried old → rules.does old (Join (next_of processes tried)) (Joined (next_of processes tried) last) new → Takes rules first (Ok (next_of processes tried)) new
one_taken rules first old new processes tried last is before does =
    subst (λ (n : ℕ). Takes rules first (Ok (next_of n tried)) new) (sym is)
    (takes tried last old new before (subst (λ (n : ℕ). rules.does old (Join (next_of n tried)) (Joined (next_of n tried) last) new) is does))

-- the join of one is refused for another reason
pub one_refused : {B : Type 0} (rules : Rules B) (first old new : B) (processes tried : ℕ) (why : CallRefusal) → processes ≡ rules.processes first → why ≢ refusal.ProcessTaken
    → Tried rules first tried old → rules.does old (Join (next_of processes tried)) (Refused why) new → Takes rules first (Err why) new
one_refused rules first old new processes tried why is other before does =
    refused tried why old new before other (subst (λ (n : ℕ). rules.does old (Join (next_of n tried)) (Refused why) new) is does)

-- all were tried
pub all_tried : {B : Type 0} (rules : Rules B) (first new : B) (processes tried : ℕ) → processes ≡ rules.processes first → processes ≤ tried
    → Tried rules first tried new → Takes rules first (Err refusal.ProcessTaken) new
all_tried rules first new processes tried is most before = all_taken tried new before (inl (subst (λ (n : ℕ). n ≤ tried) is most))

-- the next one is none of the sheet
pub none_next : {B : Type 0} (rules : Rules B) (first new : B) (processes tried : ℕ) → processes ≡ rules.processes first → rules.processes new ≤ next_of processes tried
    → Tried rules first tried new → Takes rules first (Err refusal.ProcessTaken) new
none_next rules first new processes tried is most before = all_taken tried new before (inr (subst (λ (n : ℕ). rules.processes new ≤ next_of n tried) is most))
