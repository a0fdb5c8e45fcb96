-- What an exploration writes.
use Rattle.std.specs.Prelude.{ℕ, suc, ◌+◌, ◌≡◌, ◌-◌, ◌^◌, ◌||◌, ◌⊎◌, min, All, Bool, true, false, List, [], ◌∷◌, ◌++◌, length, codes}
use Rattle.std.specs.Fmt.{decimal}
use Rattle.ds_script.specs.Script.{Finishes}
use Rattle.ds_script_io.specs.ScriptEndings.{name_of_fault}
use Rattle.ds_explore.specs.declared.flaw.Flaw.{Flaw}
use Rattle.ds_explore.specs.declared.flaw.Flaw.TheVariants as flaw
use Rattle.ds_explore.specs.declared.exploration.Exploration.{Exploration}
use Rattle.ds_explore.specs.declared.exploration.Outcome.{Outcome}
use Rattle.ds_explore.specs.declared.exploration.Unexplored.{Unexplored}
use Rattle.ds_explore.specs.declared.exploration.Unexplored.TheVariants as unexplored
use Rattle.ds_explore.specs.declared.explore.ExploreEnd.{ExploreEnd}
use Rattle.ds_explore.specs.declared.explore.ExploreEnd.TheVariants as ends
use Rattle.ds_explore.specs.declared.search.Start.{Start}
use Rattle.ds_explore_state.specs.declared.position.Position.{Position}
use Rattle.ds_explore.specs.declared.outcomes.Finding.{Finding}
use Rattle.ds_explore.specs.Judging.{Answers, ComesTo, texts_of}
use Rattle.ds_explore.specs.Starts.{IsEnd}
use Rattle.ds_explore.specs.Lines.{GoesOn}

-- ---- an outcome

-- what is wrong with an outcome, in words
abbrev pub flaw_text : Flaw → List ℕ
flaw_text (flaw.ToldOtherwise process) = codes "the edit of " ++ (decimal process ++ codes " is told otherwise than it was answered")
flaw_text (flaw.ToldTwice process) = codes "the recovery of " ++ (decimal process ++ codes " tells otherwise than the one before")
flaw_text (flaw.OvertakenByNone process) = codes "the edit of " ++ (decimal process ++ codes " is overtaken by an edit that is not done")
flaw_text (flaw.TextOfNone cell) = codes "cell " ++ (decimal cell ++ codes " has a text of no edit that is done and could be its last one")
flaw_text (flaw.ValueOfNone cell) = codes "cell " ++ (decimal cell ++ codes " has a value that is not that of the texts")
flaw_text flaw.NotClean = codes "the settle does not end clean"
flaw_text flaw.NotSettled = codes "the report is not settled"
flaw_text (flaw.Refused process) = codes "the recovery of " ++ (decimal process ++ codes " is refused")
flaw_text flaw.AnsweredOtherwise = codes "the script is answered otherwise than the order was"

-- a line for what is wrong
abbrev pub wrong_text : Flaw → List ℕ
wrong_text f = codes "wrong: " ++ (flaw_text f ++ codes "\n")

-- the lines for what is wrong
abbrev pub wrong_texts : List Flaw → List ℕ
wrong_texts [] = []
wrong_texts (f ∷ flaws) = wrong_text f ++ wrong_texts flaws

-- whether something is wrong
abbrev pub is_wrong : List Flaw → Bool
is_wrong [] = false
is_wrong (f ∷ flaws) = true

-- texts, one after the other
abbrev pub joined : List (List ℕ) → List ℕ
joined [] = []
joined (text ∷ texts) = text ++ joined texts

-- what is said of a crash
abbrev pub crash_text : Bool → List ℕ
crash_text true = codes "crashed\n"
crash_text false = []

-- what distinguishes what an order came to: what its calls were answered, whether it ends with a crash, what was
-- reported after it, and what is wrong
abbrev pub key_text : Finding → List ℕ
key_text found = ((joined (texts_of found.answers.items) ++ crash_text found.crashed) ++ found.tail.items) ++ wrong_texts found.flaws.items

-- what is wrong with an outcome: what the judge finds, where the script that is written is answered as the order was;
-- where it is not, that as well
abbrev pub AreFlaws : Finding → List ℕ → List Flaw → Type 0
AreFlaws found answers flaws =
    ((flaws ≡ found.flaws.items) × Answers answers (texts_of found.answers.items) found.tail.items)
    ⊎ ((flaws ≡ found.flaws.items ++ flaw.AnsweredOtherwise ∷ []) × (Answers answers (texts_of found.answers.items) found.tail.items → ⊥))

-- the line at the head of an outcome: its number, and how many orders lead to it
abbrev pub heading_text : ℕ → ℕ → List ℕ
heading_text number orders = codes "outcome " ++ (decimal number ++ (codes ": orders " ++ (decimal orders ++ codes "\n")))

-- the text of the outcome with this number: its head, what is wrong with it, its script, and what that is answered
abbrev pub outcome_text : ℕ → Outcome → List ℕ
outcome_text number outcome = heading_text number outcome.orders ++ (wrong_texts outcome.flaws.items ++ (outcome.script.items ++ (codes "answers\n" ++ (outcome.answers.items ++ codes "\n"))))

-- the texts of outcomes, whose numbers follow this one
abbrev pub outcomes_text : ℕ → List Outcome → List ℕ
outcomes_text number [] = []
outcomes_text number (outcome ∷ outcomes) = outcome_text (suc number) outcome ++ outcomes_text (suc number) outcomes

-- an outcome is what an order comes to, by the judge; its script goes on after the one that was given, and is answered as
-- is written, and what comes after the order is answered so. The key distinguishes it from others
pub record IsOutcome (script : List ℕ) (start : Start) (key : List ℕ) (outcome : Outcome) : Type 0 where
  pub position : Position
  pub end : IsEnd start position outcome.crashed
  pub found : Finding
  pub comes : ComesTo start.judge position outcome.crashed found
  pub key_is : key ≡ key_text found
  pub goes_on : GoesOn start.first.world.sheet.layout.shape script outcome.script.items
  pub finishes : Finishes true outcome.script.items outcome.answers.items
  pub flaws : AreFlaws found outcome.answers.items outcome.flaws.items
  pub tail : outcome.tail ≡ found.tail

-- outcomes, at least one, and what distinguishes each from the others
pub data AreOutcomes (script : List ℕ) (start : Start) : List (List ℕ) → List Outcome → Type 0 where
  one_outcome : (key : List ℕ) (outcome : Outcome) → IsOutcome script start key outcome → AreOutcomes script start (key ∷ []) (outcome ∷ [])
  one_outcome_more : (keys : List (List ℕ)) (outcomes : List Outcome) (key : List ℕ) (outcome : Outcome) → AreOutcomes script start keys outcomes
      → IsOutcome script start key outcome → All (λ other. other ≡ key → ⊥) keys → AreOutcomes script start (keys ++ key ∷ []) (outcomes ++ outcome ∷ [])

-- how many orders lead to these outcomes
abbrev pub orders_to : List Outcome → ℕ
orders_to [] = 0
orders_to (outcome ∷ outcomes) = outcome.orders + orders_to outcomes

-- orders are not counted beyond 2^128 - 1
abbrev pub at_most_orders : ℕ → ℕ
at_most_orders orders = min orders (2 ^ 128 - 1)

-- whether something is wrong with one of these outcomes
abbrev pub any_wrong : List Outcome → Bool
any_wrong [] = false
any_wrong (outcome ∷ outcomes) = is_wrong outcome.flaws.items || any_wrong outcomes

-- ---- all that is written

-- the lines at the head: how many states there are, and how many orders
abbrev pub figures_text : ℕ → ℕ → List ℕ
figures_text states orders = codes "states " ++ (decimal states ++ (codes "\norders " ++ (decimal orders ++ codes "\n")))

-- what is said of all orders: that one comes to a state again, or nothing
abbrev pub endless_text : Bool → List ℕ
endless_text true = codes "wrong: an order comes to a state again\n\n"
endless_text false = codes "\n"

-- the text of an exploration: the lines at its head, and its outcomes
abbrev pub exploration_text : Exploration → List ℕ
exploration_text e = (figures_text e.states (at_most_orders (orders_to e.outcomes.items)) ++ endless_text e.is_endless) ++ outcomes_text 0 e.outcomes.items

-- whether something is wrong: an order comes to a state again, or something is wrong with an outcome
abbrev pub wrong_in : Exploration → Bool
wrong_in e = e.is_endless || any_wrong e.outcomes.items

-- how an exploration ends that is written: by whether there are more states, and whether something is wrong
abbrev pub end_of : Bool → Bool → ExploreEnd
end_of true wrong = ends.TooManyStates
end_of false true = ends.Wrong
end_of false false = ends.Ended

-- how it ends where there is none
abbrev pub end_lacking : Unexplored → ExploreEnd
end_lacking (unexplored.Fault line kind) = ends.Fault line kind
end_lacking unexplored.TooLong = ends.TooLong
end_lacking unexplored.FoundTooLong = ends.FoundTooLong
end_lacking unexplored.NoMemory = ends.NoMemory

-- the text of how an exploration ended
abbrev pub end_text : ExploreEnd → List ℕ
end_text ends.Ended = codes "ended"
end_text ends.Wrong = codes "something is wrong: see the lines that begin with wrong"
end_text ends.TooManyStates = codes "more states than may be gone through: what was found until then is written"
end_text (ends.Fault line kind) = codes "line " ++ (decimal line ++ (codes ": " ++ name_of_fault kind))
end_text ends.TooLong = codes "script too long: more than 1048576 bytes"
end_text ends.FoundTooLong = codes "the script of an outcome would be too long: more than 1048576 bytes"
end_text ends.WriteFailed = codes "an outcome could not be written"
end_text ends.NoMemory = codes "out of memory"
