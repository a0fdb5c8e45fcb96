-- An exploration as lines of JSON.
use Rattle.std.specs.Prelude.{ℕ, ◌+◌, ◌++◌, Bool, List, [], ◌∷◌, Option, Some, None, codes, length, map, slice_get}
use Rattle.std.specs.Fmt.{decimal}
use Rattle.serde_json.specs.Data.{Data, string, boolean, number, unsigned, array, object, Members, no_members, member}
use Rattle.serde_json.specs.View.{items_of}
use Rattle.serde_json.specs.Written.{compact_text}
use Rattle.ds_explore.specs.Explored.{at_most_orders, flaw_text, orders_to, wrong_in}
use Rattle.ds_explore.specs.declared.exploration.Exploration.{Exploration}
use Rattle.ds_explore.specs.declared.exploration.Outcome.{Outcome}
use Rattle.ds_explore.specs.declared.flaw.Flaw.{Flaw}
use Rattle.ds_explore_summary.specs.Summaries.{texts_below}

-- what is wrong, as JSON: its words
abbrev pub flaw_data : Flaw → Data
flaw_data flaw = string (flaw_text flaw)

-- how many orders there are: a text, since many readers of JSON keep no number beyond 2^53
abbrev pub orders_data : ℕ → Data
orders_data orders = string (decimal orders)

-- the outcome with this number, but for its texts: {"crashed":true,"number":1,"orders":"22","wrong":[]}
abbrev pub kind_data : ℕ → Outcome → Data
kind_data n outcome =
    object (member (codes "crashed") (boolean outcome.crashed) (member (codes "number") (number (unsigned n)) (member (codes "orders") (orders_data outcome.orders)
    (member (codes "wrong") (array (items_of (map flaw_data outcome.flaws.items))) no_members))))

-- its texts: {"answers":"..","report":"..","script":".."}
abbrev pub texts_data : Outcome → Members
texts_data outcome = member (codes "answers") (string outcome.answers.items) (member (codes "report") (string outcome.tail.items) (member (codes "script") (string outcome.script.items) no_members))

-- the same with its texts: {"answers":"..","outcome":{..},"report":"..","script":".."}
abbrev pub outcome_data : ℕ → Outcome → Data
outcome_data n outcome =
    object (member (codes "answers") (string outcome.answers.items) (member (codes "outcome") (kind_data n outcome) (member (codes "report") (string outcome.tail.items) (member (codes "script") (string outcome.script.items) no_members))))

-- how much was found: {"orders":"22","outcomes":5,"states":21}
abbrev pub found_data : Exploration → Data
found_data e =
    object (member (codes "orders") (orders_data (at_most_orders (orders_to e.outcomes.items))) (member (codes "outcomes") (number (unsigned (length e.outcomes.items))) (member (codes "states") (number (unsigned e.states)) no_members)))

-- the figures: {"cut":false,"endless":false,"found":{"orders":"22","outcomes":5,"states":21},"wrong":false}
abbrev pub figures_data : Exploration → Data
figures_data e = object (member (codes "cut") (boolean e.is_cut) (member (codes "endless") (boolean e.is_endless) (member (codes "found") (found_data e) (member (codes "wrong") (boolean (wrong_in e)) no_members))))

-- a line of JSON
abbrev pub data_line : Data → List ℕ
data_line line = compact_text line ++ 10 ∷ []

-- the line of an outcome, if there is one
abbrev pub line_by : ℕ → Option Outcome → List ℕ
line_by n (Some outcome) = data_line (outcome_data n outcome)
line_by n None = []

-- the line of the outcome at this place, which has the next number
abbrev pub line_at : List Outcome → ℕ → List ℕ
line_at outcomes at = line_by (at + 1) (slice_get outcomes at)

-- the lines of an exploration: that of its figures, and one of each outcome
abbrev pub lines_text : Exploration → List ℕ
lines_text e = data_line (figures_data e) ++ texts_below (line_at e.outcomes.items) (length e.outcomes.items)
