-- An exploration at a glance: what may be reported after its orders, and how often.
use Rattle.std.specs.Prelude.{ℕ, zero, suc, ◌+◌, ◌++◌, ◌&&◌, Bool, true, false, List, [], ◌∷◌, Option, Some, None, codes, if◌then◌else◌, length, not, slice_get}
use Rattle.std.specs.Fmt.{decimal}
use Rattle.std.specs.Str.{bytes_eq}
use Rattle.ds_explore.specs.Explored.{at_most_orders, is_wrong, orders_to, wrong_in}
use Rattle.ds_explore.specs.Judging.{any_below}
use Rattle.ds_explore.specs.declared.exploration.Exploration.{Exploration}
use Rattle.ds_explore.specs.declared.exploration.Outcome.{Outcome}

-- ---- numbers

-- how many of the numbers below n are so
abbrev pub count_below : (ℕ → Bool) → ℕ → ℕ
count_below p zero = 0
count_below p (suc n) = count_below p n + (if p n then 1 else 0)

-- these of the numbers below n, added
abbrev pub sum_below : (ℕ → ℕ) → ℕ → ℕ
sum_below f zero = 0
sum_below f (suc n) = sum_below f n + f n

-- the texts of the numbers below n, one after the other
abbrev pub texts_below : (ℕ → List ℕ) → ℕ → List ℕ
texts_below f zero = []
texts_below f (suc n) = texts_below f n ++ f n

-- ---- endings

-- what is reported after the orders of an outcome, if there is one
abbrev pub tail_by : Option Outcome → List ℕ
tail_by (Some outcome) = outcome.tail.items
tail_by None = []

-- the same, of the outcome at this place
abbrev pub tail_at : List Outcome → ℕ → List ℕ
tail_at outcomes at = tail_by (slice_get outcomes at)

-- how many orders lead to an outcome, if there is one
abbrev pub orders_by : Option Outcome → ℕ
orders_by (Some outcome) = outcome.orders
orders_by None = 0

-- whether the orders of an outcome end with a crash, if there is one
abbrev pub crashed_by : Option Outcome → Bool
crashed_by (Some outcome) = outcome.crashed
crashed_by None = false

-- whether something is wrong with an outcome, if there is one
abbrev pub wrong_by : Option Outcome → Bool
wrong_by (Some outcome) = is_wrong outcome.flaws.items
wrong_by None = false

-- after the orders of both outcomes the same is reported: they have one ending
abbrev pub ends_as : List Outcome → ℕ → ℕ → Bool
ends_as outcomes at other = bytes_eq (tail_at outcomes other) (tail_at outcomes at)

-- no outcome before has the ending of this one
abbrev pub is_first : List Outcome → ℕ → Bool
is_first outcomes at = not (any_below (ends_as outcomes at) at)

-- how many orders have the ending of this outcome
abbrev pub orders_so : List Outcome → ℕ → ℕ
orders_so outcomes at = at_most_orders (sum_below (λ other. if ends_as outcomes at other then orders_by (slice_get outcomes other) else 0) (length outcomes))

-- one with the ending of this outcome ends with a crash
abbrev pub crashes_so : List Outcome → ℕ → Bool
crashes_so outcomes at = any_below (λ other. ends_as outcomes at other && crashed_by (slice_get outcomes other)) (length outcomes)

-- one with the ending of this outcome ends without a crash
abbrev pub runs_so : List Outcome → ℕ → Bool
runs_so outcomes at = any_below (λ other. ends_as outcomes at other && not (crashed_by (slice_get outcomes other))) (length outcomes)

-- ---- texts

-- what is said of crashes, by whether an ending comes with a crash, and whether it comes without one
abbrev pub crashes_text : Bool → Bool → List ℕ
crashes_text true true = codes ", with a crash or without one\n"
crashes_text true false = codes ", with a crash alone\n"
crashes_text false runs = codes ", without a crash\n"

-- the number of an outcome, from 1, where it is listed
abbrev pub number_text : Bool → ℕ → List ℕ
number_text true at = codes " " ++ decimal (at + 1)
number_text false at = []

-- the line with the numbers of the outcomes that have the ending of this one
abbrev pub numbers_text : List Outcome → ℕ → List ℕ
numbers_text outcomes at = codes "outcomes" ++ (texts_below (λ other. number_text (ends_as outcomes at other) other) (length outcomes) ++ codes "\n")

-- the line with the numbers of all outcomes with which something is wrong, if there are any
abbrev pub wrong_text : List Outcome → List ℕ
wrong_text outcomes =
    if any_below (λ at. wrong_by (slice_get outcomes at)) (length outcomes) then codes "wrong outcomes" ++ (texts_below (λ at. number_text (wrong_by (slice_get outcomes at)) at) (length outcomes) ++ codes "\n") else []

-- the line at the head of an ending, after an empty one
abbrev pub heading_text : ℕ → ℕ → List ℕ
heading_text number orders = codes "\nending " ++ (decimal number ++ (codes ": orders " ++ decimal orders))

-- the block of the ending with this number, which the outcome at this place has: how many orders have it, whether with a crash,
-- which outcomes have it, and what is reported
abbrev pub block_text : List Outcome → ℕ → ℕ → List ℕ
block_text outcomes number at =
    heading_text number (orders_so outcomes at) ++ (crashes_text (crashes_so outcomes at) (runs_so outcomes at) ++ (numbers_text outcomes at ++ tail_at outcomes at))

-- the block of the ending that the outcome at this place is the first to have; nothing, where it is not
abbrev pub first_text : List Outcome → ℕ → List ℕ
first_text outcomes at = if is_first outcomes at then block_text outcomes (count_below (is_first outcomes) at + 1) at else []

-- the blocks of all endings, in the order of the outcomes
abbrev pub blocks_text : List Outcome → List ℕ
blocks_text outcomes = texts_below (first_text outcomes) (length outcomes)

-- what is said of an order that comes to a state again
abbrev pub circle_text : Bool → List ℕ
circle_text true = codes "wrong: an order comes to a state again\n"
circle_text false = []

-- what is said of faults: that there is none; else that an order comes to a state again, where it does, and which outcomes are wrong
abbrev pub faults_text : Exploration → List ℕ
faults_text e = if wrong_in e then circle_text e.is_endless ++ wrong_text e.outcomes.items else codes "nothing is wrong\n"

-- the lines at the head: how many states, orders, outcomes and endings there are
abbrev pub figures_text : Exploration → List ℕ
figures_text e =
    codes "states " ++ (decimal e.states ++ (codes "\norders " ++ (decimal (at_most_orders (orders_to e.outcomes.items)) ++ (codes "\noutcomes " ++ (decimal (length e.outcomes.items) ++ (codes "\nendings " ++ (decimal (count_below (is_first e.outcomes.items) (length e.outcomes.items)) ++ codes "\n")))))))

-- an exploration at a glance: the figures, what is wrong, and each ending
abbrev pub summary_text : Exploration → List ℕ
summary_text e = figures_text e ++ (faults_text e ++ blocks_text e.outcomes.items)
