-- How many shows are under way after one process goes on to something else.
use Rattle.std.proofs.Common.{ℕ, ◌≡◌, ◌<◌, ◌≤◌, ◌+◌, List, [], ◌∷◌, ◌++◌, length, get_or, set, take, replicate, refl, ap, sym, ◌∙◌, arith, zero, suc}
use Rattle.std.proofs.lemmas.List.{take_more}
use Rattle.ds_state.specs.Underway.{reports_in, shows_under_way}
use Rattle.ds_state.specs.declared.situation.Situation.{Situation}
use Rattle.ds_state.specs.declared.situation.Situation.TheVariants.{Idle, Stopped, Editing, Working, Recovering, Showing, Migrating}
use Rattle.ds_state.specs.declared.situation.Rest.{Rest}

-- the one that goes on is counted by its new situation, in place of its old one
pub after_set : (ss : List Situation) (p : ℕ) (s d : Situation) → p < length ss → shows_under_way (set ss p s) + reports_in (get_or ss p d) ≡ shows_under_way ss + reports_in s
after_set [] p s d l = absurd (omega arith)
after_set (x ∷ xs) zero s d l = omega arith
after_set (x ∷ xs) (suc p) s d l = let h = after_set xs p s d (omega arith) in omega arith

-- where it is no show, there are no more than before
pub no_more : (ss : List Situation) (p : ℕ) (s : Situation) (settled most : ℕ) → p < length ss → reports_in s ≡ 0 → settled + shows_under_way ss ≤ most → settled + shows_under_way (set ss p s) ≤ most
no_more ss p s settled most l none h = let k = after_set ss p s s l in omega arith

-- one process has at most one show under way
pub at_most_one : (s : Situation) → reports_in s ≤ 1
at_most_one (Idle next) = omega arith
at_most_one Stopped = omega arith
at_most_one (Editing e) = omega arith
at_most_one (Working e) = omega arith
at_most_one (Recovering e) = omega arith
at_most_one (Showing e) = omega arith
at_most_one (Migrating e) = omega arith

pub at_most_all : (ss : List Situation) → shows_under_way ss ≤ length ss
at_most_all [] = omega arith
at_most_all (s ∷ ss) = let a = at_most_one s in let b = at_most_all ss in omega arith

-- none where all are idle
pub none_idle : (n : ℕ) (next : Rest) → shows_under_way (replicate n (Idle next)) ≡ 0
none_idle zero next = refl
none_idle (suc n) next = let h = none_idle n next in omega arith

pub one_more : (ss : List Situation) (s : Situation) → shows_under_way (ss ++ s ∷ []) ≡ shows_under_way ss + reports_in s
one_more [] s = omega arith
one_more (x ∷ xs) s = let h = one_more xs s in omega arith

-- among the first n, with one more
pub one_further : (ss : List Situation) (i : ℕ) (s : Situation) → i < length ss → s ≡ get_or ss i s → shows_under_way (take (i + 1) ss) ≡ shows_under_way (take i ss) + reports_in s
one_further ss i s l is = ap shows_under_way (take_more ss i s l ∙ ap (λ (x : Situation). take i ss ++ x ∷ []) (sym is)) ∙ one_more (take i ss) s

-- the first n processes have at most m shows under way
pub at_most_so_many : (ss : List Situation) (i : ℕ) → shows_under_way (take i ss) ≤ i
at_most_so_many ss zero = omega arith
at_most_so_many [] (suc i) = omega arith
at_most_so_many (s ∷ ss) (suc i) = let a = at_most_one s in let b = at_most_so_many ss i in omega arith

-- none where no process shows the sheet
pub none_where : (ss : List Situation) (d : Situation) → ((p : ℕ) → p < length ss → reports_in (get_or ss p d) ≡ 0) → shows_under_way ss ≡ 0
none_where [] d h = refl
none_where (s ∷ ss) d h = let a = h 0 (omega arith) in let b = none_where ss d (λ p l. h (suc p) (omega arith)) in omega arith
