-- Passes are dealt, and joined.
use Rattle.std.proofs.Common.{ℕ, zero, suc, ◌≡◌, ◌∙◌, ◌+◌, ◌++◌, Bool, List, [], ◌∷◌, map, sym, ap, arith}
use Rattle.std.proofs.lemmas.List.{append-nil, append_assoc, map_push}
use Rattle.std.specs.List.{range_with_len}
use Rattle.std.specs.Prelude.{Some}
use Rattle.pm_board.specs.declared.board.View.{View}
use Rattle.pm_board.specs.Views.{first_now, newcomers_from, united, RunsFrom, Sits}
use Rattle.pq.specs.Queue.{queue}
use Rattle.pq.specs.declared.calls.Doing.{Doing}
use Rattle.pq.specs.declared.calls.Response.{Response}
use Rattle.pq_seats.specs.Places.{IsKnown, IsMemory, TablePlace, sole}
use Rattle.pq_seats.specs.declared.pass.Pass.{Pass}
use Rattle.pq_seats.proofs.Knowing.{known_by}

last : (a n j : ℕ) → a + n ≡ j → range_with_len a (suc n) ≡ range_with_len a n ++ j ∷ []
last a zero j e = let same : a ≡ j = omega arith in ap (λ k. k ∷ []) same
last a (suc n) j e = ap (λ l. a ∷ l) (last (a + 1) n j (omega arith))

-- the numbers in order, with the next one after them, are one more of them
one_more : (a n j : ℕ) → a + n ≡ j → range_with_len a (n + 1) ≡ range_with_len a n ++ j ∷ []
one_more a n j e = let on : n + 1 ≡ suc n = omega arith in ap (range_with_len a) on ∙ last a n j e

-- one pass more, which is the next process's
pub in_order : (xs ys : List Pass) (x : Pass) (p : ℕ) → ys ≡ xs ++ x ∷ [] → x.process ≡ p → map (λ (q : Pass). q.process) xs ≡ range_with_len 0 p → map (λ (q : Pass). q.process) ys ≡ range_with_len 0 (p + 1)
in_order xs ys x p is own so_far = ap (map (λ (q : Pass). q.process)) is ∙ (map_push (λ (q : Pass). q.process) xs x ∙ ((λ i. so_far i ++ own i ∷ []) ∙ sym (one_more 0 p p (omega arith))))

-- a seat that is dealt is known: stopped, or between calls, and it has announced nothing
pub known_dealt : (s : TablePlace) (p : ℕ) (stopped : Bool) → Sits s.me p (first_now queue stopped) → IsKnown s p 0 stopped
known_dealt s p stopped h = known_by s p 0 stopped h.runs (λ so. h.does ∙ ap (first_now queue) so)

-- the seat that runs no process any more remembers alone
pub none_left : (s : TablePlace) (n : ℕ) (stopped : Bool) → RunsFrom queue n stopped n s.me → IsMemory s
none_left s n stopped h = λ i. (view h.rest.0 h.rest.1 h.rest.2 i, h.empty i) where
  view : (k : ℕ) → n + k ≡ n → s.me.0 ≡ record { entries = newcomers_from (first_now queue stopped) (Some h.seen) n k; past = s.me.0.past } → s.me.0 ≡ record { entries = []; past = s.me.0.past }
  view zero e is = is
  view (suc k) e is = absurd (omega (arith, e))

-- the processes of a seat, and that of one pass more
pub one_joined : (v : View Doing Response) (x : Pass) (rest : List Pass) → (united v x.place.me.0).entries ++ map (λ (p : Pass). sole p.place) rest ≡ v.entries ++ map (λ (p : Pass). sole p.place) (x ∷ rest)
one_joined v x rest = ap (λ m. (v.entries ++ m.0.entries) ++ map (λ (p : Pass). sole p.place) rest) x.known.alone ∙ append_assoc v.entries (sole x.place ∷ []) (map (λ (p : Pass). sole p.place) rest)

-- a pass remembers nothing of its own
pub same_past : (x : Pass) (v : View Doing Response) → (united v x.place.me.0).past ≡ v.past
same_past x v = ap (λ m. v.past ++ m.0.past) x.known.alone ∙ append-nil v.past
