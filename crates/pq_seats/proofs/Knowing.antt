-- What a pass knows before a call, and after it.
use Rattle.std.proofs.Common.{ℕ, ◌≡◌, ◌∙◌, ◌<◌, ◌≤◌, ◌+◌, ◌*◌, Bool, true, false, List, [], refl, sym, ap, subst, arith}
use Rattle.std.proofs.lemmas.Bool.{false≢true}
use Rattle.std.specs.Prelude.{Option, Some, None, MatchBool, MatchOption}
use Rattle.atomic_table.specs.Table.{Me}
use Rattle.pm_board.specs.declared.board.View.{View}
use Rattle.pm_board.specs.declared.fuse.Steps.{Steps}
use Rattle.pm_board.specs.Fuses.{Asked}
use Rattle.pm_board.specs.Views.{RunsOne, Sits, deeds_at, first_in, lone, seen_at, seen_so_far}
use Rattle.pq.specs.declared.calls.Doing.{Doing}
use Rattle.pq.specs.declared.calls.Doing.TheVariants.{Idle, Stopped}
use Rattle.pq.specs.declared.calls.Ended.{Ended}
use Rattle.pq.specs.declared.calls.Ended.TheVariants as ended
use Rattle.pq.specs.declared.calls.Response.{Response}
use Rattle.pq_shared.specs.Endings.{BreaksDequeue, BreaksEnqueue, BreaksRecovery, IsDequeued, IsEnqueued, IsRecovered, RecoverLeaves}
use Rattle.pq_shared.specs.declared.calls.Operation.{Operation}
use Rattle.pq_shared.specs.declared.calls.Recovery.{Recovery}
use Rattle.pq_seats.specs.Calls.{Dequeues, Enqueues, Moves, Recovers, goes_on, is_found, next_after, next_of}
use Rattle.pq_seats.specs.Places.{IsKnown, TablePlace, sole}
use Rattle.pq_seats.specs.declared.pass.Pass.{Pass}

abbrev Sat : Type 0
Sat = Me ℕ (View Doing Response)

-- a pass that is not stopped sits between calls
pub sits_of : (s : TablePlace) (p a : ℕ) → IsKnown s p a false → Sits s.me p (Idle a)
sits_of s p a k = record { runs = record { seat = sole s; at = k.alone; own = k.process_is; seen = seen_at s.me; looked = k.looked }; does = k.idle refl }

-- a pass runs its process alone
pub runs_of : (s : TablePlace) (p a : ℕ) (b : Bool) → IsKnown s p a b → RunsOne s.me p
runs_of s p a b k = record { seat = sole s; at = k.alone; own = k.process_is; seen = seen_at s.me; looked = k.looked }

pub known_by : (s : TablePlace) (p a : ℕ) (b : Bool) (r : RunsOne s.me p) → (b ≡ false → r.seat.now ≡ Idle a) → IsKnown s p a b
known_by s p a b r idle =
    let one : sole s ≡ r.seat = ap (λ (m : Sat). first_in Stopped m.0.entries) r.at in record {
      alone = r.at ∙ ap (λ e. (lone e, [])) (sym one);
      process_is = ap (λ e. e.process) one ∙ r.own;
      idle = λ so. ap (λ e. e.now) one ∙ idle so;
      looked = ap (λ e. e.deeds.seen) one ∙ (r.looked ∙ ap Some (sym (ap (λ (m : Sat). seen_so_far (deeds_at m).seen) r.at ∙ ap seen_so_far r.looked)));
    }

-- a seat whose process is between calls is known so
pub known_idle : (s : TablePlace) (p a : ℕ) → Sits s.me p (Idle a) → IsKnown s p a false
known_idle s p a h = known_by s p a false h.runs (λ so. h.does)

-- and one whose process has to recover
pub known_stopped : (s : TablePlace) (p a : ℕ) → RunsOne s.me p → IsKnown s p a true
known_stopped s p a r = known_by s p a true r (λ so. absurd (false≢true (sym so)))

-- ---- fuses

-- what a fuse of this many steps has said
abbrev pub said : Steps → Steps → ℕ → ℕ → Type 0
said first now yeses noes = (first.left ≡ now.left + yeses) × (0 < noes → now.left ≡ 0)

pub few : (f g : Steps) (fuse n noes : ℕ) → f.left ≡ fuse → Asked said f g n noes → n ≤ fuse
few f g fuse n noes is h = let sum = (h f 0 0 ((omega arith), (λ no. absurd (omega (arith, no))))).0 in omega (arith, sum, is)

pub full : (f g : Steps) (fuse n : ℕ) → f.left ≡ fuse → Asked said f g n 1 → n ≡ fuse
full f g fuse n is h =
    let both = h f 0 0 ((omega arith), (λ no. absurd (omega (arith, no)))) in
    let sum = both.0 in
    let empty : g.left ≡ 0 = both.1 (omega arith) in
    omega (arith, sum, is, empty)

-- ---- operations

-- the operation that a pass begins
abbrev pub Begins : Pass → Operation → Type 0
Begins old o = o ≡ record { process = old.process; last = old.announced; number = next_of old }

pub enqueues : (m value fuse : ℕ) (old new : Pass) (o : Operation) (f g : Steps) (how : Option Ended) → Begins old o → f.left ≡ fuse
    → MatchOption how ((n : ℕ) × Asked said f g n 1 × BreaksEnqueue old.place.me new.place.me m o.process o.number value n) (λ e. (n : ℕ) × Asked said f g n 0 × IsEnqueued old.place.me new.place.me m o.process o.number value e n)
    → Moves how old new → Enqueues m value fuse old new how
enqueues m value fuse old new o f g None begins is h moves = record {
  taken = h.0;
  few = few f g fuse h.0 1 is h.1;
  ends = (subst (λ (u : Operation). BreaksEnqueue old.place.me new.place.me m u.process u.number value h.0) begins h.2, full f g fuse h.0 is h.1);
  moves = moves;
}
enqueues m value fuse old new o f g (Some e) begins is h moves = record {
  taken = h.0;
  few = few f g fuse h.0 0 is h.1;
  ends = subst (λ (u : Operation). IsEnqueued old.place.me new.place.me m u.process u.number value e h.0) begins h.2;
  moves = moves;
}

pub dequeues : (m fuse : ℕ) (old new : Pass) (o : Operation) (f g : Steps) (how : Option Ended) → Begins old o → f.left ≡ fuse
    → MatchOption how ((n : ℕ) × Asked said f g n 1 × BreaksDequeue old.place.me new.place.me m o.process o.number n) (λ e. (n : ℕ) × Asked said f g n 0 × IsDequeued old.place.me new.place.me m o.process o.number e n)
    → Moves how old new → Dequeues m fuse old new how
dequeues m fuse old new o f g None begins is h moves = record {
  taken = h.0;
  few = few f g fuse h.0 1 is h.1;
  ends = (subst (λ (u : Operation). BreaksDequeue old.place.me new.place.me m u.process u.number h.0) begins h.2, full f g fuse h.0 is h.1);
  moves = moves;
}
dequeues m fuse old new o f g (Some e) begins is h moves = record {
  taken = h.0;
  few = few f g fuse h.0 0 is h.1;
  ends = subst (λ (u : Operation). IsDequeued old.place.me new.place.me m u.process u.number e h.0) begins h.2;
  moves = moves;
}

pub moves_on : (how : Option Ended) (old new : Pass) → goes_on how ≡ true → new.process ≡ old.process → new.stopped ≡ false → new.next ≡ old.next + 1 → Moves how old new
moves_on how old new is process runs next = record { process = process; goes = λ yes. (runs, next); stops = λ no. absurd (false≢true (sym no ∙ is)) }

pub moves_off : (how : Option Ended) (old new : Pass) → goes_on how ≡ false → new.process ≡ old.process → new.stopped ≡ true → Moves how old new
moves_off how old new is process stops = record { process = process; goes = λ yes. absurd (false≢true (sym is ∙ yes)); stops = λ no. stops }

-- where an enqueue goes on, its process is between calls
pub after_enqueue : (A : ℕ → Type 0) (B : ℕ → Type 0) (old me : Sat) (m p i x : ℕ) (how : Option Ended) → goes_on how ≡ true
    → MatchOption how ((n : ℕ) × A n × BreaksEnqueue old me m p i x n) (λ e. (n : ℕ) × B n × IsEnqueued old me m p i x e n) → Sits me p (Idle (2 * i))
after_enqueue A B old me m p i x None is h = absurd (false≢true is)
after_enqueue A B old me m p i x (Some ended.Enqueued) is h = subst (λ d. Sits me p d) h.2.leaves.0 h.2.sits
after_enqueue A B old me m p i x (Some (ended.Got v)) is h = absurd h.2.leaves
after_enqueue A B old me m p i x (Some ended.Empty) is h = absurd h.2.leaves
after_enqueue A B old me m p i x (Some (ended.Recovered f)) is h = absurd h.2.leaves
after_enqueue A B old me m p i x (Some ended.Torn) is h = absurd (false≢true is)

-- so it is with a dequeue
pub after_dequeue : (A : ℕ → Type 0) (B : ℕ → Type 0) (old me : Sat) (m p i : ℕ) (how : Option Ended) → goes_on how ≡ true
    → MatchOption how ((n : ℕ) × A n × BreaksDequeue old me m p i n) (λ e. (n : ℕ) × B n × IsDequeued old me m p i e n) → Sits me p (Idle (2 * i + 1))
after_dequeue A B old me m p i None is h = absurd (false≢true is)
after_dequeue A B old me m p i (Some (ended.Got v)) is h = subst (λ d. Sits me p d) h.2.leaves.0 h.2.sits
after_dequeue A B old me m p i (Some ended.Empty) is h = subst (λ d. Sits me p d) h.2.leaves.0 h.2.sits
after_dequeue A B old me m p i (Some ended.Enqueued) is h = absurd h.2.leaves
after_dequeue A B old me m p i (Some (ended.Recovered f)) is h = absurd h.2.leaves
after_dequeue A B old me m p i (Some ended.Torn) is h = absurd (false≢true is)

-- ---- recoveries

leaves_idle : (e : Ended) (u : ℕ) (now : Doing) (answers : List Response) → is_found e ≡ true → RecoverLeaves u e now answers → now ≡ Idle u
leaves_idle (ended.Recovered f) u now answers is h = h.0
leaves_idle ended.Enqueued u now answers is h = absurd (false≢true is)
leaves_idle (ended.Got x) u now answers is h = absurd (false≢true is)
leaves_idle ended.Empty u now answers is h = absurd (false≢true is)
leaves_idle ended.Torn u now answers is h = absurd (false≢true is)

-- where a recovery has found what came of the last operation, its process is between calls
pub after_recovery : (old me : Sat) (m p n : ℕ) (r : Recovery) → is_found r.ended ≡ true → IsRecovered old me m p r n → Sits me p (Idle r.announced)
after_recovery old me m p n r is h = subst (λ d. Sits me p d) (leaves_idle r.ended r.announced h.now h.answers is h.leaves) h.sits

pub recovers : (m fuse : ℕ) (old new : Pass) (f g : Steps) (r : Recovery) → f.left ≡ fuse → new.process ≡ old.process
    → (n : ℕ) × Asked said f g n 0 × IsRecovered old.place.me new.place.me m old.process r n
    → MatchBool (is_found r.ended) ((new.stopped ≡ false) × (new.next ≡ next_after old.process r.announced)) (new.stopped ≡ true)
    → Recovers m fuse old new (Some r)
recovers m fuse old new f g r is process h goes = record { taken = h.0; few = few f g fuse h.0 0 is h.1; ends = h.2; process = process; goes = goes }

pub recovery_stops : (m fuse : ℕ) (old new : Pass) (f g : Steps) → f.left ≡ fuse → new.process ≡ old.process
    → (n : ℕ) × Asked said f g n 1 × BreaksRecovery old.place.me new.place.me m old.process n
    → new.stopped ≡ true → Recovers m fuse old new None
recovery_stops m fuse old new f g is process h stops = record { taken = h.0; few = few f g fuse h.0 1 is h.1; ends = (h.2, full f g fuse h.0 is h.1); process = process; goes = stops }

-- what is so of the one truth value is so where it is that one
pub where_true : (b : Bool) (A B : Type 0) → b ≡ true → A → MatchBool b A B
where_true true A B is here = here
where_true false A B is here = absurd (false≢true is)

pub where_false : (b : Bool) (A B : Type 0) → b ≡ false → B → MatchBool b A B
where_false false A B is here = here
where_false true A B is here = absurd (false≢true (sym is))
