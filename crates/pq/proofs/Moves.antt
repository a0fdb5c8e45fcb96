-- What an access makes of the words, and of what the others know.
use Rattle.std.proofs.Common.{ℕ, ◌≤◌, ◌≡◌, ◌≢◌, ◌⊎◌, ◌+◌, ◌*◌, ◌<◌, refl, sym, ap, subst, ◌∙◌, inl, inr, arith, List, [], ◌∷◌, ◌++◌, length}
use mathlib.Core.Logic.{dite}
use native.Mathlib.Decide.{ℕ_discrete}
use Rattle.ds_words.specs.declared.access.Class.TheVariants.{Owned}
use Rattle.ds_words.specs.declared.access.BufferEntry.{BufferEntry}
use Rattle.ds_words.specs.declared.words.TheConstants.{BUFFER_ENTRIES}
use Rattle.ds_words.specs.declared.access.Access.{Access}
use Rattle.ds_words.specs.Memory.{Performs, Memory, StoresAt, FlushesAt, WritesBack, BacksFirst, EvictsAt}
use Rattle.pm_base.specs.Structures.{Calls, StepsOf, In, World, put, HasFirst, GoesTelling}
use Rattle.pm_base.proofs.Puts.{put_here, put_else}
use Rattle.pq.specs.Places.{Belongs, nodes}
use Rattle.pq.specs.History.{History, Side, Words, side_of, words_of, Spent}
use Rattle.pq.specs.Sound.{IsSound}
use Rattle.pq.specs.Knows.{Knows, InTime, tail_place, head_place, buffer_at, entry}
use Rattle.pq.specs.Queue.{LeavesOut, IsTrueResponse, step_then, queue}
use Rattle.pq.specs.declared.calls.Doing.{Doing}
use Rattle.pq.specs.declared.calls.Response.{Response}
use Rattle.pq.proofs.Numbers.{kinds_apart, same_node}
use Rattle.pq.proofs.Sides.{stored, Persisted}
use Rattle.pq.proofs.Later.{Later, time_stays, knows_stays, answered_stays}

-- ---- words

pub same_words : (m m2 : Memory ℕ) → ((r : ℕ) → m2.cached r ≡ m.cached r) → ((r : ℕ) → m2.persisted r ≡ m.persisted r) → words_of m2 ≡ words_of m
same_words m m2 c k = ap (λ (f : (ℕ → ℕ) × (ℕ → ℕ)). words_of (record { cached = f.0; persisted = f.1; buffer = m.buffer })) (λ i. ((λ r. c r i), (λ r. k r i)))

side_stored : (m m2 : Memory ℕ) (a kind u : ℕ) → StoresAt (8 * a + kind) u m m2 → side_of m2 kind ≡ stored (side_of m kind) a u
side_stored m m2 a kind u s =
    let there : (b : ℕ) → m2.cached (8 * b + kind) ≡ put (side_of m kind).now a u b = λ b. dite (ℕ_discrete b a)
    (λ same. subst (λ (z : ℕ). m2.cached (8 * z + kind) ≡ u) (sym same) s.there ∙ sym (put_here (side_of m kind).now a u b same))
    (λ ne. s.elsewhere (8 * b + kind) (λ e. ne (same_node b a kind e)) ∙ sym (put_else (side_of m kind).now a u b ne)) in
    λ i. record { now = λ b. there b i; kept = λ b. s.persisted (8 * b + kind) i }

side_other : (m m2 : Memory ℕ) (a kind other u : ℕ) → kind < 8 → other < 8 → other ≢ kind → StoresAt (8 * a + kind) u m m2 → side_of m2 other ≡ side_of m other
side_other m m2 a kind other u lk lo ne s = λ i. record { now = λ b. s.elsewhere (8 * b + other) (kinds_apart b a other kind lo lk ne) i; kept = λ b. s.persisted (8 * b + other) i }

-- the words of which these are the sides, by kind
abbrev words_by : (ℕ → Side) → Words
words_by side = record { next = side 0; taker = side 1; value = side 2; linked = side 3; result = side 4; announce = side 5; tail = side 6; head = side 7 }

words_agree : (f g : ℕ → Side) → ((kind : ℕ) → kind < 8 → f kind ≡ g kind) → words_by f ≡ words_by g
words_agree f g h = λ i. record {
  next = h 0 (omega arith) i;
  taker = h 1 (omega arith) i;
  value = h 2 (omega arith) i;
  linked = h 3 (omega arith) i;
  result = h 4 (omega arith) i;
  announce = h 5 (omega arith) i;
  tail = h 6 (omega arith) i;
  head = h 7 (omega arith) i;
}

module _ (m m2 : Memory ℕ) (a u : ℕ) where
  -- a store changes the side of its kind alone
  one_stored : (kind : ℕ) → kind < 8 → StoresAt (8 * a + kind) u m m2 → words_of m2 ≡ words_by (put (side_of m) kind (stored (side_of m kind) a u))
  one_stored kind low s = words_agree (side_of m2) (put (side_of m) kind (stored (side_of m kind) a u)) (λ k lk. dite (ℕ_discrete k kind)
      (λ same. subst (λ (z : ℕ). side_of m2 z ≡ stored (side_of m kind) a u) (sym same) (side_stored m m2 a kind u s) ∙ sym (put_here (side_of m) kind (stored (side_of m kind) a u) k same))
      (λ ne. side_other m m2 a kind k u low lk ne s ∙ sym (put_else (side_of m) kind (stored (side_of m kind) a u) k ne)))

  pub next_stored : StoresAt (8 * a + 0) u m m2 → words_of m2 ≡ record (words_of m) { next = stored (side_of m 0) a u }
  next_stored = one_stored 0 (omega arith)

  pub taker_stored : StoresAt (8 * a + 1) u m m2 → words_of m2 ≡ record (words_of m) { taker = stored (side_of m 1) a u }
  taker_stored = one_stored 1 (omega arith)

  pub value_stored : StoresAt (8 * a + 2) u m m2 → words_of m2 ≡ record (words_of m) { value = stored (side_of m 2) a u }
  value_stored = one_stored 2 (omega arith)

  pub linked_stored : StoresAt (8 * a + 3) u m m2 → words_of m2 ≡ record (words_of m) { linked = stored (side_of m 3) a u }
  linked_stored = one_stored 3 (omega arith)

  pub result_stored : StoresAt (8 * a + 4) u m m2 → words_of m2 ≡ record (words_of m) { result = stored (side_of m 4) a u }
  result_stored = one_stored 4 (omega arith)

  pub announce_stored : StoresAt (8 * a + 5) u m m2 → words_of m2 ≡ record (words_of m) { announce = stored (side_of m 5) a u }
  announce_stored = one_stored 5 (omega arith)

  pub tail_stored : StoresAt (8 * a + 6) u m m2 → words_of m2 ≡ record (words_of m) { tail = stored (side_of m 6) a u }
  tail_stored = one_stored 6 (omega arith)

  pub head_stored : StoresAt (8 * a + 7) u m m2 → words_of m2 ≡ record (words_of m) { head = stored (side_of m 7) a u }
  head_stored = one_stored 7 (omega arith)

-- words that were written back, or not
pub persisted_of : (m m2 : Memory ℕ) → ((r : ℕ) → m2.cached r ≡ m.cached r) → ((r : ℕ) → (m2.persisted r ≡ m.persisted r) ⊎ (m2.persisted r ≡ m.cached r)) → Persisted (words_of m) (words_of m2)
persisted_of m m2 c k = record {
  next = λ a. (c (8 * a + 0), k (8 * a + 0));
  taker = λ a. (c (8 * a + 1), k (8 * a + 1));
  value = λ a. (c (8 * a + 2), k (8 * a + 2));
  linked = λ a. (c (8 * a + 3), k (8 * a + 3));
  result = λ a. (c (8 * a + 4), k (8 * a + 4));
  announce = λ a. (c (8 * a + 5), k (8 * a + 5));
  tail = λ a. (c (8 * a + 6), k (8 * a + 6));
  head = λ a. (c (8 * a + 7), k (8 * a + 7));
}

-- where the buffer has one entry, that is written back
pub one_back : (p : ℕ) (m m2 : Memory ℕ) (y : BufferEntry ℕ) → m.buffer p ≡ y ∷ [] → BacksFirst p m m2 → WritesBack p y [] m m2
one_back p m m2 y is k =
    let both : y ∷ [] ≡ k.0 ∷ k.1 = sym is ∙ k.2.oldest in
    let one : k.0 ≡ y = cc in
    let none : k.1 ≡ [] = cc in
    subst (λ (z : BufferEntry ℕ × List (BufferEntry ℕ)). WritesBack p z.0 z.1 m m2) (λ i. (one i, none i)) k.2

pub back_persists : (p place u : ℕ) (m m2 : Memory ℕ) → m.cached place ≡ u → WritesBack p (entry place u) [] m m2 → Persisted (words_of m) (words_of m2)
back_persists p place u m m2 is k = persisted_of m m2 k.cached (λ r. dite (ℕ_discrete r place)
    (λ same. inr (ap m2.persisted same ∙ (k.there ∙ (sym is ∙ ap m.cached (sym same)))))
    (λ ne. inl (k.elsewhere r ne)))

pub evict_persists : (r : ℕ) (m m2 : Memory ℕ) → EvictsAt r m m2 → Persisted (words_of m) (words_of m2)
evict_persists r m m2 k = persisted_of m m2 k.cached (λ b. dite (ℕ_discrete b r)
    (λ same. inr (ap m2.persisted same ∙ (k.there ∙ ap m.cached (sym same))))
    (λ ne. inl (k.elsewhere b ne)))

-- the buffer after a flush of an empty one
pub flushed_one : (p place u : ℕ) (m m2 : Memory ℕ) → m.buffer p ≡ [] → m.cached place ≡ u → FlushesAt p place Owned m m2 → m2.buffer p ≡ entry place u ∷ []
flushed_one p place u m m2 none is k = k.mine ∙ (λ i. none i ++ entry place (is i) ∷ [])

pub has_room : (b : List (BufferEntry ℕ)) → b ≡ [] → length b < BUFFER_ENTRIES
has_room b none = subst (λ (z : List (BufferEntry ℕ)). length z < BUFFER_ENTRIES) (sym none) (omega arith)

pub has_first : (n place u : ℕ) (b : List (BufferEntry ℕ)) → place < n → b ≡ entry place u ∷ [] → HasFirst n b
has_first n place u b low is = subst (HasFirst n) (sym is) low

-- ---- a process moves

abbrev pub Queue : Type 0
Queue = World Doing History

abbrev pub moved : Queue → Memory ℕ → ℕ → Doing → History → Queue
moved w memory p now history = record { memory = memory; situation = put w.situation p now; hidden = history }

pub record Move (n : ℕ) (w : Queue) (p : ℕ) (m2 : Memory ℕ) (now : Doing) (says : List Response) (history : History) : Type 0 where
  pub operation : ℕ
  pub words : Words
  pub is : words_of m2 ≡ words
  pub sound : IsSound (nodes n) words history
  pub later : Later operation p (words_of w.memory) w.hidden words history
  pub others : (q : ℕ) → q ≢ p → m2.buffer q ≡ w.memory.buffer q
  pub mine : m2.buffer p ≡ buffer_at p now
  pub knows : Knows words history p now
  pub time : InTime (nodes n) words history now
  pub tails : tail_place (words_of w.memory) w.hidden ≤ tail_place words history
  pub heads : head_place (words_of w.memory) w.hidden ≤ head_place words history
  pub apart : (q j : ℕ) → q ≢ p → Belongs q j → j ≢ operation
  pub leaves : (j : ℕ) → Belongs p j → Spent (words_of w.memory).announce p j → LeavesOut j (w.situation p) → (j ≢ operation) × LeavesOut j now
  pub tells : (t : Response) → In says t → IsTrueResponse words history p now t

module _ (n : ℕ) (w : Queue) (p : ℕ) (m2 : Memory ℕ) (now : Doing) (says : List Response) (history : History) (sound : queue.sound n w) (low : p < n) (d : Move n w p m2 now says history) where
  here_now : put w.situation p now p ≡ now
  here_now = put_here w.situation p now p refl

  same_now : (q : ℕ) → q ≢ p → put w.situation p now q ≡ w.situation q
  same_now q ne = put_else w.situation p now q ne

  knows_each : (q : ℕ) → q < n → Knows (words_of m2) history q (put w.situation p now q) × (m2.buffer q ≡ buffer_at q (put w.situation p now q)) × InTime (nodes n) (words_of m2) history (put w.situation p now q)
  knows_each q lq = dite (ℕ_discrete q p)
      (λ same. subst (λ (z : ℕ). Knows (words_of m2) history z (put w.situation p now z) × (m2.buffer z ≡ buffer_at z (put w.situation p now z)) × InTime (nodes n) (words_of m2) history (put w.situation p now z)) (sym same)
      (subst (λ (z : Words × Doing). Knows z.0 history p z.1 × (m2.buffer p ≡ buffer_at p z.1) × InTime (nodes n) z.0 history z.1) (λ i. (sym d.is i, sym here_now i)) (d.knows, d.mine, d.time)))
      (λ ne. subst (λ (z : Words × Doing). Knows z.0 history q z.1 × (m2.buffer q ≡ buffer_at q z.1) × InTime (nodes n) z.0 history z.1) (λ i. (sym d.is i, sym (same_now q ne) i)) (
        knows_stays (nodes n) d.operation p (words_of w.memory) w.hidden d.words history sound.0 d.later q ne (λ j b. d.apart q j ne b) (w.situation q) (sound.1 q lq).0,
        d.others q ne ∙ (sound.1 q lq).1,
        time_stays (nodes n) d.operation p (words_of w.memory) w.hidden d.words history sound.0 d.later q ne (λ j b. d.apart q j ne b) (w.situation q) d.tails d.heads (sound.1 q lq).0 (sound.1 q lq).2,
      ))

  answered_each : (q : ℕ) (t : Response) → queue.is_right n w q t → queue.is_right n (moved w m2 p now history) q t
  answered_each q t h = (
    h.0,
    subst (λ (z : Words). IsTrueResponse z history q (put w.situation p now q) t) (sym d.is) (dite (ℕ_discrete q p)
        (λ same. subst (λ (z : ℕ). IsTrueResponse d.words history z (put w.situation p now z) t) (sym same)
        (subst (λ (z : Doing). IsTrueResponse d.words history p z t) (sym here_now)
        (answered_stays (nodes n) d.operation p (words_of w.memory) w.hidden d.words history sound.0 d.later p (w.situation p) now t d.leaves (subst (λ (z : ℕ). IsTrueResponse (words_of w.memory) w.hidden z (w.situation z) t) same h.1))))
        (λ ne. subst (λ (z : Doing). IsTrueResponse d.words history q z t) (sym (same_now q ne))
        (answered_stays (nodes n) d.operation p (words_of w.memory) w.hidden d.words history sound.0 d.later q (w.situation q) (w.situation q) t (λ j b sp out. (d.apart q j ne b, out)) h.1))),
  )

  pub goes_on : GoesTelling queue n w (moved w m2 p now history) p says
  goes_on = record {
    sound = (subst (λ (z : Words). IsSound (nodes n) z history) (sym d.is) d.sound, knows_each);
    keeps = answered_each;
    tells = λ t inside. (low, subst (λ (z : Words × Doing). IsTrueResponse z.0 history p z.1 t) (λ i. (sym d.is i, sym here_now i)) (d.tells t inside));
  }

-- each step of a call of this kind is a move
abbrev pub KindMoves : {C E : Type 0} → ℕ → Calls ℕ Doing Response C E → Type 0
KindMoves {C} n c = (w : Queue) (call : C) (m2 : Memory ℕ) (answer : ℕ) → queue.sound n w → c.process call < n → w.situation (c.process call) ≡ c.doing call → c.fits n call → c.goes call → Performs (queue.class_in n) (c.access n call) (c.process call) w.memory m2 answer
    → Move n w (c.process call) m2 (c.doing (c.next call answer)) (c.says (c.next call answer)) (step_then w.hidden (words_of w.memory) (w.situation (c.process call)))

pub kind_moves : {C E : Type 0} (n : ℕ) (c : Calls ℕ Doing Response C E) → KindMoves n c → (w : Queue) (p : ℕ) (access : Access ℕ) (answer : ℕ) (now : Doing) (says : List Response) (m2 : Memory ℕ) → queue.sound n w → p < n
    → StepsOf c n p (w.situation p) access answer now says → Performs (queue.class_in n) access p w.memory m2 answer → Move n w p m2 now says (step_then w.hidden (words_of w.memory) (w.situation p))
kind_moves n c each w p access answer now says m2 sound low k performs =
    let low2 : c.process k.call < n = subst (λ (q : ℕ). q < n) (sym k.own) low in
    let at : w.situation (c.process k.call) ≡ c.doing k.call = ap w.situation k.own ∙ k.at in
    let does_so : Performs (queue.class_in n) (c.access n k.call) (c.process k.call) w.memory m2 answer = subst (λ (z : Access ℕ × ℕ). Performs (queue.class_in n) z.0 z.1 w.memory m2 answer) (λ i. (k.asks i, sym k.own i)) performs in
    subst (λ (z : ℕ × Doing × List Response). Move n w z.0 m2 z.1 z.2 (step_then w.hidden (words_of w.memory) (w.situation z.0))) (λ i. (k.own i, sym k.lands i, sym k.tells i)) (each w k.call m2 answer sound low2 at k.fits k.goes does_so)
