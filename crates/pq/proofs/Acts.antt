-- The moves of a process by the kind of its access.
use Rattle.std.proofs.Common.{ℕ, ◌≡◌, ◌≢◌, ◌<◌, refl, ◌∙◌, List, [], Bool, true, false, if◌then◌else◌, nat_lt, le_refl, arith, sym, subst, ◌≤◌}
use Rattle.std.proofs.lemmas.Bool.{lt-ltb}
use Rattle.ds_words.specs.declared.access.Class.TheVariants.{Owned}
use Rattle.ds_words.specs.Memory.{Memory, SameMemory, StoresAt, FlushesAt, WritesBack}
use Rattle.pm_base.specs.Structures.{In}
use Rattle.pq.specs.Places.{Belongs, nodes}
use Rattle.pq.specs.History.{History, Words, words_of, Spent}
use Rattle.pq.specs.Sound.{IsSound}
use Rattle.pq.specs.Knows.{Knows, EnqueueInTime, DequeueInTime, RecoverInTime, InTime, tail_place, head_place, buffer_at, entry}
use Rattle.pq.specs.Queue.{LeavesOut, IsTrueResponse}
use Rattle.pq.specs.declared.calls.Doing.{Doing}
use Rattle.pq.specs.declared.calls.Doing.TheVariants.{Idle, Enqueueing, Dequeueing, Recovering, Stopped, Torn}
use Rattle.pq.specs.declared.calls.Response.{Response}
use Rattle.pq.proofs.Logs.{Extends, extends_same}
use Rattle.pq.proofs.Sides.{Persisted, persisted_same}
use Rattle.pq.proofs.Later.{Later, later_persisted}
use Rattle.pq.proofs.Moves.{Queue, Move, same_words}

pub if_true : {X : Type 0} (b : Bool) (x y : X) → b ≡ true → x ≡ if b then x else y
if_true b x y e = rw e refl

pub if_false : {X : Type 0} (b : Bool) (x y : X) → b ≡ false → y ≡ if b then x else y
if_false b x y e = rw e refl

pub less_true : (a b : ℕ) → a < b → nat_lt a b ≡ true
less_true a b l = lt-ltb a b l

-- the turns last as long, where the tail and the head name the same nodes
pub time_same : (most : ℕ) (v v2 : Words) (h g : History) (now : Doing) → v2.tail.now 0 ≡ v.tail.now 0 → v2.head.now 0 ≡ v.head.now 0 → g.links.pos ≡ h.links.pos → InTime most v h now → InTime most v2 g now
time_same most v v2 h g (Idle u) tail head pos time = tt
time_same most v v2 h g (Enqueueing c) tail head pos time = subst (λ (z : (ℕ → ℕ) × ℕ). EnqueueInTime most z.0 (z.0 z.1) c.turns c.stage) (λ i. (sym pos i, sym tail i)) time
time_same most v v2 h g (Dequeueing c) tail head pos time = subst (λ (z : (ℕ → ℕ) × ℕ). DequeueInTime most z.0 (z.0 z.1) c.turns c.stage) (λ i. (sym pos i, sym head i)) time
time_same most v v2 h g (Recovering c) tail head pos time = subst (λ (z : ℕ → ℕ). RecoverInTime most z c.turns c.stage) (sym pos) time
time_same most v v2 h g Stopped tail head pos time = tt
time_same most v v2 h g Torn tail head pos time = tt

pub place_same : (f g : ℕ → ℕ) (a b : ℕ) → g ≡ f → b ≡ a → f a ≤ g b
place_same f g a b e d = (let x : g b ≡ f a = (λ i. e i (d i)) in omega (arith, x))

module _ (n : ℕ) (w : Queue) (p : ℕ) (m2 : Memory ℕ) (now : Doing) (says : List Response) (i : ℕ) (sound : IsSound (nodes n) (words_of w.memory) w.hidden)
    (apart : (q j : ℕ) → q ≢ p → Belongs q j → j ≢ i)
    (leaves : (j : ℕ) → Belongs p j → Spent (words_of w.memory).announce p j → LeavesOut j (w.situation p) → (j ≢ i) × LeavesOut j now) where
  -- no word changes
  pub stayed : ((r : ℕ) → m2.cached r ≡ w.memory.cached r) → ((r : ℕ) → m2.persisted r ≡ w.memory.persisted r) → ((q : ℕ) → q ≢ p → m2.buffer q ≡ w.memory.buffer q) → m2.buffer p ≡ buffer_at p now → Knows (words_of w.memory) w.hidden p now
      → ((t : Response) → In says t → IsTrueResponse (words_of w.memory) w.hidden p now t) → InTime (nodes n) (words_of w.memory) w.hidden now → Move n w p m2 now says w.hidden
  stayed c k others mine knows tells time = record {
    operation = i;
    words = words_of w.memory;
    is = same_words w.memory m2 c k;
    sound = sound;
    later = later_persisted i p (words_of w.memory) (words_of w.memory) w.hidden w.hidden (persisted_same (words_of w.memory)) (extends_same w.hidden.links i) (extends_same w.hidden.claims i) refl refl;
    others = others;
    mine = mine;
    knows = knows;
    time = time;
    tails = le_refl _;
    heads = le_refl _;
    apart = apart;
    leaves = leaves;
    tells = tells;
  }

  -- a load, or a swap that misses
  pub loaded : SameMemory w.memory m2 → w.memory.buffer p ≡ buffer_at p now → Knows (words_of w.memory) w.hidden p now → ((t : Response) → In says t → IsTrueResponse (words_of w.memory) w.hidden p now t) → InTime (nodes n) (words_of w.memory) w.hidden now → Move n w p m2 now says w.hidden
  loaded s mine knows tells time = stayed s.cached s.persisted (λ q ne. s.buffer q) (s.buffer p ∙ mine) knows tells time

  pub flushed : (place : ℕ) → FlushesAt p place Owned w.memory m2 → m2.buffer p ≡ buffer_at p now → Knows (words_of w.memory) w.hidden p now → ((t : Response) → In says t → IsTrueResponse (words_of w.memory) w.hidden p now t) → InTime (nodes n) (words_of w.memory) w.hidden now → Move n w p m2 now says w.hidden
  flushed place s mine knows tells time = stayed s.cached s.persisted s.others mine knows tells time

  -- a word is written back, and perhaps more of the logs is persisted
  pub backed : (place u : ℕ) (g : History) → WritesBack p (entry place u) [] w.memory m2 → Persisted (words_of w.memory) (words_of m2) → IsSound (nodes n) (words_of m2) g → Extends w.hidden.links g.links i → Extends w.hidden.claims g.claims i → g.value ≡ w.hidden.value → g.empty ≡ w.hidden.empty
      → [] ≡ buffer_at p now → Knows (words_of m2) g p now → ((t : Response) → In says t → IsTrueResponse (words_of m2) g p now t) → g.links.pos ≡ w.hidden.links.pos → InTime (nodes n) (words_of w.memory) w.hidden now → Move n w p m2 now says g
  backed place u g s e sound2 l c val em mine knows tells pos time = record {
    operation = i;
    words = words_of m2;
    is = refl;
    sound = sound2;
    later = later_persisted i p (words_of w.memory) (words_of m2) w.hidden g e l c val em;
    others = s.others;
    mine = s.mine ∙ mine;
    knows = knows;
    time = time_same (nodes n) (words_of w.memory) (words_of m2) w.hidden g now (e.tail 0).0 (e.head 0).0 pos time;
    tails = place_same w.hidden.links.pos g.links.pos _ _ pos (e.tail 0).0;
    heads = place_same w.hidden.links.pos g.links.pos _ _ pos (e.head 0).0;
    apart = apart;
    leaves = leaves;
    tells = tells;
  }

  -- a word is stored to
  pub put_to : (place u : ℕ) (words : Words) (g : History) → StoresAt place u w.memory m2 → words_of m2 ≡ words → IsSound (nodes n) words g → Later i p (words_of w.memory) w.hidden words g
      → w.memory.buffer p ≡ buffer_at p now → Knows words g p now → ((t : Response) → In says t → IsTrueResponse words g p now t) → InTime (nodes n) words g now → tail_place (words_of w.memory) w.hidden ≤ tail_place words g → head_place (words_of w.memory) w.hidden ≤ head_place words g → Move n w p m2 now says g
  put_to place u words g s is sound2 later mine knows tells time tails heads = record {
    operation = i;
    words = words;
    is = is;
    sound = sound2;
    later = later;
    others = λ q ne. s.buffer q;
    mine = s.buffer p ∙ mine;
    knows = knows;
    time = time;
    tails = tails;
    heads = heads;
    apart = apart;
    leaves = leaves;
    tells = tells;
  }
