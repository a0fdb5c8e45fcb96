-- A step of a process changes what its own register has, and no other's.
use Rattle.std.proofs.Common.{ℕ, ◌≡◌, ◌≢◌, ◌⊎◌, ◌+◌, ◌*◌, ◌<◌, ◌≤◌, List, [], ◌∷◌, ◌++◌, refl, sym, subst, ◌∙◌, inl, inr, arith, le_refl, le_trans, Bool, true, false, if◌then◌else◌, nat_le, leb-true, leb-false}
use mathlib.Core.Logic.{dite}
use native.Mathlib.Decide.{ℕ_discrete}
use Rattle.std.proofs.lemmas.Bool.{cases_Bool}
use Rattle.ds_words.specs.declared.access.BufferEntry.{BufferEntry}
use Rattle.ds_words.specs.Memory.{Memory, SameMemory, StoresAt, FlushesAt, WritesBack, BacksFirst}
use Rattle.ds_words.specs.declared.access.Class.TheVariants.{Stamped}
use Rattle.pm_base.specs.Structures.{In, World, put, Goes, GoesTelling, after_begin}
use Rattle.pm_base.proofs.Puts.{put_here, put_else, put_same}
use Rattle.pm_registers.specs.Registers.{Own, own_of, entry, IsWell, Knows, up_to, LeavesOut, IsTrueResponse, registers}
use Rattle.pm_registers.specs.declared.calls.Doing.{Doing}
use Rattle.pm_registers.specs.declared.calls.Response.{Response}
use Rattle.pm_registers.specs.declared.calls.Response.TheVariants.{Wrote, Recalled}

-- ---- values up to one

pub up_to_in : (most : ℕ) (vs : List ℕ) (v : ℕ) → In (up_to most vs) v → In vs v × (v ≤ most)
up_to_in most [] v t = absurd t
up_to_in most (x ∷ vs) v t = elim (cases_Bool (nat_le x most)) [
  | inl below ↦ (let t2 : In (x ∷ up_to most vs) v = subst (λ (b : Bool). In (if b then x ∷ up_to most vs else up_to most vs) v) below t in elim t2 [
    | inl e ↦ (inl e, subst (λ (z : ℕ). z ≤ most) e (leb-true x most below))
    | inr r ↦ (let k = up_to_in most vs v r in (inr k.0, k.1))
  ])
  | inr above ↦ (let t2 : In (up_to most vs) v = subst (λ (b : Bool). In (if b then x ∷ up_to most vs else up_to most vs) v) above t in let k = up_to_in most vs v t2 in (inr k.0, k.1))
]

pub in_up_to : (most : ℕ) (vs : List ℕ) (v : ℕ) → In vs v → v ≤ most → In (up_to most vs) v
in_up_to most [] v t le = absurd t
in_up_to most (x ∷ vs) v t le = elim (cases_Bool (nat_le x most)) [
  | inl below ↦ rw below (elim t [
    | inl e ↦ inl e
    | inr r ↦ inr (in_up_to most vs v r le)
  ])
  | inr above ↦ rw above (elim t [
    | inl e ↦ absurd (let l = leb-false x most above in omega arith)
    | inr r ↦ in_up_to most vs v r le
  ])
]

-- ---- what was answered stays true

pub record Grows (o o' : Own) (now now' : Doing) : Type 0 where
  pub kept : (v : ℕ) → In o.had v → v ≤ o.head_kept → In o'.had v
  pub head : o.head_kept ≤ o'.head_kept
  pub announced : o.announced_kept ≤ o'.announced_kept
  pub came : (v : ℕ) → v ≤ o.announced_kept → LeavesOut v now → In o'.had v → In o.had v
  pub leaves : (v : ℕ) → v ≤ o.announced_kept → LeavesOut v now → LeavesOut v now'

pub answered_on : (o o' : Own) (now now' : Doing) (t : Response) → Grows o o' now now' → IsTrueResponse o now t → IsTrueResponse o' now' t
answered_on o o' now now' (Wrote v) g h = (g.kept v h.0 h.1, le_trans h.1 g.head)
answered_on o o' now now' (Recalled v true) g h = (g.kept v h.0 h.1, le_trans h.1 g.head)
answered_on o o' now now' (Recalled v false) g h = ((λ has. h.0 (g.came v h.1 h.2 has)), le_trans h.1 g.announced, g.leaves v h.1 h.2)

-- ---- the others

pub record Others (p : ℕ) (m m' : Memory ℕ) : Type 0 where
  pub cached : (r : ℕ) → r ≢ 2 * p → r ≢ 2 * p + 1 → m'.cached r ≡ m.cached r
  pub persisted : (r : ℕ) → r ≢ 2 * p → r ≢ 2 * p + 1 → m'.persisted r ≡ m.persisted r
  pub buffer : (q : ℕ) → q ≢ p → m'.buffer q ≡ m.buffer q

pub own_else : (p : ℕ) (m m' : Memory ℕ) (had had' : ℕ → List ℕ) → Others p m m' → (q : ℕ) → q ≢ p → had' q ≡ had q → own_of m' had' q ≡ own_of m had q
own_else p m m' had had' f q ne same =
    let a = f.cached (2 * q) (λ e. ne (omega arith)) (λ e. omega arith) in
    let b = f.persisted (2 * q) (λ e. ne (omega arith)) (λ e. omega arith) in
    let c = f.cached (2 * q + 1) (λ e. omega arith) (λ e. ne (omega arith)) in
    let d = f.persisted (2 * q + 1) (λ e. omega arith) (λ e. ne (omega arith)) in
    let x = f.buffer q ne in
    λ i. record { announced = a i; announced_kept = b i; head = c i; head_kept = d i; buffer = x i; had = same i }

pub others_same : (p : ℕ) (m m' : Memory ℕ) → SameMemory m m' → Others p m m'
others_same p m m' k = record { cached = λ r a b. k.cached r; persisted = λ r a b. k.persisted r; buffer = λ q ne. k.buffer q }

-- what a step of a process makes of its register
pub record Moves (w : World Doing (ℕ → List ℕ)) (p : ℕ) (m' : Memory ℕ) (now' : Doing) (says : List Response) : Type 0 where
  pub own : Own
  pub is : own_of m' (put w.hidden p own.had) p ≡ own
  pub well : IsWell p own now'
  pub grows : Grows (own_of w.memory w.hidden p) own (w.situation p) now'
  pub tells : (t : Response) → In says t → IsTrueResponse own now' t

-- the world with this memory, this situation of one process, and these values
abbrev pub moved : World Doing (ℕ → List ℕ) → Memory ℕ → ℕ → Doing → (ℕ → List ℕ) → World Doing (ℕ → List ℕ)
moved w memory p now had = record { memory = memory; situation = put w.situation p now; hidden = had }

module _ (n : ℕ) (w : World Doing (ℕ → List ℕ)) (p : ℕ) (m' : Memory ℕ) (now' : Doing) (says : List Response) (sound : registers.sound n w) (low : p < n) (f : Others p w.memory m') (d : Moves w p m' now' says) where
  abbrev had' : ℕ → List ℕ
  had' = put w.hidden p d.own.had

  abbrev w' : World Doing (ℕ → List ℕ)
  w' = moved w m' p now' had'

  same_own : (q : ℕ) → q ≢ p → own_of m' had' q ≡ own_of w.memory w.hidden q
  same_own q ne = own_else p w.memory m' w.hidden had' f q ne (put_else w.hidden p d.own.had q ne)

  same_now : (q : ℕ) → q ≢ p → put w.situation p now' q ≡ w.situation q
  same_now q ne = put_else w.situation p now' q ne

  here_now : put w.situation p now' p ≡ now'
  here_now = put_here w.situation p now' p refl

  pub answered_here : (t : Response) → IsTrueResponse d.own now' t → registers.is_right n w' p t
  answered_here t h = (low, subst (λ (z : Own × Doing). IsTrueResponse z.0 z.1 t) (λ i. (sym d.is i, sym here_now i)) h)

  well_each : (q : ℕ) → q < n → IsWell q (own_of m' had' q) (put w.situation p now' q)
  well_each q lq = dite (ℕ_discrete q p)
      (λ same. subst (λ (z : ℕ). IsWell z (own_of m' had' z) (put w.situation p now' z)) (sym same) (subst (λ (z : Own × Doing). IsWell p z.0 z.1) (λ i. (sym d.is i, sym here_now i)) d.well))
      (λ ne. subst (λ (z : Own × Doing). IsWell q z.0 z.1) (λ i. (sym (same_own q ne) i, sym (same_now q ne) i)) (sound q lq))

  answered_each : (q : ℕ) (t : Response) → registers.is_right n w q t → registers.is_right n w' q t
  answered_each q t h = dite (ℕ_discrete q p)
      (λ same. subst (λ (z : ℕ). registers.is_right n w' z t) (sym same) (answered_here t (answered_on _ _ _ _ t d.grows (subst (λ (z : ℕ). IsTrueResponse (own_of w.memory w.hidden z) (w.situation z) t) same h.1))))
      (λ ne. (h.0, subst (λ (z : Own × Doing). IsTrueResponse z.0 z.1 t) (λ i. (sym (same_own q ne) i, sym (same_now q ne) i)) h.1))

  pub stepped : GoesTelling registers n w w' p says
  stepped = record { sound = well_each; keeps = answered_each; tells = λ t inside. answered_here t (d.tells t inside) }

  -- the same, where the values that its register had are known
  pub stepped_to : (had : List ℕ) → d.own.had ≡ had → GoesTelling registers n w (moved w m' p now' (put w.hidden p had)) p says
  stepped_to had is = subst (λ (vs : List ℕ). GoesTelling registers n w (moved w m' p now' (put w.hidden p vs)) p says) is stepped

-- ---- a process whose register has what it had

module _ (w : World Doing (ℕ → List ℕ)) (p : ℕ) where
  abbrev o : Own
  o = own_of w.memory w.hidden p

  pub same_had : put w.hidden p o.had p ≡ w.hidden p
  same_had = put_here w.hidden p o.had p refl

  -- a step with its process's words and buffer as they are
  pub kept_own : (m' : Memory ℕ) → SameMemory w.memory m' → own_of m' (put w.hidden p o.had) p ≡ o
  kept_own m' k = λ i. record { announced = k.cached (2 * p) i; announced_kept = k.persisted (2 * p) i; head = k.cached (2 * p + 1) i; head_kept = k.persisted (2 * p + 1) i; buffer = k.buffer p i; had = same_had i }

  -- what was answered stays true where the values that it had stay
  pub grown : (o' : Own) (now' : Doing) → o'.had ≡ o.had → o.head_kept ≤ o'.head_kept → o.announced_kept ≤ o'.announced_kept → ((v : ℕ) → v ≤ o.announced_kept → LeavesOut v (w.situation p) → LeavesOut v now') → Grows o o' (w.situation p) now'
  grown o' now' same head announced leaves = record {
    kept = λ v has le. subst (λ (l : List ℕ). In l v) (sym same) has;
    head = head;
    announced = announced;
    came = λ v le out has. subst (λ (l : List ℕ). In l v) same has;
    leaves = leaves;
  }

  -- a call that begins so changes nothing else
  pub begun : (n : ℕ) (doing now : Doing) → doing ≡ now → registers.sound n w → p < n → Knows p o now → ((v : ℕ) → v ≤ o.announced_kept → LeavesOut v (w.situation p) → LeavesOut v now) → Goes registers n w (after_begin registers n w p doing)
  begun n doing now is sound low knows leaves =
      let h = sound p low in
      let memory : SameMemory w.memory w.memory = record { cached = λ r. refl; persisted = λ r. refl; buffer = λ q. refl } in
      let d : Moves w p w.memory now [] = record {
        own = o;
        is = kept_own w.memory memory;
        well = record { announced = h.announced; head = h.head; follows = h.follows; has = h.has; has_kept = h.has_kept; most = h.most; knows = knows };
        grows = grown o now refl (le_refl _) (le_refl _) leaves;
        tells = λ t none. absurd none;
      } in
      let k = stepped n w p w.memory now [] sound low (others_same p w.memory w.memory memory) d in
      let same : put w.hidden p o.had ≡ w.hidden = λ i q. put_same w.hidden p o.had refl q i in
      subst (λ (z : Doing × (ℕ → List ℕ)). Goes registers n w (moved w w.memory p z.0 z.1)) (λ i. (sym is i, same i)) (record { sound = k.sound; keeps = k.keeps })

-- ---- what each access does

abbrev pub IsMine : ℕ → ℕ → Type 0
IsMine p r = (r ≡ 2 * p) ⊎ (r ≡ 2 * p + 1)

pub not_mine : (p r s : ℕ) → IsMine p s → r ≢ 2 * p → r ≢ 2 * p + 1 → r ≢ s
not_mine p r s mine a b e = elim mine [
  | inl x ↦ a (e ∙ x)
  | inr x ↦ b (e ∙ x)
]

pub others_stored : (p s v : ℕ) (m m' : Memory ℕ) → IsMine p s → StoresAt s v m m' → Others p m m'
others_stored p s v m m' mine k = record { cached = λ r a b. k.elsewhere r (not_mine p r s mine a b); persisted = λ r a b. k.persisted r; buffer = λ q ne. k.buffer q }

pub others_flushed : (p s : ℕ) (m m' : Memory ℕ) → FlushesAt p s Stamped m m' → Others p m m'
others_flushed p s m m' k = record { cached = λ r a b. k.cached r; persisted = λ r a b. k.persisted r; buffer = k.others }

-- where the buffer has one entry, that is written back
pub one_back : (p : ℕ) (m m' : Memory ℕ) (y : BufferEntry ℕ) → m.buffer p ≡ y ∷ [] → BacksFirst p m m' → WritesBack p y [] m m'
one_back p m m' y is k =
    let both : y ∷ [] ≡ k.0 ∷ k.1 = sym is ∙ k.2.oldest in
    let one : k.0 ≡ y = cc in
    let none : k.1 ≡ [] = cc in
    subst (λ (z : BufferEntry ℕ × List (BufferEntry ℕ)). WritesBack p z.0 z.1 m m') (λ i. (one i, none i)) k.2

pub others_back : (p s v : ℕ) (m m' : Memory ℕ) → IsMine p s → WritesBack p (entry s v) [] m m' → Others p m m'
others_back p s v m m' mine k = record { cached = λ r a b. k.cached r; persisted = λ r a b. k.elsewhere r (not_mine p r s mine a b); buffer = k.others }

-- the buffer after a flush of an empty one
pub flushed_one : (p s v : ℕ) (m m' : Memory ℕ) → m.buffer p ≡ [] → m.cached s ≡ v → FlushesAt p s Stamped m m' → m'.buffer p ≡ entry s v ∷ []
flushed_one p s v m m' none is k = k.mine ∙ (λ i. none i ++ entry s (is i) ∷ [])
