-- What changed words and buffers show.
use Rattle.std.proofs.Common.{ℕ, suc, ◌≡◌, ◌≢◌, ◌<◌, ◌≤◌, List, [], ◌∷◌, refl, sym, ap, ◌∙◌, subst, arith, length, set, zero, ⊎_elim}
use Rattle.std.specs.Prelude.{bit_or, map}
use Rattle.std.proofs.lemmas.List.{length-map}
use Rattle.std.proofs.Math.ListN.{length-set}
use mathlib.Core.Logic.{dite}
use native.Mathlib.Decide.{ℕ_discrete}
use Rattle.ds_words.specs.declared.access.BufferEntry.{BufferEntry}
use Rattle.ds_words.specs.declared.words.Word.{Word}
use Rattle.ds_words.specs.Memory.{Memory, SameMemory, StoresAt, OrsAt, SwapsAt, BacksFirst, EvictsAt, StopsAt, Crashes, newer}
use Rattle.ds_words.specs.Words.{crashed}
use Rattle.pm_explore.specs.declared.cells.Cells.{Cells}
use Rattle.pm_explore.specs.Lists.{IsAt, slot}
use Rattle.pm_explore.specs.Cells.{ShowsWords, ShowsBuffers, ShowsCells}
use Rattle.pm_explore.proofs.Lists.{at_changed, at_other, slots_differ}

-- both sides of a word stay
abbrev pub Stays : Memory ℕ → Memory ℕ → ℕ → Type 0
Stays m m' r = (m'.cached r ≡ m.cached r) × (m'.persisted r ≡ m.persisted r)

pub changed_words : (window : List ℕ) (ws : List Word) (m m' : Memory ℕ) (n : ℕ) (w : Word) → length ws ≤ length window → ShowsWords window ws m → m'.cached n ≡ w.cached → m'.persisted n ≡ w.persisted
    → ((r : ℕ) → r ≢ n → Stays m m' r) → ShowsWords window (set ws (slot window n) w) m'
changed_words window ws m m' n w fits shows a b else r x at = dite (ℕ_discrete r n)
    (λ same. let is : x ≡ w = at_changed ws (slot window n) w x (subst (λ (z : ℕ). IsAt (set ws (slot window n) w) (slot window z) x) same at) in
    (ap m'.cached same ∙ (a ∙ ap (λ (z : Word). z.cached) (sym is)), ap m'.persisted same ∙ (b ∙ ap (λ (z : Word). z.persisted) (sym is))))
    (λ other.
    let low : slot window r < length ws = subst (λ (z : ℕ). slot window r < z) (length-set ws (slot window n) w) at.low in
    let apart : slot window r ≢ slot window n = λ e. other (slots_differ window r n (omega (arith, low, fits)) e) in
    let k = shows r x (at_other ws (slot window n) (slot window r) w x apart at) in
    let s = else r other in
    (s.0 ∙ k.0, s.1 ∙ k.1))

pub same_words : (window : List ℕ) (ws : List Word) (m m' : Memory ℕ) → ShowsWords window ws m → ((r : ℕ) → Stays m m' r) → ShowsWords window ws m'
same_words window ws m m' shows same r x at = let k = shows r x at in let s = same r in (s.0 ∙ k.0, s.1 ∙ k.1)

pub changed_buffers : (bs : List (List (BufferEntry ℕ))) (m m' : Memory ℕ) (p : ℕ) (b : List (BufferEntry ℕ)) → ShowsBuffers bs m → m'.buffer p ≡ b → ((q : ℕ) → q ≢ p → m'.buffer q ≡ m.buffer q) → ShowsBuffers (set bs p b) m'
changed_buffers bs m m' p b shows is else q x at = dite (ℕ_discrete q p)
    (λ same. ap m'.buffer same ∙ (is ∙ sym (at_changed bs p b x (subst (λ (z : ℕ). IsAt (set bs p b) z x) same at))))
    (λ other. else q other ∙ shows q x (at_other bs p q b x other at))

pub same_buffers : (bs : List (List (BufferEntry ℕ))) (m m' : Memory ℕ) → ShowsBuffers bs m → ((q : ℕ) → m'.buffer q ≡ m.buffer q) → ShowsBuffers bs m'
same_buffers bs m m' shows same q x at = same q ∙ shows q x at

pub same_cells : (window : List ℕ) (c : Cells) (m m' : Memory ℕ) → ShowsCells window c m → SameMemory m m' → ShowsCells window c m'
same_cells window c m m' shows same = record {
  fits = shows.fits;
  words = same_words window c.words.items m m' shows.words (λ r. (same.cached r, same.persisted r));
  buffers = same_buffers c.buffers.items m m' shows.buffers same.buffer;
}

-- cells with a changed word
pub changed_cells : (window : List ℕ) (c c' : Cells) (m m' : Memory ℕ) (n : ℕ) (w : Word) → ShowsCells window c m → c'.words.items ≡ set c.words.items (slot window n) w → c'.buffers.items ≡ c.buffers.items
    → m'.cached n ≡ w.cached → m'.persisted n ≡ w.persisted → ((r : ℕ) → r ≢ n → Stays m m' r) → ((q : ℕ) → m'.buffer q ≡ m.buffer q) → ShowsCells window c' m'
changed_cells window c c' m m' n w shows words buffers a b else same = record {
  fits = subst (λ (z : List Word). length z ≤ length window) (sym words) (subst (λ (z : ℕ). z ≤ length window) (sym (length-set c.words.items (slot window n) w)) shows.fits);
  words = subst (λ (z : List Word). ShowsWords window z m') (sym words) (changed_words window c.words.items m m' n w shows.fits shows.words a b else);
  buffers = subst (λ (z : List (List (BufferEntry ℕ))). ShowsBuffers z m') (sym buffers) (same_buffers c.buffers.items m m' shows.buffers same);
}

pub stored : (window : List ℕ) (c c' : Cells) (m m' : Memory ℕ) (n v : ℕ) (w : Word) → IsAt c.words.items (slot window n) w → ShowsCells window c m
    → c'.words.items ≡ set c.words.items (slot window n) (record { cached = v; persisted = w.persisted }) → c'.buffers.items ≡ c.buffers.items → StoresAt n v m m' → ShowsCells window c' m'
stored window c c' m m' n v w at shows words buffers s =
    changed_cells window c c' m m' n (record { cached = v; persisted = w.persisted }) shows words buffers s.there (s.persisted n ∙ (shows.words n w at).1) (λ r other. (s.elsewhere r other, s.persisted r)) s.buffer

-- bits are added to the word that stands there
pub added : (window : List ℕ) (c c' : Cells) (m m' : Memory ℕ) (n bits : ℕ) (w : Word) → IsAt c.words.items (slot window n) w → ShowsCells window c m
    → c'.words.items ≡ set c.words.items (slot window n) (record { cached = bit_or w.cached bits; persisted = w.persisted }) → c'.buffers.items ≡ c.buffers.items → OrsAt n bits m m' → ShowsCells window c' m'
added window c c' m m' n bits w at shows words buffers s =
    stored window c c' m m' n (bit_or w.cached bits) w at shows words buffers (subst (λ (z : ℕ). StoresAt n (bit_or z bits) m m') (shows.words n w at).0 s)

-- a word that is the expected one is swapped
pub swapped : (window : List ℕ) (c c' : Cells) (m m' : Memory ℕ) (n expected v seen : ℕ) (w : Word) → IsAt c.words.items (slot window n) w → w.cached ≡ expected → ShowsCells window c m
    → c'.words.items ≡ set c.words.items (slot window n) (record { cached = v; persisted = w.persisted }) → c'.buffers.items ≡ c.buffers.items → SwapsAt n expected v seen m m' → (seen ≡ w.cached) × ShowsCells window c' m'
swapped window c c' m m' n expected v seen w at is shows words buffers s =
    let k = (shows.words n w at).0 in
    (s.0 ∙ k, ⊎_elim (λ hit. stored window c c' m m' n v w at shows words buffers hit.1) (λ miss. absurd (miss.0 (s.0 ∙ (k ∙ is)))) s.1)

-- the oldest entry is written back
pub written : (window : List ℕ) (c c' : Cells) (m m' : Memory ℕ) (p : ℕ) (e : BufferEntry ℕ) (rest : List (BufferEntry ℕ)) (w : Word) → IsAt c.buffers.items p (e ∷ rest) → IsAt c.words.items (slot window e.place) w → ShowsCells window c m
    → c'.words.items ≡ set c.words.items (slot window e.place) (record { cached = w.cached; persisted = newer e.class w.persisted e.value }) → c'.buffers.items ≡ set c.buffers.items p rest → BacksFirst p m m' → ShowsCells window c' m'
written window c c' m m' p e rest w first at shows words buffers (entry, more, b) =
    let both : entry ∷ more ≡ e ∷ rest = sym b.oldest ∙ shows.buffers p (e ∷ rest) first in
    let e-is : entry ≡ e = cc in
    let rest-is : more ≡ rest = cc in
    let n : ℕ = e.place in
    let k = shows.words n w at in
    let there : m'.persisted n ≡ newer e.class w.persisted e.value = subst (λ (z : BufferEntry ℕ). m'.persisted z.place ≡ newer z.class (m.persisted z.place) z.value) e-is b.there ∙ ap (λ (z : ℕ). newer e.class z e.value) k.1 in
    let new : Word = record { cached = w.cached; persisted = newer e.class w.persisted e.value } in record {
      fits = subst (λ (z : List Word). length z ≤ length window) (sym words) (subst (λ (z : ℕ). z ≤ length window) (sym (length-set c.words.items (slot window n) new)) shows.fits);
      words = subst (λ (z : List Word). ShowsWords window z m') (sym words) (changed_words window c.words.items m m' n new shows.fits shows.words (b.cached n ∙ k.0) there (λ r other. (b.cached r, b.elsewhere r (subst (λ (z : BufferEntry ℕ). r ≢ z.place) (sym e-is) other))));
      buffers = subst (λ (z : List (List (BufferEntry ℕ))). ShowsBuffers z m') (sym buffers) (changed_buffers c.buffers.items m m' p rest shows.buffers (b.mine ∙ rest-is) b.others);
    }

-- a word is evicted
pub evicted : (window : List ℕ) (c c' : Cells) (m m' : Memory ℕ) (n : ℕ) (w : Word) → IsAt c.words.items (slot window n) w → ShowsCells window c m
    → c'.words.items ≡ set c.words.items (slot window n) (record { cached = w.cached; persisted = w.cached }) → c'.buffers.items ≡ c.buffers.items → EvictsAt n m m' → ShowsCells window c' m'
evicted window c c' m m' n w at shows words buffers e =
    let k = (shows.words n w at).0 in
    changed_cells window c c' m m' n (record { cached = w.cached; persisted = w.cached }) shows words buffers (e.cached n ∙ k) (e.there ∙ k) (λ r other. (e.cached r, e.elsewhere r other)) e.buffer

-- a word outside the window is evicted
pub evicted_outside : (window : List ℕ) (c : Cells) (m m' : Memory ℕ) (n : ℕ) → length c.words.items ≤ slot window n → ShowsCells window c m → EvictsAt n m m' → ShowsCells window c m'
evicted_outside window c m m' n out shows e = record {
  fits = shows.fits;
  words = λ r w at. let k = shows.words r w at in let low = at.low in
      let other : r ≢ n = λ same. let back : slot window r ≡ slot window n = ap (slot window) same in omega (arith, out, low, back) in
      (e.cached r ∙ k.0, e.elsewhere r other ∙ k.1);
  buffers = same_buffers c.buffers.items m m' shows.buffers e.buffer;
}

-- a process stops
pub stopped : (window : List ℕ) (c c' : Cells) (m m' : Memory ℕ) (p : ℕ) → ShowsCells window c m → c'.words.items ≡ c.words.items → c'.buffers.items ≡ set c.buffers.items p [] → StopsAt p m m' → ShowsCells window c' m'
stopped window c c' m m' p shows words buffers s = record {
  fits = subst (λ (z : List Word). length z ≤ length window) (sym words) shows.fits;
  words = subst (λ (z : List Word). ShowsWords window z m') (sym words) (same_words window c.words.items m m' shows.words (λ r. (s.cached r, s.persisted r)));
  buffers = subst (λ (z : List (List (BufferEntry ℕ))). ShowsBuffers z m') (sym buffers) (changed_buffers c.buffers.items m m' p [] shows.buffers s.mine s.others);
}

-- what stands in a list that is made from another, element by element
at_mapped : {X Y : Type 0} (f : X → Y) (xs : List X) (k : ℕ) (y : Y) → IsAt (map f xs) k y → (x : X) × IsAt xs k x × (y ≡ f x)
at_mapped f [] k y at = absurd (let low = at.low in omega (arith, low))
at_mapped f (x ∷ xs) zero y at = (x, record { low = omega arith; is = refl }, sym at.is)
at_mapped f (x ∷ xs) (suc k) y at =
    let low = at.low in
    let r = at_mapped f xs k y (record { low = omega (arith, low); is = at.is }) in
    let l = r.1.low in
    (r.0, record { low = omega (arith, l); is = r.1.is }, r.2)

-- all crashes
pub crashes : (window : List ℕ) (c c' : Cells) (m m' : Memory ℕ) → ShowsCells window c m → c'.words.items ≡ map crashed c.words.items → c'.buffers.items ≡ map (λ (b : List (BufferEntry ℕ)). let e : List (BufferEntry ℕ) = [] in e) c.buffers.items → Crashes m m' → ShowsCells window c' m'
crashes window c c' m m' shows words buffers s = record {
  fits = subst (λ (z : List Word). length z ≤ length window) (sym words) (subst (λ (z : ℕ). z ≤ length window) (sym (length-map c.words.items crashed)) shows.fits);
  words = λ r w at.
      let k = at_mapped crashed c.words.items (slot window r) w (subst (λ (z : List Word). IsAt z (slot window r) w) words at) in
      let was = (shows.words r k.0 k.1).1 in
      (s.cached r ∙ (was ∙ ap (λ (z : Word). z.cached) (sym k.2)), s.persisted r ∙ (was ∙ ap (λ (z : Word). z.persisted) (sym k.2)));
  buffers = λ p b at.
      let k = at_mapped (λ (b : List (BufferEntry ℕ)). let e : List (BufferEntry ℕ) = [] in e) c.buffers.items p b (subst (λ (z : List (List (BufferEntry ℕ))). IsAt z p b) buffers at) in
      s.buffer p ∙ sym k.2;
}
