-- The buffer entries of a recording, event by event.
use Rattle.std.proofs.Common.{ℕ, zero, suc, ◌≡◌, ◌<◌, ◌+◌, ◌∙◌, Bool, true, false, inl, inr, List, [], ◌∷◌, ◌++◌, Some, None, get_or, length, map, take, refl, sym, ap, subst, arith, true≢false}
use Rattle.std.specs.Prelude.{◌==◌, ◌&&◌, ◌⊎◌, Option, All, Contains, slice_set, if◌then◌else◌}
use Rattle.std.proofs.lemmas.Bool.{cases_lt, eq-eqb, eqb-true}
use Rattle.std.proofs.lemmas.List.{get_or-map, map-append}
use Rattle.std.proofs.lemmas.List.Elements.{All-cons, All-map, All-nil, All-push, All-tail, Contains-append_right}
use Rattle.ds_trace.specs.declared.row.TraceRow.{TraceRow}
use Rattle.ds_trace_scene.specs.declared.buffers.Deed.{Deed}
use Rattle.ds_trace_scene.specs.declared.buffers.Deed.TheVariants.{Flushes, WritesBack, Loses, LosesAll, Leaves}
use Rattle.ds_trace_scene.specs.declared.columns.Passage.{Passage}
use Rattle.ds_trace_scene.specs.declared.columns.PassageEnd.{PassageEnd}
use Rattle.ds_trace_scene.specs.declared.columns.PassageEnd.TheVariants.{WrittenBack, Lost, Buffered}
use Rattle.ds_trace_scene.specs.Buffers.{ArePassages, EndsSo, IsFlushed, IsPassage, StaysTo, buffer_after, changed, deed_at, deed_by, ended, entries_after, flushed_at, flushes_below, is_buffered, is_flush, is_meant, is_open, lost, without_oldest, written}

-- ---- Booleans

both : (a b : Bool) → (a && b) ≡ true → (a ≡ true) × (b ≡ true)
both true b h = (refl, h)
both false b h = absurd (true≢false (sym h))

and_both : (a b : Bool) → a ≡ true → b ≡ true → (a && b) ≡ true
and_both true b h k = k
and_both false b h k = absurd (true≢false (sym h))

not_so : (b : Bool) → (b ≡ true → ⊥) → b ≡ false
not_so true h = absurd (h refl)
not_so false h = refl

never : (b : Bool) → b ≡ true → b ≡ false → ⊥
never b h k = true≢false (sym h ∙ k)

-- ---- entries that are in a buffer

-- the lines of the flushes of those that are in the process's buffer
abbrev pub open_of : ℕ → List Passage → List ℕ
open_of p [] = []
open_of p (x ∷ xs) = if is_open p x then x.from ∷ open_of p xs else open_of p xs

-- it is an entry of the process
open_parts : (p : ℕ) (x : Passage) → is_open p x ≡ true → (is_buffered x.end ≡ true) × (x.process ≡ p)
open_parts p x h = let k = both (is_buffered x.end) (x.process == p) h in (k.0, eqb-true x.process p k.1)

further : (b : Bool) (n y : ℕ) (l : List ℕ) → Contains l y → Contains (if b then n ∷ l else l) y
further true n y l h = Contains-append_right (n ∷ []) l y h
further false n y l h = h

contains_open : (p : ℕ) (xs : List Passage) (k : ℕ) (d : Passage) → k < length xs → is_open p (get_or xs k d) ≡ true → Contains (open_of p xs) (get_or xs k d).from
contains_open p [] k d lt o = absurd (let e : ⊥ = omega (arith, lt) in e)
contains_open p (x ∷ xs) zero d lt o = subst (λ (b : Bool). Contains (if b then x.from ∷ open_of p xs else open_of p xs) x.from) (sym o) (zero, omega arith, refl)
contains_open p (x ∷ xs) (suc k) d lt o = further (is_open p x) x.from (get_or xs k d).from (open_of p xs) (contains_open p xs k d (omega (arith, lt)) o)

-- ---- an entry that is written back

-- the first of the process that is in its buffer
pub written_at : (p line : ℕ) (xs : List Passage) (i : ℕ) (x : Passage) → i < length xs → All (λ entry. is_open p entry ≡ false) (take i xs) → x ≡ get_or xs i x → is_open p x ≡ true
    → slice_set xs i (ended WrittenBack line x) ≡ written p line xs
written_at p line [] i x lt none is o = absurd (let e : ⊥ = omega (arith, lt) in e)
written_at p line (y ∷ ys) zero x lt none is o =
    let there : is_open p y ≡ true = ap (λ (e : Passage). is_open p e) (sym is) ∙ o in
    ap (λ (e : Passage). ended WrittenBack line e ∷ ys) is ∙ ap (λ (b : Bool). if b then ended WrittenBack line y ∷ ys else y ∷ written p line ys) (sym there)
written_at p line (y ∷ ys) (suc i) x lt none is o =
    let closed : is_open p y ≡ false = none zero y (omega arith) in
    ap (λ (l : List Passage). y ∷ l) (written_at p line ys i x (omega (arith, lt)) (All-tail (λ (entry : Passage). is_open p entry ≡ false) y (take i ys) none) is o)
    ∙ ap (λ (b : Bool). if b then ended WrittenBack line y ∷ ys else y ∷ written p line ys) (sym closed)

-- none, where none is in the buffer
pub written_none : (p line : ℕ) (xs : List Passage) → All (λ entry. is_open p entry ≡ false) xs → written p line xs ≡ xs
written_none p line [] none = refl
written_none p line (x ∷ xs) none =
    let closed : is_open p x ≡ false = none zero x (omega arith) in
    ap (λ (b : Bool). if b then ended WrittenBack line x ∷ xs else x ∷ written p line xs) closed
    ∙ ap (λ (l : List Passage). x ∷ l) (written_none p line xs (All-tail (λ (entry : Passage). is_open p entry ≡ false) x xs none))

from_written_at : (b : Bool) (line : ℕ) (x : Passage) (xs back : List Passage) → map flushed_at back ≡ map flushed_at xs → map flushed_at (if b then ended WrittenBack line x ∷ xs else x ∷ back) ≡ x.from ∷ map flushed_at xs
from_written_at true line x xs back h = refl
from_written_at false line x xs back h = ap (λ (l : List ℕ). x.from ∷ l) h

from_written : (p line : ℕ) (xs : List Passage) → map flushed_at (written p line xs) ≡ map flushed_at xs
from_written p line [] = refl
from_written p line (x ∷ xs) = from_written_at (is_open p x) line x xs (written p line xs) (from_written p line xs)

-- of its process the oldest is taken
own_at : (b : Bool) (p line : ℕ) (x : Passage) (xs back : List Passage) → is_open p x ≡ b → open_of p back ≡ without_oldest (open_of p xs)
    → open_of p (if b then ended WrittenBack line x ∷ xs else x ∷ back) ≡ without_oldest (if b then x.from ∷ open_of p xs else open_of p xs)
own_at true p line x xs back o h = refl
own_at false p line x xs back o h = ap (λ (b : Bool). if b then x.from ∷ open_of p back else open_of p back) o ∙ h

open_own : (p line : ℕ) (xs : List Passage) → open_of p (written p line xs) ≡ without_oldest (open_of p xs)
open_own p line [] = refl
open_own p line (x ∷ xs) = own_at (is_open p x) p line x xs (written p line xs) refl (open_own p line xs)

-- of another one none
other_at : (b : Bool) (by p line : ℕ) (x : Passage) (xs back : List Passage) → is_open by x ≡ b → (by == p) ≡ false → open_of p back ≡ open_of p xs
    → open_of p (if b then ended WrittenBack line x ∷ xs else x ∷ back) ≡ open_of p (x ∷ xs)
other_at true by p line x xs back o ne h =
    let closed : is_open p x ≡ false = not_so (is_open p x) (λ so. never (by == p) (eq-eqb by p (sym (open_parts by x o).1 ∙ (open_parts p x so).1)) ne) in
    ap (λ (b : Bool). if b then x.from ∷ open_of p xs else open_of p xs) (sym closed)
other_at false by p line x xs back o ne h = ap (λ (l : List ℕ). if is_open p x then x.from ∷ l else l) h

open_other : (by p line : ℕ) (xs : List Passage) → (by == p) ≡ false → open_of p (written by line xs) ≡ open_of p xs
open_other by p line [] ne = refl
open_other by p line (x ∷ xs) ne = other_at (is_open by x) by p line x xs (written by line xs) refl ne (open_other by p line xs ne)

-- ---- entries that are lost

from_lost_at : (b : Bool) (line : ℕ) (x : Passage) → flushed_at (if b then ended Lost line x else x) ≡ x.from
from_lost_at true line x = refl
from_lost_at false line x = refl

from_lost : (who : Option ℕ) (line : ℕ) (xs : List Passage) → map flushed_at (map (lost who line) xs) ≡ map flushed_at xs
from_lost who line [] = refl
from_lost who line (x ∷ xs) =
    ap (λ (n : ℕ). n ∷ map flushed_at (map (lost who line) xs)) (from_lost_at (is_buffered x.end && is_meant who x.process) line x) ∙ ap (λ (l : List ℕ). x.from ∷ l) (from_lost who line xs)

meant_at : (who : Option ℕ) (p : ℕ) (x : Passage) → is_open p x ≡ true → is_meant who p ≡ true → (is_buffered x.end && is_meant who x.process) ≡ true
meant_at who p x o m = let k = open_parts p x o in and_both (is_buffered x.end) (is_meant who x.process) k.0 (ap (λ (q : ℕ). is_meant who q) k.1 ∙ m)

closed_at : (b : Bool) (who : Option ℕ) (p line : ℕ) (x : Passage) → (is_buffered x.end && is_meant who x.process) ≡ b → is_meant who p ≡ true → is_open p (if b then ended Lost line x else x) ≡ false
closed_at true who p line x is m = refl
closed_at false who p line x is m = not_so (is_open p x) (λ o. never (is_buffered x.end && is_meant who x.process) (meant_at who p x o m) is)

-- of a process that is meant none is left
open_lost : (who : Option ℕ) (p line : ℕ) (xs : List Passage) → is_meant who p ≡ true → open_of p (map (lost who line) xs) ≡ []
open_lost who p line [] m = refl
open_lost who p line (x ∷ xs) m =
    let closed : is_open p (lost who line x) ≡ false = closed_at (is_buffered x.end && is_meant who x.process) who p line x refl m in
    ap (λ (b : Bool). if b then (lost who line x).from ∷ open_of p (map (lost who line) xs) else open_of p (map (lost who line) xs)) closed ∙ open_lost who p line xs m

still_at : (b : Bool) (who : Option ℕ) (p line : ℕ) (x : Passage) → (is_buffered x.end && is_meant who x.process) ≡ b → is_meant who p ≡ false → is_open p (if b then ended Lost line x else x) ≡ is_open p x
still_at true who p line x is m =
    sym (not_so (is_open p x) (λ o. never (is_meant who p) (ap (λ (q : ℕ). is_meant who q) (sym (open_parts p x o).1) ∙ (both (is_buffered x.end) (is_meant who x.process) is).1) m))
still_at false who p line x is m = refl

-- of another one all are
open_kept : (who : Option ℕ) (p line : ℕ) (xs : List Passage) → is_meant who p ≡ false → open_of p (map (lost who line) xs) ≡ open_of p xs
open_kept who p line [] m = refl
open_kept who p line (x ∷ xs) m =
    let still : is_open p (lost who line x) ≡ is_open p x = still_at (is_buffered x.end && is_meant who x.process) who p line x refl m in
    ap (λ (b : Bool). if b then (lost who line x).from ∷ open_of p (map (lost who line) xs) else open_of p (map (lost who line) xs)) still
    ∙ ap (λ (n : ℕ). if is_open p x then n ∷ open_of p (map (lost who line) xs) else open_of p (map (lost who line) xs)) (from_lost_at (is_buffered x.end && is_meant who x.process) line x)
    ∙ ap (λ (l : List ℕ). if is_open p x then x.from ∷ l else l) (open_kept who p line xs m)

-- ---- an entry that comes

push_swap : (c b : Bool) (f n : ℕ) (l : List ℕ) → (if c then f ∷ (if b then l ++ n ∷ [] else l) else (if b then l ++ n ∷ [] else l)) ≡ (if b then (if c then f ∷ l else l) ++ n ∷ [] else (if c then f ∷ l else l))
push_swap true true f n l = refl
push_swap true false f n l = refl
push_swap false true f n l = refl
push_swap false false f n l = refl

open_push : (p : ℕ) (xs : List Passage) (new : Passage) → open_of p (xs ++ new ∷ []) ≡ (if is_open p new then open_of p xs ++ new.from ∷ [] else open_of p xs)
open_push p [] new = refl
open_push p (x ∷ xs) new =
    ap (λ (l : List ℕ). if is_open p x then x.from ∷ l else l) (open_push p xs new) ∙ push_swap (is_open p x) (is_open p new) x.from new.from (open_of p xs)

-- ---- what an event does

-- those in a buffer are changed as the buffer is
back_or : (b : Bool) (by p line : ℕ) (xs : List Passage) → (by == p) ≡ b → open_of p (written by line xs) ≡ (if b then without_oldest (open_of p xs) else open_of p xs)
back_or true by p line xs is = subst (λ (q : ℕ). open_of p (written q line xs) ≡ without_oldest (open_of p xs)) (sym (eqb-true by p is)) (open_own p line xs)
back_or false by p line xs is = open_other by p line xs is

lost_or : (b : Bool) (by p line : ℕ) (xs : List Passage) → (by == p) ≡ b → open_of p (map (lost (Some by) line) xs) ≡ (if b then [] else open_of p xs)
lost_or true by p line xs is = open_lost (Some by) p line xs is
lost_or false by p line xs is = open_kept (Some by) p line xs is

open_after : (deed : Deed) (p line last : ℕ) (xs : List Passage) → open_of p (entries_after deed line last xs) ≡ changed p deed line (open_of p xs)
open_after (Flushes by place) p line last xs = open_push p xs (record { process = by; place = place; from = line; to = last; end = Buffered })
open_after (WritesBack by) p line last xs = back_or (by == p) by p line xs refl
open_after (Loses by) p line last xs = lost_or (by == p) by p line xs refl
open_after LosesAll p line last xs = open_lost None p line xs refl
open_after Leaves p line last xs = refl

-- the flushes are the same, and one more where the event is one
from_after : (deed : Deed) (line last : ℕ) (xs : List Passage) → map flushed_at (entries_after deed line last xs) ≡ (if is_flush deed then map flushed_at xs ++ line ∷ [] else map flushed_at xs)
from_after (Flushes by place) line last xs = map-append flushed_at xs (record { process = by; place = place; from = line; to = last; end = Buffered } ∷ [])
from_after (WritesBack by) line last xs = from_written by line xs
from_after (Loses by) line last xs = from_lost (Some by) line xs
from_after LosesAll line last xs = from_lost None line xs
from_after Leaves line last xs = refl

-- ---- what is known so far

-- of an entry that ends so: it has ended; or it is in the buffer up to this event
abbrev pub IsGoing : List TraceRow → ℕ → ℕ → Passage → PassageEnd → Type 0
IsGoing rows event last x WrittenBack = IsPassage rows x
IsGoing rows event last x Lost = IsPassage rows x
IsGoing rows event last x Buffered = (x.to ≡ last) × IsFlushed rows x × StaysTo rows x (suc event)

-- of the entries before this event
pub record AreGoing (rows : List TraceRow) (event last : ℕ) (xs : List Passage) : Type 0 where
  pub all : map flushed_at xs ≡ flushes_below rows event
  pub each : All (λ x. IsGoing rows event last x x.end) xs
  pub held : (p : ℕ) → open_of p xs ≡ buffer_after p rows event

module _ (rows : List TraceRow) (last : ℕ) where
  pub going_none : (xs : List Passage) → xs ≡ [] → AreGoing rows 0 last xs
  going_none xs none = subst (λ (l : List Passage). AreGoing rows 0 last l) (sym none) (record { all = refl; each = All-nil (λ (x : Passage). IsGoing rows 0 last x x.end); held = λ p. refl })

module _ (rows : List TraceRow) (event last : ℕ) where
  unpack : (x : Passage) (end : PassageEnd) → is_buffered end ≡ true → IsGoing rows event last x end → (x.to ≡ last) × IsFlushed rows x × StaysTo rows x (suc event)
  unpack x WrittenBack b h = absurd (true≢false (sym b))
  unpack x Lost b h = absurd (true≢false (sym b))
  unpack x Buffered b h = h

  -- the oldest is written back
  back_one : (p : ℕ) (x : Passage) (rest : List ℕ) → deed_at rows event ≡ WritesBack p → is_open p x ≡ true → buffer_after p rows event ≡ x.from ∷ rest → IsGoing rows event last x x.end → IsPassage rows (ended WrittenBack (suc event) x)
  back_one p x rest deed o buffer h =
      let parts = open_parts p x o in
      let known = unpack x x.end parts.0 h in
      record {
        flushed = known.1;
        stays = known.2;
        ends = (event, refl, subst (λ (q : ℕ). deed_at rows event ≡ WritesBack q) (sym parts.1) deed, (rest, subst (λ (q : ℕ). buffer_after q rows event ≡ x.from ∷ rest) (sym parts.1) buffer));
      }

  each_back_at : (b : Bool) (p : ℕ) (x : Passage) (xs back : List Passage) → is_open p x ≡ b → deed_at rows event ≡ WritesBack p → (if b then x.from ∷ open_of p xs else open_of p xs) ≡ buffer_after p rows event
      → IsGoing rows event last x x.end → All (λ x. IsGoing rows event last x x.end) xs → (open_of p xs ≡ buffer_after p rows event → All (λ x. IsGoing rows event last x x.end) back)
      → All (λ x. IsGoing rows event last x x.end) (if b then ended WrittenBack (suc event) x ∷ xs else x ∷ back)
  each_back_at true p x xs back o deed buffer h all more =
      All-cons (λ (y : Passage). IsGoing rows event last y y.end) (ended WrittenBack (suc event) x) xs (back_one p x (open_of p xs) deed o (sym buffer) h) all
  each_back_at false p x xs back o deed buffer h all more = All-cons (λ (y : Passage). IsGoing rows event last y y.end) x back h (more buffer)

  each_back : (p : ℕ) (xs : List Passage) → deed_at rows event ≡ WritesBack p → All (λ x. IsGoing rows event last x x.end) xs → open_of p xs ≡ buffer_after p rows event
      → All (λ x. IsGoing rows event last x x.end) (written p (suc event) xs)
  each_back p [] deed all buffer = all
  each_back p (x ∷ xs) deed all buffer =
      let tail : All (λ (y : Passage). IsGoing rows event last y y.end) xs = All-tail (λ (y : Passage). IsGoing rows event last y y.end) x xs all in
      each_back_at (is_open p x) p x xs (written p (suc event) xs) refl deed buffer (all zero x (omega arith)) tail (each_back p xs deed tail)

  -- one is lost
  lose_at : (b : Bool) (who : Option ℕ) (x : Passage) → (is_buffered x.end && is_meant who x.process) ≡ b
      → ((q : ℕ) → is_meant who q ≡ true → (deed_at rows event ≡ Loses q) ⊎ (deed_at rows event ≡ LosesAll)) → IsGoing rows event last x x.end
      → IsGoing rows event last (if b then ended Lost (suc event) x else x) (if b then ended Lost (suc event) x else x).end
  lose_at true who x is deed h =
      let parts = both (is_buffered x.end) (is_meant who x.process) is in
      let known = unpack x x.end parts.0 h in
      record { flushed = known.1; stays = known.2; ends = (event, refl, deed x.process parts.1) }
  lose_at false who x is deed h = h

  each_lost : (who : Option ℕ) (xs : List Passage) → ((q : ℕ) → is_meant who q ≡ true → (deed_at rows event ≡ Loses q) ⊎ (deed_at rows event ≡ LosesAll))
      → All (λ x. IsGoing rows event last x x.end) xs → All (λ x. IsGoing rows event last x x.end) (map (lost who (suc event)) xs)
  each_lost who xs deed all =
      All-map (λ (y : Passage). IsGoing rows event last y y.end) (lost who (suc event)) xs
      (λ k d lt. lose_at (is_buffered (get_or xs k d).end && is_meant who (get_or xs k d).process) who (get_or xs k d) refl deed (all k d lt))

  -- what is known of each stays so
  each_after : (deed : Deed) (xs : List Passage) → deed ≡ deed_at rows event → All (λ x. IsGoing rows event last x x.end) xs → ((p : ℕ) → open_of p xs ≡ buffer_after p rows event)
      → All (λ x. IsGoing rows event last x x.end) (entries_after deed (suc event) last xs)
  each_after (Flushes by place) xs is all held =
      All-push (λ (y : Passage). IsGoing rows event last y y.end) xs (record { process = by; place = place; from = suc event; to = last; end = Buffered }) all
      (refl, (event, refl, sym is), λ e a b. absurd (let no_line : ⊥ = omega (arith, a, b) in no_line))
  each_after (WritesBack by) xs is all held = each_back by xs (sym is) all (held by)
  each_after (Loses by) xs is all held = each_lost (Some by) xs (λ q m. inl (subst (λ (n : ℕ). deed_at rows event ≡ Loses n) (eqb-true by q m) (sym is))) all
  each_after LosesAll xs is all held = each_lost None xs (λ q m. inr (sym is)) all
  each_after Leaves xs is all held = all

  -- what is in the buffer yet after the event, has stayed there
  on_by : (x : Passage) (end : PassageEnd) → (is_buffered end ≡ true → Contains (buffer_after x.process rows (suc event)) x.from) → IsGoing rows event last x end → IsGoing rows (suc event) last x end
  on_by x WrittenBack there h = h
  on_by x Lost there h = h
  on_by x Buffered there h = (
    h.0,
    h.1,
    λ e a b. elim (cases_lt e (suc event)) [
      | inl lt ↦ h.2 e a lt
      | inr ge ↦ (let same : suc event ≡ e = omega (arith, b, ge) in subst (λ (n : ℕ). Contains (buffer_after x.process rows n) x.from) same (there refl))
    ],
  )

  each_on : (xs : List Passage) → All (λ x. IsGoing rows event last x x.end) xs → ((p : ℕ) → open_of p xs ≡ buffer_after p rows (suc event)) → All (λ x. IsGoing rows (suc event) last x x.end) xs
  each_on xs all held = λ k d lt.
      let x : Passage = get_or xs k d in
      on_by x x.end (λ b. subst (λ (l : List ℕ). Contains l x.from) (held x.process) (contains_open x.process xs k d lt (and_both (is_buffered x.end) (x.process == x.process) b (eq-eqb x.process x.process refl)))) (all k d lt)

  going_after : (deed : Deed) (xs : List Passage) → deed ≡ deed_at rows event → AreGoing rows event last xs → AreGoing rows (suc event) last (entries_after deed (suc event) last xs)
  going_after deed xs is h =
      let held : (p : ℕ) → open_of p (entries_after deed (suc event) last xs) ≡ buffer_after p rows (suc event) = λ p.
      open_after deed p (suc event) last xs ∙ ap (λ (l : List ℕ). changed p deed (suc event) l) (h.held p) ∙ ap (λ (d : Deed). changed p d (suc event) (buffer_after p rows event)) is in
      record {
        all = from_after deed (suc event) last xs ∙ ap (λ (l : List ℕ). if is_flush deed then l ++ suc event ∷ [] else l) h.all
            ∙ ap (λ (d : Deed). if is_flush d then flushes_below rows event ++ suc event ∷ [] else flushes_below rows event) is;
        each = each_on (entries_after deed (suc event) last xs) (each_after deed xs is h.each h.held) held;
        held = held;
      }

-- the same, by the row of the event
pub going_more : (rows : List TraceRow) (event last : ℕ) (row : TraceRow) (deed : Deed) (xs new : List Passage) → event < length rows → row ≡ get_or rows event row → deed ≡ deed_by row.what row.reply
    → AreGoing rows event last xs → new ≡ entries_after deed (event + 1) last xs → AreGoing rows (event + 1) last new
going_more rows event last row deed xs new lt at is h more =
    let line : suc event ≡ event + 1 = omega arith in
    let here : deed ≡ deed_at rows event = is ∙ ap (λ (r : TraceRow). deed_by r.what r.reply) at ∙ sym (get_or-map (λ (r : TraceRow). deed_by r.what r.reply) rows event row Leaves lt) in
    subst (λ (n : ℕ). AreGoing rows n last new) line
    (subst (λ (l : List Passage). AreGoing rows (suc event) last l) (ap (λ (n : ℕ). entries_after deed n last xs) line ∙ sym more)
    (going_after rows event last deed xs here h))

-- after all events
finish : (rows : List TraceRow) (last : ℕ) (x : Passage) (end : PassageEnd) → last ≡ length rows + 1 → x.end ≡ end → IsGoing rows (length rows) last x end → IsPassage rows x
finish rows last x WrittenBack is e h = h
finish rows last x Lost is e h = h
finish rows last x Buffered is e h = record {
  flushed = h.1;
  stays = λ event a b. h.2 event a (let to = h.0 in omega (arith, b, to, is));
  ends = subst (λ (end : PassageEnd). EndsSo rows x.process x.from x.to end) (sym e) (h.0 ∙ is);
}

pub going_all : (rows : List TraceRow) (event last : ℕ) (xs : List Passage) → event ≡ length rows → last ≡ length rows + 1 → AreGoing rows event last xs → ArePassages rows xs
going_all rows event last xs past is h =
    let all : AreGoing rows (length rows) last xs = subst (λ (n : ℕ). AreGoing rows n last xs) past h in
    record {
      each = λ k d lt. finish rows last (get_or xs k d) (get_or xs k d).end is refl (all.each k d lt);
      all = all.all;
    }
