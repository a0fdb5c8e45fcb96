-- The passes of a sheet are joined in one seat.
use Rattle.std.proofs.Common.{ℕ, ◌≡◌, ◌⊎◌, ◌+◌, map, length-append, List, [], ◌∷◌, ◌++◌, length, refl, sym, ap, subst, ◌∙◌, inl, inr, ⊎_elim, arith, Contains}
use Rattle.std.specs.Prelude.{Bool}
use Rattle.std.specs.List.{range_with_len}
use Rattle.std.proofs.lemmas.List.{map_push, reverse-append, append-nil, append_assoc}
use Rattle.std.proofs.lemmas.List.Elements.{Contains-push_cases, Contains-append_left, Contains-append_right}
use Rattle.std.specs.Prelude.{Some}
use Rattle.atomic_table.specs.Table.{Me}
use Rattle.atomic_table.specs.declared.shared.Seat.{Seat}
use Rattle.ds_shared.specs.Known.{IsKnown, IsMemory, past_in, seen_by}
use Rattle.ds_state.specs.declared.situation.Situation.TheVariants.{Stopped}
use Rattle.pm_base.proofs.Lists.{in_left, in_right, in_append}
use Rattle.pm_base.specs.Structures.{In}
use Rattle.pm_board.specs.Views.{HasRest, lone, united, newcomer, newcomers_from, first_in, first_now, deeds_at, seen_at, whole_view}
use Rattle.ds_structure.specs.Sheet.{sheet}
use Rattle.ds_structure.specs.declared.sheet.SheetKey.{SheetKey}
use Rattle.ds_structure_shared.specs.Boards.{SheetEntry, SheetSeated, SheetView, sole}
use Rattle.ds_shared.specs.declared.pass.Pass.{Pass}
use Rattle.ds_shared.specs.Answers.{IsFresh, seated_by}
use Rattle.ds_shared.proofs.Ordered.{one_more}

-- the pass waits to be joined, or its process is one of the view
abbrev pub IsTaken : List Pass → SheetView → Pass → Type 0
IsTaken passes v p = Contains passes p ⊎ In v.entries (sole p.place)

-- each process of the view is a pass's
abbrev pub AreOf : List Pass → SheetView → Type 0
AreOf all v = (e : SheetSeated) → In v.entries e → (p : Pass) × Contains all p × (e ≡ sole p.place)

-- the last pass is popped, and its view joined
pub popped : (ps qs : List Pass) (x p : Pass) (v : SheetView) → ps ≡ qs ++ x ∷ [] → IsTaken ps v p → IsTaken qs (united v x.place.me.0) p
popped ps qs x p v e known = ⊎_elim
    (λ (t : Contains ps p). ⊎_elim (λ (a : Contains qs p). inl a)
    (λ (b : x ≡ p). inr (in_right v.entries x.place.me.0.entries (sole p.place) (subst (λ (y : Pass). In x.place.me.0.entries (sole y.place)) b (own x))))
    (Contains-push_cases qs x p (subst (λ (l : List Pass). Contains l p) e t)))
    (λ (t : In v.entries (sole p.place)). inr (in_left v.entries x.place.me.0.entries (sole p.place) t))
    known
  where
    own : (y : Pass) → In y.place.me.0.entries (sole y.place)
    own y = subst (λ (z : SheetView). In z.entries (sole y.place)) (sym (ap (λ m. m.0) y.known.alone)) (inl refl)

-- its process is its own
pub still_of : (all : List Pass) (x : Pass) (v : SheetView) → Contains all x → AreOf all v → AreOf all (united v x.place.me.0)
still_of all x v there known e inside = ⊎_elim
    (λ (a : In v.entries e). known e a)
    (λ (b : In x.place.me.0.entries e). ⊎_elim (λ (same : sole x.place ≡ e). (x, there, sym same)) (λ none. absurd none)
    (subst (λ (z : SheetView). In z.entries e) (ap (λ m. m.0) x.known.alone) b))
    (in_append v.entries x.place.me.0.entries e inside)

-- where no pass is left to join, each one that was taken is in the view
pub none_left : (ps : List Pass) (p : Pass) (v : SheetView) → length ps ≡ 0 → IsTaken ps v p → In v.entries (sole p.place)
none_left ps p v e known = ⊎_elim (λ (t : Contains ps p). absurd (let h = t.1 in omega arith)) (λ t. t) known

-- what is remembered stays so
pub past_kept : (v w : SheetView) (e : SheetSeated) → In v.past e → In (united v w).past e
past_kept v w e here = in_left v.past w.past e here

-- ---- in their order

-- a pass remembers nothing of its own
pub same_past : (x : Pass) (v : SheetView) → (united v x.place.me.0).past ≡ v.past
same_past x v = ap (λ m. v.past ++ m.0.past) x.known.alone ∙ append-nil v.past

-- the last pass comes first
pub seated_push : (ps qs : List Pass) (x : Pass) → ps ≡ qs ++ x ∷ [] → seated_by ps ≡ sole x.place ∷ seated_by qs
seated_push ps qs x e = ap seated_by e ∙ ap (map (λ (p : Pass). sole p.place)) (reverse-append qs (x ∷ []))

-- the process of the last pass is joined, before those that wait
pub one_seated : (ps qs all : List Pass) (x : Pass) (v w : SheetView) → ps ≡ qs ++ x ∷ [] → w ≡ united v x.place.me.0 → v.entries ++ seated_by ps ≡ seated_by all
    → w.entries ++ seated_by qs ≡ seated_by all
one_seated ps qs all x v w e is so_far =
    ap (λ (z : SheetView). z.entries ++ seated_by qs) is ∙ (ap (λ m. (v.entries ++ m.0.entries) ++ seated_by qs) x.known.alone
    ∙ (append_assoc v.entries (sole x.place ∷ []) (seated_by qs) ∙ (ap (λ (es : List SheetSeated). v.entries ++ es) (sym (seated_push ps qs x e)) ∙ so_far)))

-- none waits any more: the past, and after it the processes of all passes
pub all_seated : (qs all : List Pass) (v : SheetView) (past : List SheetSeated) → length qs ≡ 0 → v.past ≡ past → v.entries ++ seated_by qs ≡ seated_by all
    → v.past ++ v.entries ≡ past ++ seated_by all
all_seated [] all v past none before seats = λ i. before i ++ (sym (append-nil v.entries) ∙ seats) i
all_seated (q ∷ qs) all v past none before seats = absurd (omega arith)

-- ... and the processes alone
pub all_entries : (qs all : List Pass) (v : SheetView) → length qs ≡ 0 → v.entries ++ seated_by qs ≡ seated_by all → v.entries ≡ seated_by all
all_entries [] all v none seats = sym (append-nil v.entries) ∙ seats
all_entries (q ∷ qs) all v none seats = absurd (omega arith)

-- ---- dealt

-- one pass more, which is the next process's
pub in_order : (xs ys : List Pass) (x : Pass) (p : ℕ) → ys ≡ xs ++ x ∷ [] → x.process ≡ p → map (λ (q : Pass). q.process) xs ≡ range_with_len 0 p → map (λ (q : Pass). q.process) ys ≡ range_with_len 0 (p + 1)
in_order xs ys x p is own so_far = ap (map (λ (q : Pass). q.process)) is ∙ (map_push (λ (q : Pass). q.process) xs x ∙ ((λ i. so_far i ++ own i ∷ []) ∙ sym (one_more 0 p p (omega arith))))

-- the seat runs every process, each before its first call, and each has seen this
abbrev pub HasAll : Bool → SheetKey → List SheetEntry → Seat ℕ SheetView → Type 0
HasAll stopped key seen s = s.me ≡ (whole_view sheet key stopped (Some seen) (past_in s), [])

-- the seat runs every process from this one on, so
abbrev pub HasLeft : Bool → SheetKey → List SheetEntry → List SheetSeated → ℕ → Seat ℕ SheetView → Type 0
HasLeft stopped key seen past p s = HasRest (first_now sheet stopped) (Some seen) p key.layout.processes past s.me.0

-- at first it runs all
pub all_left : (stopped : Bool) (key : SheetKey) (seen : List SheetEntry) (s : Seat ℕ SheetView) → HasAll stopped key seen s → HasLeft stopped key seen (past_in s) 0 s
all_left stopped key seen s is = (key.layout.processes, (omega arith), ap (λ (m : Me ℕ SheetView). m.0) is)

-- where none is left, it remembers alone
pub none_to_deal : (stopped : Bool) (key : SheetKey) (seen : List SheetEntry) (past : List SheetSeated) (s : Seat ℕ SheetView) → s.me.1 ≡ [] → HasLeft stopped key seen past key.layout.processes s → IsMemory s
none_to_deal stopped key seen past s empty h =
    let none : h.0 ≡ 0 = (let e = h.1 in omega arith) in
    let view : s.me.0 ≡ record { entries = []; past = past } = h.2 ∙ ap (λ (n : ℕ). record { entries = newcomers_from (first_now sheet stopped) (Some seen) key.layout.processes n; past = past }) none in
    λ i. ((view ∙ ap (λ (v : SheetView). record { entries = []; past = v.past }) (sym view)) i, empty i)

-- a pass on a newcomer's seat, with number 0, has begun no call
pub fresh_at : (x : Pass) (p : ℕ) (stopped : Bool) (seen : List SheetEntry) → x.stopped ≡ stopped → x.number ≡ 0 → x.place.me ≡ (lone (newcomer (first_now sheet stopped) (Some seen) p), []) → IsFresh stopped x
fresh_at x p stopped seen is number me = record { stopped_is = is; number = number; call_events = ap (λ m. (deeds_at m).done) me; steps = ap (λ m. (deeds_at m).steps) me }

-- and has seen what the newcomer has
pub sees_so : (s : Seat ℕ SheetView) (p : ℕ) (stopped : Bool) (seen : List SheetEntry) → s.me ≡ (lone (newcomer (first_now sheet stopped) (Some seen) p), []) → seen_by s ≡ seen
sees_so s p stopped seen me = ap seen_at me

-- a newcomer's seat is known
pub known_new : (s : Seat ℕ SheetView) (p : ℕ) (stopped : Bool) (seen : List SheetEntry) → s.me ≡ (lone (newcomer (first_now sheet stopped) (Some seen) p), []) → IsKnown s p 0 stopped
known_new s p stopped seen me =
    let one : sole s ≡ newcomer (first_now sheet stopped) (Some seen) p = ap (λ (m : Me ℕ SheetView). first_in Stopped m.0.entries) me in record {
      alone = me ∙ ap (λ (e : SheetSeated). (lone e, [])) (sym one);
      process_is = ap (λ (e : SheetSeated). e.process) one;
      idle = λ off. ap (λ (e : SheetSeated). e.now) one ∙ ap (first_now sheet) off;
      looked = ap (λ (e : SheetSeated). e.deeds.seen) one ∙ ap Some (sym (ap seen_at me));
    }

-- with one pass more after it, a list is one longer
pub one_longer : (xs ys : List Pass) (x : Pass) → ys ≡ xs ++ x ∷ [] → length ys ≡ length xs + 1
one_longer xs ys x is = ap length is ∙ length-append xs (x ∷ [])

-- ---- popped

-- the pass at the end of a list is in it
pub last_there : (ps qs : List Pass) (x : Pass) → ps ≡ qs ++ x ∷ [] → Contains ps x
last_there ps qs x e = subst (λ (l : List Pass). Contains l x) (sym e) (Contains-append_right qs (x ∷ []) x (0, omega arith, refl))

-- a pass of a list is in it with one more after it
pub still_there : (ps qs : List Pass) (x p : Pass) → ps ≡ qs ++ x ∷ [] → Contains qs p → Contains ps p
still_there ps qs x p e there = subst (λ (l : List Pass). Contains l p) (sym e) (Contains-append_left qs (x ∷ []) p there)
