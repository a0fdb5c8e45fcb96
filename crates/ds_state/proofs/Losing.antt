-- Which edits a crash takes: at most the last one of each cell.
use Rattle.std.proofs.Common.{ℕ, ◌≡◌, ◌≢◌, ◌<◌, ◌+◌, ◌*◌, ◌%◌, ◌==◌, List, [], ◌∷◌, ◌++◌, refl, ap, sym, ◌∙◌, subst, arith, inl, inr, zero, suc, length, true, false, get_or}
use Rattle.std.specs.Prelude.{All, Contains, Bool, filter, if◌then◌else◌}
use Rattle.std.proofs.lemmas.Bool.{eq-eqb, eqb-true}
use Rattle.std.proofs.lemmas.Bool.Decides.{eqb_tells}
use Rattle.std.proofs.lemmas.List.Elements.{filter-append, filter_passes, All-filter, All-contains, Contains-append_right, Contains-append_left}
use Rattle.std.proofs.lemmas.List.{append-nil}
use Rattle.ds_words.specs.Memory.{Memory}
use Rattle.ds_layout.specs.declared.place.Place.{Place}
use Rattle.ds_layout.specs.declared.place.Place.TheVariants.{Head}
use Rattle.ds_state.specs.World.{PlainEdit, PlainWorld, of_cell, head_after_all, head_by}
use Rattle.ds_state.specs.Crashes.{is_lost, survivors, CrashesTo}
use Rattle.ds_state.specs.WordsFit.{IsOnItsWay}
use Rattle.ds_state.specs.Sound.{IsSound, Increasing}
use Rattle.ds_state.proofs.Heads.{Small, IsSmall, small_counted, small_of_cell, head_grows, head_push, cell_of-middle}
use Rattle.ds_state.proofs.Crashing.{Leaves}

-- two tests of a list, in either order
either : (keep : PlainEdit → Bool) (cell : ℕ) (x : PlainEdit) (es : List PlainEdit) (a b : Bool) → keep x ≡ a → (x.cell == cell) ≡ b
    → filter (λ (e : PlainEdit). e.cell == cell) (filter keep es) ≡ filter keep (filter (λ (e : PlainEdit). e.cell == cell) es)
    → filter (λ (e : PlainEdit). e.cell == cell) (filter keep (x ∷ es)) ≡ filter keep (filter (λ (e : PlainEdit). e.cell == cell) (x ∷ es))
either keep cell x es true true p q again = rw (p, q) (rw p (ap (λ zs. x ∷ zs) again))
either keep cell x es true false p q again = rw (p, q) again
either keep cell x es false true p q again = rw (p, q) (rw p again)
either keep cell x es false false p q again = rw (p, q) again

keeps_cell : (keep : PlainEdit → Bool) (cell : ℕ) (es : List PlainEdit) → filter (λ (e : PlainEdit). e.cell == cell) (filter keep es) ≡ filter keep (filter (λ (e : PlainEdit). e.cell == cell) es)
keeps_cell keep cell [] = refl
keeps_cell keep cell (x ∷ es) = either keep cell x es (keep x) (x.cell == cell) refl refl (keeps_cell keep cell es)

all_kept : (keep : PlainEdit → Bool) (es : List PlainEdit) → ((e : PlainEdit) → Contains es e → keep e ≡ true) → filter keep es ≡ es
all_kept keep [] h = refl
all_kept keep (x ∷ es) h = rw (h x (0, omega arith, refl)) (ap (λ zs. x ∷ zs) (all_kept keep es (λ e k. h e (suc k.0, (let l = k.1 in omega arith), k.2))))

abbrev keep : Memory Place → PlainEdit → Bool
keep m e = if is_lost m e then false else true

kept_at : (m : Memory Place) (e : PlainEdit) → is_lost m e ≡ false → keep m e ≡ true
kept_at m e f = rw f refl

survivors_of : (m : Memory Place) (cell : ℕ) (edits : List PlainEdit) → of_cell cell (survivors m edits) ≡ filter (keep m) (of_cell cell edits)
unfolding of_cell survivors
survivors_of m cell edits = keeps_cell (keep m) cell edits

-- where each process's numbers grow along a list, they do along what is left of it
pub increasing_filter : (p : PlainEdit → Bool) (es : List PlainEdit) → Increasing es → Increasing (filter p es)
increasing_filter p [] h = tt
increasing_filter p (x ∷ es) h = by (p x) refl (increasing_filter p es h.1)
  where
    by : (a : Bool) → p x ≡ a → Increasing (filter p es) → Increasing (filter p (x ∷ es))
    by true q again = rw q (All-filter p (λ (f : PlainEdit). f.process ≡ x.process → x.number < f.number) es h.0, again)
    by false q again = rw q again

-- where each process's numbers grow along a list, they do along the edits of one cell
pub increasing_cell : (cell : ℕ) (es : List PlainEdit) → Increasing es → Increasing (of_cell cell es)
unfolding of_cell
increasing_cell cell es h = increasing_filter (λ e. e.cell == cell) es h

-- the last one has a greater number than those of its process before
pub last_greater : (before : List PlainEdit) (last e : PlainEdit) → Increasing (before ++ last ∷ []) → Contains before e → last.process ≡ e.process → e.number < last.number
last_greater [] last e h (k, l, is) same = absurd (omega arith)
last_greater (x ∷ xs) last e h (zero, l, is) same =
    let here : x ≡ e = is in
    let at : Contains (xs ++ last ∷ []) last = Contains-append_right xs (last ∷ []) last (zero, omega arith, refl) in
    subst (λ (y : PlainEdit). y.number < last.number) here (All-contains (λ (f : PlainEdit). f.process ≡ x.process → x.number < f.number) (xs ++ last ∷ []) last h.0 at (same ∙ ap (λ (y : PlainEdit). y.process) (sym here)))
last_greater (x ∷ xs) last e h (suc k, l, is) same = last_greater xs last e h.1 (k, omega arith, is) same

not_lost : (m : Memory Place) (e : PlainEdit) → m.persisted (Head e.cell) ≡ m.cached (Head e.cell) → is_lost m e ≡ false
not_lost m e same = rw (eq-eqb (m.cached (Head e.cell)) (m.persisted (Head e.cell)) (sym same)) refl

other_kept : (m : Memory Place) (e : PlainEdit) → m.cached (Head e.cell) % 65536 ≢ e.process * 256 + e.number → is_lost m e ≡ false
other_kept m e ne = elim (eqb_tells (m.cached (Head e.cell)) (m.persisted (Head e.cell))) [
  | inl same ↦ rw same.0 refl
  | inr differ ↦ elim (eqb_tells (m.cached (Head e.cell) % 65536) (e.process * 256 + e.number)) [
    | inl its ↦ absurd (ne its.1)
    | inr other ↦ rw (differ.0, other.0) refl
  ]
]

last_lost : (m : Memory Place) (e : PlainEdit) → m.cached (Head e.cell) ≢ m.persisted (Head e.cell) → m.cached (Head e.cell) % 65536 ≡ e.process * 256 + e.number → keep m e ≡ false
last_lost m e ne is = elim (eqb_tells (m.cached (Head e.cell)) (m.persisted (Head e.cell))) [
  | inl same ↦ absurd (ne same.1)
  | inr differ ↦ rw (differ.0, eq-eqb (m.cached (Head e.cell) % 65536) (e.process * 256 + e.number) is) refl
]

all_its : (cell : ℕ) (edits : List PlainEdit) → All (λ (f : PlainEdit). f.cell ≡ cell) (of_cell cell edits)
unfolding of_cell
all_its cell edits = λ k d l. eqb-true (get_or (filter (λ (e : PlainEdit). e.cell == cell) edits) k d).cell cell (filter_passes (λ (e : PlainEdit). e.cell == cell) edits k d l)

module _ (old new : PlainWorld) (sound : IsSound old) (crash : CrashesTo old new) where
  left : (c : ℕ) → of_cell c new.counted ≡ filter (keep old.memory) (of_cell c old.counted)
  left c = ap (λ (es : List PlainEdit). of_cell c es) crash.counted ∙ survivors_of old.memory c old.counted

  cell_is : (c : ℕ) (e : PlainEdit) → Contains (of_cell c old.counted) e → e.cell ≡ c
  cell_is c e h = All-contains (λ (f : PlainEdit). f.cell ≡ c) (of_cell c old.counted) e (all_its c old.counted) h

  stays_all : (c : ℕ) → old.memory.persisted (Head c) ≡ old.memory.cached (Head c) → of_cell c new.counted ≡ of_cell c old.counted
  stays_all c same = left c ∙ all_kept (keep old.memory) (of_cell c old.counted) (λ e h.
      kept_at old.memory e (not_lost old.memory e (subst (λ (y : ℕ). old.memory.persisted (Head y) ≡ old.memory.cached (Head y)) (sym (cell_is c e h)) same)))

  loses_last : (c : ℕ) → (b : IsOnItsWay old (of_cell c old.counted) (old.memory.persisted (Head c))) → of_cell c new.counted ≡ b.before
  loses_last c b =
      let es : List PlainEdit = of_cell c old.counted in
      let small : Small (b.before ++ b.last ∷ []) = subst (λ (xs : List PlainEdit). Small xs) b.parts (small_of_cell c old.counted (small_counted old sound.of_sheet)) in
      let its : b.last.cell ≡ c = cell_of-middle c old.counted b.before b.last [] b.parts in
      let cached : old.memory.cached (Head c) ≡ head_by (length b.before + 1) b.last = (sound.words (Head c)).last ∙ ap head_after_all b.parts ∙ head_push b.before b.last in
      let tiny : IsSmall b.last = All-contains (λ (f : PlainEdit). IsSmall f) (b.before ++ b.last ∷ []) b.last small (Contains-append_right b.before (b.last ∷ []) b.last (zero, omega arith, refl)) in
      let tail : old.memory.cached (Head c) % 65536 ≡ b.last.process * 256 + b.last.number = (let p = tiny.process in let n = tiny.number in omega arith) in
      let grows = head_grows b.before b.last [] small in
      let apart : old.memory.cached (Head b.last.cell) ≢ old.memory.persisted (Head b.last.cell) = (λ same.
      let again : old.memory.cached (Head c) ≡ old.memory.persisted (Head c) = subst (λ (y : ℕ). old.memory.cached (Head y) ≡ old.memory.persisted (Head y)) its same in
      let is = b.is in
      let all = ap head_after_all b.parts in
      let l = (sound.words (Head c)).last in
      omega arith) in
      left c ∙ ap (λ (xs : List PlainEdit). filter (keep old.memory) xs) b.parts ∙ filter-append (keep old.memory) b.before (b.last ∷ [])
      ∙ ap (λ (xs : List PlainEdit). xs ++ filter (keep old.memory) (b.last ∷ [])) (all_kept (keep old.memory) b.before (λ e h. kept_at old.memory e (before_kept c b e h tail)))
      ∙ ap (λ (xs : List PlainEdit). b.before ++ xs) (none_left b.last (last_lost old.memory b.last apart (subst (λ (y : ℕ). old.memory.cached (Head y) % 65536 ≡ b.last.process * 256 + b.last.number) (sym its) tail)))
      ∙ append-nil b.before
    where
      none_left : (e : PlainEdit) → keep old.memory e ≡ false → filter (keep old.memory) (e ∷ []) ≡ []
      none_left e f = rw f refl

      before_kept : (c : ℕ) (b : IsOnItsWay old (of_cell c old.counted) (old.memory.persisted (Head c))) (e : PlainEdit) → Contains b.before e → old.memory.cached (Head c) % 65536 ≡ b.last.process * 256 + b.last.number → is_lost old.memory e ≡ false
      before_kept c b e h tail =
          let small : Small (b.before ++ b.last ∷ []) = subst (λ (xs : List PlainEdit). Small xs) b.parts (small_of_cell c old.counted (small_counted old sound.of_sheet)) in
          let there : Contains (b.before ++ b.last ∷ []) e = Contains-append_left b.before (b.last ∷ []) e h in
          let tiny : IsSmall e = All-contains (λ (f : PlainEdit). IsSmall f) (b.before ++ b.last ∷ []) e small there in
          let tiny' : IsSmall b.last = All-contains (λ (f : PlainEdit). IsSmall f) (b.before ++ b.last ∷ []) b.last small (Contains-append_right b.before (b.last ∷ []) b.last (zero, omega arith, refl)) in
          let its : e.cell ≡ c = cell_is c e (subst (λ (xs : List PlainEdit). Contains xs e) (sym b.parts) there) in
          let increasing : Increasing (b.before ++ b.last ∷ []) = subst (λ (xs : List PlainEdit). Increasing xs) b.parts (increasing_cell c old.counted sound.increasing) in
          other_kept old.memory e (λ same.
          let at : old.memory.cached (Head c) % 65536 ≡ e.process * 256 + e.number = subst (λ (y : ℕ). old.memory.cached (Head y) % 65536 ≡ e.process * 256 + e.number) its same in
          let p = tiny.number in
          let p' = tiny'.number in
          let process : b.last.process ≡ e.process = omega arith in
          let less = last_greater b.before b.last e increasing h process in
          omega arith)

  pub leaves : Leaves old new
  leaves = record {
    cells = λ c. elim (sound.words (Head c)).sides [
      | inl same ↦ inl (stays_all c same)
      | inr b ↦ inr (b.last, b.parts ∙ ap (λ (xs : List PlainEdit). xs ++ b.last ∷ []) (sym (loses_last c b)))
    ];
    heads = λ c. elim (sound.words (Head c)).sides [
      | inl same ↦ same ∙ (sound.words (Head c)).last ∙ ap head_after_all (sym (stays_all c same))
      | inr b ↦ b.is ∙ ap head_after_all (sym (loses_last c b))
    ];
  }
