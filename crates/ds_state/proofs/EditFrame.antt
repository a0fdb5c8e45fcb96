-- What an edit's step leaves of clauses 1 and 2, by the sort of its access.
use Rattle.std.proofs.Common.{ℕ, ◌≡◌, ◌<◌, ◌≤◌, ◌⊎◌, List, [], ◌∷◌, refl, ap, sym, ◌∙◌, subst, arith, inl, inr, max, suc}
use Rattle.std.specs.Prelude.{Contains}
use Rattle.std.proofs.lemmas.Bool.{cases_eq}
use Rattle.ds_words.specs.declared.access.BufferEntry.{BufferEntry}
use Rattle.ds_words.specs.Memory.{FlushesAt, WritesBack, newer}
use Rattle.ds_layout.specs.Places.{class_of}
use Rattle.ds_layout.specs.declared.place.Place.{Place}
use Rattle.ds_layout.specs.declared.place.Place.TheVariants.{Version, Head, Mark}
use Rattle.ds_formula.specs.Plain.{PlainContent}
use Rattle.ds_state.specs.Edits.{PlainEditCall}
use Rattle.ds_state.specs.World.{PlainWorld, of_cell, head_after_all}
use Rattle.ds_state.specs.Owing.{entry, Parts, SplitsAt, Splits, Owes, Excuses, IsExcused}
use Rattle.ds_state.specs.Standing.{HasContent, IsDurable, AllStand}
use Rattle.ds_state.specs.Rely.{Bears}
use Rattle.ds_state.specs.Sound.{IsSound}
use Rattle.ds_state.specs.declared.stage.Stage.{Stage}
use Rattle.ds_state.specs.declared.situation.Situation.{Situation}
use Rattle.ds_state.specs.declared.situation.Situation.TheVariants.{Editing}
use Rattle.ds_state.proofs.Frames.{Moves, KeepsOwing, KeepsApart}
use Rattle.ds_state.proofs.Bearing.{Buffered, Mine, MyMarks, bears, all_stand, text_same, no_new_marks, flushed_marks, backed_marks, in_push, apart_lasts, splits_last, splits_excuse, pends_last, marks_grow}
use Rattle.ds_state.proofs.Heads.{cell_of-middle}
use Rattle.ds_state.proofs.Noted.{of_sheet_middle}
use Rattle.ds_state.proofs.EditSteps.{edit_on}

-- what was owed is owed where it matters, clean marks stand, and sides that may differ still may, or agree
pub record Framed (old new : PlainWorld) : Type 0 where
  pub bears : Bears old new
  pub stand : AllStand new
  pub apart : KeepsApart old new

module _ (p : ℕ) (old new : PlainWorld) (m : Moves p Version old new) (sound : IsSound old) (buffered : Buffered old) (mine : Mine p Version old new m)
    (text : (c head : ℕ) (content : PlainContent) → HasContent old c head content → HasContent new c head content) where
  -- whatever is flushed
  pub flush_any : (place : Place) → FlushesAt p place (class_of place) old.memory new.memory → MyMarks p Version old new m
  flush_any (Mark d) f = flushed_marks p Version old new m sound buffered mine text d (λ c is. cc) f
  flush_any place f = no_new_marks p Version old new m (λ c is. cc) (λ c x q h. elim (cases_eq q p) [
    | inr ne ↦ subst (λ (xs : List (BufferEntry Place)). Contains xs (entry (Mark c) x)) (f.others q ne) h
    | inl eq ↦ elim (in_push (old.memory.buffer p) (entry place (old.memory.cached place)) (entry (Mark c) x) (subst (λ (xs : List (BufferEntry Place)). Contains xs (entry (Mark c) x)) (ap new.memory.buffer eq ∙ f.mine) h)) [
      | inl there ↦ subst (λ (r : ℕ). Contains (old.memory.buffer r) (entry (Mark c) x)) (sym eq) there
      | inr is ↦ absurd (let at : place ≡ Mark c = ap (λ (y : BufferEntry Place). y.place) is in cc)
    ]
  ])

max_cases : (a b : ℕ) → ((max a b ≡ a) × (b ≤ a)) ⊎ ((max a b ≡ b) × (a ≤ b))
max_cases a b = grind arith

module _ (p : ℕ) (place : Place) (value : ℕ) (old new : PlainWorld) (m : Moves p place old new) (sound : IsSound old) (buffered : Buffered old) (mine : Mine p place old new m)
    (text : (c head : ℕ) (content : PlainContent) → HasContent old c head content → HasContent new c head content) (real : p < old.layout.processes) {rest : List (BufferEntry Place)} (w : WritesBack p (entry place value) rest old.memory new.memory) where
  nothing_new : (c x q : ℕ) → Contains (new.memory.buffer q) (entry (Mark c) x) → Contains (old.memory.buffer q) (entry (Mark c) x)
  nothing_new c x q h = elim (cases_eq q p) [
    | inr ne ↦ subst (λ (xs : List (BufferEntry Place)). Contains xs (entry (Mark c) x)) (w.others q ne) h
    | inl eq ↦ subst (λ (r : ℕ). Contains (old.memory.buffer r) (entry (Mark c) x)) (sym eq) (subst (λ (xs : List (BufferEntry Place)). Contains xs (entry (Mark c) x)) (sym w.oldest)
        (behind (entry place value) (subst (λ (xs : List (BufferEntry Place)). Contains xs (entry (Mark c) x)) (ap new.memory.buffer eq ∙ w.mine) h)))
  ]
    where
      behind : (y : BufferEntry Place) → Contains rest (entry (Mark c) x) → Contains (y ∷ rest) (entry (Mark c) x)
      behind y (k, l, same) = (suc k, omega arith, same)

  -- whatever is written back
  back_at : (r : Place) → r ≡ place → MyMarks p place old new m
  back_at (Mark d) at =
      let v : ℕ = max (old.memory.persisted (Mark d)) value in
      let there : new.memory.persisted (Mark d) ≡ v = subst (λ (y : Place). new.memory.persisted y ≡ newer (class_of y) (old.memory.persisted y) value) (sym at) w.there in
      let found : IsDurable old d v = elim (max_cases (old.memory.persisted (Mark d)) value) [
        | inl keeps ↦ inl keeps.0
        | inr newer' ↦ inr (record {
          by = p;
          process = real;
          there = subst (λ (y : ℕ). Contains (old.memory.buffer p) (entry (Mark d) y)) (sym newer'.0)
              (subst (λ (y : Place). Contains (old.memory.buffer p) (entry y value)) (sym at) (subst (λ (xs : List (BufferEntry Place)). Contains xs (entry place value)) (sym w.oldest) (0, omega arith, refl)));
          no_older = (let e = newer'.0 in let l = newer'.1 in omega arith);
        })
      ] in
      backed_marks p place old new m sound buffered mine text d v (sym at) there (inl found) w.cached nothing_new
  back_at r at = no_new_marks p place old new m (λ c is. let both : r ≡ Mark c = at ∙ is in cc) nothing_new

  pub back_any : MyMarks p place old new m
  back_any = back_at place refl

-- a step of an edit from stage to stage
module _ (p : ℕ) (e : PlainEditCall) (s s' : Stage) (place : Place) (old new : PlainWorld) (moves : Moves p place old new) (same : new.counted ≡ old.counted)
    (was : old.situation p ≡ Editing (edit_on e s)) (is : new.situation p ≡ Editing (edit_on e s')) (sound : IsSound old) (buffered : Buffered old) where
  pub edit_apart : KeepsApart old new
  edit_apart cell a = elim (cases_eq a.holder p) [
    | inr ne ↦ inl (apart_lasts p place old new moves cell a ne)
    | inl eq ↦ absurd (subst (λ (x : Situation). Parts x cell) was (subst (λ (q : ℕ). Parts (old.situation q) cell) eq a.still))
  ]

  pub edit_keeps : new.open_edits p ≡ old.open_edits p → ((head : ℕ) → SplitsAt s head → SplitsAt s' head) → (cell : ℕ) → KeepsOwing old new cell
  edit_keeps pending splits cell f issue its pends was_same before parts owes = elim (cases_eq f.process p) [
    | inl eq ↦ (
        let k : Splits old p (Editing (edit_on e s)) f.cell (head_after_all (of_cell cell old.counted)) =
        subst (λ (x : Situation). Splits old p x f.cell (head_after_all (of_cell cell old.counted))) was (subst (λ (q : ℕ). Splits old q (old.situation q) f.cell (head_after_all (of_cell cell old.counted))) eq owes) in
        let now : Splits new p (new.situation p) f.cell (head_after_all (of_cell cell old.counted)) =
        subst (λ (x : Situation). Splits new p x f.cell (head_after_all (of_cell cell old.counted))) (sym is) (k.0, splits _ k.1) in
        (ap new.open_edits eq ∙ pending ∙ ap old.open_edits (sym eq) ∙ pends, subst (λ (q : ℕ). Splits new q (new.situation q) f.cell (head_after_all (of_cell cell old.counted))) (sym eq) now))
    | inr ne ↦ (
      moves.pendings f.process ne ∙ pends,
      subst (λ (x : Situation). Splits new f.process x f.cell (head_after_all (of_cell cell old.counted))) (sym (moves.situations f.process ne))
          (splits_last old new f.process (λ c. marks_grow p place old new moves c) (moves.buffers f.process ne) (λ c k. pends_last p place old new moves f.process c ne k) (old.situation f.process) f.cell _ owes),
    )
  ]

  pub edit_framed : (mine : Mine p place old new moves) → MyMarks p place old new moves → Framed old new
  edit_framed mine marks = record {
    bears = bears p place old new moves sound mine;
    stand = all_stand p place old new moves sound buffered mine (text_same old new moves.layout same) marks;
    apart = edit_apart;
  }

-- a head that is written back, where whoever may have its sides differ still may
pub heads_back : (old new : PlainWorld) (c v' : ℕ) → IsSound old → new.layout ≡ old.layout → KeepsOwing old new c
    → new.memory.persisted (Head c) ≡ v' → (v' ≡ old.memory.persisted (Head c)) ⊎ (v' ≡ old.memory.cached (Head c))
    → (new.memory.persisted (Head c) ≡ old.memory.persisted (Head c)) ⊎ ((x : ℕ) → IsExcused new c x)
heads_back old new c v' sound layout keeps now between = elim between [
  | inl same ↦ inl (now ∙ same)
  | inr caught ↦ elim (sound.words (Head c)).sides [
    | inl agree ↦ inl (now ∙ caught ∙ sym agree)
    | inr b ↦ inr (λ x. (
        let its : b.last.cell ≡ c = cell_of-middle c old.counted b.before b.last [] b.parts in
        let k = keeps b.last b.issue its b.open_edits b.same b.before b.parts b.owes in
        record {
          process = b.last.process;
          inside = rw layout (of_sheet_middle old sound.of_sheet c b.before b.last [] b.parts).process;
          still = subst (λ (y : ℕ). Excuses new b.last.process (new.situation b.last.process) y x) its (splits_excuse new b.last.process (new.situation b.last.process) b.last.cell _ x k.1);
        }))
  ]
]

-- a step that touches no word, of a process that owes nothing
module _ (p : ℕ) (old new : PlainWorld) (moves : Moves p Version old new) (same : new.counted ≡ old.counted) (sound : IsSound old) (buffered : Buffered old)
    (owes : (r c x : ℕ) → Owes old.memory p (old.situation p) r c x → ⊥) (excuses : (c x : ℕ) → Excuses old p (old.situation p) c x → ⊥)
    (parts : (r : ℕ) → Parts (old.situation p) r → ⊥) (splits : (c head : ℕ) → Splits old p (old.situation p) c head → ⊥)
    (buffer : (q : ℕ) → new.memory.buffer q ≡ old.memory.buffer q) where
  silent_mine : Mine p Version old new moves
  silent_mine = record {
    owes = λ r c x bit matters h o. absurd (owes r c x o);
    excuses = λ l c x matters o. absurd (excuses c x o);
    stored = λ r is. absurd (elim is [ inl x ↦ cc | inr x ↦ cc ]);
    holds = λ r is. absurd (elim is [ inl x ↦ cc | inr x ↦ cc ]);
    cached_heads = λ c is. cc;
    persisted_heads = λ c is. cc;
  }

  pub silent_framed : Framed old new
  silent_framed = record {
    bears = bears p Version old new moves sound silent_mine;
    stand = all_stand p Version old new moves sound buffered silent_mine (text_same old new moves.layout same)
        (no_new_marks p Version old new moves (λ c is. cc) (λ c x q h. subst (λ (xs : List (BufferEntry Place)). Contains xs (entry (Mark c) x)) (buffer q) h));
    apart = λ cell a. inl (elim (cases_eq a.holder p) [
      | inr ne ↦ apart_lasts p Version old new moves cell a ne
      | inl eq ↦ absurd (parts cell (subst (λ (q : ℕ). Parts (old.situation q) cell) eq a.still))
    ]);
  }

  pub silent_keeps : (cell : ℕ) → KeepsOwing old new cell
  silent_keeps cell f issue its pends was_same before last_of o = elim (cases_eq f.process p) [
    | inl eq ↦ absurd (splits f.cell _ (subst (λ (q : ℕ). Splits old q (old.situation q) f.cell (head_after_all (of_cell cell old.counted))) eq o))
    | inr ne ↦ (
      moves.pendings f.process ne ∙ pends,
      subst (λ (x : Situation). Splits new f.process x f.cell (head_after_all (of_cell cell old.counted))) (sym (moves.situations f.process ne))
          (splits_last old new f.process (λ c. marks_grow p Version old new moves c) (buffer f.process) (λ c k. pends_last p Version old new moves f.process c ne k) (old.situation f.process) f.cell _ o),
    )
  ]
