-- The clear and the first store as whole steps: they keep a world sound, and what others rely on.
use Rattle.std.proofs.Common.{ℕ, ◌≡◌, ◌<◌, ◌≤◌, ◌/◌, refl, ap, sym, ◌∙◌, subst, arith, length, inl, inr}
use Rattle.std.specs.Prelude.{Bool}
use Rattle.std.proofs.lemmas.Bool.{cases_eq}
use Rattle.ds_words.specs.Memory.{SameMemory, StoresAt}
use Rattle.ds_layout.specs.Places.{cells_of}
use Rattle.ds_state.specs.Owing.{Owes}
use Rattle.ds_state.specs.CallsFit.{IdleFits}
use Rattle.ds_state.proofs.EditFrame.{Framed, silent_framed, silent_keeps}
use Rattle.ds_layout.specs.declared.place.Place.{Place}
use Rattle.ds_layout.specs.declared.place.Place.TheVariants.{Version, Mark, Value, Announce}
use Rattle.ds_state.specs.Works.{PlainWorkCall, HELD_MOST}
use Rattle.ds_state.specs.World.{PlainWorld, of_cell, head_after_all}
use Rattle.ds_state.specs.Owing.{HoldsNone, IsHeld, IsApart, Parts, Splits, Excuses, IsMark}
use Rattle.ds_layout.specs.Mark.{IsHeldBy, freed_after}
use Rattle.ds_state.specs.KnownWork.{WorkFits, IsAtRest}
use Rattle.ds_state.specs.WordsFit.{WordFits}
use Rattle.ds_state.specs.CallsFit.{CallFits}
use Rattle.ds_state.specs.Rely.{Grows, Bears, Keeps}
use Rattle.ds_state.specs.Sound.{IsSound}
use Rattle.ds_state.specs.declared.work.WorkEnd.TheVariants.{Published}
use Rattle.ds_state.specs.declared.work.WorkStage.{WorkStage}
use Rattle.ds_state.specs.declared.work.WorkStage.TheVariants as works
use Rattle.ds_state.specs.declared.situation.Situation.{Situation}
use Rattle.ds_state.specs.declared.situation.Situation.TheVariants.{Idle, Working}
use Rattle.ds_state.proofs.Lasting.{below_stable, last_stable}
use Rattle.ds_state.specs.KnownWork.{HasHeld, HasInputs}
use Rattle.ds_state.specs.Standing.{value_for}
use Rattle.ds_state.proofs.Bearing.{text_same, stored_marks}
use Rattle.ds_work.proofs.WorkSteps.{held_both}
use Rattle.ds_state.proofs.StableWork.{rest_stable, held_stable, inputs_stable}
use Rattle.ds_state.proofs.Frames.{MovesWord, Moves, KeepsOwing, KeepsApart, grows_own, moves_sound}
use Rattle.ds_state.proofs.Bearing.{bears, all_stand, splits_last, pends_last, marks_grow, apart_lasts}
use Rattle.ds_state.proofs.Accesses.{Turn, store_moves, same_moves, quiet_sound}
use Rattle.ds_state.proofs.Buffers.{buffered}
use Rattle.ds_work.proofs.WorkSteps.{on, clear_mine, clear_stands, store_value_mine}
use Rattle.ds_state.specs.declared.situation.Rest.{Rest}
use Rattle.ds_work.specs.WorkSteps.{rest_of}

-- who works owes no head
module _ (p : ℕ) (e : PlainWorkCall) (place : Place) (old new : PlainWorld) (moves : Moves p place old new) (was : old.situation p ≡ Working e) where
  pub keeps_heads : (cell : ℕ) → KeepsOwing old new cell
  keeps_heads cell f issue its is same before last_of owes = elim (cases_eq f.process p) [
    | inl eq ↦ absurd (none (subst (λ (s : Situation). Splits old p s f.cell (head_after_all (of_cell cell old.counted))) was (subst (λ (q : ℕ). Splits old q (old.situation q) f.cell (head_after_all (of_cell cell old.counted))) eq owes)))
    | inr ne ↦ (
      moves.pendings f.process ne ∙ is,
      subst (λ (s : Situation). Splits new f.process s f.cell (head_after_all (of_cell cell old.counted))) (sym (moves.situations f.process ne))
          (splits_last old new f.process (λ c. marks_grow p place old new moves c) (moves.buffers f.process ne) (λ c k. pends_last p place old new moves f.process c ne k) (old.situation f.process) f.cell _ owes),
    )
  ]
    where
      none : Splits old p (Working e) f.cell (head_after_all (of_cell cell old.counted)) → ⊥
      none h = h

-- the clear
module _ (p : ℕ) (e : PlainWorkCall) (changed : Bool) (old new : PlainWorld) (sound : IsSound old) (turn : Turn p old new)
    (fits : WorkFits old p (on e (works.Clear changed))) (was : old.situation p ≡ Working (on e (works.Clear changed)))
    (is : new.situation p ≡ Working (on e (works.FlushCleared (Published changed))))
    (pending : new.open_edits p ≡ old.open_edits p)
    (at : old.memory.cached (Mark e.cell) ≡ e.mark) (store : StoresAt (Mark e.cell) (freed_after e.mark) old.memory new.memory) where
  free : (q : ℕ) → IsHeldBy q (freed_after e.mark) → ⊥
  free q by = omega arith

  moved : MovesWord old p (Mark e.cell) (old.memory.cached (Mark e.cell)) (old.memory.persisted (Mark e.cell)) (freed_after e.mark) (old.memory.persisted (Mark e.cell))
  moved =
      let by = fits.knows.hold.claim.by in
      let mine = fits.mine in
      record {
        cached = omega arith;
        persisted = omega arith;
        holds = λ q ne. record {
          cached = λ h. absurd (ne (other q h));
          persisted = λ h k. absurd (ne (other q h));
          came = λ h. absurd (free q h);
        };
      }
    where
      other : (q : ℕ) → IsHeldBy q (old.memory.cached (Mark e.cell)) → q ≡ p
      other q h = let by = fits.knows.hold.claim.by in let mine = fits.mine in let k = at in omega arith

  moves : Moves p (Mark e.cell) old new
  moves = store_moves p old new turn (Mark e.cell) (freed_after e.mark) (λ x. cc) moved store

  b : Bears old new
  b = bears p (Mark e.cell) old new moves sound (clear_mine p e changed old new sound (buffered old sound) fits was at store moves turn.counted)

  apart : KeepsApart old new
  apart cell a = elim (cases_eq a.holder p) [
    | inr ne ↦ inl (apart_lasts p (Mark e.cell) old new moves cell a ne)
    | inl eq ↦ absurd ((subst (λ (s : Situation). Parts s cell) was (subst (λ (q : ℕ). Parts (old.situation q) cell) eq a.still)).1)
  ]

  mark_fits : WordFits new (Mark e.cell) (new.memory.cached (Mark e.cell)) (new.memory.persisted (Mark e.cell))
  mark_fits =
      let h = sound.words (Mark e.cell) in
      let c = store.there in
      let v = store.persisted (Mark e.cell) in
      let behind = h.behind in
      let by = fits.knows.hold.claim.by in
      let top : old.memory.cached (Mark e.cell) / 32 ≤ HELD_MOST = (h.holder e.process (subst (λ (x : ℕ). IsHeldBy e.process x) (sym at) by)).2 in
      record {
        behind = omega arith;
        few = omega arith;
        holder = λ q by. absurd (free q (subst (λ (x : ℕ). IsHeldBy q x) store.there by));
        persisted_holder = subst (λ (x : ℕ). IsMark new.layout e.cell x) (sym (store.persisted (Mark e.cell))) (λ q by. rw moves.layout (h.persisted_holder q by));
      }

  -- after it the process holds no cell
  call : WorkFits new p (on e (works.FlushCleared (Published changed)))
  call =
      let g : Grows p (Mark e.cell) old new = grows_own p (Mark e.cell) old new moves turn.counted in
      let g' : Grows e.process (Mark e.cell) old new = subst (λ (q : ℕ). Grows q (Mark e.cell) old new) (sym fits.mine) g in
      record {
        mine = fits.mine;
        cells = rw moves.layout fits.cells;
        processes = rw moves.layout fits.processes;
        cell = fits.cell;
        rest = rest_stable (Mark e.cell) old new e g' b (λ same. cc) (ap new.open_edits fits.mine ∙ pending ∙ ap old.open_edits (sym fits.mine)) fits.rest;
        knows = record {
          hold = none;
          loaded = tt;
          own = tt;
          evaluated = tt;
        };
        buffer = ap new.memory.buffer fits.mine ∙ store.buffer p ∙ ap old.memory.buffer (sym fits.mine) ∙ fits.buffer;
        at = tt;
      }
    where
      none : HoldsNone new e.process
      none r by = elim (cases_eq r e.cell) [
        | inl eq ↦ free e.process (subst (λ (x : ℕ). IsHeldBy e.process x) (ap (λ (y : ℕ). new.memory.cached (Mark y)) eq ∙ store.there) by)
        | inr ne ↦ ne (fits.knows.hold.claim.alone r (subst (λ (x : ℕ). IsHeldBy e.process x) (store.elsewhere (Mark r) (λ same. ne cc)) by))
      ]

  pub clear_keeps : Keeps p old new
  clear_keeps = moves_sound p (Mark e.cell) old new moves turn.counted sound b
      (clear_stands p e changed old new sound (buffered old sound) fits was at store moves turn.counted) apart
      (λ cell ne. keeps_heads p (on e (works.Clear changed)) (Mark e.cell) old new moves was cell) mark_fits
      (λ l. subst (λ (s : Situation). CallFits new p s) (sym is) call)

-- work begins
pub begin_work_keeps : (p : ℕ) (next : Rest) (e : PlainWorkCall) (old new : PlainWorld) → IsSound old → p < old.layout.processes → Turn p old new → SameMemory old.memory new.memory → new.open_edits p ≡ old.open_edits p
    → old.situation p ≡ Idle next → new.situation p ≡ Working (on e works.LoadMark)
    → e.process ≡ p → rest_of e ≡ next → cells_of old.layout ≡ e.cells → old.layout.processes ≡ e.processes → e.cell < e.cells → Keeps p old new
begin_work_keeps p next e old new sound real turn m pending was is mine number cells processes cell =
    let moves : Moves p Version old new = same_moves p old new turn m in
    let idle : IdleFits old p next = subst (λ (s : Situation). CallFits old p s) was (sound.calls p real) in
    let owes : (r c x : ℕ) → Owes old.memory p (old.situation p) r c x → ⊥ = λ r c x o. subst (λ (s : Situation). Owes old.memory p s r c x) was o in
    let excuses : (c x : ℕ) → Excuses old p (old.situation p) c x → ⊥ = λ c x o. subst (λ (s : Situation). Excuses old p s c x) was o in
    let parts : (r : ℕ) → Parts (old.situation p) r → ⊥ = λ r o. subst (λ (s : Situation). Parts s r) was o in
    let splits : (c head : ℕ) → Splits old p (old.situation p) c head → ⊥ = λ c head o. subst (λ (s : Situation). Splits old p s c head) was o in
    let f : Framed old new = silent_framed p old new moves turn.counted sound (buffered old sound) owes excuses parts splits m.buffer in
    let g : Grows p Version old new = grows_own p Version old new moves turn.counted in
    let rest : IsAtRest new p next.number = record {
      number = idle.number;
      open_edits = pending ∙ idle.open_edits;
      below = below_stable p Version old new g next.number idle.below;
      cached = m.cached (Announce p) ∙ idle.cached ∙ sym (last_stable p Version old new g next.number);
      persisted = m.persisted (Announce p) ∙ idle.persisted ∙ sym (last_stable p Version old new g next.number);
    } in
    quiet_sound p old new turn sound moves f.bears f.stand f.apart (silent_keeps p old new moves turn.counted sound (buffered old sound) owes excuses parts splits m.buffer)
    (λ l. subst (λ (s : Situation). CallFits new p s) (sym is) (record {
      mine = mine;
      cells = rw turn.layout cells;
      processes = rw turn.layout processes;
      cell = cell;
      rest = subst (λ (q : ℕ). IsAtRest new q e.next) (sym mine) (subst (λ (n : ℕ). IsAtRest new p n) (sym (ap (λ (x : Rest). x.number) number)) rest);
      knows = record {
        hold = λ r by. idle.holds_none r (subst (λ (x : ℕ). IsHeldBy p x) (m.cached (Mark r)) (subst (λ (q : ℕ). IsHeldBy q (new.memory.cached (Mark r))) mine by));
        loaded = tt;
        own = tt;
        evaluated = tt;
      };
      buffer = ap new.memory.buffer mine ∙ m.buffer p ∙ idle.buffer;
      at = tt;
    }))

-- facts of work do not rest on its stage (records over the whole call must be packed again)
held_on : (w : PlainWorld) (e : PlainWorkCall) (s s' : WorkStage) → HasHeld w (on e s) → HasHeld w (on e s')
held_on w e s s' h = record { claim = record { even = h.claim.even; by = h.claim.by; cached = h.claim.cached; alone = h.claim.alone }; persisted = h.persisted }

inputs_on : (w : PlainWorld) (e : PlainWorkCall) (s s' : WorkStage) (n : ℕ) → HasInputs w (on e s) n → HasInputs w (on e s') n
inputs_on w e s s' n h = record {
  head = h.head;
  content = h.content;
  ascending = h.ascending;
  found = h.found;
  rows = h.rows;
  each = λ j l. record { indexed = (h.each j l).indexed; stands = (h.each j l).stands };
}

-- the store of the value
module _ (p : ℕ) (e : PlainWorkCall) (old new : PlainWorld) (sound : IsSound old) (turn : Turn p old new)
    (fits : WorkFits old p (on e works.StoreValue)) (was : old.situation p ≡ Working (on e works.StoreValue)) (is : new.situation p ≡ Working (on e works.StoreKind))
    (pending : new.open_edits p ≡ old.open_edits p) (store : StoresAt (Value e.cell) (value_for e.entry) old.memory new.memory) where
  held_p : IsHeld old.memory p e.cell
  held_p = subst (λ (q : ℕ). IsHeld old.memory q e.cell) fits.mine (held_both old (on e works.StoreValue) fits.knows.hold)

  store_moved : Moves p (Value e.cell) old new
  store_moved = store_moves p old new turn (Value e.cell) (value_for e.entry) (λ x. cc) (inl held_p.by) store

  store_bears : Bears old new
  store_bears = bears p (Value e.cell) old new store_moved sound (store_value_mine p e (value_for e.entry) old new was is held_p store store_moved)

  store_apart : KeepsApart old new
  store_apart cell a = elim (cases_eq a.holder p) [
    | inr ne ↦ inl (apart_lasts p (Value e.cell) old new store_moved cell a ne)
    | inl eq ↦ absurd ((subst (λ (s : Situation). Parts s cell) was (subst (λ (q : ℕ). Parts (old.situation q) cell) eq a.still)).1)
  ]

  now_apart : IsApart new e.cell
  now_apart =
      let a = store.elsewhere (Mark e.cell) (λ x. cc) in
      let b = store.persisted (Mark e.cell) in
      let by = held_p.by in
      let same = held_p.same in
      record { holder = p; held = record { by = omega arith; same = omega arith }; still = subst (λ (s : Situation). Parts s e.cell) (sym is) (refl, tt) }

  store_call : WorkFits new p (on e works.StoreKind)
  store_call =
      let e' : PlainWorkCall = on e works.StoreValue in
      let g : Grows p (Value e.cell) old new = grows_own p (Value e.cell) old new store_moved turn.counted in
      let g' : Grows e.process (Value e.cell) old new = subst (λ (q : ℕ). Grows q (Value e.cell) old new) (sym fits.mine) g in
      record {
        mine = fits.mine;
        cells = rw store_moved.layout fits.cells;
        processes = rw store_moved.layout fits.processes;
        cell = fits.cell;
        rest = rest_stable (Value e.cell) old new e' g' store_bears (λ same. cc) (ap new.open_edits fits.mine ∙ pending ∙ ap old.open_edits (sym fits.mine)) fits.rest;
        knows = record {
          hold = held_on new e works.StoreValue works.StoreKind (held_stable (Value e.cell) old new e' g' store_bears (λ r same. cc) fits.knows.hold);
          loaded = inputs_on new e works.StoreValue works.StoreKind (length e.inputs) (inputs_stable (Value e.cell) old new e' g' store_bears fits.knows.hold.claim (length e.inputs) fits.knows.loaded);
          own = store.there;
          evaluated = rw store_moved.layout fits.knows.evaluated;
        };
        buffer = ap new.memory.buffer fits.mine ∙ store.buffer p ∙ ap old.memory.buffer (sym fits.mine) ∙ fits.buffer;
        at = tt;
      }

  pub store_keeps : Keeps p old new
  store_keeps = moves_sound p (Value e.cell) old new store_moved turn.counted sound store_bears
      (all_stand p (Value e.cell) old new store_moved sound (buffered old sound) (store_value_mine p e (value_for e.entry) old new was is held_p store store_moved)
      (text_same old new store_moved.layout turn.counted) (stored_marks p (Value e.cell) old new store_moved (λ c x. cc) store.persisted store.buffer))
      store_apart (λ cell ne. keeps_heads p (on e works.StoreValue) (Value e.cell) old new store_moved was cell) (inr now_apart)
      (λ l. subst (λ (s : Situation). CallFits new p s) (sym is) store_call)
