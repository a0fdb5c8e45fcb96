-- An edit that is alone goes on so.
use Rattle.std.proofs.Common.{ℕ, ◌≡◌, ◌<◌, ◌+◌, ◌^◌, ◌==◌, nat_lt, refl, sym, ◌∙◌, arith, length, Some, None}
use Rattle.std.specs.Prelude.{Option}
use Rattle.std.proofs.lemmas.Bool.{eq-eqb}
use Rattle.ds_words.proofs.Frames.{cached_kept, Changes}
use Rattle.ds_layout.specs.Places.{class_of}
use Rattle.ds_layout.specs.declared.place.Place.TheVariants as place
use Rattle.ds_layout.specs.declared.head.Head.{Head}
use Rattle.ds_layout.specs.Head.{head_of}
use Rattle.ds_layout.specs.SheetMemory.{PerformsAt}
use Rattle.ds_layout.proofs.Packed.{IsHead-head_of}
use Rattle.ds_state.specs.Edits.{PlainEditCall, text_parts}
use Rattle.ds_state.specs.World.{PlainWorld, of_cell}
use Rattle.ds_state.specs.Sound.{IsSound}
use Rattle.ds_state.specs.declared.stage.Stage.{Stage}
use Rattle.ds_state.specs.declared.stage.Stage.TheVariants.{StoreHeader, StoreText, FlushHeader, FlushText, BackRecord, StorePending, FlushPending, BackPending, OrIndex, FlushIndex, BackIndex, LoadHead, FlushNoted, BackNoted, OrDone, FlushDone, BackDone, Swap, FlushOwn, BackOwn, OrMark, FlushMark, BackMark, StoreOutcome, FlushOutcome, BackOutcome, Answer}
use Rattle.ds_state.proofs.Heads.{small_counted, small_of_cell, head_high}
use Rattle.ds_state.proofs.Few.{of_cell_few}
use Rattle.ds_edit.specs.Alone.{IsAloneAt}
use Rattle.ds_edit.specs.EditSteps.{access_at, next_at, help_from}
use Rattle.ds_edit.proofs.Stays.{branches}

head_small : (w : PlainWorld) → IsSound w → (cell : ℕ) → w.memory.cached (place.Head cell) < 2 ^ 64
head_small w sound cell =
    let high = head_high (of_cell cell w.counted) (small_of_cell cell w.counted (small_counted w sound.of_sheet)) in
    let few = of_cell_few w sound cell in
    let is = (sound.words (place.Head cell)).last in
    omega arith

module _ (e : PlainEditCall) (word : ℕ) (old new : PlainWorld) (sound : IsSound old) where
  abbrev Performs : Stage → Type 0
  Performs s = PerformsAt (access_at e s) e.process old.memory new.memory word

  -- the cell's head is changed by the swap alone
  same_head : (s : Stage) → Performs s → (Changes (access_at e s) (place.Head e.cell) → ⊥) → new.memory.cached (place.Head e.cell) ≡ old.memory.cached (place.Head e.cell)
  same_head s m never = cached_kept class_of old.memory new.memory (access_at e s) e.process word (place.Head e.cell) never m

  helped_alone : (o : Option Head) → head_of e.processes word ≡ o → word < 2 ^ 64 → word ≡ new.memory.cached (place.Head e.cell) → IsAloneAt new e.cell (help_from word o)
  helped_alone None is small seen = seen
  helped_alone (Some head) is small seen = (IsHead-head_of e.processes word head small is).1 ∙ seen

  pub alone : (s : Stage) → Performs s → IsAloneAt old e.cell s → IsAloneAt new e.cell (next_at e s word)
  alone StoreHeader m h = branches (λ x. IsAloneAt new e.cell x) (nat_lt 0 (text_parts e.text)) _ _ (λ b. tt) (λ b. tt)
  alone (StoreText part) m h = branches (λ x. IsAloneAt new e.cell x) (nat_lt (part + 1) (text_parts e.text)) _ _ (λ b. tt) (λ b. tt)
  alone FlushHeader m h = branches (λ x. IsAloneAt new e.cell x) (nat_lt 0 (text_parts e.text)) _ _ (λ b. tt) (λ b. tt)
  alone (FlushText part) m h = branches (λ x. IsAloneAt new e.cell x) (nat_lt (part + 1) (text_parts e.text)) _ _ (λ b. tt) (λ b. tt)
  alone (BackRecord left) m h = branches (λ x. IsAloneAt new e.cell x) (left == 0) _ _ (λ b. tt) (λ b. tt)
  alone StorePending m h = tt
  alone FlushPending m h = tt
  alone BackPending m h = branches (λ x. IsAloneAt new e.cell x) (nat_lt 0 (length e.refs)) _ _ (λ b. tt) (λ b. tt)
  alone (OrIndex i) m h = tt
  alone (FlushIndex i) m h = tt
  alone (BackIndex i) m h = branches (λ x. IsAloneAt new e.cell x) (nat_lt (i + 1) (length e.refs)) _ _ (λ b. tt) (λ b. tt)
  alone LoadHead m h = helped_alone (head_of e.processes word) refl (rw m.0 (head_small old sound e.cell)) (m.0 ∙ sym (m.1.cached (place.Head e.cell)))
  alone (FlushNoted head) m h = h ∙ sym (same_head (FlushNoted head) m (λ c. c))
  alone (BackNoted head) m h = h ∙ sym (same_head (BackNoted head) m (λ c. c))
  alone (OrDone head) m h = h ∙ sym (same_head (OrDone head) m (λ c. cc))
  alone (FlushDone head) m h = h ∙ sym (same_head (FlushDone head) m (λ c. c))
  alone (BackDone head) m h = h ∙ sym (same_head (BackDone head) m (λ c. c))
  alone (Swap noted) m h = rw (eq-eqb word noted (m.0 ∙ sym h)) tt
  alone (FlushOwn own) m h = tt
  alone (BackOwn own) m h = tt
  alone (OrMark own) m h = tt
  alone (FlushMark own) m h = tt
  alone (BackMark own) m h = refl
  alone (StoreOutcome how) m h = h
  alone (FlushOutcome how) m h = h
  alone (BackOutcome how) m h = h
  alone (Answer how) m h = h
