-- What a recovery knows stays while others step.
use Rattle.std.proofs.Common.{ℕ, ◌≡◌, ◌≢◌, ◌+◌, ◌-◌, ◌⊎◌, List, [], ◌∷◌, ◌++◌, refl, ap, sym, ◌∙◌, subst, arith, append_assoc, inl, inr, Some, None, true, false}
use Rattle.std.specs.Prelude.{Bool}
use Rattle.ds_layout.specs.declared.place.Place.{Place}
use Rattle.ds_layout.specs.declared.place.Place.TheVariants.{Version, Mark, Value, Kind, Announce, Header}
use Rattle.ds_layout.specs.Announcement.{number_after}
use Rattle.ds_layout.specs.declared.layout.Layout.{Layout}
use Rattle.ds_state.specs.Headers.{SaysCell}
use Rattle.ds_state.specs.World.{PlainEdit, PlainIssue, PlainWorld, of_cell}
use Rattle.ds_state.specs.Known.{AreBelow, IsIn}
use Rattle.ds_state.specs.Owing.{entry}
use Rattle.ds_layout.specs.Mark.{IsHeldBy, marked}
use Rattle.ds_state.specs.KnownRecovery.{Freed, before, holding, value_back, both_back, outrun, all_free, HoldsFrom, Holding, FreedFits, Resolved, unknown, noted, doubted, is_head, not_head, settled, said, over, SettledAs, IsPassed, IsOpen, IsOpenAnd, IsHeadersCell, ResolvedFits, RecoveryHeld, empty, the_value, both_words, the_kind, a_mark, a_head, the_outcome, the_version, value_now, kind_now, RecoveryHolds, freed_at, recovery_held}
use Rattle.ds_state.specs.declared.spread.Spread.TheVariants.{LoadRow, OrTold, FlushTold, BackTold}
use Rattle.ds_state.specs.declared.recovery.RecoverStage.{RecoverStage}
use Rattle.ds_state.specs.declared.recovery.RecoverStage.TheVariants as stages
use Rattle.ds_state.specs.Rely.{IsOwnedBy, Grows}
use Rattle.ds_state.proofs.Lasting.{at_most, below_stable, by_stable, safe_stable}
use Rattle.ds_state.proofs.Heads.{of_cell-append}

holder : (w : PlainWorld) (p mark cell : ℕ) → Holding w p mark cell → IsHeldBy p (w.memory.cached (Mark cell))
holder w p mark cell h = let s = h.stands in let y = h.by in omega arith

module _ (old new : PlainWorld) (p : ℕ) (g : Grows p Version old new) where
  from_stable : (cell : ℕ) → HoldsFrom old p cell → HoldsFrom new p cell
  from_stable cell h r l by = h r l ((g.holds r (λ x. cc)).came by)

  pub holding_stable : (mark cell : ℕ) → Holding old p mark cell → Holding new p mark cell
  holding_stable mark cell h = record {
    below = from_stable cell h.below;
    by = h.by;
    stands = (g.holds cell (λ x. cc)).cached (holder old p mark cell h) ∙ h.stands;
    seen = at_most h.seen (g.marks_cached cell);
  }

  pub agrees_stable : (r : Place) → IsOwnedBy old.memory p r → r ≢ Version → old.memory.persisted r ≡ old.memory.cached r → new.memory.persisted r ≡ new.memory.cached r
  agrees_stable r own apart h = elim (g.owned_persisted r own apart) [
    | inl same ↦ same ∙ h ∙ sym (g.owned_cached r own apart)
    | inr up ↦ up ∙ sym (g.owned_cached r own apart)
  ]

  pub freed_stable : (mark : ℕ) (f : Freed) → FreedFits old p mark f → FreedFits new p mark f
  freed_stable mark (before cell) h = from_stable cell h
  freed_stable mark (holding cell) h = holding_stable mark cell h
  freed_stable mark (value_back cell) h = (holding_stable mark cell h.0, agrees_stable (Value cell) (holder old p mark cell h.0) (λ x. cc) h.1)
  freed_stable mark (both_back cell) h = (holding_stable mark cell h.0, agrees_stable (Value cell) (holder old p mark cell h.0) (λ x. cc) h.1, agrees_stable (Kind cell) (holder old p mark cell h.0) (λ x. cc) h.2)
  freed_stable mark (outrun cell) h = (holding_stable mark cell h.0, agrees_stable (Value cell) (holder old p mark cell h.0) (λ x. cc) h.1, agrees_stable (Kind cell) (holder old p mark cell h.0) (λ x. cc) h.2, same)
    where
      same : new.memory.cached (Mark cell) ≡ marked mark
      same = let up = g.marks_cached cell in let k = h.3 in let s = (g.holds cell (λ x. cc)).cached (holder old p mark cell h.0) in omega arith
  freed_stable mark all_free h = λ r by. h r ((g.holds r (λ x. cc)).came by)

  announce_same : new.memory.cached (Announce p) ≡ old.memory.cached (Announce p)
  announce_same = g.owned_cached (Announce p) refl (λ x. cc)

  announce_kept : (word : ℕ) → old.memory.cached (Announce p) ≡ word → old.memory.persisted (Announce p) ≡ word → new.memory.persisted (Announce p) ≡ word
  announce_kept word a b = elim (g.owned_persisted (Announce p) refl (λ x. cc)) [ inl same ↦ same ∙ b | inr up ↦ up ∙ a ]

  -- a header that it has read stays
  header_stable : (word cell : ℕ) → IsHeadersCell old p word cell → IsHeadersCell new p word cell
  header_stable word cell h =
      let n : ℕ = number_after word - 1 in
      subst (λ (l : Layout). SaysCell l cell (new.memory.cached (Header p n))) (sym g.layout) (subst (λ x. SaysCell old.layout cell x) (sym (g.owned_cached (Header p n) refl (λ x. cc))) h)

  module _ (pending : new.open_edits p ≡ old.open_edits p) where
    open_stable : (word : ℕ) (issue : PlainIssue) → IsOpen old p word issue → IsOpen new p word issue
    open_stable word issue h = record { issued = pending ∙ h.issued; process = h.process; number = h.number; is = h.is; cached = announce_same ∙ h.cached }

    grows_at : (f : PlainEdit) → f.process ≡ p → Grows f.process Version old new
    grows_at f same = subst (λ (q : ℕ). Grows q Version old new) (sym same) g

    and_stable : (word cell : ℕ) (P Q : PlainEdit → Type 0) → ((f : PlainEdit) → f.process ≡ p → P f → Q f) → IsOpenAnd old p word cell P → IsOpenAnd new p word cell Q
    and_stable word cell P Q goes h = record { issue = h.issue; it = open_stable word h.issue h.it; own_is = h.own_is; and = goes h.issue.edit h.it.process h.and }

    passed_stable : (f : PlainEdit) → IsPassed old f → IsPassed new f
    passed_stable f o = record {
      before = o.before;
      next = o.next;
      after = o.after ++ of_cell f.cell g.added;
      parts = ap (λ (es : List PlainEdit). of_cell f.cell es) g.counted ∙ of_cell-append f.cell old.counted g.added
          ∙ ap (λ (es : List PlainEdit). es ++ of_cell f.cell g.added) o.parts ∙ append_assoc o.before (f ∷ o.next ∷ o.after) (of_cell f.cell g.added);
    }

    settled_stable : (how : Bool) (f : PlainEdit) → f.process ≡ p → SettledAs old f how → SettledAs new f how
    settled_stable true f same h = record { below = below_stable f.process Version old new (grows_at f same) (f.number + 1) h.below; safe = safe_stable f.process Version old new (grows_at f same) f h.safe }
    settled_stable false f same h = below_stable f.process Version old new (grows_at f same) f.number h

    pub resolved_stable : (word cell : ℕ) (r : Resolved) → ResolvedFits old p word cell r → ResolvedFits new p word cell r
    resolved_stable word cell unknown h = tt
    resolved_stable word cell noted h = announce_same ∙ h
    resolved_stable word cell doubted h = and_stable word cell (λ f. Unit {0}) (λ f. Unit {0}) (λ f same k. tt) h
    resolved_stable word cell is_head h = and_stable word cell (λ f. (own : ℕ) × IsIn old f own) (λ f. (own : ℕ) × IsIn new f own) (λ f same k. (
      k.0,
      record {
        below = below_stable f.process Version old new (grows_at f same) (f.number + 1) k.1.below;
        head = by_stable f.process Version old new (grows_at f same) f.cell k.0 f k.1.head;
      },
    )) h
    resolved_stable word cell not_head h = and_stable word cell (λ f. AreBelow old f.process f.number ⊎ (IsPassed old f × AreBelow old f.process (f.number + 1))) (λ f. AreBelow new f.process f.number ⊎ (IsPassed new f × AreBelow new f.process (f.number + 1)))
        (λ f same k. elim k [
          | inl out ↦ inl (below_stable f.process Version old new (grows_at f same) f.number out)
          | inr o ↦ inr (passed_stable f o.0, below_stable f.process Version old new (grows_at f same) (f.number + 1) o.1)
        ]) h
    resolved_stable word cell (settled how) h = and_stable word cell (λ f. SettledAs old f how) (λ f. SettledAs new f how) (settled_stable how) h
    resolved_stable word cell (said how) h = (announce_same ∙ h.0, h.1, header_stable word cell h.2)
    resolved_stable word cell (over (Some how)) h = (announce_same ∙ h.0, announce_kept word h.0 h.1, h.2, header_stable word cell h.3)
    resolved_stable word cell (over None) h = (announce_same ∙ h.0, announce_kept word h.0 h.1, h.2)

    -- the words in the buffer are those of a cell that it holds
    pub held_stable : new.memory.buffer p ≡ old.memory.buffer p → (word c : ℕ) (h : RecoveryHeld)
        → ((cell : ℕ) → (h ≡ the_value cell) ⊎ ((h ≡ both_words cell) ⊎ (h ≡ the_kind cell)) → IsHeldBy p (old.memory.cached (Mark cell)))
        → RecoveryHolds old p word c h → RecoveryHolds new p word c h
    held_stable same word c empty own h = same ∙ h
    held_stable same word c (the_value cell) own h = same ∙ h ∙ ap (λ (v : ℕ). entry (Value cell) v ∷ []) (sym (g.owned_cached (Value cell) (own cell (inl refl)) (λ x. cc)))
    held_stable same word c (both_words cell) own h = same ∙ h ∙ ap (λ (v : ℕ). entry (Value cell) v ∷ kind_now old cell ∷ []) (sym (g.owned_cached (Value cell) (own cell (inr (inl refl))) (λ x. cc)))
        ∙ ap (λ (v : ℕ). value_now new cell ∷ entry (Kind cell) v ∷ []) (sym (g.owned_cached (Kind cell) (own cell (inr (inl refl))) (λ x. cc)))
    held_stable same word c (the_kind cell) own h = same ∙ h ∙ ap (λ (v : ℕ). entry (Kind cell) v ∷ []) (sym (g.owned_cached (Kind cell) (own cell (inr (inr refl))) (λ x. cc)))
    held_stable same word c (a_mark cell) own h = record { value = h.value; alone = same ∙ h.alone; had = at_most h.had (g.marks_cached cell); is = λ q by. rw g.layout (h.is q by) }
    held_stable same word c a_head own h = record {
      value = h.value;
      alone = same ∙ h.alone;
      by = h.by;
      gave = by_stable p Version old new g c h.value h.by h.gave;
      issue = h.issue;
      issued = pending ∙ h.issued;
      own = h.own;
      head = by_stable p Version old new g c h.own h.issue.edit h.head;
      enough = h.enough;
    }
    held_stable same word c the_version own h = record { value = h.value; alone = same ∙ h.alone }
    held_stable same word c the_outcome own h = same ∙ h

-- the cell whose words are in the buffer is held
pub own_words : (w : PlainWorld) (p mark c : ℕ) (s : RecoverStage) → FreedFits w p mark (freed_at s) → (cell : ℕ)
    → (recovery_held c s ≡ the_value cell) ⊎ ((recovery_held c s ≡ both_words cell) ⊎ (recovery_held c s ≡ the_kind cell)) → IsHeldBy p (w.memory.cached (Mark cell))
own_words w p mark k (stages.FlushKind c) h cell is = elim is [
  | inl at ↦ (let same : c ≡ cell = cc in subst (λ (r : ℕ). IsHeldBy p (w.memory.cached (Mark r))) same (holder w p mark c h))
  | inr other ↦ absurd (elim other [ inl at ↦ cc | inr at ↦ cc ])
]
own_words w p mark k (stages.BackValue c) h cell is = elim is [
  | inl at ↦ cc
  | inr other ↦ elim other [
    | inl at ↦ (let same : c ≡ cell = cc in subst (λ (r : ℕ). IsHeldBy p (w.memory.cached (Mark r))) same (holder w p mark c h))
    | inr at ↦ cc
  ]
]
own_words w p mark k (stages.BackKind c) h cell is = elim is [
  | inl at ↦ cc
  | inr other ↦ elim other [
    | inl at ↦ cc
    | inr at ↦ (let same : c ≡ cell = cc in subst (λ (r : ℕ). IsHeldBy p (w.memory.cached (Mark r))) same (holder w p mark c h.0))
  ]
]
own_words w p mark k (stages.Telling c (BackTold d)) h cell is = elim is [ inl at ↦ cc | inr other ↦ elim other [ inl at ↦ cc | inr at ↦ cc ] ]
own_words w p mark k (stages.Telling c (LoadRow d)) h cell is = elim is [ inl at ↦ cc | inr other ↦ elim other [ inl at ↦ cc | inr at ↦ cc ] ]
own_words w p mark k (stages.Telling c (OrTold d)) h cell is = elim is [ inl at ↦ cc | inr other ↦ elim other [ inl at ↦ cc | inr at ↦ cc ] ]
own_words w p mark k (stages.Telling c (FlushTold d)) h cell is = elim is [ inl at ↦ cc | inr other ↦ elim other [ inl at ↦ cc | inr at ↦ cc ] ]
own_words w p mark k _ h cell is = elim is [ inl at ↦ cc | inr other ↦ elim other [ inl at ↦ cc | inr at ↦ cc ] ]
