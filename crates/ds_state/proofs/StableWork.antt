-- What work knows stays while others step.
use Rattle.std.proofs.Common.{ℕ, ◌≡◌, ◌≢◌, ◌≤◌, ◌/◌, ◌%◌, ◌⊎◌, refl, ap, sym, ◌∙◌, subst, arith, length, inl, inr, true, false}
use Rattle.std.specs.Prelude.{Bool}
use Rattle.ds_formula.specs.Cells.{IsInside}
use Rattle.ds_formula.specs.Plain.{PlainContent}
use Rattle.ds_layout.specs.declared.place.Place.{Place}
use Rattle.ds_layout.specs.declared.place.Place.TheVariants.{Version, Mark, Value, Kind, Announce}
use Rattle.ds_layout.specs.declared.layout.Layout.{Layout}
use Rattle.ds_layout.proofs.OrBits.{HasBit-subset}
use Rattle.ds_state.specs.Works.{PlainWorkCall}
use Rattle.ds_state.specs.World.{PlainWorld, index_place}
use Rattle.ds_state.specs.Owing.{HoldsNone, CellOwes, IsIndexed}
use Rattle.ds_layout.specs.Mark.{IsHeldBy}
use Rattle.ds_state.specs.Standing.{HasContent, Matters}
use Rattle.ds_state.specs.KnownWork.{Hold, free, seen, claimed, held, outrun, Loaded, nothing, the_head, some_text, whole_text, the_content, some_inputs, one_value, Own, unseen, value_seen, both_seen, value_stored, both_stored, value_back, settled, WorkKnown, work_known, HasClaimed, HasHeld, HoldFits, HeadStands, IsHeadOf, input_row, InputStands, ValueStands, HasInputs, LoadedFits, OwnFits, EntryIs, WorkKnows, WorkHeld, empty, claim, a_mark, the_value, both_words, the_kind, work_held, WorkHolds, IsAtRest, WorkFits}
use Rattle.ds_state.specs.declared.work.WorkStage.{WorkStage}
use Rattle.ds_state.specs.declared.work.WorkStage.TheVariants.{LoadMark, Claim, FlushClaim, BackClaim, ClearDirty, GiveDirty, FlushCleared, BackCleared, Answer}
use Rattle.ds_state.specs.Rely.{IsOwnedBy, Grows, Bears, Rely}
use Rattle.ds_state.proofs.Lasting.{at_most, below_stable, by_stable, last_stable}

-- a cell marked as it was claimed was so before
stood : (o n k : ℕ) → k % 2 ≡ 0 → o / 2 ≡ k / 2 → o ≤ n → n ≡ k → o ≡ k
stood o n k even same le at = omega arith

module _ (but : Place) (old new : PlainWorld) (e : PlainWorkCall) (g : Grows e.process but old new) (b : Bears old new) where
  pub none_stable : ((r : ℕ) → Mark r ≢ but) → HoldsNone old e.process → HoldsNone new e.process
  none_stable apart h = λ r by. h r ((g.holds r (apart r)).came by)

  pub claimed_stable : ((r : ℕ) → Mark r ≢ but) → HasClaimed old e → HasClaimed new e
  claimed_stable apart h = record {
    even = h.even;
    by = h.by;
    cached = (let s = h.cached in let y = h.by in (g.holds e.cell (apart e.cell)).cached (omega arith) ∙ h.cached);
    alone = λ r by. h.alone r ((g.holds r (apart r)).came by);
  }

  pub held_stable : ((r : ℕ) → Mark r ≢ but) → HasHeld old e → HasHeld new e
  held_stable apart h = record {
    claim = claimed_stable apart h.claim;
    persisted = (
        let s = h.claim.cached in
        let y = h.claim.by in
        (g.holds e.cell (apart e.cell)).persisted (omega arith) (h.persisted ∙ sym h.claim.cached) ∙ h.claim.cached);
  }

  pub hold_stable : ((r : ℕ) → Mark r ≢ but) → (k : Hold) → HoldFits old e k → HoldFits new e k
  hold_stable apart free h = none_stable apart h
  hold_stable apart seen h = (none_stable apart h.0, at_most h.1 (g.marks_cached e.cell), h.2, h.3)
  hold_stable apart claimed h = claimed_stable apart h
  hold_stable apart held h = held_stable apart h
  hold_stable apart outrun h =
      let now : HasHeld new e = held_stable apart h.0 in
      let s = now.claim.cached in
      let y = h.0.claim.even in
      let at = h.1 in
      let grows = g.marks_cached e.cell in
      (now, omega arith)

  module _ (claim : HasClaimed old e) where
    pub even_at : new.memory.cached (Mark e.cell) ≡ e.mark → old.memory.cached (Mark e.cell) ≡ e.mark
    even_at at = stood _ _ e.mark claim.even claim.cached (g.marks_cached e.cell) at

    matters : new.memory.cached (Mark e.cell) ≡ e.mark → Matters new e.cell e.mark
    matters at = (claim.even, inl (sym at))

    pub head_stable : HeadStands old e → HeadStands new e
    head_stable h = λ at. elim (b.heads e.cell) [
      | inr all ↦ inr (all e.mark)
      | inl same ↦ elim (h (even_at at)) [ inl eq ↦ inl (same ∙ eq) | inr o ↦ inr (b.excused e.cell e.mark (matters at) o) ]
    ]

    indexed_stable : (r : ℕ) → IsIndexed old r e.cell → IsIndexed new r e.cell
    indexed_stable r h = (rw g.layout h.0, rw g.layout h.1, HasBit-subset (old.memory.cached (index_place r e.cell)) (new.memory.cached (index_place r e.cell)) e.cell (g.index_cached _ _) h.2)

    row_same : (j : ℕ) → input_row new e j ≡ input_row old e j
    row_same j = rw g.layout refl

    owes_at : (j : ℕ) → CellOwes new (input_row old e j) e.cell e.mark → CellOwes new (input_row new e j) e.cell e.mark
    owes_at j o = subst (λ (r : ℕ). CellOwes new r e.cell e.mark) (sym (row_same j)) o

    pub input_stable : (j : ℕ) → InputStands old e j → InputStands new e j
    input_stable j h = record {
      indexed = subst (λ (r : ℕ). IsIndexed new r e.cell) (sym (row_same j)) (indexed_stable (input_row old e j) h.indexed);
      stands = λ at. elim (b.values (input_row old e j)) [
        | inr all ↦ inr (owes_at j (all e.cell e.mark))
        | inl same ↦ elim (b.kinds (input_row old e j)) [
          | inr all ↦ inr (owes_at j (all e.cell e.mark))
          | inl same' ↦ elim (h.stands (even_at at)) [
            | inl eq ↦ inl (rw (g.layout, same, same') eq)
            | inr o ↦ inr (owes_at j (b.owing (input_row old e j) e.cell e.mark h.indexed (matters at) o))
          ]
        ]
      ];
    }

    pub value_stable : (j value : ℕ) → ValueStands old e j value → ValueStands new e j value
    value_stable j value h = record {
      indexed = subst (λ (r : ℕ). IsIndexed new r e.cell) (sym (row_same j)) (indexed_stable (input_row old e j) h.indexed);
      stands = λ at. elim (b.values (input_row old e j)) [
        | inr all ↦ inr (owes_at j (all e.cell e.mark))
        | inl same ↦ elim (h.stands (even_at at)) [
          | inl eq ↦ inl (rw (g.layout, same) eq)
          | inr o ↦ inr (owes_at j (b.owing (input_row old e j) e.cell e.mark h.indexed (matters at) o))
        ]
      ];
    }

    pub content_stable : (content : PlainContent) → HasContent old e.cell e.head content → HasContent new e.cell e.head content
    content_stable content (inl none) = inl none
    content_stable content (inr h) = inr (record { by = h.by; gave = by_stable e.process but old new g e.cell e.head h.by h.gave; reads = rw g.layout h.reads })

    pub inputs_stable : (count : ℕ) → HasInputs old e count → HasInputs new e count
    inputs_stable count h = record {
      head = head_stable h.head;
      content = content_stable e.content h.content;
      ascending = h.ascending;
      found = λ d refers inside. h.found d refers (subst (λ (l : Layout). IsInside l.shape d) g.layout inside);
      rows = λ j l. subst (λ (r : ℕ). IsIndexed new r e.cell) (sym (row_same j)) (indexed_stable (input_row old e j) (h.rows j l));
      each = λ j l. input_stable j (h.each j l);
    }

    pub head_of_stable : IsHeadOf old e → IsHeadOf new e
    head_of_stable h = (h.0, by_stable e.process but old new g e.cell e.head h.0 h.1)

    pub loaded_stable : (k : Loaded) → LoadedFits old e k → LoadedFits new e k
    loaded_stable nothing h = tt
    loaded_stable the_head h = (head_stable h.0, head_of_stable h.1)
    loaded_stable (some_text parts) h = (head_stable h.0, record { by = h.1.by; gave = by_stable e.process but old new g e.cell e.head h.1.by h.1.gave; size = h.1.size; start = h.1.start })
    loaded_stable whole_text h = (
      head_stable h.0,
      elim h.1 [
        | inl none ↦ inl none
        | inr w ↦ inr (record { by = w.by; gave = by_stable e.process but old new g e.cell e.head w.by w.gave; text = w.text })
      ],
    )
    loaded_stable the_content h = inputs_stable 0 h
    loaded_stable (some_inputs count) h = inputs_stable count h
    loaded_stable (one_value count value) h = (inputs_stable count h.0, value_stable count value h.1)

    owned : IsHeldBy e.process (old.memory.cached (Mark e.cell))
    owned = let s = claim.cached in let y = claim.by in omega arith

    value_same : Value e.cell ≢ but → new.memory.cached (Value e.cell) ≡ old.memory.cached (Value e.cell)
    value_same apart = g.owned_cached (Value e.cell) owned apart

    kind_same : Kind e.cell ≢ but → new.memory.cached (Kind e.cell) ≡ old.memory.cached (Kind e.cell)
    kind_same apart = g.owned_cached (Kind e.cell) owned apart

    -- the persisted side of a word whose sides agree
    agreed : (r : Place) (v : ℕ) → IsOwnedBy old.memory e.process r → r ≢ but → old.memory.cached r ≡ v → old.memory.persisted r ≡ v → new.memory.persisted r ≡ v
    agreed r v own apart c p = elim (g.owned_persisted r own apart) [ inl same ↦ same ∙ p | inr up ↦ up ∙ c ]

    pub own_stable : Value e.cell ≢ but → Kind e.cell ≢ but → (k : Own) → OwnFits old e k → OwnFits new e k
    own_stable a a' unseen h = tt
    own_stable a a' value_seen h = value_same a ∙ h
    own_stable a a' both_seen h = (value_same a ∙ h.0, kind_same a' ∙ h.1)
    own_stable a a' value_stored h = value_same a ∙ h
    own_stable a a' both_stored h = (value_same a ∙ h.0, kind_same a' ∙ h.1)
    own_stable a a' value_back h = ((value_same a ∙ h.0.0, kind_same a' ∙ h.0.1), agreed (Value e.cell) _ owned a h.0.0 h.1)
    own_stable a a' settled h = ((value_same a ∙ h.0.0, kind_same a' ∙ h.0.1), agreed (Value e.cell) _ owned a h.0.0 h.1, agreed (Kind e.cell) _ owned a' h.0.1 h.2)

  pub entry_stable : (k : Bool) → EntryIs old e k → EntryIs new e k
  entry_stable false h = tt
  entry_stable true h = rw g.layout h

  -- what is known before the claim, and after it
  pub knows_none : (hold : Hold) → ((r : ℕ) → Mark r ≢ but) → WorkKnows old e (record { hold = hold; loaded = nothing; own = unseen; evaluated = false }) → WorkKnows new e (record { hold = hold; loaded = nothing; own = unseen; evaluated = false })
  knows_none hold apart h = record { hold = hold_stable apart hold h.hold; loaded = tt; own = tt; evaluated = tt }

  pub knows_held : (loaded : Loaded) (own : Own) (evaluated : Bool) → ((r : ℕ) → Mark r ≢ but) → Value e.cell ≢ but → Kind e.cell ≢ but
      → WorkKnows old e (record { hold = held; loaded = loaded; own = own; evaluated = evaluated }) → WorkKnows new e (record { hold = held; loaded = loaded; own = own; evaluated = evaluated })
  knows_held loaded own evaluated apart a a' h = record {
    hold = held_stable apart h.hold;
    loaded = loaded_stable h.hold.claim loaded h.loaded;
    own = own_stable h.hold.claim a a' own h.own;
    evaluated = entry_stable evaluated h.evaluated;
  }

  pub work_holds_stable : new.memory.buffer e.process ≡ old.memory.buffer e.process → (h : WorkHeld) → WorkHolds old e h → WorkHolds new e h
  work_holds_stable same empty h = same ∙ h
  work_holds_stable same claim h = record { value = h.value; alone = same ∙ h.alone; had = at_most h.had (g.marks_cached e.cell); claims = h.claims }
  work_holds_stable same (a_mark cell) h = record { value = h.value; alone = same ∙ h.alone; had = at_most h.had (g.marks_cached cell); is = λ q by. rw g.layout (h.is q by) }
  work_holds_stable same the_value h = same ∙ h
  work_holds_stable same both_words h = same ∙ h
  work_holds_stable same the_kind h = same ∙ h

  pub rest_stable : Announce e.process ≢ but → new.open_edits e.process ≡ old.open_edits e.process → IsAtRest old e.process e.next → IsAtRest new e.process e.next
  rest_stable apart same h = record {
    number = h.number;
    open_edits = same ∙ h.open_edits;
    below = below_stable e.process but old new g e.next h.below;
    cached = g.owned_cached (Announce e.process) refl apart ∙ h.cached ∙ sym (last_stable e.process but old new g e.next);
    persisted = elim (g.owned_persisted (Announce e.process) refl apart) [
      | inl up ↦ up ∙ h.persisted ∙ sym (last_stable e.process but old new g e.next)
      | inr caught ↦ caught ∙ h.cached ∙ sym (last_stable e.process but old new g e.next)
    ];
  }

-- for all stages at once: what is known is known of a held cell, or of the mark alone
pub knows_stable : (but : Place) (old new : PlainWorld) (e : PlainWorkCall) → Grows e.process but old new → Bears old new
    → ((r : ℕ) → Mark r ≢ but) → Value e.cell ≢ but → Kind e.cell ≢ but
    → (k : WorkKnown) → ((k.hold ≡ held) ⊎ (k ≡ record { hold = k.hold; loaded = nothing; own = unseen; evaluated = false })) → WorkKnows old e k → WorkKnows new e k
knows_stable but old new e g b apart a a' k (inl same) h =
    let is : k ≡ record { hold = held; loaded = k.loaded; own = k.own; evaluated = k.evaluated } = ap (λ (x : Hold). record { hold = x; loaded = k.loaded; own = k.own; evaluated = k.evaluated }) same in
    subst (λ (x : WorkKnown). WorkKnows new e x) (sym is) (knows_held but old new e g b k.loaded k.own k.evaluated apart a a' (subst (λ (x : WorkKnown). WorkKnows old e x) is h))
knows_stable but old new e g b apart a a' k (inr is) h =
    subst (λ (x : WorkKnown). WorkKnows new e x) (sym is) (knows_none but old new e g b k.hold apart (subst (λ (x : WorkKnown). WorkKnows old e x) is h))

-- at each stage the cell is held, or nothing but its mark is known
pub held_or_none : (refs : ℕ) (s : WorkStage) → ((work_known refs s).hold ≡ held) ⊎ (work_known refs s ≡ record { hold = (work_known refs s).hold; loaded = nothing; own = unseen; evaluated = false })
held_or_none refs LoadMark = inr refl
held_or_none refs Claim = inr refl
held_or_none refs FlushClaim = inr refl
held_or_none refs BackClaim = inr refl
held_or_none refs ClearDirty = inr refl
held_or_none refs GiveDirty = inr refl
held_or_none refs (FlushCleared end) = inr refl
held_or_none refs (BackCleared end) = inr refl
held_or_none refs (Answer end) = inr refl
held_or_none refs _ = inl refl

module _ (old new : PlainWorld) (q : ℕ) (e : PlainWorkCall) (r : Rely q old new) where
  at_mine : e.process ≡ q → Grows e.process Version old new
  at_mine mine = subst (λ (x : ℕ). Grows x Version old new) (sym mine) (r.grows Version)

  pub work_stable : WorkFits old q e → WorkFits new q e
  work_stable h =
      let g : Grows e.process Version old new = at_mine h.mine in
      record {
        mine = h.mine;
        cells = rw g.layout h.cells;
        processes = rw g.layout h.processes;
        cell = h.cell;
        rest = rest_stable Version old new e g r.bears (λ same. cc) (ap new.open_edits h.mine ∙ r.open_edits ∙ ap old.open_edits (sym h.mine)) h.rest;
        knows = knows_stable Version old new e g r.bears (λ x same. cc) (λ same. cc) (λ same. cc) (work_known (length e.inputs) e.stage) (held_or_none (length e.inputs) e.stage) h.knows;
        buffer = work_holds_stable Version old new e g r.bears (ap new.memory.buffer h.mine ∙ r.buffer ∙ ap old.memory.buffer (sym h.mine)) (work_held e e.stage) h.buffer;
        at = h.at;
      }
