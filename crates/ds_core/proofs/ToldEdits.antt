-- What an edit's begin, steps and answer leave of what the words say of closed edits.
use Rattle.std.proofs.Common.{ℕ, ◌≡◌, ◌≢◌, List, [], ◌∷◌, ◌++◌, refl, ap, sym, ◌∙◌, subst, arith, suc, length, false, Some, None}
use Rattle.std.specs.Prelude.{Contains}
use Rattle.std.proofs.lemmas.List.Elements.{Contains-append_cases, Contains-append_left}
use Rattle.ds_words.specs.Memory.{SameMemory}
use Rattle.ds_layout.specs.declared.place.Place.TheVariants.{Header}
use Rattle.ds_layout.specs.SheetMemory.{PerformsAt}
use Rattle.ds_state.specs.Edits.{text_parts}
use Rattle.ds_state.specs.World.{PlainEdit, PlainIssue, edit_of}
use Rattle.ds_state.specs.Known.{AreBelow, Knowing, known_at}
use Rattle.ds_state.specs.CallsFit.{CallFits, EditFits}
use Rattle.ds_state.specs.Value.{WorldValue, world_of}
use Rattle.ds_state.specs.declared.situation.Situation.{Situation}
use Rattle.ds_state.specs.declared.stage.Outcome.{Outcome}
use Rattle.ds_state.specs.declared.stage.Outcome.TheVariants as outcome
use Rattle.ds_state.specs.declared.stage.Stage.{Stage}
use Rattle.ds_state.specs.declared.stage.Stage.TheVariants.{Answer}
use Rattle.ds_edit.specs.EditSteps.{access_at}
use Rattle.ds_core.specs.EditEvents.{EditStepsBy}
use Rattle.ds_core.specs.Moments.{Placed, Closed, Ledger}
use Rattle.ds_core.specs.LedgerSteps.{next_number}
use Rattle.ds_core.specs.declared.reply.Reply.{Reply}
use Rattle.ds_state.proofs.Counting.{contains_one}
use Rattle.ds_core.proofs.Headers.{SidesStay, sides_same, edit_sides}
use Rattle.ds_core.proofs.Ledgers.{IsOf, doubts, one_some}
use Rattle.ds_core.proofs.Traces as traces
use Rattle.ds_core.proofs.Turns.{edit_turn}
use Rattle.ds_core.proofs.Told.{IsCounted, Tells, LeavesOthers, counted_more, turn_leaves}
use Rattle.ds_core.proofs.Telling.{tells_on, tells_closed, told_by, below_out}

-- ---- it begins

-- the begin of an edit with the next number leaves what the words say of closed edits
pub tells_begun : (l l' : Ledger) (v v' : WorldValue) (edit : PlainEdit) → Tells l v → traces.Issues (world_of v) edit (world_of v') → v'.sheet.layout ≡ v.sheet.layout → SameMemory (world_of v).memory (world_of v').memory
    → ((q : ℕ) → q ≢ edit.process → (world_of v').situation q ≡ (world_of v).situation q) → doubts ((world_of v').situation edit.process) ≡ false → edit.number ≡ next_number (l.told edit.process)
    → l'.counted ≡ l.counted → ((q : ℕ) → l'.told q ≡ l.told q) → Tells l' v'
tells_begun l l' v v' edit t s layout memory others sure next counted told =
    tells_on edit.process l l' v v' t (record {
      situation = others;
      open_edits = s.others;
      announced = λ p ne. memory.cached _;
      sides = λ p n ne. sides_same (world_of v).memory (world_of v').memory (Header p n) memory;
    }) layout told (λ p c is. subst (λ (es : List Placed). IsCounted es c.it c.counts) (sym counted) (t.told p c is).counted)
    (λ c is. sides_same (world_of v).memory (world_of v').memory (Header edit.process c.it.edit.number) memory)
    (λ issue is. (let one = one_some ((world_of v').open_edits edit.process) issue (record { edit = edit; since = length v.counted }) is s.issued in ap (λ (i : PlainIssue). i.edit.number) one ∙ next)) sure

module _ (layout : _) (l : Ledger) (v v' : WorldValue) (h : IsOf layout l v) (t : Tells l v) (p : ℕ) (reply : Reply) (s : EditStepsBy v p reply v') where
  fits : EditFits (world_of v) p s.steps.edit
  fits = subst (λ (x : Situation). CallFits (world_of v) p x) s.steps.at (h.good.sound.calls p s.steps.there)

  -- its number is that after the last closed edit's
  number_next : s.steps.edit.number ≡ next_number (l.told p)
  number_next = t.opens p (record { edit = edit_of s.steps.edit; since = fits.since }) fits.open_edits

  apart : (c : Closed) → l.told p ≡ Some c → s.steps.edit.number ≡ c.it.edit.number → ⊥
  apart c is same = let next = number_next ∙ ap next_number is in omega arith

  sides : (c : Closed) → l.told p ≡ Some c → SidesStay (world_of v).memory (world_of v').memory (Header p c.it.edit.number)
  sides c is = edit_sides p c.it.edit.number (world_of v) (world_of v') s.steps.edit s.steps.word (apart c is) fits.buffer s.steps.steps.memory

  its : (issue : PlainIssue) → (world_of v).open_edits p ≡ Some issue → issue.edit ≡ edit_of s.steps.edit
  its issue is = ap (λ (i : PlainIssue). i.edit) (one_some ((world_of v).open_edits p) issue (record { edit = edit_of s.steps.edit; since = fits.since }) is fits.open_edits)

  leaves : LeavesOthers p v v'
  leaves = turn_leaves p v v' (edit_turn v v' p reply h.good.sound s)

  -- it goes on
  module _ (pending : (world_of v').open_edits p ≡ (world_of v).open_edits p) (sure : doubts ((world_of v').situation p) ≡ false) where
    opens : (issue : PlainIssue) → (world_of v').open_edits p ≡ Some issue → issue.edit.number ≡ next_number (l.told p)
    opens issue is = t.opens p issue (sym pending ∙ is)

    pub tells_edit_on : Tells l v'
    tells_edit_on = tells_on p l l v v' t leaves s.steps.steps.layout (λ q. refl) (λ q c is. (t.told q c is).counted) sides opens sure

    -- it is linearized
    module _ (l' : Ledger) (x : Placed) (counted : l'.counted ≡ l.counted ++ x ∷ []) (told : (q : ℕ) → l'.told q ≡ l.told q) (issue : PlainIssue) (open_is : (world_of v).open_edits p ≡ Some issue) (same : x.edit ≡ issue.edit) where
      mine : x.edit.process ≡ p
      mine = ap (λ (e : PlainEdit). e.process) (same ∙ its issue open_is) ∙ fits.mine

      number : x.edit.number ≡ s.steps.edit.number
      number = ap (λ (e : PlainEdit). e.number) (same ∙ its issue open_is)

      no_closed : (q : ℕ) (c : Closed) → l.told q ≡ Some c → (f : Placed) → Contains (x ∷ []) f → f.edit.process ≡ c.it.edit.process → f.edit.number ≡ c.it.edit.number → ⊥
      no_closed q c is f late same_process same_number =
          let one : x ≡ f = sym (contains_one x f late) in
          let its : p ≡ q = sym mine ∙ ap (λ (e : Placed). e.edit.process) one ∙ same_process ∙ (t.told q c is).process in
          apart c (ap l.told its ∙ is) (sym number ∙ ap (λ (e : Placed). e.edit.number) one ∙ same_number)

      pub tells_counted : Tells l' v'
      tells_counted = tells_on p l l' v v' t leaves s.steps.steps.layout told
          (λ q c is. subst (λ (es : List Placed). IsCounted es c.it c.counts) (sym counted)
          (counted_more l.counted (x ∷ []) c.it c.counts (t.told q c is).counted (λ there. Contains-append_left l.counted (x ∷ []) c.it there) (λ f there. Contains-append_cases l.counted (x ∷ []) f there) (no_closed q c is)))
          sides opens sure

  -- it is answered
  module _ (how : Outcome) (at : s.steps.edit.stage ≡ Answer how) where
    knows : Knowing (world_of v) s.steps.edit.edition (edit_of s.steps.edit) s.steps.edit.refs fits.since (known_at (text_parts s.steps.edit.text) (length s.steps.edit.refs) (Answer how))
    knows = subst (λ (x : Stage). Knowing (world_of v) s.steps.edit.edition (edit_of s.steps.edit) s.steps.edit.refs fits.since (known_at (text_parts s.steps.edit.text) (length s.steps.edit.refs) x)) at fits.knows

    memory : SameMemory (world_of v).memory (world_of v').memory
    memory = (subst (λ (x : Stage). PerformsAt (access_at s.steps.edit x) s.steps.edit.process (world_of v).memory (world_of v').memory s.steps.word) at s.steps.steps.memory).1

    module _ (issue : PlainIssue) (open_is : (world_of v).open_edits p ≡ Some issue) where
      pub tells_answered : (l' : Ledger) (c : Closed) → l'.told p ≡ Some c → ((q : ℕ) → q ≢ p → l'.told q ≡ l.told q) → l'.counted ≡ l.counted → c.it.edit ≡ issue.edit → IsCounted l.counted c.it c.counts
          → (world_of v').open_edits p ≡ None → doubts ((world_of v').situation p) ≡ false → Tells l' v'
      tells_answered l' c here others list same counted none sure =
          let cells = fits.sheet.cells in
          let low = fits.is.cell in
          tells_closed p l l' v v' t (edit_turn v v' p reply h.good.sound s) s.steps.steps.layout c here others list
          (told_by l.counted (world_of v) p c s.steps.edit.edition (edit_of s.steps.edit) (suc (text_parts s.steps.edit.text)) (same ∙ its issue open_is) fits.mine counted (omega arith) knows.recorded (omega arith) fits.is.text.short)
          (sides_same (world_of v).memory (world_of v').memory (Header p c.it.edit.number) memory) none sure

  pub overtaken_is_out : (noted seen : ℕ) → s.steps.edit.stage ≡ Answer (outcome.Overtaken noted seen) → (issue : PlainIssue) → (world_of v).open_edits p ≡ Some issue → (it : Placed) → it.edit ≡ issue.edit → IsCounted l.counted it false
  overtaken_is_out noted seen at issue open_is it same =
      let k : AreBelow (world_of v) s.steps.edit.process s.steps.edit.number = (knows (outcome.Overtaken noted seen) at).standing in
      below_out l v it h.counted (subst (λ (e : PlainEdit). AreBelow (world_of v) e.process e.number) (sym (same ∙ its issue open_is)) k)
