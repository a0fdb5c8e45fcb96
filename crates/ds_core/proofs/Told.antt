-- What the words say of a process's last edit that was closed under its number, and how that lasts.
use Rattle.std.proofs.Common.{ℕ, ◌≡◌, ◌≢◌, ◌<◌, ◌/◌, ◌⊎◌, List, ◌++◌, refl, ap, sym, ◌∙◌, subst, inl, inr, Bool, true, false, Some, None}
use Rattle.std.specs.Prelude.{Option, Contains}
use Rattle.std.proofs.lemmas.Bool.{cases_eq}
use Rattle.ds_layout.specs.declared.place.Place.TheVariants.{Header, Announce, Version}
use Rattle.ds_layout.specs.declared.layout.Layout.{Layout}
use Rattle.ds_layout.specs.Header.{header_of}
use Rattle.ds_layout.specs.Places.{cells_of}
use Rattle.ds_state.specs.World.{PlainIssue, PlainWorld}
use Rattle.ds_state.specs.Value.{WorldValue, world_of}
use Rattle.ds_recover.specs.RecoverySteps.{cell_from}
use Rattle.ds_core.specs.Moments.{Placed, Closed, Ledger}
use Rattle.ds_core.specs.LedgerSteps.{next_number}
use Rattle.ds_core.proofs.Headers.{SidesStay, sides_relied}
use Rattle.ds_core.proofs.Ledgers.{doubts}
use Rattle.ds_core.proofs.Turns.{IsTurn}

-- the cell that a header's word says
abbrev pub cell_told : Layout → ℕ → ℕ
cell_told layout word = cell_from (header_of (cells_of layout) word)

-- the closed edit stands in the list; or no edit of its process and number does
abbrev pub IsCounted : List Placed → Placed → Bool → Type 0
IsCounted es it true = Contains es it
IsCounted es it false = (f : Placed) → Contains es f → f.edit.process ≡ it.edit.process → f.edit.number ≡ it.edit.number → ⊥

-- the process's last edit that was closed: both sides of its header say its cell
pub record IsTold (es : List Placed) (w : PlainWorld) (p : ℕ) (c : Closed) : Type 0 where
  pub process : c.it.edit.process ≡ p
  pub counted : IsCounted es c.it c.counts
  pub cached : cell_told w.layout (w.memory.cached (Header p c.it.edit.number)) ≡ c.it.edit.cell
  pub persisted : cell_told w.layout (w.memory.persisted (Header p c.it.edit.number)) ≡ c.it.edit.cell

-- the number that the word announces is the one after the last closed edit's, where no edit is open
abbrev pub Announces : PlainWorld → ℕ → Option Closed → Type 0
Announces w p told = w.memory.cached (Announce p) / 4 ≡ next_number told

-- the words say what the ledger has of closed edits: cells, numbers, announcements
pub record Tells (l : Ledger) (v : WorldValue) : Type 0 where
  pub told : (p : ℕ) (c : Closed) → l.told p ≡ Some c → IsTold l.counted (world_of v) p c
  pub opens : (p : ℕ) (issue : PlainIssue) → (world_of v).open_edits p ≡ Some issue → issue.edit.number ≡ next_number (l.told p)
  pub announced : (p : ℕ) → p < v.sheet.layout.processes → doubts ((world_of v).situation p) ≡ true → (world_of v).open_edits p ≡ None → Announces (world_of v) p (l.told p)

-- ---- how it lasts

-- what was answered stays answered
pub told_on : (es es' : List Placed) (w w' : PlainWorld) (p : ℕ) (c : Closed) → IsTold es w p c → w'.layout ≡ w.layout → SidesStay w.memory w'.memory (Header p c.it.edit.number) → IsCounted es' c.it c.counts → IsTold es' w' p c
told_on es es' w w' p c h layout s counted =
    let both : (word : ℕ) → cell_told w.layout word ≡ c.it.edit.cell → cell_told w'.layout word ≡ c.it.edit.cell = λ word is. subst (λ (l : Layout). cell_told l word ≡ c.it.edit.cell) (sym layout) is in
    record {
      process = h.process;
      counted = counted;
      cached = elim s.cached [ inl is ↦ subst (λ x. cell_told w'.layout x ≡ c.it.edit.cell) (sym is) (both _ h.cached) | inr is ↦ subst (λ x. cell_told w'.layout x ≡ c.it.edit.cell) (sym is) (both _ h.persisted) ];
      persisted = elim s.persisted [ inl is ↦ subst (λ x. cell_told w'.layout x ≡ c.it.edit.cell) (sym is) (both _ h.cached) | inr is ↦ subst (λ x. cell_told w'.layout x ≡ c.it.edit.cell) (sym is) (both _ h.persisted) ];
    }

-- whether a closed edit is linearized stays so, where nothing leaves the list and what comes is no closed edit's
pub counted_more : (es more : List Placed) (it : Placed) (b : Bool) → IsCounted es it b → (Contains es it → Contains (es ++ more) it) → ((f : Placed) → Contains (es ++ more) f → Contains es f ⊎ Contains more f)
    → ((f : Placed) → Contains more f → f.edit.process ≡ it.edit.process → f.edit.number ≡ it.edit.number → ⊥) → IsCounted (es ++ more) it b
counted_more es more it true h front cases new = front h
counted_more es more it false h front cases new = λ f there a b. elim (cases f there) [ inl early ↦ h f early a b | inr late ↦ new f late a b ]

-- a turn of q: what it has to show of itself, and what of the others' edits stays as it was
pub record OwnTold (q : ℕ) (l' : Ledger) (v v' : WorldValue) : Type 0 where
  pub layout : v'.sheet.layout ≡ v.sheet.layout
  pub told : (c : Closed) → l'.told q ≡ Some c → IsTold l'.counted (world_of v') q c
  pub opens : (issue : PlainIssue) → (world_of v').open_edits q ≡ Some issue → issue.edit.number ≡ next_number (l'.told q)
  pub announced : doubts ((world_of v').situation q) ≡ true → (world_of v').open_edits q ≡ None → Announces (world_of v') q (l'.told q)

-- what it leaves of the others' words and of their edits
pub record LeavesOthers (q : ℕ) (v v' : WorldValue) : Type 0 where
  pub situation : (p : ℕ) → p ≢ q → (world_of v').situation p ≡ (world_of v).situation p
  pub open_edits : (p : ℕ) → p ≢ q → (world_of v').open_edits p ≡ (world_of v).open_edits p
  pub announced : (p : ℕ) → p ≢ q → (world_of v').memory.cached (Announce p) ≡ (world_of v).memory.cached (Announce p)
  pub sides : (p n : ℕ) → p ≢ q → SidesStay (world_of v).memory (world_of v').memory (Header p n)

-- a turn leaves the others' situations, open edits, announcements and headers
pub turn_leaves : (q : ℕ) (v v' : WorldValue) → IsTurn q v v' → LeavesOthers q v v'
turn_leaves q v v' turn = record {
  situation = λ p ne. turn.others p ne;
  open_edits = λ p ne. (turn.keeps.others p ne).open_edits;
  announced = λ p ne. ((turn.keeps.others p ne).grows Version).owned_cached (Announce p) refl (λ x. cc);
  sides = λ p n ne. sides_relied p n (world_of v) (world_of v') (turn.keeps.others p ne);
}

module _ (q : ℕ) (l l' : Ledger) (v v' : WorldValue) (t : Tells l v) (leaves : LeavesOthers q v v') (own : OwnTold q l' v v') (same : (p : ℕ) → p ≢ q → l'.told p ≡ l.told p)
    (counted : (p : ℕ) (c : Closed) → p ≢ q → l.told p ≡ Some c → IsCounted l'.counted c.it c.counts) where
  pub tells_left : Tells l' v'
  tells_left = record {
    told = λ p c is. elim (cases_eq p q) [
      | inl here ↦ subst (λ x. IsTold l'.counted (world_of v') x c) (sym here) (own.told c (ap l'.told (sym here) ∙ is))
      | inr other ↦ (
          let was : l.told p ≡ Some c = sym (same p other) ∙ is in
          told_on l.counted l'.counted (world_of v) (world_of v') p c (t.told p c was) own.layout (leaves.sides p c.it.edit.number other) (counted p c other was))
    ];
    opens = λ p issue is. elim (cases_eq p q) [
      | inl here ↦ own.opens issue (ap (λ x. (world_of v').open_edits x) (sym here) ∙ is) ∙ ap next_number (ap l'.told (sym here))
      | inr other ↦ t.opens p issue (sym (leaves.open_edits p other) ∙ is) ∙ ap next_number (sym (same p other))
    ];
    announced = λ p lt doubt none. elim (cases_eq p q) [
      | inl here ↦ subst (λ x. (world_of v').memory.cached (Announce x) / 4 ≡ next_number (l'.told x)) (sym here) (own.announced (ap (λ x. doubts ((world_of v').situation x)) (sym here) ∙ doubt) (ap (λ x. (world_of v').open_edits x) (sym here) ∙ none))
      | inr other ↦ (
          let before = t.announced p (rw (sym own.layout) lt) (ap doubts (sym (leaves.situation p other)) ∙ doubt) (sym (leaves.open_edits p other) ∙ none) in
          ap (λ x. x / 4) (leaves.announced p other) ∙ before ∙ ap next_number (sym (same p other)))
    ];
  }

-- after a turn the words say the same of closed edits, where the process shows its own and leaves those of the others
pub tells_turn : (q : ℕ) (l l' : Ledger) (v v' : WorldValue) → Tells l v → IsTurn q v v' → OwnTold q l' v v' → ((p : ℕ) → p ≢ q → l'.told p ≡ l.told p) → ((p : ℕ) (c : Closed) → p ≢ q → l.told p ≡ Some c → IsCounted l'.counted c.it c.counts) → Tells l' v'
tells_turn q l l' v v' t turn own same counted = tells_left q l l' v v' t (turn_leaves q v v' turn) own same counted
