-- What a step leaves as it was.
use Rattle.std.proofs.Common.{ℕ, ◌≡◌, ◌≢◌, ◌<◌, ◌≤◌, ◌⊎◌, List, [], ◌∷◌, ◌++◌, refl, ap, sym, ◌∙◌, subst, arith, inl, inr, Some, None, suc}
use Rattle.std.proofs.lemmas.Bool.{cases_eq, cases_lt}
use Rattle.std.proofs.lemmas.List.{append-nil}
use Rattle.std.proofs.lemmas.List.Elements.{All-nil}
use Rattle.ds_layout.specs.declared.place.Place.{Place}
use Rattle.ds_layout.specs.declared.place.Place.TheVariants.{Version, Head, Mark, Value, Kind, Index, Announce, Header, Text, Done}
use Rattle.ds_layout.specs.Bits.{IsSubset}
use Rattle.ds_layout.proofs.OrBits.{IsSubset-same}
use Rattle.ds_layout.proofs.PlaceCases.{place_cases}
use Rattle.ds_state.specs.World.{PlainEdit, PlainIssue, PlainWorld, of_cell, head_after_all}
use Rattle.ds_state.specs.Owing.{IsApart, Splits}
use Rattle.ds_layout.specs.Mark.{IsClean, IsHeldBy}
use Rattle.ds_state.specs.Standing.{AllStand}
use Rattle.ds_state.specs.CallsFit.{CallFits}
use Rattle.ds_layout.specs.Announcement.{number_after}
use Rattle.ds_state.specs.Headers.{SayNumber, IsSaid, SaysCell, HasCell}
use Rattle.ds_state.specs.WordsFit.{IsKept, WordFits, RecordFits}
use Rattle.ds_state.specs.Sound.{IsSound}
use Rattle.ds_state.specs.Rely.{IsOwnedBy, KeepsHold, Grows, Bears, Rely, Keeps}
use Rattle.ds_state.proofs.Heads.{cell_of-middle}
use Rattle.ds_state.proofs.Lasting.{safe_stable}
use Rattle.ds_state.proofs.Stable.{call_stable}
use Rattle.std.specs.Prelude.{Option}
use Rattle.ds_layout.specs.declared.place.Edition.{Edition}
use Rattle.ds_layout.specs.declared.place.Edition.TheVariants.{First, Second}
use Rattle.ds_layout.specs.Places.{edition_of, first_text}
use Rattle.ds_state.specs.Editions.{seen_edition, Shows, Agrees}
use Rattle.ds_state.specs.Owing.{entry}
use Rattle.ds_state.specs.LayoutsFit.{WakesAt, Copies, Copying, MovesAt, OthersStopped, MovesFit, LayoutFits, IsMoving, NoneMoves}
use Rattle.ds_state.specs.Works.{PlainMigrateCall, old_words, new_text}
use Rattle.ds_state.specs.declared.recovery.RecoverStage.{RecoverStage}
use Rattle.ds_state.specs.declared.recovery.RecoverStage.TheVariants.{LoadVersion, FlushVersion, BackVersion}
use Rattle.ds_state.specs.declared.migration.MigrateStage.{MigrateStage}
use Rattle.ds_state.specs.declared.migration.MigrateStage.TheVariants as stages
use Rattle.ds_state.specs.declared.situation.Situation.{Situation}
use Rattle.ds_state.specs.declared.situation.Situation.TheVariants.{Idle, Stopped, Editing, Working, Recovering, Showing, Migrating}

-- the cached side stays, and the persisted side stays or becomes the cached one
abbrev pub CatchesUp : ℕ → ℕ → ℕ → ℕ → Type 0
CatchesUp c v c' v' = (c' ≡ c) × ((v' ≡ v) ⊎ (v' ≡ c))

-- how a mark may move: each hold of another process stays
pub record MovesMark (p c v c' v' : ℕ) : Type 0 where
  pub cached : c ≤ c'
  pub persisted : v ≤ v'
  pub holds : (q : ℕ) → q ≢ p → KeepsHold q c v c' v'

-- how the sides of a word may move, from c and v to c' and v', in a step of the process: what it announces has a header
-- that says its cell, and it changes a header only while its number is not announced
abbrev pub MovesWord : PlainWorld → ℕ → Place → ℕ → ℕ → ℕ → ℕ → Type 0
MovesWord w p Version c v c' v' = Unit {0}
MovesWord w p (Head cell) c v c' v' = (c ≤ c') × (v ≤ v')
MovesWord w p (Mark cell) c v c' v' = MovesMark p c v c' v'
MovesWord w p (Value cell) c v c' v' = IsHeldBy p (w.memory.cached (Mark cell)) ⊎ CatchesUp c v c' v'
MovesWord w p (Kind cell) c v c' v' = IsHeldBy p (w.memory.cached (Mark cell)) ⊎ CatchesUp c v c' v'
MovesWord w p (Index row part) c v c' v' = IsSubset c c' × IsSubset v v'
MovesWord w p (Announce q) c v c' v' = (c ≤ c') × (v ≤ v') × (((q ≡ p) × ((number : ℕ) → SayNumber c' v' number → HasCell w q number)) ⊎ CatchesUp c v c' v')
MovesWord w p (Header q n) c v c' v' = ((q ≡ p) × (IsSaid w.memory q n → ⊥)) ⊎ CatchesUp c v c' v'
MovesWord w p (Text edition q n part) c v c' v' = (q ≡ p) ⊎ (CatchesUp c v c' v' ⊎ (seen_edition w.memory ≡ edition → ⊥))
MovesWord w p (Done q part) c v c' v' = IsSubset c c' × IsSubset v v'

-- a mark whose sides stay keeps each hold
pub stays_hold : (q c v c' v' : ℕ) → c' ≡ c → v' ≡ v → KeepsHold q c v c' v'
stays_hold q c v c' v' a b = record { cached = λ h. omega arith; persisted = λ h k. omega arith; came = λ h. omega arith }

stays_subset : (a b : ℕ) → b ≡ a → IsSubset a b
stays_subset a b e = subst (λ (x : ℕ). IsSubset a x) (sym e) (IsSubset-same a)

pub stays_word : (m : PlainWorld) (p : ℕ) (r : Place) (c v c' v' : ℕ) → c' ≡ c → v' ≡ v → MovesWord m p r c v c' v'
stays_word m p Version c v c' v' a b = tt
stays_word m p (Head cell) c v c' v' a b = (omega arith, omega arith)
stays_word m p (Mark cell) c v c' v' a b = record { cached = omega arith; persisted = omega arith; holds = λ q ne. stays_hold q c v c' v' a b }
stays_word m p (Value cell) c v c' v' a b = inr (a, inl b)
stays_word m p (Kind cell) c v c' v' a b = inr (a, inl b)
stays_word m p (Index row part) c v c' v' a b = (stays_subset c c' a, stays_subset v v' b)
stays_word m p (Announce q) c v c' v' a b = (omega arith, omega arith, inr (a, inl b))
stays_word m p (Header q n) c v c' v' a b = inr (a, inl b)
stays_word m p (Text edition q n part) c v c' v' a b = inr (inl (a, inl b))
stays_word m p (Done q part) c v c' v' a b = (stays_subset c c' a, stays_subset v v' b)

-- the layout that a process in this situation has noted, and both sides say
abbrev pub noted_stage : Edition → RecoverStage → Option Edition
noted_stage edition LoadVersion = None
noted_stage edition FlushVersion = None
noted_stage edition BackVersion = None
noted_stage edition _ = Some edition

-- the layout that a process in this situation relies on, where it relies on one
abbrev pub noted_in : Situation → Option Edition
noted_in (Idle next) = Some next.edition
noted_in Stopped = None
noted_in (Editing e) = Some e.edition
noted_in (Working e) = Some e.edition
noted_in (Recovering e) = noted_stage e.edition e.stage
noted_in (Showing e) = Some e.edition
noted_in (Migrating e) = None

-- how the process's part in layouts goes on: it has noted this layout, before and after; it stops; it makes a step of
-- its own in which no other migrates; it is none of the sheet, and words at most catch up
pub data Goes (p : ℕ) (old new : PlainWorld) : Type 0 where
  notes : (edition : Edition) → p < old.layout.processes → noted_in (old.situation p) ≡ Some edition → noted_in (new.situation p) ≡ Some edition → Goes p old new
  stops : p < old.layout.processes → old.situation p ≢ Stopped → new.situation p ≡ Stopped → Goes p old new
  turns : NoneMoves old p → (p < old.layout.processes → LayoutFits new p (new.situation p)) → Goes p old new
  nobody : old.layout.processes ≤ p → ((r : Place) → CatchesUp (old.memory.cached r) (old.memory.persisted r) (new.memory.cached r) (new.memory.persisted r)) → Goes p old new

-- the texts of the second layout hold the records of all linearized edits
abbrev pub NewTexts : PlainWorld → Type 0
NewTexts w = (q n part : ℕ) → RecordFits w q n (suc part) (w.memory.cached (Text Second q n part)) (w.memory.persisted (Text Second q n part))

-- the version's word comes to say the second layout on its cached side, with all other processes stopped
pub record Switches (p : ℕ) (old new : PlainWorld) : Type 0 where
  pub alone : OthersStopped old p
  pub from : Agrees old.memory First
  pub to : new.memory.cached Version ≡ 1
  pub persisted : new.memory.persisted Version ≡ old.memory.persisted Version
  pub texts : NewTexts new
  pub mine : p < old.layout.processes → LayoutFits new p (new.situation p)

-- the version's word catches up at most, or the process switches the layout
abbrev pub MovesVersion : ℕ → PlainWorld → PlainWorld → Type 0
MovesVersion p old new = CatchesUp (old.memory.cached Version) (old.memory.persisted Version) (new.memory.cached Version) (new.memory.persisted Version) ⊎ Switches p old new

-- at most this word moves, and the process alone changes its buffer, its situation and its issue
pub record Moves (p : ℕ) (place : Place) (old new : PlainWorld) : Type 0 where
  pub layout : new.layout ≡ old.layout
  pub cached : (r : Place) → r ≢ place → new.memory.cached r ≡ old.memory.cached r
  pub persisted : (r : Place) → r ≢ place → new.memory.persisted r ≡ old.memory.persisted r
  pub here : MovesWord old p place (old.memory.cached place) (old.memory.persisted place) (new.memory.cached place) (new.memory.persisted place)
  pub buffers : (q : ℕ) → q ≢ p → new.memory.buffer q ≡ old.memory.buffer q
  pub situations : (q : ℕ) → q ≢ p → new.situation q ≡ old.situation q
  pub pendings : (q : ℕ) → q ≢ p → new.open_edits q ≡ old.open_edits q
  pub goes : Goes p old new
  pub version : MovesVersion p old new

abbrev pub Moved : ℕ → PlainWorld → PlainWorld → Place → Type 0
Moved p old new r = MovesWord old p r (old.memory.cached r) (old.memory.persisted r) (new.memory.cached r) (new.memory.persisted r)

-- whoever may have the sides of this cell's head differ may still
abbrev pub KeepsOwing : PlainWorld → PlainWorld → ℕ → Type 0
KeepsOwing old new cell = (e : PlainEdit) (issue : PlainIssue) → e.cell ≡ cell → old.open_edits e.process ≡ Some issue → issue.edit ≡ e
    → (before : List PlainEdit) → of_cell cell old.counted ≡ before ++ e ∷ []
    → Splits old e.process (old.situation e.process) e.cell (head_after_all (of_cell cell old.counted))
    → (new.open_edits e.process ≡ Some issue) × Splits new e.process (new.situation e.process) e.cell (head_after_all (of_cell cell old.counted))

-- where the sides of a cell's words may differ, they still may, or they agree
abbrev pub KeepsApart : PlainWorld → PlainWorld → Type 0
KeepsApart old new = (cell : ℕ) → IsApart old cell
    → IsApart new cell ⊎ ((new.memory.persisted (Value cell) ≡ new.memory.cached (Value cell)) × (new.memory.persisted (Kind cell) ≡ new.memory.cached (Kind cell)))

-- a mark has one holder at most
pub one_holder : (m p q : ℕ) → IsHeldBy p m → IsHeldBy q m → q ≡ p
one_holder m p q a b = omega arith

-- nobody holds a clean mark
pub clean_free : (m q : ℕ) → IsClean m → IsHeldBy q m → ⊥
clean_free m q a b = omega arith

module _ (p : ℕ) (place : Place) (old new : PlainWorld) (m : Moves p place old new) where
  pub each_moved : (r : Place) → Moved p old new r
  each_moved r = elim (place_cases r place) [
    | inl eq ↦ subst (λ (x : Place). Moved p old new x) (sym eq) m.here
    | inr ne ↦ stays_word old p r _ _ _ _ (m.cached r ne) (m.persisted r ne)
  ]

  -- a word of another process's own
  pub owned_catches : (q : ℕ) → q ≢ p → (r : Place) → IsOwnedBy old.memory q r → CatchesUp (old.memory.cached r) (old.memory.persisted r) (new.memory.cached r) (new.memory.persisted r)
  owned_catches q ne (Announce x) own = elim (each_moved (Announce x)).2 [ inl mine ↦ absurd (ne (sym own ∙ mine.0)) | inr up ↦ up ]
  owned_catches q ne (Header x n) own = elim (each_moved (Header x n)) [ inl mine ↦ absurd (ne (sym own ∙ mine.0)) | inr up ↦ up ]
  owned_catches q ne (Text edition x n part) own = elim (each_moved (Text edition x n part)) [ inl mine ↦ absurd (ne (sym own.0 ∙ mine)) | inr other ↦ elim other [ inl up ↦ up | inr unseen ↦ absurd (unseen own.1) ] ]
  owned_catches q ne Version own = absurd own
  owned_catches q ne (Head x) own = absurd own
  owned_catches q ne (Mark x) own = absurd own
  owned_catches q ne (Value x) own = elim (each_moved (Value x)) [ inl mine ↦ absurd (ne (one_holder _ p q mine own)) | inr up ↦ up ]
  owned_catches q ne (Kind x) own = elim (each_moved (Kind x)) [ inl mine ↦ absurd (ne (one_holder _ p q mine own)) | inr up ↦ up ]
  owned_catches q ne (Index x n) own = absurd own
  owned_catches q ne (Done x n) own = absurd own

-- a number that is said where words caught up was said before
pub said_back : (c v c' v' number : ℕ) → CatchesUp c v c' v' → SayNumber c' v' number → SayNumber c v number
said_back c v c' v' number up (inl now) = inl (ap number_after (sym up.0) ∙ now)
said_back c v c' v' number up (inr now) = elim up.1 [ inl same ↦ inr (ap number_after (sym same) ∙ now) | inr caught ↦ inl (ap number_after (sym caught) ∙ now) ]

-- a header's cell stays where its sides at most catch up
pub cell_stays : (old new : PlainWorld) (q n : ℕ) → new.layout ≡ old.layout → CatchesUp (old.memory.cached (Header q n)) (old.memory.persisted (Header q n)) (new.memory.cached (Header q n)) (new.memory.persisted (Header q n)) → HasCell old q n → HasCell new q n
cell_stays old new q n layout up h =
    let on : (word word' : ℕ) → word' ≡ word → SaysCell old.layout h.cell word → SaysCell new.layout h.cell word' = λ word word' same s. subst (λ (l : _). SaysCell l h.cell word') (sym layout) (subst (λ x. SaysCell old.layout h.cell x) (sym same) s) in
    record {
      cell = h.cell;
      cached = on _ _ up.0 h.cached;
      persisted = elim up.1 [ inl same ↦ on _ _ same h.persisted | inr caught ↦ on _ _ caught h.cached ];
    }

module _ (p : ℕ) (place : Place) (old new : PlainWorld) (m : Moves p place old new) (headers : (q n : ℕ) → IsSaid old.memory q n → HasCell old q n) where
  apart_header : (q n : ℕ) → Announce q ≡ place → Header q n ≢ place
  apart_header q n at is = let bad : Announce q ≡ Header q n = at ∙ sym is in cc

  -- the header of each record whose number is announced says one cell, as before
  pub headers_move : (q n : ℕ) → IsSaid new.memory q n → HasCell new q n
  headers_move q n said = elim (place_cases (Announce q) place) [
    | inl eq ↦ (
        let still : HasCell old q n → HasCell new q n = cell_stays old new q n m.layout (m.cached (Header q n) (apart_header q n eq), inl (m.persisted (Header q n) (apart_header q n eq))) in
        elim (each_moved p place old new m (Announce q)).2 [
          | inl mine ↦ still (mine.1 n said)
          | inr up ↦ still (headers q n (said_back _ _ _ _ n up said))
        ])
    | inr ne ↦ (
        let was : IsSaid old.memory q n = said_back _ _ _ _ n (m.cached (Announce q) ne, inl (m.persisted (Announce q) ne)) said in
        elim (each_moved p place old new m (Header q n)) [
          | inl mine ↦ absurd (mine.1 was)
          | inr up ↦ cell_stays old new q n m.layout up (headers q n was)
        ])
  ]

-- what a side says after a step, it said before
pub shown_back : (old new : PlainWorld) → CatchesUp (old.memory.cached Version) (old.memory.persisted Version) (new.memory.cached Version) (new.memory.persisted Version) → (edition : Edition) → Shows new.memory edition → Shows old.memory edition
shown_back old new up edition (inl now) = inl (ap edition_of (sym up.0) ∙ now)
shown_back old new up edition (inr now) = elim up.1 [ inl same ↦ inr (ap edition_of (sym same) ∙ now) | inr caught ↦ inl (ap edition_of (sym caught) ∙ now) ]

-- where the version's word at most catches up, a layout that both sides say they still say
pub agrees_on : (old new : PlainWorld) → CatchesUp (old.memory.cached Version) (old.memory.persisted Version) (new.memory.cached Version) (new.memory.persisted Version) → (edition : Edition) → Agrees old.memory edition → Agrees new.memory edition
agrees_on old new up edition h = record {
  cached = ap edition_of up.0 ∙ h.cached;
  persisted = elim up.1 [ inl same ↦ ap edition_of same ∙ h.persisted | inr caught ↦ ap edition_of caught ∙ h.cached ];
}

-- what a process has noted, both sides say
noted_agrees : (w : PlainWorld) (p : ℕ) (s : Situation) (edition : Edition) → noted_in s ≡ Some edition → LayoutFits w p s → Agrees w.memory edition
noted_agrees w p (Idle next) edition is h = let same : next.edition ≡ edition = cc in subst (λ (d : Edition). Agrees w.memory d) same h
noted_agrees w p Stopped edition is h = absurd (cc)
noted_agrees w p (Editing e) edition is h = let same : e.edition ≡ edition = cc in subst (λ (d : Edition). Agrees w.memory d) same h
noted_agrees w p (Working e) edition is h = let same : e.edition ≡ edition = cc in subst (λ (d : Edition). Agrees w.memory d) same h
noted_agrees w p (Recovering e) edition is h = by e.stage is h
  where
    by : (s : RecoverStage) → noted_stage e.edition s ≡ Some edition → WakesAt w p e s → Agrees w.memory edition
    by LoadVersion i k = absurd (cc)
    by FlushVersion i k = absurd (cc)
    by BackVersion i k = absurd (cc)
    by _ i k = let same : e.edition ≡ edition = cc in subst (λ (d : Edition). Agrees w.memory d) same k
noted_agrees w p (Showing e) edition is h = let same : e.edition ≡ edition = cc in subst (λ (d : Edition). Agrees w.memory d) same h
noted_agrees w p (Migrating e) edition is h = absurd (cc)

agrees_noted : (w : PlainWorld) (p : ℕ) (s : Situation) (edition : Edition) → noted_in s ≡ Some edition → Agrees w.memory edition → LayoutFits w p s
agrees_noted w p (Idle next) edition is h = let same : edition ≡ next.edition = cc in subst (λ (d : Edition). Agrees w.memory d) same h
agrees_noted w p Stopped edition is h = tt
agrees_noted w p (Editing e) edition is h = let same : edition ≡ e.edition = cc in subst (λ (d : Edition). Agrees w.memory d) same h
agrees_noted w p (Working e) edition is h = let same : edition ≡ e.edition = cc in subst (λ (d : Edition). Agrees w.memory d) same h
agrees_noted w p (Recovering e) edition is h = by e.stage is
  where
    by : (s : RecoverStage) → noted_stage e.edition s ≡ Some edition → WakesAt w p e s
    by LoadVersion i = tt
    by FlushVersion i = absurd (cc)
    by BackVersion i = absurd (cc)
    by _ i = let same : edition ≡ e.edition = cc in subst (λ (d : Edition). Agrees w.memory d) same h
agrees_noted w p (Showing e) edition is h = let same : edition ≡ e.edition = cc in subst (λ (d : Edition). Agrees w.memory d) same h
agrees_noted w p (Migrating e) edition is h = absurd (cc)

-- where words at most catch up, a migration has come as far as before
copies_on : (old new : PlainWorld) → ((r : Place) → CatchesUp (old.memory.cached r) (old.memory.persisted r) (new.memory.cached r) (new.memory.persisted r)) → (at : ℕ) → Copies old.memory at → Copies new.memory at
copies_on old new up at h = record {
  cached = (up (new_text at)).0 ∙ h.cached ∙ sym (up (first_text at)).0;
  persisted = elim (up (new_text at)).1 [ inl same ↦ same ∙ h.persisted ∙ sym (up (first_text at)).0 | inr caught ↦ caught ∙ h.cached ∙ sym (up (first_text at)).0 ];
}

copying_on : (old new : PlainWorld) → ((r : Place) → CatchesUp (old.memory.cached r) (old.memory.persisted r) (new.memory.cached r) (new.memory.persisted r)) → (count : ℕ) → Copying old.memory count → Copying new.memory count
copying_on old new up count h = record { agrees = agrees_on old new (up Version) First h.agrees; copied = λ at l. copies_on old new up at (h.copied at l) }

moves_on : (old new : PlainWorld) → ((r : Place) → CatchesUp (old.memory.cached r) (old.memory.persisted r) (new.memory.cached r) (new.memory.persisted r)) → (e : PlainMigrateCall) (s : MigrateStage) → MovesAt old e s → MovesAt new e s
moves_on old new up e stages.LoadVersion h = tt
moves_on old new up e (stages.LoadOld at) h = copying_on old new up at h
moves_on old new up e (stages.StoreNew at) h = (copying_on old new up at h.0, h.1 ∙ sym (up (first_text at)).0)
moves_on old new up e (stages.FlushNew at) h = (copying_on old new up at h.0, h.1 ∙ sym (up (first_text at)).0, (up (new_text at)).0 ∙ h.2)
moves_on old new up e (stages.BackNew at) h = (copying_on old new up at h.0, h.1 ∙ sym (up (first_text at)).0, (up (new_text at)).0 ∙ h.2)
moves_on old new up e stages.Swap h = copying_on old new up (old_words e.processes) h
moves_on old new up e (stages.FlushVersion how) h = (up Version).0 ∙ h
moves_on old new up e (stages.BackVersion how) h = (up Version).0 ∙ h
moves_on old new up e (stages.Answer how) h = agrees_on old new (up Version) Second h

module _ (p : ℕ) (place : Place) (old new : PlainWorld) (m : Moves p place old new) where
  pub first_shown : Shows new.memory First → Shows old.memory First
  first_shown now = elim m.version [
    | inl up ↦ shown_back old new up First now
    | inr switch ↦ inl switch.from.cached
  ]

  -- another process's part in layouts
  others_layout : (s : Situation) (q : ℕ) → q < old.layout.processes → q ≢ p → old.situation q ≡ s
      → CatchesUp (old.memory.cached Version) (old.memory.persisted Version) (new.memory.cached Version) (new.memory.persisted Version) → IsSound old → LayoutFits old q s → LayoutFits new q s
  others_layout (Idle next) q l ne at up sound h = agrees_on old new up next.edition h
  others_layout Stopped q l ne at up sound h = tt
  others_layout (Editing e) q l ne at up sound h = agrees_on old new up e.edition h
  others_layout (Working e) q l ne at up sound h = agrees_on old new up e.edition h
  others_layout (Recovering e) q l ne at up sound h = by e.stage h
    where
      by : (s : RecoverStage) → WakesAt old q e s → WakesAt new q e s
      by LoadVersion k = tt
      by FlushVersion k = ap edition_of up.0 ∙ k
      by BackVersion k = (ap edition_of up.0 ∙ k.0, m.buffers q ne ∙ k.1 ∙ ap (λ (v : ℕ). entry Version v ∷ []) (sym up.0))
      by _ k = agrees_on old new up e.edition k
  others_layout (Showing e) q l ne at up sound h = agrees_on old new up e.edition h
  others_layout (Migrating e) q l ne at up sound h = elim (cases_lt p old.layout.processes) [
    | inl real ↦ absurd (no_turn real (h.alone p real (λ same. ne (sym same))) m.goes)
    | inr past ↦ by_nobody past m.goes
  ]
    where
      no_turn : p < old.layout.processes → old.situation p ≡ Stopped → Goes p old new → ⊥
      no_turn real stopped (notes edition real' before after) = let none : None ≡ Some edition = sym (ap noted_in stopped) ∙ before in cc
      no_turn real stopped (stops real' runs now) = runs stopped
      no_turn real stopped (turns none now) = none q l ne (subst (λ (x : Situation). IsMoving x) (sym at) tt)
      no_turn real stopped (nobody past ups) = omega arith

      by_nobody : old.layout.processes ≤ p → Goes p old new → MovesFit new q e
      by_nobody past (nobody k ups) = record {
        alone = λ r k' ne'. elim (cases_eq r p) [
          | inl same ↦ absurd (let x = subst (λ (lay : _). r < lay.processes) m.layout k' in omega arith)
          | inr apart ↦ m.situations r apart ∙ h.alone r (subst (λ (lay : _). r < lay.processes) m.layout k') ne'
        ];
        at = moves_on old new ups e e.stage h.at;
      }
      by_nobody past (notes edition real' before after) = absurd (omega arith)
      by_nobody past (stops real' runs now) = absurd (omega arith)
      by_nobody past (turns none now) = absurd (none q l ne (subst (λ (x : Situation). IsMoving x) (sym at) tt))

  pub layouts_move : IsSound old → (q : ℕ) → q < old.layout.processes → LayoutFits new q (new.situation q)
  layouts_move sound q l = elim (cases_eq q p) [
    | inl eq ↦ subst (λ (x : ℕ). LayoutFits new x (new.situation x)) (sym eq) (own (subst (λ (x : ℕ). x < old.layout.processes) eq l) m.goes m.version)
    | inr ne ↦ subst (λ (s : Situation). LayoutFits new q s) (sym (m.situations q ne)) (other ne m.version)
  ]
    where
      own : p < old.layout.processes → Goes p old new → MovesVersion p old new → LayoutFits new p (new.situation p)
      own real g (inr switch) = switch.mine real
      own real (notes edition real' before after) (inl up) = agrees_noted new p (new.situation p) edition after (agrees_on old new up edition (noted_agrees old p (old.situation p) edition before (sound.layouts p real)))
      own real (stops real' runs now) (inl up) = subst (λ (s : Situation). LayoutFits new p s) (sym now) tt
      own real (turns none now) (inl up) = now real
      own real (nobody past ups) (inl up) = absurd (omega arith)

      other : q ≢ p → MovesVersion p old new → LayoutFits new q (old.situation q)
      other ne (inl up) = others_layout (old.situation q) q l ne refl up sound (sound.layouts q l)
      other ne (inr switch) = subst (λ (s : Situation). LayoutFits new q s) (sym (switch.alone q l ne)) tt

-- the version's word, where no other moves
pub version_word : (p : ℕ) (old new : PlainWorld) → Moves p Version old new → IsSound old → WordFits new Version (new.memory.cached Version) (new.memory.persisted Version)
version_word p old new m sound = let h = sound.words Version in let b = h.behind in let k = h.most in elim m.version [
  | inl up ↦ (let same = up.0 in elim up.1 [ inl kept ↦ record { behind = omega arith; most = omega arith } | inr caught ↦ record { behind = omega arith; most = omega arith } ])
  | inr switch ↦ (let to = switch.to in let same = switch.persisted in record { behind = omega arith; most = omega arith })
]

module _ (p : ℕ) (place : Place) (old new : PlainWorld) (m : Moves p place old new) (same : new.counted ≡ old.counted) where
  pub grows_by : (q : ℕ) (but : Place)
      → ((r : Place) → IsOwnedBy old.memory q r → r ≢ but → CatchesUp (old.memory.cached r) (old.memory.persisted r) (new.memory.cached r) (new.memory.persisted r))
      → ((cell : ℕ) → Mark cell ≢ but → KeepsHold q (old.memory.cached (Mark cell)) (old.memory.persisted (Mark cell)) (new.memory.cached (Mark cell)) (new.memory.persisted (Mark cell)))
      → Grows q but old new
  grows_by q but own hold = record {
    layout = m.layout;
    owned_cached = λ r o ne. (own r o ne).0;
    owned_persisted = λ r o ne. (own r o ne).1;
    heads_cached = λ cell. (each_moved p place old new m (Head cell)).0;
    heads_persisted = λ cell. (each_moved p place old new m (Head cell)).1;
    marks_cached = λ cell. (each_moved p place old new m (Mark cell)).cached;
    marks_persisted = λ cell. (each_moved p place old new m (Mark cell)).persisted;
    holds = hold;
    announces_cached = λ x. (each_moved p place old new m (Announce x)).0;
    announces_persisted = λ x. (each_moved p place old new m (Announce x)).1;
    values = λ cell clean. (
      elim (each_moved p place old new m (Value cell)) [ inl by ↦ absurd (clean_free _ p clean by) | inr up ↦ up.0 ],
      elim (each_moved p place old new m (Kind cell)) [ inl by ↦ absurd (clean_free _ p clean by) | inr up ↦ up.0 ],
    );
    index_cached = λ row part. (each_moved p place old new m (Index row part)).0;
    index_persisted = λ row part. (each_moved p place old new m (Index row part)).1;
    done_cached = λ x part. (each_moved p place old new m (Done x part)).0;
    done_persisted = λ x part. (each_moved p place old new m (Done x part)).1;
    added = [];
    counted = same ∙ sym (append-nil old.counted);
    foreign = All-nil (λ (e : PlainEdit). e.process ≢ q);
  }

  -- for the process itself, all but the word
  pub grows_own : Grows p place old new
  grows_own = grows_by p place (λ r o ne. (m.cached r ne, inl (m.persisted r ne))) (λ cell ne. stays_hold p _ _ _ _ (m.cached (Mark cell) ne) (m.persisted (Mark cell) ne))

  pub rely_other : Bears old new → (q : ℕ) → q ≢ p → Rely q old new
  rely_other b q ne = record {
    bears = b;
    situation = m.situations q ne;
    open_edits = m.pendings q ne;
    buffer = m.buffers q ne;
    grows = λ but. grows_by q but (λ r o apart. owned_catches p place old new m q ne r o) (λ cell apart. (each_moved p place old new m (Mark cell)).holds q ne);
  }

  pub kept_stable : (q n : ℕ) → IsKept old q n → IsKept new q n
  kept_stable q n h = record {
    edit = h.edit;
    process_is = h.process_is;
    number_is = h.number_is;
    safe = safe_stable p place old new grows_own h.edit h.safe;
  }

  -- a word that fits its world fits the next one
  pub word_bears : (r : Place) (c v : ℕ) → ((cell : ℕ) → r ≡ Head cell → KeepsOwing old new cell)
      → ((cell : ℕ) → (r ≡ Value cell) ⊎ (r ≡ Kind cell) → IsApart old cell → (v ≡ c) ⊎ IsApart new cell)
      → ((edition : Edition) (q n part : ℕ) → r ≡ Text edition q n part → Shows new.memory edition → Shows old.memory edition)
      → WordFits old r c v → WordFits new r c v
  word_bears Version c v keeps apart shown h = h
  word_bears (Head cell) c v keeps apart shown h = record {
    last = h.last ∙ ap (λ es. head_after_all (of_cell cell es)) (sym same);
    sides = elim h.sides [
      | inl same ↦ inl same
      | inr b ↦ inr (
          let its : b.last.cell ≡ cell = cell_of-middle cell old.counted b.before b.last [] b.parts in
          let k = keeps cell refl b.last b.issue its b.open_edits b.same b.before b.parts b.owes in
          record {
            before = b.before;
            last = b.last;
            parts = ap (λ es. of_cell cell es) same ∙ b.parts;
            is = b.is;
            issue = b.issue;
            open_edits = k.0;
            same = b.same;
            owes = subst (λ (es : List PlainEdit). Splits new b.last.process (new.situation b.last.process) b.last.cell (head_after_all (of_cell cell es))) (sym same) k.1;
          })
    ];
  }
  word_bears (Mark cell) c v keeps apart shown h = record { behind = h.behind; few = h.few; holder = λ q by. rw m.layout (h.holder q by); persisted_holder = λ q by. rw m.layout (h.persisted_holder q by) }
  word_bears (Value cell) c v keeps apart shown h = elim h [ inl same ↦ inl same | inr a ↦ apart cell (inl refl) a ]
  word_bears (Kind cell) c v keeps apart shown h = elim h [ inl same ↦ inl same | inr a ↦ apart cell (inr refl) a ]
  word_bears (Index row part) c v keeps apart shown h = record {
    sides = h.sides;
    counted = λ e there its refers. h.counted e (rw (sym same) there) its (rw (sym m.layout) refers);
  }
  word_bears (Announce q) c v keeps apart shown h = record {
    sides = h.sides;
    on_cached = λ n small is. kept_stable q n (h.on_cached n small is);
    on_persisted = λ n small is. kept_stable q n (h.on_persisted n small is);
  }
  word_bears (Header q n) c v keeps apart shown h = λ e there i j k. h e (rw (sym same) there) i j k
  word_bears (Text edition q n part) c v keeps apart shown h = λ now e there i j k. h (shown edition q n part refl now) e (rw (sym same) there) i j k
  word_bears (Done q part) c v keeps apart shown h = record {
    sides = h.sides;
    superseded = λ n its o. h.superseded n its (record {
      edit = o.edit;
      process_is = o.process_is;
      number_is = o.number_is;
      before = o.before;
      next = o.next;
      after = o.after;
      parts = ap (λ es. of_cell o.edit.cell es) (sym same) ∙ o.parts;
    });
    told = λ n small its has. kept_stable q n (h.told n small its has);
  }

  -- a step that linearizes nothing
  pub moves_sound : IsSound old → Bears old new → AllStand new → KeepsApart old new → ((cell : ℕ) → Head cell ≢ place → KeepsOwing old new cell)
      → WordFits new place (new.memory.cached place) (new.memory.persisted place)
      → (p < new.layout.processes → CallFits new p (new.situation p))
      → Keeps p old new
  moves_sound s b stand apart keeps here mine = record {
    others = rely_other b;
    sound = record {
      stand = stand;
      words = λ r. elim (place_cases r place) [
        | inl eq ↦ subst (λ (x : Place). WordFits new x (new.memory.cached x) (new.memory.persisted x)) (sym eq) here
        | inr ne ↦ subst (λ (c : ℕ). WordFits new r c (new.memory.persisted r)) (sym (m.cached r ne))
            (subst (λ (v : ℕ). WordFits new r (old.memory.cached r) v) (sym (m.persisted r ne))
            (word_moves r ne))
      ];
      calls = λ q l. elim (cases_eq q p) [
        | inl eq ↦ subst (λ (x : ℕ). CallFits new x (new.situation x)) (sym eq) (mine (rw (sym eq) l))
        | inr ne ↦ rw (m.situations q ne) (call_stable old new q (old.situation q) (rely_other b q ne) (s.layouts q (rw (sym m.layout) l)) (s.calls q (rw (sym m.layout) l)))
      ];
      layouts = λ q l. layouts_move p place old new m s q (rw (sym m.layout) l);
      headers = headers_move p place old new m s.headers;
      of_sheet = rw (same) (λ k d l. let h = s.of_sheet k d l in record { process = rw m.layout h.process; number = h.number; cell = rw m.layout h.cell; text = h.text; short = λ now. h.short (first_shown p place old new m now) });
      increasing = rw same s.increasing;
    };
  }
    where
      parted : (r : Place) → r ≢ place → (cell : ℕ) → (r ≡ Value cell) ⊎ (r ≡ Kind cell) → IsApart old cell → (old.memory.persisted r ≡ old.memory.cached r) ⊎ IsApart new cell
      parted r ne cell is a = elim (apart cell a) [
        | inl still ↦ inr still
        | inr agree ↦ inl (sym (m.persisted r ne) ∙ elim is [
          | inl eq ↦ subst (λ (x : Place). new.memory.persisted x ≡ new.memory.cached x) (sym eq) agree.0
          | inr eq ↦ subst (λ (x : Place). new.memory.persisted x ≡ new.memory.cached x) (sym eq) agree.1
        ] ∙ m.cached r ne)
      ]

      bears_on : (r : Place) → r ≢ place → ((edition : Edition) (q n part : ℕ) → r ≡ Text edition q n part → Shows new.memory edition → Shows old.memory edition) → WordFits new r (old.memory.cached r) (old.memory.persisted r)
      bears_on r ne shown = word_bears r (old.memory.cached r) (old.memory.persisted r) (λ cell is. keeps cell (λ at. ne (is ∙ at))) (parted r ne) shown (s.words r)

      word_moves : (r : Place) → r ≢ place → WordFits new r (old.memory.cached r) (old.memory.persisted r)
      word_moves (Text Second q n part) ne = elim m.version [
        | inl up ↦ bears_on (Text Second q n part) ne (λ edition x y z is now. shown_back old new up edition now)
        | inr switch ↦ (λ now. subst (λ (c : ℕ). RecordFits new q n (suc part) c (old.memory.persisted (Text Second q n part))) (m.cached (Text Second q n part) ne)
            (subst (λ (v : ℕ). RecordFits new q n (suc part) (new.memory.cached (Text Second q n part)) v) (m.persisted (Text Second q n part) ne) (switch.texts q n part)))
      ]
      word_moves (Text First q n part) ne = bears_on (Text First q n part) ne (λ edition x y z is now. let its : First ≡ edition = cc in subst (λ (d : Edition). Shows new.memory d → Shows old.memory d) its (first_shown p place old new m) now)
      word_moves Version ne = bears_on Version ne (λ edition x y z is. cc)
      word_moves (Head cell) ne = bears_on (Head cell) ne (λ edition x y z is. cc)
      word_moves (Mark cell) ne = bears_on (Mark cell) ne (λ edition x y z is. cc)
      word_moves (Value cell) ne = bears_on (Value cell) ne (λ edition x y z is. cc)
      word_moves (Kind cell) ne = bears_on (Kind cell) ne (λ edition x y z is. cc)
      word_moves (Index row part) ne = bears_on (Index row part) ne (λ edition x y z is. cc)
      word_moves (Announce q) ne = bears_on (Announce q) ne (λ edition x y z is. cc)
      word_moves (Header q n) ne = bears_on (Header q n) ne (λ edition x y z is. cc)
      word_moves (Done q part) ne = bears_on (Done q part) ne (λ edition x y z is. cc)
