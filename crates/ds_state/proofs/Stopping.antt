-- A stop keeps a world sound, and what the others rely on.
use Rattle.std.proofs.Common.{ℕ, ◌≡◌, ◌<◌, ◌≤◌, List, [], refl, ap, sym, ◌∙◌, subst, arith, inl, inr, Some, None, length}
use Rattle.std.specs.Prelude.{Contains, Option}
use Rattle.std.proofs.lemmas.Bool.{cases_eq}
use Rattle.ds_words.specs.declared.access.BufferEntry.{BufferEntry}
use Rattle.ds_layout.specs.declared.place.Place.{Place}
use Rattle.ds_layout.specs.declared.place.Place.TheVariants.{Version, Mark, Announce}
use Rattle.ds_state.specs.Edits.{PlainEditCall, text_parts}
use Rattle.ds_state.specs.World.{PlainEdit, edit_of, PlainIssue, PlainWorld, of_cell, head_after_all, record_size}
use Rattle.ds_state.specs.Known.{Announced, Known, known_at, IsRecorded, word_of}
use Rattle.ds_state.specs.Owing.{entry, IsHeld, Owes, Parts, IsPending, Excuses, Splits}
use Rattle.ds_state.specs.KnownWork.{IsAtRest}
use Rattle.ds_state.specs.CallsFit.{CallFits, EditFits, MaySay, rank, IsWritten, IsInDoubt, DoubtFits}
use Rattle.ds_state.specs.Crashes.{StopsIn}
use Rattle.ds_state.specs.Rely.{Grows, Keeps}
use Rattle.ds_state.specs.Sound.{IsSound}
use Rattle.ds_state.specs.declared.situation.Situation.{Situation}
use Rattle.ds_state.specs.declared.situation.Situation.TheVariants.{Idle, Stopped, Editing, Working, Recovering, Showing, Migrating}
use Rattle.ds_state.proofs.Lasting.{below_stable, last_stable}
use Rattle.ds_state.proofs.Stable.{standing_stable, word_stable, recorded_stable, record_no_version, written_stable}
use Rattle.ds_state.proofs.Frames.{Moves, stops, version_word, KeepsOwing, KeepsApart, grows_own, moves_sound}
use Rattle.ds_state.proofs.Bearing.{Mine, MyMarks, bears, all_stand, no_new_marks, text_same, splits_excuse, splits_last, pends_last, marks_grow, apart_lasts}
use Rattle.ds_state.proofs.Buffers.{buffered}
use Rattle.ds_state.proofs.Crashing.{pends_while}
use Rattle.ds_state.proofs.CrashSound.{Said, edit_says, recorded_at, written_all}
use Rattle.ds_state.specs.Editions.{Agrees}
use Rattle.ds_state.specs.LayoutsFit.{LayoutFits}

module _ (p : ℕ) (old new : PlainWorld) (sound : IsSound old) (real : p < old.layout.processes) (stop : StopsIn p old new) where
  moves : Moves p Version old new
  moves = record {
    layout = stop.layout;
    cached = λ r ne. stop.memory.cached r;
    persisted = λ r ne. stop.memory.persisted r;
    here = tt;
    buffers = stop.memory.others;
    situations = stop.others;
    pendings = λ q ne. stop.open_edits q;
    goes = stops real stop.runs stop.situation;
    version = inl (stop.memory.cached Version, inl (stop.memory.persisted Version));
  }

  fits : CallFits old p (old.situation p)
  fits = sound.calls p real

  pends : (c : ℕ) → IsPending old p c → IsPending new p c
  pends c k = record { issue = k.issue; issued = stop.open_edits p ∙ k.issued; cell = k.cell; cached = stop.memory.cached (Announce p) ∙ k.cached; persisted = stop.memory.persisted (Announce p) ∙ k.persisted }

  held : (r : ℕ) → IsHeld old.memory p r → IsHeld new.memory p r
  held r h =
      let a = stop.memory.cached (Mark r) in
      let b = stop.memory.persisted (Mark r) in
      let by = h.by in
      let same = h.same in
      record { by = omega arith; same = omega arith }

  mine : Mine p Version old new moves
  mine = record {
    owes = λ r c x bit matters h o. record { holder = p; held = held r h; still = subst (λ (s : Situation). Owes new.memory p s r c x) (sym stop.situation) tt };
    excuses = λ l c x matters o. record { process = p; inside = rw stop.layout real; still = subst (λ (s : Situation). Excuses new p s c x) (sym stop.situation) (pends c (pends_while old p (old.situation p) c x fits o)) };
    stored = λ r at. absurd (elim at [ inl is ↦ cc | inr is ↦ cc ]);
    holds = λ r at. absurd (elim at [ inl is ↦ cc | inr is ↦ cc ]);
    cached_heads = λ c at. cc;
    persisted_heads = λ c at. cc;
  }

  marks : MyMarks p Version old new moves
  marks = no_new_marks p Version old new moves (λ c is. cc) (λ c x q h. elim (cases_eq q p) [
    | inr ne ↦ subst (λ (xs : List (BufferEntry Place)). Contains xs (entry (Mark c) x)) (stop.memory.others q ne) h
    | inl eq ↦ absurd (nothing c x (subst (λ (xs : List (BufferEntry Place)). Contains xs (entry (Mark c) x)) (ap new.memory.buffer eq ∙ stop.memory.mine) h))
  ])
    where
      nothing : (c x : ℕ) → Contains [] (entry (Mark c) x) → ⊥
      nothing c x (k, l, is) = omega arith

  apart : KeepsApart old new
  apart cell a = inl (elim (cases_eq a.holder p) [
    | inr ne ↦ apart_lasts p Version old new moves cell a ne
    | inl eq ↦ record { holder = p; held = held cell (subst (λ (q : ℕ). IsHeld old.memory q cell) eq a.held); still = subst (λ (s : Situation). Parts s cell) (sym stop.situation) tt }
  ])

  keeps : (cell : ℕ) → KeepsOwing old new cell
  keeps cell f issue its is same before last_of owes = (
    stop.open_edits f.process ∙ is,
    elim (cases_eq f.process p) [
      | inl eq ↦ (
          let was : Splits old p (old.situation p) f.cell (head_after_all (of_cell cell old.counted)) = subst (λ (q : ℕ). Splits old q (old.situation q) f.cell (head_after_all (of_cell cell old.counted))) eq owes in
          let now : Splits new p (new.situation p) f.cell (head_after_all (of_cell cell old.counted)) =
          subst (λ (s : Situation). Splits new p s f.cell (head_after_all (of_cell cell old.counted))) (sym stop.situation)
          (pends f.cell (pends_while old p (old.situation p) f.cell 0 fits (splits_excuse old p (old.situation p) f.cell _ 0 was))) in
          subst (λ (q : ℕ). Splits new q (new.situation q) f.cell (head_after_all (of_cell cell old.counted))) (sym eq) now)
      | inr ne ↦ subst (λ (s : Situation). Splits new f.process s f.cell (head_after_all (of_cell cell old.counted))) (sym (stop.others f.process ne))
          (splits_last old new f.process (λ c. marks_grow p Version old new moves c) (stop.memory.others f.process ne) (λ c k. pends_last p Version old new moves f.process c ne k) (old.situation f.process) f.cell _ owes)
    ],
  )

  grows : Grows p Version old new
  grows = grows_own p Version old new moves stop.counted

  rest : (next : ℕ) → IsAtRest old p next → IsAtRest new p next
  rest next h = record {
    number = h.number;
    open_edits = stop.open_edits p ∙ h.open_edits;
    below = below_stable p Version old new grows next h.below;
    cached = stop.memory.cached (Announce p) ∙ h.cached ∙ sym (last_stable p Version old new grows next);
    persisted = stop.memory.persisted (Announce p) ∙ h.persisted ∙ sym (last_stable p Version old new grows next);
  }

  through : (next : ℕ) → IsAtRest old p next → DoubtFits new p (new.open_edits p)
  through next h = subst (λ (o : Option PlainIssue). DoubtFits new p o) (sym (stop.open_edits p ∙ h.open_edits)) (record { next = next; rest = rest next h })

  module _ (e : PlainEditCall) (h : EditFits old p e) (noted : Agrees old.memory e.edition) where
    abbrev E : PlainEdit
    E = edit_of e

    abbrev known : Known
    known = known_at (text_parts e.text) (length e.refs) e.stage

    says : Said known
    says = edit_says (text_parts e.text) (length e.refs) e.stage

    g : Grows e.process Version old new
    g = subst (λ (q : ℕ). Grows q Version old new) (sym h.mine) grows

    written : IsWritten new E known.now
    written = elim (recorded_at (text_parts e.text) (length e.refs) e.stage) [
      | inl none ↦ subst (λ (a : Announced). IsWritten new E a) (sym none) tt
      | inr is ↦ written_all new e.edition E known.now (recorded_stable Version old new E g e.edition noted.cached (record_no_version e.edition E.process E.number) (record_size E) (record_size E)
          (subst (λ (x : ℕ). IsRecorded old e.edition E x (record_size E)) is.0 (subst (λ (x : ℕ). IsRecorded old e.edition E known.stored x) is.1 h.knows.recorded)))
    ]

    doubt : (b : Announced) → MaySay known.standing b → rank b ≤ rank known.now → old.memory.persisted (Announce E.process) ≡ word_of old E b → IsInDoubt new p (record { edit = E; since = h.since })
    doubt b said le is = record {
      mine = h.mine;
      number = h.is.number;
      cell = rw (stop.layout, h.sheet.cells) h.is.cell;
      text = h.is.text.short;
      standing = known.standing;
      stands = standing_stable Version old new E g known.standing h.knows.standing;
      before = b;
      now = known.now;
      cached = stop.memory.cached (Announce p) ∙ ap (λ (q : ℕ). old.memory.cached (Announce q)) (sym h.mine) ∙ h.knows.announced.cached ∙ sym (word_stable Version old new E g known.now);
      persisted = stop.memory.persisted (Announce p) ∙ ap (λ (q : ℕ). old.memory.persisted (Announce q)) (sym h.mine) ∙ is ∙ sym (word_stable Version old new E g b);
      said = says.1;
      said_before = said;
      order = le;
      written = written;
    }

    editing : DoubtFits new p (new.open_edits p)
    editing = subst (λ (o : Option PlainIssue). DoubtFits new p o) (sym (stop.open_edits p ∙ h.open_edits)) (elim h.knows.announced.persisted [
      | inl b ↦ doubt known.before says.0 says.2 b
      | inr n ↦ doubt known.now says.1 (omega arith) n
    ])

  recovering : (o : Option PlainIssue) → old.open_edits p ≡ o → DoubtFits old p o → DoubtFits new p (new.open_edits p)
  recovering None is k = through k.next k.rest
  recovering (Some issue) is k = subst (λ (o : Option PlainIssue). DoubtFits new p o) (sym (stop.open_edits p ∙ is)) (
      let f : PlainEdit = issue.edit in
      let g : Grows f.process Version old new = subst (λ (q : ℕ). Grows q Version old new) (sym k.mine) grows in
      record {
        mine = k.mine;
        number = k.number;
        cell = rw stop.layout k.cell;
        text = k.text;
        standing = k.standing;
        stands = standing_stable Version old new f g k.standing k.stands;
        before = k.before;
        now = k.now;
        cached = stop.memory.cached (Announce p) ∙ k.cached ∙ sym (word_stable Version old new f g k.now);
        persisted = stop.memory.persisted (Announce p) ∙ k.persisted ∙ sym (word_stable Version old new f g k.before);
        said = k.said;
        said_before = k.said_before;
        order = k.order;
        written = written_stable Version old new f g (λ same. cc) k.now k.written;
      })

  left : (s : Situation) → old.situation p ≡ s → LayoutFits old p s → CallFits old p s → DoubtFits new p (new.open_edits p)
  left (Idle next) at lay h = through next.number (record { number = h.number; open_edits = h.open_edits; below = h.below; cached = h.cached; persisted = h.persisted })
  left Stopped at lay h = absurd (stop.runs at)
  left (Editing e) at lay h = editing e h lay
  left (Working e) at lay h = through e.next (subst (λ (q : ℕ). IsAtRest old q e.next) h.mine h.rest)
  left (Recovering e) at lay h = recovering (old.open_edits p) refl h.doubt
  left (Migrating e) at lay h = recovering (old.open_edits p) refl h.doubt
  left (Showing e) at lay h = through e.next (subst (λ (q : ℕ). IsAtRest old q e.next) h.1.mine h.1.rest)

  pub stop_keeps : Keeps p old new
  stop_keeps = moves_sound p Version old new moves stop.counted sound (bears p Version old new moves sound mine)
      (all_stand p Version old new moves sound (buffered old sound) mine (text_same old new stop.layout stop.counted) marks) apart (λ cell ne. keeps cell) (version_word p old new moves sound)
      (λ l. subst (λ (s : Situation). CallFits new p s) (sym stop.situation) (record { buffer = stop.memory.mine; doubt = left (old.situation p) refl (sound.layouts p real) fits }))
