-- A crash leaves a sound world sound.
use Rattle.std.proofs.Common.{ℕ, ◌≡◌, ◌<◌, ◌≤◌, ◌+◌, ◌==◌, ◌⊎◌, List, [], ◌∷◌, ◌++◌, refl, ap, sym, ◌∙◌, subst, arith, inl, inr, zero, suc, length, Some, None, true, false, get_or}
use Rattle.std.specs.Prelude.{All, Contains, Option, Bool, filter, if◌then◌else◌}
use Rattle.std.proofs.lemmas.List.Elements.{All-contains, All-contains_itself}
use Rattle.std.proofs.lemmas.Bool.{eq-eqb}
use Rattle.std.proofs.lemmas.Bool.Decides.{eqb_tells}
use Rattle.ds_state.proofs.Outcomes.{kept, dropped}
use Rattle.ds_layout.specs.declared.place.TheConstants.{RECORDS}
use Rattle.ds_formula.specs.Limits.{TEXT_MOST}
use Rattle.ds_layout.specs.declared.layout.Layout.{Layout}
use Rattle.ds_layout.specs.declared.place.Place.TheVariants.{Head, Announce, Header}
use Rattle.ds_layout.specs.Announcement.{number_after}
use Rattle.ds_state.specs.Headers.{IsSaid, SaysCell, HasCell}
use Rattle.ds_layout.specs.declared.announcement.Phase.{Phase}
use Rattle.ds_layout.specs.declared.announcement.Phase.TheVariants as phase
use Rattle.ds_layout.specs.Places.{cells_of}
use Rattle.ds_words.specs.Memory.{Memory}
use Rattle.ds_state.specs.Edits.{PlainEditCall, text_parts}
use Rattle.ds_state.specs.World.{PlainEdit, edit_of, PlainIssue, PlainWorld, of_cell, phase_among, is_edit_of, last_announcement, announcement, record_size, record_place, record_word}
use Rattle.ds_state.specs.Known.{IsIn, Standing, outside, inside, safe, Announced, last, pending, ended, Known, known_at, AreBelow, IsSafe, StandsAs, IsRecorded, word_of}
use Rattle.ds_state.specs.KnownWork.{IsAtRest}
use Rattle.ds_state.specs.CallsFit.{CallFits, EditFits, MaySay, rank, IsWritten, IsInDoubt, DoubtFits}
use Rattle.ds_state.specs.Crashes.{is_lost, survivors, CrashesTo}
use Rattle.ds_state.specs.Sound.{IsSound, Increasing}
use Rattle.ds_state.specs.declared.stage.Outcome.TheVariants as outcome
use Rattle.ds_state.specs.declared.stage.Stage.{Stage}
use Rattle.ds_state.specs.declared.stage.Stage.TheVariants as edits
use Rattle.ds_state.specs.declared.situation.Situation.{Situation}
use Rattle.ds_state.specs.declared.situation.Situation.TheVariants.{Idle, Stopped, Editing, Working, Recovering, Showing, Migrating}
use Rattle.ds_state.proofs.Outcomes.{among}
use Rattle.std.proofs.lemmas.Bool.{cases_eq}
use Rattle.ds_state.specs.World.{IsHeadBy, head_after_all}
use Rattle.ds_state.proofs.Heads.{Small, small_counted, small_of_cell, small_before, by_most, parts_cases}
use Rattle.ds_state.proofs.Found.{gave_counts}
use Rattle.ds_state.proofs.Losing.{leaves, last_greater, increasing_cell}
use Rattle.ds_state.proofs.Crashing.{crash_stands}
use Rattle.ds_state.proofs.Crashed.{was_counted, survivors_all, safe_left, crash_words, crash_of_sheet, crash_increasing}
use Rattle.ds_layout.specs.declared.place.Edition.{Edition}
use Rattle.ds_layout.specs.declared.place.Edition.TheVariants.{First}
use Rattle.ds_state.specs.LayoutsFit.{LayoutFits}

-- fewer edits say no more
filter_not : (keep : PlainEdit → Bool) (es : List PlainEdit) (p n : ℕ) → phase_among es p n ≡ phase.NotDone → phase_among (filter keep es) p n ≡ phase.NotDone
filter_not keep [] p n h = refl
filter_not keep (x ∷ es) p n h = by (is_edit_of p n x) (keep x) refl refl (filter_not keep es p n)
  where
    by : (a k : Bool) → is_edit_of p n x ≡ a → keep x ≡ k → (phase_among es p n ≡ phase.NotDone → phase_among (filter keep es) p n ≡ phase.NotDone) → phase_among (filter keep (x ∷ es)) p n ≡ phase.NotDone
    by true k e q again = absurd (let d : phase.Done ≡ phase.NotDone = sym (ap (λ (b : Bool). if b then phase.Done else phase_among es p n) e) ∙ h in cc)
    by false true e q again = rw q (ap (λ (b : Bool). if b then phase.Done else phase_among (filter keep es) p n) e ∙ again (sym (ap (λ (b : Bool). if b then phase.Done else phase_among es p n) e) ∙ h))
    by false false e q again = rw q (again (sym (ap (λ (b : Bool). if b then phase.Done else phase_among es p n) e) ∙ h))

survivors_not : (m : Memory _) (es : List PlainEdit) (p n : ℕ) → phase_among es p n ≡ phase.NotDone → phase_among (survivors m es) p n ≡ phase.NotDone
unfolding survivors
survivors_not m es p n h = filter_not (λ (f : PlainEdit). if is_lost m f then false else true) es p n h

two_phases : (es : List PlainEdit) (p n : ℕ) → (phase_among es p n ≡ phase.Done) ⊎ (phase_among es p n ≡ phase.NotDone)
two_phases [] p n = inr refl
two_phases (x ∷ es) p n = by (is_edit_of p n x) refl (two_phases es p n)
  where
    by : (a : Bool) → is_edit_of p n x ≡ a → (phase_among es p n ≡ phase.Done) ⊎ (phase_among es p n ≡ phase.NotDone) → (phase_among (x ∷ es) p n ≡ phase.Done) ⊎ (phase_among (x ∷ es) p n ≡ phase.NotDone)
    by true e again = inl (ap (λ (b : Bool). if b then phase.Done else phase_among es p n) e)
    by false e again = elim again [
      | inl d ↦ inl (ap (λ (b : Bool). if b then phase.Done else phase_among es p n) e ∙ d)
      | inr d ↦ inr (ap (λ (b : Bool). if b then phase.Done else phase_among es p n) e ∙ d)
    ]

-- what an edit may say, at each of its stages
abbrev pub Said : Known → Type 0
Said k = MaySay k.standing k.before × MaySay k.standing k.now × (rank k.before ≤ rank k.now)

-- at each stage an edit announces, on both sides, what one in doubt may announce, in that order
pub edit_says : (parts refs : ℕ) (s : Stage) → Said (known_at parts refs s)
edit_says parts refs (edits.StoreOutcome outcome.Done) = (tt, tt, omega arith)
edit_says parts refs (edits.StoreOutcome (outcome.Overtaken a b)) = (tt, tt, omega arith)
edit_says parts refs (edits.FlushOutcome outcome.Done) = (tt, tt, omega arith)
edit_says parts refs (edits.FlushOutcome (outcome.Overtaken a b)) = (tt, tt, omega arith)
edit_says parts refs (edits.BackOutcome outcome.Done) = (tt, tt, omega arith)
edit_says parts refs (edits.BackOutcome (outcome.Overtaken a b)) = (tt, tt, omega arith)
edit_says parts refs (edits.Answer outcome.Done) = (tt, tt, omega arith)
edit_says parts refs (edits.Answer (outcome.Overtaken a b)) = (tt, tt, omega arith)
edit_says parts refs _ = (tt, tt, omega arith)

-- once it is announced, the record is written
pub recorded_at : (parts refs : ℕ) (s : Stage) → ((known_at parts refs s).now ≡ last) ⊎ (((known_at parts refs s).stored ≡ parts + 1) × ((known_at parts refs s).back ≡ parts + 1))
recorded_at parts refs edits.StoreHeader = inl refl
recorded_at parts refs (edits.StoreText part) = inl refl
recorded_at parts refs edits.FlushHeader = inl refl
recorded_at parts refs (edits.FlushText part) = inl refl
recorded_at parts refs (edits.BackRecord part) = inl refl
recorded_at parts refs edits.StorePending = inl refl
recorded_at parts refs _ = inr (omega arith, omega arith)

-- of a whole record the header
pub header_of_record : (w : PlainWorld) (edition : Edition) (e : PlainEdit) (size : ℕ) → 0 < size → IsRecorded w edition e size size → IsRecorded w First e 1 1
header_of_record w edition e size some h = record { cached = at; persisted = at'; fewer = omega arith }
  where
    at : (k : ℕ) → k < 1 → w.memory.cached (record_place First e.process e.number k) ≡ record_word e k
    at zero l = h.cached 0 some
    at (suc k) l = absurd (omega arith)

    at' : (k : ℕ) → k < 1 → w.memory.persisted (record_place First e.process e.number k) ≡ record_word e k
    at' zero l = h.persisted 0 some
    at' (suc k) l = absurd (omega arith)

-- an edit whose record is whole on both sides has its header there, whatever it announces
pub written_all : (w : PlainWorld) (edition : Edition) (e : PlainEdit) (a : Announced) → IsRecorded w edition e (record_size e) (record_size e) → IsWritten w e a
written_all w edition e last h = tt
written_all w edition e pending h = header_of_record w edition e (record_size e) (omega arith) h
written_all w edition e (ended how) h = header_of_record w edition e (record_size e) (omega arith) h

-- the side with the lower rank says no more
pub written_before : (w : PlainWorld) (e : PlainEdit) (b a : Announced) → rank b ≤ rank a → IsWritten w e a → IsWritten w e b
written_before w e last a le h = tt
written_before w e pending last le h = absurd (omega arith)
written_before w e pending pending le h = h
written_before w e pending (ended how) le h = h
written_before w e (ended how) last le h = absurd (omega arith)
written_before w e (ended how) pending le h = absurd (omega arith)
written_before w e (ended how) (ended other) le h = h

le_or : (a b : ℕ) → (a ≤ b) ⊎ (b < a)
le_or a b = grind arith

-- an edit of the list is one of its cell
to_cell : (e : PlainEdit) (es : List PlainEdit) → Contains es e → Contains (of_cell e.cell es) e
unfolding of_cell
to_cell e [] (k, l, is) = absurd (omega arith)
to_cell e (x ∷ es) (zero, l, is) =
    let same : x ≡ e = is in
    let its : (x.cell == e.cell) ≡ true = eq-eqb x.cell e.cell (ap (λ (y : PlainEdit). y.cell) same) in
    subst (λ (xs : List PlainEdit). Contains xs e) (sym (kept e.cell x es its)) (zero, omega arith, is)
to_cell e (x ∷ es) (suc k, l, is) =
    let again : Contains (filter (λ (y : PlainEdit). y.cell == e.cell) es) e = to_cell e es (k, omega arith, is) in
    elim (eqb_tells x.cell e.cell) [
      | inl its ↦ subst (λ (xs : List PlainEdit). Contains xs e) (sym (kept e.cell x es its.0)) (suc again.0, (let a = again.1 in omega arith), again.2)
      | inr other ↦ subst (λ (xs : List PlainEdit). Contains xs e) (sym (dropped e.cell x es other.0)) again
    ]

-- two edits of the list with one process and one number are one
pub same_edit : (es : List PlainEdit) (f e : PlainEdit) → Increasing es → Contains es f → Contains es e → f.process ≡ e.process → f.number ≡ e.number → f ≡ e
same_edit [] f e h (k, l, is) there p n = absurd (omega arith)
same_edit (x ∷ xs) f e h (zero, l, is) (zero, l', is') p n = sym is ∙ is'
same_edit (x ∷ xs) f e h (zero, l, is) (suc j, l', is') p n = absurd (
    let at : x ≡ f = is in
    let less : x.number < e.number = All-contains (λ (g : PlainEdit). g.process ≡ x.process → x.number < g.number) xs e h.0 (j, omega arith, is') (sym p ∙ ap (λ (g : PlainEdit). g.process) (sym at)) in
    let same = ap (λ (g : PlainEdit). g.number) at in
    omega arith)
same_edit (x ∷ xs) f e h (suc k, l, is) (zero, l', is') p n = absurd (
    let at : x ≡ e = is' in
    let less : x.number < f.number = All-contains (λ (g : PlainEdit). g.process ≡ x.process → x.number < g.number) xs f h.0 (k, omega arith, is) (p ∙ ap (λ (g : PlainEdit). g.process) (sym at)) in
    let same = ap (λ (g : PlainEdit). g.number) at in
    omega arith)
same_edit (x ∷ xs) f e h (suc k, l, is) (suc j, l', is') p n = same_edit xs f e h.1 (k, omega arith, is) (j, omega arith, is') p n

module _ (old new : PlainWorld) (sound : IsSound old) (crash : CrashesTo old new) where
  counts : (e : PlainEdit) (own : ℕ) → IsIn old e own → Contains old.counted e
  counts e own h = gave_counts old e.cell own e h.head

  below_left : (p n : ℕ) → AreBelow old p n → AreBelow new p n
  below_left p n h = subst (λ (es : List PlainEdit). All (λ f. f.process ≡ p → f.number < n) es) (sym crash.counted) (survivors_all (λ f. f.process ≡ p → f.number < n) old.memory old.counted h)

  -- how a process's last edit ended, where that is announced
  last_left : (p next : ℕ) → next ≤ RECORDS → old.memory.persisted (Announce p) ≡ last_announcement old.counted p next → last_announcement new.counted p next ≡ last_announcement old.counted p next
  last_left p zero few said = refl
  last_left p (suc n) few said = elim (two_phases old.counted p n) [
    | inr not ↦ ap (λ (f : Phase). announcement n f) (ap (λ (es : List PlainEdit). phase_among es p n) crash.counted ∙ survivors_not old.memory old.counted p n not ∙ sym not)
    | inl done ↦ (
        let k = (sound.words (Announce p)).on_persisted n (omega arith) (said ∙ ap (λ (f : Phase). announcement n f) done) in
        let stays : IsSafe new k.edit = safe_left old new sound crash k.edit k.safe in
        let there : phase_among new.counted k.edit.process k.edit.number ≡ phase.Done = among new.counted k.edit.cell stays.head.before k.edit stays.head.after stays.head.parts in
        let here : phase_among new.counted p n ≡ phase.Done = subst (λ (x : ℕ). phase_among new.counted p x ≡ phase.Done) k.number_is (subst (λ (x : ℕ). phase_among new.counted x k.edit.number ≡ phase.Done) k.process_is there) in
        ap (λ (f : Phase). announcement n f) (here ∙ sym done))
  ]

  rest_left : (p next : ℕ) → IsAtRest old p next → IsAtRest new p next
  rest_left p next h = record {
    number = h.number;
    open_edits = crash.open_edits p ∙ h.open_edits;
    below = below_left p next h.below;
    cached = crash.memory.cached (Announce p) ∙ h.persisted ∙ sym (last_left p next h.number h.persisted);
    persisted = crash.memory.persisted (Announce p) ∙ h.persisted ∙ sym (last_left p next h.number h.persisted);
  }

  through : (p next : ℕ) → old.open_edits p ≡ None → IsAtRest old p next → DoubtFits new p (new.open_edits p)
  through p next none h = subst (λ (o : Option PlainIssue). DoubtFits new p o) (sym (crash.open_edits p ∙ none)) (record { next = next; rest = rest_left p next h })

  -- an edit whose head is not persisted is gone
  gone : (e : PlainEdit) (own : ℕ) → IsIn old e own → old.memory.persisted (Head e.cell) < own → Contains new.counted e → ⊥
  gone e own h less there =
      let es : List PlainEdit = of_cell e.cell new.counted in
      let all : List PlainEdit = of_cell e.cell old.counted in
      let small : Small all = small_of_cell e.cell old.counted (small_counted old sound.of_sheet) in
      let heads = (leaves old new sound crash).heads e.cell in
      elim ((leaves old new sound crash).cells e.cell) [
        | inl same ↦ (let most = by_most all own e small h.head in let eq = ap head_after_all same in omega arith)
        | inr lost ↦ (
            let small' : Small (es ++ lost.0 ∷ []) = subst (λ (xs : List PlainEdit). Small xs) lost.1 small in
            elim (parts_cases es lost.0 h.head.before e h.head.after (sym lost.1 ∙ h.head.parts)) [
              | inr rest ↦ (
                  let by : IsHeadBy es own e = record { before = h.head.before; after = rest.0; parts = rest.1; is = h.head.is } in
                  let most = by_most es own e (small_before es (lost.0 ∷ []) small') by in
                  omega arith)
              | inl at ↦ (
                  let inside : Contains es e = to_cell e new.counted there in
                  let less' = last_greater es lost.0 e (subst (λ (xs : List PlainEdit). Increasing xs) lost.1 (increasing_cell e.cell old.counted sound.increasing)) inside (ap (λ (f : PlainEdit). f.process) (sym at.1)) in
                  let same = ap (λ (f : PlainEdit). f.number) at.1 in
                  omega arith)
            ])
      ]

  in_or_out : (e : PlainEdit) (own : ℕ) → IsIn old e own → (t : Standing) × StandsAs new e t × MaySay t pending
  in_or_out e own h = elim (le_or own (old.memory.persisted (Head e.cell))) [
    | inl most ↦ (safe, record { below = below_left e.process (e.number + 1) h.below; safe = safe_left old new sound crash e (record { own = own; head = h.head; persisted = most }) }, tt)
    | inr less ↦ (
      outside,
      (λ k d l.
          λ same. (
          let f : PlainEdit = get_or new.counted k d in
          let most = below_left e.process (e.number + 1) h.below k d l same in
          elim (cases_eq f.number e.number) [
            | inr ne ↦ omega arith
            | inl eq ↦ absurd (
                let there : Contains new.counted f = All-contains_itself new.counted k d l in
                let is : f ≡ e = same_edit old.counted f e sound.increasing (was_counted old new sound crash f there) (counts e own h) same eq in
                gone e own h less (subst (λ (x : PlainEdit). Contains new.counted x) is there))
          ])),
      tt,
    )
  ]

  -- an edit in doubt: what it had is persisted, or gone
  standing_left : (e : PlainEdit) (s : Standing) (a : Announced) → MaySay s a → StandsAs old e s → (t : Standing) × StandsAs new e t × MaySay t a
  standing_left e outside a said h = (outside, below_left e.process e.number h, said)
  standing_left e safe a said h = (safe, record { below = below_left e.process (e.number + 1) h.below; safe = safe_left old new sound crash e h.safe }, said)
  standing_left e (inside own) pending said h = in_or_out e own h
  standing_left e (inside own) last said h = absurd said
  standing_left e (inside own) (ended how) said h = absurd said

  word_left : (e : PlainEdit) (s : Standing) (a : Announced) → MaySay s a → StandsAs old e s → e.number < RECORDS → old.memory.persisted (Announce e.process) ≡ word_of old e a → old.memory.persisted (Announce e.process) ≡ word_of new e a
  word_left e s last said h few is = is ∙ sym (last_left e.process e.number (omega arith) is)
  word_left e s pending said h few is = is
  word_left e s (ended how) said h few is = is

  written_left : (e : PlainEdit) (a : Announced) → IsWritten old e a → IsWritten new e a
  written_left e last h = tt
  written_left e pending h = record { cached = λ k l. crash.memory.cached (record_place First e.process e.number k) ∙ h.persisted k l; persisted = λ k l. crash.memory.persisted (record_place First e.process e.number k) ∙ h.persisted k l; fewer = h.fewer }
  written_left e (ended how) h = record { cached = λ k l. crash.memory.cached (record_place First e.process e.number k) ∙ h.persisted k l; persisted = λ k l. crash.memory.persisted (record_place First e.process e.number k) ∙ h.persisted k l; fewer = h.fewer }

  in_doubt : (p : ℕ) (issue : PlainIssue) (s : Standing) (a : Announced) → issue.edit.process ≡ p → issue.edit.number < RECORDS → issue.edit.cell < cells_of old.layout → length issue.edit.text ≤ TEXT_MOST
      → StandsAs old issue.edit s → MaySay s a → old.memory.persisted (Announce p) ≡ word_of old issue.edit a → IsWritten old issue.edit a → IsInDoubt new p issue
  in_doubt p issue s a mine number cell text stands said is written =
      let e : PlainEdit = issue.edit in
      let t : (t : Standing) × StandsAs new e t × MaySay t a = standing_left e s a said stands in
      let own : old.memory.persisted (Announce e.process) ≡ word_of old e a = ap (λ (q : ℕ). old.memory.persisted (Announce q)) mine ∙ is in
      let now : old.memory.persisted (Announce p) ≡ word_of new e a = ap (λ (q : ℕ). old.memory.persisted (Announce q)) (sym mine) ∙ word_left e s a said stands number own in
      record {
        mine = mine;
        number = number;
        cell = rw crash.layout cell;
        text = text;
        standing = t.0;
        stands = t.1;
        before = a;
        now = a;
        cached = crash.memory.cached (Announce p) ∙ now;
        persisted = crash.memory.persisted (Announce p) ∙ now;
        said = t.2;
        said_before = t.2;
        order = omega arith;
        written = written_left e a written;
      }

  module _ (p : ℕ) (e : PlainEditCall) (h : EditFits old p e) where
    abbrev E : PlainEdit
    E = edit_of e

    abbrev known : Known
    known = known_at (text_parts e.text) (length e.refs) e.stage

    says : Said known
    says = edit_says (text_parts e.text) (length e.refs) e.stage

    whole : (known.stored ≡ text_parts e.text + 1) × (known.back ≡ text_parts e.text + 1) → IsRecorded old e.edition E (record_size E) (record_size E)
    whole is = subst (λ (x : ℕ). IsRecorded old e.edition E x (record_size E)) is.0 (subst (λ (x : ℕ). IsRecorded old e.edition E known.stored x) is.1 h.knows.recorded)

    written : IsWritten old E known.now
    written = elim (recorded_at (text_parts e.text) (length e.refs) e.stage) [
      | inl none ↦ subst (λ (a : Announced). IsWritten old E a) (sym none) tt
      | inr is ↦ written_all old e.edition E known.now (whole is)
    ]

    make : (a : Announced) → MaySay known.standing a → old.memory.persisted (Announce E.process) ≡ word_of old E a → IsWritten old E a → IsInDoubt new p (record { edit = E; since = h.since })
    make a said is w = in_doubt p (record { edit = E; since = h.since }) known.standing a h.mine h.is.number (rw h.sheet.cells h.is.cell) h.is.text.short h.knows.standing said (ap (λ (q : ℕ). old.memory.persisted (Announce q)) (sym h.mine) ∙ is) w

    editing_left : DoubtFits new p (new.open_edits p)
    editing_left = subst (λ (x : Option PlainIssue). DoubtFits new p x) (sym (crash.open_edits p ∙ h.open_edits)) (elim h.knows.announced.persisted [
      | inl b ↦ make known.before says.0 b (written_before old E known.before known.now says.2 written)
      | inr n ↦ make known.now says.1 n written
    ])

  doubt_left : (p : ℕ) (o : Option PlainIssue) → old.open_edits p ≡ o → DoubtFits old p o → DoubtFits new p (new.open_edits p)
  doubt_left p None is k = through p k.next is k.rest
  doubt_left p (Some issue) is k = subst (λ (x : Option PlainIssue). DoubtFits new p x) (sym (crash.open_edits p ∙ is))
      (in_doubt p issue k.standing k.before k.mine k.number k.cell k.text k.stands k.said_before k.persisted (written_before old issue.edit k.before k.now k.order k.written))

  stopped_left : (p : ℕ) (s : Situation) → CallFits old p s → DoubtFits new p (new.open_edits p)
  stopped_left p (Idle next) h = through p next.number h.open_edits (record { number = h.number; open_edits = h.open_edits; below = h.below; cached = h.cached; persisted = h.persisted })
  stopped_left p Stopped h = doubt_left p (old.open_edits p) refl h.doubt
  stopped_left p (Editing e) h = editing_left p e h
  stopped_left p (Working e) h = through p e.next (ap old.open_edits (sym h.mine) ∙ h.rest.open_edits) (subst (λ (q : ℕ). IsAtRest old q e.next) h.mine h.rest)
  stopped_left p (Recovering e) h = doubt_left p (old.open_edits p) refl h.doubt
  stopped_left p (Showing e) h = through p e.next (ap old.open_edits (sym h.1.mine) ∙ h.1.rest.open_edits) (subst (λ (q : ℕ). IsAtRest old q e.next) h.1.mine h.1.rest)
  stopped_left p (Migrating e) h = doubt_left p (old.open_edits p) refl h.doubt

  -- both sides of a header are the persisted one, which said that cell
  headers_left : (q n : ℕ) → IsSaid new.memory q n → HasCell new q n
  headers_left q n said =
      let before : IsSaid old.memory q n = elim said [
        | inl now ↦ inr (ap number_after (sym (crash.memory.cached (Announce q))) ∙ now)
        | inr now ↦ inr (ap number_after (sym (crash.memory.persisted (Announce q))) ∙ now)
      ] in
      let h = sound.headers q n before in
      let on : (word : ℕ) → word ≡ old.memory.persisted (Header q n) → SaysCell new.layout h.cell word = λ word same. subst (λ (l : Layout). SaysCell l h.cell word) (sym crash.layout) (subst (λ x. SaysCell old.layout h.cell x) (sym same) h.persisted) in
      record { cell = h.cell; cached = on _ (crash.memory.cached (Header q n)); persisted = on _ (crash.memory.persisted (Header q n)) }

  pub crash_sound : IsSound new
  crash_sound = record {
    words = crash_words old new sound crash;
    calls = λ p l. subst (λ (s : Situation). CallFits new p s) (sym (crash.situation p (rw (sym crash.layout) l))) (record {
      buffer = crash.memory.buffer p;
      doubt = stopped_left p (old.situation p) (sound.calls p (rw (sym crash.layout) l));
    });
    stand = crash_stands old new sound crash (leaves old new sound crash);
    of_sheet = crash_of_sheet old new sound crash;
    layouts = λ p l. subst (λ (s : Situation). LayoutFits new p s) (sym (crash.situation p (rw (sym crash.layout) l))) tt;
    headers = headers_left;
    increasing = crash_increasing old new sound crash;
  }
