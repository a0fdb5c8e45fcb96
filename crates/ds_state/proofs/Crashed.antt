-- After a crash each word fits.
use Rattle.std.proofs.Common.{ℕ, List, [], ◌∷◌, ◌++◌, refl, ap, sym, ◌∙◌, subst, arith, le_refl, inl, inr, append_assoc}
use Rattle.std.specs.Prelude.{All, Contains, filter, if◌then◌else◌, true, false}
use Rattle.std.proofs.lemmas.List.Elements.{All-filter, All-contains, All-contains_itself}
use Rattle.ds_words.specs.Memory.{Memory}
use Rattle.ds_layout.specs.declared.place.Place.{Place}
use Rattle.ds_layout.specs.declared.place.Place.TheVariants.{Version, Head, Mark, Value, Kind, Index, Announce, Header, Text, Done}
use Rattle.ds_layout.proofs.OrBits.{IsSubset-same, HasBit-subset}
use Rattle.ds_state.specs.World.{PlainEdit, PlainWorld, of_cell, IsHeadBy}
use Rattle.ds_state.specs.Known.{IsSafe}
use Rattle.ds_state.specs.Crashes.{is_lost, survivors, CrashesTo}
use Rattle.ds_state.specs.WordsFit.{WordFits, IsKept, IsSuperseded}
use Rattle.ds_state.specs.Sound.{IsSound, Increasing, IsOfSheet}
use Rattle.ds_state.proofs.Heads.{Small, small_counted, small_of_cell, head_grows, by_cases}
use Rattle.ds_state.proofs.Crashing.{Leaves}
use Rattle.ds_state.proofs.Losing.{leaves, increasing_filter}
use Rattle.ds_layout.specs.declared.place.Edition.{Edition}
use Rattle.ds_layout.specs.declared.place.Edition.TheVariants.{First}
use Rattle.ds_layout.specs.Places.{edition_of}
use Rattle.ds_state.specs.Editions.{Shows}

subset_of : (m : Memory Place) (es : List PlainEdit) (e : PlainEdit) → Contains (survivors m es) e → Contains es e
unfolding survivors
subset_of m es e h = All-contains (λ (f : PlainEdit). Contains es f) (filter (λ (f : PlainEdit). if is_lost m f then false else true) es) e
    (All-filter (λ (f : PlainEdit). if is_lost m f then false else true) (λ (f : PlainEdit). Contains es f) es (All-contains_itself es)) h

pub survivors_increase : (m : Memory Place) (es : List PlainEdit) → Increasing es → Increasing (survivors m es)
unfolding survivors
survivors_increase m es h = increasing_filter (λ (f : PlainEdit). if is_lost m f then false else true) es h

-- what holds of all edits holds of those that a crash leaves
pub survivors_all : (P : PlainEdit → Type 0) (m : Memory Place) (es : List PlainEdit) → All P es → All P (survivors m es)
unfolding survivors
survivors_all P m es h = All-filter (λ (f : PlainEdit). if is_lost m f then false else true) P es h

module _ (old new : PlainWorld) (sound : IsSound old) (crash : CrashesTo old new) where
  abbrev l : Leaves old new
  l = leaves old new sound crash

  pub was_counted : (e : PlainEdit) → Contains new.counted e → Contains old.counted e
  was_counted e h = subset_of old.memory old.counted e (subst (λ (es : List PlainEdit). Contains es e) crash.counted h)

  -- an edit that no crash takes stays
  pub safe_left : (e : PlainEdit) → IsSafe old e → IsSafe new e
  safe_left e h = record {
    own = h.own;
    head = elim (l.cells e.cell) [
      | inl same ↦ subst (λ (es : List PlainEdit). IsHeadBy es h.own e) (sym same) h.head
      | inr lost ↦ (
          let es : List PlainEdit = of_cell e.cell new.counted in
          let small : Small (es ++ lost.0 ∷ []) = subst (λ (xs : List PlainEdit). Small xs) lost.1 (small_of_cell e.cell old.counted (small_counted old sound.of_sheet)) in
          let grows = head_grows es lost.0 [] small in
          let head = l.heads e.cell in
          let most = h.persisted in
          elim (by_cases es lost.0 h.own e (subst (λ (xs : List PlainEdit). IsHeadBy xs h.own e) lost.1 h.head)) [ inl newest ↦ absurd (omega arith) | inr older ↦ older ])
    ];
    persisted = (let same = crash.memory.persisted (Head e.cell) in let most = h.persisted in omega arith);
  }

  kept_left : (q n : ℕ) → IsKept old q n → IsKept new q n
  kept_left q n h = record { edit = h.edit; process_is = h.process_is; number_is = h.number_is; safe = safe_left h.edit h.safe }

  -- a superseded edit was so
  was_superseded : (q n : ℕ) → IsSuperseded new q n → IsSuperseded old q n
  was_superseded q n o = elim (l.cells o.edit.cell) [
    | inl same ↦ record { edit = o.edit; process_is = o.process_is; number_is = o.number_is; before = o.before; next = o.next; after = o.after; parts = sym same ∙ o.parts }
    | inr lost ↦ record {
      edit = o.edit;
      process_is = o.process_is;
      number_is = o.number_is;
      before = o.before;
      next = o.next;
      after = o.after ++ lost.0 ∷ [];
      parts = lost.1 ∙ ap (λ (xs : List PlainEdit). xs ++ lost.0 ∷ []) o.parts ∙ append_assoc o.before (o.edit ∷ o.next ∷ o.after) (lost.0 ∷ []);
    }
  ]

  -- what a side says after the crash, the persisted side said
  crash_shown : (edition : Edition) → Shows new.memory edition → Shows old.memory edition
  crash_shown edition now = elim now [
    | inl seen ↦ inr (ap edition_of (sym (crash.memory.cached Version)) ∙ seen)
    | inr kept ↦ inr (ap edition_of (sym (crash.memory.persisted Version)) ∙ kept)
  ]

  -- both sides of a word are the persisted one
  word_left : (r : Place) → WordFits new r (old.memory.persisted r) (old.memory.persisted r)
  word_left Version = let h = sound.words Version in let b = h.behind in let k = h.most in record { behind = le_refl _; most = omega arith }
  word_left (Head c) = record { last = l.heads c; sides = inl refl }
  word_left (Mark c) = let h = (sound.words (Mark c)).persisted_holder in let b = (sound.words (Mark c)).behind in let f = (sound.words (Mark c)).few in record { behind = omega arith; few = omega arith; holder = λ q by. rw crash.layout (h q by); persisted_holder = λ q by. rw crash.layout (h q by) }
  word_left (Value c) = inl refl
  word_left (Kind c) = inl refl
  word_left (Index row part) = record {
    sides = IsSubset-same _;
    counted = λ e there its refers. let both = (sound.words (Index row part)).counted e (was_counted e there) its (rw (sym crash.layout) refers) in (both.1, both.1);
  }
  word_left (Announce q) = record {
    sides = le_refl _;
    on_cached = λ n small is. kept_left q n ((sound.words (Announce q)).on_persisted n small is);
    on_persisted = λ n small is. kept_left q n ((sound.words (Announce q)).on_persisted n small is);
  }
  word_left (Header q n) = λ e there i j k. let both = (sound.words (Header q n)) e (was_counted e there) i j k in (both.1, both.1)
  word_left (Text edition q n part) = λ now e there i j k. let both = (sound.words (Text edition q n part)) (crash_shown edition now) e (was_counted e there) i j k in (both.1, both.1)
  word_left (Done q part) = record {
    sides = IsSubset-same _;
    superseded = λ n its o. (sound.words (Done q part)).superseded n its (was_superseded q n o);
    told = λ n small its has. kept_left q n ((sound.words (Done q part)).told n small its (HasBit-subset (old.memory.persisted (Done q part)) (old.memory.cached (Done q part)) n (sound.words (Done q part)).sides has));
  }

  pub crash_words : (r : Place) → WordFits new r (new.memory.cached r) (new.memory.persisted r)
  crash_words r = subst (λ (c : ℕ). WordFits new r c (new.memory.persisted r)) (sym (crash.memory.cached r))
      (subst (λ (v : ℕ). WordFits new r (old.memory.persisted r) v) (sym (crash.memory.persisted r)) (word_left r))

  pub crash_of_sheet : All (λ e. IsOfSheet new e) new.counted
  crash_of_sheet = subst (λ (es : List PlainEdit). All (λ e. IsOfSheet new e) es) (sym crash.counted)
      (survivors_all (λ e. IsOfSheet new e) old.memory old.counted (λ k d lt. let h = sound.of_sheet k d lt in record { process = rw crash.layout h.process; number = h.number; cell = rw crash.layout h.cell; text = h.text; short = λ now. h.short (crash_shown First now) }))

  pub crash_increasing : Increasing new.counted
  crash_increasing = subst (λ (es : List PlainEdit). Increasing es) (sym crash.counted) (survivors_increase old.memory old.counted sound.increasing)
