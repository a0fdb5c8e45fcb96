-- Each kind of access keeps a world sound.
use Rattle.std.proofs.Common.{ℕ, ◌≡◌, ◌≢◌, ◌<◌, ◌⊎◌, List, refl, ap, sym, ◌∙◌, subst, arith, inl, inr}
use Rattle.ds_words.specs.declared.access.Class.{Class}
use Rattle.ds_words.specs.declared.access.BufferEntry.{BufferEntry}
use Rattle.ds_words.specs.Memory.{SameMemory, StoresAt, FlushesAt, WritesBack, EvictsAt, newer}
use Rattle.ds_layout.specs.declared.layout.Layout.{Layout}
use Rattle.ds_layout.specs.Places.{class_of}
use Rattle.ds_layout.specs.declared.place.Place.{Place}
use Rattle.ds_layout.specs.declared.place.Place.TheVariants.{Version, Head, Mark, Value, Kind, Announce}
use Rattle.ds_layout.proofs.PlaceCases.{place_cases}
use Rattle.std.specs.Prelude.{Contains}
use Rattle.ds_state.specs.World.{PlainWorld, of_cell, head_after_all}
use Rattle.ds_state.specs.Owing.{entry}
use Rattle.ds_state.specs.CallsFit.{CallFits}
use Rattle.ds_state.specs.WordsFit.{WordFits}
use Rattle.ds_state.specs.Sound.{IsSound}
use Rattle.ds_state.specs.Events.{Evicts}
use Rattle.ds_state.specs.Owing.{IsPending, IsExcused, Splits}
use Rattle.ds_layout.specs.Mark.{IsHeldBy}
use Rattle.ds_state.specs.declared.situation.Situation.{Situation}
use Rattle.ds_state.specs.Standing.{AllStand}
use Rattle.ds_state.specs.Rely.{IsOwnedBy, KeepsHold, Grows, Bears, Keeps, Rely}
use Rattle.ds_state.proofs.Heads.{small_counted}
use Rattle.ds_state.proofs.Bearing.{Buffered, Mine, MyMarks, bears, all_stand, apart_lasts, excused_lasts, on_its_way_excuses, backed_marks, no_new_marks, text_same, splits_last, marks_grow}
use Rattle.ds_state.proofs.Frames.{CatchesUp, MovesWord, Goes, nobody, version_word, shown_back, Moves, stays_hold, KeepsApart, KeepsOwing, grows_by, word_bears, moves_sound}
use Rattle.ds_state.proofs.Sides.{IsBetween, cached_between, between_moves, between_fits}

-- the process's turn, but for what its access does: no edit is linearized, and the others do nothing
pub record Turn (p : ℕ) (old new : PlainWorld) : Type 0 where
  pub layout : new.layout ≡ old.layout
  pub counted : new.counted ≡ old.counted
  pub situations : (q : ℕ) → q ≢ p → new.situation q ≡ old.situation q
  pub pendings : (q : ℕ) → q ≢ p → new.open_edits q ≡ old.open_edits q
  pub goes : Goes p old new

module _ (p : ℕ) (old new : PlainWorld) (t : Turn p old new) where
  pub same_moves : SameMemory old.memory new.memory → Moves p Version old new
  same_moves m = record {
    layout = t.layout;
    cached = λ r ne. m.cached r;
    persisted = λ r ne. m.persisted r;
    here = tt;
    buffers = λ q ne. m.buffer q;
    situations = t.situations;
    pendings = t.pendings;
    goes = t.goes;
    version = inl (m.cached Version, inl (m.persisted Version));
  }

  pub flush_moves : (place : Place) (class : Class) → FlushesAt p place class old.memory new.memory → Moves p Version old new
  flush_moves place class m = record {
    layout = t.layout;
    cached = λ r ne. m.cached r;
    persisted = λ r ne. m.persisted r;
    here = tt;
    buffers = m.others;
    situations = t.situations;
    pendings = t.pendings;
    goes = t.goes;
    version = inl (m.cached Version, inl (m.persisted Version));
  }

  pub store_moves : (place : Place) (value : ℕ) → Version ≢ place → MovesWord old p place (old.memory.cached place) (old.memory.persisted place) value (old.memory.persisted place)
      → StoresAt place value old.memory new.memory → Moves p place old new
  store_moves place value apart moves m = record {
    layout = t.layout;
    cached = m.elsewhere;
    persisted = λ r ne. m.persisted r;
    here = subst (λ (c : ℕ). MovesWord old p place (old.memory.cached place) (old.memory.persisted place) c (new.memory.persisted place)) (sym m.there)
        (subst (λ (v : ℕ). MovesWord old p place (old.memory.cached place) (old.memory.persisted place) value v) (sym (m.persisted place)) moves);
    buffers = λ q ne. m.buffer q;
    situations = t.situations;
    pendings = t.pendings;
    goes = t.goes;
    version = inl (m.elsewhere Version apart, inl (m.persisted Version));
  }

  -- the persisted side alone
  pub record Backs (place : Place) (value : ℕ) : Type 0 where
    pub cached : (r : Place) → new.memory.cached r ≡ old.memory.cached r
    pub there : new.memory.persisted place ≡ value
    pub elsewhere : (r : Place) → r ≢ place → new.memory.persisted r ≡ old.memory.persisted r
    pub buffers : (q : ℕ) → q ≢ p → new.memory.buffer q ≡ old.memory.buffer q

  pub written_backs : (place : Place) (value : ℕ) (rest : List (BufferEntry Place)) → WritesBack p (entry place value) rest old.memory new.memory
      → Backs place (newer (class_of place) (old.memory.persisted place) value)
  written_backs place value rest m = record { cached = m.cached; there = m.there; elsewhere = m.elsewhere; buffers = m.others }

  pub evicted_backs : (place : Place) → EvictsAt place old.memory new.memory → Backs place (old.memory.cached place)
  evicted_backs place m = record { cached = m.cached; there = m.there; elsewhere = m.elsewhere; buffers = λ q ne. m.buffer q }

  module _ (s : IsSound old) (place : Place) (value : ℕ) (b : Backs place value)
      (between : IsBetween old.layout place (old.memory.cached place) (old.memory.persisted place) value) where
    pub version_back : CatchesUp (old.memory.cached Version) (old.memory.persisted Version) (new.memory.cached Version) (new.memory.persisted Version)
    version_back = (
      b.cached Version,
      elim (place_cases Version place) [
        | inl eq ↦ by_between place eq between b.there
        | inr ne ↦ inl (b.elsewhere Version ne)
      ],
    )
      where
        by_between : (r : Place) → Version ≡ r → IsBetween old.layout r (old.memory.cached r) (old.memory.persisted r) value → new.memory.persisted r ≡ value
            → (new.memory.persisted Version ≡ old.memory.persisted Version) ⊎ (new.memory.persisted Version ≡ old.memory.cached Version)
        by_between Version eq bt there = elim bt [ inl same ↦ inl (there ∙ same) | inr now ↦ inr (there ∙ now) ]
        by_between r eq bt there = absurd (cc)

    pub back_moves : Moves p place old new
    back_moves = record {
      layout = t.layout;
      cached = λ r ne. b.cached r;
      persisted = b.elsewhere;
      here = subst (λ (c : ℕ). MovesWord old p place (old.memory.cached place) (old.memory.persisted place) c (new.memory.persisted place)) (sym (b.cached place))
          (subst (λ (v : ℕ). MovesWord old p place (old.memory.cached place) (old.memory.persisted place) (old.memory.cached place) v) (sym b.there)
          (between_moves old (small_counted old s.of_sheet) old p place (old.memory.cached place) (old.memory.persisted place) value (s.words place) between));
      buffers = b.buffers;
      situations = t.situations;
      pendings = t.pendings;
      goes = t.goes;
      version = inl version_back;
    }

    -- p's own words, the word itself among them, catch up at most
    pub back_grows : (IsOwnedBy old.memory p place → CatchesUp (old.memory.cached place) (old.memory.persisted place) (new.memory.cached place) (new.memory.persisted place)) → ((cell : ℕ) → Mark cell ≡ place → KeepsHold p (old.memory.cached (Mark cell)) (old.memory.persisted (Mark cell)) (new.memory.cached (Mark cell)) (new.memory.persisted (Mark cell))) → Grows p Version old new
    back_grows caught hold = grows_by p place old new back_moves t.counted p Version (λ r o ne. elim (place_cases r place) [
      | inl eq ↦ subst (λ (x : Place). CatchesUp (old.memory.cached x) (old.memory.persisted x) (new.memory.cached x) (new.memory.persisted x)) (sym eq) (caught (subst (λ (x : Place). IsOwnedBy old.memory p x) eq o))
      | inr apart ↦ (b.cached r, inl (b.elsewhere r apart))
    ]) (λ cell ne. elim (place_cases (Mark cell) place) [ inl at ↦ hold cell at | inr apart ↦ stays_hold p _ _ _ _ (b.cached (Mark cell)) (b.elsewhere (Mark cell) apart) ])

    word_back : ((cell : ℕ) → KeepsOwing old new cell) → KeepsApart old new → (r : Place) → r ≡ place → IsBetween new.layout r (old.memory.cached r) (old.memory.persisted r) value → WordFits new r (old.memory.cached r) value
    word_back keeps apart (Value cell) at bt = elim (s.words (Value cell)) [
      | inl same ↦ inl (elim bt [ inl v ↦ v ∙ same | inr c ↦ c ])
      | inr a ↦ elim (apart cell a) [
        | inl still ↦ inr still
        | inr agree ↦ inl (sym (subst (λ (x : Place). new.memory.persisted x ≡ value) (sym at) b.there) ∙ agree.0 ∙ b.cached (Value cell))
      ]
    ]
    word_back keeps apart (Kind cell) at bt = elim (s.words (Kind cell)) [
      | inl same ↦ inl (elim bt [ inl v ↦ v ∙ same | inr c ↦ c ])
      | inr a ↦ elim (apart cell a) [
        | inl still ↦ inr still
        | inr agree ↦ inl (sym (subst (λ (x : Place). new.memory.persisted x ≡ value) (sym at) b.there) ∙ agree.1 ∙ b.cached (Kind cell))
      ]
    ]
    word_back keeps apart r at bt = between_fits new r (old.memory.cached r) (old.memory.persisted r) value
        (word_bears p place old new back_moves t.counted r (old.memory.cached r) (old.memory.persisted r) (λ cell is. keeps cell) (λ cell is a. elim is [ inl e ↦ cc | inr e ↦ cc ]) (λ edition q n part is now. shown_back old new version_back edition now) (s.words r)) bt

    pub back_word : ((cell : ℕ) → KeepsOwing old new cell) → KeepsApart old new → WordFits new place (new.memory.cached place) (new.memory.persisted place)
    back_word keeps apart = subst (λ (c : ℕ). WordFits new place c (new.memory.persisted place)) (sym (b.cached place))
        (subst (λ (v : ℕ). WordFits new place (old.memory.cached place) v) (sym b.there) (word_back keeps apart place refl (subst (λ (l : Layout). IsBetween l place (old.memory.cached place) (old.memory.persisted place) value) (sym t.layout) between)))

    pub back_sound : Bears old new → AllStand new → KeepsApart old new → ((cell : ℕ) → KeepsOwing old new cell) → (p < new.layout.processes → CallFits new p (new.situation p)) → Keeps p old new
    back_sound bears stand apart keeps mine = moves_sound p place old new back_moves t.counted s bears stand apart (λ cell ne. keeps cell) (back_word keeps apart) mine

  pub quiet_sound : IsSound old → Moves p Version old new → Bears old new → AllStand new → KeepsApart old new → ((cell : ℕ) → KeepsOwing old new cell) → (p < new.layout.processes → CallFits new p (new.situation p)) → Keeps p old new
  quiet_sound s m bears stand apart keeps mine = moves_sound p Version old new m t.counted s bears stand apart (λ cell ne. keeps cell) (version_word p old new m s) mine

-- an eviction, which is nobody's
module _ (place : Place) (old new : PlainWorld) (s : IsSound old) (buffered : Buffered old) (v : Evicts place old new) where
  abbrev no_one : ℕ
  no_one = old.layout.processes

  abbrev t : Turn no_one old new
  t = record { layout = v.layout; counted = v.counted; situations = λ q ne. v.situation q; pendings = λ q ne. v.open_edits q; goes = nobody (omega arith) (λ r. (v.memory.cached r, elim (place_cases r place) [ inl eq ↦ inr (subst (λ (y : Place). new.memory.persisted y ≡ old.memory.cached y) (sym eq) v.memory.there) | inr ne ↦ inl (v.memory.elsewhere r ne) ])) }

  evicted : Backs no_one old new t place (old.memory.cached place)
  evicted = evicted_backs no_one old new t place v.memory

  between : IsBetween old.layout place (old.memory.cached place) (old.memory.persisted place) (old.memory.cached place)
  between = cached_between old (small_counted old s.of_sheet) place (old.memory.cached place) (old.memory.persisted place) (s.words place)

  moves : Moves no_one place old new
  moves = back_moves no_one old new t s place (old.memory.cached place) evicted between

  -- a mark has no holder that the sheet has not
  not_held : (r : ℕ) → IsHeldBy no_one (old.memory.cached (Mark r)) → ⊥
  not_held r by = let l = ((s.words (Mark r)).holder no_one by).0 in omega arith

  head_back : (c : ℕ) → place ≡ Head c → (new.memory.persisted (Head c) ≡ old.memory.persisted (Head c)) ⊎ ((x : ℕ) → IsExcused new c x)
  head_back c at =
      let now : new.memory.persisted (Head c) ≡ old.memory.cached (Head c) = subst (λ (y : Place). new.memory.persisted y ≡ old.memory.cached y) at v.memory.there in
      elim (s.words (Head c)).sides [
        | inl same ↦ inl (now ∙ sym same)
        | inr b ↦ inr (λ x. let o : IsExcused old c x = on_its_way_excuses old c (old.memory.persisted (Head c)) x s b in
            excused_lasts no_one place old new moves c x o (λ eq. let l = o.inside in omega arith))
      ]

  evict_mine : Mine no_one place old new moves
  evict_mine = record {
    owes = λ r c x bit matters held o. absurd (not_held r held.by);
    excuses = λ l c x matters o. absurd (omega arith);
    stored = λ r at by. absurd (not_held r by);
    holds = λ r at by. absurd (not_held r by);
    cached_heads = λ c at. inl (v.memory.cached (Head c));
    persisted_heads = head_back;
  }

  evict_marks : MyMarks no_one place old new moves
  evict_marks = marks_at place refl
    where
      in_buffer : (c x q : ℕ) → Contains (new.memory.buffer q) (entry (Mark c) x) → Contains (old.memory.buffer q) (entry (Mark c) x)
      in_buffer c x q h = subst (λ (xs : List (BufferEntry Place)). Contains xs (entry (Mark c) x)) (v.memory.buffer q) h

      marks_at : (r : Place) → r ≡ place → MyMarks no_one place old new moves
      marks_at (Mark d) at = backed_marks no_one place old new moves s buffered evict_mine (text_same old new v.layout v.counted) d (old.memory.cached (Mark d)) (sym at)
          (subst (λ (y : Place). new.memory.persisted y ≡ old.memory.cached y) (sym at) v.memory.there) (inr refl) v.memory.cached in_buffer
      marks_at r at = no_new_marks no_one place old new moves (λ c is. let both : r ≡ Mark c = at ∙ is in cc) in_buffer

  keeps_apart : KeepsApart old new
  keeps_apart = λ cell a. inl (apart_lasts no_one place old new moves cell a (λ eq. not_held cell (subst (λ (q : ℕ). IsHeldBy q (old.memory.cached (Mark cell))) eq a.held.by)))

  keeps_owing : (cell : ℕ) → KeepsOwing old new cell
  keeps_owing cell e issue its is same before last_of owes = (
    v.open_edits e.process ∙ is,
    subst (λ (x : Situation). Splits new e.process x e.cell (head_after_all (of_cell cell old.counted))) (sym (v.situation e.process))
        (splits_last old new e.process (λ c. marks_grow no_one place old new moves c) (v.memory.buffer e.process) (λ c k. pends e.process c k) (old.situation e.process) e.cell _ owes),
  )
    where
      pends : (h c : ℕ) → IsPending old h c → IsPending new h c
      pends h c k = record {
        issue = k.issue;
        issued = v.open_edits h ∙ k.issued;
        cell = k.cell;
        cached = v.memory.cached (Announce h) ∙ k.cached;
        persisted = elim (place_cases (Announce h) place) [
          | inl eq ↦ subst (λ (y : Place). new.memory.persisted y ≡ old.memory.cached y) (sym eq) v.memory.there ∙ k.cached
          | inr ne ↦ v.memory.elsewhere (Announce h) ne ∙ k.persisted
        ];
      }

  pub evict_sound : IsSound new × ((q : ℕ) → q < old.layout.processes → Rely q old new)
  evict_sound =
      let k : Keeps no_one old new = back_sound no_one old new t s place (old.memory.cached place) evicted between
      (bears no_one place old new moves s evict_mine) (all_stand no_one place old new moves s buffered evict_mine (text_same old new v.layout v.counted) evict_marks) keeps_apart keeps_owing
      (λ l. absurd (let same = ap (λ (x : _). x.processes) v.layout in omega arith)) in
      (k.sound, λ q l. k.others q (λ same. omega arith))
