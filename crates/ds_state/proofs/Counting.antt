-- A step by which an edit is linearized.
use Rattle.std.proofs.Common.{ℕ, ◌≡◌, ◌≢◌, ◌<◌, ◌≤◌, ◌/◌, ◌⊎◌, List, [], ◌∷◌, ◌++◌, ap, sym, ◌∙◌, subst, arith, append_assoc, inl, inr, Some, zero, suc, get_or}
use Rattle.std.specs.Prelude.{All, Contains}
use Rattle.std.proofs.lemmas.Bool.{cases_eq}
use Rattle.std.proofs.lemmas.List.{append-nil}
use Rattle.std.proofs.lemmas.List.Elements.{All-nil, All-push, All-head, All-tail, Contains-append_cases}
use Rattle.ds_words.specs.Memory.{StoresAt}
use Rattle.ds_layout.specs.declared.place.Place.{Place}
use Rattle.ds_layout.specs.declared.place.Place.TheVariants.{Version, Head, Mark, Value, Kind, Index, Announce, Header, Text, Done}
use Rattle.ds_layout.specs.Bits.{HasBit, IsSubset}
use Rattle.ds_layout.proofs.OrBits.{IsSubset-same}
use Rattle.ds_layout.proofs.PlaceCases.{place_cases}
use Rattle.ds_state.specs.World.{PlainEdit, PlainIssue, PlainWorld, record_place, record_word, record_size, index_place, done_place, of_cell, head_after_all}
use Rattle.ds_state.specs.Known.{AreBelow, IsDone}
use Rattle.ds_state.specs.Owing.{Owes, Excuses, Splits, Parts, IsApart, IsExcused}
use Rattle.ds_state.specs.Standing.{HasContent}
use Rattle.ds_state.specs.CallsFit.{CallFits}
use Rattle.ds_state.specs.WordsFit.{RefersTo, IsKept, WordFits}
use Rattle.ds_state.specs.Sound.{IsSound, IsOfSheet, Increasing}
use Rattle.ds_state.specs.Rely.{IsOwnedBy, Grows, Rely, Keeps}
use Rattle.ds_words.specs.declared.access.BufferEntry.{BufferEntry}
use Rattle.ds_state.specs.Owing.{entry}
use Rattle.ds_state.specs.declared.situation.Situation.{Situation}
use Rattle.ds_state.proofs.Frames.{Moves, Goes, CatchesUp, shown_back, first_shown, layouts_move, headers_move, each_moved, stays_hold}
use Rattle.ds_state.proofs.Bearing.{Buffered, Mine, bears, all_stand, no_new_marks, parts_owe, splits_excuse, splits_last, marks_grow, pends_last, apart_lasts}
use Rattle.ds_state.proofs.Heads.{by_append, of_cell-append, of_cell-own, of_cell-other, cell_of-middle, parts_cases}
use Rattle.ds_state.proofs.Lasting.{safe_stable}
use Rattle.ds_state.proofs.Stable.{call_stable}
use Rattle.ds_layout.specs.declared.place.Edition.{Edition}
use Rattle.ds_state.specs.Editions.{Shows, Agrees}

-- the edit's head takes its cell's place, and the edit is linearized
pub record Counts (e : PlainEdit) (issue : PlainIssue) (old new : PlainWorld) : Type 0 where
  pub layout : new.layout ≡ old.layout
  pub counted : new.counted ≡ old.counted ++ e ∷ []
  pub memory : StoresAt (Head e.cell) (head_after_all (of_cell e.cell new.counted)) old.memory new.memory
  pub situations : (q : ℕ) → q ≢ e.process → new.situation q ≡ old.situation q
  pub pendings : (q : ℕ) → q ≢ e.process → new.open_edits q ≡ old.open_edits q
  pub open_edits : new.open_edits e.process ≡ Some issue
  pub same : issue.edit ≡ e
  pub goes : Goes e.process old new
  pub owes : Splits new e.process (new.situation e.process) e.cell (head_after_all (of_cell e.cell new.counted))

-- what has to stand before
pub record MayCount (w : PlainWorld) (e : PlainEdit) : Type 0 where
  pub of_sheet : IsOfSheet w e
  pub below : AreBelow w e.process e.number
  pub edition : Edition
  pub agrees : Agrees w.memory edition
  pub written : (k : ℕ) → k < record_size e → (w.memory.cached (record_place edition e.process e.number k) ≡ record_word e k) × (w.memory.persisted (record_place edition e.process e.number k) ≡ record_word e k)
  pub indexed : (row : ℕ) → RefersTo w.layout.shape e.text row → HasBit (w.memory.cached (index_place row e.cell)) e.cell × HasBit (w.memory.persisted (index_place row e.cell)) e.cell
  pub back : w.memory.persisted (Head e.cell) ≡ head_after_all (of_cell e.cell w.counted)
  pub grows : w.memory.cached (Head e.cell) ≤ head_after_all (of_cell e.cell (w.counted ++ e ∷ []))
  pub done : (before : List PlainEdit) (by : PlainEdit) → of_cell e.cell w.counted ≡ before ++ by ∷ [] → IsDone w by.process by.number
  pub owes_nothing : (r c x : ℕ) → Owes w.memory e.process (w.situation e.process) r c x → ⊥
  pub excuses_nothing : (c x : ℕ) → Excuses w e.process (w.situation e.process) c x → ⊥
  pub splits_nothing : (c head : ℕ) → Splits w e.process (w.situation e.process) c head → ⊥

increasing_push : (edits : List PlainEdit) (e : PlainEdit) → Increasing edits → All (λ f. f.process ≡ e.process → f.number < e.number) edits → Increasing (edits ++ e ∷ [])
increasing_push [] e h below = (All-nil (λ (f : PlainEdit). f.process ≡ e.process → e.number < f.number), tt)
increasing_push (x ∷ es) e h below =
    let first : (x.process ≡ e.process → x.number < e.number) = All-head (λ (f : PlainEdit). f.process ≡ e.process → f.number < e.number) x es below in (
      All-push (λ (f : PlainEdit). f.process ≡ x.process → x.number < f.number) es e h.0 (λ same. first (sym same)),
      increasing_push es e h.1 (All-tail (λ (f : PlainEdit). f.process ≡ e.process → f.number < e.number) x es below),
    )

subset_of : (a b : ℕ) → b ≡ a → IsSubset a b
subset_of a b e = subst (λ (x : ℕ). IsSubset a x) (sym e) (IsSubset-same a)

-- what is in a list of one element is that element
pub contains_one : {A : Type 0} (x e : A) → Contains (x ∷ []) e → e ≡ x
contains_one x e (zero, lt, is) = sym is
contains_one x e (suc k, lt, is) = absurd (omega arith)

module _ (e : PlainEdit) (issue : PlainIssue) (old new : PlainWorld) (c : Counts e issue old new) (may : MayCount old e) where
  cells : (cell : ℕ) → of_cell cell new.counted ≡ of_cell cell old.counted ++ of_cell cell (e ∷ [])
  cells cell = ap (λ es. of_cell cell es) c.counted ∙ of_cell-append cell old.counted (e ∷ [])

  own_cell : of_cell e.cell new.counted ≡ of_cell e.cell old.counted ++ e ∷ []
  own_cell = cells e.cell ∙ ap (λ es. of_cell e.cell old.counted ++ es) (of_cell-own e)

  other_cell : (cell : ℕ) → e.cell ≢ cell → of_cell cell new.counted ≡ of_cell cell old.counted
  other_cell cell ne = cells cell ∙ ap (λ es. of_cell cell old.counted ++ es) (of_cell-other cell e ne) ∙ append-nil (of_cell cell old.counted)

  head_grows : old.memory.cached (Head e.cell) ≤ new.memory.cached (Head e.cell)
  head_grows =
      let now = c.memory.there in
      let g = may.grows in
      let all = ap (λ es. head_after_all (of_cell e.cell es)) c.counted in
      omega arith

  version_same : CatchesUp (old.memory.cached Version) (old.memory.persisted Version) (new.memory.cached Version) (new.memory.persisted Version)
  version_same = (c.memory.elsewhere Version (λ is. cc), inl (c.memory.persisted Version))

  pub moves : Moves e.process (Head e.cell) old new
  moves = record {
    layout = c.layout;
    cached = c.memory.elsewhere;
    persisted = λ r ne. c.memory.persisted r;
    here = (head_grows, (let same = c.memory.persisted (Head e.cell) in omega arith));
    buffers = λ q ne. c.memory.buffer q;
    situations = c.situations;
    pendings = c.pendings;
    goes = c.goes;
    version = inl version_same;
  }

  excused_now : (x : ℕ) → IsExcused new e.cell x
  excused_now x = record {
    process = e.process;
    inside = rw c.layout may.of_sheet.process;
    still = splits_excuse new e.process (new.situation e.process) e.cell _ x c.owes;
  }

  mine : Mine e.process (Head e.cell) old new moves
  mine = record {
    owes = λ r d x bit matters held o. absurd (may.owes_nothing r d x o);
    excuses = λ l d x matters o. absurd (may.excuses_nothing d x o);
    stored = λ r at. absurd (elim at [ inl is ↦ cc | inr is ↦ cc ]);
    holds = λ r at. absurd (elim at [ inl is ↦ cc | inr is ↦ cc ]);
    cached_heads = λ d at. inr (λ x. let same : e.cell ≡ d = cc in subst (λ (y : ℕ). IsExcused new y x) same (excused_now x));
    persisted_heads = λ d at. inl (c.memory.persisted (Head d));
  }

  text : (d head : ℕ) (content : _) → HasContent old d head content → HasContent new d head content
  text d head content (inl none) = inl none
  text d head content (inr h) = inr (record {
    by = h.by;
    gave = rw (cells d) (by_append (of_cell d old.counted) (of_cell d (e ∷ [])) head h.by h.gave);
    reads = rw c.layout h.reads;
  })

  -- for another process
  grows_other : (q : ℕ) (but : Place) → q ≢ e.process → Grows q but old new
  grows_other q but ne = record {
    layout = c.layout;
    owned_cached = λ r o apart. c.memory.elsewhere r (λ is. not_head q r o is);
    owned_persisted = λ r o apart. inl (c.memory.persisted r);
    heads_cached = λ cell. (each_moved e.process (Head e.cell) old new moves (Head cell)).0;
    heads_persisted = λ cell. let same = c.memory.persisted (Head cell) in omega arith;
    marks_cached = λ cell. let same = c.memory.elsewhere (Mark cell) (λ is. cc) in omega arith;
    marks_persisted = λ cell. let same = c.memory.persisted (Mark cell) in omega arith;
    holds = λ cell apart. stays_hold q _ _ _ _ (c.memory.elsewhere (Mark cell) (λ is. cc)) (c.memory.persisted (Mark cell));
    announces_cached = λ x. let same = c.memory.elsewhere (Announce x) (λ is. cc) in omega arith;
    announces_persisted = λ x. let same = c.memory.persisted (Announce x) in omega arith;
    values = λ cell clean. (c.memory.elsewhere (Value cell) (λ is. cc), c.memory.elsewhere (Kind cell) (λ is. cc));
    index_cached = λ row part. subset_of _ _ (c.memory.elsewhere (Index row part) (λ is. cc));
    index_persisted = λ row part. subset_of _ _ (c.memory.persisted (Index row part));
    done_cached = λ x part. subset_of _ _ (c.memory.elsewhere (Done x part) (λ is. cc));
    done_persisted = λ x part. subset_of _ _ (c.memory.persisted (Done x part));
    added = e ∷ [];
    counted = c.counted;
    foreign = All-push (λ (f : PlainEdit). f.process ≢ q) [] e (All-nil (λ (f : PlainEdit). f.process ≢ q)) (λ same. ne (sym same));
  }
    where
      not_head : (q : ℕ) (r : Place) → IsOwnedBy old.memory q r → r ≡ Head e.cell → ⊥
      not_head q r o is = subst (λ (x : Place). IsOwnedBy old.memory q x) is o

  rely_other : IsSound old → (q : ℕ) → q ≢ e.process → Rely q old new
  rely_other s q ne = record {
    bears = bears e.process (Head e.cell) old new moves s mine;
    situation = c.situations q ne;
    open_edits = c.pendings q ne;
    buffer = c.memory.buffer q;
    grows = λ but. grows_other q but ne;
  }

  another : suc e.process ≢ e.process
  another same = absurd (omega arith)

  kept_counts : (q n : ℕ) → IsKept old q n → IsKept new q n
  kept_counts q n h = record {
    edit = h.edit;
    process_is = h.process_is;
    number_is = h.number_is;
    safe = safe_stable (suc e.process) Version old new (grows_other (suc e.process) Version another) h.edit h.safe;
  }

  counted_cases : (P : PlainEdit → Type 0) → P e → ((f : PlainEdit) → Contains old.counted f → P f) → (f : PlainEdit) → Contains new.counted f → P f
  counted_cases P mine others f there =
      elim (Contains-append_cases old.counted (e ∷ []) f (subst (λ (es : List PlainEdit). Contains es f) c.counted there)) [
        | inl before ↦ others f before
        | inr last ↦ subst P (sym (contains_one e f last)) mine
      ]

  -- the edit that is superseded by it, or one that was before
  superseded_cases : (cell : ℕ) (before : List PlainEdit) (f next : PlainEdit) (after : List PlainEdit) → of_cell cell new.counted ≡ before ++ f ∷ next ∷ after
      → IsDone old f.process f.number ⊎ ((rest : List PlainEdit) × (of_cell cell old.counted ≡ before ++ f ∷ next ∷ rest))
  superseded_cases cell before f next after parts = elim (cases_eq e.cell cell) [
    | inr ne ↦ inr (after, sym (other_cell cell ne) ∙ parts)
    | inl eq ↦ (
        let es : List PlainEdit = of_cell e.cell old.counted in
        let split : es ++ e ∷ [] ≡ (before ++ f ∷ []) ++ next ∷ after = sym own_cell ∙ ap (λ x. of_cell x new.counted) eq ∙ parts ∙ sym (append_assoc before (f ∷ []) (next ∷ after)) in
        elim (parts_cases es e (before ++ f ∷ []) next after split) [
          | inl last ↦ inl (may.done before f last.0)
          | inr rest ↦ inr (rest.0, ap (λ x. of_cell x old.counted) (sym eq) ∙ rest.1 ∙ append_assoc before (f ∷ []) (next ∷ rest.0))
        ])
  ]

  apart : (cell : ℕ) → IsApart old cell → IsApart new cell
  apart cell a = elim (cases_eq a.holder e.process) [
    | inr ne ↦ apart_lasts e.process (Head e.cell) old new moves cell a ne
    | inl eq ↦ absurd (may.owes_nothing cell 0 0 (parts_owe old.memory e.process (old.situation e.process) cell 0 0 (subst (λ (q : ℕ). Parts (old.situation q) cell) eq a.still)))
  ]

  word_counts : (r : Place) → r ≢ Head e.cell → WordFits old r (old.memory.cached r) (old.memory.persisted r) → WordFits new r (old.memory.cached r) (old.memory.persisted r)
  word_counts Version ne h = h
  word_counts (Head cell) ne h =
      let apart : e.cell ≢ cell = (λ eq. ne (ap (λ x. Head x) (sym eq))) in
      let same = other_cell cell apart in
      record {
        last = h.last ∙ ap head_after_all (sym same);
        sides = elim h.sides [
          | inl eq ↦ inl eq
          | inr b ↦ inr (
              let its : b.last.cell ≡ cell = cell_of-middle cell old.counted b.before b.last [] b.parts in
              let other : b.last.process ≢ e.process = (λ eq. may.splits_nothing _ _ (subst (λ (q : ℕ). Splits old q (old.situation q) b.last.cell (head_after_all (of_cell cell old.counted))) eq b.owes)) in
              record {
                before = b.before;
                last = b.last;
                parts = same ∙ b.parts;
                is = b.is;
                issue = b.issue;
                open_edits = c.pendings b.last.process other ∙ b.open_edits;
                same = b.same;
                owes = subst (λ (es : List PlainEdit). Splits new b.last.process (new.situation b.last.process) b.last.cell (head_after_all es)) (sym same)
                    (subst (λ (x : Situation). Splits new b.last.process x b.last.cell (head_after_all (of_cell cell old.counted))) (sym (c.situations b.last.process other))
                    (splits_last old new b.last.process (λ d. marks_grow e.process (Head e.cell) old new moves d) (c.memory.buffer b.last.process) (λ d k. pends_last e.process (Head e.cell) old new moves b.last.process d other k) (old.situation b.last.process) b.last.cell _ b.owes));
              })
        ];
      }
  word_counts (Mark cell) ne h = record { behind = h.behind; few = h.few; holder = λ q by. rw c.layout (h.holder q by); persisted_holder = λ q by. rw c.layout (h.persisted_holder q by) }
  word_counts (Value cell) ne h = elim h [ inl same ↦ inl same | inr a ↦ inr (apart cell a) ]
  word_counts (Kind cell) ne h = elim h [ inl same ↦ inl same | inr a ↦ inr (apart cell a) ]
  word_counts (Index row part) ne h = record {
    sides = h.sides;
    counted = counted_cases
        (λ f. f.cell / 64 ≡ part → RefersTo new.layout.shape f.text row → HasBit (old.memory.cached (Index row part)) f.cell × HasBit (old.memory.persisted (Index row part)) f.cell)
        (λ its refers. subst (λ (x : ℕ). HasBit (old.memory.cached (Index row x)) e.cell × HasBit (old.memory.persisted (Index row x)) e.cell) its (may.indexed row (rw (sym c.layout) refers)))
        (λ f there its refers. h.counted f there its (rw (sym c.layout) refers));
  }
  word_counts (Announce q) ne h = record {
    sides = h.sides;
    on_cached = λ n small is. kept_counts q n (h.on_cached n small is);
    on_persisted = λ n small is. kept_counts q n (h.on_persisted n small is);
  }
  word_counts (Header q n) ne h = counted_cases
      (λ f. f.process ≡ q → f.number ≡ n → 0 < record_size f → (old.memory.cached (Header q n) ≡ record_word f zero) × (old.memory.persisted (Header q n) ≡ record_word f zero))
      (λ i j k. subst (λ (x : ℕ). (old.memory.cached (Header x n) ≡ record_word e zero) × (old.memory.persisted (Header x n) ≡ record_word e zero)) i
      (subst (λ (x : ℕ). (old.memory.cached (Header e.process x) ≡ record_word e zero) × (old.memory.persisted (Header e.process x) ≡ record_word e zero)) j (may.written zero k)))
      h
  word_counts (Text edition q n part) ne h = λ now.
      let was : Shows old.memory edition = shown_back old new version_same edition now in
      let its : may.edition ≡ edition = elim was [ inl seen ↦ sym may.agrees.cached ∙ seen | inr kept ↦ sym may.agrees.persisted ∙ kept ] in
      counted_cases
      (λ f. f.process ≡ q → f.number ≡ n → suc part < record_size f → (old.memory.cached (Text edition q n part) ≡ record_word f (suc part)) × (old.memory.persisted (Text edition q n part) ≡ record_word f (suc part)))
      (λ i j k. subst (λ (d : Edition). (old.memory.cached (Text d q n part) ≡ record_word e (suc part)) × (old.memory.persisted (Text d q n part) ≡ record_word e (suc part))) its
      (subst (λ (x : ℕ). (old.memory.cached (Text may.edition x n part) ≡ record_word e (suc part)) × (old.memory.persisted (Text may.edition x n part) ≡ record_word e (suc part))) i
      (subst (λ (x : ℕ). (old.memory.cached (Text may.edition e.process x part) ≡ record_word e (suc part)) × (old.memory.persisted (Text may.edition e.process x part) ≡ record_word e (suc part))) j (may.written (suc part) k))))
      (h was)
  word_counts (Done q part) ne h = record {
    sides = h.sides;
    superseded = λ n its o. elim (superseded_cases o.edit.cell o.before o.edit o.next o.after o.parts) [
      | inl done ↦ (
          let there : HasBit (old.memory.persisted (done_place q n)) n = subst (λ (x : ℕ). HasBit (old.memory.persisted (done_place x n)) n) o.process_is (subst (λ (x : ℕ). HasBit (old.memory.persisted (done_place o.edit.process x)) x) o.number_is done) in
          subst (λ (x : ℕ). HasBit (old.memory.persisted (Done q x)) n) its there)
      | inr rest ↦ h.superseded n its (record {
        edit = o.edit;
        process_is = o.process_is;
        number_is = o.number_is;
        before = o.before;
        next = o.next;
        after = rest.0;
        parts = rest.1;
      })
    ];
    told = λ n small its has. kept_counts q n (h.told n small its has);
  }

  -- its cell's head is on its way
  head_counts : WordFits new (Head e.cell) (new.memory.cached (Head e.cell)) (new.memory.persisted (Head e.cell))
  head_counts = record {
    last = c.memory.there;
    sides = inr (record {
      before = of_cell e.cell old.counted;
      last = e;
      parts = own_cell;
      is = c.memory.persisted (Head e.cell) ∙ may.back;
      issue = issue;
      open_edits = c.open_edits;
      same = c.same;
      owes = c.owes;
    });
  }

  pub counts_sound : IsSound old → Buffered old → CallFits new e.process (new.situation e.process) → Keeps e.process old new
  counts_sound s buffered fits = record {
    others = rely_other s;
    sound = record {
      stand = all_stand e.process (Head e.cell) old new moves s buffered mine text
          (no_new_marks e.process (Head e.cell) old new moves (λ d is. cc) (λ d x q h. subst (λ (xs : List (BufferEntry Place)). Contains xs (entry (Mark d) x)) (c.memory.buffer q) h));
      words = λ r. elim (place_cases r (Head e.cell)) [
        | inl eq ↦ subst (λ (x : Place). WordFits new x (new.memory.cached x) (new.memory.persisted x)) (sym eq) head_counts
        | inr ne ↦ subst (λ (x : ℕ). WordFits new r x (new.memory.persisted r)) (sym (c.memory.elsewhere r ne))
            (subst (λ (x : ℕ). WordFits new r (old.memory.cached r) x) (sym (c.memory.persisted r)) (word_counts r ne (s.words r)))
      ];
      calls = λ q l. elim (cases_eq q e.process) [
        | inl eq ↦ subst (λ (x : ℕ). CallFits new x (new.situation x)) (sym eq) fits
        | inr ne ↦ rw (c.situations q ne) (call_stable old new q (old.situation q) (rely_other s q ne) (s.layouts q (rw (sym c.layout) l)) (s.calls q (rw (sym c.layout) l)))
      ];
      of_sheet = subst (λ (es : List PlainEdit). All (λ f. IsOfSheet new f) es) (sym c.counted) (All-push (λ (f : PlainEdit). IsOfSheet new f) old.counted e (λ k d l. sheet (get_or old.counted k d) (s.of_sheet k d l)) (sheet e may.of_sheet));
      layouts = λ q l. layouts_move e.process (Head e.cell) old new moves s q (rw (sym c.layout) l);
      headers = headers_move e.process (Head e.cell) old new moves s.headers;
      increasing = rw c.counted (increasing_push old.counted e s.increasing may.below);
    };
  }
    where
      sheet : (f : PlainEdit) → IsOfSheet old f → IsOfSheet new f
      sheet f h = record { process = rw c.layout h.process; number = h.number; cell = rw c.layout h.cell; text = h.text; short = λ now. h.short (first_shown e.process (Head e.cell) old new moves now) }
