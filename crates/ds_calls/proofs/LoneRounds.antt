-- Rounds of works of a process that is alone: after as many as there are cells, no entry changes any more.
use Rattle.std.proofs.Common.{ℕ, zero, suc, ◌≡◌, ◌<◌, ◌≤◌, ◌+◌, ◌*◌, ◌⊎◌, refl, ap, sym, ◌∙◌, subst, arith, inl, inr, Bool, true, false, Some, None}
use Rattle.std.specs.Prelude.{if◌then◌else◌}
use Rattle.std.proofs.lemmas.Bool.{cases_eq, cases_lt}
use Rattle.ds_formula.specs.Cells.{IsInside, index_of, cell_at}
use Rattle.ds_formula.specs.declared.cells.Cell.{Cell}
use Rattle.ds_formula.specs.Plain.{PlainContent}
use Rattle.ds_eval.specs.declared.inputs.Entry as entries
use Rattle.ds_eval.specs.Local.{local}
use Rattle.ds_eval.specs.Rounds.{IsSettled}
use Rattle.ds_eval.specs.Showable.{CanShow, ordinary, round}
use Rattle.ds_eval.proofs.Rounds.{index_at, inside_at, settled_first, settled_next}
use Rattle.ds_eval.proofs.Walks.{index_below}
use Rattle.ds_layout.specs.declared.layout.Layout.{Layout}
use Rattle.ds_layout.specs.declared.mark.State.TheVariants as state
use Rattle.ds_layout.specs.Places.{cells_of}
use Rattle.ds_layout.specs.declared.place.Place.TheVariants.{Mark, Head}
use Rattle.ds_layout.specs.Mark.{IsClean}
use Rattle.ds_state.specs.Works.{SEEN_MOST}
use Rattle.ds_state.specs.Standing.{cached_side, entry_on, shown_entry, HasContent, value_for, word_for}
use Rattle.ds_state.specs.World.{PlainWorld}
use Rattle.ds_state.specs.Sound.{IsSound}
use Rattle.ds_state.proofs.Shows.{local_back, words_show}
use Rattle.ds_work.specs.WorkShows.{CellWords, shown_in, words_for}
use Rattle.ds_calls.specs.Marked.{state_at, is_marked, marked_from}
use Rattle.ds_calls.specs.Lone.{AreIdle}
use Rattle.ds_calls.proofs.Entries.{weaker, last_same}
use Rattle.ds_calls.proofs.Leaving.{age, entries_in, Gives}
use Rattle.ds_calls.proofs.LoneTurns.{same_content}
use Rattle.ds_calls.proofs.LoneFacts.{clean_at, clean_word, clean_gives, Worked}

module _ (L : Layout) (sheet : Cell → PlainContent) where
  abbrev N : ℕ
  N = cells_of L

  abbrev number : Cell → ℕ
  number d = index_of L.shape d

  -- what each cell shows
  abbrev E : PlainWorld → Cell → entries.Entry
  E w d = entry_on L (cached_side w.memory) (index_of L.shape d)

  abbrev entry_of : CellWords → entries.Entry
  entry_of x = shown_entry (cells_of L) x.value x.kind

  -- where a cell has a content, that is the sheet's
  abbrev pub HasSheet : PlainWorld → Type 0
  HasSheet w = (d : Cell) → IsInside L.shape d → (content : PlainContent) → HasContent w (index_of L.shape d) (w.memory.cached (Head (index_of L.shape d))) content → content ≡ sheet d

  pub record State (w : PlainWorld) : Type 0 where
    pub layout : w.layout ≡ L
    pub sound : IsSound w
    pub idle : AreIdle w
    pub sheet_is : HasSheet w

  -- what is known of a cell after n rounds: its entry, and, after the first one, its words
  pub record Done (n : ℕ) (w : PlainWorld) (d : Cell) : Type 0 where
    pub settled : IsSettled L.shape sheet n (E w d) d
    pub written : 0 < n → shown_in w (index_of L.shape d) ≡ words_for (E w d)

  done_stays : (n : ℕ) (first last : PlainWorld) (d : Cell) → shown_in last (number d) ≡ shown_in first (number d) → Done n first d → Done n last d
  done_stays n first last d same h =
      let is : E last d ≡ E first d = ap (λ (x : CellWords). entry_of x) same in
      record {
        settled = subst (λ (e : entries.Entry). IsSettled L.shape sheet n e d) (sym is) h.settled;
        written = λ l. same ∙ h.written l ∙ ap (λ (e : entries.Entry). words_for e) (sym is);
      }

  module _ (first last : PlainWorld) (st : State first) (d : Cell) (inside : IsInside L.shape d) (g : Gives first last (number d)) where
    -- the entry is what the sheet gives
    by_sheet : g.entry ≡ local L.shape (sheet d) (E first)
    by_sheet =
        subst (λ (l : Layout). g.entry ≡ local l.shape g.given.content (λ x. entry_on l (cached_side first.memory) (index_of l.shape x))) st.layout g.given.is
        ∙ ap (λ (p : PlainContent). local L.shape p (E first)) (st.sheet_is d inside g.given.content g.given.has)

    reads_back : shown_entry (cells_of first.layout) (value_for g.entry) (word_for g.entry) ≡ g.entry
    reads_back = subst (λ (e : entries.Entry). shown_entry (cells_of first.layout) (value_for e) (word_for e) ≡ e) (sym g.given.is)
        (local_back first (cached_side first.memory) (number d) (first.memory.cached (Head (number d))) g.given.content (entries_in first) g.given.has (λ x refers within. refl))

    entry_is : E last d ≡ g.entry
    entry_is =
        ap (λ (x : CellWords). entry_of x) g.shows
        ∙ subst (λ (l : Layout). shown_entry (cells_of l) (value_for g.entry) (word_for g.entry) ≡ g.entry) st.layout reads_back

    given_done : (n : ℕ) → n < N → ((x : Cell) → IsInside L.shape x → IsSettled L.shape sheet n (E first x) x) → Done (suc n) last d
    given_done n low all = record {
      settled = subst (λ (e : entries.Entry). IsSettled L.shape sheet (suc n) e d) (sym (entry_is ∙ by_sheet)) (settled_next L.shape sheet n (E first) low all d);
      written = λ l. g.shows ∙ ap (λ (e : entries.Entry). words_for e) (sym entry_is);
    }

  -- ---- a round

  -- n rounds are over, and the cells below k are done in the next one
  pub record Mid (n k : ℕ) (w : PlainWorld) : Type 0 where
    pub each : (d : Cell) → IsInside L.shape d → (index_of L.shape d < k → Done (suc n) w d) × (k ≤ index_of L.shape d → Done n w d)

  mid_settled : (n k : ℕ) (w : PlainWorld) → Mid n k w → (d : Cell) → IsInside L.shape d → IsSettled L.shape sheet n (E w d) d
  mid_settled n k w m d inside = elim (cases_lt (number d) k) [
    | inl low ↦ weaker L.shape sheet n (E w d) d ((m.each d inside).0 low).settled
    | inr high ↦ ((m.each d inside).1 high).settled
  ]

  -- as many rounds as there are cells are over, and the cells below k are clean
  pub record Last (k : ℕ) (w : PlainWorld) : Type 0 where
    pub each : (d : Cell) → IsInside L.shape d → Done (cells_of L) w d
    pub clean : (c : ℕ) → c < k → IsClean (w.memory.cached (Mark c))

  -- each mark has generations left for the rounds that are left
  pub record Young (rounds k : ℕ) (w : PlainWorld) : Type 0 where
    pub done : (c : ℕ) → c < k → age w c + 2 * rounds ≤ SEEN_MOST
    pub due : (c : ℕ) → k ≤ c → c < cells_of L → age w c + 2 * rounds + 2 ≤ SEEN_MOST

  -- a round with n left after it has come to cell k
  pub record Phase (rounds k : ℕ) (w : PlainWorld) : Type 0 where
    pub state : State w
    pub young : Young rounds k w
    pub part : ((n : ℕ) × (n + rounds ≡ cells_of L + 1) × (n < cells_of L) × Mid n k w) ⊎ ((rounds ≡ 1) × Last k w)

  some_cells : (k : ℕ) → k < N → 1 ≤ N
  some_cells k l = omega arith

  -- ---- a clean cell is passed

  skip_mid : (n k : ℕ) (w : PlainWorld) → State w → n < N → IsClean (w.memory.cached (Mark k)) → Mid n k w → Mid n (k + 1) w
  skip_mid n k w st low clean m = record {
    each = λ d inside. (
      λ l. elim (cases_lt (number d) k) [
        | inl below ↦ (m.each d inside).0 below
        | inr above ↦ (
            let here : number d ≡ k = omega arith in
            given_done w w st d inside (clean_gives w st.sound st.idle (number d) (subst (λ c. IsClean (w.memory.cached (Mark c))) (sym here) clean)) n low (mid_settled n k w m))
      ],
      λ g. (m.each d inside).1 (omega arith),
    );
  }

  skip_last : (k : ℕ) (w : PlainWorld) → IsClean (w.memory.cached (Mark k)) → Last k w → Last (k + 1) w
  skip_last k w clean h = record {
    each = h.each;
    clean = λ c l. elim (cases_eq c k) [
      | inl same ↦ subst (λ x. IsClean (w.memory.cached (Mark x))) (sym same) clean
      | inr other ↦ h.clean c (omega (arith, other))
    ];
  }

  skip_young : (rounds k : ℕ) (w : PlainWorld) → k < N → Young rounds k w → Young rounds (k + 1) w
  skip_young rounds k w low y = record {
    done = λ c l. elim (cases_lt c k) [ inl below ↦ y.done c below | inr above ↦ (let d = y.due c above (omega arith) in omega (arith, d)) ];
    due = λ c g l. y.due c (omega arith) l;
  }

  skip : (rounds k : ℕ) (w : PlainWorld) → k < N → IsClean (w.memory.cached (Mark k)) → Phase rounds k w → Phase rounds (k + 1) w
  skip rounds k w low clean h = record {
    state = h.state;
    young = skip_young rounds k w low h.young;
    part = elim h.part [
      | inl m ↦ inl (m.0, m.1, m.2, skip_mid m.0 k w h.state m.2 clean m.3)
      | inr l ↦ inr (l.0, skip_last k w clean l.1)
    ];
  }

  -- ---- a cell is worked on

  module _ (first last : PlainWorld) (p k : ℕ) (low : k < cells_of L) (st : State first) (worked : Worked first last p k) where
    work_state : IsSound last → State last
    work_state sound = record {
      layout = worked.since.layout ∙ st.layout;
      sound = sound;
      idle = worked.idle;
      sheet_is = λ d inside content has. st.sheet_is d inside content (same_content first last (number d) (first.memory.cached (Head (number d))) content worked.since.layout worked.since.counted
          (subst (λ h. HasContent last (number d) h content) (worked.since.head (number d)) has));
    }

    gives_at : (d : Cell) → number d ≡ k → Gives first last (number d)
    gives_at d here = subst (λ c. Gives first last c) (sym here) worked.gives

    work_mid : (n : ℕ) → n < N → Mid n k first → Mid n (k + 1) last
    work_mid n less m = record {
      each = λ d inside. elim (cases_eq (number d) k) [
        | inl here ↦ (λ l. given_done first last st d inside (gives_at d here) n less (mid_settled n k first m), λ g. absurd (omega arith))
        | inr other ↦ (
          λ l. done_stays (suc n) first last d (worked.since.shown (number d) other) ((m.each d inside).0 (omega (arith, other))),
          λ g. done_stays n first last d (worked.since.shown (number d) other) ((m.each d inside).1 (omega arith)),
        )
      ];
    }

    work_young : (rounds : ℕ) → Young rounds k first → Young rounds (k + 1) last
    work_young rounds y = record {
      done = λ c l. elim (cases_eq c k) [
        | inl here ↦ (
            let d = y.due k (omega arith) low in
            let o : age last k ≡ age first k + 2 = worked.older in
            let same : age last c ≡ age last k = ap (λ x. age last x) here in
            omega (arith, d, o, same))
        | inr other ↦ (let d = y.done c (omega (arith, other)) in let o : age last c ≡ age first c = worked.since.ages c other in omega (arith, d, o))
      ];
      due = λ c g l. (let other : c ≡ k → ⊥ = λ is. omega arith in let d = y.due c (omega arith) l in let o : age last c ≡ age first c = worked.since.ages c other in omega (arith, d, o));
    }

    -- once all entries are the last ones, the cell shows what it did
    module _ (h : Last k first) where
      d : Cell
      d = cell_at L.shape k

      inside : IsInside L.shape (cell_at L.shape k)
      inside = inside_at L.shape k low

      here : index_of L.shape (cell_at L.shape k) ≡ k
      here = index_at L.shape k

      high_most : (e : entries.Entry) → CanShow L.shape e → e.height ≤ N
      high_most e (ordinary l o) = omega arith
      high_most e (round at is) = omega arith

      settled_by : (m : ℕ) → suc m ≡ N → Done N last (cell_at L.shape k)
      settled_by m is =
          subst (λ n. Done n last (cell_at L.shape k)) is (given_done first last st (cell_at L.shape k) inside (gives_at (cell_at L.shape k) here) m (omega (arith, is))
          (λ x within. weaker L.shape sheet m (E first x) x (subst (λ n. IsSettled L.shape sheet n (E first x) x) (sym is) (h.each x within).settled)))

      settled_now : (n : ℕ) → n ≡ N → Done N last (cell_at L.shape k)
      settled_now zero is = absurd (omega arith)
      settled_now (suc m) is = settled_by m is

      same_entry : E last (cell_at L.shape k) ≡ E first (cell_at L.shape k)
      same_entry = last_same L.shape sheet (E last (cell_at L.shape k)) (E first (cell_at L.shape k)) (cell_at L.shape k) (some_cells k low)
          (settled_now N refl).settled (h.each (cell_at L.shape k) inside).settled
          (high_most (E last (cell_at L.shape k)) (words_show L.shape (shown_in last (number (cell_at L.shape k))).value (shown_in last (number (cell_at L.shape k))).kind))
          (high_most (E first (cell_at L.shape k)) (words_show L.shape (shown_in first (number (cell_at L.shape k))).value (shown_in first (number (cell_at L.shape k))).kind))

      same_there : shown_in last (number (cell_at L.shape k)) ≡ shown_in first (number (cell_at L.shape k))
      same_there = (settled_now N refl).written (some_cells k low) ∙ ap (λ (e : entries.Entry). words_for e) same_entry ∙ sym ((h.each (cell_at L.shape k) inside).written (some_cells k low))

      same_shown : shown_in last k ≡ shown_in first k
      same_shown = subst (λ c. shown_in last c ≡ shown_in first c) here same_there

      work_last : Last (k + 1) last
      work_last = record {
        each = λ x within. done_stays N first last x (elim (cases_eq (number x) k) [
          | inl is ↦ subst (λ c. shown_in last c ≡ shown_in first c) (sym is) same_shown
          | inr other ↦ worked.since.shown (number x) other
        ]) (h.each x within);
        clean = λ c l. elim worked.ends [
          | inl e ↦ elim (cases_eq c k) [
            | inl is ↦ subst (λ x. IsClean (last.memory.cached (Mark x))) (sym is) e.0
            | inr other ↦ subst IsClean (sym (e.2 c other)) (h.clean c (omega (arith, other)))
          ]
          | inr changed ↦ absurd (changed same_shown)
        ];
      }

  pub work : (rounds k p : ℕ) (first last : PlainWorld) → k < N → Worked first last p k → IsSound last → Phase rounds k first → Phase rounds (k + 1) last
  work rounds k p first last low worked sound h = record {
    state = work_state first last p k low h.state worked sound;
    young = work_young first last p k low h.state worked rounds h.young;
    part = elim h.part [
      | inl m ↦ inl (m.0, m.1, m.2, work_mid first last p k low h.state worked m.0 m.2 m.3)
      | inr l ↦ inr (l.0, work_last first last p k low h.state worked l.1)
    ];
  }

  -- ---- the next marked cell

  pub record FindsOne (rounds k more : ℕ) (w : PlainWorld) : Type 0 where
    pub cell : ℕ
    pub is : marked_from w more k ≡ Some cell
    pub inside : cell < cells_of L
    pub marked : is_marked (state_at w cell) ≡ true
    pub phase : Phase rounds cell w

  pub record FindsNone (rounds k more : ℕ) (w : PlainWorld) : Type 0 where
    pub is : marked_from w more k ≡ None
    pub phase : Phase rounds (cells_of L) w
    pub clean : (c : ℕ) → k ≤ c → c < cells_of L → state_at w c ≡ state.Clean

  pub find : (more rounds k : ℕ) (w : PlainWorld) → k + more ≡ N → Phase rounds k w → FindsOne rounds k more w ⊎ FindsNone rounds k more w
  find zero rounds k w size h = inr (record { is = refl; phase = subst (λ n. Phase rounds n w) (let e : k ≡ N = omega (arith, size) in e) h; clean = λ c g l. absurd (omega (arith, size)) })
  find (suc more) rounds k w size h = by (λ r x g. find more r x w g) (is_marked (state_at w k)) refl
    where
      low : k < N
      low = omega (arith, size)

      on : (b : Bool) → is_marked (state_at w k) ≡ b → marked_from w (suc more) k ≡ (if b then Some k else marked_from w more (k + 1))
      on b is = ap (λ (x : Bool). if x then Some k else marked_from w more (k + 1)) is

      by : ((r x : ℕ) → x + more ≡ N → Phase r x w → FindsOne r x more w ⊎ FindsNone r x more w) → (b : Bool) → is_marked (state_at w k) ≡ b → FindsOne rounds k (suc more) w ⊎ FindsNone rounds k (suc more) w
      by again true is = inl (record { cell = k; is = on true is; inside = low; marked = is; phase = h })
      by again false is =
          let clean : state_at w k ≡ state.Clean = clean_at w h.state.sound h.state.idle k is in
          elim (again rounds (k + 1) (omega (arith, size)) (skip rounds k w low (clean_word w h.state.sound h.state.idle k clean) h)) [
            | inl one ↦ inl (record { cell = one.cell; is = on false is ∙ one.is; inside = one.inside; marked = one.marked; phase = one.phase })
            | inr none ↦ inr (record {
              is = on false is ∙ none.is;
              phase = none.phase;
              clean = λ c g l. elim (cases_eq c k) [
                | inl same ↦ ap (λ x. state_at w x) same ∙ clean
                | inr other ↦ none.clean c (omega (arith, other)) l
              ];
            })
          ]

  -- ---- the next round

  -- all cells are clean
  abbrev pub AllClean : PlainWorld → Type 0
  AllClean w = (c : ℕ) → c < cells_of L → IsClean (w.memory.cached (Mark c))

  next_young : (r : ℕ) (w : PlainWorld) → Young (suc r) N w → Young r 0 w
  next_young r w y = record { done = λ c l. absurd (omega arith); due = λ c g l. (let d = y.done c l in omega (arith, d)) }

  pub next_round : (r : ℕ) (w : PlainWorld) → Phase (suc r) N w → Phase r 0 w ⊎ AllClean w
  next_round r w h = elim h.part [
    | inl m ↦ (
        let each : (d : Cell) → IsInside L.shape d → Done (suc m.0) w d = λ d inside. (m.3.each d inside).0 (index_below L.shape d inside) in
        elim (cases_lt (suc m.0) N) [
          | inl less ↦ inl (record {
            state = h.state;
            young = next_young r w h.young;
            part = inl (suc m.0, (let e = m.1 in omega (arith, e)), less, record { each = λ d inside. (λ l. absurd (omega arith), λ g. each d inside) });
          })
          | inr all ↦ (
              let is : suc m.0 ≡ N = (let l = m.2 in omega (arith, l, all)) in
              inl (record {
                state = h.state;
                young = next_young r w h.young;
                part = inr ((let e = m.1 in omega (arith, e, is)), record { each = λ d inside. subst (λ n. Done n w d) is (each d inside); clean = λ c l. absurd (omega arith) });
              }))
        ])
    | inr l ↦ inr (λ c less. l.1.clean c less)
  ]

  pub no_round : (w : PlainWorld) (k : ℕ) → Phase 0 k w → ⊥
  no_round w k h = elim h.part [
    | inl m ↦ (let e = m.1 in let l = m.2 in omega (arith, e, l))
    | inr l ↦ (let e = l.0 in omega (arith, e))
  ]

  pub first_phase : (w : PlainWorld) → State w → ((c : ℕ) → c < N → age w c + 2 * (N + 2) ≤ SEEN_MOST) → 0 < N → Phase (N + 1) 0 w
  first_phase w st young some = record {
    state = st;
    young = record { done = λ c l. absurd (omega arith); due = λ c g l. (let y = young c l in omega (arith, y)) };
    part = inl (0, omega arith, some, record { each = λ d inside. (λ l. absurd (omega arith), λ g. record { settled = settled_first L.shape sheet (E w d) d; written = λ l. absurd (omega arith) }) });
  }
