-- A settle that is alone ends with all cells clean, unless an allocation failed.
use Rattle.std.proofs.Common.{Some, ℕ, zero, suc, ◌≡◌, ◌≢◌, ◌<◌, ◌≤◌, ◌+◌, ◌-◌, ◌⊎◌, refl, ap, sym, ◌∙◌, subst, arith, inl, inr, true, None}
use Rattle.std.specs.Prelude.{Option, Result, Ok}
use Rattle.std.proofs.lemmas.Bool.{cases_eq, cases_lt}
use Rattle.ds_formula.specs.Cells.{index_of}
use Rattle.ds_formula.specs.declared.cells.Cell.{Cell}
use Rattle.ds_formula.specs.Plain.{PlainContent, Empty}
use Rattle.ds_eval.proofs.Walks.{index_below}
use Rattle.ds_layout.specs.declared.layout.Layout.{Layout}
use Rattle.ds_layout.specs.declared.mark.State.{State}
use Rattle.ds_layout.specs.declared.mark.State.TheVariants as state
use Rattle.ds_layout.specs.Places.{cells_of}
use Rattle.ds_layout.specs.declared.place.Place.TheVariants.{Mark, Head}
use Rattle.ds_layout.specs.Mark.{IsClean}
use Rattle.ds_state.specs.KnownShow as shows
use Rattle.ds_state.specs.Standing.{HasContent}
use Rattle.ds_state.specs.World.{PlainWorld, PlainIssue}
use Rattle.ds_state.specs.CallsFit.{CallFits}
use Rattle.ds_state.specs.declared.situation.Situation.{Situation}
use Rattle.ds_state.specs.Value.{WorldValue, world_of, IsGood}
use Rattle.ds_state.specs.Sound.{IsSound}
use Rattle.ds_state.specs.declared.refusal.Refusal.{Refusal}
use Rattle.ds_state.specs.declared.refusal.Refusal.TheVariants as refusal
use Rattle.ds_state.specs.declared.work.WorkEnd.{WorkEnd}
use Rattle.ds_state.specs.declared.work.WorkEnd.TheVariants as ends
use Rattle.ds_state.proofs.CleanRead.{clean_reads}
use Rattle.ds_state.specs.declared.answer.Answer.{Answer}
use Rattle.ds_calls.specs.declared.settle.SettleEnd.{SettleEnd}
use Rattle.ds_calls.specs.declared.settle.SettleEnd.TheVariants as settle_ends
use Rattle.ds_calls.specs.declared.settle.SettleStage.{SettleStage}
use Rattle.ds_calls.specs.declared.settle.SettleStage.TheVariants.{Ends, Works}
use Rattle.ds_calls.specs.Marked.{state_at, is_marked, is_clean, marked_from, left_below, left_in}
use Rattle.ds_calls.specs.Settling.{round, first_of, next_of, goes_behind, worked, first_turn, Settling, begins, works}
use Rattle.ds_calls.specs.Lone.{AreIdle, AreYoung, EndsClean}
use Rattle.ds_calls.proofs.LoneFacts.{one_content, CallLeft, wanted, lacked, worked_so, whole_left}
use Rattle.ds_calls.proofs.LoneRounds as rounds_of

-- ---- all clean

clean_is : (s : State) → shows.is_clean s ≡ true → s ≡ state.Clean
clean_is state.Clean is = refl
clean_is state.Marked is = absurd (cc)
clean_is (state.Held p) is = absurd (cc)

clean_state : (w : PlainWorld) (c : ℕ) → IsClean (w.memory.cached (Mark c)) → state_at w c ≡ state.Clean
clean_state w c clean = clean_is (state_at w c) (clean_reads w.layout.processes (w.memory.cached (Mark c)) clean)

none_left : (w : PlainWorld) (n : ℕ) → ((c : ℕ) → c < n → state_at w c ≡ state.Clean) → left_below w n ≡ 0
none_left w zero all = refl
none_left w (suc n) all = rw (ap is_clean (all n (omega arith))) (none_left w n (λ c l. all c (omega arith)))

none_marked : (w : PlainWorld) (more k n : ℕ) → k + more ≡ n → ((c : ℕ) → c < n → state_at w c ≡ state.Clean) → marked_from w more k ≡ None
none_marked w zero k n size all = refl
none_marked w (suc more) k n size all = rw (ap is_marked (all k (omega (arith, size)))) (none_marked w more (k + 1) n (omega (arith, size)) all)

-- ---- the turns of a settle

module _ (L : Layout) (sheet : Cell → PlainContent) (p : ℕ) where
  abbrev N : ℕ
  N = cells_of L

  -- the settle works on this cell next
  record Stage (rounds cell : ℕ) (v : WorldValue) : Type 0 where
    good : IsGood v
    there : p < v.sheet.layout.processes
    phase : rounds_of.Phase L sheet rounds cell (world_of v)
    inside : cell < cells_of L
    marked : is_marked (state_at (world_of v) cell) ≡ true

  abbrev Inv : SettleStage → WorldValue → Type 0
  Inv (Ends end) v = EndsClean (world_of v) end
  Inv (Works rounds cell) v = Stage rounds cell v

  -- what holds before a round begins
  abbrev MayBegin : ℕ → PlainWorld → Type 0
  MayBegin zero w = rounds_of.AllClean L sheet w
  MayBegin (suc r) w = rounds_of.Phase L sheet r 0 w ⊎ rounds_of.AllClean L sheet w

  module _ (v : WorldValue) (good : IsGood v) (idle : AreIdle (world_of v)) (there : p < v.sheet.layout.processes) (layout : v.sheet.layout ≡ L) where
    abbrev w : PlainWorld
    w = world_of v

    all_states : rounds_of.AllClean L sheet (world_of v) → (c : ℕ) → c < N → state_at (world_of v) c ≡ state.Clean
    all_states all c l = clean_state (world_of v) c (all c l)

    ends_clean : ((c : ℕ) → c < N → state_at (world_of v) c ≡ state.Clean) → EndsClean (world_of v) (settle_ends.Left (left_in (world_of v)))
    ends_clean all =
        let each : (c : ℕ) → c < cells_of v.sheet.layout → state_at (world_of v) c ≡ state.Clean = λ c l. all c (subst (λ (y : Layout). c < cells_of y) layout l) in (
          none_left (world_of v) (cells_of v.sheet.layout) each,
          record {
            answered = λ q l. (let one = idle.each q l in (subst (λ (s : Situation). CallFits (world_of v) q s) one.1 (good.sound.calls q l)).open_edits);
            clean = each;
          },
        )

    -- the first cell of a round
    first_inv : (r : ℕ) → rounds_of.FindsOne L sheet r 0 (cells_of L) (world_of v) ⊎ rounds_of.FindsNone L sheet r 0 (cells_of L) (world_of v) → Inv (round v (suc r)) v
    first_inv r (inl one) = subst (λ (t : SettleStage). Inv t v) (sym (ap (λ (y : Layout). first_of v r (marked_from (world_of v) (cells_of y) 0)) layout ∙ ap (λ (o : Option ℕ). first_of v r o) one.is))
        (record { good = good; there = there; phase = one.phase; inside = one.inside; marked = one.marked })
    first_inv r (inr none) = subst (λ (t : SettleStage). Inv t v) (sym (ap (λ (y : Layout). first_of v r (marked_from (world_of v) (cells_of y) 0)) layout ∙ ap (λ (o : Option ℕ). first_of v r o) none.is))
        (ends_clean (λ c l. none.clean c (omega arith) l))

    round_inv : (rounds : ℕ) → MayBegin rounds (world_of v) → Inv (round v rounds) v
    round_inv zero all = ends_clean (all_states all)
    round_inv (suc r) (inl phase) = first_inv r (rounds_of.find L sheet (cells_of L) r 0 (world_of v) (omega arith) phase)
    round_inv (suc r) (inr all) = subst (λ (t : SettleStage). Inv t v) (sym (ap (λ (y : Layout). first_of v r (marked_from (world_of v) (cells_of y) 0)) layout
        ∙ ap (λ (o : Option ℕ). first_of v r o) (none_marked (world_of v) (cells_of L) 0 (cells_of L) (omega arith) (all_states all))))
        (ends_clean (all_states all))

    may_begin : (rounds : ℕ) → rounds_of.Phase L sheet rounds (cells_of L) (world_of v) → MayBegin rounds (world_of v)
    may_begin zero phase = absurd (rounds_of.no_round L sheet (world_of v) (cells_of L) phase)
    may_begin (suc r) phase = rounds_of.next_round L sheet r (world_of v) phase

    -- after a cell
    behind_inv : (rounds cell : ℕ) → cell < N → rounds_of.Phase L sheet rounds (cell + 1) (world_of v) → Inv (goes_behind v rounds cell) v
    behind_inv rounds cell low phase = by (rounds_of.find L sheet (cells_of L - (cell + 1)) rounds (cell + 1) (world_of v) (omega arith) phase)
      where
        same : goes_behind v rounds cell ≡ next_of v rounds (marked_from (world_of v) (cells_of L - (cell + 1)) (cell + 1))
        same = ap (λ (y : Layout). next_of v rounds (marked_from (world_of v) (cells_of y - (cell + 1)) (cell + 1))) layout

        by : rounds_of.FindsOne L sheet rounds (cell + 1) (cells_of L - (cell + 1)) (world_of v) ⊎ rounds_of.FindsNone L sheet rounds (cell + 1) (cells_of L - (cell + 1)) (world_of v) → Inv (goes_behind v rounds cell) v
        by (inl one) = subst (λ (t : SettleStage). Inv t v) (sym (same ∙ ap (λ (o : Option ℕ). next_of v rounds o) one.is))
            (record { good = good; there = there; phase = one.phase; inside = one.inside; marked = one.marked })
        by (inr none) = subst (λ (t : SettleStage). Inv t v) (sym (same ∙ ap (λ (o : Option ℕ). next_of v rounds o) none.is)) (round_inv rounds (may_begin rounds none.phase))

  -- ---- a work

  goes_on : (v : WorldValue) (rounds cell : ℕ) (end : WorkEnd) → end ≢ ends.NoMemory → goes_behind v rounds cell ≡ worked v rounds cell (Ok end)
  goes_on v rounds cell ends.NoMemory not = absurd (not refl)
  goes_on v rounds cell _ not = refl

  work_inv : (rounds cell : ℕ) (old new : WorldValue) (result : Result WorkEnd Refusal) → Stage rounds cell old → CallLeft old p cell result new → Inv (worked new rounds cell result) new
  work_inv rounds cell old new result s (wanted n) = refl
  work_inv rounds cell old new result s (lacked n) = tt
  work_inv rounds cell old new result s (worked_so end n not good left) =
      let layout : new.sheet.layout ≡ L = left.since.layout ∙ s.phase.state.layout in
      subst (λ (t : SettleStage). Inv t new) (goes_on new rounds cell end not)
      (behind_inv new good left.idle (subst (λ (y : Layout). p < y.processes) (sym left.since.layout) s.there) layout rounds cell s.inside
      (rounds_of.work L sheet rounds cell p (world_of old) (world_of new) s.inside left good.sound s.phase))

  settle_inv : (first : WorldValue) → Inv (first_turn first) first → (turn : SettleStage) (v : WorldValue) → Settling p first turn v → Inv turn v
  settle_inv first h turn v begins = h
  settle_inv first h turn v (works rounds cell old new result so_far whole) =
      let s : Stage rounds cell old = settle_inv first h (Works rounds cell) old so_far in
      let due = s.phase.young.due cell (omega arith) s.inside in
      let inside : cell < cells_of old.sheet.layout = subst (λ (y : Layout). cell < cells_of y) (sym s.phase.state.layout) s.inside in
      work_inv rounds cell old new result s (whole_left old p cell s.good s.phase.state.idle inside s.there s.marked (omega (arith, due)) result new whole)

-- ---- a sheet, where it is known of each cell whether it has a content

decide_all : (P : ℕ → Type 0) (n : ℕ) → (((c : ℕ) → c < n → P c ⊎ (P c → ⊥)) → ⊥) → ⊥
decide_all P zero h = h (λ c l. absurd (omega arith))
decide_all P (suc n) h = decide_all P n (λ f. with_last f (inr (λ x. with_last f (inl x))))
  where
    with_last : ((c : ℕ) → c < n → P c ⊎ (P c → ⊥)) → P n ⊎ (P n → ⊥) → ⊥
    with_last f last = h (λ c l. elim (cases_eq c n) [ inl same ↦ subst (λ x. P x ⊎ (P x → ⊥)) (sym same) last | inr other ↦ f c (omega (arith, other)) ])

abbrev HasSome : PlainWorld → ℕ → Type 0
HasSome w c = (content : PlainContent) × HasContent w c (w.memory.cached (Head c)) content

chosen : (w : PlainWorld) (c : ℕ) → HasSome w c ⊎ (HasSome w c → ⊥) → PlainContent
chosen w c (inl one) = one.0
chosen w c (inr none) = Empty

chosen_is : (w : PlainWorld) → IsSound w → (c : ℕ) (o : HasSome w c ⊎ (HasSome w c → ⊥)) (content : PlainContent) → HasContent w c (w.memory.cached (Head c)) content → content ≡ chosen w c o
unfolding chosen
chosen_is w sound c (inl one) content h = one_content w sound c content one.0 h one.1
chosen_is w sound c (inr none) content h = absurd (none (content, h))

module _ (w : PlainWorld) (sound : IsSound w) (f : (c : ℕ) → c < cells_of w.layout → HasSome w c ⊎ (HasSome w c → ⊥)) where
  content_by : (c : ℕ) → (c < cells_of w.layout) ⊎ (cells_of w.layout ≤ c) → PlainContent
  content_by c (inl l) = chosen w c (f c l)
  content_by c (inr g) = Empty

  sheet_by : Cell → PlainContent
  sheet_by d = content_by (index_of w.layout.shape d) (cases_lt (index_of w.layout.shape d) (cells_of w.layout))

  found : (c : ℕ) (content : PlainContent) → c < cells_of w.layout → HasContent w c (w.memory.cached (Head c)) content → (o : (c < cells_of w.layout) ⊎ (cells_of w.layout ≤ c)) → content ≡ content_by c o
  unfolding content_by
  found c content low h (inl l) = chosen_is w sound c (f c l) content h
  found c content low h (inr g) = absurd (omega arith)

  has_sheet : rounds_of.HasSheet w.layout sheet_by w
  unfolding sheet_by
  has_sheet d inside content h = found (index_of w.layout.shape d) content (index_below w.layout.shape d inside) h (cases_lt (index_of w.layout.shape d) (cells_of w.layout))

-- ---- what can be reported

none_by : (n : ℕ) → ((n ≡ 0 → ⊥) → ⊥) → n ≡ 0
none_by n h = elim (cases_eq n 0) [ inl is ↦ is | inr some ↦ absurd (h some) ]

closed_by : (o : Option PlainIssue) → ((o ≡ None → ⊥) → ⊥) → o ≡ None
closed_by None h = refl
closed_by (Some issue) h = absurd (h (λ is. cc))

clean_so : (s : State) → ((s ≡ state.Clean → ⊥) → ⊥) → s ≡ state.Clean
clean_so state.Clean h = refl
clean_so state.Marked h = absurd (h (λ is. cc))
clean_so (state.Held q) h = absurd (h (λ is. cc))

-- ---- a settle

module _ (p : ℕ) (first : WorldValue) (good : IsGood first) (idle : AreIdle (world_of first)) (young : AreYoung (world_of first) (cells_of first.sheet.layout + 2)) (there : p < first.sheet.layout.processes) where
  with_sheet : (sheet : Cell → PlainContent) → rounds_of.HasSheet first.sheet.layout sheet (world_of first) → (end : SettleEnd) (new : WorldValue) → Settling p first (Ends end) new → EndsClean (world_of new) end
  with_sheet sheet has end new settling =
      settle_inv first.sheet.layout sheet p first (begins_so (cases_lt 0 (cells_of first.sheet.layout))) (Ends end) new settling
    where
      layout : Layout
      layout = first.sheet.layout

      turn_is : first_turn first ≡ round first (suc (cells_of first.sheet.layout + 1))
      turn_is = ap (λ n. round first n) (let e : cells_of first.sheet.layout + 2 ≡ suc (cells_of first.sheet.layout + 1) = omega arith in e)

      begins_so : (0 < cells_of first.sheet.layout) ⊎ (cells_of first.sheet.layout ≤ 0) → Inv first.sheet.layout sheet p (first_turn first) first
      begins_so (inl some) = subst (λ (t : SettleStage). Inv first.sheet.layout sheet p t first) (sym turn_is) (round_inv first.sheet.layout sheet p first good idle there refl (suc (cells_of first.sheet.layout + 1))
          (inl (rounds_of.first_phase first.sheet.layout sheet (world_of first) (record { layout = refl; sound = good.sound; idle = idle; sheet_is = has }) young.each some)))
      begins_so (inr none) = subst (λ (t : SettleStage). Inv first.sheet.layout sheet p t first) (sym turn_is) (round_inv first.sheet.layout sheet p first good idle there refl (suc (cells_of first.sheet.layout + 1))
          (inr (λ c l. absurd (omega arith))))

  -- without a sheet: how it ends is known, so each cell may be taken to have a content or none
  clean_by : (end : SettleEnd) (new : WorldValue) → Settling p first (Ends end) new → (EndsClean (world_of new) end → ⊥) → ⊥
  clean_by end new settling none = decide_all (HasSome (world_of first)) (cells_of first.sheet.layout) (λ f. none (with_sheet (sheet_by (world_of first) good.sound f) (has_sheet (world_of first) good.sound f) end new settling))

  pub settles_clean : (end : SettleEnd) (new : WorldValue) → Settling p first (Ends end) new → EndsClean (world_of new) end
  settles_clean (settle_ends.Left left) new settling =
      let told = clean_by (settle_ends.Left left) new settling in (
        none_by left (λ not. told (λ h. not h.0)),
        record {
          answered = λ q l. closed_by ((world_of new).open_edits q) (λ not. told (λ h. not (h.1.answered q l)));
          clean = λ c l. clean_so (state_at (world_of new) c) (λ not. told (λ h. not (h.1.clean c l)));
        },
      )
  settles_clean (settle_ends.Refused refusal.NoMemory) new settling = refl
  settles_clean (settle_ends.Refused why) new settling = absurd (clean_by (settle_ends.Refused why) new settling (λ is. cc))
  settles_clean settle_ends.NoMemory new settling = tt
