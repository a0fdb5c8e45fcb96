-- Where each process is idle: what clean marks say, which marks there are, and what a whole work leaves.
use Rattle.std.proofs.Common.{ℕ, ◌≡◌, ◌≢◌, ◌<◌, ◌≤◌, ◌+◌, ◌⊎◌, ◌++◌, append_assoc, refl, ap, sym, ◌∙◌, subst, arith, inl, inr, List, [], ◌∷◌, Bool, true, false, Some, None, length}
use Rattle.std.specs.Prelude.{Option, Result, Ok, Err}
use Rattle.std.proofs.lemmas.Bool.{cases_eq}
use Rattle.ds_state.specs.declared.situation.Rest.{Rest}
use Rattle.ds_formula.specs.Cells.{IsInside, index_of, cell_at}
use Rattle.ds_formula.specs.declared.cells.Cell.{Cell}
use Rattle.ds_formula.specs.Plain.{PlainContent}
use Rattle.ds_formula.specs.Refs.{Refers}
use Rattle.ds_formula.specs.Grammar.{Reads}
use Rattle.ds_formula.proofs.Whole.{only_content, blank_read}
use Rattle.ds_eval.specs.Local.{local}
use Rattle.ds_eval.proofs.Neighbours as neighbours
use Rattle.ds_eval.proofs.Rounds.{index_at}
use Rattle.ds_layout.specs.declared.layout.Layout.{Layout}
use Rattle.ds_layout.specs.declared.mark.State.{State}
use Rattle.ds_layout.specs.declared.mark.State.TheVariants as state
use Rattle.ds_layout.specs.Places.{cells_of}
use Rattle.ds_layout.specs.declared.place.Place.TheVariants.{Mark, Head, Kind, Index}
use Rattle.ds_layout.specs.Mark.{IsClean, generation_of, mark_of, state_of, state_by}
use Rattle.ds_state.specs.Works.{PlainWorkCall, SEEN_MOST}
use Rattle.ds_state.specs.Owing.{CellOwes, IsExcused, Excuses, Owes}
use Rattle.ds_state.specs.Standing.{HasContent, value_for}
use Rattle.ds_state.specs.Shown.{mark_at, last_text, MayHold}
use Rattle.ds_state.specs.World.{PlainWorld, PlainEdit, of_cell, head_by, head_after_all}
use Rattle.ds_state.specs.Value.{WorldValue, world_of, IsGood}
use Rattle.ds_state.specs.Sound.{IsSound}
use Rattle.ds_state.specs.declared.refusal.Refusal.{Refusal}
use Rattle.ds_state.specs.declared.refusal.Refusal.TheVariants as refusal
use Rattle.ds_state.specs.declared.situation.Situation.{Situation}
use Rattle.ds_state.specs.declared.situation.Situation.TheVariants.{Idle}
use Rattle.ds_state.specs.declared.work.WorkEnd.{WorkEnd}
use Rattle.ds_state.specs.declared.work.WorkEnd.TheVariants as ends
use Rattle.ds_state.specs.declared.work.WorkStage.TheVariants as stages
use Rattle.ds_state.proofs.Heads.{Small, small_counted, small_of_cell, head_low, head_push, head_grows}
use Rattle.ds_state.proofs.MarkLaws.{mark_names}
use Rattle.ds_state.proofs.CleanRead.{clean_read}
use Rattle.ds_state.specs.declared.answer.Answer.TheVariants.{Work}
use Rattle.ds_work.specs.WorkTakes.{RefusesIn}
use Rattle.ds_work.specs.WorkSteps as steps
use Rattle.ds_work.specs.WorkAnswers.{mark_now}
use Rattle.ds_work.specs.WorkShows.{CellWords, shown_in, EndsShowing}
use Rattle.ds_work.specs.WorkAlone.{EndsAlone}
use Rattle.ds_work.proofs.WorkShows.{shown_kept}
use Rattle.ds_core.specs.Takes.{Fits}
use Rattle.ds_core.specs.WorkEvents.{WorkBegins}
use Rattle.ds_core.specs.declared.event.Event.TheVariants.{BeginWork}
use Rattle.ds_core.specs.declared.reply.Reply.{Reply}
use Rattle.ds_core.specs.declared.reply.Reply.TheVariants.{Begun, Entered}
use Rattle.ds_calls.specs.Marked.{state_at, is_marked}
use Rattle.ds_calls.specs.Whole.{Whole, finishes, refused, HasBegun, Finishes}
use Rattle.ds_calls.specs.Lone.{AreIdle}
use Rattle.ds_calls.proofs.Leaving.{age, entries_in, Gives, Untold, EndLeaves, Since}
use Rattle.ds_calls.proofs.LoneCalls.{Under, Over, call_ends}

-- ---- one content for each cell

last_push : (before : List PlainEdit) (e : PlainEdit) → last_text (before ++ e ∷ []) ≡ e.text
last_push [] e = refl
last_push (x ∷ []) e = refl
last_push (x ∷ y ∷ xs) e = last_push (y ∷ xs) e

none_left : (es : List PlainEdit) → Small es → head_after_all es ≡ 0 → last_text es ≡ []
none_left [] s is = refl
none_left (e ∷ es) s is = absurd (let low = head_low (e ∷ es) s in omega arith)

its_last : (before : List PlainEdit) (by : PlainEdit) (after : List PlainEdit) → Small (before ++ by ∷ after) → head_after_all (before ++ by ∷ after) ≡ head_by (length before + 1) by → last_text (before ++ by ∷ after) ≡ by.text
its_last before by [] s is = last_push before by
its_last before by (x ∷ after) s is =
    let again : (before ++ by ∷ []) ++ x ∷ after ≡ before ++ by ∷ x ∷ after = append_assoc before (by ∷ []) (x ∷ after) in
    let grows = head_grows (before ++ by ∷ []) x after (subst (λ (xs : List PlainEdit). Small xs) (sym again) s) in
    let same = ap head_after_all again in
    let l = head_push before by in
    absurd (omega arith)

module _ (w : PlainWorld) (sound : IsSound w) where
  reads_last : (c : ℕ) (content : PlainContent) → HasContent w c (w.memory.cached (Head c)) content → Reads w.layout.shape (last_text (of_cell c w.counted)) content
  reads_last c content h =
      let small : Small (of_cell c w.counted) = small_of_cell c w.counted (small_counted w sound.of_sheet) in
      let last = (sound.words (Head c)).last in
      elim h [
        | inl none ↦ subst (λ (text : List ℕ). Reads w.layout.shape text content) (sym (none_left (of_cell c w.counted) small (sym last ∙ none.0)))
            (subst (λ (x : PlainContent). Reads w.layout.shape [] x) (sym none.1) (blank_read w.layout.shape [] refl))
        | inr t ↦ subst (λ (text : List ℕ). Reads w.layout.shape text content)
            (sym (ap last_text t.gave.parts ∙ its_last t.gave.before t.by t.gave.after (subst (λ (xs : List PlainEdit). Small xs) t.gave.parts small) (ap head_after_all (sym t.gave.parts) ∙ sym last ∙ t.gave.is)))
            t.reads
      ]

  pub one_content : (c : ℕ) (content other : PlainContent) → HasContent w c (w.memory.cached (Head c)) content → HasContent w c (w.memory.cached (Head c)) other → content ≡ other
  one_content c content other h k = only_content w.layout.shape (last_text (of_cell c w.counted)) content other (reads_last c content h) (reads_last c other k)

abbrev words_of : ℕ → ℕ → CellWords
words_of v k = record { value = v; kind = k }

-- ---- marks where each process is idle

module _ (w : PlainWorld) (sound : IsSound w) (idle : AreIdle w) where
  nobody_holds : (c q : ℕ) → (mark_at w.layout w.memory c).holder ≡ Some q → ⊥
  nobody_holds c q is =
      let named = mark_names w c q sound is in
      let one = idle.each q named.0 in
      subst (λ (s : Situation). MayHold c s) one.1 named.1

  by_holder : (c : ℕ) (o : Option ℕ) (dirty : Bool) → (mark_at w.layout w.memory c).holder ≡ o → is_marked (state_by o dirty) ≡ false → state_by o dirty ≡ state.Clean
  by_holder c None false is not = refl
  by_holder c None true is not = absurd (cc)
  by_holder c (Some q) dirty is not = absurd (nobody_holds c q is)

  pub clean_at : (c : ℕ) → is_marked (state_at w c) ≡ false → state_at w c ≡ state.Clean
  clean_at c not = by_holder c (mark_at w.layout w.memory c).holder (mark_at w.layout w.memory c).dirty refl not

  pub clean_word : (c : ℕ) → state_at w c ≡ state.Clean → IsClean (w.memory.cached (Mark c))
  clean_word c is = clean_read w c (w.memory.cached (Mark c)) (sound.words (Mark c)).holder (rw is refl)

  no_excuse : (c x : ℕ) → IsExcused w c x → ⊥
  no_excuse c x o = subst (λ (s : Situation). Excuses w o.process s c x) (idle.each o.process o.inside).1 o.still

  no_debt : (r c x : ℕ) → CellOwes w r c x → ⊥
  no_debt r c x o = subst (λ (s : Situation). Owes w.memory o.holder s r c x) (idle.each o.holder ((sound.words (Mark r)).holder o.holder o.held.by).0).1 o.still

  -- a clean cell shows what its content gives
  pub clean_gives : (c : ℕ) → IsClean (w.memory.cached (Mark c)) → Gives w w c
  clean_gives c clean = elim (sound.stand.on_cached c clean) [
    | inl o ↦ absurd (no_excuse c (w.memory.cached (Mark c)) o)
    | inr h ↦ (
        let near : (d : Cell) → Refers h.content d → IsInside w.layout.shape d → h.inputs d ≡ entries_in w d =
        (λ d refers inside. elim (h.near d refers inside) [ inl is ↦ is | inr o ↦ absurd (no_debt (index_of w.layout.shape d) c (w.memory.cached (Mark c)) o) ]) in
        record {
          entry = local w.layout.shape h.content h.inputs;
          given = record { content = h.content; has = h.has; is = neighbours.local_on w.layout.shape h.content h.inputs (entries_in w) near };
          shows = ap (λ x. words_of x (w.memory.cached (Kind c))) h.on_value ∙ ap (λ x. words_of (value_for (local w.layout.shape h.content h.inputs)) x) h.on_kind;
        })
  ]

-- ---- a whole work

-- what a whole work on a marked cell leaves, where each process was idle
pub record Worked (first last : PlainWorld) (p c : ℕ) : Type 0 where
  pub since : Since first last p c
  pub idle : AreIdle last
  pub gives : Gives first last c
  pub older : age last c ≡ age first c + 2
  pub ends : (IsClean (last.memory.cached (Mark c)) × (shown_in last c ≡ shown_in first c) × Untold first last c) ⊎ (shown_in last c ≢ shown_in first c)

marked_is : (s : State) → is_marked s ≡ true → s ≡ state.Marked
marked_is state.Marked is = refl
marked_is state.Clean is = absurd (cc)
marked_is (state.Held p) is = absurd (cc)

module _ (old mid : WorldValue) (p c : ℕ) (inside : c < cells_of old.sheet.layout) (there : p < old.sheet.layout.processes) (marked : is_marked (state_at (world_of old) c) ≡ true) (young : age (world_of old) c ≤ SEEN_MOST) (h : WorkBegins old p (cell_at old.sheet.layout.shape c) mid) where
  e : PlainWorkCall
  e = h.begun.work

  cell_is : h.begun.work.cell ≡ c
  cell_is = h.begun.cell_is ∙ index_at old.sheet.layout.shape c

  word_is : (world_of mid).memory.cached (Mark h.begun.work.cell) ≡ (world_of old).memory.cached (Mark c)
  word_is = h.begun.begins.turn.memory.cached (Mark h.begun.work.cell) ∙ ap (λ d. (world_of old).memory.cached (Mark d)) cell_is

  begins_under : Under (world_of old) p c mid
  begins_under =
      let b = h.begun.begins in
      let w : PlainWorkCall = h.begun.work in
      record {
        work = steps.at w stages.LoadMark;
        mine = h.begun.process_is;
        of_cell = cell_is;
        at = ap (λ q. (world_of mid).situation q) (sym h.begun.process_is) ∙ b.turn.situation;
        there = subst (λ (y : Layout). p < y.processes) (sym b.turn.layout) there;
        alone = record {
          at = record {
            marked = ap (λ x. state_of (mark_of w.processes x)) word_is ∙ ap (λ n. state_of (mark_of n ((world_of old).memory.cached (Mark c)))) (sym b.processes) ∙ marked_is (state_at (world_of old) c) marked;
            young = subst (λ x. generation_of x ≤ SEEN_MOST) (sym word_is) young;
          };
          shows = shown_kept (world_of old) (world_of mid) w.cell b.turn.memory ∙ ap (λ d. shown_in (world_of old) d) cell_is;
          index = λ part. b.turn.memory.cached (Index w.cell part) ∙ ap (λ d. (world_of old).memory.cached (Index d part)) cell_is;
        };
        since = record {
          layout = b.turn.layout;
          counted = b.turn.counted;
          others = λ q other. b.turn.others q (λ is. other (is ∙ h.begun.process_is));
          head = λ d. b.turn.memory.cached (Head d);
          shown = λ d other. shown_kept (world_of old) (world_of mid) d b.turn.memory;
          ages = λ d other. ap generation_of (b.turn.memory.cached (Mark d));
        };
        leaves = (λ d other. b.turn.memory.cached (Mark d), ap generation_of (b.turn.memory.cached (Mark w.cell)));
      }

-- it came to want memory, or it worked
pub data CallLeft (old : WorldValue) (p c : ℕ) : Result WorkEnd Refusal → WorldValue → Type 0 where
  wanted : (new : WorldValue) → CallLeft old p c (Err refusal.NoMemory) new
  lacked : (new : WorldValue) → CallLeft old p c (Ok ends.NoMemory) new
  worked_so : (end : WorkEnd) (new : WorldValue) → end ≢ ends.NoMemory → IsGood new → Worked (world_of old) (world_of new) p c → CallLeft old p c (Ok end) new

module _ (old : WorldValue) (p c : ℕ) (good : IsGood old) (idle : AreIdle (world_of old)) (inside : c < cells_of old.sheet.layout) (there : p < old.sheet.layout.processes)
    (marked : is_marked (state_at (world_of old) c) ≡ true) (young : age (world_of old) c ≤ SEEN_MOST) where
  all_idle : (new : WorldValue) (n : Rest) → Since (world_of old) (world_of new) p c → (world_of new).situation p ≡ Idle n → AreIdle (world_of new)
  all_idle new n since is = record {
    each = λ q l. elim (cases_eq q p) [
      | inl same ↦ (n, ap (λ x. (world_of new).situation x) same ∙ is)
      | inr other ↦ (let one = idle.each q (subst (λ (y : Layout). q < y.processes) since.layout l) in (one.0, since.others q other ∙ one.1))
    ];
  }

  over_left : (end : WorkEnd) (new : WorldValue) → IsGood new → Over (world_of old) p c (Work end) new → CallLeft old p c (Ok end) new
  over_left end new g o = let said : Work end ≡ Work o.end = o.is in let same : end ≡ o.end = cc in subst (λ (a : WorkEnd). CallLeft old p c (Ok a) new) (sym same) (by o.end o.so o.showing o.leaves)
    where
      clean : IsClean (mark_now (world_of new) o.work) → IsClean ((world_of new).memory.cached (Mark c))
      clean h = subst (λ d. IsClean ((world_of new).memory.cached (Mark d))) o.of_cell h

      by : (end : WorkEnd) → EndsAlone (λ part. (world_of old).memory.cached (Index c part)) (world_of new) o.work end → EndsShowing (shown_in (world_of old) c) (shown_in (world_of new) c) end → EndLeaves (world_of old) (world_of new) c end → CallLeft old p c (Ok end) new
      by ends.NotDirty so showing left = absurd so
      by ends.Missed so showing left = absurd so
      by ends.Worn so showing left = absurd so
      by (ends.Published true) so showing left = worked_so (ends.Published true) new (λ is. cc) g (record { since = o.since; idle = all_idle new o.n o.since o.idle; gives = left.0; older = left.1; ends = inr showing })
      by (ends.Published false) so showing left = worked_so (ends.Published false) new (λ is. cc) g (record { since = o.since; idle = all_idle new o.n o.since o.idle; gives = left.0; older = left.1; ends = inl (clean so, showing, left.2) })
      by ends.Again so showing left = worked_so ends.Again new (λ is. cc) g (record { since = o.since; idle = all_idle new o.n o.since o.idle; gives = left.0; older = left.1; ends = inr showing })
      by ends.NoMemory so showing left = lacked new

  begun_left : (reply : Reply) (mid new : WorldValue) (end : WorkEnd) → HasBegun reply → Fits old (BeginWork p (cell_at old.sheet.layout.shape c)) reply mid → Finishes p mid (Work end) new → CallLeft old p c (Ok end) new
  begun_left Entered mid new end begun fits f =
      over_left end new f.answers.good (call_ends (world_of old) p c idle mid (Work end) new (record { good = fits.good; under = begins_under old mid p c inside there marked young fits.takes }) f)
  begun_left (Begun number) mid new end begun fits f = absurd fits.takes
  begun_left reply mid new end begun fits f = absurd begun

  pub whole_left : (result : Result WorkEnd Refusal) (new : WorldValue) → Whole Work p (BeginWork p (cell_at old.sheet.layout.shape c)) old result new → CallLeft old p c result new
  whole_left result new (finishes reply mid n end begun fits f) = begun_left reply mid new end begun fits f
  whole_left result new (refused why n fits) =
      let one = idle.each p there in
      let is : why ≡ refusal.NoMemory = subst (λ (s : Situation). RefusesIn s why) one.1 fits.takes.holds in
      subst (λ (r : Refusal). CallLeft old p c (Err r) new) (sym is) (wanted new)
