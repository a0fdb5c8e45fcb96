-- A recovery makes the head of its edit in doubt durable.
use Rattle.std.proofs.Common.{ℕ, ◌≡◌, ◌≢◌, ◌<◌, ◌≤◌, ◌+◌, ◌⊎◌, List, [], ◌∷◌, ◌++◌, refl, ap, sym, ◌∙◌, subst, arith, inl, inr, Some, true, max}
use Rattle.std.specs.Prelude.{Contains, Option, Bool}
use Rattle.std.proofs.lemmas.Bool.{cases_eq}
use Rattle.ds_words.specs.Memory.{FlushesAt, WritesBack}
use Rattle.ds_layout.specs.Places.{class_of}
use Rattle.ds_layout.specs.declared.place.Place.{Place}
use Rattle.ds_layout.specs.declared.place.Place.TheVariants.{Version, Head, Mark, Announce}
use Rattle.ds_state.specs.Works.{PlainRecoverCall}
use Rattle.ds_state.specs.World.{PlainEdit, PlainIssue, PlainWorld, of_cell, head_after_all, IsHeadBy}
use Rattle.ds_state.specs.Known.{IsIn}
use Rattle.ds_state.specs.Owing.{entry, Owes, Parts, Excuses, IsExcused, Splits}
use Rattle.ds_layout.specs.Mark.{IsHeldBy}
use Rattle.ds_state.specs.KnownRecovery.{HasHead, IsOpenAnd, SettledAs, ResolvedFits, settled}
use Rattle.ds_state.specs.CallsFit.{CallFits, DoubtFits, RecoveryFits}
use Rattle.ds_state.specs.WordsFit.{WordFits}
use Rattle.ds_state.specs.Rely.{Grows, Keeps}
use Rattle.ds_state.specs.Sound.{IsSound, Increasing}
use Rattle.ds_recover.specs.RecoverySteps.{StepsAt, at}
use Rattle.ds_state.specs.declared.recovery.RecoverStage.TheVariants.{FlushHead, BackHead, OrMark}
use Rattle.ds_state.specs.declared.situation.Situation.{Situation}
use Rattle.ds_state.specs.declared.situation.Situation.TheVariants.{Recovering}
use Rattle.ds_state.proofs.Heads.{Small, small_counted, small_of_cell, by_most, by_last, by_cases, persisted_most}
use Rattle.ds_state.proofs.Noted.{last_cases}
use Rattle.ds_state.proofs.Losing.{increasing_cell, last_greater}
use Rattle.ds_state.proofs.Stable.{doubt_grows}
use Rattle.ds_state.proofs.StableRecovery.{resolved_stable}
use Rattle.ds_state.proofs.Frames.{CatchesUp, Moves, KeepsOwing, KeepsApart, moves_sound}
use Rattle.ds_state.proofs.Bearing.{Mine, bears, all_stand, text_same, apart_lasts, excused_lasts, splits_last, pends_last, marks_grow}
use Rattle.ds_state.proofs.Buffers.{buffered}
use Rattle.ds_state.proofs.EditFrame.{back_any}
use Rattle.ds_state.proofs.EditSteps.{head_back}
use Rattle.ds_state.proofs.Accesses.{Turn, flush_moves}
use Rattle.ds_recover.proofs.RecoveryFrame.{turn_of, held_on, pends_on, simple_passes, flushes}
use Rattle.ds_recover.proofs.RecoveryBack.{pends_from, first_back, between, moved_back, grown_back}

same_issue : {o : Option PlainIssue} {a b : PlainIssue} → o ≡ Some a → o ≡ Some b → a ≡ b
same_issue x y = let both : Some _ ≡ Some _ = sym x ∙ y in cc

-- the head of a cell that has an edit is some edit's, and no earlier one
record NowHead (w : PlainWorld) (cell own : ℕ) : Type 0 where
  pub by : PlainEdit
  pub gave : IsHeadBy (of_cell cell w.counted) (w.memory.cached (Head cell)) by
  pub enough : own ≤ w.memory.cached (Head cell)

now_head : (w : PlainWorld) → IsSound w → (cell own : ℕ) (f : PlainEdit) → IsHeadBy (of_cell cell w.counted) own f → NowHead w cell own
now_head w sound cell own f h =
    let small : Small (of_cell cell w.counted) = small_of_cell cell w.counted (small_counted w sound.of_sheet) in
    let most = by_most (of_cell cell w.counted) own f small h in
    let is = (sound.words (Head cell)).last in
    elim (last_cases (of_cell cell w.counted)) [
      | inl none ↦ absurd (nothing h.before (sym none ∙ h.parts))
      | inr found ↦ record {
        by = found.1;
        gave = subst (λ (x : ℕ). IsHeadBy (of_cell cell w.counted) x found.1) (ap head_after_all (sym found.2) ∙ sym is) (subst (λ (es : List PlainEdit). IsHeadBy es (head_after_all (found.0 ++ found.1 ∷ [])) found.1) (sym found.2) (by_last found.0 found.1));
        enough = omega arith;
      }
    ]
  where
    nothing : (before : List PlainEdit) → [] ≡ before ++ f ∷ h.after → ⊥
    nothing [] is = cc
    nothing (b ∷ bs) is = cc

in_parts : (before : List PlainEdit) (e : PlainEdit) (after : List PlainEdit) → Contains (before ++ e ∷ after) e
in_parts before e after = Rattle.ds_state.proofs.Found.contains_at before e after

module _ (e : PlainRecoverCall) (word : ℕ) (old new : PlainWorld) (sound : IsSound old) (real : e.process < old.layout.processes) where
  abbrev p : ℕ
  p = e.process

  pub step_flush_head : old.situation e.process ≡ Recovering (at e FlushHead) → RecoveryFits old e.process (at e FlushHead) → StepsAt e FlushHead word old new → Keeps e.process old new
  step_flush_head was fits t =
      let m : FlushesAt p (Head e.cell) (class_of (Head e.cell)) old.memory new.memory = t.memory.1 in
      let tn : Turn p old new = turn_of e FlushHead word old new real was tt t in
      let moves : Moves p Version old new = flush_moves p old new tn (Head e.cell) (class_of (Head e.cell)) m in
      let h : IsOpenAnd old p e.announcement e.cell (λ f. (own : ℕ) × IsIn old f own) = fits.resolved in
      let own : ℕ = h.and.0 in
      let stands : IsHeadBy (of_cell e.cell old.counted) own h.issue.edit = subst (λ (c : ℕ). IsHeadBy (of_cell c old.counted) own h.issue.edit) h.own_is h.and.1.head in
      let n : NowHead old e.cell own = now_head old sound e.cell own h.issue.edit stands in
      flushes e e.mark e.row e.announcement e.cell FlushHead BackHead old new sound was fits real tn t.situation t.open_edits
      (simple_passes p e.row FlushHead e.row BackHead old new (held_on p old new moves) (pends_on p old new moves t.open_edits)
      (λ r d x bit matters held o. o) (λ d x matters k o. tt) (λ r held o. o) (λ f before last_of issue issued same k o. tt))
      (Head e.cell) m (λ k. k) (λ k. k)
      (record {
        value = old.memory.cached (Head e.cell);
        alone = m.mine ∙ ap (λ xs. xs ++ entry (Head e.cell) (old.memory.cached (Head e.cell)) ∷ []) fits.buffer;
        by = n.by;
        gave = subst (λ (es : List PlainEdit). IsHeadBy (of_cell e.cell es) (old.memory.cached (Head e.cell)) n.by) (sym tn.counted) n.gave;
        issue = h.issue;
        issued = t.open_edits ∙ h.it.issued;
        own = own;
        head = subst (λ (es : List PlainEdit). IsHeadBy (of_cell e.cell es) own h.issue.edit) (sym tn.counted) stands;
        enough = n.enough;
      }) fits.is.stage

  module _ (was : old.situation e.process ≡ Recovering (at e BackHead)) (fits : RecoveryFits old e.process (at e BackHead)) (t : StepsAt e BackHead word old new) where
    abbrev c : ℕ
    c = e.cell

    abbrev there : Place
    there = Head e.cell

    abbrev one : HasHead old p e.cell
    one = fits.buffer

    abbrev h : IsOpenAnd old p e.announcement e.cell (λ f. (own : ℕ) × IsIn old f own)
    h = fits.resolved

    m : WritesBack p (entry there one.value) [] old.memory new.memory
    m = first_back (entry there one.value) [] one.alone t.memory.1

    tn : Turn p old new
    tn = turn_of e BackHead word old new real was tt t

    moves : Moves p there old new
    moves = moved_back p there one.value [] old new sound tn m (one.by, one.gave) (λ o. absurd o)

    g : Grows p Version old new
    g = grown_back p there one.value [] old new sound tn m (one.by, one.gave) (λ o. absurd o)

    bt : (max (old.memory.persisted there) one.value ≡ old.memory.persisted there) ⊎ (max (old.memory.persisted there) one.value ≡ old.memory.cached there)
    bt = between p there one.value [] old new sound tn m (one.by, one.gave) (λ o. absurd o)

    now : new.memory.persisted there ≡ max (old.memory.persisted there) one.value
    now = m.there

    up : CatchesUp (old.memory.cached there) (old.memory.persisted there) (new.memory.cached there) (new.memory.persisted there)
    up = (m.cached there, elim bt [ inl same ↦ inl (now ∙ same) | inr all ↦ inr (now ∙ all) ])

    went : new.situation p ≡ Recovering (at e (OrMark true))
    went = t.situation

    -- the edit in doubt still excuses its cell, until it is marked
    still_excused : p < old.layout.processes → (d x : ℕ) → Excuses old p (old.situation p) d x → IsExcused new d x
    still_excused l d x o =
        let k : Excuses old p (Recovering (at e BackHead)) d x = subst (λ (s : Situation). Excuses old p s d x) was o in
        record { process = p; inside = rw tn.layout l; still = subst (λ (s : Situation). Excuses new p s d x) (sym went) (pends_from p old new g t.open_edits d k.0, tt) }

    excused_on : (d x : ℕ) → IsExcused old d x → IsExcused new d x
    excused_on d x o = elim (cases_eq o.process p) [
      | inl eq ↦ still_excused real d x (subst (λ (q : ℕ). Excuses old q (old.situation q) d x) eq o.still)
      | inr ne ↦ excused_lasts p there old new moves d x o ne
    ]

    my : Mine p there old new moves
    my = record {
      owes = λ r d x bit matters held o. absurd (subst (λ (s : Situation). Owes old.memory p s r d x) was o);
      excuses = λ l d x matters o. still_excused l d x o;
      stored = λ r is. absurd (elim is [ inl x ↦ cc | inr x ↦ cc ]);
      holds = λ r is. absurd (elim is [ inl x ↦ cc | inr x ↦ cc ]);
      cached_heads = λ d is. inl (m.cached (Head d));
      persisted_heads = λ d is. (let same : e.cell ≡ d = cc in subst (λ (y : ℕ). (new.memory.persisted (Head y) ≡ old.memory.persisted (Head y)) ⊎ ((x : ℕ) → IsExcused new y x)) same (head_back old new e.cell sound up (λ x o. excused_on e.cell x o)));
    }

    apart : KeepsApart old new
    apart d a = elim (cases_eq a.holder p) [
      | inr ne ↦ inl (apart_lasts p there old new moves d a ne)
      | inl eq ↦ absurd (subst (λ (s : Situation). Parts s d) was (subst (λ (q : ℕ). Parts (old.situation q) d) eq a.still))
    ]

    others_split : (q : ℕ) → q ≢ p → (d head : ℕ) → Splits old q (old.situation q) d head → Splits new q (new.situation q) d head
    others_split q ne d head o = subst (λ (x : Situation). Splits new q x d head) (sym (t.others q ne))
        (splits_last old new q (λ y. marks_grow p there old new moves y) (moves.buffers q ne) (λ y k. pends_last p there old new moves q y ne k) (old.situation q) d head o)

    keeps_other : (d : ℕ) → Head d ≢ there → KeepsOwing old new d
    keeps_other d ne f issue its is same before last_of owes = elim (cases_eq f.process p) [
      | inr other ↦ (t.others_open_edits f.process other ∙ is, others_split f.process other f.cell _ owes)
      | inl eq ↦ absurd (
          let mine : issue ≡ h.issue = same_issue (ap old.open_edits (sym eq) ∙ is) h.it.issued in
          let at_cell : d ≡ e.cell = sym its ∙ ap (λ (x : PlainEdit). x.cell) (sym same) ∙ ap (λ (i : PlainIssue). i.edit.cell) mine ∙ h.own_is in
          ne (ap (λ (x : ℕ). Head x) at_cell))
    ]

    abbrev es : List PlainEdit
    es = of_cell e.cell old.counted

    small_es : Small es
    small_es = small_of_cell e.cell old.counted (small_counted old sound.of_sheet)

    -- where its edit is its cell's last one, its own head is the cached one
    own_last : (before : List PlainEdit) (last : PlainEdit) → es ≡ before ++ last ∷ [] → last ≡ one.issue.edit → one.own ≡ head_after_all es
    own_last before last parts same =
        let by : IsHeadBy (before ++ last ∷ []) one.own one.issue.edit = subst (λ (xs : List PlainEdit). IsHeadBy xs one.own one.issue.edit) parts one.head in
        elim (by_cases before last one.own one.issue.edit by) [
          | inl is ↦ is ∙ ap head_after_all (sym parts)
          | inr inside ↦ absurd (
              let there' : Contains before one.issue.edit = subst (λ (xs : List PlainEdit). Contains xs one.issue.edit) (sym inside.parts) (in_parts inside.before one.issue.edit inside.after) in
              let less = last_greater before last one.issue.edit (subst (λ (xs : List PlainEdit). Increasing xs) parts (increasing_cell e.cell old.counted sound.increasing)) there' (ap (λ (f : PlainEdit). f.process) same) in
              let eq = ap (λ (f : PlainEdit). f.number) same in
              omega arith)
        ]

    cached_is : old.memory.cached there ≡ head_after_all es
    cached_is = (sound.words there).last

    value_most : one.value ≤ old.memory.cached there
    value_most = let l = by_most es one.value one.by small_es one.gave in let is = cached_is in omega arith

    fitting : WordFits new there (new.memory.cached there) (new.memory.persisted there)
    fitting = record {
      last = m.cached there ∙ cached_is ∙ ap (λ xs. head_after_all (of_cell e.cell xs)) (sym tn.counted);
      sides = elim (sound.words there).sides [
        | inl same ↦ inl (let k = m.cached there in let v = value_most in let n = now in omega arith)
        | inr w ↦ elim (cases_eq w.last.process p) [
          | inl mine ↦ inl (
              let is_mine : w.issue ≡ one.issue = same_issue (ap old.open_edits (sym mine) ∙ w.open_edits) one.issued in
              let owed : one.own ≡ head_after_all es = own_last w.before w.last w.parts (sym w.same ∙ ap (λ (i : PlainIssue). i.edit) is_mine) in
              let is = cached_is in
              let q = persisted_most old es (old.memory.cached there) (old.memory.persisted there) small_es cached_is (inr w) in
              let k = m.cached there in
              let n = now in
              let v = value_most in
              let enough = one.enough in
              omega arith)
          | inr other ↦ elim bt [
            | inl stays' ↦ inr (record {
              before = w.before;
              last = w.last;
              parts = ap (λ xs. of_cell e.cell xs) tn.counted ∙ w.parts;
              is = now ∙ stays' ∙ w.is;
              issue = w.issue;
              open_edits = t.others_open_edits w.last.process other ∙ w.open_edits;
              same = w.same;
              owes = subst (λ (xs : List PlainEdit). Splits new w.last.process (new.situation w.last.process) w.last.cell (head_after_all (of_cell e.cell xs))) (sym tn.counted) (others_split w.last.process other w.last.cell _ w.owes);
            })
            | inr all ↦ inl (now ∙ all ∙ sym (m.cached there))
          ]
        ]
      ];
    }

    mine_is : one.issue ≡ h.issue
    mine_is = same_issue one.issued h.it.issued

    own_head : IsHeadBy (of_cell h.issue.edit.cell new.counted) one.own h.issue.edit
    own_head = subst (λ (xs : List PlainEdit). IsHeadBy (of_cell h.issue.edit.cell xs) one.own h.issue.edit) (sym tn.counted)
        (subst (λ (x : ℕ). IsHeadBy (of_cell x old.counted) one.own h.issue.edit) (sym h.own_is) (subst (λ (i : PlainIssue). IsHeadBy es one.own i.edit) mine_is one.head))

    resolved : ResolvedFits new p e.announcement e.cell (settled true)
    resolved =
        let k : IsOpenAnd new p e.announcement e.cell (λ f. (own : ℕ) × IsIn new f own) = resolved_stable old new p g t.open_edits e.announcement e.cell Rattle.ds_state.specs.KnownRecovery.is_head fits.resolved in
        record {
          issue = h.issue;
          it = record { issued = t.open_edits ∙ h.it.issued; process = h.it.process; number = h.it.number; is = h.it.is; cached = m.cached (Announce p) ∙ h.it.cached };
          own_is = h.own_is;
          and = record {
            below = subst (λ (xs : List PlainEdit). Rattle.std.specs.Prelude.All (λ f. f.process ≡ h.issue.edit.process → f.number < h.issue.edit.number + 1) xs) (sym tn.counted) h.and.1.below;
            safe = record { own = one.own; head = own_head; persisted = subst (λ (x : ℕ). one.own ≤ new.memory.persisted (Head x)) (sym h.own_is) (let n = now in let l = one.enough in omega arith) };
          };
        }

    pub step_back_head : Keeps e.process old new
    step_back_head = moves_sound p there old new moves tn.counted sound (bears p there old new moves sound my)
        (all_stand p there old new moves sound (buffered old sound) my (text_same old new moves.layout tn.counted) (back_any p there one.value old new moves sound (buffered old sound) my (text_same old new moves.layout tn.counted) real m))
        apart keeps_other fitting
        (λ l. subst (λ (s : Situation). CallFits new p s) (sym went) (record {
          mine = refl;
          cells = rw tn.layout fits.cells;
          processes = rw tn.layout fits.processes;
          doubt = subst (λ (o : Option PlainIssue). DoubtFits new p o) (sym t.open_edits) (doubt_grows Version old new p g t.open_edits (λ x. cc) (λ n x. cc) (old.open_edits p) fits.doubt);
          freed = λ r by. fits.freed r (subst (λ (x : ℕ). IsHeldBy p x) (m.cached (Mark r)) by);
          resolved = resolved;
          buffer = m.mine;
          is = record { process = fits.is.process; processes = fits.is.processes; some = fits.is.some; cells = fits.is.cells; stage = fits.is.stage };
        }))
