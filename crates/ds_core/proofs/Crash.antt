-- A crash that leaves the edits whose heads are persisted is one that the ledger allows.
use Rattle.std.proofs.Common.{ℕ, ◌≡◌, ◌≢◌, ◌+◌, ◌*◌, ◌%◌, ◌==◌, List, [], ◌∷◌, ◌++◌, refl, ap, sym, ◌∙◌, subst, arith, inl, inr, zero, suc, length, Bool, true, false, cond, Some, map}
use Rattle.std.specs.Prelude.{Contains, filter, if◌then◌else◌}
use Rattle.std.proofs.lemmas.Bool.{eq-eqb}
use Rattle.std.proofs.lemmas.Bool.Decides.{eqb_tells}
use Rattle.std.proofs.lemmas.List.Elements.{All-contains, Contains-append_cases, Contains-append_right}
use Rattle.ds_words.specs.Memory.{Memory}
use Rattle.ds_layout.specs.declared.place.Place.{Place}
use Rattle.ds_layout.specs.declared.place.Place.TheVariants.{Head}
use Rattle.ds_state.specs.World.{PlainEdit, PlainIssue, PlainWorld, of_cell, head_after_all, head_by}
use Rattle.ds_state.specs.WordsFit.{IsOnItsWay}
use Rattle.ds_state.specs.Crashes.{is_lost, survivors, CrashesTo}
use Rattle.ds_state.specs.Sound.{IsSound, Increasing}
use Rattle.ds_state.proofs.Heads.{IsSmall, Small, small_counted, small_of_cell, head_push}
use Rattle.ds_state.proofs.Losing.{increasing_cell, last_greater}
use Rattle.ds_core.specs.Moments.{Placed, Open, Ledger, edits_in}
use Rattle.ds_core.specs.LedgerSteps.{in_doubt, Loses}
use Rattle.ds_core.proofs.Closing.{to_filter}
use Rattle.ds_state.proofs.Counting.{contains_one}

abbrev keep : Memory Place → PlainEdit → Bool
keep m e = if is_lost m e then false else true

-- what is lost differs on its sides, and is the cached head
record LostHead (m : Memory Place) (e : PlainEdit) : Type 0 where
  differ : m.cached (Head e.cell) ≢ m.persisted (Head e.cell)
  its : m.cached (Head e.cell) % 65536 ≡ e.process * 256 + e.number

lost_head : (m : Memory Place) (e : PlainEdit) → keep m e ≡ false → LostHead m e
lost_head m e lost = elim (eqb_tells (m.cached (Head e.cell)) (m.persisted (Head e.cell))) [
  | inl same ↦ absurd (let kept : keep m e ≡ true = rw same.0 refl in let bad : true ≡ false = sym kept ∙ lost in cc)
  | inr differ ↦ elim (eqb_tells (m.cached (Head e.cell) % 65536) (e.process * 256 + e.number)) [
    | inl its ↦ record { differ = differ.1; its = its.1 }
    | inr other ↦ absurd (let kept : keep m e ≡ true = rw (differ.0, other.0) refl in let bad : true ≡ false = sym kept ∙ lost in cc)
  ]
]

in_cell : (es : List PlainEdit) (e : PlainEdit) → Contains es e → Contains (of_cell e.cell es) e
unfolding of_cell
in_cell es e there = to_filter (λ (f : PlainEdit). f.cell == e.cell) es e there (eq-eqb e.cell e.cell refl)

pub record IsOpenEdit (w : PlainWorld) (e : PlainEdit) : Type 0 where
  pub issue : PlainIssue
  pub issued : w.open_edits e.process ≡ Some issue
  pub same : issue.edit ≡ e

module _ (w : PlainWorld) (sound : IsSound w) (e : PlainEdit) (there : Contains w.counted e) where
  on_its_way : LostHead w.memory e → IsOnItsWay w (of_cell e.cell w.counted) (w.memory.persisted (Head e.cell)) → IsOpenEdit w e
  on_its_way lost b =
      let small : Small (b.before ++ b.last ∷ []) = subst (λ (xs : List PlainEdit). Small xs) b.parts (small_of_cell e.cell w.counted (small_counted w sound.of_sheet)) in
      let increasing : Increasing (b.before ++ b.last ∷ []) = subst (λ (xs : List PlainEdit). Increasing xs) b.parts (increasing_cell e.cell w.counted sound.increasing) in
      let mine : Contains (b.before ++ b.last ∷ []) e = subst (λ (xs : List PlainEdit). Contains xs e) b.parts (in_cell w.counted e there) in
      let tiny : IsSmall b.last = All-contains (λ (f : PlainEdit). IsSmall f) (b.before ++ b.last ∷ []) b.last small (Contains-append_right b.before (b.last ∷ []) b.last (zero, omega arith, refl)) in
      let own : IsSmall e = All-contains (λ (f : PlainEdit). IsSmall f) (b.before ++ b.last ∷ []) e small mine in
      let cached : w.memory.cached (Head e.cell) ≡ head_by (length b.before + 1) b.last = (sound.words (Head e.cell)).last ∙ ap head_after_all b.parts ∙ head_push b.before b.last in
      let its = lost.its in
      let p = tiny.process in
      let n = tiny.number in
      let p' = own.process in
      let n' = own.number in
      let process : b.last.process ≡ e.process = omega arith in
      let number : b.last.number ≡ e.number = omega arith in
      let one : b.last ≡ e = elim (Contains-append_cases b.before (b.last ∷ []) e mine) [
        | inl early ↦ absurd (let l = last_greater b.before b.last e increasing early process in omega arith)
        | inr last ↦ sym (contains_one b.last e last)
      ] in
      record { issue = b.issue; issued = ap (λ q. w.open_edits q) (sym process) ∙ b.open_edits; same = b.same ∙ one }

  pub lost_open : keep w.memory e ≡ false → IsOpenEdit w e
  lost_open lost = elim (sound.words (Head e.cell)).sides [
    | inl same ↦ absurd ((lost_head w.memory e lost).differ (sym same))
    | inr b ↦ on_its_way (lost_head w.memory e lost) b
  ]

filtered : (p : PlainEdit → Bool) (es : List Placed) → map (λ (e : Placed). e.edit) (filter (λ (e : Placed). p e.edit) es) ≡ filter p (map (λ (e : Placed). e.edit) es)
filtered p [] = refl
filtered p (x ∷ es) = by (p x.edit) (filtered p es)
  where
    by : (b : Bool) → map (λ (e : Placed). e.edit) (filter (λ (e : Placed). p e.edit) es) ≡ filter p (map (λ (e : Placed). e.edit) es)
        → map (λ (e : Placed). e.edit) (cond b (x ∷ filter (λ (e : Placed). p e.edit) es) (filter (λ (e : Placed). p e.edit) es)) ≡ cond b (x.edit ∷ filter p (map (λ (e : Placed). e.edit) es)) (filter p (map (λ (e : Placed). e.edit) es))
    by true again = ap (λ xs. x.edit ∷ xs) again
    by false again = again

-- an open edit of the world is that of the ledger, and no other edit of the list is like it
pub record IsKnownAs (l : Ledger) (p : ℕ) (issue : PlainIssue) : Type 0 where
  pub o : Open
  pub is : l.opens p ≡ Some o
  pub edit : o.it.edit ≡ issue.edit
  pub only : (f : Placed) → Contains l.counted f → f.edit ≡ o.it.edit → f ≡ o.it

contains_edit : (es : List Placed) (e : Placed) → Contains es e → Contains (map (λ (f : Placed). f.edit) es) e.edit
contains_edit [] e h = absurd (let l = h.1 in omega arith)
contains_edit (x ∷ es) e (zero, lt, is) = (zero, omega arith, ap (λ (f : Placed). f.edit) is)
contains_edit (x ∷ es) e (suc k, lt, is) = let r = contains_edit es e (k, omega arith, is) in (suc r.0, (let l = r.1 in omega arith), r.2)

module _ (w w' : PlainWorld) (sound : IsSound w) (l : Ledger) (counted : edits_in l ≡ w.counted) (known : (p : ℕ) (issue : PlainIssue) → w.open_edits p ≡ Some issue → IsKnownAs l p issue) (crash : CrashesTo w w') where
  abbrev pub after_crash : Ledger
  after_crash = record l { counted = filter (λ (e : Placed). keep w.memory e.edit) l.counted; opens = λ p. in_doubt (l.opens p) }

  pub crash_loses : Loses l after_crash
  crash_loses = record {
    stays = λ (e : Placed). keep w.memory e.edit;
    lost_open = λ e there lost. (
        let open_edit = lost_open w sound e.edit (subst (λ (es : List PlainEdit). Contains es e.edit) counted (contains_edit l.counted e there)) lost in
        let k = known e.edit.process open_edit.issue open_edit.issued in
        (k.o, k.is, sym (k.only e there (sym (k.edit ∙ open_edit.same)))));
    is = refl;
  }

  pub crash_counted : edits_in after_crash ≡ w'.counted
  unfolding survivors
  crash_counted = filtered (keep w.memory) l.counted ∙ ap (λ (es : List PlainEdit). filter (keep w.memory) es) counted ∙ sym crash.counted
