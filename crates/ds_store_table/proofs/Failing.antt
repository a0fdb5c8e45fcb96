-- Statements that are run in turn.
use Rattle.std.proofs.Common.{◌≡◌, inl, inr, ◌++◌, ◌∷◌, [], ◌∙◌, ℕ, List, Ok, Err, Result, IsTrue, ap, refl, subst, sym, true}
use Rattle.sqlite.specs.Store.{Ghosts}
use Rattle.sqlite.specs.declared.error.Error.{Error}
use Rattle.sqlite.specs.Held.{Held, state}
use Rattle.sqlite.specs.State.{ExecutesInside, State}
use Rattle.ds_store_table.specs.Statements.{FailsToKeep, Ran, RanInTurn, Statement}

module _ {S : Type 0} (g : Ghosts S) where
  -- statements that are run after others
  pub then_ran : (before after : List Statement) (old mid new : Held S) (r : Result (Unit {0}) Error) → RanInTurn g before old mid (Ok tt) → RanInTurn g after mid new r → RanInTurn g (before ++ after) old new r
  then_ran [] after old mid new r ran more = subst (λ m. RanInTurn g after m new r) ran.1 more
  then_ran (one ∷ before) after old mid new r (inl stopped) more = absurd (let e = stopped.1 in cc)
  then_ran (one ∷ before) after old mid new r (inr ran) more = inr (ran.0, ran.1, ran.2, then_ran before after ran.0 mid new r ran.3 more)

  -- one statement alone
  pub one_ran : (one : Statement) (old new : Held S) (count : ℕ) → Ran g one old new (Ok count) → RanInTurn g (one ∷ []) old new (Ok tt)
  one_ran one old new count ran = inr (new, count, ran, (refl, refl))

  -- one statement, which failed
  pub one_failed : (one : Statement) (after : List Statement) (old new : Held S) (e : Error) → Ran g one old new (Err e) → RanInTurn g (one ∷ after) old new (Err e)
  one_failed one after old new e ran = inl (e, refl, ran)

  -- what no statement within a transaction changes
  record Keeps (old new : State) : Type 0 where
    pub was_open : IsTrue new.is_open → IsTrue old.is_open
    pub committed : IsTrue new.is_open → new.committed ≡ old.committed

  keeps_one : (one : Statement) (old new : Held S) (r : Result ℕ Error) → Ran g one old new r → Keeps (state g old) (state g new)
  keeps_one one old new (Ok count) ran = record { was_open = λ _. ran.runs.1.was_open; committed = λ _. ran.runs.1.committed_is }
  keeps_one one old new (Err e) ran = go ran.runs where
    go : ExecutesInside 0 one.text one.params (state g old) (state g new) (Err e) → Keeps (state g old) (state g new)
    go (inl (_, inl same)) = record { was_open = λ _. same.0.was_open; committed = λ _. same.0.committed_is }
    go (inl (_, inr back)) = record { was_open = back.was_open; committed = λ shown. (back.undone shown).1 }
    go (inr (_, _, same)) = record { was_open = λ _. same.0.was_open; committed = λ _. same.0.committed_is }

  keeps : (all : List Statement) (old new : Held S) (r : Result (Unit {0}) Error) → RanInTurn g all old new r → Keeps (state g old) (state g new)
  keeps [] old new r ran = record { was_open = λ shown. subst (λ h. IsTrue (state g h).is_open) ran.1 shown; committed = λ _. ap (λ h. (state g h).committed) ran.1 }
  keeps (one ∷ all) old new r (inl failed) = keeps_one one old new (Err failed.0) failed.2
  keeps (one ∷ all) old new r (inr ran) =
      let first = keeps_one one old ran.0 (Ok ran.1) ran.2 in
      let rest = keeps all ran.0 new r ran.3 in
      record { was_open = λ shown. first.was_open (rest.was_open shown); committed = λ shown. rest.committed shown ∙ first.committed (rest.was_open shown) }

  -- the transaction goes on
  pub goes_on : (all : List Statement) (old new : Held S) → RanInTurn g all old new (Ok tt) → IsTrue old.in_transaction → IsTrue new.in_transaction
  goes_on [] old new ran within = subst (λ h. IsTrue h.in_transaction) (sym ran.1) within
  goes_on (one ∷ all) old new (inl failed) within = absurd (let e = failed.1 in cc)
  goes_on (one ∷ all) old new (inr ran) within = goes_on all ran.0 new ran.3 ran.2.runs.1.mode

  -- what keeps nothing leaves what the connection saw
  pub undone : (all : List Statement) (old new : Held S) (e : Error) → (IsTrue (state g old).is_open → (state g old).now ≡ (state g old).committed) → FailsToKeep g all old new e → IsTrue (state g new).is_open
      → (state g new).now ≡ (state g old).now
  undone all old new e settled (inl barred) shown = ap (λ h. (state g h).now) barred.2
  undone all old new e settled (inr (last, inl (ran, back))) shown =
      let kept = keeps all (record old { in_transaction = true }) last (Err e) ran in
      let was = back.was_open shown in
      (back.undone shown).0 ∙ (kept.committed was ∙ sym (settled (kept.was_open was)))
  undone all old new e settled (inr (last, inr (ran, inl fails))) shown =
      let kept = keeps all (record old { in_transaction = true }) last (Ok tt) ran in
      let back = fails.3 in
      let was = back.was_open shown in
      (back.undone shown).0 ∙ (kept.committed was ∙ sym (settled (kept.was_open was)))
  undone all old new e settled (inr (last, inr (ran, inr late))) shown =
      absurd (let within = goes_on all (record old { in_transaction = true }) last ran refl in let ended = late.1 in cc)
