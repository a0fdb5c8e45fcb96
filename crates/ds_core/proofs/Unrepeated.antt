-- No begin of a process is answered with the number of an edit that it has open, or that was closed under its number.
use Rattle.std.proofs.Common.{ℕ, ◌≡◌, ◌<◌, ◌≤◌, ◌+◌, ◌-◌, List, ap, sym, ◌∙◌, subst, arith, inl, inr, zero, suc, length, Some, None}
use Rattle.std.specs.Prelude.{Option}
use Rattle.std.proofs.lemmas.Bool.{cases_lt}
use Rattle.ds_state.specs.Value.{WorldValue}
use Rattle.ds_core.specs.Requests.{PlainRequest}
use Rattle.ds_core.specs.Moments.{Placed, Open, Closed, Ledger}
use Rattle.ds_core.specs.LedgerSteps.{next_number, Issues}
use Rattle.ds_core.specs.Headline.{Happens, RunFits, IsClosed}
use Rattle.ds_core.specs.declared.event.Event.{Event}
use Rattle.ds_core.specs.declared.event.Event.TheVariants.{BeginEdit}
use Rattle.ds_core.specs.declared.reply.Reply.{Reply}
use Rattle.ds_core.specs.declared.reply.Reply.TheVariants.{Begun}
use Rattle.ds_core.proofs.Moved.{none_some}
use Rattle.ds_core.proofs.Closing.{up, the_move}

-- the number is spent in the ledger: the process's next one is greater, and so is that of its open edit
pub record IsBehind (p n : ℕ) (l : Ledger) : Type 0 where
  pub next : n < next_number (l.told p)
  pub opens : (o : Open) → l.opens p ≡ Some o → n < o.it.edit.number

-- the number of a process's last closed edit is after it, where it has no open one
pub behind_closed : (l : Ledger) (p : ℕ) (c : Closed) → l.told p ≡ Some c → l.opens p ≡ None → IsBehind p c.it.edit.number l
behind_closed l p c told none = record {
  next = subst (λ (x : Option Closed). c.it.edit.number < next_number x) (sym told) (omega arith);
  opens = λ o is. absurd (none_some (l.opens p) o none is);
}

module _ (old : WorldValue) (events : List Event) (replies : List Reply) (new : WorldValue) (run : RunFits old events replies new) where
  abbrev at : ℕ → Ledger
  at i = (run.moment i).ledger

  behind_next : (k p n : ℕ) → k < length events → IsBehind p n (at k) → IsBehind p n (at (k + 1))
  behind_next k p n lt h =
      let m = (the_move old events replies new run k lt).moves in
      record {
        next = elim (m.tells p) [
          | inl same ↦ subst (λ (x : Option Closed). n < next_number x) (sym same) h.next
          | inr closes ↦ subst (λ (x : Option Closed). n < next_number x) (sym closes.1)
              (let more : n < closes.2.o.it.edit.number = h.opens closes.2.o closes.2.was in
              let same : closes.2.o.it.edit.number ≡ closes.0.it.edit.number = ap (λ (x : Placed). x.edit.number) closes.2.same in omega arith)
        ];
        opens = λ o is. elim (m.opens p o is) [
          | inl fresh ↦ (let same = fresh.3 in let more = h.next in omega arith)
          | inr was ↦ (let more = h.opens was.o was.was in let same = ap (λ (x : Placed). x.edit.number) was.same in omega arith)
        ];
      }

  -- from the place on at which the edit was closed under its number
  behind : (place p n : ℕ) → IsBehind p n (at (place + 1)) → (j : ℕ) → place < j → j ≤ length events → IsBehind p n (at j)
  behind place p n h zero later within = absurd (omega arith)
  behind place p n h (suc j) later within = up (λ i. IsBehind p n (at i)) j (elim (cases_lt place j) [
    | inl before ↦ behind_next j p n (omega arith) (behind place p n h j before (omega arith))
    | inr here ↦ (let same : place ≡ j = omega arith in subst (λ i. IsBehind p n (at (i + 1))) same h)
  ])

  -- up to that place the edit is open
  IsOpenAt : ℕ → ℕ → Placed → Type 0
  IsOpenAt j p it = (o : Open) × ((at j).opens p ≡ Some o) × (o.it ≡ it)

  was_open_at : (j p : ℕ) (it : Placed) → j < length events → it.place < j → IsOpenAt (j + 1) p it → IsOpenAt j p it
  unfolding IsOpenAt
  was_open_at j p it lt later h = elim ((the_move old events replies new run j lt).moves.opens p h.0 h.1) [
    | inl fresh ↦ absurd (let here = fresh.0 in let same = ap (λ (x : Placed). x.place) h.2 in omega arith)
    | inr was ↦ (was.o, was.was, sym was.same ∙ h.2)
  ]

  open_until : (left place p : ℕ) (it : Placed) (j : ℕ) → place ≡ j + left → place ≤ length events → it.place < j → IsOpenAt place p it → IsOpenAt j p it
  open_until zero place p it j is within later h = let same : place ≡ j = omega arith in subst (λ i. IsOpenAt i p it) same h
  open_until (suc left) place p it j is within later h = was_open_at j p it (omega arith) later (open_until left place p it (j + 1) (omega arith) within (omega arith) h)

  -- so no begin is answered with the number between the edit's own and a place after it
  pub unrepeated : (place p n k : ℕ) (it : Placed) → place < length events → place ≤ k → k ≤ length events → IsClosed run.moment place p it → it.edit.number ≡ n → IsBehind p n (at (place + 1))
      → (j : ℕ) (other : PlainRequest) → it.place < j → j < k → other.process ≡ p → Happens events replies j (BeginEdit other) (Begun n) → ⊥
  unfolding IsOpenAt
  unrepeated place p n k it lt until within closed number spent j other later before mine happens =
      let i : Issues j (at j) (record { process = other.process; number = n; cell = _; text = other.text }) (at (j + 1)) = run.ledger j (BeginEdit other) (Begun n) happens in
      elim (cases_lt place j) [
        | inl past ↦ (
            let more = (behind place p n spent j past (omega arith)).next in
            let next : n ≡ next_number ((at j).told p) = i.next ∙ ap (λ x. next_number ((at j).told x)) mine in
            omega arith)
        | inr still ↦ (
            let o = open_until (place - j) place p it j (omega arith) (omega arith) later (closed.open_edit, closed.was, closed.is) in
            none_some ((at j).opens p) o.0 (ap (at j).opens (sym mine) ∙ i.none) o.1)
      ]
