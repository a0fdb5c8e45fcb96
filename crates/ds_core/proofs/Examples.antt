-- Two small runs, by their ledgers: one that the definitions let through, and one that they refuse.
use Rattle.std.proofs.Common.{ℕ, ◌≡◌, ◌+◌, List, [], ◌∷◌, refl, ap, sym, ◌∙◌, arith, inl, inr, Bool, true, false, Some, None}
use Rattle.std.specs.Prelude.{Contains, filter}
use Rattle.ds_formula.specs.declared.cells.Shape.{Shape}
use Rattle.ds_formula.specs.Cells.{index_of}
use Rattle.ds_state.specs.World.{PlainEdit, is_edit_of}
use Rattle.ds_state.specs.Value.{WorldValue}
use Rattle.ds_core.specs.Requests.{PlainRequest}
use Rattle.ds_core.specs.Moments.{Placed, Ledger, empty_ledger}
use Rattle.ds_core.specs.LedgerSteps.{put, in_doubt, LedgerMoves}
use Rattle.ds_core.specs.Headline.{Happens, Headline}
use Rattle.ds_core.specs.declared.event.Event.{Event}
use Rattle.ds_core.specs.declared.event.Event.TheVariants.{BeginEdit, BeginRecover, Step, Crash}
use Rattle.ds_state.specs.declared.answer.Answer.TheVariants.{Edit, Recovery}
use Rattle.ds_state.specs.declared.answer.EditEnd.TheVariants.{Done}
use Rattle.ds_state.specs.declared.recovery.RecoveryEnd.TheVariants.{Nothing}
use Rattle.ds_core.specs.declared.reply.Reply.{Reply}
use Rattle.ds_core.specs.declared.reply.Reply.TheVariants.{Begun, Entered, Stepped, Answered, Crashed}
use Rattle.ds_core.proofs.Closing.{contains_none}
use Rattle.ds_state.proofs.Counting.{contains_one}
use Rattle.ds_core.proofs.Acknowledged.{acknowledged_once}
use Rattle.ds_core.proofs.Moved.{put_here}

-- from this place on, event by event
abbrev LedgersMove : ℕ → Shape → Ledger → List Event → List Reply → Ledger → Type 0
LedgersMove k shape old [] [] new = new ≡ old
LedgersMove k shape old (event ∷ events) (reply ∷ replies) new = (mid : Ledger) × LedgerMoves k shape old event reply mid × LedgersMove (k + 1) shape mid events replies new
LedgersMove k shape old [] (reply ∷ replies) new = ⊥
LedgersMove k shape old (event ∷ events) [] new = ⊥

module _ (shape : Shape) (r : PlainRequest) where
  abbrev the_edit : PlainEdit
  the_edit = record { process = r.process; number = 0; cell = index_of shape r.cell; text = r.text }

  abbrev first : Placed
  first = record { place = 0; edit = the_edit }

  abbrev second : Placed
  second = record { place = 4; edit = the_edit }

  abbrev begun : Ledger
  begun = record empty_ledger { opens = put empty_ledger.opens r.process (Some (record { it = first; before = []; doubt = false })) }

  abbrev crashed : Ledger
  crashed = record begun { opens = λ q. in_doubt (begun.opens q) }

  abbrev forgotten : Ledger
  forgotten = record crashed { opens = put crashed.opens r.process None }

  abbrev again : Ledger
  again = record forgotten { opens = put forgotten.opens r.process (Some (record { it = second; before = []; doubt = false })) }

  abbrev counted : Ledger
  counted = record again { counted = second ∷ [] }

  -- an edit is begun and lost in a crash before it is announced; its process recovers nothing, begins the same edit
  -- again, of the same cell and text and under the same number, and that one is linearized
  given_out_again : LedgersMove 0 shape empty_ledger
      (BeginEdit r ∷ Crash ∷ BeginRecover r.process ∷ Step r.process ∷ BeginEdit r ∷ Step r.process ∷ [])
      (Begun 0 ∷ Crashed ∷ Entered ∷ Answered (Recovery Nothing) ∷ Begun 0 ∷ Stepped ∷ []) counted
  given_out_again = (
    begun,
    record { none = refl; next = refl; is = refl },
    (
      crashed,
      record { stays = λ e. true; lost_open = λ e there. absurd (contains_none e there); is = refl },
      (
        crashed,
        refl,
        (
          forgotten,
          inl (record {
            open_edit = record { it = first; before = []; doubt = true };
            was = ap in_doubt (put_here empty_ledger.opens r.process (Some (record { it = first; before = []; doubt = false })));
            doubt_is = refl;
            out = λ there. contains_none first there;
            repeats = refl;
            is = refl;
          }),
          (
            again,
            record { none = put_here crashed.opens r.process None; next = refl; is = refl },
            (
              counted,
              inr (record {
                open_edit = record { it = second; before = []; doubt = false };
                was = put_here forgotten.opens r.process (Some (record { it = second; before = []; doubt = false }));
                sure = refl;
                not_yet = λ there. contains_none second there;
                is = refl;
              }),
              refl,
            ),
          ),
        ),
      ),
    ),
  )

  -- the lost edit is another one: it is not in the list
  lost_is_another : Contains counted.counted first → ⊥
  lost_is_another there = let same = ap (λ (e : Placed). e.place) (sym (contains_one second first there)) in omega arith

  -- a crash may not take an edit that is not open, as one that was answered Done
  abbrev done : Ledger
  done = record { counted = first ∷ []; opens = λ p. None; told = put (λ p. None) r.process (Some (record { it = first; counts = true })) }

  dropped_at_once : (k : ℕ) (new : Ledger) → new.counted ≡ [] → LedgerMoves k shape done Crash Crashed new → ⊥
  dropped_at_once k new empty h = by (h.stays first) refl
    where
      by : (b : Bool) → h.stays first ≡ b → ⊥
      by false is = let lost = h.lost_open first (0, omega arith, refl) is in absurd (cc)
      by true is =
          let left : filter h.stays (first ∷ []) ≡ first ∷ [] = rw is refl in
          let bad : [] ≡ first ∷ [] = sym empty ∙ ap (λ (l : Ledger). l.counted) h.is ∙ left in
          cc

-- a run that drops an edit that was answered Done, at a crash or anywhere, has no headline
dropped : (old : WorldValue) (events : List Event) (replies : List Reply) (new : WorldValue) (k p n : ℕ) → Happens events replies k (Step p) (Answered (Edit (Done n)))
    → filter (is_edit_of p n) new.counted ≡ [] → Headline old events replies new → ⊥
dropped old events replies new k p n done none h = let one = (acknowledged_once old events replies new k p n h done).once in cc
