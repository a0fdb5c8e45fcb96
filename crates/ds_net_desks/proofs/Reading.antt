-- What calls that read, undo and join any process do to seats and to what a session has looked at.
use Rattle.std.proofs.Common.{◌≡◌, ◌∙◌, ◌⊎◌, ◌<◌, ◌++◌, [], append_assoc, arith, inl, inr, refl, sym, ap, subst, ℕ, Option, Some, None, Result, Ok, Err}
use Rattle.std.proofs.lemmas.List.{append-nil}
use Rattle.std.specs.Prelude.{option_map}
use Rattle.ds_formula.specs.declared.cells.Cell.{Cell}
use Rattle.ds_shared_seats.specs.declared.seat.Seat.{Seat}
use Rattle.ds_server.specs.declared.desk.CallRefusal.{CallRefusal}
use Rattle.ds_server.specs.declared.desk.ListedEdit.{ListedEdit}
use Rattle.ds_net_floor.specs.EditLists.{TellsLast}
use Rattle.ds_net_floor.specs.Entries.{entries}
use Rattle.ds_server.specs.DeskCalls.{Join}
use Rattle.ds_server.specs.Replies.{Said, Refused, entry_view, joined_view, last_view}
use Rattle.ds_state.specs.declared.recovery.LastEdit.{LastEdit}
use Rattle.ds_net_desks.specs.declared.numbered_seat.NumberedSeat.{NumberedSeat}
use Rattle.ds_net_desks.specs.CellQuestions.{HasGot, HasLooked, HasTried, HaveReported, SaysLast, Seen, got_said, look, none, one}
use Rattle.ds_net_desks.specs.DeskSeats.{HasJoined, HasTaken, IsSeatedAt, SeatDeals, Uses}
use Rattle.ds_net_desks.specs.NumberedSeats.{CatchesUp}
use Rattle.ds_net_desks.specs.SharedDesks.{HasReported}

-- a seat that has not changed has caught up
pub stays : (n : NumberedSeat) → CatchesUp n n
stays n = record { process = refl; newer = inl refl }

-- a seat that has caught up twice has caught up
pub catches_both : (a b c : NumberedSeat) → CatchesUp a b → CatchesUp b c → CatchesUp a c
catches_both a b c u v = record { process = v.process ∙ u.process; newer = go u.newer v.newer } where
  go : (b ≡ a) ⊎ (a.epoch < b.epoch) → (c ≡ b) ⊎ (b.epoch < c.epoch) → (c ≡ a) ⊎ (a.epoch < c.epoch)
  go (inl same) (inl still) = inl (still ∙ same)
  go (inl same) (inr more) = inr (subst (λ (n : NumberedSeat). n.epoch < c.epoch) same more)
  go (inr more) (inl still) = inr (subst (λ (n : NumberedSeat). a.epoch < n.epoch) (sym still) more)
  go (inr more) (inr again) = inr (omega (arith, more, again))

-- a seat that is used after it has caught up was used
pub used_after : (used : Seat → Said → Seat → Type 0) (a b c : NumberedSeat) (what : Said) → CatchesUp a b → Uses used b what c → Uses used a what c
used_after used a b c what up uses = record {
  now = uses.now;
  plain = uses.plain;
  catches_up = catches_both a b uses.now up uses.catches_up;
  uses = uses.uses;
  seen = uses.seen;
  rest = uses.rest;
}

-- ---- tries

-- nothing was tried
pub tried_none : (n : NumberedSeat) (seen : Seen) → HasTried n seen n seen
tried_none n seen = record { reports = none; looks = []; seen = sym (append-nil seen) }

-- a list was looked at
pub tried_look : (old new : NumberedSeat) (before mid looks after : Seen) → HasTried old before new mid → after ≡ mid ++ looks → HasTried old before new after
tried_look old new before mid looks after tried is = record {
  reports = tried.reports;
  looks = tried.looks ++ looks;
  seen = is ∙ (ap (λ (s : Seen). s ++ looks) tried.seen ∙ append_assoc before tried.looks looks);
}

-- the seat was used for a report more
pub tried_report : (old mid new : NumberedSeat) (before after : Seen) (what : Said) → HasTried old before mid after → Uses HasReported mid what new → HasTried old before new after
tried_report old mid new before after what tried uses = record { reports = one mid new what tried.reports uses; looks = tried.looks; seen = tried.seen }

reported_both : (a b c : NumberedSeat) → HaveReported a b → HaveReported b c → HaveReported a c
reported_both a b c first none = first
reported_both a b c first (one old new what before uses) = one old c what (reported_both a b old first before) uses

-- tries after tries
pub tried_both : (a b c : NumberedSeat) (s t u : Seen) → HasTried a s b t → HasTried b t c u → HasTried a s c u
tried_both a b c s t u first later = record {
  reports = reported_both a b c first.reports later.reports;
  looks = first.looks ++ later.looks;
  seen = later.seen ∙ (ap (λ (l : Seen). l ++ later.looks) first.seen ∙ append_assoc s first.looks later.looks);
}

-- an answer after tries
pub got_after : (cell : Cell) (number : ℕ) (a b c : NumberedSeat) (s t u : Seen) (what : Said) → HasTried a s b t → HasGot cell number b t what c u → HasGot cell number a s what c u
got_after cell number a b c s t u what tried (inl told) = inl (record {
  mid = told.mid;
  had = told.had;
  tried = tried_both a b told.mid s t told.had tried told.tried;
  plain = told.plain;
  reports = told.reports;
  first = told.first;
  later = told.later;
  seen = told.seen;
  edit = told.edit;
  was = told.was;
  still = told.still;
  says = told.says;
})
got_after cell number a b c s t u what tried (inr failed) = inr (failed.0, tried_both a b c s t u tried failed.1)

-- a look fails after tries
pub got_failed : (cell : Cell) (number : ℕ) (old new : NumberedSeat) (before mid after : Seen) (r : Result (Option ListedEdit) CallRefusal) (why : CallRefusal) → HasTried old before new mid → HasLooked cell mid r after → r ≡ Err why
    → HasGot cell number old before (Refused why) new after
got_failed cell number old new before mid after r why tried looked is =
    inr (ap Refused (subst (SaysLast cell looked.list) is looked.says), tried_look old new before mid (look looked.list) after tried looked.seen)

-- a report between two looks at the same last edit
pub got_told : (cell : Cell) (number : ℕ) (old new : NumberedSeat) (before mid after : Seen) (r s : Result (Option ListedEdit) CallRefusal) (edit again : Option ListedEdit) (plain what : Said)
    → HasLooked cell before r mid → r ≡ Ok edit → Uses HasReported old plain new → HasLooked cell mid s after → s ≡ Ok again
    → option_map entry_view edit ≡ option_map entry_view again → what ≡ got_said cell number (option_map entry_view again) plain → HasGot cell number old before what new after
got_told cell number old new before mid after r s edit again plain what looked is uses later is_again same says = inl (record {
  mid = old;
  had = before;
  tried = tried_none old before;
  plain = plain;
  reports = uses;
  first = looked.list;
  later = later.list;
  seen = later.seen ∙ (ap (λ (l : Seen). l ++ look later.list) looked.seen ∙ append_assoc before (look looked.list) (look later.list));
  edit = option_map entry_view again;
  was = subst (TellsLast cell (entries looked.list)) same (subst (SaysLast cell looked.list) is looked.says);
  still = subst (SaysLast cell later.list) is_again later.says;
  says = says;
})

-- ---- joins

-- a session that has taken the seat of a process has joined it
pub joined_as : (old new : Option NumberedSeat) (taken : NumberedSeat) (p : ℕ) (r : Result (Option LastEdit) CallRefusal) → old ≡ None → taken.seat.pass.process ≡ p → HasTaken taken (last_view r) new
    → SeatDeals old (Join p) (joined_view p r) new
joined_as old (Some new) taken p (Ok last) empty is h = (empty, refl, subst (λ (q : ℕ). HasJoined q last new) is h)
joined_as old None taken p (Ok last) empty is h = absurd h
joined_as old (Some new) taken p (Err why) empty is h = absurd h
joined_as old None taken p (Err why) empty is h = absurd h

-- and has its seat
pub sits_in : (new : Option NumberedSeat) (taken : NumberedSeat) (p : ℕ) (last : Option LastEdit) → taken.seat.pass.process ≡ p → HasTaken taken (last_view (Ok last)) new → IsSeatedAt new p
sits_in (Some new) taken p last is h = h.recovers.recovers.goes.process ∙ (h.process_is ∙ is)
sits_in None taken p last is h = absurd h
