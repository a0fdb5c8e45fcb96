-- An edit that is closed stays in the list or stays out, and stands before those that are begun later.
use Rattle.std.proofs.Common.{ℕ, ◌≡◌, ◌≢◌, ◌<◌, ◌≤◌, ◌+◌, List, [], ◌∷◌, ◌++◌, refl, ap, sym, ◌∙◌, subst, arith, append_assoc, inl, inr, zero, suc, length, Bool, true, false, cond, Some, None}
use Rattle.std.specs.Prelude.{Contains, filter, slice_get, ◌↔◌}
use Rattle.std.proofs.lemmas.Bool.{cases_lt}
use Rattle.std.proofs.lemmas.List.Elements.{All-filter, All-contains, All-contains_itself, filter-append, Contains-append_cases, Contains-append_left}
use Rattle.ds_state.specs.World.{PlainEdit}
use Rattle.ds_state.specs.Value.{WorldValue}
use Rattle.ds_core.specs.Moments.{Placed, Open, Ledger, Moment, empty_ledger}
use Rattle.ds_core.specs.Headline.{IsIssueOf, Happens, RunFits, Precedes, IsClosed, Headline}
use Rattle.ds_core.specs.declared.event.Event.{Event}
use Rattle.ds_core.specs.declared.reply.Reply.{Reply}
use Rattle.ds_core.proofs.Moved.{Moved, Filters, moved}
use Rattle.ds_state.proofs.Counting.{contains_one}

-- ---- lists

-- nothing is in the empty list
pub contains_none : {A : Type 0} (e : A) → Contains [] e → ⊥
contains_none e (k, lt, is) = omega arith

-- what is in the filtered list is in the whole
pub of_filter : {A : Type 0} (p : A → Bool) (xs : List A) (e : A) → Contains (filter p xs) e → Contains xs e
of_filter p xs e h = All-contains (λ f. Contains xs f) (filter p xs) e (All-filter p (λ f. Contains xs f) xs (All-contains_itself xs)) h

-- what is in a list is in it with one more in front
pub behind : {A : Type 0} (x : A) (xs : List A) (e : A) → Contains xs e → Contains (x ∷ xs) e
behind x xs e (k, lt, is) = (suc k, omega arith, is)

-- what is in a list and passes the test is in the filtered one
pub to_filter : {A : Type 0} (p : A → Bool) (xs : List A) (e : A) → Contains xs e → p e ≡ true → Contains (filter p xs) e
to_filter p [] e (k, lt, is) keep = absurd (omega arith)
to_filter p (x ∷ xs) e (zero, lt, is) keep = subst (λ b. Contains (cond b (x ∷ filter p xs) (filter p xs)) e) (sym (ap p is ∙ keep)) (zero, omega arith, is)
to_filter p (x ∷ xs) e (suc k, lt, is) keep = by (p x) (to_filter p xs e (k, omega arith, is) keep)
  where
    by : (b : Bool) → Contains (filter p xs) e → Contains (cond b (x ∷ filter p xs) (filter p xs)) e
    by true rest = behind x (filter p xs) e rest
    by false rest = rest

-- at each place below its length a list has an element
pub found_at : {A : Type 0} (xs : List A) (k : ℕ) → k < length xs → (x : A) × (slice_get xs k ≡ Some x)
found_at [] k lt = absurd (omega arith)
found_at (x ∷ xs) zero lt = (x, refl)
found_at (x ∷ xs) (suc k) lt = found_at xs k (omega arith)

-- what holds of the number after a place holds of its successor
pub up : (P : ℕ → Type 0) (k : ℕ) → P (k + 1) → P (suc k)
up P k h = let same : k + 1 ≡ suc k = omega arith in subst P same h

-- ---- the ledger of a moment

-- all edits were begun before this place, and an open edit is its process's own
pub record Orderly (k : ℕ) (l : Ledger) : Type 0 where
  pub places : (e : Placed) → Contains l.counted e → e.place < k
  pub opens : (q : ℕ) (o : Open) → l.opens q ≡ Some o → o.it.place < k
  pub mine : (q : ℕ) (o : Open) → l.opens q ≡ Some o → o.it.edit.process ≡ q

orderly_empty : (k : ℕ) → Orderly k empty_ledger
orderly_empty k = record { places = λ e h. absurd (contains_none e h); opens = λ q o h. absurd (cc); mine = λ q o h. absurd (cc) }

orderly_next : {I : PlainEdit → Type 0} (k : ℕ) (old new : Ledger) → Orderly k old → Moved k I old new → Orderly (k + 1) new
orderly_next k old new h m = record {
  places = λ e there. elim m.counted [
    | inl same ↦ (let l = h.places e (subst (λ (es : List Placed). Contains es e) same there) in omega arith)
    | inr (inl push) ↦ elim (Contains-append_cases old.counted (push.o.it ∷ []) e (subst (λ (es : List Placed). Contains es e) push.is there)) [
      | inl early ↦ (let l = h.places e early in omega arith)
      | inr now ↦ (let one = ap (λ (x : Placed). x.place) (sym (contains_one push.o.it e now)) in let l = h.opens push.p push.o push.was in omega arith)
    ]
    | inr (inr drops) ↦ (let l = h.places e (of_filter drops.stays old.counted e (subst (λ (es : List Placed). Contains es e) drops.is there)) in omega arith)
  ];
  opens = λ q o is. elim (m.opens q o is) [
    | inl new ↦ (let l = new.0 in omega arith)
    | inr was ↦ (let l = h.opens q was.o was.was in let s = ap (λ (x : Placed). x.place) was.same in omega arith)
  ];
  mine = λ q o is. elim (m.opens q o is) [ inl new ↦ new.1 | inr was ↦ ap (λ (x : Placed). x.edit.process) was.same ∙ h.mine q was.o was.was ];
}

-- the edit was begun before this place, and is not open
pub record IsAway (k : ℕ) (l : Ledger) (e : Placed) : Type 0 where
  pub early : e.place < k
  pub closed : (q : ℕ) (o : Open) → l.opens q ≡ Some o → o.it ≢ e

away_next : {I : PlainEdit → Type 0} (k : ℕ) (old new : Ledger) (e : Placed) → IsAway k old e → Moved k I old new → IsAway (k + 1) new e
away_next k old new e h m = record {
  early = (let l = h.early in omega arith);
  closed = λ q o is same. elim (m.opens q o is) [
    | inl fresh ↦ (let p = ap (λ (x : Placed). x.place) same in let l = h.early in let f = fresh.0 in omega arith)
    | inr was ↦ h.closed q was.o was.was (sym was.same ∙ same)
  ];
}

-- what stays of an edit that is not open
kept_out : {I : PlainEdit → Type 0} (k : ℕ) (old new : Ledger) (e : Placed) → IsAway k old e → Moved k I old new → Contains new.counted e ↔ Contains old.counted e
kept_out k old new e away m = elim m.counted [
  | inl same ↦ (λ h. subst (λ (es : List Placed). Contains es e) same h, λ h. subst (λ (es : List Placed). Contains es e) (sym same) h)
  | inr (inl push) ↦ (
    λ h. elim (Contains-append_cases old.counted (push.o.it ∷ []) e (subst (λ (es : List Placed). Contains es e) push.is h)) [
      | inl early ↦ early
      | inr now ↦ absurd (away.closed push.p push.o push.was (sym (contains_one push.o.it e now)))
    ],
    λ h. subst (λ (es : List Placed). Contains es e) (sym push.is) (Contains-append_left old.counted (push.o.it ∷ []) e h),
  )
  | inr (inr drops) ↦ (
    λ h. of_filter drops.stays old.counted e (subst (λ (es : List Placed). Contains es e) drops.is h),
    λ h. subst (λ (es : List Placed). Contains es e) (sym drops.is) (to_filter drops.stays old.counted e h (stays_on drops h (drops.stays e) refl)),
  )
]
  where
    stays_on : (d : Filters old new) → Contains old.counted e → (b : Bool) → d.stays e ≡ b → d.stays e ≡ true
    stays_on d there true is = is
    stays_on d there false is = let lost = d.lost_open e there is in absurd (away.closed e.edit.process lost.0 lost.1 lost.2)

-- where the process's edit is closed, it stays as it is and is not open any more
pub record ClosedNow (k : ℕ) (old new : Ledger) (e : Placed) : Type 0 where
  pub same : Contains new.counted e ↔ Contains old.counted e
  pub away : IsAway (k + 1) new e

closed_now : {I : PlainEdit → Type 0} (k : ℕ) (old new : Ledger) (p : ℕ) (o : Open) → Orderly k old → Moved k I old new → old.opens p ≡ Some o → new.opens p ≡ None → ClosedNow k old new o.it
closed_now k old new p o h m was gone = record {
  same = elim m.counted [
    | inl same ↦ (λ x. subst (λ (es : List Placed). Contains es o.it) same x, λ x. subst (λ (es : List Placed). Contains es o.it) (sym same) x)
    | inr (inl push) ↦ absurd (push.keeps p o was gone)
    | inr (inr drops) ↦ absurd (drops.keeps p o was gone)
  ];
  away = record {
    early = (let l = h.opens p o was in omega arith);
    closed = λ q o' is same. elim (m.opens q o' is) [
      | inl fresh ↦ (let l = h.opens p o was in let f = fresh.0 in let s = ap (λ (x : Placed). x.place) same in omega arith)
      | inr now ↦ (
          let its : p ≡ q = sym (h.mine p o was) ∙ ap (λ (x : Placed). x.edit.process) (sym same ∙ now.same) ∙ h.mine q now.o now.was in
          let bad : None ≡ Some o' = sym gone ∙ ap (λ x. new.opens x) its ∙ is in
          cc)
    ];
  };
}

-- ---- the order

pub grow : (xs ys more : List Placed) (e f : Placed) → ys ≡ xs ++ more → Precedes xs e f → Precedes ys e f
grow xs ys more e f is h = record {
  before = h.before;
  after = h.after ++ more;
  parts = is ∙ ap (λ (es : List Placed). es ++ more) h.parts ∙ append_assoc h.before h.after more;
  first = h.first;
  second = Contains-append_left h.after more f h.second;
}

sieve : (p : Placed → Bool) (xs ys : List Placed) (e f : Placed) → ys ≡ filter p xs → p e ≡ true → p f ≡ true → Precedes xs e f → Precedes ys e f
sieve p xs ys e f is a b h = record {
  before = filter p h.before;
  after = filter p h.after;
  parts = is ∙ ap (λ (es : List Placed). filter p es) h.parts ∙ filter-append p h.before h.after;
  first = to_filter p h.before e h.first a;
  second = to_filter p h.after f h.second b;
}

passes : {A : Type 0} (p : A → Bool) (xs : List A) (e : A) → Contains (filter p xs) e → p e ≡ true
passes p [] e h = absurd (contains_none e h)
passes p (x ∷ xs) e h = by (p x) refl h (λ r. passes p xs e r)
  where
    by : (b : Bool) → p x ≡ b → Contains (cond b (x ∷ filter p xs) (filter p xs)) e → (Contains (filter p xs) e → p e ≡ true) → p e ≡ true
    by true is (zero, lt, same) rest = ap p (sym same) ∙ is
    by true is (suc k, lt, same) rest = rest (k, omega arith, same)
    by false is h rest = rest h

order_next : {I : PlainEdit → Type 0} (k : ℕ) (old new : Ledger) (e f : Placed) → IsAway k old e → Moved k I old new
    → (Contains old.counted e → Contains old.counted f → Precedes old.counted e f) → Contains new.counted e → Contains new.counted f → Precedes new.counted e f
order_next k old new e f away m before e_there f_there = elim m.counted [
  | inl same ↦ subst (λ (es : List Placed). Precedes es e f) (sym same) (before (subst (λ (es : List Placed). Contains es e) same e_there) (subst (λ (es : List Placed). Contains es f) same f_there))
  | inr (inl push) ↦ (
      let e_early : Contains old.counted e = (kept_out k old new e away m).0 e_there in
      elim (Contains-append_cases old.counted (push.o.it ∷ []) f (subst (λ (es : List Placed). Contains es f) push.is f_there)) [
        | inl early ↦ grow old.counted new.counted (push.o.it ∷ []) e f push.is (before e_early early)
        | inr now ↦ record { before = old.counted; after = push.o.it ∷ []; parts = push.is; first = e_early; second = now }
      ])
  | inr (inr drops) ↦ (
      let e_now = subst (λ (es : List Placed). Contains es e) drops.is e_there in
      let f_now = subst (λ (es : List Placed). Contains es f) drops.is f_there in
      sieve drops.stays old.counted new.counted e f drops.is (passes drops.stays old.counted e e_now) (passes drops.stays old.counted f f_now)
      (before (of_filter drops.stays old.counted e e_now) (of_filter drops.stays old.counted f f_now)))
]

-- ---- over a run

module _ (old : WorldValue) (events : List Event) (replies : List Reply) (new : WorldValue) (run : RunFits old events replies new) where
  abbrev at : ℕ → Ledger
  at k = (run.moment k).ledger

  pub record MoveAt (k : ℕ) : Type 0 where
    pub event : Event
    pub reply : Reply
    pub happens : Happens events replies k event reply
    pub moves : Moved k (IsIssueOf old.sheet.layout.shape event reply) (at k) (at (k + 1))

  pub the_move : (k : ℕ) → k < length events → MoveAt k
  the_move k lt =
      let event = found_at events k lt in
      let reply = found_at replies k (let same = run.answered in omega arith) in
      let happens : Happens events replies k event.0 reply.0 = record { event_is = event.1; reply_is = reply.1 } in
      record {
        event = event.0;
        reply = reply.0;
        happens = happens;
        moves = moved k old.sheet.layout.shape (at k) event.0 reply.0 (at (k + 1)) (run.ledger k event.0 reply.0 happens);
      }

  pub orderly : (k : ℕ) → k ≤ length events → Orderly k (at k)
  orderly zero lt = subst (λ (m : Moment). Orderly 0 m.ledger) (sym run.first) (orderly_empty 0)
  orderly (suc k) lt = up (λ i. Orderly i (at i)) k (orderly_next k (at k) (at (k + 1)) (orderly k (omega arith)) (the_move k (omega arith)).moves)

  -- each edit that is open or linearized was begun, at its place
  pub record IsAsked (e : Placed) : Type 0 where
    pub event : Event
    pub reply : Reply
    pub happens : Happens events replies e.place event reply
    pub issues : IsIssueOf old.sheet.layout.shape event reply e.edit

  pub record AllAsked (k : ℕ) : Type 0 where
    pub opens : (q : ℕ) (o : Open) → (at k).opens q ≡ Some o → IsAsked o.it
    pub counted : (e : Placed) → Contains (at k).counted e → IsAsked e

  asked_first : (l : Ledger) → l ≡ empty_ledger → ((q : ℕ) (o : Open) → l.opens q ≡ Some o → IsAsked o.it) × ((e : Placed) → Contains l.counted e → IsAsked e)
  asked_first l is = subst (λ (x : Ledger). ((q : ℕ) (o : Open) → x.opens q ≡ Some o → IsAsked o.it) × ((e : Placed) → Contains x.counted e → IsAsked e)) (sym is)
      (λ q o h. absurd (cc), λ e h. absurd (contains_none e h))

  asked_next : (k : ℕ) → MoveAt k → AllAsked k → AllAsked (k + 1)
  asked_next k m h = record {
    opens = λ q o is. elim (m.moves.opens q o is) [
      | inl fresh ↦ record { event = m.event; reply = m.reply; happens = subst (λ i. Happens events replies i m.event m.reply) (sym fresh.0) m.happens; issues = fresh.2 }
      | inr was ↦ subst (λ (x : Placed). IsAsked x) (sym was.same) (h.opens q was.o was.was)
    ];
    counted = λ e there. elim m.moves.counted [
      | inl same ↦ h.counted e (subst (λ (es : List Placed). Contains es e) same there)
      | inr (inl push) ↦ elim (Contains-append_cases (at k).counted (push.o.it ∷ []) e (subst (λ (es : List Placed). Contains es e) push.is there)) [
        | inl early ↦ h.counted e early
        | inr now ↦ subst (λ (x : Placed). IsAsked x) (sym (contains_one push.o.it e now)) (h.opens push.p push.o push.was)
      ]
      | inr (inr drops) ↦ h.counted e (of_filter drops.stays (at k).counted e (subst (λ (es : List Placed). Contains es e) drops.is there))
    ];
  }

  pub asked : (k : ℕ) → k ≤ length events → AllAsked k
  asked zero lt = let first = asked_first (at 0) (ap (λ (m : Moment). m.ledger) run.first) in record { opens = first.0; counted = first.1 }
  asked (suc k) lt = up (λ i. AllAsked i) k (asked_next k (the_move k (omega arith)) (asked k (omega arith)))

  module _ (k p : ℕ) (e : Placed) (lt : k < length events) (closed : IsClosed run.moment k p e) where
    now : ClosedNow k (at k) (at (k + 1)) e
    now = subst (λ (x : Placed). ClosedNow k (at k) (at (k + 1)) x) closed.is
        (closed_now k (at k) (at (k + 1)) p closed.open_edit (orderly k (omega arith)) (the_move k lt).moves closed.was closed.gone)

    away : (j : ℕ) → k < j → j ≤ length events → IsAway j (at j) e
    away zero later within = absurd (omega arith)
    away (suc j) later within = up (λ i. IsAway i (at i) e) j (elim (cases_lt k j) [
      | inl before ↦ away_next j (at j) (at (j + 1)) e (away j before (omega arith)) (the_move j (omega arith)).moves
      | inr here ↦ (let same : k ≡ j = omega arith in subst (λ (i : ℕ). IsAway (i + 1) (at (i + 1)) e) same now.away)
    ])

    pub stays : (j : ℕ) → k < j → j ≤ length events → Contains (at j).counted e ↔ Contains (at k).counted e
    stays zero later within = absurd (omega arith)
    stays (suc j) later within = up (λ i. Contains (at i).counted e ↔ Contains (at k).counted e) j (elim (cases_lt k j) [
      | inl before ↦ (
          let one = kept_out j (at j) (at (j + 1)) e (away j before (omega arith)) (the_move j (omega arith)).moves in
          let rest = stays j before (omega arith) in
          (λ h. rest.0 (one.0 h), λ h. one.1 (rest.1 h)))
      | inr here ↦ (let same : k ≡ j = omega arith in subst (λ (i : ℕ). Contains (at (i + 1)).counted e ↔ Contains (at k).counted e) same now.same)
    ])

    pub order : (f : Placed) → k < f.place → (j : ℕ) → j ≤ length events → Contains (at j).counted e → Contains (at j).counted f → Precedes (at j).counted e f
    order f later zero within e_there f_there = absurd (let l = (orderly 0 within).places f f_there in omega arith)
    order f later (suc j) within e_there f_there = elim (cases_lt k j) [
      | inl before ↦ up (λ i. Contains (at i).counted e → Contains (at i).counted f → Precedes (at i).counted e f) j
          (order_next j (at j) (at (j + 1)) e f (away j before (omega arith)) (the_move j (omega arith)).moves (order f later j (omega arith))) e_there f_there
      | inr here ↦ absurd (let l = (orderly (suc j) within).places f f_there in omega arith)
    ]

  -- a run that fits has the headline
  unfoldable pub headline : Headline old events replies new
  headline = record {
    run = run;
    closed = λ k p e lt closed j later within. stays k p e lt closed j later within;
    order = λ k p e f lt closed later j within e_there f_there. order k p e lt closed f later j within e_there f_there;
  }
