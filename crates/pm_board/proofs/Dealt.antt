-- Seats are made, cut and joined.
use Rattle.std.proofs.Common.{◌≡◌, ◌≢◌, ◌⊎◌, ℕ, zero, suc, ◌+◌, ◌*◌, ◌<◌, ◌≤◌, eqb, Bool, false, true, cond, List, [], ◌∷◌, ◌++◌, set, length, refl, sym, ap, subst, ◌∙◌, inl, inr, ⊎_elim, arith, eq-eqb, ne_eqb, le_refl}
use Rattle.std.specs.Prelude.{Option, Some}
use mathlib.Core.Option.{some, some-injective, some-ne-none}
use lib.ListN.{get_elem?}
use Rattle.atomic_table.specs.Table.{Me, State, Splits, Joins, opening, Final, Seen}
use Rattle.atomic_table.proofs.Lists.{at_set}
use Rattle.pm_base.specs.Structures.{In, World, Structure, IsFirst, first_world, put}
use Rattle.pm_base.specs.Runs.{Happened, Run}
use Rattle.pm_base.specs.declared.history.Entry.{Entry}
use Rattle.pm_base.proofs.Lists.{in_append}
use Rattle.pm_base.proofs.Puts.{put_here, put_else}
use Rattle.pm_board.specs.declared.board.Seated.{Seated}
use Rattle.pm_board.specs.declared.board.View.{View}
use Rattle.pm_board.specs.Table.{two_sided, cached_at, persisted_at}
use Rattle.pm_board.specs.Views.{lone, newcomer, newcomers_from, first_now, first_seen, first_view, whole_view, RunsFrom, seen_so_far, headed, tailed, united, nobody, bygone, HasRest}
use Rattle.pm_board.specs.Rule.{Witness, Start, IsOrigin, all_of, HasSeen, IsPast, world_on, Fits, AreTrue, AreFirst, Ruled, Closes}
use Rattle.pm_board.proofs.Histories.{run_all, seen_all}
use Rattle.pm_board.proofs.Resting.{rests}
use Rattle.pm_board.proofs.Seating.{newcomers_have, seated_join, seated_more, seated_set, seated_split}

snoc_at : {A : Type 0} (l : List A) (a b : A) (j : ℕ) → get_elem? (l ++ a ∷ []) j ≡ some b → ((j < length l) × (get_elem? l j ≡ some b)) ⊎ ((j ≡ length l) × (a ≡ b))
snoc_at [] a b zero e = inr (refl, some-injective a b e)
snoc_at [] a b (suc j) e = absurd (some-ne-none b (sym e))
snoc_at (x ∷ xs) a b zero e = inl (omega arith, e)
snoc_at (x ∷ xs) a b (suc j) e = ⊎_elim (λ t. inl (let h = t.0 in omega arith, t.1)) (λ t. inr (ap suc t.0, t.1)) (snoc_at xs a b j e)

-- the owners of which one takes over from another
abbrev swapped : (ℕ → ℕ) → ℕ → ℕ → ℕ → ℕ
swapped f other id q = cond (eqb (f q) other) id (f q)

swapped_here : (f : ℕ → ℕ) (other id q : ℕ) → f q ≡ other → swapped f other id q ≡ id
swapped_here f other id q e = rw (eq-eqb (f q) other e)

swapped_else : (f : ℕ → ℕ) (other id q : ℕ) → f q ≢ other → swapped f other id q ≡ f q
swapped_else f other id q n = rw (ne_eqb (f q) other n)

was : {A : Type 0} (l : List A) (i j : ℕ) (a b : A) → ¬ (j ≡ i) → get_elem? (set l i a) j ≡ some b → get_elem? l j ≡ some b
was l i j a b n e = ⊎_elim (λ t. absurd (n t.0)) (λ t. t.1) (at_set l i j a b e)

module _ {K S T : Type 0} (s : Structure K S T) (key : K) where
  owned : (b : Witness s key) (f g : ℕ → ℕ) (i j : ℕ) (e : Seated S T) → Fits s key b f i e → g e.process ≡ j → Fits s key b g j e
  owned b f g i j e h mine = record { low = h.low; mine = mine; stands = h.stands }

  -- the first process, which no other of the view is, gets a seat of its own
  pub splits : (start : Start) (id : ℕ) (e : (Seated S T)) (es past : List (Seated S T)) → ((x : (Seated S T)) → In es x → x.process ≢ e.process) → Splits (Ruled s key {X = ℕ} start) id (record { entries = e ∷ es; past = past }) (record { entries = es; past = past }) (lone e)
  splits start id e es past apart t h at =
      let v : View S T = record { entries = e ∷ es; past = past } in
      let rest : View S T = record { entries = es; past = past } in
      let last : ℕ = length (set t.views id rest) in
      let mine = h.knows id v at e (inl refl) in record {
        witness = h.witness;
        owner = put h.owner e.process last;
        long = h.long;
        run = h.run;
        from = h.from;
        opens = h.opens;
        made = h.made;
        all = λ p low. seated_split s key t.views id e es past at p (h.all p low);
        knows = λ j u there x inside. ⊎_elim
            (λ (k : (j < last) × (get_elem? (set t.views id rest) j ≡ some u)). ⊎_elim
            (λ (a : (j ≡ id) × (rest ≡ u)).
            let here : In es x = subst (λ (z : (View S T)). In z.entries x) (sym a.1) inside in
            let f = h.knows id v at x (inr here) in
            owned h.witness h.owner (put h.owner e.process last) id j x f (put_else h.owner e.process last x.process (apart x here) ∙ (f.mine ∙ sym a.0)))
            (λ (b : (j ≢ id) × (get_elem? t.views j ≡ some u)).
            let f = h.knows j u b.1 x inside in
            owned h.witness h.owner (put h.owner e.process last) j j x f (put_else h.owner e.process last x.process (λ same. b.0 (sym f.mine ∙ (ap h.owner same ∙ mine.mine))) ∙ f.mine))
            (at_set t.views id j rest u k.1))
            (λ (k : (j ≡ last) × (lone e ≡ u)). ⊎_elim
            (λ (same : e ≡ x). subst (λ (z : ℕ × (Seated S T)). Fits s key h.witness (put h.owner e.process last) z.0 z.1) (λ i. (sym k.0 i, same i))
            (owned h.witness h.owner (put h.owner e.process last) id last e mine (put_here h.owner e.process last e.process refl)))
            (λ none. absurd none)
            (subst (λ (z : (View S T)). In z.entries x) (sym k.1) inside))
            (snoc_at (set t.views id rest) (lone e) u j there);
        past = λ j u there x inside. ⊎_elim
            (λ (k : (j < last) × (get_elem? (set t.views id rest) j ≡ some u)). ⊎_elim
            (λ (a : (j ≡ id) × (rest ≡ u)). h.past id v at x (subst (λ (z : (View S T)). In z.past x) (sym a.1) inside))
            (λ (b : (j ≢ id) × (get_elem? t.views j ≡ some u)). h.past j u b.1 x inside)
            (at_set t.views id j rest u k.1))
            (λ (k : (j ≡ last) × (lone e ≡ u)). absurd (subst (λ (z : (View S T)). In z.past x) (sym k.1) inside))
            (snoc_at (set t.views id rest) (lone e) u j there);
      }

  -- what a view knows is true
  pub known_true : (start : Start) (t : State ℕ (View S T)) (h : Ruled s key {X = ℕ} start t) (j : ℕ) (v : (View S T)) → get_elem? t.views j ≡ some v → (x : (Seated S T)) → In (v.past ++ v.entries) x → IsPast s key h.witness x
  known_true start t h j v at x inside = ⊎_elim
      (λ (a : In v.past x). h.past j v at x a)
      (λ (b : In v.entries x). let k = (h.knows j v at x b).stands in record {
        was = record { since = []; stretch = h.witness.happened; before = h.witness.origin.older; parts = refl; done = k.done };
        saw = λ seen is. (k.saw seen is).begins;
      })
      (in_append v.past v.entries x inside)

  -- what a seat knows is remembered by a seat of no process
  pub remembers : (start : Start) (id : ℕ) (v : (View S T)) → Splits (Ruled s key {X = ℕ} start) id v v (bygone v)
  remembers start id v t h at =
      let last : ℕ = length (set t.views id v) in record {
        witness = h.witness;
        owner = h.owner;
        long = h.long;
        run = h.run;
        from = h.from;
        opens = h.opens;
        made = h.made;
        all = λ p low. seated_more s key (set t.views id v) (bygone v) p (seated_set s key t.views id v at p v (λ k. k) (h.all p low));
        knows = λ j u there x inside. ⊎_elim
            (λ (k : (j < last) × (get_elem? (set t.views id v) j ≡ some u)). ⊎_elim
            (λ (a : (j ≡ id) × (v ≡ u)). subst (λ (n : ℕ). Fits s key h.witness h.owner n x) (sym a.0) (h.knows id v at x (subst (λ (z : (View S T)). In z.entries x) (sym a.1) inside)))
            (λ (b : (j ≢ id) × (get_elem? t.views j ≡ some u)). h.knows j u b.1 x inside)
            (at_set t.views id j v u k.1))
            (λ (k : (j ≡ last) × (bygone v ≡ u)). absurd (subst (λ (z : (View S T)). In z.entries x) (sym k.1) inside))
            (snoc_at (set t.views id v) (bygone v) u j there);
        past = λ j u there x inside. ⊎_elim
            (λ (k : (j < last) × (get_elem? (set t.views id v) j ≡ some u)). ⊎_elim
            (λ (a : (j ≡ id) × (v ≡ u)). h.past id v at x (subst (λ (z : (View S T)). In z.past x) (sym a.1) inside))
            (λ (b : (j ≢ id) × (get_elem? t.views j ≡ some u)). h.past j u b.1 x inside)
            (at_set t.views id j v u k.1))
            (λ (k : (j ≡ last) × (bygone v ≡ u)). known_true start t h id v at x (subst (λ (z : (View S T)). In z.past x) (sym k.1) inside))
            (snoc_at (set t.views id v) (bygone v) u j there);
      }

  pub joins : (start : Start) (id other : ℕ) (v w : (View S T)) → Joins (Ruled s key {X = ℕ} start) id v other w (united v w) nobody
  joins start id other v w t h at apart there = record {
    witness = h.witness;
    owner = swapped h.owner other id;
    long = h.long;
    run = h.run;
    from = h.from;
    opens = h.opens;
    made = h.made;
    all = λ p low. seated_join s key t.views id other v w at apart (was t.views id other (united v w) w apart there) p (h.all p low);
    knows = λ j u now x inside. ⊎_elim
        (λ (k : (j ≡ other) × (nobody ≡ u)). absurd (subst (λ (z : (View S T)). In z.entries x) (sym k.1) inside))
        (λ (k : (j ≢ other) × (get_elem? (set t.views id (united v w)) j ≡ some u)). ⊎_elim
        (λ (a : (j ≡ id) × (united v w ≡ u)). ⊎_elim
        (λ (in_v : In v.entries x). let f = h.knows id v at x in_v in
        owned h.witness h.owner (swapped h.owner other id) id j x f (swapped_else h.owner other id x.process (λ e. apart (sym e ∙ f.mine)) ∙ (f.mine ∙ sym a.0)))
        (λ (in_w : In w.entries x). let f = h.knows other w (was t.views id other (united v w) w apart there) x in_w in
        owned h.witness h.owner (swapped h.owner other id) other j x f (swapped_here h.owner other id x.process f.mine ∙ sym a.0))
        (in_append v.entries w.entries x (subst (λ (z : (View S T)). In z.entries x) (sym a.1) inside)))
        (λ (b : (j ≢ id) × (get_elem? t.views j ≡ some u)). let f = h.knows j u b.1 x inside in
        owned h.witness h.owner (swapped h.owner other id) j j x f (swapped_else h.owner other id x.process (λ e. k.0 (sym f.mine ∙ e)) ∙ f.mine))
        (at_set t.views id j (united v w) u k.1))
        (at_set (set t.views id (united v w)) other j nobody u now);
    past = λ j u now x inside. ⊎_elim
        (λ (k : (j ≡ other) × (nobody ≡ u)). absurd (subst (λ (z : (View S T)). In z.past x) (sym k.1) inside))
        (λ (k : (j ≢ other) × (get_elem? (set t.views id (united v w)) j ≡ some u)). ⊎_elim
        (λ (a : (j ≡ id) × (united v w ≡ u)). ⊎_elim
        (λ (in_v : In v.past x). h.past id v at x in_v)
        (λ (in_w : In w.past x). h.past other w (was t.views id other (united v w) w apart there) x in_w)
        (in_append v.past w.past x (subst (λ (z : (View S T)). In z.past x) (sym a.1) inside)))
        (λ (b : (j ≢ id) × (get_elem? t.views j ≡ some u)). h.past j u b.1 x inside)
        (at_set t.views id j (united v w) u k.1))
        (at_set (set t.views id (united v w)) other j nobody u now);
  }

pub record IsNewSeat {S T : Type 0} (now : S) (seen : Option (List (Entry S T))) (low high : ℕ) (x : Seated S T) : Type 0 where
  pub above : low ≤ x.process
  pub below : x.process < high
  pub does : x.now ≡ now
  pub buffer : x.buffer ≡ []
  pub done : x.deeds.done ≡ []
  pub seen_is : x.deeds.seen ≡ seen

pub all_new : {S T : Type 0} (now : S) (seen : Option (List (Entry S T))) (p n : ℕ) (x : Seated S T) → In (newcomers_from now seen p n) x → IsNewSeat now seen p (p + n) x
all_new now seen p zero x t = absurd t
all_new now seen p (suc n) x t = ⊎_elim
    (λ (e : newcomer now seen p ≡ x). subst (IsNewSeat now seen p (p + suc n)) e (record { above = le_refl p; below = omega arith; does = refl; buffer = refl; done = refl; seen_is = refl }))
    (λ h. let r = all_new now seen (suc p) n x h in record { above = (let a = r.above in omega arith); below = (let a = r.below in omega arith); does = r.does; buffer = r.buffer; done = r.done; seen_is = r.seen_is }) t

pub record Cut {K S T : Type 0} (s : Structure K S T) (now : S) (seen : Option (List (Entry S T))) (p processes : ℕ) (past : List (Seated S T)) (v : View S T) : Type 0 where
  pub left : HasRest now seen (p + 1) processes past (tailed v)
  pub right : headed s.first v ≡ lone (newcomer now seen p)

module _ {K S T : Type 0} (s : Structure K S T) (key : K) where
  -- of a new structure each process has seen all that has happened, which is nothing; one of a structure that is opened
  -- again has not looked
  first_saw : (stopped : Bool) (all : List (Happened s key)) (p : ℕ) (seen : List (Entry S T)) → (stopped ≡ false → all ≡ []) → first_seen stopped ≡ Some seen → HasSeen s key all p seen
  first_saw true all p seen new is = absurd (cc)
  first_saw false all p seen new is = subst (λ (hs : List (Happened s key)). HasSeen s key hs p seen) (sym (new refl)) (subst (HasSeen s key [] p) (ap seen_so_far is) (seen_all s key [] p))

  -- a table opens with a world to which a run leads, in which each process does the same and has flushed nothing, and what
  -- is remembered is what happened
  pub opens : (words : List ℕ) (b : Witness s key) (stopped : Bool) (past : List (Seated S T)) → Run s key b.origin.opened b.happened (world_on s key words b) → IsOrigin s key b.origin → (stopped ≡ false → all_of s key b ≡ []) → length words ≡ cached_at (s.apart key) (s.words key)
      → ((p : ℕ) → p < s.processes key → b.situation p ≡ first_now s stopped) → ((p : ℕ) → p < s.processes key → b.buffer p ≡ []) → AreTrue s key b past
      → Ruled s key {X = ℕ} (record { stopped = stopped; words = words }) (opening words [] (first_view s key stopped past))
  opens words b stopped past run from made long now buffer true_then = record {
    witness = afresh;
    owner = λ q. 0;
    long = long;
    run = refl;
    from = record { new = from.new; run = run_all s key b.origin b.happened (world_on s key words b) from run };
    opens = (afresh, refl);
    made = made;
    all = λ p low. record { seat = 0; view = first_view s key stopped past; at = refl; entry = newcomer (first_now s stopped) (first_seen stopped) p; inside = newcomers_have (first_now s stopped) (first_seen stopped) 0 (s.processes key) p (omega arith) (omega arith); own = refl };
    knows = one_seat;
    past = one_past;
  }
    where
      afresh : Witness s key
      afresh = record { situation = b.situation; buffer = b.buffer; hidden = b.hidden; origin = record { first = b.origin.first; older = all_of s key b; opened = world_on s key words b }; happened = [] }

      one_seat : (j : ℕ) (v : View S T) → get_elem? (first_view s key stopped past ∷ []) j ≡ some v → (x : Seated S T) → In v.entries x → Fits s key afresh (λ q. 0) j x
      one_seat zero v at x inside =
          let r = all_new (first_now s stopped) (first_seen stopped) 0 (s.processes key) x (subst (λ (z : View S T). In z.entries x) (sym (some-injective (first_view s key stopped past) v at)) inside) in
          let low : x.process < s.processes key = (let h = r.below in omega arith) in
          record {
            low = low;
            mine = refl;
            stands = record {
              now = now x.process low ∙ sym r.does;
              buffer = buffer x.process low ∙ sym r.buffer;
              done = r.done;
              saw = λ seen is. first_saw stopped (all_of s key b) x.process seen made (sym r.seen_is ∙ is);
            };
          }
      one_seat (suc j) v at x inside = absurd (some-ne-none v (sym at))

      one_past : (j : ℕ) (v : View S T) → get_elem? (first_view s key stopped past ∷ []) j ≡ some v → AreTrue s key afresh v.past
      one_past zero v at x inside = let k = true_then x (subst (λ (z : View S T). In z.past x) (sym (some-injective (first_view s key stopped past) v at)) inside) in record { was = k.was; saw = k.saw }
      one_past (suc j) v at x inside = absurd (some-ne-none v (sym at))

  -- the world of a new structure with these words
  first_on : List ℕ → World S s.Hidden
  first_on words = first_world s key (two_sided (s.apart key) words (λ p. []))

  blank : List ℕ → Witness s key
  blank words = record { situation = λ p. s.first; buffer = λ p. []; hidden = s.first_hidden key; origin = record { first = first_on words; older = []; opened = first_on words }; happened = [] }

  -- a table of a new structure's words opens
  pub opens_new : (words : List ℕ) → AreFirst s key (s.words key) words → Ruled s key {X = ℕ} (record { stopped = false; words = words }) (opening words [] (first_view s key false []))
  unfolding blank first_on
  opens_new words first =
      let b : Witness s key = blank words in
      let memory : IsFirst s key (two_sided (s.apart key) words (λ p. [])) = record { cached = λ r low. first.sides (cached_at (s.apart key) r) r low (inl refl); persisted = λ r low. first.sides (persisted_at (s.apart key) r) r low (inr refl); buffer = λ q. refl } in
      opens words b false [] refl (record { new = record { memory = memory; is = refl }; run = refl }) (λ new_one. refl) first.long (λ p low. refl) (λ p low. refl) (λ x none. absurd none)

  cut_from : (now : S) (seen : Option (List (Entry S T))) (p processes n : ℕ) (past : List (Seated S T)) → p < processes → p + n ≡ processes → Cut s now seen p processes past (record { entries = newcomers_from now seen p n; past = past })
  cut_from now seen p processes zero past h e = absurd (omega arith)
  cut_from now seen p processes (suc k) past h e = record {
    left = (k, (omega arith), ap (λ (q : ℕ). (let v : View S T = record { entries = newcomers_from now seen q k; past = past } in v)) (omega arith));
    right = refl;
  }

  -- the first of the processes that are left can be cut off: it is alone then, and the others are left
  pub cut : (now : S) (seen : Option (List (Entry S T))) (p processes : ℕ) (past : List (Seated S T)) (v : View S T) → p < processes → HasRest now seen p processes past v → Cut s now seen p processes past v
  cut now seen p processes past v h f = subst (Cut s now seen p processes past) (sym f.2) (cut_from now seen p processes f.0 past h f.1)

  split_from : (now : S) (seen : Option (List (Entry S T))) (start : Start) (id p n : ℕ) (past : List (Seated S T)) → p < s.processes key → p + n ≡ s.processes key → let v : View S T = record { entries = newcomers_from now seen p n; past = past } in Splits (Ruled s key {X = ℕ} start) id v (tailed v) (headed s.first v)
  split_from now seen start id p zero past h e = absurd (omega arith)
  split_from now seen start id p (suc k) past h e = splits s key start id (newcomer now seen p) (newcomers_from now seen (suc p) k) past (λ x t same. let a = (all_new now seen (suc p) k x t).above in absurd (omega arith))

  -- under the rule a seat of the processes that are left may give up the first of them
  pub may_split : (now : S) (seen : Option (List (Entry S T))) (start : Start) (id p : ℕ) (past : List (Seated S T)) (v : View S T) → p < s.processes key → HasRest now seen p (s.processes key) past v → Splits (Ruled s key {X = ℕ} start) id v (tailed v) (headed s.first v)
  may_split now seen start id p past v h f = subst (λ (u : View S T). Splits (Ruled s key {X = ℕ} start) id u (tailed u) (headed s.first u)) (sym f.2) (split_from now seen start id p f.0 past h f.1)

  -- at the end, a run leads to the words, and what the last seat knows is what happened
  pub ended : (start : Start) (id : ℕ) (v : View S T) (ws xs : List ℕ) → Final (Seen (Ruled s key {X = ℕ} start) id v) ws xs → Closes s key start ws v.entries (v.past ++ v.entries)
  ended start id v ws xs f =
      let h = f.1.0 in
      let ran : Run s key h.witness.origin.opened h.witness.happened (world_on s key ws h.witness) = subst (λ (l : List ℕ). Run s key h.witness.origin.opened h.witness.happened (world_on s key l h.witness)) f.2 h.run in
      let r = rests s key ws h.witness ran h.from in record {
        last = h.witness;
        run = ran;
        from = h.from;
        opens = h.opens;
        made = h.made;
        stands = λ e t. (h.knows id v f.1.1 e t).stands;
        witness = r.witness;
        stops = r.by;
        rests = r.rests;
        responses = λ e t. r.responses e (known_true s key start f.0 h id v f.1.1 e t);
      }

  -- a seat of all processes runs those from the first one on
  pub runs_all : (stopped : Bool) (seen : List (Entry S T)) (past : List (Seated S T)) (me : Me ℕ (View S T)) → me ≡ (whole_view s key stopped (Some seen) past, []) → RunsFrom s key stopped 0 me
  runs_all stopped seen past me at =
      let view : me.0 ≡ whole_view s key stopped (Some seen) past = ap (λ (m : Me ℕ (View S T)). m.0) at in
      let same : me.0.past ≡ past = ap (λ (v : View S T). v.past) view in
      record {
        seen = seen;
        rest = (s.processes key, (let e : 0 + s.processes key ≡ s.processes key = omega arith in e), view ∙ ap (λ (l : List (Seated S T)). (let v : View S T = record { entries = newcomers_from (first_now s stopped) (Some seen) 0 (s.processes key); past = l } in v)) (sym same));
        empty = ap (λ (m : Me ℕ (View S T)). m.1) at;
      }
