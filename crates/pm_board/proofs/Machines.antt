-- One lemma for the calls of every kind of every structure: their steps are ones that the table's rule allows.
use Rattle.std.proofs.Common.{ℕ, ◌≡◌, ◌≢◌, ◌⊎◌, ◌*◌, ◌+◌, ◌<◌, ◌≤◌, suc, List, [], ◌∷◌, ◌++◌, length, length-set, get_or, set, refl, sym, ap, subst, ◌∙◌, inl, inr, ⊎_elim, arith, Bool, true, false}
use Rattle.std.proofs.lemmas.List.{append_assoc, append-nil}
use Rattle.std.specs.Prelude.{Some}
use mathlib.Core.Option.{some}
use lib.ListN.{get_elem?}
use Rattle.atomic_table.specs.Table.{State, Me, keeps}
use Rattle.atomic_table.proofs.Lists.{at_set}
use Rattle.ds_words.specs.declared.access.BufferEntry.{BufferEntry}
use Rattle.ds_words.specs.declared.access.Access.{Access}
use Rattle.ds_words.specs.Memory.{Memory}
use Rattle.pm_base.specs.Structures.{In, World, Structure, Calls, IsStructure, AreCalls, Serves, put}
use Rattle.pm_base.specs.Runs.{Happened, Run, deeds_by, history_of}
use Rattle.pm_base.specs.declared.history.Deed.{Deed}
use Rattle.pm_base.specs.declared.history.Deed.TheVariants.{Began, Response}
use Rattle.pm_base.specs.declared.history.Entry.{Entry}
use Rattle.pm_base.specs.declared.history.Event.TheVariants.{Begin, Step}
use Rattle.pm_base.proofs.Puts.{put_here, put_else}
use Rattle.pm_board.specs.declared.board.Deeds.{Deeds}
use Rattle.pm_board.specs.declared.board.Seated.{Seated}
use Rattle.pm_board.specs.declared.board.View.{View}
use Rattle.pm_board.specs.Table.{two_sided, cached_at, word_of, change, answer, reported, oldest_of, buffer_after}
use Rattle.pm_board.specs.Views.{lone, seated, one_step_later, deeds_at, deeds_in, seen_so_far}
use Rattle.pm_board.specs.Rule.{Origin, OpensWith, Start, IsOrigin, Witness, world_on, all_of, HasSeen, Fits, Ruled, After}
use Rattle.pm_board.specs.Machines.{answered_so, Grows, Ran, still, steps, stepped, left, MayStep, MayBegin, Landed, due, IsIn, Drives, unbegun, under_way, Settles, Breaks, before_all, within}
use Rattle.pm_board.proofs.Driving.{there}
use Rattle.pm_board.proofs.Histories.{run_both, did_both, deed_own, deed_else, seen_still, seen_all, grown, grows_both, holds_all}
use Rattle.pm_board.proofs.Resting.{all_on, past_on, stopped, stops}
use Rattle.pm_board.proofs.Seating.{seated_set}
use Rattle.pm_board.proofs.Words.{answer_reported, buffer_reported, performs}

-- what was answered in two stretches
answered_both : {T : Type 0} (S : Type 0) (ys xs : List T) → answered_so {S = S} (ys ++ xs) ≡ answered_so ys ++ answered_so xs
answered_both S [] xs = refl
answered_both {T} S (y ∷ ys) xs = ap (λ (z : List (Deed S T)). Response y ∷ z) (answered_both S ys xs)

module _ {K S T : Type 0} (s : Structure K S T) (key : K) where
  pub after_both : (words mid words' : List ℕ) (a b c : Witness s key) (p : ℕ) (now then_now : S) (x y : List (BufferEntry ℕ)) (ts us : List (Deed S T)) → After s key words mid a b p now x ts → After s key mid words' b c p then_now y us → After s key words words' a c p then_now y (us ++ ts)
  after_both words mid words' a b c p now then_now x y ts us f g = record {
    doing = g.doing;
    buffer = g.buffer;
    others = λ q ne. g.others q ne ∙ f.others q ne;
    other_buffers = λ q ne. g.other_buffers q ne ∙ f.other_buffers q ne;
    origin = g.origin ∙ f.origin;
    more = g.more ++ f.more;
    happened = g.happened ∙ (ap (λ (z : List (Happened s key)). g.more ++ z) f.happened ∙ sym (append_assoc g.more f.more a.happened));
    run = run_both s key (world_on s key words a) (world_on s key mid b) (world_on s key words' c) f.more g.more f.run g.run;
    own = did_both s key p g.more f.more ∙ (λ i. g.own i ++ f.own i);
    others_quiet = λ q ne. did_both s key q g.more f.more ∙ (λ i. g.others_quiet q ne i ++ f.others_quiet q ne i);
  }

  pub after_none : (words : List ℕ) (b : Witness s key) (p : ℕ) (now : S) (x : List (BufferEntry ℕ)) → b.situation p ≡ now → b.buffer p ≡ x → After s key words words b b p now x []
  after_none words b p now x doing buffer = record { doing = doing; buffer = buffer; others = λ q ne. refl; other_buffers = λ q ne. refl; origin = refl; more = []; happened = refl; run = refl; own = refl; others_quiet = λ q ne. refl }

  -- the run goes on
  pub ran_on : (words words' : List ℕ) (b b' : Witness s key) (p : ℕ) (now : S) (x : List (BufferEntry ℕ)) (ts : List (Deed S T)) → After s key words words' b b' p now x ts → Run s key b.origin.opened b.happened (world_on s key words b) → Run s key b'.origin.opened b'.happened (world_on s key words' b')
  ran_on words words' b b' p now x ts f r = subst (λ (z : Origin s key × List (Happened s key)). Run s key z.0.opened z.1 (world_on s key words' b')) (λ k. (sym f.origin k, sym f.happened k))
      (run_both s key b.origin.opened (world_on s key words b) (world_on s key words' b') b.happened f.more r f.run)

  -- a seat that has the one process goes from e to e', as the world does
  turns_to : (start : Start) (t : State ℕ (View S T)) (h : Ruled s key {X = ℕ} start t) (b : Witness s key) (id i n : ℕ) (e e' : Seated S T) (ts : List (Deed S T)) → get_elem? t.views id ≡ some (lone e) → After s key t.words (set t.words i n) h.witness b e.process e'.now e'.buffer ts → e'.process ≡ e.process → e'.deeds.done ≡ ts ++ e.deeds.done
      → ((seen : List (Entry S T)) → e'.deeds.seen ≡ Some seen → HasSeen s key (all_of s key b) e.process seen)
      → Ruled s key {X = ℕ} start (record { words = set t.words i n; homes = t.homes; views = set t.views id (lone e') })
  turns_to start t h b id i n e e' ts at after own done_now saw_now = let mine : Fits s key h.witness h.owner id e = h.knows id (lone e) at e (inl refl) in record {
    witness = b;
    owner = h.owner;
    long = length-set t.words i n ∙ h.long;
    run = ran_on t.words (set t.words i n) h.witness b e.process e'.now e'.buffer ts after h.run;
    from = subst (IsOrigin s key) (sym after.origin) h.from;
    opens = subst (OpensWith s key start.words) (sym after.origin) h.opens;
    made = λ new. ap (λ (o : Origin s key). o.older) after.origin ∙ h.made new;
    all = λ p low. seated_set s key t.views id (lone e) at p (lone e') (λ k. (e', inl refl, own ∙ (⊎_elim (λ same. ap (λ (x : Seated S T). x.process) same ∙ k.2) (λ none. absurd none) k.1))) (h.all p low);
    knows = λ j v there x inside. ⊎_elim
        (λ (k : (j ≡ id) × (lone e' ≡ v)). ⊎_elim
        (λ (same : e' ≡ x). subst (λ (z : ℕ × Seated S T). Fits s key b h.owner z.0 z.1) (λ d. (sym k.0 d, same d))
        (record {
          low = subst (λ (p : ℕ). p < s.processes key) (sym own) mine.low;
          mine = ap h.owner own ∙ mine.mine;
          stands = record {
            now = ap b.situation own ∙ after.doing;
            buffer = ap b.buffer own ∙ after.buffer;
            done = done_now ∙ (λ d. sym after.own d ++ mine.stands.done d) ∙ sym (did_both s key e.process after.more h.witness.happened) ∙ (λ d. deeds_by (sym own d) (history_of s key (sym after.happened d)));
            saw = λ seen is. subst (λ (p : ℕ). HasSeen s key (all_of s key b) p seen) (sym own) (saw_now seen is);
          };
        }))
        (λ none. absurd none)
        (subst (λ (z : View S T). In z.entries x) (sym k.1) inside))
        (λ (k : (j ≢ id) × (get_elem? t.views j ≡ some v)). let f = h.knows j v k.1 x inside in
        let other : x.process ≢ e.process = λ same. k.0 (sym f.mine ∙ (ap h.owner same ∙ mine.mine)) in
        record {
          low = f.low;
          mine = f.mine;
          stands = record {
            now = after.others x.process other ∙ f.stands.now;
            buffer = after.other_buffers x.process other ∙ f.stands.buffer;
            done = f.stands.done ∙ (λ d. sym (after.others_quiet x.process other) d ++ deeds_by x.process (history_of s key h.witness.happened)) ∙ sym (did_both s key x.process after.more h.witness.happened) ∙ ap (λ (z : List (Happened s key)). deeds_by x.process (history_of s key z)) (sym after.happened);
            saw = λ seen is. seen_still s key after.more (all_of s key h.witness) (all_of s key b) x.process seen (all_on s key h.witness b after.more after.origin after.happened) (after.others_quiet x.process other) (f.stands.saw seen is);
          };
        })
        (at_set t.views id j (lone e') v there);
    past = λ j v there x inside. ⊎_elim
        (λ (k : (j ≡ id) × (lone e' ≡ v)). absurd (subst (λ (z : View S T). In z.past x) (sym k.1) inside))
        (λ (k : (j ≢ id) × (get_elem? t.views j ≡ some v)). past_on s key h.witness b after.more after.origin after.happened x (h.past j v k.1 x inside))
        (at_set t.views id j (lone e') v there);
  }

module _ {K S T C E : Type 0} (s : Structure K S T) (c : Calls K S T C E) (key : K) (structure : IsStructure s key) (calls : AreCalls s key c) where
  -- where the process may begin the call, or is in it, a run leads to a world in which it is in it, and no word changes
  record Ready (words : List ℕ) (b : Witness s key) (call : C) (x : List (BufferEntry ℕ)) (ts : List (Deed S T)) : Type 0 where
    witness : Witness s key
    after : After s key words words b witness (c.process call) (c.doing call) x ts

  -- the process begins the call
  begins : (words : List ℕ) (b : Witness s key) (call : C) → s.sound key (world_on s key words b) → c.process call < s.processes key → c.fits key call → c.goes call → c.begins key (b.situation (c.process call)) call → Ready words b call [] (Began (c.doing call) ∷ [])
  begins words b call sound low fits go may =
      let p : ℕ = c.process call in
      let w : World S s.Hidden = world_on s key words b in
      let k = calls.begins w call sound low fits go may in
      let h : Happened s key = record { before = w; entry = record { event = Begin p (c.doing call); responses = [] } } in
      record {
        witness = record { situation = put b.situation p (c.doing call); buffer = b.buffer; hidden = s.hidden_after key w (Begin p (c.doing call)) w.memory; origin = b.origin; happened = h ∷ b.happened };
        after = record {
          doing = put_here b.situation p (c.doing call) p refl;
          buffer = k.1;
          others = λ q ne. put_else b.situation p (c.doing call) q ne;
          other_buffers = λ q ne. refl;
          origin = refl;
          more = h ∷ [];
          happened = refl;
          run = ((low, k.0, refl, refl), refl);
          own = append-nil _ ∙ deed_own p (Began (c.doing call) ∷ []);
          others_quiet = λ q ne. append-nil _ ∙ deed_else p q (Began (c.doing call) ∷ []) ne;
        };
      }

  -- ... or does so after a stop
  begins_so : (words : List ℕ) (b : Witness s key) (call : C) → IsOrigin s key b.origin → Run s key b.origin.opened b.happened (world_on s key words b) → c.process call < s.processes key → c.fits key call → c.goes call → MayBegin s c key (b.situation (c.process call)) call → Ready words b call [] (Began (c.doing call) ∷ [])
  begins_so words b call from run low fits go by = elim by [
    | inl may ↦ begins words b call (holds_all s key structure b.origin b.happened (world_on s key words b) from run).sound low fits go may
    | inr may ↦ (
        let p : ℕ = c.process call in
        let b1 : Witness s key = stopped s key words b p in
        let stop = stops s key words b p low in
        let run1 = ran_on s key words words b b1 p s.stopped [] [] stop run in
        let next = begins words b1 call (holds_all s key structure b1.origin b1.happened (world_on s key words b1) from run1).sound low fits go (subst (λ (z : S). c.begins key z call) (sym stop.doing) may) in
        record { witness = next.witness; after = after_both s key words words words b b1 next.witness p s.stopped (c.doing call) [] [] [] (Began (c.doing call) ∷ []) stop next.after })
  ]

  abbrev read : List ℕ → C → List (BufferEntry ℕ) → ℕ
  read words call x = get_or words (word_of (s.apart key) (c.access key call) (oldest_of x)) 0

  abbrev written : List ℕ → C → List (BufferEntry ℕ) → List ℕ
  written words call x = set words (word_of (s.apart key) (c.access key call) (oldest_of x)) (change (c.access key call) (oldest_of x) (read words call x))

  abbrev answered : List ℕ → C → List (BufferEntry ℕ) → ℕ
  answered words call x = answer (c.access key call) (read words call x)

  abbrev kept_back : List ℕ → C → List (BufferEntry ℕ) → List (BufferEntry ℕ)
  kept_back words call x = buffer_after (s.class_in key) (c.access key call) x (read words call x)

  -- the world after a step
  record Took (words : List ℕ) (b : Witness s key) (call : C) (x : List (BufferEntry ℕ)) : Type 0 where
    witness : Witness s key
    after : After s key words (written words call x) b witness (c.process call) (c.doing (c.next call (answered words call x))) (kept_back words call x) (answered_so (c.says (c.next call (answered words call x))))

  take : (words : List ℕ) (b : Witness s key) (call : C) (x : List (BufferEntry ℕ)) → length words ≡ cached_at (s.apart key) (s.words key) → s.sound key (world_on s key words b) → c.process call < s.processes key
      → b.situation (c.process call) ≡ c.doing call → b.buffer (c.process call) ≡ x → c.fits key call → c.goes call → Took words b call x
  take words b call x long sound low at same fits go =
      let p : ℕ = c.process call in
      let a : Access ℕ = c.access key call in
      let w : World S s.Hidden = world_on s key words b in
      let served : Serves (s.words key) a x = subst (Serves (s.words key) a) same (calls.serves w call sound low at fits go) in
      let memory : Memory ℕ = two_sided (s.apart key) (written words call x) (put b.buffer p (kept_back words call x)) in
      let now : S = c.doing (c.next call (answered words call x)) in
      let says : List T = c.says (c.next call (answered words call x)) in
      let takes : s.steps key p (b.situation p) a (answered words call x) now says = subst (λ (z : S). s.steps key p z a (answered words call x) now says) (sym at) (calls.steps call (answered words call x) fits go) in
      let h : Happened s key = record { before = w; entry = record { event = Step p; responses = says } } in
      record {
        witness = record { situation = put b.situation p now; buffer = put b.buffer p (kept_back words call x); hidden = s.hidden_after key w (Step p) memory; origin = b.origin; happened = h ∷ b.happened };
        after = record {
          doing = put_here b.situation p now p refl;
          buffer = put_here b.buffer p (kept_back words call x) p refl;
          others = λ q ne. put_else b.situation p now q ne;
          other_buffers = λ q ne. put_else b.buffer p (kept_back words call x) q ne;
          origin = refl;
          more = h ∷ [];
          happened = refl;
          run = (record { low = low; access = a; answer = answered words call x; now = now; takes = takes; performs = performs (s.apart key) (s.class_in key) p words b.buffer a x same (there (s.apart key) words (s.words key) a x long served); lands = refl }, refl);
          own = append-nil _ ∙ deed_own p (answered_so says);
          others_quiet = λ q ne. append-nil _ ∙ deed_else p q (answered_so says) ne;
        };
      }

  -- where the seat of a call may be when a step of it is next
  pub record Poised (begun : Bool) (me : Me ℕ (View S T)) (call : C) (x : List (BufferEntry ℕ)) : Type 0 where
    pub seat : Seated S T
    pub at : me ≡ (lone seat, [])
    pub own : seat.process ≡ c.process call
    pub seen : List (Entry S T)
    pub looked : seat.deeds.seen ≡ Some seen
    pub stands : ((begun ≡ false) × MayBegin s c key seat.now call × (x ≡ [])) ⊎ ((begun ≡ true) × (seat.now ≡ c.doing call) × (seat.buffer ≡ x))

  -- from there a run leads to a world in which the process is in the call
  readies : (words : List ℕ) (b : Witness s key) (begun : Bool) (seat : Seated S T) (call : C) (x : List (BufferEntry ℕ)) → IsOrigin s key b.origin → Run s key b.origin.opened b.happened (world_on s key words b) → c.process call < s.processes key → c.fits key call → c.goes call
      → b.situation (c.process call) ≡ seat.now → b.buffer (c.process call) ≡ seat.buffer → ((begun ≡ false) × MayBegin s c key seat.now call × (x ≡ [])) ⊎ ((begun ≡ true) × (seat.now ≡ c.doing call) × (seat.buffer ≡ x)) → Ready words b call x (due s c key begun call)
  readies words b begun seat call x from run low fits go now buffer by = elim by [
    | inl k ↦ subst (λ (z : Bool × List (BufferEntry ℕ)). Ready words b call z.1 (due s c key z.0 call)) (λ i. (sym k.0 i, sym k.2 i)) (begins_so words b call from run low fits go (subst (λ (z : S). MayBegin s c key z call) (sym now) k.1))
    | inr k ↦ subst (λ (z : Bool). Ready words b call x (due s c key z call)) (sym k.0) (record { witness = b; after = after_none s key words b (c.process call) (c.doing call) x (now ∙ k.1) (buffer ∙ k.2) })
  ]

  may_step : (start : Start) (slots id : ℕ) (begun : Bool) (seat : Seated S T) (call : C) (x : List (BufferEntry ℕ)) → c.fits key call → c.goes call → seat.process ≡ c.process call → (seen : List (Entry S T)) → seat.deeds.seen ≡ Some seen
      → ((begun ≡ false) × MayBegin s c key seat.now call × (x ≡ [])) ⊎ ((begun ≡ true) × (seat.now ≡ c.doing call) × (seat.buffer ≡ x))
      → MayStep s c key start slots id begun (lone seat, []) call x
  may_step start slots id begun seat call x fits go own seen looked by t h homes at small =
      let p : ℕ = c.process call in
      let a : Access ℕ = c.access key call in
      let fit : Fits s key h.witness h.owner id seat = h.knows id (lone seat) at seat (inl refl) in
      let low : p < s.processes key = subst (λ (q : ℕ). q < s.processes key) own fit.low in
      let now : h.witness.situation p ≡ seat.now = ap h.witness.situation (sym own) ∙ fit.stands.now in
      let buffer : h.witness.buffer p ≡ seat.buffer = ap h.witness.buffer (sym own) ∙ fit.stands.buffer in
      let first = readies t.words h.witness begun seat call x h.from h.run low fits go now buffer by in
      let b1 : Witness s key = first.witness in
      let begins_with : List (Deed S T) = due s c key begun call in
      let run1 = ran_on s key t.words t.words h.witness b1 p (c.doing call) x begins_with first.after h.run in
      let from1 : IsOrigin s key b1.origin = subst (IsOrigin s key) (sym first.after.origin) h.from in
      let sound1 : s.sound key (world_on s key t.words b1) = (holds_all s key structure b1.origin b1.happened (world_on s key t.words b1) from1 run1).sound in
      let n : ℕ = read t.words call x in
      let k : ℕ = reported a (oldest_of x) n in
      let words2 : List ℕ = written t.words call x in
      let taken = take t.words b1 call x h.long sound1 low first.after.doing first.after.buffer fits go in
      let b2 : Witness s key = taken.witness in
      let call1 : C = c.next call (answered t.words call x) in
      let call2 : C = stepped s c key call k in
      let x2 : List (BufferEntry ℕ) = left s c key call x k in
      let same_call : call1 ≡ call2 = ap (c.next call) (sym (answer_reported a x n)) in
      let same_buffer : kept_back t.words call x ≡ x2 = sym (buffer_reported (s.class_in key) a x n) in
      let p2 : c.process call2 ≡ p = calls.process call (answer a k) in
      let both = after_both s key t.words t.words words2 h.witness b1 b2 p (c.doing call) (c.doing call1) x (kept_back t.words call x) begins_with (answered_so (c.says call1)) first.after taken.after in
      let ts : List (Deed S T) = answered_so (c.says call2) ++ begins_with in
      let whole : After s key t.words words2 h.witness b2 p (c.doing call2) x2 ts = subst (λ (z : C × List (BufferEntry ℕ)). After s key t.words words2 h.witness b2 p (c.doing z.0) z.1 (answered_so (c.says z.0) ++ begins_with)) (λ d. (same_call d, same_buffer d)) both in
      let run2 = ran_on s key t.words words2 h.witness b2 p (c.doing call2) x2 ts whole h.run in
      let from2 : IsOrigin s key b2.origin = subst (IsOrigin s key) (sym whole.origin) h.from in
      let sound2 : s.sound key (world_on s key words2 b2) = (holds_all s key structure b2.origin b2.happened (world_on s key words2 b2) from2 run2).sound in
      let all2 : List (Entry S T) = history_of s key (all_of s key b2) in
      let deeds2 : Deeds S T = one_step_later seat.deeds ts all2 in
      let e' : Seated S T = seated (c.process call2) (c.doing call2) x2 deeds2 in
      let before : HasSeen s key (all_of s key h.witness) p seen = subst (λ (q : ℕ). HasSeen s key (all_of s key h.witness) q seen) own (fit.stands.saw seen looked) in
      let saw_now : (late : List (Entry S T)) → deeds2.seen ≡ Some late → HasSeen s key (all_of s key b2) seat.process late =
      λ late is. subst (HasSeen s key (all_of s key b2) seat.process) (ap seen_so_far is) (seen_all s key (all_of s key b2) seat.process) in (
        lone e',
        keeps,
        tt,
        turns_to s key start t h b2 id (word_of (s.apart key) a (oldest_of x)) (change a (oldest_of x) n) seat e' ts at (subst (λ (q : ℕ). After s key t.words words2 h.witness b2 q (c.doing call2) x2 ts) (sym own) whole) (p2 ∙ sym own) refl saw_now,
        (
          refl,
          record {
            seen = all2;
            at = refl;
            grows = grown s key p seat.deeds deeds2 whole.more (all_of s key h.witness) (all_of s key b2) ts seen 1 looked before (all_on s key h.witness b2 whole.more whole.origin whole.happened) whole.own refl refl refl;
            serves = λ fits2 go2. subst (λ (z : List (BufferEntry ℕ)). Serves (s.words key) (c.access key call2) z) (ap b2.buffer p2 ∙ whole.buffer)
                (calls.serves (world_on s key words2 b2) call2 sound2 (subst (λ (q : ℕ). q < s.processes key) (sym p2) low) (ap b2.situation p2 ∙ whole.doing) fits2 go2);
          },
        ),
      )

  pub poised_steps : (start : Start) (slots id : ℕ) (begun : Bool) (me : Me ℕ (View S T)) (call : C) (x : List (BufferEntry ℕ)) → c.fits key call → c.goes call → Poised begun me call x → MayStep s c key start slots id begun me call x
  poised_steps start slots id begun me call x fits go p = subst (λ (z : Me ℕ (View S T)). MayStep s c key start slots id begun z call x) (sym p.at) (may_step start slots id begun p.seat call x fits go p.own p.seen p.looked p.stands)

  -- ---- where a call has come

  same_process : (first call : C) (ts : List T) (n : ℕ) → Ran c first call ts n → c.process call ≡ c.process first
  same_process first call ts n still = refl
  same_process first call us m (steps d ts n word ran go) = calls.process d word ∙ same_process first d ts n ran

  pub poised : (first : C) (old : Me ℕ (View S T)) (now_begun : Bool) (me : Me ℕ (View S T)) (call : C) (x : List (BufferEntry ℕ)) (n : ℕ) → Drives s c key first old now_begun me call x n → Poised now_begun me call x
  poised first old b me call x n (unbegun can go) = record { seat = can.seat; at = can.at; own = can.own; seen = can.seen; looked = can.looked; stands = inl (refl, can.may, refl) }
  poised first old b me call x n (under_way m d y k is) = record { seat = seated (c.process d) (c.doing d) y is.held; at = is.at; own = refl; seen = is.grows.late ++ seen_so_far (deeds_at old).seen; looked = is.grows.seen; stands = inr (refl, refl, refl) }

  -- after a step
  pub steps_on : (first : C) (old : Me ℕ (View S T)) (now_begun : Bool) (me me' : Me ℕ (View S T)) (call : C) (x : List (BufferEntry ℕ)) (n found : ℕ) → c.goes call → Drives s c key first old now_begun me call x n → Landed s c key now_begun me call x found me'.0 → me'.1 ≡ [] → IsIn s c key first old me' (stepped s c key call found) (left s c key call x found) (n + 1)
  steps_on first old b me me' call x n found go (unbegun can goes) l empty = record {
    responses = c.says (stepped s c key first found) ++ [];
    ran = steps first [] 0 (answer (c.access key first) found) still goes;
    held = one_step_later (deeds_at old) (answered_so (c.says (stepped s c key first found)) ++ due s c key false first) l.seen;
    at = λ i. (l.at i, empty i);
    done = append_assoc (answered_so (c.says (stepped s c key first found))) (due s c key false first) (deeds_at old).done ∙ ap (λ (z : List T). answered_so z ++ (Began (c.doing first) ∷ (deeds_at old).done)) (sym (append-nil (c.says (stepped s c key first found))));
    grows = subst (λ (v : View S T). Grows (c.process first) (deeds_at old) (deeds_in v.entries) 1) l.at l.grows;
  }
  steps_on first old b me me' call x n found go (under_way m d y k is) l empty =
      let same : deeds_at m ≡ is.held = ap deeds_at is.at in
      let says : List T = c.says (stepped s c key d found) in
      let held : Deeds S T = one_step_later is.held (answered_so says ++ []) l.seen in
      let at : me'.0 ≡ lone (seated (c.process (stepped s c key d found)) (c.doing (stepped s c key d found)) (left s c key d y found) held) = l.at ∙ (λ i. lone (seated (c.process (stepped s c key d found)) (c.doing (stepped s c key d found)) (left s c key d y found) (one_step_later (same i) (answered_so says ++ []) l.seen))) in
      let one : Grows (c.process d) is.held held 1 = subst (λ (z : Deeds S T × View S T). Grows (c.process d) z.0 (deeds_in z.1.entries) 1) (λ i. (same i, at i)) l.grows in
      record {
        responses = says ++ is.responses;
        ran = subst (λ (z : ℕ). Ran c first (stepped s c key d found) (says ++ is.responses) z) (let e : suc k ≡ k + 1 = omega arith in e) (steps d is.responses k (answer (c.access key d) found) is.ran go);
        held = held;
        at = λ i. (at i, empty i);
        done = ap (λ (z : List (Deed S T)). z ++ is.held.done) (append-nil (answered_so says)) ∙ (ap (λ (z : List (Deed S T)). answered_so says ++ z) is.done ∙ (sym (append_assoc (answered_so says) (answered_so is.responses) (Began (c.doing first) ∷ (deeds_at old).done)) ∙ ap (λ (z : List (Deed S T)). z ++ (Began (c.doing first) ∷ (deeds_at old).done)) (sym (answered_both S says is.responses))));
        grows = grows_both (c.process first) (deeds_at old) is.held held k 1 is.grows (subst (λ (q : ℕ). Grows q is.held held 1) (same_process first d is.responses k is.ran) one);
      }

  pub broken : (first : C) (old : Me ℕ (View S T)) (now_begun : Bool) (me : Me ℕ (View S T)) (call : C) (x : List (BufferEntry ℕ)) (n : ℕ) → n ≤ c.rank first → c.goes call → Drives s c key first old now_begun me call x n → Breaks s c key first old me call n
  broken first old b me call x n few goes (unbegun can go) = before_all
  broken first old b me call x n few goes (under_way m d y k is) = within m d y k is few goes

  pub settled : (first : C) (old : Me ℕ (View S T)) (now_begun : Bool) (me : Me ℕ (View S T)) (call : C) (x : List (BufferEntry ℕ)) (n : ℕ) (end : E) → n + c.rank call ≤ c.rank first → c.ends call end → Drives s c key first old now_begun me call x n → Settles s c key first old me call end n
  settled first old b me call x n end few ends (unbegun can go) = absurd (calls.apart first end go ends)
  settled first old b me call x n end few ends (under_way m d y k is) = record { ends = ends; buffer = y; is = is; few = few }
