-- The ledger of a world: how it goes on from event to event.
use Rattle.std.proofs.Common.{ℕ, ◌≡◌, ◌≢◌, ◌<◌, ◌+◌, List, [], ◌∷◌, ◌++◌, refl, ap, sym, ◌∙◌, subst, arith, inl, inr, zero, suc, length, Bool, true, false, Some, None, map, drop, append_assoc, get_or}
use Rattle.std.specs.Prelude.{Option, Contains, option_map, if◌then◌else◌}
use Rattle.std.proofs.Math.Seq.{drop-append_seam}
use Rattle.std.proofs.lemmas.Bool.{cases_eq, cases_lt}
use Rattle.std.proofs.lemmas.Bool.Decides.{eqb_tells}
use Rattle.std.proofs.lemmas.List.{append-nil, map-append, get_or_default, get_or_past, length-map}
use Rattle.std.proofs.lemmas.List.Elements.{All-contains, Contains-append_cases, Contains-append_right}
use Rattle.ds_layout.specs.declared.layout.Layout.{Layout}
use Rattle.ds_state.specs.World.{PlainEdit, PlainIssue, PlainWorld, of_cell}
use Rattle.ds_state.specs.Value.{first_rest, WorldValue, world_of, IsGood}
use Rattle.ds_state.specs.Shown.{last_text, values_shown}
use Rattle.ds_state.specs.KnownShow.{AreScratch}
use Rattle.ds_state.specs.Sound.{Increasing}
use Rattle.ds_state.specs.Crashes.{StopsIn, CrashesTo}
use Rattle.ds_state.specs.declared.situation.Situation.{Situation}
use Rattle.ds_state.specs.declared.situation.Situation.TheVariants.{Idle, Stopped, Editing, Working, Recovering, Showing, Migrating}
use Rattle.ds_state.proofs.LastText.{text_right}
use Rattle.ds_state.proofs.QuietShown.{quiet_shows}
use Rattle.ds_state.specs.declared.answer.Other.{Other}
use Rattle.ds_core.specs.Moments.{Placed, Open, Closed, Ledger, MomentFits, AreApart, NoneTwice, edits_in}
use Rattle.ds_core.specs.LedgerSteps.{put, next_number, in_doubt, Stands, Issues, Counts, Closes, IsOvertakenBy, Loses}
use Rattle.ds_core.proofs.Traces as traces
use Rattle.ds_core.proofs.Closing.{contains_none, behind, of_filter}
use Rattle.ds_state.proofs.Counting.{contains_one}
use Rattle.ds_core.proofs.Moved.{put_here}
use Rattle.ds_core.proofs.Crash.{IsKnownAs, after_crash, crash_loses, crash_counted}

-- ---- lists

abbrev pub edits : List Placed → List PlainEdit
edits es = map (λ (e : Placed). e.edit) es

-- the edit of what is in a list of the ledger is among its edits
pub contains_edit : (es : List Placed) (e : Placed) → Contains es e → Contains (edits es) e.edit
contains_edit [] e h = absurd (contains_none e h)
contains_edit (x ∷ es) e (zero, lt, is) = (zero, omega arith, ap (λ (f : Placed). f.edit) is)
contains_edit (x ∷ es) e (suc k, lt, is) = let r = contains_edit es e (k, omega arith, is) in (suc r.0, (let l = r.1 in omega arith), r.2)

-- each of a list's edits is that of something in it
pub from_edits : (es : List Placed) (x : PlainEdit) → Contains (edits es) x → (e : Placed) × Contains es e × (e.edit ≡ x)
from_edits [] x h = absurd (contains_none x h)
from_edits (y ∷ es) x (zero, lt, is) = (y, (zero, omega arith, refl), is)
from_edits (y ∷ es) x (suc k, lt, is) = let r = from_edits es x (k, omega arith, is) in (r.0, behind y es r.0 r.1, r.2)

pub none_twice : (es : List Placed) → Increasing (edits es) → NoneTwice es
none_twice [] h = tt
none_twice (x ∷ es) h = (
  λ k d lt process number. (
      let e : Placed = get_or es k d in
      let l = All-contains (λ (f : PlainEdit). f.process ≡ x.edit.process → x.edit.number < f.number) (edits es) e.edit h.0 (contains_edit es e (k, lt, get_or_default es k e d lt)) process in
      omega arith),
  none_twice es h.1,
)

pub apart_parts : (xs ys : List Placed) (f : Placed) → NoneTwice (xs ++ ys) → Contains xs f → Contains ys f → ⊥
apart_parts [] ys f once a b = contains_none f a
apart_parts (x ∷ xs) ys f once (zero, lt, is) b = All-contains (AreApart x) (xs ++ ys) f once.0 (Contains-append_right xs ys f b) (ap (λ (e : Placed). e.edit.process) (sym is)) (ap (λ (e : Placed). e.edit.number) (sym is))
apart_parts (x ∷ xs) ys f once (suc k, lt, is) b = apart_parts xs ys f once.1 (k, omega arith, is) b

-- what is noted of one process leaves what is noted of another
pub put_other : {A : Type 0} (f : ℕ → Option A) (p : ℕ) (x : Option A) (q : ℕ) → q ≢ p → put f p x q ≡ f q
put_other f p x q ne = elim (eqb_tells q p) [
  | inl same ↦ absurd (ne same.1)
  | inr other ↦ subst (λ b. (if b then x else f q) ≡ f q) (sym other.0) refl
]

-- ---- the ledger of a world

-- the number of the process's edit, or of its next one, where it has not stopped
abbrev pub numbered : Situation → Option ℕ
numbered (Idle next) = Some next.number
numbered Stopped = None
numbered (Editing e) = Some e.number
numbered (Working e) = Some e.next
numbered (Recovering e) = None
numbered (Showing e) = Some e.next
numbered (Migrating e) = None

-- whether the open edit of a process in this situation is in doubt
abbrev pub doubts : Situation → Bool
doubts Stopped = true
doubts (Recovering e) = true
doubts (Migrating e) = true
doubts _ = false

-- what was linearized since the issue
pub record IsSince (l : Ledger) (issue : PlainIssue) (o : Open) : Type 0 where
  pub since : issue.since ≡ length o.before
  pub more : List Placed
  pub grown : l.counted ≡ o.before ++ more

-- the open edit of the process is the world's
pub record IsOpenAs (l : Ledger) (issue : PlainIssue) (p : ℕ) (doubt : Bool) : Type 0 where
  pub o : Open
  pub is : l.opens p ≡ Some o
  pub edit : o.it.edit ≡ issue.edit
  pub mine : o.it.edit.process ≡ p
  pub doubt_is : o.doubt ≡ doubt
  pub running : doubt ≡ false → IsSince l issue o
  pub only : (f : Placed) → Contains l.counted f → f.edit ≡ o.it.edit → f ≡ o.it

-- the ledger is that of the world, which is good: its list, its open edits, and its processes' next numbers
pub record IsOf (layout : Layout) (l : Ledger) (v : WorldValue) : Type 0 where
  pub good : IsGood v
  pub same : v.sheet.layout ≡ layout
  pub counted : edits_in l ≡ v.counted
  pub none : (p : ℕ) → (world_of v).open_edits p ≡ None → l.opens p ≡ None
  pub some : (p : ℕ) (issue : PlainIssue) → (world_of v).open_edits p ≡ Some issue → IsOpenAs l issue p (doubts ((world_of v).situation p))
  pub numbers : (p n : ℕ) → numbered ((world_of v).situation p) ≡ Some n → n ≡ next_number (l.told p)

-- a situation that says the same of its process's edits
pub record SaysSame (s s' : Situation) : Type 0 where
  pub number : numbered s' ≡ numbered s
  pub doubt : doubts s' ≡ doubts s

-- a situation that stays says the same of its process's edits
pub says_same : (s s' : Situation) → s' ≡ s → SaysSame s s'
says_same s s' same = record { number = ap numbered same; doubt = ap doubts same }

-- what is nothing is not something
pub no_some : {A : Type 0} (x : Option A) (y : A) → x ≡ None → x ≡ Some y → ⊥
no_some x y a b = let e : None ≡ Some y = sym a ∙ b in cc

-- what is something is one thing
pub one_some : {A : Type 0} (x : Option A) (a b : A) → x ≡ Some a → x ≡ Some b → a ≡ b
one_some x a b p q = let e : Some a ≡ Some b = sym p ∙ q in cc

-- a world and its ledger are a moment that fits
pub fits_of : (layout : Layout) (l : Ledger) (v : WorldValue) → IsOf layout l v → MomentFits (record { world = v; ledger = l })
fits_of layout l v h = record {
  counted = h.counted;
  opens = λ p. open_of p ((world_of v).open_edits p) refl;
  once = none_twice l.counted (subst (λ (es : List PlainEdit). Increasing es) (sym h.counted) h.good.sound.increasing);
  texts = λ c lt. text_right (world_of v) c h.good.sound ∙ ap (λ es. last_text (of_cell c es)) (sym h.counted);
  values = λ quiet. subst (λ (es : List PlainEdit). AreScratch v.sheet.layout.shape es (values_shown (world_of v))) (sym h.counted) (quiet_shows (world_of v) h.good.sound quiet);
}
  where
    open_of : (p : ℕ) (x : Option PlainIssue) → (world_of v).open_edits p ≡ x → option_map (λ (o : Open). o.it.edit) (l.opens p) ≡ option_map (λ (i : PlainIssue). i.edit) ((world_of v).open_edits p)
    open_of p None is = ap (λ x. option_map (λ (o : Open). o.it.edit) x) (h.none p is) ∙ ap (λ x. option_map (λ (i : PlainIssue). i.edit) x) (sym is)
    open_of p (Some issue) is = let o = h.some p issue is in ap (λ x. option_map (λ (o : Open). o.it.edit) x) o.is ∙ ap (λ e. Some e) o.edit ∙ ap (λ x. option_map (λ (i : PlainIssue). i.edit) x) (sym is)

module _ (layout : Layout) (l : Ledger) (v v' : WorldValue) (h : IsOf layout l v) (good : IsGood v') (same : v'.sheet.layout ≡ layout) where
  w : PlainWorld
  w = world_of v

  abbrev pub AllSame : Type 0
  AllSame = (q : ℕ) → SaysSame ((world_of v).situation q) ((world_of v').situation q)

  abbrev As : Ledger → PlainIssue → ℕ → Bool → Type 0
  As = IsOpenAs

  -- nothing
  pub stays : traces.Stays (world_of v) (world_of v') → AllSame → IsOf layout l v'
  stays s n = record {
    good = good;
    same = same;
    counted = h.counted ∙ sym s.counted;
    none = λ p is. h.none p (sym (s.open_edits p) ∙ is);
    some = λ p issue is. subst (λ (b : Bool). As l issue p b) (sym (n p).doubt) (h.some p issue (sym (s.open_edits p) ∙ is));
    numbers = λ p k is. h.numbers p k (sym (n p).number ∙ is);
  }

  -- an edit begins
  module _ (place : ℕ) (edit : PlainEdit) (s : traces.Issues (world_of v) edit (world_of v')) (n : AllSame) (sure : doubts ((world_of v).situation edit.process) ≡ false) where
    abbrev it : Open
    it = record { it = record { place = place; edit = edit }; before = l.counted; doubt = false }

    abbrev pub issued : Ledger
    issued = record l { opens = put l.opens edit.process (Some it) }

    fresh : (f : Placed) → Contains l.counted f → f.edit ≡ edit → ⊥
    fresh f there is = s.fresh (subst (λ (es : List PlainEdit). Contains es edit) h.counted (subst (λ (e : PlainEdit). Contains (edits_in l) e) is (contains_edit l.counted f there)))

    opens_other : (q : ℕ) → q ≢ edit.process → (issue : PlainIssue) (b : Bool) → As l issue q b → As issued issue q b
    opens_other q ne issue b a = record {
      o = a.o;
      is = put_other l.opens edit.process (Some it) q ne ∙ a.is;
      edit = a.edit;
      mine = a.mine;
      doubt_is = a.doubt_is;
      only = a.only;
      running = λ sure. (let r = a.running sure in record { since = r.since; more = r.more; grown = r.grown });
    }

    opens_here : (q : ℕ) → q ≡ edit.process → (issue : PlainIssue) → (world_of v').open_edits q ≡ Some issue → As issued issue q false
    opens_here q here issue is =
        let one : issue ≡ record { edit = edit; since = length v.counted } = one_some ((world_of v').open_edits q) issue (record { edit = edit; since = length v.counted }) is (ap (λ x. (world_of v').open_edits x) here ∙ s.issued) in
        record {
          o = it;
          is = ap (λ x. put l.opens edit.process (Some it) x) here ∙ put_here l.opens edit.process (Some it);
          edit = ap (λ (i : PlainIssue). i.edit) (sym one);
          mine = sym here;
          doubt_is = refl;
          running = λ sure. record {
            since = ap (λ (i : PlainIssue). i.since) one ∙ ap length (sym h.counted) ∙ length-map l.counted (λ (e : Placed). e.edit);
            more = [];
            grown = sym (append-nil l.counted);
          };
          only = λ f there is. absurd (fresh f there is);
        }

    pub issue_of : IsOf layout issued v'
    issue_of = record {
      good = good;
      same = same;
      counted = h.counted ∙ sym s.counted;
      none = λ q is. elim (cases_eq q edit.process) [
        | inl here ↦ absurd (no_some ((world_of v').open_edits q) _ is (ap (λ x. (world_of v').open_edits x) here ∙ s.issued))
        | inr other ↦ put_other l.opens edit.process (Some it) q other ∙ h.none q (sym (s.others q other) ∙ is)
      ];
      some = λ q issue is. elim (cases_eq q edit.process) [
        | inl here ↦ subst (λ (b : Bool). As issued issue q b) (sym ((n q).doubt ∙ ap (λ x. doubts ((world_of v).situation x)) here ∙ sure)) (opens_here q here issue is)
        | inr other ↦ subst (λ (b : Bool). As issued issue q b) (sym (n q).doubt) (opens_other q other issue _ (h.some q issue (sym (s.others q other) ∙ is)))
      ];
      numbers = λ p k is. h.numbers p k (sym (n p).number ∙ is);
    }

    pub issues_fit : edit.number ≡ next_number (l.told edit.process) → Issues place l edit issued
    issues_fit next = record { none = h.none edit.process s.none; next = next; is = refl }

  -- an edit is linearized
  module _ (p : ℕ) (s : traces.Counts (world_of v) p (world_of v')) (n : AllSame) (sure : doubts ((world_of v).situation p) ≡ false) where
    pub own : As l s.issue p false
    own = subst (λ (b : Bool). As l s.issue p b) sure (h.some p s.issue s.open_is)

    abbrev pub pushed : Ledger
    pushed = record l { counted = l.counted ++ own.o.it ∷ [] }

    grows : (q : ℕ) (issue : PlainIssue) (b : Bool) → As l issue q b → As pushed issue q b
    grows q issue b a = record {
      o = a.o;
      is = a.is;
      edit = a.edit;
      mine = a.mine;
      doubt_is = a.doubt_is;
      running = λ is. (let r = a.running is in record {
        since = r.since;
        more = r.more ++ own.o.it ∷ [];
        grown = ap (λ (es : List Placed). es ++ own.o.it ∷ []) r.grown ∙ append_assoc a.o.before r.more (own.o.it ∷ []);
      });
      only = λ f there is. elim (Contains-append_cases l.counted (own.o.it ∷ []) f there) [
        | inl early ↦ a.only f early is
        | inr now ↦ (
            let one = sym (contains_one own.o.it f now) in
            let its : p ≡ q = sym own.mine ∙ ap (λ (e : Placed). e.edit.process) one ∙ ap (λ (e : PlainEdit). e.process) is ∙ a.mine in
            let open_same : own.o ≡ a.o = one_some (l.opens p) own.o a.o own.is (ap (λ x. l.opens x) its ∙ a.is) in
            sym one ∙ ap (λ (x : Open). x.it) open_same)
      ];
    }

    pub push_of : IsOf layout pushed v'
    push_of = record {
      good = good;
      same = same;
      counted = map-append (λ (e : Placed). e.edit) l.counted (own.o.it ∷ []) ∙ ap (λ es. es ++ own.o.it.edit ∷ []) h.counted ∙ ap (λ e. v.counted ++ e ∷ []) own.edit ∙ sym s.counted;
      none = λ q is. h.none q (sym (s.open_edits q) ∙ is);
      some = λ q issue is. subst (λ (b : Bool). As pushed issue q b) (sym (n q).doubt) (grows q issue _ (h.some q issue (sym (s.open_edits q) ∙ is)));
      numbers = λ q k is. h.numbers q k (sym (n q).number ∙ is);
    }

    pub counts_fit : Counts l p pushed
    counts_fit = record {
      open_edit = own.o;
      was = own.is;
      sure = own.doubt_is;
      not_yet = λ there. s.not_yet (subst (λ (es : List PlainEdit). Contains es s.issue.edit) h.counted (subst (λ (e : PlainEdit). Contains (edits_in l) e) own.edit (contains_edit l.counted own.o.it there)));
      is = refl;
    }

  -- an edit is answered
  module _ (p number : ℕ) (Is : PlainIssue → Type 0) (counts : Bool) (s : traces.Closes (world_of v) p number Is (world_of v'))
      (now : numbered ((world_of v').situation p) ≡ Some (number + 1)) (others : (q : ℕ) → q ≢ p → SaysSame ((world_of v).situation q) ((world_of v').situation q)) (sure : doubts ((world_of v).situation p) ≡ false) where
    pub closing : As l s.issue p false
    closing = subst (λ (b : Bool). As l s.issue p b) sure (h.some p s.issue s.open_is)

    pub running : IsSince l s.issue closing.o
    running = closing.running refl

    abbrev ended : Option Closed
    ended = Some (record { it = closing.o.it; counts = counts })

    abbrev pub closed : Ledger
    closed = record l { opens = put l.opens p None; told = put l.told p ended }

    number_here : closing.o.it.edit.number ≡ number
    number_here = ap (λ (e : PlainEdit). e.number) closing.edit ∙ s.number_is

    pub close_of : IsOf layout closed v'
    close_of = record {
      good = good;
      same = same;
      counted = h.counted ∙ sym s.counted;
      none = λ q is. elim (cases_eq q p) [
        | inl here ↦ ap (λ x. put l.opens p None x) here ∙ put_here l.opens p None
        | inr other ↦ put_other l.opens p None q other ∙ h.none q (sym (s.others q other) ∙ is)
      ];
      some = λ q issue is. elim (cases_eq q p) [
        | inl here ↦ absurd (no_some ((world_of v').open_edits q) issue (ap (λ x. (world_of v').open_edits x) here ∙ s.closed) is)
        | inr other ↦ (let a = h.some q issue (sym (s.others q other) ∙ is) in subst (λ (b : Bool). As closed issue q b) (sym (others q other).doubt) (record {
          o = a.o;
          is = put_other l.opens p None q other ∙ a.is;
          edit = a.edit;
          mine = a.mine;
          doubt_is = a.doubt_is;
          only = a.only;
          running = λ on. (let r = a.running on in record { since = r.since; more = r.more; grown = r.grown });
        }))
      ];
      numbers = λ q k is. elim (cases_eq q p) [
        | inl here ↦ (let same : k ≡ number + 1 = one_some (numbered ((world_of v').situation q)) k (number + 1) is (ap (λ x. numbered ((world_of v').situation x)) here ∙ now) in
            same ∙ ap (λ n. n + 1) (sym number_here) ∙ ap next_number (sym (ap (λ x. put l.told p ended x) here ∙ put_here l.told p ended)))
        | inr other ↦ h.numbers q k (sym (others q other).number ∙ is) ∙ ap next_number (sym (put_other l.told p ended q other))
      ];
    }

    pub closes_fit : (And : Open → Type 0) → Stands l.counted closing.o.it counts → And closing.o → Closes l p number false counts And closed
    closes_fit And stands also = record { open_edit = closing.o; was = closing.is; number_is = number_here; doubt_is = closing.doubt_is; stands = stands; also = also; is = refl }

    pub stands_here : Contains v.counted s.issue.edit → Contains l.counted closing.o.it
    stands_here there =
        let r = from_edits l.counted s.issue.edit (subst (λ (es : List PlainEdit). Contains es s.issue.edit) (sym h.counted) there) in
        subst (λ (e : Placed). Contains l.counted e) (closing.only r.0 r.1 (r.2 ∙ sym closing.edit)) r.1

    pub out_here : (Contains v.counted s.issue.edit → ⊥) → Contains l.counted closing.o.it → ⊥
    out_here out there = out (subst (λ (es : List PlainEdit). Contains es s.issue.edit) h.counted (subst (λ (e : PlainEdit). Contains (edits_in l) e) closing.edit (contains_edit l.counted closing.o.it there)))

    pub overtaken_here : (other : Other) → traces.IsOvertakenBy (world_of v) other s.issue → IsOvertakenBy l other closing.o
    overtaken_here other t =
        let cut : drop s.issue.since v.counted ≡ edits running.more =
        ap (λ n. drop n v.counted) (running.since ∙ sym (length-map closing.o.before (λ (e : Placed). e.edit)))
        ∙ ap (λ es. drop (length (edits closing.o.before)) es) (sym h.counted ∙ ap edits running.grown ∙ map-append (λ (e : Placed). e.edit) closing.o.before running.more)
        ∙ drop-append_seam (edits closing.o.before) (edits running.more) in
        let r = from_edits running.more t.by (subst (λ (es : List PlainEdit). Contains es t.by) cut t.since) in
        let once : NoneTwice l.counted = none_twice l.counted (subst (λ (es : List PlainEdit). Increasing es) (sym h.counted) h.good.sound.increasing) in
        record {
          by = r.0;
          counts = subst (λ (es : List Placed). Contains es r.0) (sym running.grown) (Contains-append_right closing.o.before running.more r.0 r.1);
          since = λ before. apart_parts closing.o.before running.more r.0 (subst (λ (es : List Placed). NoneTwice es) running.grown once) before r.1;
          cell = ap (λ (e : PlainEdit). e.cell) r.2 ∙ t.cell ∙ ap (λ (e : PlainEdit). e.cell) (sym closing.edit);
          process = ap (λ (e : PlainEdit). e.process) r.2 ∙ t.process;
          number = ap (λ (e : PlainEdit). e.number) r.2 ∙ t.number;
        }

  -- the process stops: its open edit is in doubt
  module _ (p : ℕ) (s : StopsIn p (world_of v) (world_of v')) where
    abbrev pub doubted : Ledger
    doubted = record l { opens = put l.opens p (in_doubt (l.opens p)) }

    in_doubt_here : (q : ℕ) → q ≡ p → doubted.opens q ≡ in_doubt (l.opens q)
    in_doubt_here q here = ap (λ x. put l.opens p (in_doubt (l.opens p)) x) here ∙ put_here l.opens p (in_doubt (l.opens p)) ∙ ap (λ x. in_doubt (l.opens x)) (sym here)

    pub stop_of : IsOf layout doubted v'
    stop_of = record {
      good = good;
      same = same;
      counted = h.counted ∙ sym s.counted;
      none = λ q is. (let was = h.none q (sym (s.open_edits q) ∙ is) in elim (cases_eq q p) [
        | inl here ↦ in_doubt_here q here ∙ ap in_doubt was
        | inr other ↦ put_other l.opens p (in_doubt (l.opens p)) q other ∙ was
      ]);
      some = λ q issue is. (let a = h.some q issue (sym (s.open_edits q) ∙ is) in elim (cases_eq q p) [
        | inl here ↦ subst (λ (b : Bool). As doubted issue q b) (sym (ap (λ x. doubts ((world_of v').situation x)) here ∙ ap doubts s.situation)) (record {
          o = record a.o { doubt = true };
          is = in_doubt_here q here ∙ ap in_doubt a.is;
          edit = a.edit;
          mine = a.mine;
          doubt_is = refl;
          only = a.only;
          running = λ sure. absurd (cc);
        })
        | inr other ↦ subst (λ (b : Bool). As doubted issue q b) (sym (ap doubts (s.others q other))) (record {
          o = a.o;
          is = put_other l.opens p (in_doubt (l.opens p)) q other ∙ a.is;
          edit = a.edit;
          mine = a.mine;
          doubt_is = a.doubt_is;
          only = a.only;
          running = λ on. (let r = a.running on in record { since = r.since; more = r.more; grown = r.grown });
        })
      ]);
      numbers = λ q k is. elim (cases_eq q p) [
        | inl here ↦ absurd (let bad : None ≡ Some k = sym (ap (λ x. numbered ((world_of v').situation x)) here ∙ ap numbered s.situation) ∙ is in cc)
        | inr other ↦ h.numbers q k (sym (ap numbered (s.others q other)) ∙ is)
      ];
    }

  -- a crash: every open edit is in doubt, and some are lost
  module _ (c : CrashesTo (world_of v) (world_of v')) where
    pub known : (p : ℕ) (issue : PlainIssue) → (world_of v).open_edits p ≡ Some issue → IsKnownAs l p issue
    known p issue is = let a = h.some p issue is in record { o = a.o; is = a.is; edit = a.edit; only = a.only }

    abbrev pub left : Ledger
    left = after_crash (world_of v) (world_of v') h.good.sound l h.counted known c

    pub left_loses : Loses l left
    left_loses = crash_loses (world_of v) (world_of v') h.good.sound l h.counted known c

    real : (p : ℕ) (issue : PlainIssue) → (world_of v).open_edits p ≡ Some issue → p < v.sheet.layout.processes
    real p issue is = elim (cases_lt p v.sheet.layout.processes) [
      | inl lt ↦ lt
      | inr ge ↦ absurd (no_some ((world_of v).open_edits p) issue (get_or_past v.open_edits p None (let n = h.good.open_edits in omega arith)) is)
    ]

    pub crash_of : IsOf layout left v'
    crash_of = record {
      good = good;
      same = same;
      counted = crash_counted (world_of v) (world_of v') h.good.sound l h.counted known c;
      none = λ p is. ap in_doubt (h.none p (sym (c.open_edits p) ∙ is));
      some = λ p issue is. (
          let was : (world_of v).open_edits p ≡ Some issue = sym (c.open_edits p) ∙ is in
          let a = h.some p issue was in
          subst (λ (b : Bool). As left issue p b) (sym (ap doubts (c.situation p (real p issue was)))) (record {
            o = record a.o { doubt = true };
            is = ap in_doubt a.is;
            edit = a.edit;
            mine = a.mine;
            doubt_is = refl;
            running = λ sure. absurd (cc);
            only = λ f there is. a.only f (of_filter _ l.counted f there) is;
          }));
      numbers = λ q k is. elim (cases_lt q v.sheet.layout.processes) [
        | inl lt ↦ absurd (let bad : None ≡ Some k = sym (ap numbered (c.situation q lt)) ∙ is in cc)
        | inr ge ↦ (
            let was : (world_of v).situation q ≡ Idle first_rest = get_or_past v.situations q (Idle first_rest) (let n = h.good.situations in omega arith) in
            let now : (world_of v').situation q ≡ Idle first_rest = get_or_past v'.situations q (Idle first_rest) (let n = good.situations in let lay = ap (λ (x : Layout). x.processes) c.layout in omega arith) in
            h.numbers q k (ap numbered (was ∙ sym now) ∙ is))
      ];
    }
