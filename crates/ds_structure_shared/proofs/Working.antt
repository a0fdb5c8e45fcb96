-- A whole work, pause by pause.
use Rattle.std.proofs.Common.{ℕ, ◌≡◌, ◌<◌, ◌≤◌, ◌+◌, ◌∙◌, List, [], ◌∷◌, ◌++◌, length, refl, sym, ap, subst, inl, inr, arith}
use Rattle.std.specs.Prelude.{Bool, true, false, nat_lt, if◌then◌else◌, Option, Some, MatchOption}
use Rattle.atomic_table.specs.Table.{Me}
use Rattle.ds_eval.specs.declared.inputs.Entry.{Entry}
use Rattle.ds_eval.specs.Inputs.{entry_in}
use Rattle.ds_eval.specs.Local.{local}
use Rattle.ds_layout.specs.declared.layout.Layout.{Layout}
use Rattle.ds_layout.specs.Places.{cells_of}
use Rattle.ds_state.specs.Works.{PlainWorkCall}
use Rattle.ds_state.specs.declared.situation.Situation.{Situation}
use Rattle.ds_state.specs.declared.situation.Situation.TheVariants.{Idle, Working}
use Rattle.ds_state.specs.declared.work.WorkEnd.{WorkEnd}
use Rattle.ds_state.specs.declared.work.WorkStage.{WorkStage}
use Rattle.ds_state.specs.declared.work.WorkStage.TheVariants.{Clear, LoadOwnValue, LoadValue, Read, StoreValue, Wait}
use Rattle.ds_work.proofs.Next.{next_noted}
use Rattle.ds_work.proofs.Gathered.{content_few}
use Rattle.ds_work.proofs.Ranks.{lacking_falls, offer_falls}
use Rattle.ds_work.proofs.Turning.{reading_less}
use Rattle.ds_work.specs.WorkRank.{left, steps_left}
use Rattle.ds_work.specs.WorkSteps.{offered, read_from}
use Rattle.ds_work.specs.WorkTakes.{IsAskedFor}
use Rattle.pm_base.specs.Structures as layer
use Rattle.pm_base.specs.Structures.{Came}
use Rattle.pm_base.specs.declared.history.Deed.TheVariants as deed
use Rattle.pm_board.specs.declared.board.View.{View}
use Rattle.pm_board.specs.Machines.{Grows, answered_so}
use Rattle.pm_board.specs.Views.{RunsOne, Sits, deeds_at}
use Rattle.pm_board.proofs.Histories.{grows_both}
use Rattle.ds_structure.proofs.Works.{doing_going}
use Rattle.ds_structure.specs.Calls.{MayWork, WorkGoes, asked, read, second_rest, works, work_doing, work_says}
use Rattle.ds_structure.specs.Calls as calls
use Rattle.ds_structure.specs.declared.response.Response.{Response}
use Rattle.ds_structure.specs.declared.work.WorkPause.{WorkPause}
use Rattle.ds_structure.specs.declared.work.WorkPause.TheVariants.{Answers}
use Rattle.ds_structure_shared.specs.Ends.{Ends, Stops, unbegun, inside}
use Rattle.ds_structure_shared.specs.Works.{EndsWork, IsOnward, StopsWork, Turns, WorkCame, Works, nowhere, on, reads, takes}
use Rattle.ds_structure_shared.specs.Works as whole

abbrev Sat : Type 0
Sat = Me ℕ (View Situation Response)

-- ---- what a turn leaves

-- the same process, number and cell, on the same sheet
pub record Same (e f : PlainWorkCall) : Type 0 where
  pub process : f.process ≡ e.process
  pub next : f.next ≡ e.next
  pub cell : f.cell ≡ e.cell
  pub cells : f.cells ≡ e.cells
  pub processes : f.processes ≡ e.processes

same_self : (e : PlainWorkCall) → Same e e
same_self e = record { process = refl; next = refl; cell = refl; cells = refl; processes = refl }

same_of : (e f g : PlainWorkCall) → g ≡ f → Same e f → Same e g
same_of e f g is h = subst (Same e) (sym is) h

same_both : (e f g : PlainWorkCall) → Same e f → Same f g → Same e g
same_both e f g a b = record { process = b.process ∙ a.process; next = b.next ∙ a.next; cell = b.cell ∙ a.cell; cells = b.cells ∙ a.cells; processes = b.processes ∙ a.processes }

-- a step of a work leaves its process, its number, its cell and its sheet
next_same : (e : PlainWorkCall) (word : ℕ) → Same e (works.next e word)
next_same e word = same_of e _ _ (next_noted e word e.stage) (record { process = refl; next = refl; cell = refl; cells = refl; processes = refl })

came_same : (e f : PlainWorkCall) → Came works e f → Same e f
came_same e f layer.still = same_self e
came_same e f (layer.steps d word came goes) = same_both e d _ (came_same e d came) (next_same d word)

-- of the work that a turn leaves: where it is, and that fewer steps are left
record Turned (layout : Layout) (e f : PlainWorkCall) : Type 0 where
  same : Same e f
  goes : WorkGoes f.stage
  onward : IsOnward f.stage
  fewer : steps_left e.cells f < steps_left e.cells e

turned_of : (layout : Layout) (e f g : PlainWorkCall) → g ≡ f → Turned layout e f → Turned layout e g
turned_of layout e f g is h = subst (Turned layout e) (sym is) h

turned : (layout : Layout) (e f : PlainWorkCall) → cells_of layout ≡ e.cells → Turns layout e f → Turned layout e f
turned layout e f cells (reads g good here (inl h)) = turned_of layout e _ _ h.after (by (nat_lt 0 (length h.inputs)) less)
  where
    at_read : left e.cells e Read ≡ steps_left e.cells e
    at_read = ap (λ (z : WorkStage). left e.cells e z) (sym here)

    less : steps_left e.cells (read_from e h.content h.inputs) < steps_left e.cells e
    less = let l = reading_less e.cells e h.content h.inputs (let few = content_few layout.shape e.text h.content h.inputs h.is in omega (arith, few, cells)) in omega (arith, l, at_read)

    by : (b : Bool) → steps_left e.cells (if b then record e { content = h.content; inputs = h.inputs; stage = LoadValue 0 } else record e { content = h.content; inputs = h.inputs; stage = LoadOwnValue }) < steps_left e.cells e
        → Turned layout e (if b then record e { content = h.content; inputs = h.inputs; stage = LoadValue 0 } else record e { content = h.content; inputs = h.inputs; stage = LoadOwnValue })
    by true l = record { same = record { process = refl; next = refl; cell = refl; cells = refl; processes = refl }; goes = tt; onward = tt; fewer = l }
    by false l = record { same = record { process = refl; next = refl; cell = refl; cells = refl; processes = refl }; goes = tt; onward = tt; fewer = l }
turned layout e f cells (reads g good here (inr h)) = turned_of layout e _ _ h (record {
  same = record { process = refl; next = refl; cell = refl; cells = refl; processes = refl };
  goes = tt;
  onward = tt;
  fewer = (let l = lacking_falls e.cells e in let at : left e.cells e Read ≡ steps_left e.cells e = ap (λ (z : WorkStage). left e.cells e z) (sym here) in omega (arith, l, at));
})
turned layout e f cells (takes g good here is) = turned_of layout e _ _ is (by _ less)
  where
    entry : Entry
    entry = local layout.shape e.content (entry_in e.inputs)

    less : steps_left e.cells (offered e entry) < steps_left e.cells e
    less = let l = offer_falls e.cells e entry in let at : left e.cells e Wait ≡ steps_left e.cells e = ap (λ (z : WorkStage). left e.cells e z) (sym here) in omega (arith, l, at)

    by : (b : Bool) → steps_left e.cells (record e { entry = entry; stage = if b then Clear false else StoreValue }) < steps_left e.cells e → Turned layout e (record e { entry = entry; stage = if b then Clear false else StoreValue })
    by true l = record { same = record { process = refl; next = refl; cell = refl; cells = refl; processes = refl }; goes = tt; onward = tt; fewer = l }
    by false l = record { same = record { process = refl; next = refl; cell = refl; cells = refl; processes = refl }; goes = tt; onward = tt; fewer = l }

-- ---- where the loop is

-- before the work's first step; or after a turn, where its process is in the work that was to turn
pub data Begun (layout : Layout) (first : PlainWorkCall) (old : Sat) : Sat → PlainWorkCall → ℕ → Type 0 where
  at_first : Begun layout first old old first 0
  after_turn : (me : Sat) (paused call : PlainWorkCall) (n : ℕ) → WorkCame layout first paused → Same first paused → Turns layout paused call → Sits me first.process (Working paused) → Works first old me [] n → Begun layout first old me call n

-- what is so before each drive of the loop
pub record Loops (layout : Layout) (first : PlainWorkCall) (old me : Sat) (call : PlainWorkCall) (n : ℕ) : Type 0 where
  pub begun : Begun layout first old me call n
  pub same : Same first call
  pub goes : WorkGoes call.stage
  pub cells : cells_of layout ≡ call.cells
  pub few : n + works.rank call ≤ works.rank first

module _ (layout : Layout) (first : PlainWorkCall) (old : Sat) (asked_for : IsAskedFor layout first.process (second_rest first.next) first.cell first) (idle : Sits old first.process (Idle (second_rest first.next))) where
  abbrev p : ℕ
  p = first.process

  goes_first : WorkGoes first.stage
  goes_first = subst WorkGoes (sym asked_for.first) tt

  pub at_begin : Loops layout first old old first 0
  at_begin = record { begun = at_first; same = same_self first; goes = goes_first; cells = asked_for.cells; few = omega arith }

  -- it may be driven on
  may_work : (me : Sat) (call : PlainWorkCall) (n : ℕ) → Begun layout first old me call n → (now : Situation) × Sits me p now × MayWork layout now call
  may_work me call n at_first = (Idle (second_rest first.next), idle, asked refl asked_for)
  may_work me call n (after_turn m f g k came same (reads h good here is) sits did) = (Working f, sits, read f refl good here is)
  may_work me call n (after_turn m f g k came same (takes h good here is) sits did) = (Working f, sits, calls.offered f refl good here is)

  -- ... from the seat of its own process
  pub may_on : (me : Sat) (call : PlainWorkCall) (n : ℕ) → Loops layout first old me call n → (now : Situation) × Sits me call.process now × MayWork layout now call
  may_on me call n l = let m = may_work me call n l.begun in (m.0, subst (λ (q : ℕ). Sits me q m.0) (sym l.same.process) m.1, m.2)

  -- the call after its own steps
  came_on : (me : Sat) (call : PlainWorkCall) (n : ℕ) → Begun layout first old me call n → WorkCame layout first call
  came_on me call n at_first = whole.still
  came_on me call n (after_turn m f g k came same turn sits did) = whole.turns f g came turn

  came_far : (call f : PlainWorkCall) → WorkCame layout first call → Came works call f → WorkCame layout first f
  came_far call f came layer.still = came
  came_far call f came (layer.steps d word k goes) = whole.steps d word (came_far call d came k) goes

  -- what the process did with a drive more
  did_on : (me new : Sat) (call : PlainWorkCall) (n m : ℕ) (says : List Response) → Loops layout first old me call n → (deeds_at new).done ≡ answered_so says ++ (deed.Began (work_doing call call.stage) ∷ (deeds_at me).done) → Grows call.process (deeds_at me) (deeds_at new) m → Works first old new (answered_so says) (n + m)
  did_on me new call n m says l done grows = by me call n l.begun l.goes done (subst (λ (q : ℕ). Grows q (deeds_at me) (deeds_at new) m) l.same.process grows)
    where
      by : (me : Sat) (call : PlainWorkCall) (n : ℕ) → Begun layout first old me call n → WorkGoes call.stage → (deeds_at new).done ≡ answered_so says ++ (deed.Began (work_doing call call.stage) ∷ (deeds_at me).done) → Grows p (deeds_at me) (deeds_at new) m → Works first old new (answered_so says) (n + m)
      by me call n at_first goes done grows = record {
        turns = [];
        onward = nowhere;
        done = done ∙ ap (λ (s : Situation). answered_so says ++ (deed.Began s ∷ (deeds_at old).done)) (doing_going first first.stage goes);
        grows = subst (Grows p (deeds_at old) (deeds_at new)) (let e : m ≡ 0 + m = omega arith in e) grows;
      }
      by me call n (after_turn m2 f g k came same turn sits did) goes done grows =
          let k2 : Turned layout f g = turned layout f g (asked_for.cells ∙ sym same.cells) turn in record {
            turns = deed.Began (Working g) ∷ did.turns;
            onward = on g did.turns k2.onward did.onward;
            done = done ∙ ((λ i. answered_so says ++ (deed.Began (doing_going g g.stage goes i) ∷ did.done i)));
            grows = grows_both p (deeds_at old) (deeds_at me) (deeds_at new) k m did.grows grows;
          }

  -- ---- after a drive

  at_paused : (e : PlainWorkCall) (s t : WorkStage) → s ≡ t → work_doing e t ≡ Working (record e { stage = t }) → work_doing e s ≡ Working (record e { stage = s })
  at_paused e s t is h = subst (λ (z : WorkStage). work_doing e z ≡ Working (record e { stage = z })) (sym is) h

  paused_doing : (e f : PlainWorkCall) → Turns layout e f → work_doing e e.stage ≡ Working e
  paused_doing e f (reads g good here is) = at_paused e e.stage Read here refl
  paused_doing e f (takes g good here is) = at_paused e e.stage Wait here refl

  paused_says : (e f : PlainWorkCall) → Turns layout e f → work_says e e.stage ≡ []
  paused_says e f (reads g good here is) = ap (work_says e) here
  paused_says e f (takes g good here is) = ap (work_says e) here

  ranked : (e f : PlainWorkCall) → Turned layout e f → works.rank f < works.rank e
  ranked e f k = subst (λ (c : ℕ). steps_left c f < steps_left e.cells e) (sym k.same.cells) k.fewer

  -- the sheet of a work that pauses
  pub on_cells : (me new : Sat) (call paused : PlainWorkCall) (pause : WorkPause) (n m : ℕ) → Loops layout first old me call n → Ends works call me new paused pause m → cells_of layout ≡ paused.cells
  on_cells me new call paused pause n m l e = l.cells ∙ sym (came_same call paused e.came).cells

  -- the work pauses, and turns
  pub on_turn : (me new : Sat) (call paused f : PlainWorkCall) (pause : WorkPause) (n m : ℕ) → Loops layout first old me call n → Ends works call me new paused pause m → Turns layout paused f → Loops layout first old new f (n + m)
  on_turn me new call paused f pause n m l e turn =
      let far : Same call paused = came_same call paused e.came in
      let all : Same first paused = same_both first call paused l.same far in
      let k : Turned layout paused f = turned layout paused f (asked_for.cells ∙ sym all.cells) turn in
      let less = ranked paused f k in
      let few = e.few in
      let most = l.few in
      let did : Works first old new (answered_so (work_says paused paused.stage)) (n + m) = did_on me new call n m (work_says paused paused.stage) l e.done e.grows in
      record {
        begun = after_turn new paused f (n + m) (came_far call paused (came_on me call n l.begun) e.came) all turn
            (subst (λ (z : ℕ × Situation). Sits new z.0 z.1) (λ i. (l.same.process i, paused_doing paused f turn i)) e.sits)
            (subst (λ (ts : List Response). Works first old new (answered_so ts) (n + m)) (paused_says paused f turn) did);
        same = same_both first paused f all k.same;
        goes = k.goes;
        cells = asked_for.cells ∙ sym (k.same.cells ∙ all.cells);
        few = omega (arith, less, few, most);
      }

  -- fewer steps are left then
  pub on_less : (me new : Sat) (call paused f : PlainWorkCall) (pause : WorkPause) (n m : ℕ) → Loops layout first old me call n → Ends works call me new paused pause m → Turns layout paused f → works.rank f < works.rank call
  on_less me new call paused f pause n m l e turn =
      let far : Same call paused = came_same call paused e.came in
      let all : Same first paused = same_both first call paused l.same far in
      let less = ranked paused f (turned layout paused f (asked_for.cells ∙ sym all.cells) turn) in
      let few = e.few in
      omega (arith, less, few)

  -- the work has ended
  pub on_end : (me new : Sat) (call last : PlainWorkCall) (end : WorkEnd) (n m : ℕ) → Loops layout first old me call n → Ends works call me new last (Answers end) m → EndsWork first old new last end (n + m)
  on_end me new call last end n m l e =
      let far : Same call last = came_same call last e.came in
      let all : Same first last = same_both first call last l.same far in
      let few = e.few in
      let most = l.few in
      let idle_again : work_doing last last.stage ≡ Idle (second_rest first.next) = ap (work_doing last) e.ends ∙ ap (λ (k : ℕ). Idle (second_rest k)) all.next in
      record {
        ends = e.ends;
        sits = subst (λ (z : ℕ × Situation). Sits new z.0 z.1) (λ i. (l.same.process i, idle_again i)) e.sits;
        did = subst (λ (ts : List Response). Works first old new (answered_so ts) (n + m)) (ap (work_says last) e.ends) (did_on me new call n m (work_says last last.stage) l e.done e.grows);
        few = omega (arith, few, most);
      }

  -- the work was broken off
  pub on_stop : (me new : Sat) (call last : PlainWorkCall) (n m : ℕ) → Loops layout first old me call n → Stops works call me new last m → StopsWork layout first old new (n + m)
  on_stop me new call last n m l unbegun = let same : n ≡ n + 0 = omega arith in subst (StopsWork layout first old me) same (by me call n l.begun most)
    where
      most : n ≤ works.rank first
      most = let few = l.few in omega (arith, few)

      by : (me : Sat) (call : PlainWorkCall) (n : ℕ) → Begun layout first old me call n → n ≤ works.rank first → StopsWork layout first old me n
      by me call n at_first few = whole.unbegun
      by me call n (after_turn m f g k came same turn sits did) few = whole.inside m f k came sits did few
  on_stop me new call last n m l (inside z d k came goes sits done grows few) =
      let most = l.few in
      whole.inside new d (n + m) (came_far call d (came_on me call n l.begun) came)
      (subst (λ (y : ℕ × Situation). Sits new y.0 y.1) (λ i. (l.same.process i, doing_going d d.stage goes i)) sits)
      (did_on me new call n m [] l done grows) (omega (arith, few, most))

  -- whatever came of it, the seat runs its process alone
  pub runs_end : (me : Sat) (call : PlainWorkCall) (end : WorkEnd) (n : ℕ) → EndsWork first old me call end n → RunsOne me p
  runs_end me call end n e = e.sits.runs

  pub runs_stop : (me : Sat) (n : ℕ) → StopsWork layout first old me n → RunsOne me p
  runs_stop me n whole.unbegun = idle.runs
  runs_stop me n (whole.inside new d k came sits did few) = sits.runs

-- what is so of a call's answer, where it is this
pub case_of : {X : Type 0} (A : Type 0) (B : X → Type 0) (o : Option X) (x : X) → o ≡ Some x → MatchOption o A B → B x
case_of {X} A B o x is h = subst (λ (z : Option X). MatchOption z A B) is h
