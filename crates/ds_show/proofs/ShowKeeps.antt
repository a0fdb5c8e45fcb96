-- The steps of a show as whole steps: they keep a world sound, and what others rely on.
use Rattle.std.proofs.Common.{ℕ, ◌≡◌, ◌<◌, ◌≤◌, ◌+◌, ◌*◌, ◌==◌, refl, ap, sym, ◌∙◌, subst, arith, true, false, nat_lt}
use Rattle.std.specs.Prelude.{Bool, if◌then◌else◌}
use Rattle.std.proofs.lemmas.Bool.{ltb-true}
use Rattle.ds_words.specs.Memory.{Memory, SameMemory}
use Rattle.ds_formula.specs.Cells.{count_of}
use Rattle.ds_formula.specs.declared.cells.Cell.{Cell}
use Rattle.ds_formula.specs.declared.cells.Shape.{Shape}
use Rattle.ds_eval.proofs.Walks.{index_below}
use Rattle.ds_layout.specs.declared.place.Place.{Place}
use Rattle.ds_layout.specs.declared.place.Place.TheVariants.{Version}
use Rattle.ds_layout.specs.declared.layout.Layout.{Layout}
use Rattle.ds_layout.specs.Places.{cells_of}
use Rattle.ds_layout.specs.SheetMemory.{PerformsAt, CanPerform, NamesPlace, HasBuffer}
use Rattle.ds_state.specs.Works.{PlainShowCall}
use Rattle.ds_state.specs.World.{PlainWorld}
use Rattle.ds_state.specs.Owing.{Owes, Parts, Splits, Excuses}
use Rattle.ds_state.specs.KnownWork.{IsAtRest}
use Rattle.ds_state.specs.KnownShow.{noted, reads_clean, reads_pending, Moment, moment_of, ShowFitsAt, ShowFits}
use Rattle.ds_state.specs.ShowStages.{IsStage}
use Rattle.ds_show.specs.ShowSteps.{rest_of, access_at, next_at, after, StepsAt, Begins, fresh, rank, Falls, at}
use Rattle.ds_state.specs.CallsFit.{CallFits, IdleFits}
use Rattle.ds_state.specs.Rely.{Grows, Keeps}
use Rattle.ds_state.specs.Sound.{IsSound}
use Rattle.ds_state.specs.declared.show.ShowStage.{ShowStage}
use Rattle.ds_state.specs.declared.show.ShowStage.TheVariants.{LoadAnnounce, LoadMark, LoadValue, LoadKind, AgainMark, AgainAnnounce, Answer}
use Rattle.ds_state.specs.declared.situation.Situation.{Situation}
use Rattle.ds_state.specs.declared.situation.Situation.TheVariants.{Showing}
use Rattle.ds_state.proofs.Frames.{Moves, grows_own}
use Rattle.ds_state.proofs.Buffers.{buffered}
use Rattle.ds_state.proofs.Accesses.{Turn, same_moves, quiet_sound}
use Rattle.ds_state.proofs.EditFrame.{Framed, silent_framed, silent_keeps}
use Rattle.ds_state.proofs.StableShow.{show_goes, rest_same}
use Rattle.ds_show.proofs.ShowSteps.{Sees, moment_after, on, advance, branches}
use Rattle.ds_state.specs.declared.situation.Rest.{Rest}
use Rattle.ds_state.proofs.Frames.{Goes, notes, nobody, noted_in}
use Rattle.std.proofs.Common.{inl, inr, Some}
use Rattle.std.specs.Prelude.{Bool, if◌then◌else◌}
use Rattle.std.proofs.lemmas.Bool.{cases_lt}
use Rattle.ds_show.specs.ShowSteps.{off_announce, off_mark, announce_from, mark_from, again_mark_from, again_announce_from, with_announcement, with_mark, with_kind}
use Rattle.ds_state.specs.declared.show.ShowEnd.TheVariants.{Settled}
use Rattle.ds_layout.specs.declared.place.Edition.{Edition}

-- no access of a show changes a word
pub touches_nothing : (s : ShowStage) (p word : ℕ) (old new : PlainWorld) → PerformsAt (access_at s) p old.memory new.memory word → SameMemory old.memory new.memory
touches_nothing (LoadAnnounce i) p word old new m = m.1
touches_nothing (LoadMark i) p word old new m = m.1
touches_nothing (LoadValue i) p word old new m = m.1
touches_nothing (LoadKind i) p word old new m = m.1
touches_nothing (AgainMark i) p word old new m = m.1
touches_nothing (AgainAnnounce i) p word old new m = m.1
touches_nothing (Answer end) p word old new m = m.1

-- and it sees the cached side
pub sees_word : (s : ShowStage) (p word : ℕ) (old new : PlainWorld) → PerformsAt (access_at s) p old.memory new.memory word → Sees old s word
sees_word (LoadAnnounce i) p word old new m = m.0
sees_word (LoadMark i) p word old new m = m.0
sees_word (LoadValue i) p word old new m = m.0
sees_word (LoadKind i) p word old new m = m.0
sees_word (AgainMark i) p word old new m = m.0
sees_word (AgainAnnounce i) p word old new m = m.0
sees_word (Answer end) p word old new m = tt

-- a step, or a begin, of a process that shows the sheet or is idle, which touches no word
module _ (p : ℕ) (old new : PlainWorld) (sound : IsSound old) (turn : Turn p old new) (m : SameMemory old.memory new.memory)
    (owes : (r c x : ℕ) → Owes old.memory p (old.situation p) r c x → ⊥) (excuses : (c x : ℕ) → Excuses old p (old.situation p) c x → ⊥)
    (parts : (r : ℕ) → Parts (old.situation p) r → ⊥) (splits : (c head : ℕ) → Splits old p (old.situation p) c head → ⊥) where
  moves : Moves p Version old new
  moves = same_moves p old new turn m

  pub goes_on : Grows p Version old new
  goes_on = grows_own p Version old new moves turn.counted

  pub silent : (p < new.layout.processes → CallFits new p (new.situation p)) → Keeps p old new
  silent call =
      let f : Framed old new = silent_framed p old new moves turn.counted sound (buffered old sound) owes excuses parts splits m.buffer in
      quiet_sound p old new turn sound moves f.bears f.stand f.apart (silent_keeps p old new moves turn.counted sound (buffered old sound) owes excuses parts splits m.buffer) call

either : (b : Bool) (x y : PlainShowCall) (d : Edition) → x.edition ≡ d → y.edition ≡ d → (if b then x else y).edition ≡ d
either true x y d h k = h
either false x y d h k = k

next_edition : (e : PlainShowCall) (s : ShowStage) (word : ℕ) → (next_at e s word).edition ≡ e.edition
next_edition e (LoadAnnounce i) word = either (reads_pending word) (off_announce e i word) (announce_from (with_announcement e word) (i + 1)) e.edition refl (either (nat_lt (i + 1) e.processes) (on (with_announcement e word) (LoadAnnounce (i + 1))) (on (with_announcement e word) (LoadMark 0)) e.edition refl refl)
next_edition e (LoadMark i) word = either (reads_clean e.processes word) (mark_from (with_mark e word) (i + 1)) (off_mark e i word) e.edition (either (nat_lt (i + 1) e.cells) (on (with_mark e word) (LoadMark (i + 1))) (on (with_mark e word) (LoadValue 0)) e.edition refl refl) refl
next_edition e (LoadValue i) word = refl
next_edition e (LoadKind i) word = either (nat_lt (i + 1) e.cells) (on (with_kind e word) (LoadValue (i + 1))) (on (with_kind e word) (AgainMark 0)) e.edition refl refl
next_edition e (AgainMark i) word = either (word == noted e.marks i) (again_mark_from e (i + 1)) (off_mark e i word) e.edition (either (nat_lt (i + 1) e.cells) (on e (AgainMark (i + 1))) (on e (AgainAnnounce 0)) e.edition refl refl) refl
next_edition e (AgainAnnounce i) word = either (word == noted e.announcements i) (again_announce_from e (i + 1)) (off_announce e i word) e.edition (either (nat_lt (i + 1) e.processes) (on e (AgainAnnounce (i + 1))) (on e (Answer Settled)) e.edition refl refl) refl
next_edition e (Answer end) word = refl

noted_after : (e : PlainShowCall) (s : ShowStage) (word : ℕ) → noted_in (after e s word) ≡ Some e.edition
noted_after e (Answer end) word = refl
noted_after e s word = ap (λ (d : Edition). Some d) (next_edition e s word)

after_fits : (w : PlainWorld) (e : PlainShowCall) (s : ShowStage) (word : ℕ) (m : Moment) → ShowFitsAt w e.process (next_at (on e s) s word) m → IdleFits w e.process (rest_of e) → CallFits w e.process (after e s word)
after_fits w e (LoadAnnounce i) word m h k = (m, h)
after_fits w e (LoadMark i) word m h k = (m, h)
after_fits w e (LoadValue i) word m h k = (m, h)
after_fits w e (LoadKind i) word m h k = (m, h)
after_fits w e (AgainMark i) word m h k = (m, h)
after_fits w e (AgainAnnounce i) word m h k = (m, h)
after_fits w e (Answer end) word m h k = k

-- the step of a show
module _ (e : PlainShowCall) (s : ShowStage) (word : ℕ) (old new : PlainWorld) (sound : IsSound old) (was : old.situation e.process ≡ Showing (on e s)) (t : StepsAt e s word old new) where
  same : SameMemory old.memory new.memory
  same = touches_nothing s e.process word old new t.memory

  turn_goes : Goes e.process old new
  turn_goes = elim (cases_lt e.process old.layout.processes) [
    | inl real ↦ notes e.edition real (ap noted_in was) (ap noted_in t.situation ∙ noted_after e s word)
    | inr past ↦ nobody past (λ r. (same.cached r, inl (same.persisted r)))
  ]

  turn : Turn e.process old new
  turn = record { layout = t.layout; counted = t.counted; situations = t.others; pendings = λ q ne. t.open_edits q; goes = turn_goes }

  owes : (r c x : ℕ) → Owes old.memory e.process (old.situation e.process) r c x → ⊥
  owes r c x o = subst (λ (y : Situation). Owes old.memory e.process y r c x) was o

  excuses : (c x : ℕ) → Excuses old e.process (old.situation e.process) c x → ⊥
  excuses c x o = subst (λ (y : Situation). Excuses old e.process y c x) was o

  parts : (r : ℕ) → Parts (old.situation e.process) r → ⊥
  parts r o = subst (λ (y : Situation). Parts y r) was o

  splits : (c head : ℕ) → Splits old e.process (old.situation e.process) c head → ⊥
  splits c head o = subst (λ (y : Situation). Splits old e.process y c head) was o

  grows : Grows e.process Version old new
  grows = goes_on e.process old new sound turn same owes excuses parts splits

  -- what it knows goes on, with its moment
  pub known_next : (m : Moment) → ShowFitsAt old e.process (on e s) m → ShowFitsAt new e.process (next_at (on e s) s word) (moment_after old m s)
  known_next m fits = show_goes old new e.process (next_at (on e s) s word) (moment_after old m s) grows (t.open_edits e.process) (same.buffer e.process)
      (advance old e.process sound e m s word (sees_word s e.process word old new t.memory) fits)

  idle_next : (m : Moment) → ShowFitsAt old e.process (on e s) m → IdleFits new e.process (rest_of e)
  idle_next m fits =
      let rest : IsAtRest new e.process e.next = rest_same e.process old new grows e.next (t.open_edits e.process) fits.rest in
      record {
        number = rest.number;
        holds_none = λ r by. fits.holds_none r ((grows.holds r (λ x. cc)).came by);
        open_edits = rest.open_edits;
        buffer = same.buffer e.process ∙ fits.buffer;
        below = rest.below;
        cached = rest.cached;
        persisted = rest.persisted;
      }

  pub step_keeps : ShowFits old e.process (on e s) → Keeps e.process old new
  step_keeps (m, fits) = silent e.process old new sound turn same owes excuses parts splits (λ l. subst (λ (x : Situation). CallFits new e.process x) (sym t.situation) (after_fits new e s word (moment_after old m s) (known_next m fits) (idle_next m fits)))

-- a show begins
some_cells : (shape : Shape) → 0 < count_of shape
some_cells shape =
    let c : Cell = record { column = 0; row = 0 } in
    let l = index_below shape c (record { column = shape.within.some_columns; row = shape.within.some_rows }) in
    omega arith

module _ (p : ℕ) (next : Rest) (old new : PlainWorld) (sound : IsSound old) (real : p < old.layout.processes) (b : Begins p next old new) where
  idle : IdleFits old p next
  idle = subst (λ (s : Situation). CallFits old p s) b.idle (sound.calls p real)

  begin_turn : Turn p old new
  begin_turn = record { layout = b.layout; counted = b.counted; situations = b.others; pendings = λ q ne. b.open_edits q; goes = notes next.edition real (ap noted_in b.idle) (ap noted_in b.situation) }

  begin_grows : Grows p Version old new
  begin_grows = grows_own p Version old new (same_moves p old new begin_turn b.memory) b.counted

  pub begin_known : ShowFitsAt new p (fresh p next (cells_of old.layout) old.layout.processes) (moment_of new)
  begin_known =
      let rest : IsAtRest new p next.number = rest_same p old new begin_grows next.number (b.open_edits p) (record { number = idle.number; open_edits = idle.open_edits; below = idle.below; cached = idle.cached; persisted = idle.persisted }) in
      record {
        mine = refl;
        is = record {
          cells = some_cells old.layout.shape;
          processes = old.layout.some;
          stage = (old.layout.some, record { announcements = refl; marks = refl; values = refl; kinds = refl });
        };
        cells = ap cells_of b.layout;
        processes = ap (λ (l : Layout). l.processes) b.layout;
        rest = rest;
        holds_none = λ r by. idle.holds_none r ((begin_grows.holds r (λ x. cc)).came by);
        buffer = b.memory.buffer p ∙ idle.buffer;
        noted = record {
          announcements = λ q l. absurd (omega arith);
          marks = λ c l. absurd (omega arith);
          clean = λ c l. absurd (omega arith);
          calm = λ q l. absurd (omega arith);
          values = λ c l. absurd (omega arith);
          kinds = λ c l. absurd (omega arith);
          fewer = (omega arith, omega arith);
        };
        seen = tt;
      }

  pub begin_keeps : Keeps p old new
  begin_keeps = silent p old new sound begin_turn b.memory
      (λ r c x o. subst (λ (y : Situation). Owes old.memory p y r c x) b.idle o) (λ c x o. subst (λ (y : Situation). Excuses old p y c x) b.idle o)
      (λ r o. subst (λ (y : Situation). Parts y r) b.idle o) (λ c head o. subst (λ (y : Situation). Splits old p y c head) b.idle o)
      (λ l. subst (λ (x : Situation). CallFits new p x) (sym b.situation) (moment_of new, begin_known))

-- each step leaves fewer, but for the answer's; at most two for each process and four for each cell, and the answer's
below : (n : ℕ) (b : Bool) (x y : PlainShowCall) → (b ≡ true → rank x < n) → (b ≡ false → rank y < n) → rank (if b then x else y) < n
below n b x y h k = branches (λ z. rank z < n) b x y h k

-- each step of a show but the answer's leaves fewer
pub falls : (e : PlainShowCall) (s : ShowStage) (word : ℕ) → IsStage e s → Falls e s (next_at e s word)
falls e (LoadAnnounce i) word (l, h) = below (rank (at e (LoadAnnounce i))) (reads_pending word) _ _ (λ b. omega arith)
    (λ b. below (rank (at e (LoadAnnounce i))) (nat_lt (i + 1) e.processes) _ _ (λ t. let k = ltb-true (i + 1) e.processes t in omega arith) (λ f. omega arith))
falls e (LoadMark i) word (l, h) = below (rank (at e (LoadMark i))) (reads_clean e.processes word) _ _
    (λ b. below (rank (at e (LoadMark i))) (nat_lt (i + 1) e.cells) _ _ (λ t. let k = ltb-true (i + 1) e.cells t in omega arith) (λ f. omega arith)) (λ b. omega arith)
falls e (LoadValue i) word (l, h) = omega arith
falls e (LoadKind i) word (l, h) = below (rank (at e (LoadKind i))) (nat_lt (i + 1) e.cells) _ _ (λ t. let k = ltb-true (i + 1) e.cells t in omega arith) (λ f. omega arith)
falls e (AgainMark i) word (l, h) = below (rank (at e (AgainMark i))) (word == noted e.marks i) _ _
    (λ b. below (rank (at e (AgainMark i))) (nat_lt (i + 1) e.cells) _ _ (λ t. let k = ltb-true (i + 1) e.cells t in omega arith) (λ f. omega arith)) (λ b. omega arith)
falls e (AgainAnnounce i) word (l, h) = below (rank (at e (AgainAnnounce i))) (word == noted e.announcements i) _ _
    (λ b. below (rank (at e (AgainAnnounce i))) (nat_lt (i + 1) e.processes) _ _ (λ t. let k = ltb-true (i + 1) e.processes t in omega arith) (λ f. omega arith)) (λ b. omega arith)
falls e (Answer end) word h = tt

-- a show has at most two steps left for each process, four for each cell, and the answer's
pub few : (e : PlainShowCall) (s : ShowStage) → rank (at e s) ≤ 2 * e.processes + 4 * e.cells + 1
few e (LoadAnnounce i) = omega arith
few e (LoadMark i) = omega arith
few e (LoadValue i) = omega arith
few e (LoadKind i) = omega arith
few e (AgainMark i) = omega arith
few e (AgainAnnounce i) = omega arith
few e (Answer end) = omega arith

-- each access names a word of the sheet
pub named : (layout : Layout) (e : PlainShowCall) → cells_of layout ≡ e.cells → layout.processes ≡ e.processes → (s : ShowStage) → IsStage e s → NamesPlace layout (access_at s)
named layout e cells processes (LoadAnnounce i) h = rw processes h.0
named layout e cells processes (LoadMark i) h = rw cells h.0
named layout e cells processes (LoadValue i) h = rw cells h.0
named layout e cells processes (LoadKind i) h = rw cells h.0
named layout e cells processes (AgainMark i) h = rw cells h.0
named layout e cells processes (AgainAnnounce i) h = rw processes h.0
named layout e cells processes (Answer end) h = tt

-- and needs no buffer
no_buffer : (layout : Layout) (memory : Memory Place) (p : ℕ) (s : ShowStage) → HasBuffer layout memory p (access_at s)
no_buffer layout memory p (LoadAnnounce i) = tt
no_buffer layout memory p (LoadMark i) = tt
no_buffer layout memory p (LoadValue i) = tt
no_buffer layout memory p (LoadKind i) = tt
no_buffer layout memory p (AgainMark i) = tt
no_buffer layout memory p (AgainAnnounce i) = tt
no_buffer layout memory p (Answer end) = tt

-- a show that fits can perform the access of its stage
pub possible : (w : PlainWorld) (p : ℕ) (e : PlainShowCall) (m : Moment) → ShowFitsAt w p e m → CanPerform w.layout w.memory p (access_at e.stage)
possible w p e m fits = (named w.layout e fits.cells fits.processes e.stage fits.is.stage, no_buffer w.layout w.memory p e.stage)
