-- A recovery begins, and answers.
use Rattle.std.proofs.Common.{ℕ, ◌≡◌, ◌<◌, ◌≤◌, ◌+◌, ◌/◌, ◌⊎◌, List, [], refl, ap, sym, ◌∙◌, subst, arith, inl, inr, Some, None, true, false, zero, suc}
use Rattle.std.specs.Prelude.{Option, Bool, Contains}
use Rattle.std.proofs.lemmas.Bool.{cases_eq}
use Rattle.std.proofs.lemmas.List.Elements.{All-weaker}
use Rattle.ds_words.specs.declared.access.BufferEntry.{BufferEntry}
use Rattle.ds_words.specs.Memory.{SameMemory}
use Rattle.ds_layout.specs.declared.place.TheConstants.{RECORDS}
use Rattle.ds_layout.specs.declared.place.Place.TheVariants.{Version, Mark, Value, Kind, Announce}
use Rattle.ds_layout.specs.declared.announcement.Phase.{Phase}
use Rattle.ds_layout.specs.declared.announcement.Phase.TheVariants as phase
use Rattle.ds_layout.specs.Places.{cells_of}
use Rattle.ds_formula.specs.Cells.{count_of}
use Rattle.ds_formula.specs.declared.cells.Cell.{Cell}
use Rattle.ds_formula.specs.declared.cells.Shape.{Shape}
use Rattle.ds_eval.proofs.Walks.{index_below}
use Rattle.ds_state.specs.Works.{PlainRecoverCall}
use Rattle.ds_state.specs.World.{PlainEdit, PlainIssue, PlainWorld, of_cell, head_after_all, announcement, last_announcement, phase_among}
use Rattle.ds_state.specs.Known.{Standing, outside, inside, safe, Announced, last, pending, ended, word_of, phase_of, AreBelow, StandsAs}
use Rattle.ds_state.specs.declared.stage.Outcome.TheVariants as outcome
use Rattle.ds_state.specs.Owing.{entry, HoldsNone, Owes, Parts, IsPending, Excuses, Splits}
use Rattle.ds_layout.specs.Mark.{IsHeldBy}
use Rattle.ds_state.specs.CallsFit.{CallFits, MaySay, IsThrough, DoubtFits, IdleFits, StoppedFits, RecoveryFits}
use Rattle.ds_state.specs.KnownRecovery.{Tells, ResolvedFits, over}
use Rattle.ds_state.specs.Rely.{Grows, Keeps}
use Rattle.ds_state.specs.Sound.{IsSound}
use Rattle.ds_recover.specs.RecoverySteps.{StepsAt, BeginsRecovery, at, next_number, rest_after}
use Rattle.ds_state.specs.declared.recovery.RecoverStage.TheVariants.{LoadVersion, Answer}
use Rattle.ds_state.specs.declared.situation.Situation.{Situation}
use Rattle.ds_state.specs.declared.situation.Situation.TheVariants.{Idle, Stopped, Recovering}
use Rattle.ds_state.proofs.Outcomes.{not_among, among}
use Rattle.ds_state.proofs.Lasting.{below_stable, last_stable}
use Rattle.ds_state.proofs.Stable.{doubt_grows}
use Rattle.ds_state.proofs.Frames.{Moves, turns, grows_own}
use Rattle.ds_state.specs.LayoutsFit.{LayoutFits, NoneMoves}
use Rattle.ds_state.specs.declared.situation.Rest.{Rest}
use Rattle.ds_state.proofs.Bearing.{Mine, bears, all_stand, text_same, no_new_marks, apart_lasts, splits_last, pends_last, marks_grow}
use Rattle.ds_state.proofs.Buffers.{buffered}
use Rattle.ds_state.proofs.EditFrame.{Framed, silent_framed, silent_keeps}
use Rattle.ds_state.proofs.Accesses.{Turn, same_moves, quiet_sound}
use Rattle.ds_recover.proofs.RecoveryFrame.{turn_of, held_on, pends_on}
use Rattle.ds_recover.proofs.RecoveryDoubt.{last_number}

-- a process that is at rest but for its open edit
pub record Rests (w : PlainWorld) (p next : ℕ) : Type 0 where
  pub number : next ≤ RECORDS
  pub below : AreBelow w p next
  pub cached : w.memory.cached (Announce p) ≡ last_announcement w.counted p next

above_zero : (n : ℕ) (f : Phase) → announcement n f ≡ 0 → ⊥
above_zero n f is = omega arith

last_zero : (w : PlainWorld) (p n : ℕ) → last_announcement w.counted p n ≡ 0 → n ≡ 0
last_zero w p zero is = refl
last_zero w p (suc n) is = absurd (above_zero n (phase_among w.counted p n) is)

tells_number : (word : ℕ) (how : Bool) → (k : Tells word how) → word / 4 ≡ k.number + 1
tells_number word true k = let i = k.is in omega arith
tells_number word false k = let i = k.is in omega arith

below_more : (w : PlainWorld) (p n : ℕ) → AreBelow w p n → AreBelow w p (n + 1)
below_more w p n h = All-weaker (λ (f : PlainEdit). f.process ≡ p → f.number < n) (λ (f : PlainEdit). f.process ≡ p → f.number < n + 1) (λ f k same. let l = k same in omega arith) w.counted h

-- what an ended edit announces is how it ended
ended_last : (w : PlainWorld) (e : PlainEdit) (s : Standing) (how : _) → MaySay s (ended how) → StandsAs w e s → (announcement e.number (phase_of how) ≡ last_announcement w.counted e.process (suc e.number)) × AreBelow w e.process (e.number + 1)
ended_last w e outside (outcome.Overtaken a b) said stands =
    (ap (λ (f : Phase). announcement e.number f) (sym (not_among w.counted e.process e.number stands)), below_more w e.process e.number stands)
ended_last w e outside outcome.Done said stands = absurd said
ended_last w e (inside own) how said stands = absurd said
ended_last w e safe outcome.Done said stands =
    (ap (λ (f : Phase). announcement e.number f) (sym (among w.counted e.cell stands.safe.head.before e stands.safe.head.after stands.safe.head.parts)), stands.below)
ended_last w e safe (outcome.Overtaken a b) said stands = absurd said

-- nothing was announced
pub rests_none : (w : PlainWorld) (p : ℕ) (o : Option PlainIssue) → DoubtFits w p o → w.memory.cached (Announce p) ≡ 0 → Rests w p 0
rests_none w p None h is =
    let n = last_zero w p h.next (sym h.rest.cached ∙ is) in
    subst (λ (n : ℕ). Rests w p n) n (record { number = h.rest.number; below = h.rest.below; cached = h.rest.cached })
rests_none w p (Some issue) h is = at_now h.now h.said h.cached
  where
    e : PlainEdit
    e = issue.edit

    at_now : (a : Announced) → MaySay h.standing a → w.memory.cached (Announce p) ≡ word_of w e a → Rests w p 0
    at_now last said c =
        let n : e.number ≡ 0 = last_zero w e.process e.number (sym c ∙ is) in
        outs h.standing said h.stands n
      where
        outs : (s : Standing) → MaySay s last → StandsAs w e s → e.number ≡ 0 → Rests w p 0
        outs outside said stands n = record {
          number = omega arith;
          below = subst (λ (q : ℕ). AreBelow w q 0) h.mine (subst (λ (k : ℕ). AreBelow w e.process k) n stands);
          cached = is;
        }
        outs (inside own) said stands n = absurd said
        outs safe said stands n = absurd said
    at_now pending said c = absurd (above_zero e.number phase.Pending (sym c ∙ is))
    at_now (ended how) said c = absurd (above_zero e.number (phase_of how) (sym c ∙ is))

-- this was
rests_some : (w : PlainWorld) (p : ℕ) (o : Option PlainIssue) (word : ℕ) (how : Bool) → DoubtFits w p o → w.memory.cached (Announce p) ≡ word → Tells word how → Rests w p (word / 4)
rests_some w p None word how h is k =
    let n = last_number w p h.next word how (sym h.rest.cached ∙ is) k in
    subst (λ (n : ℕ). Rests w p n) n (record { number = h.rest.number; below = h.rest.below; cached = h.rest.cached })
rests_some w p (Some issue) word how h is k = at_now h.now h.said h.cached
  where
    e : PlainEdit
    e = issue.edit

    few : e.number < RECORDS
    few = h.number

    pend : (b : Bool) (word : ℕ) → Tells word b → word ≡ announcement e.number phase.Pending → ⊥
    pend true word k same = let i = k.is in omega arith
    pend false word k same = let i = k.is in omega arith

    at_now : (a : Announced) → MaySay h.standing a → w.memory.cached (Announce p) ≡ word_of w e a → Rests w p (word / 4)
    at_now last said c = outs h.standing said h.stands
      where
        n : e.number ≡ word / 4
        n = last_number w e.process e.number word how (sym c ∙ is) k

        outs : (s : Standing) → MaySay s last → StandsAs w e s → Rests w p (word / 4)
        outs outside said stands = subst (λ (n : ℕ). Rests w p n) n (record {
          number = omega arith;
          below = subst (λ (q : ℕ). AreBelow w q e.number) h.mine stands;
          cached = c ∙ ap (λ (q : ℕ). last_announcement w.counted q e.number) h.mine;
        })
        outs (inside own) said stands = absurd said
        outs safe said stands = absurd said
    at_now pending said c = absurd (pend how word k (sym is ∙ c))
    at_now (ended how') said c =
        let l = ended_last w e h.standing how' said h.stands in
        let n : suc e.number ≡ word / 4 = last_number w e.process (suc e.number) word how (sym l.0 ∙ sym c ∙ is) k in
        record {
          number = omega arith;
          below = subst (λ (q : ℕ). AreBelow w q (word / 4)) h.mine (subst (λ (x : ℕ). AreBelow w e.process x) (let y : e.number + 1 ≡ word / 4 = omega arith in y) l.1);
          cached = subst (λ (x : ℕ). w.memory.cached (Announce p) ≡ last_announcement w.counted p x) n (c ∙ l.0 ∙ ap (λ (q : ℕ). last_announcement w.counted q (suc e.number)) h.mine);
        }

-- a recovery's process is, at its answer, at rest but for its open edit
pub rests : (w : PlainWorld) (p word cell : ℕ) (how : Option Bool) → DoubtFits w p (w.open_edits p) → ResolvedFits w p word cell (over how) → Rests w p (next_number word how)
rests w p word cell None h k = rests_none w p (w.open_edits p) h (let a = k.0 in let b = k.2 in omega arith)
rests w p word cell (Some how) h k = rests_some w p (w.open_edits p) word how h k.0 k.2

over_persisted : (w : PlainWorld) (p word cell : ℕ) (how : Option Bool) → ResolvedFits w p word cell (over how) → w.memory.persisted (Announce p) ≡ w.memory.cached (Announce p)
over_persisted w p word cell None k = k.1 ∙ sym k.0
over_persisted w p word cell (Some how) k = k.1 ∙ sym k.0

-- the answer
module _ (e : PlainRecoverCall) (how : Option Bool) (word : ℕ) (old new : PlainWorld) (sound : IsSound old) (real : e.process < old.layout.processes)
    (was : old.situation e.process ≡ Recovering (at e (Answer how))) (fits : RecoveryFits old e.process (at e (Answer how))) (t : StepsAt e (Answer how) word old new) where
  abbrev p : ℕ
  p = e.process

  abbrev m : SameMemory old.memory new.memory
  m = t.memory.1

  tn : Turn p old new
  tn = turn_of e (Answer how) word old new real was tt t

  moves : Moves p Version old new
  moves = same_moves p old new tn m

  owes : (r c x : ℕ) → Owes old.memory p (old.situation p) r c x → ⊥
  owes r c x o = subst (λ (s : Situation). Owes old.memory p s r c x) was o

  excuses : (c x : ℕ) → Excuses old p (old.situation p) c x → ⊥
  excuses c x o = (subst (λ (s : Situation). Excuses old p s c x) was o).1

  parts : (r : ℕ) → Parts (old.situation p) r → ⊥
  parts r o = subst (λ (s : Situation). Parts s r) was o

  splits : (c head : ℕ) → Splits old p (old.situation p) c head → ⊥
  splits c head o = (subst (λ (s : Situation). Splits old p s c head) was o).1

  f : Framed old new
  f = silent_framed p old new moves tn.counted sound (buffered old sound) owes excuses parts splits m.buffer

  rest : Rests old p (next_number e.announcement how)
  rest = rests old p e.announcement e.cell how fits.doubt fits.resolved

  g : Grows p Version old new
  g = grows_own p Version old new moves tn.counted

  idle : IdleFits new p (rest_after e how)
  idle =
      let n : ℕ = next_number e.announcement how in
      record {
        number = rest.number;
        holds_none = λ r by. fits.freed r (subst (λ (x : ℕ). IsHeldBy p x) (m.cached (Mark r)) by);
        open_edits = t.open_edits;
        buffer = m.buffer p ∙ fits.buffer;
        below = below_stable p Version old new g n rest.below;
        cached = m.cached (Announce p) ∙ rest.cached ∙ sym (last_stable p Version old new g n);
        persisted = m.persisted (Announce p) ∙ over_persisted old p e.announcement e.cell how fits.resolved ∙ rest.cached ∙ sym (last_stable p Version old new g n);
      }

  pub step_answer : Keeps p old new
  step_answer = quiet_sound p old new tn sound moves f.bears f.stand f.apart (silent_keeps p old new moves tn.counted sound (buffered old sound) owes excuses parts splits m.buffer)
      (λ l. subst (λ (s : Situation). CallFits new p s) (sym t.situation) idle)

some_cells : (shape : Shape) → 0 < count_of shape
some_cells shape =
    let c : Cell = record { column = 0; row = 0 } in
    let l = index_below shape c (record { column = shape.within.some_columns; row = shape.within.some_rows }) in
    omega arith

-- the begin
module _ (e : PlainRecoverCall) (old new : PlainWorld) (sound : IsSound old) (real : e.process < old.layout.processes) (cells : cells_of old.layout ≡ e.cells) (processes : old.layout.processes ≡ e.processes)
    (alone : NoneMoves old e.process) (b : BeginsRecovery e old new) where
  abbrev q : ℕ
  q = e.process

  tb : Turn q old new
  tb = record {
    layout = b.layout;
    counted = b.counted;
    situations = b.others;
    pendings = λ x ne. b.open_edits x;
    goes = turns alone (λ l. subst (λ (s : Situation). LayoutFits new q s) (sym b.situation) tt);
  }

  mb : Moves q Version old new
  mb = same_moves q old new tb b.memory

  gb : Grows q Version old new
  gb = grows_own q Version old new mb tb.counted

  begun : old.memory.buffer q ≡ [] → DoubtFits old q (old.open_edits q) → RecoveryFits new q (at e LoadVersion)
  begun empty doubt = record {
    mine = refl;
    cells = rw tb.layout cells;
    processes = rw tb.layout processes;
    doubt = subst (λ (o : Option PlainIssue). DoubtFits new q o) (sym (b.open_edits q)) (doubt_grows Version old new q gb (b.open_edits q) (λ x. cc) (λ n x. cc) (old.open_edits q) doubt);
    freed = λ r l by. omega arith;
    resolved = tt;
    buffer = b.memory.buffer q ∙ empty;
    is = record { process = rw (sym processes) real; processes = rw (sym processes) old.layout.limited; some = (let k = some_cells old.layout.shape in omega arith); cells = (let k = old.layout.shape.within.cells_to_1024 in omega arith); stage = tt };
  }

  no_value : (r : ℕ) → (Version ≡ Value r) ⊎ (Version ≡ Kind r) → ⊥
  no_value r at = elim at [ inl x ↦ cc | inr x ↦ cc ]

  from_stopped : old.situation q ≡ Stopped → Keeps q old new
  from_stopped was =
      let stopped : StoppedFits old q = subst (λ (s : Situation). CallFits old q s) was (sound.calls q real) in
      let held : (r : ℕ) → _ = held_on q old new mb in
      let pends : (c : ℕ) → IsPending old q c → IsPending new q c = pends_on q old new mb (b.open_edits q) in
      let my : Mine q Version old new mb = record {
        owes = λ r c x bit matters h o. record { holder = q; held = held r h; still = subst (λ (s : Situation). Owes new.memory q s r c x) (sym b.situation) tt };
        excuses = λ l c x matters o. record { process = q; inside = rw tb.layout l; still = subst (λ (s : Situation). Excuses new q s c x) (sym b.situation) (pends c (subst (λ (s : Situation). Excuses old q s c x) was o), tt) };
        stored = λ r at. absurd (no_value r at);
        holds = λ r at. absurd (no_value r at);
        cached_heads = λ c at. cc;
        persisted_heads = λ c at. cc;
      } in
      quiet_sound q old new tb sound mb (bears q Version old new mb sound my)
      (all_stand q Version old new mb sound (buffered old sound) my (text_same old new mb.layout tb.counted)
      (no_new_marks q Version old new mb (λ c at. cc) (λ c x k h. subst (λ (xs : List (BufferEntry _)). Contains xs (entry (Mark c) x)) (b.memory.buffer k) h)))
      (λ cell a. inl (elim (cases_eq a.holder q) [
        | inr ne ↦ apart_lasts q Version old new mb cell a ne
        | inl eq ↦ record { holder = q; held = held cell (subst (λ (k : ℕ). Rattle.ds_state.specs.Owing.IsHeld old.memory k cell) eq a.held); still = subst (λ (s : Situation). Parts s cell) (sym b.situation) tt }
      ]))
      (λ cell f issue its pending' same before last_of owes'. (
        b.open_edits f.process ∙ pending',
        elim (cases_eq f.process q) [
          | inl eq ↦ (
              let k : IsPending old q f.cell = subst (λ (s : Situation). Splits old q s f.cell (head_after_all (of_cell cell old.counted))) was (subst (λ (x : ℕ). Splits old x (old.situation x) f.cell (head_after_all (of_cell cell old.counted))) eq owes') in
              subst (λ (x : ℕ). Splits new x (new.situation x) f.cell (head_after_all (of_cell cell old.counted))) (sym eq)
              (subst (λ (s : Situation). Splits new q s f.cell (head_after_all (of_cell cell old.counted))) (sym b.situation) (pends f.cell k, tt)))
          | inr ne ↦ subst (λ (s : Situation). Splits new f.process s f.cell (head_after_all (of_cell cell old.counted))) (sym (b.others f.process ne))
              (splits_last old new f.process (λ c. marks_grow q Version old new mb c) (b.memory.buffer f.process) (λ c k. pends_last q Version old new mb f.process c ne k) (old.situation f.process) f.cell _ owes')
        ],
      ))
      (λ l. subst (λ (s : Situation). CallFits new q s) (sym b.situation) (begun stopped.buffer stopped.doubt))

  from_idle : (next : Rest) → old.situation q ≡ Idle next → Keeps q old new
  from_idle next was =
      let idle : IdleFits old q next = subst (λ (s : Situation). CallFits old q s) was (sound.calls q real) in
      let owes : (r c x : ℕ) → Owes old.memory q (old.situation q) r c x → ⊥ = λ r c x o. subst (λ (s : Situation). Owes old.memory q s r c x) was o in
      let excuses : (c x : ℕ) → Excuses old q (old.situation q) c x → ⊥ = λ c x o. subst (λ (s : Situation). Excuses old q s c x) was o in
      let parts : (r : ℕ) → Parts (old.situation q) r → ⊥ = λ r o. subst (λ (s : Situation). Parts s r) was o in
      let splits : (c head : ℕ) → Splits old q (old.situation q) c head → ⊥ = λ c head o. subst (λ (s : Situation). Splits old q s c head) was o in
      let f : Framed old new = silent_framed q old new mb tb.counted sound (buffered old sound) owes excuses parts splits b.memory.buffer in
      let through : IsThrough old q = record { next = next.number; rest = record { number = idle.number; open_edits = idle.open_edits; below = idle.below; cached = idle.cached; persisted = idle.persisted } } in
      quiet_sound q old new tb sound mb f.bears f.stand f.apart (silent_keeps q old new mb tb.counted sound (buffered old sound) owes excuses parts splits b.memory.buffer)
      (λ l. subst (λ (s : Situation). CallFits new q s) (sym b.situation) (begun idle.buffer (subst (λ (o : Option PlainIssue). DoubtFits old q o) (sym idle.open_edits) through)))

  pub begin_keeps : (old.situation q ≡ Stopped) ⊎ ((next : Rest) × (old.situation q ≡ Idle next)) → Keeps q old new
  begin_keeps (inl was) = from_stopped was
  begin_keeps (inr was) = from_idle was.0 was.1
