-- The answer of an edit, and its beginning.
use Rattle.std.proofs.Common.{ℕ, ◌≡◌, ◌<◌, ◌+◌, List, refl, ap, sym, ◌∙◌, subst, arith, inl, inr, suc, length}
use Rattle.std.proofs.lemmas.List.Elements.{All-weaker}
use Rattle.ds_words.specs.Memory.{SameMemory}
use Rattle.ds_layout.specs.declared.place.Place.TheVariants as place
use Rattle.ds_layout.specs.declared.announcement.Phase.{Phase}
use Rattle.ds_state.specs.Edits.{PlainEditCall, IsEdit, text_parts}
use Rattle.ds_state.specs.World.{PlainEdit, edit_of, PlainWorld, phase_among, last_announcement, announcement}
use Rattle.ds_state.specs.Known.{AreBelow, Knowing, StandsAs, standing_after, phase_of, word_of, ended, known_at, writing}
use Rattle.ds_state.specs.CallsFit.{EditFits, IdleFits, CallFits, IsSheetOf, HasRefs, held_at, Holds}
use Rattle.ds_state.specs.Sound.{IsSound}
use Rattle.ds_state.specs.Rely.{Keeps}
use Rattle.ds_state.specs.declared.stage.Outcome.{Outcome}
use Rattle.ds_state.specs.declared.stage.Outcome.TheVariants as outcome
use Rattle.ds_state.specs.declared.stage.Stage.{Stage}
use Rattle.ds_state.specs.declared.stage.Stage.TheVariants.{Answer}
use Rattle.ds_state.specs.declared.situation.Situation.{Situation}
use Rattle.ds_state.specs.declared.situation.Situation.TheVariants.{Editing}
use Rattle.ds_state.proofs.Outcomes.{among, not_among}
use Rattle.ds_state.specs.Owing.{Owes, Excuses, Parts, Splits}
use Rattle.ds_layout.specs.Mark.{IsHeldBy}
use Rattle.ds_state.proofs.Buffers.{buffered}
use Rattle.ds_state.proofs.EditFrame.{Framed, silent_framed, silent_keeps}
use Rattle.ds_state.proofs.Frames.{Moves, KeepsOwing}
use Rattle.ds_state.proofs.Accesses.{Turn, same_moves, quiet_sound}
use Rattle.ds_edit.specs.EditTakes.{StepsAt, Begins}
use Rattle.ds_edit.proofs.Turns.{is_within, on, turn}
use Rattle.ds_state.proofs.Frames.{notes, noted_in}
use Rattle.ds_edit.specs.EditTakes.{rest_before}

-- how the edit ended stands in the list
ended_as : (w : PlainWorld) (e : PlainEdit) (how : Outcome) → StandsAs w e (standing_after how) → phase_among w.counted e.process e.number ≡ phase_of how
ended_as w e outcome.Done stands = among w.counted e.cell stands.safe.head.before e stands.safe.head.after stands.safe.head.parts
ended_as w e (outcome.Overtaken noted seen) stands = not_among w.counted e.process e.number stands

ended_below : (w : PlainWorld) (e : PlainEdit) (how : Outcome) → StandsAs w e (standing_after how) → AreBelow w e.process (e.number + 1)
ended_below w e outcome.Done stands = stands.below
ended_below w e (outcome.Overtaken noted seen) stands =
    All-weaker (λ (f : PlainEdit). f.process ≡ e.process → f.number < e.number) (λ (f : PlainEdit). f.process ≡ e.process → f.number < e.number + 1) (λ f h k. let l = h k in omega arith) w.counted stands

last_after : (es : List PlainEdit) (p n : ℕ) (f : Phase) → phase_among es p n ≡ f → last_announcement es p (n + 1) ≡ announcement n f
last_after es p n f is =
    let more : n + 1 ≡ suc n = omega arith in
    ap (λ (k : ℕ). last_announcement es p k) more ∙ ap (λ x. announcement n x) is

-- an edit's answer leaves the world sound, and what the others rely on
pub step_answer : (e : PlainEditCall) (word : ℕ) (old new : PlainWorld) → IsSound old → (how : Outcome) → old.situation e.process ≡ Editing (on e (Answer how))
    → (fits : EditFits old e.process (on e (Answer how))) → StepsAt e (Answer how) word old new → Keeps e.process old new
step_answer e word old new sound how at fits t =
    let E : PlainEdit = edit_of e in
    let m : SameMemory old.memory new.memory = t.memory.1 in
    let tn : Turn e.process old new = turn e (Answer how) word old new t at (is_within e (Answer how) old fits) refl in
    let moves : Moves e.process place.Version old new = same_moves e.process old new tn m in
    let stands : StandsAs old E (standing_after how) = fits.knows.standing in
    let next : last_announcement old.counted e.process (e.number + 1) ≡ word_of old E (ended how) = last_after old.counted e.process e.number (phase_of how) (ended_as old E how stands) in
    let persisted : old.memory.persisted (place.Announce e.process) ≡ word_of old E (ended how) = elim fits.knows.announced.persisted [ inl is ↦ is | inr is ↦ is ] in
    let owes : (r c x : ℕ) → Owes old.memory e.process (old.situation e.process) r c x → ⊥ = λ r c x o. subst (λ (s : Situation). Owes old.memory e.process s r c x) at o in
    let excuses : (c x : ℕ) → Excuses old e.process (old.situation e.process) c x → ⊥ = λ c x o. (subst (λ (s : Situation). Excuses old e.process s c x) at o).1 in
    let parts : (r : ℕ) → Parts (old.situation e.process) r → ⊥ = λ r o. subst (λ (s : Situation). Parts s r) at o in
    let splits : (c head : ℕ) → Splits old e.process (old.situation e.process) c head → ⊥ = λ c head o. (subst (λ (s : Situation). Splits old e.process s c head) at o).1 in
    let f : Framed old new = silent_framed e.process old new moves tn.counted sound (buffered old sound) owes excuses parts splits m.buffer in
    quiet_sound e.process old new tn sound moves f.bears f.stand f.apart (silent_keeps e.process old new moves tn.counted sound (buffered old sound) owes excuses parts splits m.buffer)
    (λ l. subst (λ (x : Situation). CallFits new e.process x) (sym t.situation) (record {
      number = (let n = fits.is.number in omega arith);
      holds_none = λ r by. fits.holds_none r (subst (λ (x : ℕ). IsHeldBy e.process x) (m.cached (place.Mark r)) by);
      open_edits = t.open_edits;
      buffer = m.buffer e.process ∙ fits.buffer;
      below = rw tn.counted (ended_below old E how stands);
      cached = m.cached (place.Announce e.process) ∙ fits.knows.announced.cached ∙ sym next ∙ ap (λ es. last_announcement es e.process (e.number + 1)) (sym tn.counted);
      persisted = m.persisted (place.Announce e.process) ∙ persisted ∙ sym next ∙ ap (λ es. last_announcement es e.process (e.number + 1)) (sym tn.counted);
    }))

-- an edit begins
pub begin_sound : (e : PlainEditCall) (old new : PlainWorld) → IsSound old → IsEdit e → IsSheetOf old.layout e → HasRefs old.layout.shape e.text e.refs → Begins e old new → Keeps e.process old new
begin_sound e old new sound is sheet refs b =
    let E : PlainEdit = edit_of e in
    let tn : Turn e.process old new = record { layout = b.layout; counted = b.counted; situations = b.others; pendings = b.others_open_edits; goes = notes e.edition (rw sheet.processes is.process) (ap noted_in b.idle) (ap noted_in b.situation) } in
    let moves : Moves e.process place.Version old new = same_moves e.process old new tn b.memory in
    let low : e.process < old.layout.processes = rw sheet.processes is.process in
    let idle : IdleFits old e.process (rest_before e) = subst (λ (x : Situation). CallFits old e.process x) b.idle (sound.calls e.process low) in
    let owes : (r c x : ℕ) → Owes old.memory e.process (old.situation e.process) r c x → ⊥ = λ r c x o. subst (λ (s : Situation). Owes old.memory e.process s r c x) b.idle o in
    let excuses : (c x : ℕ) → Excuses old e.process (old.situation e.process) c x → ⊥ = λ c x o. subst (λ (s : Situation). Excuses old e.process s c x) b.idle o in
    let parts : (r : ℕ) → Parts (old.situation e.process) r → ⊥ = λ r o. subst (λ (s : Situation). Parts s r) b.idle o in
    let splits : (c head : ℕ) → Splits old e.process (old.situation e.process) c head → ⊥ = λ c head o. subst (λ (s : Situation). Splits old e.process s c head) b.idle o in
    let f : Framed old new = silent_framed e.process old new moves tn.counted sound (buffered old sound) owes excuses parts splits b.memory.buffer in
    let keeps : (cell : ℕ) → KeepsOwing old new cell = silent_keeps e.process old new moves tn.counted sound (buffered old sound) owes excuses parts splits b.memory.buffer in
    let knows : Knowing new e.edition E e.refs (length old.counted) (writing 0 0) = record {
      standing = rw b.counted idle.below;
      recorded = record { cached = λ k l. absurd (omega arith); persisted = λ k l. absurd (omega arith); fewer = omega arith };
      announced = record {
        cached = b.memory.cached (place.Announce e.process) ∙ idle.cached ∙ ap (λ es. last_announcement es e.process e.number) (sym b.counted);
        persisted = inl (b.memory.persisted (place.Announce e.process) ∙ idle.persisted ∙ ap (λ es. last_announcement es e.process e.number) (sym b.counted));
      };
      indexed = record { cached = λ i l. absurd (omega arith); persisted = λ i l. absurd (omega arith) };
      ored = tt;
      head = tt;
    } in
    quiet_sound e.process old new tn sound moves f.bears f.stand f.apart keeps (λ l. subst (λ (x : Situation). CallFits new e.process x) (sym b.situation) (record {
      mine = refl;
      is = is;
      sheet = record { cells = rw b.layout sheet.cells; processes = rw b.layout sheet.processes };
      refs = rw b.layout refs;
      since = length old.counted;
      open_edits = b.open_edits;
      issued = (let same = ap length b.counted in omega arith);
      holds_none = λ r by. idle.holds_none r (subst (λ (x : ℕ). IsHeldBy e.process x) (b.memory.cached (place.Mark r)) by);
      knows = subst (λ (x : Stage). Knowing new e.edition E e.refs (length old.counted) (known_at (text_parts e.text) (length e.refs) x)) (sym b.first) knows;
      buffer = subst (λ (x : Stage). Holds new e.edition E (held_at (text_parts e.text) e.refs x)) (sym b.first) (b.memory.buffer e.process ∙ idle.buffer);
    }))
