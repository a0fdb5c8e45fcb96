-- Numbers that are spent stay so, and edits that are linearized have others.
use Rattle.std.proofs.Common.{ℕ, ◌≡◌, ◌<◌, ◌≤◌, sym, subst, arith, suc, inl, inr, length}
use Rattle.ds_layout.specs.declared.place.Place.{Place}
use Rattle.ds_layout.specs.declared.place.Place.TheVariants.{Version, Announce}
use Rattle.ds_layout.proofs.PlaceCases.{place_cases}
use Rattle.ds_state.specs.Edits.{PlainEditCall, text_parts}
use Rattle.ds_state.specs.World.{PlainWorld, edit_of}
use Rattle.ds_state.specs.Known.{Knowing, known_at}
use Rattle.ds_state.specs.CallsFit.{CallFits, EditFits}
use Rattle.ds_state.specs.Events.{Evicts}
use Rattle.ds_state.specs.Crashes.{CrashesTo}
use Rattle.ds_state.specs.Sound.{IsSound}
use Rattle.ds_state.specs.Rely.{Keeps}
use Rattle.ds_state.specs.Spent.{IsSpent}
use Rattle.ds_state.specs.declared.stage.Outcome.{Outcome}
use Rattle.ds_state.specs.declared.stage.Outcome.TheVariants as outcome
use Rattle.ds_state.specs.declared.stage.Stage.{Stage}
use Rattle.ds_state.specs.declared.stage.Stage.TheVariants.{Swap, Answer}
use Rattle.ds_state.specs.declared.situation.Situation.{Situation}
use Rattle.ds_state.specs.declared.situation.Situation.TheVariants.{Editing}

-- a persisted announcement that is no smaller
pub spent_grown : (old new : PlainWorld) (q n : ℕ) → old.memory.persisted (Announce q) ≤ new.memory.persisted (Announce q) → IsSpent old q n → IsSpent new q n
spent_grown old new q n more h = omega (arith, more, h)

-- after whatever a process does, or an eviction, or a crash
pub spent_stays : (p : ℕ) (old new : PlainWorld) → Keeps p old new → (q n : ℕ) → IsSpent old q n → IsSpent new q n
spent_stays p old new k q n = spent_grown old new q n (((k.others (suc p) (λ same. omega arith)).grows Version).announces_persisted q)

-- a number that is spent stays so in an eviction
pub spent_evicted : (place : Place) (old new : PlainWorld) → IsSound old → Evicts place old new → (q n : ℕ) → IsSpent old q n → IsSpent new q n
spent_evicted place old new sound v q n = spent_grown old new q n (elim (place_cases (Announce q) place) [
  | inl eq ↦ (
      let there : new.memory.persisted (Announce q) ≡ old.memory.cached (Announce q) = subst (λ (r : Place). new.memory.persisted r ≡ old.memory.cached r) (sym eq) v.memory.there in
      let sides = (sound.words (Announce q)).sides in
      omega (arith, there, sides))
  | inr ne ↦ (let same = v.memory.elsewhere (Announce q) ne in omega (arith, same))
])

-- a number that is spent stays so in a crash
pub spent_crashed : (old new : PlainWorld) → CrashesTo old new → (q n : ℕ) → IsSpent old q n → IsSpent new q n
spent_crashed old new crash q n = spent_grown old new q n (let same = crash.memory.persisted (Announce q) in omega (arith, same))

module _ (w : PlainWorld) (e : PlainEditCall) (sound : IsSound w) (low : e.process < w.layout.processes) (at : w.situation e.process ≡ Editing e) where
  fits : EditFits w e.process e
  fits = subst (λ (x : Situation). CallFits w e.process x) at (sound.calls e.process low)

  knows : (s : Stage) → e.stage ≡ s → Knowing w e.edition (edit_of e) e.refs fits.since (known_at (text_parts e.text) (length e.refs) s)
  knows s is = subst (λ (x : Stage). Knowing w e.edition (edit_of e) e.refs fits.since (known_at (text_parts e.text) (length e.refs) x)) is fits.knows

  -- an edit that may be linearized next has announced that it is pending, on both sides
  pub swap_unspent : (head n : ℕ) → e.stage ≡ Swap head → IsSpent w e.process n → n < e.number
  swap_unspent head n is spent = let k = knows (Swap head) is in elim k.announced.persisted [ inl p ↦ omega (arith, p, spent) | inr p ↦ omega (arith, p, spent) ]

  -- an edit that answers has announced how it ended
  pub answer_spent : (how : Outcome) → e.stage ≡ Answer how → IsSpent w e.process e.number
  answer_spent outcome.Done is = let k = knows (Answer outcome.Done) is in elim k.announced.persisted [ inl p ↦ omega (arith, p) | inr p ↦ omega (arith, p) ]
  answer_spent (outcome.Overtaken noted seen) is = let k = knows (Answer (outcome.Overtaken noted seen)) is in elim k.announced.persisted [ inl p ↦ omega (arith, p) | inr p ↦ omega (arith, p) ]

-- an edit that is about to swing has a number above each spent one of its process
pub swap_law : (w : PlainWorld) (e : PlainEditCall) (head n : ℕ) → IsSound w → e.process < w.layout.processes → w.situation e.process ≡ Editing e → e.stage ≡ Swap head → IsSpent w e.process n → n < e.number
swap_law w e head n sound low at = swap_unspent w e sound low at head n

-- at its answer an edit's number is spent
pub answer_law : (w : PlainWorld) (e : PlainEditCall) (how : Outcome) → IsSound w → e.process < w.layout.processes → w.situation e.process ≡ Editing e → e.stage ≡ Answer how → IsSpent w e.process e.number
answer_law w e how sound low at = answer_spent w e sound low at how
