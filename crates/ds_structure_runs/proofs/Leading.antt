-- Runs of the core between worlds of the structure.
use Rattle.std.proofs.Common.{ℕ, ◌≡◌, ◌≢◌, ◌<◌, ◌≤◌, ◌==◌, List, [], ◌∷◌, ◌++◌, map, refl, ap, ◌∙◌, arith, Bool, true, false}
use Rattle.std.proofs.lemmas.List.{append-nil}
use Rattle.std.specs.Prelude.{if◌then◌else◌}
use Rattle.ds_core.specs.declared.event.Event.{Event}
use Rattle.ds_core.specs.declared.reply.Reply.{Reply}
use Rattle.ds_shared_runs.proofs.Histories.{run_both, answered_both, stood_both}
use Rattle.ds_shared_runs.specs.declared.history.CallEvent.{CallEvent}
use Rattle.ds_shared_runs.specs.History.{Happened, Moves, Run, Stood, answered_from, answered_by}
use Rattle.ds_layout.specs.SheetMemory.{entry_at}
use Rattle.ds_state.specs.Sound.{IsSound}
use Rattle.ds_structure.proofs.Words.{nothing_kept}
use Rattle.ds_structure.specs.Sheet.{SheetWorld}
use Rattle.ds_structure.specs.declared.sheet.SheetKey.{SheetKey}
use Rattle.ds_structure_runs.proofs.Tidy.{IsBare, tidy}
use Rattle.ds_structure_runs.specs.Runs.{core_world}

-- what one process did
abbrev pub only : ℕ → List CallEvent → ℕ → List CallEvent
only p ts q = if p == q then ts else []

-- a run of the core leads from the one world to the other, and process p did this on the way
pub record Led (key : SheetKey) (w v : SheetWorld) (p : ℕ) (ts : List CallEvent) : Type 0 where
  pub happened : List Happened
  pub run : Run (core_world key w) happened (core_world key v)
  pub stood : Stood happened
  pub sound : IsSound (core_world key v)
  pub bare : IsBare key v
  pub did : (q : ℕ) → answered_by q happened ≡ only p ts q

-- one event does
pub record Move (key : SheetKey) (w v : SheetWorld) (p : ℕ) (ts : List CallEvent) : Type 0 where
  pub event : Event
  pub reply : Reply
  pub moves : Moves (core_world key w) event reply (core_world key v)
  pub sound : IsSound (core_world key v)
  pub bare : IsBare key v
  pub did : (q : ℕ) → answered_from q (core_world key w) event reply ≡ only p ts q

pub led_by : (key : SheetKey) (w v : SheetWorld) (p : ℕ) (ts : List CallEvent) → IsSound (core_world key w) → IsBare key w → Move key w v p ts → Led key w v p ts
led_by key w v p ts sound bare m = record {
  happened = record { before = core_world key w; event = m.event; reply = m.reply } ∷ [];
  run = (m.moves, refl);
  stood = (record { sound = sound; tidy = tidy key w bare }, tt);
  sound = m.sound;
  bare = m.bare;
  did = λ q. append-nil (answered_from q (core_world key w) m.event m.reply) ∙ m.did q;
}

pub none_only : (b : Bool) → ◌≡◌ {A = List CallEvent} [] (if b then [] else [])
none_only true = refl
none_only false = refl

pub led_none : (key : SheetKey) (w : SheetWorld) (p : ℕ) → IsSound (core_world key w) → IsBare key w → Led key w w p []
led_none key w p sound bare = record { happened = []; run = refl; stood = tt; sound = sound; bare = bare; did = λ q. none_only (p == q) }

both_only : (b : Bool) (us : List CallEvent) → (if b then us else []) ++ (if b then [] else []) ≡ (if b then us else [])
both_only true us = append-nil us
both_only false us = refl

-- a run that answered nothing goes on
pub led_on : (key : SheetKey) (w m v : SheetWorld) (p : ℕ) (us : List CallEvent) → Led key w m p [] → Led key m v p us → Led key w v p us
led_on key w m v p us f g = record {
  happened = g.happened ++ f.happened;
  run = run_both (core_world key w) (core_world key m) (core_world key v) f.happened g.happened f.run g.run;
  stood = stood_both g.happened f.happened g.stood f.stood;
  sound = g.sound;
  bare = g.bare;
  did = λ q. answered_both q g.happened f.happened ∙ ((λ i. g.did q i ++ f.did q i) ∙ both_only (p == q) us);
}

-- what one process leaves is bare
pub bare_on : (key : SheetKey) (w v : SheetWorld) (p : ℕ) → p < key.layout.processes → IsBare key w → ((q : ℕ) → q ≢ p → map (entry_at key.layout) (v.memory.buffer q) ≡ map (entry_at key.layout) (w.memory.buffer q)) → ((q : ℕ) → q ≢ p → v.hidden.open_edits q ≡ w.hidden.open_edits q) → IsBare key v
bare_on key w v p low bare buffers opens = record {
  buffers = λ q high. nothing_kept key.layout (v.memory.buffer q) (buffers q (apart q high) ∙ ap (map (entry_at key.layout)) (bare.buffers q high));
  open_edits = λ q high. opens q (apart q high) ∙ bare.open_edits q high;
}
  where
    apart : (q : ℕ) → key.layout.processes ≤ q → q ≢ p
    apart q high is = omega arith
