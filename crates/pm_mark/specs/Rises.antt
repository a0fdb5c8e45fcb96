-- What every run of marks has.
use Rattle.std.specs.Prelude.{ℕ, ◌≡◌, ◌<◌, ◌≤◌, List, [], ◌∷◌}
use Rattle.pm_base.specs.Structures.{In, World}
use Rattle.pm_base.specs.Runs.{Happened, Run, IsNew, deeds_by, history_of}
use Rattle.pm_base.specs.declared.history.Deed.TheVariants.{Response}
use Rattle.pm_base.specs.declared.history.Event.{Event}
use Rattle.pm_base.specs.declared.history.Event.TheVariants.{Crash, Step}
use Rattle.pm_mark.specs.Marks.{mark}
use Rattle.pm_mark.specs.declared.mark.Raise.{Raise}
use Rattle.pm_mark.specs.declared.mark.Stage.TheVariants as stage
use Rattle.pm_mark.specs.declared.mark.Doing.{Doing}
use Rattle.pm_mark.specs.declared.mark.Doing.TheVariants.{Idle, Raising}

-- the event is no crash
abbrev pub IsNoCrash : Event Doing → Type 0
IsNoCrash Crash = ⊥
IsNoCrash _ = Unit {0}

-- no event but a crash lowers the mark
abbrev pub MarksRise : ℕ → Type 0
MarksRise n = (first last : World Doing (Unit {0})) (h : Happened mark n) (hs : List (Happened mark n)) → IsNew mark n first → Run mark n first (h ∷ hs) last → IsNoCrash h.entry.event → h.before.memory.cached 0 ≤ last.memory.cached 0

-- where a process was answered that the mark is up, no event takes it back, not even a crash
abbrev pub RaisesLast : ℕ → Type 0
RaisesLast n = (first last : World Doing (Unit {0})) (hs : List (Happened mark n)) (p v : ℕ) → IsNew mark n first → Run mark n first hs last → In (deeds_by p (history_of mark n hs)) (Response v) → v ≤ last.memory.persisted 0

-- a raise that ends with no answer has lost to another one: the mark was above the value that it had loaded
abbrev pub RaisesLoseToOthers : ℕ → Type 0
RaisesLoseToOthers n = (first last : World Doing (Unit {0})) (h : Happened mark n) (hs : List (Happened mark n)) (p : ℕ) (c : Raise) → IsNew mark n first → Run mark n first (h ∷ hs) last
    → h.entry.event ≡ Step p → h.before.situation p ≡ Raising c → last.situation p ≡ Idle → h.entry.responses ≡ []
    → (seen : ℕ) × (c.stage ≡ stage.Swap seen) × (seen < h.before.memory.cached 0)
