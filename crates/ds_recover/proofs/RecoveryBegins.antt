-- A recovery that begins keeps a world good.
use Rattle.std.proofs.Common.{ℕ, ◌≡◌, ◌<◌, ◌⊎◌, length, set, refl, ap, ◌∙◌, arith, inl, inr}
use Rattle.std.proofs.Math.ListN.{length-set}
use Rattle.std.proofs.lemmas.List.{get_or-set_same, get_or-set_other}
use Rattle.ds_layout.specs.Places.{cells_of}
use Rattle.ds_state.specs.Works.{PlainRecoverCall}
use Rattle.ds_state.specs.World.{PlainWorld}
use Rattle.ds_state.specs.Rely.{Keeps}
use Rattle.ds_state.specs.Sound.{IsSound}
use Rattle.ds_state.specs.Value.{WorldValue, first_rest, world_of, IsReserved}
use Rattle.ds_state.specs.declared.situation.Rest.{Rest}
use Rattle.ds_state.specs.declared.situation.Situation.{Situation}
use Rattle.ds_state.specs.LayoutsFit.{NoneMoves}
use Rattle.ds_state.specs.declared.situation.Situation.TheVariants.{Idle, Stopped, Editing, Working, Recovering, Showing, Migrating}
use Rattle.ds_state.proofs.Underway.{no_more}
use Rattle.ds_recover.specs.RecoverySteps.{BeginsRecovery, fresh}
use Rattle.ds_recover.specs.RecoverBegun.{MayRecover, IsBegun}
use Rattle.ds_recover.proofs.RecoveryEnds.{begin_keeps}

may_be : (w : PlainWorld) (p : ℕ) (s : Situation) → w.situation p ≡ s → MayRecover s → (w.situation p ≡ Stopped) ⊎ ((next : Rest) × (w.situation p ≡ Idle next))
may_be w p (Idle next) is may = inr (next, is)
may_be w p Stopped is may = inl is
may_be w p (Editing e) is may = absurd may
may_be w p (Working e) is may = absurd may
may_be w p (Recovering e) is may = absurd may
may_be w p (Showing e) is may = absurd may
may_be w p (Migrating e) is may = absurd may

-- a beginning keeps a sound world sound, and what others rely on
pub begun_keeps : (p : ℕ) (old new : PlainWorld) → IsSound old → p < old.layout.processes → IsBegun old p new → Keeps p old new
begun_keeps p old new sound low b = begin_keeps (fresh p (cells_of old.layout) old.layout.processes) old new sound low refl refl b.alone b.begins (may_be old p (old.situation p) refl b.free)

-- the world in which the recovery is under way
abbrev pub entered : WorldValue → PlainRecoverCall → WorldValue
entered v e = record v { situations = set v.situations e.process (Recovering e) }

module _ (v : WorldValue) (e : PlainRecoverCall) (room : ℕ) (kept : IsReserved v room) (low : e.process < v.sheet.layout.processes) (may : MayRecover ((world_of v).situation e.process)) (alone : NoneMoves (world_of v) e.process)
    (first : e ≡ fresh e.process (cells_of v.sheet.layout) v.sheet.layout.processes) where
  there : e.process < length v.situations
  there = let s = kept.good.situations in omega arith

  began : BeginsRecovery (fresh e.process (cells_of v.sheet.layout) v.sheet.layout.processes) (world_of v) (world_of (entered v e))
  began = record {
    layout = refl;
    memory = record { cached = λ r. refl; persisted = λ r. refl; buffer = λ q. refl };
    situation = get_or-set_same v.situations e.process (Recovering e) (Idle first_rest) there ∙ ap (λ (x : PlainRecoverCall). Recovering x) first;
    others = λ q ne. get_or-set_other v.situations e.process q (Recovering e) (Idle first_rest) ne;
    counted = refl;
    open_edits = λ q. refl;
  }

  pub entered_kept : IsReserved (entered v e) room
  entered_kept = record {
    good = record {
      sound = (begun_keeps e.process (world_of v) (world_of (entered v e)) kept.good.sound low (record { free = may; alone = alone; begins = began })).sound;
      situations = length-set v.situations e.process (Recovering e) ∙ kept.good.situations;
      open_edits = kept.good.open_edits;
      reports = kept.good.reports;
      answered = kept.good.answered;
      counts = no_more v.situations e.process (Recovering e) v.settled _ there refl kept.good.counts;
    };
    reserved = kept.reserved;
  }
