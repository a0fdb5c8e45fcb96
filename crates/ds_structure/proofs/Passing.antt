-- What a process leaves: a sound world, in which what was answered is true still.
use Rattle.std.proofs.Common.{ℕ, ◌≡◌, ◌<◌, ◌≤◌, List, [], ◌++◌, refl, sym, ap, subst, ◌∙◌, inl, inr, arith, le_refl, le_trans, Bool, true, false}
use Rattle.std.proofs.lemmas.List.{append_assoc}
use mathlib.Core.Logic.{dite}
use native.Mathlib.Decide.{ℕ_discrete}
use Rattle.std.specs.Prelude.{Contains}
use Rattle.ds_layout.specs.declared.layout.Layout.{Layout}
use Rattle.ds_layout.specs.declared.place.Place.TheVariants.{Version}
use Rattle.ds_state.specs.World.{PlainEdit, PlainWorld, edit_of}
use Rattle.ds_state.specs.Sound.{IsSound}
use Rattle.ds_state.specs.Spent.{IsSpent}
use Rattle.ds_state.specs.Leaves.{Leaves}
use Rattle.ds_state.specs.LayoutsFit.{IsMoving}
use Rattle.ds_state.specs.declared.recovery.RecoveryEnd.TheVariants.{Last, Nothing}
use Rattle.ds_state.specs.declared.show.ShowEnd.TheVariants.{Settled, Unsettled}
use Rattle.ds_state.specs.declared.situation.Situation.{Situation}
use Rattle.ds_state.specs.declared.stage.Outcome.{Outcome}
use Rattle.ds_state.specs.declared.stage.Outcome.TheVariants.{Done, Overtaken}
use Rattle.ds_state.proofs.Middles.{lasts_same, lasts_counts}
use Rattle.ds_state.proofs.Leaves.{leaves_on}
use Rattle.ds_show.specs.ShowSteps.{answered}
use Rattle.pm_base.specs.Structures.{In, Goes, GoesTelling}
use Rattle.ds_structure.specs.Sheet.{SheetWorld, plain, IsSecond, IsWell, IsTrueOutcome, CountsAs, WasFront, WereScratch, IsTrue, sheet}
use Rattle.ds_structure.specs.declared.response.Response.{Response}
use Rattle.ds_structure.specs.declared.response.Response.TheVariants.{Edited, Worked, Shown, Recovered}
use Rattle.ds_structure.specs.declared.sheet.SheetKey.{SheetKey}
use Rattle.ds_structure.proofs.Seconds.{both_one}

-- ---- what was answered stays true

-- the sheet stays, spent numbers stay so, linearized edits stay, and none comes whose number is spent
pub record KeepsEdits (old new : PlainWorld) : Type 0 where
  pub layout : new.layout ≡ old.layout
  pub spent : (q n : ℕ) → IsSpent old q n → IsSpent new q n
  pub added : List PlainEdit
  pub counted : new.counted ≡ old.counted ++ added
  pub stays : (d : PlainEdit) → Contains old.counted d → Contains new.counted d
  pub came : (d : PlainEdit) → Contains new.counted d → IsSpent old d.process d.number → Contains old.counted d

module _ (old new : PlainWorld) (k : KeepsEdits old new) where
  outcome_on : (d : PlainEdit) (how : Outcome) → IsSpent old d.process d.number → IsTrueOutcome old.counted d how → IsTrueOutcome new.counted d how
  outcome_on d Done spent there = k.stays d there
  outcome_on d (Overtaken noted seen) spent out = λ there. out (k.came d there spent)

  counts_on : (q n : ℕ) (how : Bool) → IsSpent old q n → CountsAs old.counted q n how → CountsAs new.counted q n how
  counts_on q n true spent h = (h.0, k.stays h.0 h.1, h.2, h.3)
  counts_on q n false spent out = λ d there own is. out d (k.came d there (subst (λ (z : ℕ × ℕ). IsSpent old z.0 z.1) (λ i. (sym own i, sym is i)) spent)) own is

  front_on : (before : List (List PlainEdit)) (front : List PlainEdit) → WasFront old.counted before front → WasFront new.counted before front
  front_on before front (inl h) = inl (h.0 ++ k.added, k.counted ∙ (ap (λ (z : List PlainEdit). z ++ k.added) h.1 ∙ append_assoc front h.0 k.added))
  front_on before front (inr h) = inr h

  pub true_on : (before : List (List PlainEdit)) (q : ℕ) (t : Response) → IsTrue old before q t → IsTrue new before q t
  true_on before q (Edited e how) h = record {
    own = h.own;
    spent = k.spent q e.number h.spent;
    holds = outcome_on (edit_of e) how (subst (λ (z : ℕ). IsSpent old z e.number) (sym h.own) h.spent) h.holds;
  }
  true_on before q (Worked e end) h = tt
  true_on before q (Recovered e Nothing) h = tt
  true_on before q (Recovered e (Last resolved)) h = record { spent = k.spent q resolved.number h.spent; holds = counts_on q resolved.number resolved.counts h.spent h.holds }
  true_on before q (Shown e Settled) h = subst (λ (l : Layout). WereScratch l.shape new.counted before (answered e)) (sym k.layout) (record { front = h.front; was = front_on before h.front h.was; right = h.right })
  true_on before q (Shown e (Unsettled r word)) h = tt

-- ---- what a process leaves

-- the process leaves the others what is theirs; the version's word does not lessen, and the process migrates no sheet
pub record Passed (p : ℕ) (old new : PlainWorld) : Type 0 where
  pub leaves : Leaves p old new
  pub version : old.memory.persisted Version ≤ new.memory.persisted Version
  pub rests : IsMoving (new.situation p) → ⊥

pub passed_on : (p : ℕ) (old mid new : PlainWorld) → Passed p old mid → Passed p mid new → Passed p old new
passed_on p old mid new f g = record { leaves = leaves_on p old mid new f.leaves g.leaves; version = le_trans f.version g.version; rests = g.rests }

pub passed_none : (p : ℕ) (w : PlainWorld) → IsSound w → (IsMoving (w.situation p) → ⊥) → Passed p w w
passed_none p w sound rests = record {
  leaves = record { sound = sound; lasts = lasts_same w; situations = λ q ne. refl; buffers = λ q ne. refl; announced = λ q. le_refl _; came = λ d h. inl h; middles = λ h. h };
  version = le_refl _;
  rests = rests;
}

module _ (p : ℕ) (old new : PlainWorld) (f : Passed p old new) where
  pub second_on : IsSecond old → IsSecond new
  second_on h =
      let both = both_one new (old.memory.persisted Version) f.leaves.sound h.persisted f.version in record {
        cached = both.0;
        persisted = both.1;
        settled = λ q low. dite (ℕ_discrete q p)
            (λ same moving. f.rests (subst (λ (z : Situation). IsMoving z) (ap new.situation same) moving))
            (λ other moving. h.settled q (subst (λ (l : Layout). q < l.processes) f.leaves.lasts.layout low) (subst (λ (z : Situation). IsMoving z) (f.leaves.situations q other) moving));
      }

  pub well_on : IsWell old → IsWell new
  well_on h = record { sound = f.leaves.sound; second = second_on h.second; middles = f.leaves.middles h.middles }

  pub keeps_edits : KeepsEdits old new
  keeps_edits = record {
    layout = f.leaves.lasts.layout;
    spent = λ q n h. le_trans h (f.leaves.announced q);
    added = f.leaves.lasts.added;
    counted = f.leaves.lasts.counted;
    stays = lasts_counts old new f.leaves.lasts;
    came = λ d there spent. elim (f.leaves.came d there) [
      | inl was ↦ was
      | inr own ↦ (
          let less : d.number < d.number = own.1 d.number (subst (λ (z : ℕ). IsSpent old z d.number) own.0 spent) in
          absurd (omega arith))
    ];
  }

-- it does, and is answered what is true
pub record Answers (p : ℕ) (old new : PlainWorld) (before : List (List PlainEdit)) (says : List Response) : Type 0 where
  pub passed : Passed p old new
  pub tells : (t : Response) → In says t → IsTrue new before p t

-- so a step of a structure goes
pub goes_telling : (key : SheetKey) (w v : SheetWorld) (p : ℕ) (says : List Response) → IsWell (plain key w) → v.hidden.before_crashes ≡ w.hidden.before_crashes → Answers p (plain key w) (plain key v) v.hidden.before_crashes says → GoesTelling sheet key w v p says
goes_telling key w v p says well same a = record {
  sound = well_on p (plain key w) (plain key v) a.passed well;
  keeps = λ q t h. subst (λ (b : List (List PlainEdit)). IsTrue (plain key v) b q t) (sym same) (true_on (plain key w) (plain key v) (keeps_edits p (plain key w) (plain key v) a.passed) w.hidden.before_crashes q t h);
  tells = a.tells;
}

-- ... and an event that tells nothing
pub goes : (key : SheetKey) (w v : SheetWorld) (p : ℕ) → IsWell (plain key w) → v.hidden.before_crashes ≡ w.hidden.before_crashes → Passed p (plain key w) (plain key v) → Goes sheet key w v
goes key w v p well same f = let g = goes_telling key w v p [] well same (record { passed = f; tells = λ t none. absurd none }) in record { sound = g.sound; keeps = g.keeps }
