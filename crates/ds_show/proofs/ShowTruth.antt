-- What the answer of a show says is true of its moment, and of the worlds of its call.
use Rattle.std.proofs.Common.{ℕ, ◌≡◌, List, ◌++◌, ap, sym, ◌∙◌, subst, arith}
use Rattle.ds_eval.specs.declared.value.Value as values
use Rattle.ds_eval.specs.Scratch.{IsScratch}
use Rattle.ds_layout.specs.Places.{cells_of}
use Rattle.ds_state.specs.Works.{PlainShowCall}
use Rattle.ds_state.specs.World.{PlainEdit, PlainWorld}
use Rattle.ds_layout.specs.Mark.{IsClean}
use Rattle.ds_state.specs.Standing.{shown_entry}
use Rattle.ds_state.specs.KnownShow.{noted, IsPendingWord, Moment, values_of, AreScratch, IsStill, IsRight, SawAgain, seen_at, SeenFits, ShowFitsAt}
use Rattle.ds_state.specs.ShowStages.{IsStage, HaveNoted}
use Rattle.ds_show.specs.ShowSteps.{answered}
use Rattle.ds_state.proofs.QuietShown.{same_map}
use Rattle.ds_state.specs.declared.show.ShowEnd.TheVariants.{Settled}
use Rattle.ds_state.specs.declared.show.ShowStage.{ShowStage}
use Rattle.ds_state.specs.declared.show.ShowStage.TheVariants.{Answer}

-- a settled answer, of its moment
pub record IsSettled (w : PlainWorld) (e : PlainShowCall) (m : Moment) : Type 0 where
  pub still : IsStill w.layout m
  pub right : AreScratch w.layout.shape m.edits (answered e)
  pub more : List PlainEdit
  pub counted : w.counted ≡ m.edits ++ more

-- a show that is to answer Settled has a moment that was still, and its values were right then
pub settled_true : (w : PlainWorld) (p : ℕ) (e : PlainShowCall) (m : Moment) → ShowFitsAt w p e m → e.stage ≡ Answer Settled → IsSettled w e m
settled_true w p e m fits is =
    let seen : SawAgain w e.announcements e.marks e.values e.kinds m e.cells e.processes = subst (λ (s : ShowStage). SeenFits w e.announcements e.marks e.values e.kinds m (seen_at e.cells e.processes s)) is fits.seen in
    let have : HaveNoted e.announcements e.marks e.values e.kinds e.processes e.cells e.cells e.cells = subst (λ (s : ShowStage). IsStage e s) is fits.is.stage in
    let n = have.marks in
    let q = have.announcements in
    let v = have.values in
    let k = have.kinds in
    let cells = fits.cells in
    let processes = fits.processes in
    let still : IsStill w.layout m = record {
      clean = λ c l. subst (λ (x : ℕ). IsClean x) (sym (seen.mark c (omega arith))) (fits.noted.clean c (omega arith));
      settled = λ r l b. fits.noted.calm r (omega arith) (subst (λ (x : ℕ). IsPendingWord x) (seen.announcement r (omega arith)) b);
    } in
    let right : IsRight w.layout.shape m = seen.moment.right still in
    let same : values_of (cells_of w.layout) m.value m.kind ≡ answered e =
    ap (λ (x : ℕ). values_of x m.value m.kind) fits.cells
    ∙ same_map (λ c. (shown_entry e.cells (m.value c) (m.kind c)).value) (λ c. (shown_entry e.cells (noted e.values c) (noted e.kinds c)).value) 0 e.cells
    (λ c l g. ap (λ (x : ℕ). (shown_entry e.cells x (m.kind c)).value) (seen.moment.values c (omega arith) (seen.mark c (omega arith))) ∙ ap (λ (x : ℕ). (shown_entry e.cells (noted e.values c) x).value) (seen.moment.kinds c (omega arith) (seen.mark c (omega arith)))) in
    record {
      still = still;
      right = record { sheet = right.sheet; is = right.is; scratch = subst (λ (vs : List values.Value). IsScratch w.layout.shape right.sheet vs) same right.scratch };
      more = seen.moment.more;
      counted = seen.moment.counted;
    }
