-- Each step of work keeps a world sound, and leaves each other process what it may rely on.
use Rattle.std.proofs.Common.{ℕ, ◌≡◌, ◌<◌, subst, refl}
use Rattle.std.specs.Prelude.{Contains}
use Rattle.ds_eval.specs.declared.inputs.Entry as entries
use Rattle.ds_eval.specs.declared.inputs.Input.{Input}
use Rattle.ds_formula.specs.Plain.{PlainContent}
use Rattle.std.proofs.Common.{List}
use Rattle.ds_state.specs.Text.{IsText}
use Rattle.ds_state.specs.Works.{PlainWorkCall}
use Rattle.ds_state.specs.World.{PlainEdit, PlainWorld}
use Rattle.ds_state.specs.CallsFit.{CallFits}
use Rattle.ds_state.specs.KnownWork.{WorkFits}
use Rattle.ds_work.specs.WorkSteps.{at, StepsAt, BeginsWork, ReadsAt, LacksAt, OffersAt}
use Rattle.ds_state.specs.Rely.{Keeps}
use Rattle.ds_state.specs.Sound.{IsSound}
use Rattle.ds_state.specs.declared.work.WorkStage.{WorkStage}
use Rattle.ds_state.specs.declared.work.WorkStage.TheVariants.{LoadMark, Claim, FlushClaim, BackClaim, LoadHead, LoadHeader, LoadText, Read, LoadValue, LoadKind, LoadOwnValue, LoadOwnKind, Wait, StoreValue, StoreKind, FlushValue, FlushKind, BackValue, BackKind, Telling, Clear, ClearDirty, Give, GiveDirty, FlushCleared, BackCleared, Answer}
use Rattle.ds_state.specs.declared.spread.Spread.TheVariants.{LoadRow, OrTold, FlushTold, BackTold}
use Rattle.ds_state.specs.declared.situation.Situation.{Situation}
use Rattle.ds_state.specs.declared.situation.Situation.TheVariants.{Working}
use Rattle.ds_work.proofs.WorkClaims.{load_mark, claim, flush_claim, back_claim}
use Rattle.ds_work.proofs.WorkLoads.{load_head, load_header, load_text, load_value, load_kind}
use Rattle.ds_work.proofs.WorkOwn.{load_own_value, load_own_kind, store_value, store_kind, flush_value, flush_kind, back_value, back_kind}
use Rattle.ds_work.proofs.WorkTells.{load_row, or_told, flush_told, back_told}
use Rattle.ds_work.proofs.WorkEnds.{clear, clear_dirty, give, give_dirty, flush_cleared, back_cleared, answer}
use Rattle.ds_work.proofs.WholeSteps.{begin_work_keeps}
use Rattle.ds_work.proofs.WorkRead.{read_keeps, lacks_keeps, offers_keep}
use Rattle.ds_state.specs.declared.situation.Rest.{Rest}
use Rattle.ds_state.proofs.Frames.{Goes, notes, noted_in}
use Rattle.std.proofs.Common.{ap, sym, ◌∙◌, Some}

-- in a sound world a work knows what its stage says
pub fits_at : (e : PlainWorkCall) (s : WorkStage) (w : PlainWorld) → IsSound w → e.process < w.layout.processes → w.situation e.process ≡ Working (at e s) → WorkFits w e.process (at e s)
fits_at e s w sound real was = subst (λ (x : Situation). CallFits w e.process x) was (sound.calls e.process real)

-- in a sound world the text of a linearized edit is bytes, and not too many
pub text_of : (w : PlainWorld) → IsSound w → (by : PlainEdit) → Contains w.counted by → IsText by.text
text_of w sound by (k, l, is) = subst (λ (e : PlainEdit). IsText e.text) is (sound.of_sheet k by l).text

module _ (e : PlainWorkCall) (word : ℕ) (old new : PlainWorld) (sound : IsSound old) (real : e.process < old.layout.processes) where
  each : (s : WorkStage) → old.situation e.process ≡ Working (at e s) → WorkFits old e.process (at e s) → StepsAt e s word old new → Keeps e.process old new
  each LoadMark was fits t = load_mark e word old new sound real fits was t
  each Claim was fits t = claim e word old new sound real fits was t
  each FlushClaim was fits t = flush_claim e word old new sound real fits was t
  each BackClaim was fits t = back_claim e word old new sound real fits was t
  each LoadHead was fits t = load_head e word old new sound real fits was t
  each LoadHeader was fits t = load_header e word old new sound real (text_of old sound) fits was t
  each (LoadText part) was fits t = load_text e word old new sound real (text_of old sound) part fits was t
  each Read was fits t = absurd t.plain
  each (LoadValue i) was fits t = load_value e word old new sound real i fits was t
  each (LoadKind i value) was fits t = load_kind e word old new sound real i value fits was t
  each LoadOwnValue was fits t = load_own_value e word old new sound real fits was t
  each LoadOwnKind was fits t = load_own_kind e word old new sound real fits was t
  each Wait was fits t = absurd t.plain
  each StoreValue was fits t = store_value e word old new sound real fits was t
  each StoreKind was fits t = store_kind e word old new sound real fits was t
  each FlushValue was fits t = flush_value e word old new sound real fits was t
  each FlushKind was fits t = flush_kind e word old new sound real fits was t
  each BackValue was fits t = back_value e word old new sound real fits was t
  each BackKind was fits t = back_kind e word old new sound real fits was t
  each (Telling (LoadRow part)) was fits t = load_row e word old new sound real part fits was t
  each (Telling (OrTold d)) was fits t = or_told e word old new sound real d fits was t
  each (Telling (FlushTold d)) was fits t = flush_told e word old new sound real d fits was t
  each (Telling (BackTold d)) was fits t = back_told e word old new sound real d fits was t
  each (Clear changed) was fits t = clear e word old new sound real changed fits was t
  each ClearDirty was fits t = clear_dirty e word old new sound real fits was t
  each Give was fits t = give e word old new sound real fits was t
  each GiveDirty was fits t = give_dirty e word old new sound real fits was t
  each (FlushCleared end) was fits t = flush_cleared e word old new sound real end fits was t
  each (BackCleared end) was fits t = back_cleared e word old new sound real end fits was t
  each (Answer end) was fits t = answer e word old new sound real end fits was t

-- each step of work leaves a sound world sound, and what the others rely on
pub work_steps_keep : (e : PlainWorkCall) (stage : WorkStage) (word : ℕ) (old new : PlainWorld) → IsSound old → e.process < old.layout.processes
    → old.situation e.process ≡ Working (at e stage) → StepsAt e stage word old new → Keeps e.process old new
work_steps_keep e stage word old new sound real was t = each e word old new sound real stage was (fits_at e stage old sound real was) t

-- the same, of the reading of the content
pub reads_keep : (e : PlainWorkCall) (content : PlainContent) (inputs : List Input) (old new : PlainWorld) → IsSound old → e.process < old.layout.processes
    → old.situation e.process ≡ Working (at e Read) → ReadsAt e content inputs old new → Keeps e.process old new
reads_keep e content inputs old new sound real was t = read_keeps e old new sound real content inputs (fits_at e Read old sound real was) was t

-- the same, of a reading that is out of memory
pub lacks_keep : (e : PlainWorkCall) (old new : PlainWorld) → IsSound old → e.process < old.layout.processes → old.situation e.process ≡ Working (at e Read) → LacksAt e old new → Keeps e.process old new
lacks_keep e old new sound real was t = lacks_keeps e old new sound real (fits_at e Read old sound real was) was t

-- the same, of an offer
pub offer_keep : (e : PlainWorkCall) (entry : entries.Entry) (old new : PlainWorld) → IsSound old → e.process < old.layout.processes
    → old.situation e.process ≡ Working (at e Wait) → OffersAt e entry old new → Keeps e.process old new
offer_keep e entry old new sound real was t = offers_keep e old new sound real entry (fits_at e Wait old sound real was) was t

begin_goes : (next : Rest) (e : PlainWorkCall) (old new : PlainWorld) → e.process < old.layout.processes → BeginsWork next e old new → Goes e.process old new
begin_goes next e old new real b = notes e.edition real (ap noted_in b.was ∙ ap (λ (x : Rest). Some x.edition) (sym b.next_is)) (ap noted_in b.turn.situation)

-- the begin of work leaves a sound world sound, and what the others rely on
pub begins_keep : (next : Rest) (e : PlainWorkCall) (old new : PlainWorld) → IsSound old → e.process < old.layout.processes → BeginsWork next e old new → Keeps e.process old new
begins_keep next e old new sound real b = begin_work_keeps e.process next e old new sound real
    (record { layout = b.turn.layout; counted = b.turn.counted; situations = b.turn.others; pendings = λ q ne. b.turn.open_edits q; goes = begin_goes next e old new real b })
    b.turn.memory (b.turn.open_edits e.process) b.was b.turn.situation refl b.next_is b.cells b.processes b.cell
