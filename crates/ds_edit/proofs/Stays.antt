-- The machine stays within its edit, and its rank falls.
use Rattle.std.proofs.Common.{ℕ, ◌≡◌, ◌+◌, ◌*◌, ◌^◌, ◌<◌, ◌≤◌, Bool, true, false, nat_lt, ◌==◌, Option, Some, None, length, arith, refl}
use Rattle.std.proofs.lemmas.Bool.{ltb-true, eqb-false}
use Rattle.std.specs.Prelude.{if◌then◌else◌}
use Rattle.ds_layout.specs.declared.head.Head.{Head}
use Rattle.ds_layout.specs.Head.{head_of}
use Rattle.ds_layout.proofs.Packed.{IsHead-head_of}
use Rattle.ds_state.specs.Edits.{PlainEditCall, text_parts, IsStage, IsEdit}
use Rattle.ds_state.specs.declared.stage.Stage.{Stage}
use Rattle.ds_state.specs.declared.stage.Stage.TheVariants.{StoreHeader, StoreText, FlushHeader, FlushText, BackRecord, StorePending, FlushPending, BackPending, OrIndex, FlushIndex, BackIndex, LoadHead, FlushNoted, BackNoted, OrDone, FlushDone, BackDone, Swap, FlushOwn, BackOwn, OrMark, FlushMark, BackMark, StoreOutcome, FlushOutcome, BackOutcome, Answer}
use Rattle.ds_edit.specs.EditSteps.{next_at, got_at, help_from, rank, Falls}

-- what holds of both branches holds of a test
pub branches : (P : Stage → Type 0) (b : Bool) (x y : Stage) → (b ≡ true → P x) → (b ≡ false → P y) → P (if b then x else y)
branches P true x y h k = h refl
branches P false x y h k = k refl

pub helped : (P : Stage → Type 0) (noted : ℕ) (found : Option Head) → P (Swap noted) → ((head : Head) → found ≡ Some head → P (FlushNoted head)) → P (help_from noted found)
helped P noted None h k = h
helped P noted (Some head) h k = k head refl

-- the stage after an edit's step is one of the edit
pub stays : (e : PlainEditCall) (stage : Stage) (word : ℕ) → word < 2 ^ 64 → IsStage e stage → IsStage e (next_at e stage word)
stays e StoreHeader word w s = branches (IsStage e) (nat_lt 0 (text_parts e.text)) _ _ (λ b. ltb-true 0 (text_parts e.text) b) (λ b. tt)
stays e (StoreText part) word w s = branches (IsStage e) (nat_lt (part + 1) (text_parts e.text)) _ _ (λ b. ltb-true (part + 1) (text_parts e.text) b) (λ b. tt)
stays e FlushHeader word w s = branches (IsStage e) (nat_lt 0 (text_parts e.text)) _ _ (λ b. ltb-true 0 (text_parts e.text) b) (λ b. omega arith)
stays e (FlushText part) word w s = branches (IsStage e) (nat_lt (part + 1) (text_parts e.text)) _ _ (λ b. ltb-true (part + 1) (text_parts e.text) b) (λ b. omega arith)
stays e (BackRecord left) word w s = branches (IsStage e) (left == 0) _ _ (λ b. tt) (λ b. omega arith)
stays e StorePending word w s = tt
stays e FlushPending word w s = tt
stays e BackPending word w s = branches (IsStage e) (nat_lt 0 (length e.refs)) _ _ (λ b. ltb-true 0 (length e.refs) b) (λ b. tt)
stays e (OrIndex i) word w s = s
stays e (FlushIndex i) word w s = s
stays e (BackIndex i) word w s = branches (IsStage e) (nat_lt (i + 1) (length e.refs)) _ _ (λ b. ltb-true (i + 1) (length e.refs) b) (λ b. tt)
stays e LoadHead word w s = helped (IsStage e) word (head_of e.processes word) tt (λ head is. (IsHead-head_of e.processes word head w is).0)
stays e (FlushNoted head) word w s = s
stays e (BackNoted head) word w s = s
stays e (OrDone head) word w s = s
stays e (FlushDone head) word w s = s
stays e (BackDone head) word w s = tt
stays e (Swap noted) word w s = branches (IsStage e) (word == noted) _ _ (λ b. tt) (λ b. tt)
stays e (FlushOwn own) word w s = tt
stays e (BackOwn own) word w s = tt
stays e (OrMark own) word w s = tt
stays e (FlushMark own) word w s = tt
stays e (BackMark own) word w s = tt
stays e (StoreOutcome how) word w s = tt
stays e (FlushOutcome how) word w s = tt
stays e (BackOutcome how) word w s = tt
stays e (Answer how) word w s = tt

-- a step goes on within the edit
pub got_stays : (e : PlainEditCall) (word : ℕ) → word < 2 ^ 64 → IsEdit e → IsEdit (got_at e word)
got_stays e word w is = record {
  process = is.process;
  processes = is.processes;
  number = is.number;
  cell = is.cell;
  cells = is.cells;
  text = is.text;
  fits = is.fits;
  refs = is.refs;
  stage = stays e e.stage word w is.stage;
}

-- the rank falls
below : (e : PlainEditCall) (most : ℕ) (b : Bool) (x y : Stage) → (b ≡ true → rank e x < most) → (b ≡ false → rank e y < most) → rank e (if b then x else y) < most
below e most b x y h k = branches (λ s. rank e s < most) b x y h k

pub falls : (e : PlainEditCall) (stage : Stage) (word : ℕ) → IsStage e stage → Falls e stage (next_at e stage word)
falls e StoreHeader word s = below e (rank e StoreHeader) (nat_lt 0 (text_parts e.text)) _ _ (λ b. omega arith) (λ b. omega arith)
falls e (StoreText part) word s = below e (rank e (StoreText part)) (nat_lt (part + 1) (text_parts e.text)) _ _ (λ b. let l : part + 1 < text_parts e.text = ltb-true (part + 1) (text_parts e.text) b in omega arith) (λ b. omega arith)
falls e FlushHeader word s = below e (rank e FlushHeader) (nat_lt 0 (text_parts e.text)) _ _ (λ b. omega arith) (λ b. omega arith)
falls e (FlushText part) word s = below e (rank e (FlushText part)) (nat_lt (part + 1) (text_parts e.text)) _ _ (λ b. let l : part + 1 < text_parts e.text = ltb-true (part + 1) (text_parts e.text) b in omega arith) (λ b. omega arith)
falls e (BackRecord left) word s = below e (rank e (BackRecord left)) (left == 0) _ _ (λ b. omega arith) (λ b. let n = eqb-false left 0 b in omega arith)
falls e StorePending word s = omega arith
falls e FlushPending word s = omega arith
falls e BackPending word s = below e (rank e BackPending) (nat_lt 0 (length e.refs)) _ _ (λ b. omega arith) (λ b. omega arith)
falls e (OrIndex i) word s = omega arith
falls e (FlushIndex i) word s = omega arith
falls e (BackIndex i) word s = below e (rank e (BackIndex i)) (nat_lt (i + 1) (length e.refs)) _ _ (λ b. omega arith) (λ b. omega arith)
falls e LoadHead word s = helped (λ x. rank e x < 16) word (head_of e.processes word) (omega arith) (λ head is. omega arith)
falls e (FlushNoted head) word s = omega arith
falls e (BackNoted head) word s = omega arith
falls e (OrDone head) word s = omega arith
falls e (FlushDone head) word s = omega arith
falls e (BackDone head) word s = omega arith
falls e (Swap noted) word s = below e 10 (word == noted) _ _ (λ b. omega arith) (λ b. omega arith)
falls e (FlushOwn own) word s = omega arith
falls e (BackOwn own) word s = omega arith
falls e (OrMark own) word s = omega arith
falls e (FlushMark own) word s = omega arith
falls e (BackMark own) word s = omega arith
falls e (StoreOutcome how) word s = omega arith
falls e (FlushOutcome how) word s = omega arith
falls e (BackOutcome how) word s = omega arith
falls e (Answer how) word s = tt

-- and is small at first
pub few : (e : PlainEditCall) → length e.text ≤ 240 → (stage : Stage) → IsStage e stage → rank e stage ≤ 112 + 3 * length e.refs
few e t StoreHeader s = omega arith
few e t (StoreText part) s = omega arith
few e t FlushHeader s = omega arith
few e t (FlushText part) s = omega arith
few e t (BackRecord left) s = omega arith
few e t StorePending s = omega arith
few e t FlushPending s = omega arith
few e t BackPending s = omega arith
few e t (OrIndex i) s = omega arith
few e t (FlushIndex i) s = omega arith
few e t (BackIndex i) s = omega arith
few e t LoadHead s = omega arith
few e t (FlushNoted head) s = omega arith
few e t (BackNoted head) s = omega arith
few e t (OrDone head) s = omega arith
few e t (FlushDone head) s = omega arith
few e t (BackDone head) s = omega arith
few e t (Swap noted) s = omega arith
few e t (FlushOwn own) s = omega arith
few e t (BackOwn own) s = omega arith
few e t (OrMark own) s = omega arith
few e t (FlushMark own) s = omega arith
few e t (BackMark own) s = omega arith
few e t (StoreOutcome how) s = omega arith
few e t (FlushOutcome how) s = omega arith
few e t (BackOutcome how) s = omega arith
few e t (Answer how) s = omega arith

-- and at least one step is left
some : (e : PlainEditCall) → (stage : Stage) → IsStage e stage → 0 < rank e stage
some e StoreHeader s = omega arith
some e (StoreText part) s = omega arith
some e FlushHeader s = omega arith
some e (FlushText part) s = omega arith
some e (BackRecord left) s = omega arith
some e StorePending s = omega arith
some e FlushPending s = omega arith
some e BackPending s = omega arith
some e (OrIndex i) s = omega arith
some e (FlushIndex i) s = omega arith
some e (BackIndex i) s = omega arith
some e LoadHead s = omega arith
some e (FlushNoted head) s = omega arith
some e (BackNoted head) s = omega arith
some e (OrDone head) s = omega arith
some e (FlushDone head) s = omega arith
some e (BackDone head) s = omega arith
some e (Swap noted) s = omega arith
some e (FlushOwn own) s = omega arith
some e (BackOwn own) s = omega arith
some e (OrMark own) s = omega arith
some e (FlushMark own) s = omega arith
some e (BackMark own) s = omega arith
some e (StoreOutcome how) s = omega arith
some e (FlushOutcome how) s = omega arith
some e (BackOutcome how) s = omega arith
some e (Answer how) s = omega arith

-- for an edit of a sheet
pub each_falls : (e : PlainEditCall) (word : ℕ) → IsEdit e → Falls e e.stage (next_at e e.stage word)
each_falls e word is = falls e e.stage word is.stage

-- an edit with r references has at most 3r + 112 steps left
pub each_few : (e : PlainEditCall) → IsEdit e → rank e e.stage ≤ 112 + 3 * length e.refs
each_few e is = few e is.text.short e.stage is.stage

-- an edit under way has a step left
pub each_some : (e : PlainEditCall) → IsEdit e → 0 < rank e e.stage
each_some e is = some e e.stage is.stage
