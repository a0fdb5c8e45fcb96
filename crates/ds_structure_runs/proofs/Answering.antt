-- A work that answers is one of a sheet.
use Rattle.std.proofs.Common.{ℕ, ◌≡◌, ◌+◌, ◌++◌, ◌∷◌, [], subst}
use Rattle.std.specs.Prelude.{◌==◌, Bool, true, false, nat_lt, if◌then◌else◌, take, Option, Some, None}
use Rattle.ds_layout.specs.declared.head.Head.{Head}
use Rattle.ds_layout.specs.declared.header.Header.{Header}
use Rattle.ds_layout.specs.declared.mark.State.{State}
use Rattle.ds_layout.specs.declared.mark.State.TheVariants.{Clean, Marked, Held}
use Rattle.ds_layout.specs.Head.{head_of}
use Rattle.ds_layout.specs.Header.{header_of}
use Rattle.ds_layout.specs.Mark.{generation_of, mark_of, state_of, held_after}
use Rattle.ds_layout.specs.TextWords.{bytes_of}
use Rattle.ds_state.specs.Shown.{header_in}
use Rattle.ds_state.specs.Works.{PlainWorkCall, IsWork, SEEN_MOST}
use Rattle.ds_state.specs.declared.spread.Spread.{Spread}
use Rattle.ds_state.specs.declared.spread.Spread.TheVariants as spreads
use Rattle.ds_state.specs.declared.work.WorkEnd.{WorkEnd}
use Rattle.ds_state.specs.declared.work.WorkEnd.TheVariants.{NotDirty, Missed, Worn}
use Rattle.ds_state.specs.declared.work.WorkStage.{WorkStage}
use Rattle.ds_state.specs.declared.work.WorkStage.TheVariants as stages
use Rattle.ds_state.specs.declared.work.WorkStage.TheVariants.{Answer}
use Rattle.ds_work.specs.WorkSteps as work
use Rattle.ds_work.specs.WorkSteps.{at}
use Rattle.ds_structure.specs.Calls.{WorkGoes}

-- a work that answers after a step is one of a sheet
at_answer : (e : PlainWorkCall) (end : WorkEnd) → IsWork e → IsWork (record e { stage = Answer end })
at_answer e end h = record { process = h.process; processes = h.processes; cell = h.cell; cells = h.cells; young = h.young; short = h.short; fits = h.fits; text = h.text; possible = h.possible; height = h.height; claim = tt; stage = tt; told = tt }

abbrev IsNoAnswer : WorkStage → Type 0
IsNoAnswer (Answer end) = ⊥
IsNoAnswer _ = Unit {0}

none_answers : (s : WorkStage) (end : WorkEnd) → IsNoAnswer s → s ≡ Answer end → ⊥
none_answers s end out is = subst IsNoAnswer is out

if_no : (b : Bool) (f g : PlainWorkCall) → IsNoAnswer f.stage → IsNoAnswer g.stage → IsNoAnswer (if b then f else g).stage
if_no true f g x y = x
if_no false f g x y = y

answered_no : (e : PlainWorkCall) (o : Option ℕ) → IsNoAnswer (work.told e o).stage
answered_no e None = tt
answered_no e (Some d) = tt

spread_no : (e : PlainWorkCall) (s : Spread) (word : ℕ) → IsNoAnswer (work.spread_next e s word).stage
spread_no e (spreads.LoadRow part) word = if_no (nat_lt (part + 1) (work.parts_of (record e { row = e.row ++ word ∷ [] }))) _ _ tt (answered_no (record e { row = e.row ++ word ∷ [] }) _)
spread_no e (spreads.OrTold d) word = tt
spread_no e (spreads.FlushTold d) word = tt
spread_no e (spreads.BackTold d) word = answered_no e _

text_no : (e : PlainWorkCall) (part : ℕ) → IsNoAnswer (work.text_from e part).stage
text_no e part = if_no (nat_lt part (work.text_parts e)) _ _ tt tt

head_no : (e : PlainWorkCall) (word : ℕ) (o : Option Head) → IsNoAnswer (work.head_from e word o).stage
head_no e word None = tt
head_no e word (Some h) = tt

header_no : (e : PlainWorkCall) (o : Option Header) → IsNoAnswer (work.header_from e o).stage
header_no e None = tt
header_no e (Some h) = text_no (record e { length = h.length; text = [] }) 0

work_answered_at : (e : PlainWorkCall) (s : WorkStage) (word : ℕ) (end : WorkEnd) → WorkGoes s → IsWork e → (work.next_at e s word).stage ≡ Answer end → IsWork (work.next_at e s word)
work_answered_at e stages.LoadMark word end go good is = by (state_of (mark_of e.processes word)) is
  where
    marked : (b : Bool) → (if b then at e (Answer Worn) else record e { mark = word; stage = stages.Claim }).stage ≡ Answer end → IsWork (if b then at e (Answer Worn) else record e { mark = word; stage = stages.Claim })
    marked true k = at_answer e Worn good
    marked false k = absurd (none_answers stages.Claim end tt k)

    by : (t : State) → (work.claims_from e word t).stage ≡ Answer end → IsWork (work.claims_from e word t)
    by Clean k = at_answer e NotDirty good
    by (Held p) k = at_answer e Missed good
    by Marked k = marked (nat_lt SEEN_MOST (generation_of word)) k
work_answered_at e stages.Claim word end go good is = by (word == e.mark) is
  where
    by : (b : Bool) → (if b then record e { mark = held_after e.process e.mark; stage = stages.FlushClaim } else at e (Answer Missed)).stage ≡ Answer end → IsWork (if b then record e { mark = held_after e.process e.mark; stage = stages.FlushClaim } else at e (Answer Missed))
    by true k = absurd (none_answers stages.FlushClaim end tt k)
    by false k = at_answer e Missed good
work_answered_at e stages.FlushClaim word end go good is = absurd (none_answers _ end tt is)
work_answered_at e stages.BackClaim word end go good is = absurd (none_answers _ end tt is)
work_answered_at e stages.LoadHead word end go good is = absurd (none_answers _ end (head_no e word (head_of e.processes word)) is)
work_answered_at e stages.LoadHeader word end go good is = absurd (none_answers _ end (header_no e (header_in e.edition (header_of e.cells word))) is)
work_answered_at e (stages.LoadText part) word end go good is = absurd (none_answers _ end (text_no (record e { text = take e.length (e.text ++ bytes_of word) }) (part + 1)) is)
work_answered_at e stages.Read word end go good is = absurd go
work_answered_at e (stages.LoadValue i) word end go good is = absurd (none_answers _ end tt is)
work_answered_at e (stages.LoadKind i value) word end go good is = absurd (none_answers _ end (if_no (nat_lt (i + 1) _) _ _ tt tt) is)
work_answered_at e stages.LoadOwnValue word end go good is = absurd (none_answers _ end tt is)
work_answered_at e stages.LoadOwnKind word end go good is = absurd (none_answers _ end tt is)
work_answered_at e stages.Wait word end go good is = absurd go
work_answered_at e stages.StoreValue word end go good is = absurd (none_answers _ end tt is)
work_answered_at e stages.StoreKind word end go good is = absurd (none_answers _ end tt is)
work_answered_at e stages.FlushValue word end go good is = absurd (none_answers _ end tt is)
work_answered_at e stages.FlushKind word end go good is = absurd (none_answers _ end tt is)
work_answered_at e stages.BackValue word end go good is = absurd (none_answers _ end tt is)
work_answered_at e stages.BackKind word end go good is = absurd (none_answers _ end tt is)
work_answered_at e (stages.Telling spread) word end go good is = absurd (none_answers _ end (spread_no e spread word) is)
work_answered_at e (stages.Clear changed) word end go good is = absurd (none_answers _ end (if_no (word == e.mark) _ _ tt tt) is)
work_answered_at e stages.ClearDirty word end go good is = absurd (none_answers _ end tt is)
work_answered_at e stages.Give word end go good is = absurd (none_answers _ end (if_no (word == e.mark) _ _ tt tt) is)
work_answered_at e stages.GiveDirty word end go good is = absurd (none_answers _ end tt is)
work_answered_at e (stages.FlushCleared how) word end go good is = absurd (none_answers _ end tt is)
work_answered_at e (stages.BackCleared how) word end go good is = at_answer e how good
work_answered_at e (Answer how) word end go good is = absurd go

-- ... where a step of it led there
pub answered_good : (e : PlainWorkCall) (word : ℕ) → WorkGoes e.stage → IsWork e → (end : WorkEnd) → (work.next_at e e.stage word).stage ≡ Answer end → IsWork (work.next_at e e.stage word)
answered_good e word go good end is = work_answered_at e e.stage word end go good is
