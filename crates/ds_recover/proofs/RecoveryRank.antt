-- Each step of a recovery lowers its rank.
use Rattle.std.proofs.Common.{ℕ, ◌≡◌, ◌<◌, ◌≤◌, ◌+◌, ◌-◌, ◌*◌, ◌/◌, ◌%◌, ◌==◌, List, ◌∷◌, ◌++◌, [], refl, ap, arith, true, false, Some, None}
use Rattle.std.specs.Prelude.{Bool, Option, nat_lt, if◌then◌else◌}
use Rattle.std.specs.Int.{bit_at}
use Rattle.std.proofs.lemmas.Bool.{ltb-true}
use Rattle.std.proofs.Math.Nat.{mul-le-mul_right}
use Rattle.ds_layout.specs.declared.announcement.Announcement.{Announcement}
use Rattle.ds_layout.specs.declared.announcement.Phase.{Phase}
use Rattle.ds_layout.specs.declared.announcement.Phase.TheVariants as phase
use Rattle.ds_layout.specs.Announcement.{announcement_of}
use Rattle.ds_layout.specs.Head.{head_of}
use Rattle.ds_state.specs.Works.{PlainRecoverCall}
use Rattle.ds_state.specs.RecoverStages.{IsStage, IsRecovery}
use Rattle.ds_layout.specs.Bits.{parts_for}
use Rattle.ds_state.specs.Telling.{told_from}
use Rattle.ds_state.proofs.Telling.{ToldFits, first_told}
use Rattle.ds_recover.specs.RecoverySteps.{rank, cells_rank, looks_from, told, tell_from, resolves_from, announced_from, is_shown, number_of, reads_held, next_at, Falls}
use Rattle.ds_state.specs.declared.spread.Spread.TheVariants.{LoadRow, OrTold, FlushTold, BackTold}
use Rattle.ds_state.specs.declared.recovery.RecoverStage.{RecoverStage}
use Rattle.ds_state.specs.declared.recovery.RecoverStage.TheVariants.{LoadVersion, FlushVersion, BackVersion, LoadMark, FlushValue, FlushKind, BackValue, BackKind, Telling, Give, GiveDirty, FlushGiven, BackGiven, LoadAnnounce, LoadHeader, LoadHead, FlushHead, BackHead, LoadDone, OrMark, FlushMark, BackMark, StoreOutcome, FlushOutcome, BackOutcome, Answer}

times_a : (n k : ℕ) → (n + 1) * k ≡ n * k + k
times_a n k = grind arith

-- one cell fewer is left
pub one_fewer : (cells c : ℕ) → c < cells → cells_rank cells c ≡ cells_rank cells (c + 1) + (3 * cells + 30)
one_fewer cells c l =
    let left : cells - c ≡ (cells - (c + 1)) + 1 = omega arith in
    let more = times_a (cells - (c + 1)) (3 * cells + 30) in
    let at = ap (λ (n : ℕ). n * (3 * cells + 30) + 20) left in
    omega arith

-- no more than all of them
few_cells : (cells c : ℕ) → cells_rank cells c ≤ cells * (3 * cells + 30) + 20
few_cells cells c = let l : (cells - c) * (3 * cells + 30) ≤ cells * (3 * cells + 30) = mul-le-mul_right (3 * cells + 30) (let k : cells - c ≤ cells = omega arith in k) in omega arith

-- the next cell, or the announcement
looks_by : (cells c n : ℕ) (b : Bool) → cells_rank cells c < n → 15 < n → rank cells (if b then LoadMark c else LoadAnnounce) < n
looks_by cells c n true l k = l
looks_by cells c n false l k = k

looks_lower : (cells c n : ℕ) → cells_rank cells c < n → 15 < n → rank cells (looks_from cells c) < n
looks_lower cells c n l k = looks_by cells c n (nat_lt c cells) l k

-- the next cell that is marked, or the give-back
tells_by : (cells cell n d n' : ℕ) (row : List ℕ) (o : Option ℕ) → ToldFits row n d o → cells_rank cells (cell + 1) + (6 + 3 * (cells - d)) ≤ n' → rank cells (told cell o) ≤ n'
tells_by cells cell n d n' row None fits l = omega arith
tells_by cells cell n d n' row (Some k) fits l = let a = fits.0 in omega arith

tells_lower : (cells cell d n : ℕ) (row : List ℕ) → cells_rank cells (cell + 1) + (6 + 3 * (cells - d)) ≤ n → rank cells (tell_from row cells cell d) ≤ n
tells_lower cells cell d n row l = tells_by cells cell (cells - d) d n row (told_from row (cells - d) d) (first_told row (cells - d) d) l

row_by : (cells cell part : ℕ) (row : List ℕ) (b : Bool) → nat_lt (part + 1) (parts_for cells) ≡ b → part < parts_for cells
    → rank cells (if b then Telling cell (LoadRow (part + 1)) else tell_from row cells cell 0) < rank cells (Telling cell (LoadRow part))
row_by cells cell part row true is l = let m = ltb-true (part + 1) (parts_for cells) is in omega arith
row_by cells cell part row false is l =
    let k = tells_lower cells cell 0 (cells_rank cells (cell + 1) + (6 + 3 * cells)) row (omega arith) in
    omega arith

-- either stage is lower
either : (cells n : ℕ) (b : Bool) (e f : PlainRecoverCall) → rank cells e.stage < n → rank cells f.stage < n → rank cells (if b then e else f).stage < n
either cells n true e f l k = l
either cells n false e f l k = k

phase_lower : (cells : ℕ) (f : Phase) → rank cells (resolves_from (Some (record { number = 0; phase = f }))) < 14
phase_lower cells phase.Pending = omega arith
phase_lower cells phase.Done = omega arith
phase_lower cells phase.NotDone = omega arith

resolves_lower : (cells : ℕ) (o : Option Announcement) → rank cells (resolves_from o) < 14
resolves_lower cells None = omega arith
resolves_lower cells (Some a) = phase_lower cells a.phase

announced_lower : (e : PlainRecoverCall) (word : ℕ) (o : Option Announcement) → rank e.cells (announced_from e word o).stage < 15
announced_lower e word None = omega arith
announced_lower e word (Some a) = omega arith

falls : (e : PlainRecoverCall) (s : RecoverStage) (word : ℕ) → e.cells ≤ 1024 → IsStage e s → Falls e s (next_at e s word)
falls e LoadVersion word most h = omega arith
falls e FlushVersion word most h = omega arith
falls e BackVersion word most h = omega arith
falls e (LoadMark c) word most h =
    let k = one_fewer e.cells c h in
    either e.cells (cells_rank e.cells c) (reads_held e.process word) _ _ (omega arith) (looks_lower e.cells (c + 1) (cells_rank e.cells c) (omega arith) (omega arith))
falls e (FlushValue c) word most h = omega arith
falls e (FlushKind c) word most h = omega arith
falls e (BackValue c) word most h = omega arith
falls e (BackKind c) word most h = omega arith
falls e (Telling c (LoadRow part)) word most h = row_by e.cells c part (e.row ++ word ∷ []) (nat_lt (part + 1) (parts_for e.cells)) refl h.1.0
falls e (Telling c (OrTold d)) word most h = omega arith
falls e (Telling c (FlushTold d)) word most h = omega arith
falls e (Telling c (BackTold d)) word most h =
    let l = h.1.0 in
    let k = tells_lower e.cells c (d + 1) (cells_rank e.cells (c + 1) + (6 + 3 * (e.cells - (d + 1)))) e.row (omega arith) in
    omega arith
falls e (Give c) word most h = either e.cells (cells_rank e.cells (c + 1) + 4) (word == e.mark) _ _ (omega arith) (omega arith)
falls e (GiveDirty c) word most h = omega arith
falls e (FlushGiven c) word most h = omega arith
falls e (BackGiven c) word most h = looks_lower e.cells (c + 1) (cells_rank e.cells (c + 1) + 1) (omega arith) (omega arith)
falls e LoadAnnounce word most h = announced_lower e word (announcement_of word)
falls e LoadHeader word most h = resolves_lower e.cells (announcement_of e.announcement)
falls e LoadHead word most h = either e.cells 13 (is_shown e.process (number_of e) (head_of e.processes word)) _ _ (omega arith) (omega arith)
falls e FlushHead word most h = omega arith
falls e BackHead word most h = omega arith
falls e LoadDone word most h = either e.cells 11 (bit_at word (number_of e % 64) == 1) _ _ (omega arith) (omega arith)
falls e (OrMark how) word most h = omega arith
falls e (FlushMark how) word most h = omega arith
falls e (BackMark how) word most h = omega arith
falls e (StoreOutcome how) word most h = omega arith
falls e (FlushOutcome how) word most h = omega arith
falls e (BackOutcome how) word most h = omega arith
falls e (Answer how) word most h = tt

-- each step of a recovery but the answer's leaves fewer
pub each_falls : (e : PlainRecoverCall) (word : ℕ) → IsRecovery e → Falls e e.stage (next_at e e.stage word)
each_falls e word is = falls e e.stage word is.cells is.stage

-- within a cell, no more than for the cell
within : (cells c n : ℕ) → c < cells → n ≤ 3 * cells + 30 → cells_rank cells (c + 1) + n ≤ cells * (3 * cells + 30) + 23
within cells c n l k = let a = one_fewer cells c l in let b = few_cells cells c in omega arith

few : (e : PlainRecoverCall) (s : RecoverStage) → e.cells ≤ 1024 → IsStage e s → rank e.cells s ≤ e.cells * (3 * e.cells + 30) + 23
few e LoadVersion most h = let k = few_cells e.cells 0 in omega arith
few e FlushVersion most h = let k = few_cells e.cells 0 in omega arith
few e BackVersion most h = let k = few_cells e.cells 0 in omega arith
few e (LoadMark c) most h = let k = few_cells e.cells c in omega arith
few e (FlushValue c) most h = let k = within e.cells c (3 * e.cells + 29) h.0.0 (omega arith) in omega arith
few e (FlushKind c) most h = let k = within e.cells c (3 * e.cells + 28) h.0.0 (omega arith) in omega arith
few e (BackValue c) most h = let k = within e.cells c (3 * e.cells + 27) h.0.0 (omega arith) in omega arith
few e (BackKind c) most h = let k = within e.cells c (3 * e.cells + 26) h.0.0 (omega arith) in omega arith
few e (Telling c (LoadRow part)) most h = within e.cells c (6 + 3 * e.cells + ((e.cells + 63) / 64 - part)) h.0.0 (omega arith)
few e (Telling c (OrTold d)) most h = within e.cells c (6 + 3 * (e.cells - d)) h.0.0 (omega arith)
few e (Telling c (FlushTold d)) most h = within e.cells c (5 + 3 * (e.cells - d)) h.0.0 (omega arith)
few e (Telling c (BackTold d)) most h = within e.cells c (4 + 3 * (e.cells - d)) h.0.0 (omega arith)
few e (Give c) most h = within e.cells c 4 h.0 (omega arith)
few e (GiveDirty c) most h = within e.cells c 3 h.0 (omega arith)
few e (FlushGiven c) most h = within e.cells c 2 h.0 (omega arith)
few e (BackGiven c) most h = within e.cells c 1 h.0 (omega arith)
few e LoadAnnounce most h = omega arith
few e LoadHeader most h = omega arith
few e LoadHead most h = omega arith
few e FlushHead most h = omega arith
few e BackHead most h = omega arith
few e LoadDone most h = omega arith
few e (OrMark how) most h = omega arith
few e (FlushMark how) most h = omega arith
few e (BackMark how) most h = omega arith
few e (StoreOutcome how) most h = omega arith
few e (FlushOutcome how) most h = omega arith
few e (BackOutcome how) most h = omega arith
few e (Answer how) most h = omega arith

-- a recovery has at most 3 n + 30 steps left for each of n cells, and 23 more
pub each_few : (e : PlainRecoverCall) → IsRecovery e → rank e.cells e.stage ≤ e.cells * (3 * e.cells + 30) + 23
each_few e is = few e e.stage is.cells is.stage
