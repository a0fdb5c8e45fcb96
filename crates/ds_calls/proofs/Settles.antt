-- The turns of a settle.
use Rattle.std.proofs.Common.{ℕ, zero, suc, ◌≡◌, ◌≢◌, ◌≤◌, ◌+◌, ◌-◌, ◌*◌, ◌∙◌, Option, Some, None, refl, sym, ap, subst, arith}
use Rattle.std.proofs.Math.Nat.{suc-mul}
use Rattle.std.specs.Prelude.{Result, Ok, Err, OnOk, OnErr}
use Rattle.ds_layout.specs.Places.{cells_of}
use Rattle.ds_state.specs.Value.{WorldValue, world_of}
use Rattle.ds_state.specs.declared.refusal.Refusal.{Refusal}
use Rattle.ds_recover.specs.RecoverBegun.{MayRecover}
use Rattle.ds_calls.specs.declared.settle.SettleStage.TheVariants.{Works}
use Rattle.ds_calls.specs.Marked.{marked_from}
use Rattle.ds_calls.specs.Whole.{IsIdle, KeepsFree}
use Rattle.ds_calls.specs.Settling.{round, ends, first_of, works_left}

-- ---- a round that begins with a cell, one that finds none, and none at all

pub pass_works : (w : WorldValue) (rounds first : ℕ) → rounds ≢ 0 → Some first ≡ marked_from (world_of w) (cells_of w.sheet.layout - 0) 0 → Works (rounds - 1) first ≡ round w rounds
pass_works w zero first some is = absurd (some refl)
pass_works w (suc k) first some is =
    sym (
    ap (λ (o : Option ℕ). first_of w k o) (ap (λ (n : ℕ). marked_from (world_of w) n 0) (let e : cells_of w.sheet.layout ≡ cells_of w.sheet.layout - 0 = omega arith in e) ∙ sym is)
    ∙ ap (λ (n : ℕ). Works n first) (let e : k ≡ suc k - 1 = omega arith in e)
    )

pub pass_ends : (w : WorldValue) (rounds : ℕ) → None ≡ marked_from (world_of w) (cells_of w.sheet.layout - 0) 0 → ends w ≡ round w rounds
pass_ends w zero is = refl
pass_ends w (suc k) is =
    sym (ap (λ (o : Option ℕ). first_of w k o) (ap (λ (n : ℕ). marked_from (world_of w) n 0) (let e : cells_of w.sheet.layout ≡ cells_of w.sheet.layout - 0 = omega arith in e) ∙ sym is))

pub pass_none : (w : WorldValue) (rounds : ℕ) → rounds ≡ 0 → ends w ≡ round w rounds
pass_none w zero is = refl
pass_none w (suc k) is = absurd (omega (arith, is))

-- ---- fewer works are left

pub few_works : (cells rounds first : ℕ) → rounds ≢ 0 → works_left cells (Works (rounds - 1) first) ≤ rounds * (cells + 1)
few_works cells zero first some = absurd (some refl)
few_works cells (suc k) first some =
    let e : suc k * (cells + 1) ≡ k * (cells + 1) + (cells + 1) = suc-mul k (cells + 1) in
    let f : (suc k - 1) * (cells + 1) ≡ k * (cells + 1) = ap (λ n. n * (cells + 1)) (let g : suc k - 1 ≡ k = omega arith in g) in
    omega (arith, e, f)

-- ---- a whole call leaves a process free that was

-- a call that leaves its process idle, or is refused with nothing changed, leaves a free process free
pub whole_free : {E : Type 0} (p : ℕ) (old new : WorldValue) (result : Result E Refusal) → OnOk result (IsIdle new p) → OnErr result (new ≡ old) → KeepsFree p old new
whole_free p old new (Ok end) idle same free = subst MayRecover (sym idle.is) tt
whole_free p old new (Err why) idle same free = subst (λ (w : WorldValue). MayRecover ((world_of w).situation p)) (sym same) free
