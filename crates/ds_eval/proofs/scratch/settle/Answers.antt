use Rattle.std.proofs.Common.{arith, ◌≡◌, subst, ℕ}
use Rattle.ds_formula.specs.Cells.{count_of}
use Rattle.ds_eval.specs.SheetContents.{contents_of}
use Rattle.ds_eval.specs.Rounds.{AreSettled}
use Rattle.ds_eval.proofs.Rounds.{local_scratch, settled_scratch, first_settled}
use Rattle.ds_eval.proofs.scratch.settle.Goals as goal

pub loop-init : goal.loop-init
loop-init c = record { table = c.requires; settled = first_settled c.args.sheet.now.shape (contents_of c.args.sheet.now) c.args.table.now.items }

pub returns-then-not-evaluate_all : goal.returns-then-not-evaluate_all
returns-then-not-evaluate_all c =
    local_scratch c.args.sheet.now.shape (contents_of c.args.sheet.now) c.evaluate_all.new.table.items c.evaluate_all.ensures.table (c.evaluate_all.ensures.unchanged c.if-not-evaluate_all.true)

pub returns : goal.returns
returns c =
    let e : c.loop.counter ≡ count_of c.args.sheet.now.shape = omega (arith, c.count-end.ensures.value) in
    settled_scratch c.args.sheet.now.shape (contents_of c.args.sheet.now) c.loop.table.items c.loop.invariant.table
    (subst (λ (n : ℕ). AreSettled c.args.sheet.now.shape (contents_of c.args.sheet.now) n c.loop.table.items) e c.loop.invariant.settled)
