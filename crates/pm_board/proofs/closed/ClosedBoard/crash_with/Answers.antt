use Rattle.std.proofs.Common.{ℕ, ◌≡◌, ◌+◌, ◌<◌, Bool, List, ap, inl, inr, subst, ◌∙◌, arith, sym, get_or, set}
use Rattle.std.specs.Prelude.{false}
use Rattle.std.specs.Mem.Slots.{slots_items, slots_len, slots_counts}
use Rattle.pm_board.specs.Rule.{IsRested}
use Rattle.pm_board.specs.Table.{cached_at, persisted_at}
use Rattle.pm_board.specs.Views.{past_of}
use Rattle.pm_board.proofs.Losing.{IsChosen, Left, left_more, left_there, survives}
use Rattle.pm_board.proofs.Sides.{before, few}
use Rattle.pm_board.proofs.closed.ClosedBoard.crash_with.Goals as goal
use Rattle.pm_board.proofs.closed.ClosedBoard.crash_with.Goals.{then-choice-number, else-choice-number}

pub returns-clause-words : goal.returns-clause-words
returns-clause-words g c = λ n low.
    let i = c.loop-number.invariant.3 in
    let end = c.loop-number.invariant.2 in
    let over = c.loop-number-test.false in
    i.done n (omega arith)

pub returns-clause-survives : goal.returns-clause-survives
returns-clause-survives g c = λ b rests.
    let i = c.loop-number.invariant.3 in
    let end = c.loop-number.invariant.2 in
    let over = c.loop-number-test.false in
    survives g.P.Structured.structure c.args.self.now.key (λ n. get_or c.args.choice.now n false) (slots_items c.args.self.now.table.words)
    (sym (slots_counts c.args.self.now.table.words).0 ∙ c.args.self.now.sized) b rests (slots_items c.loop-number.self.table.words) i.size
    (λ n low. (i.done n (omega arith)).0) (λ n low. (i.done n (omega arith)).1)

pub returns-clause-rests : goal.returns-clause-rests
returns-clause-rests g c = λ k.
    let i = c.loop-number.invariant.3 in
    let end = c.loop-number.invariant.2 in
    let over = c.loop-number-test.false in
    let s = survives g.P.Structured.structure c.args.self.now.key (λ n. get_or c.args.choice.now n false) (slots_items c.args.self.now.table.words)
    (sym (slots_counts c.args.self.now.table.words).0 ∙ c.args.self.now.sized) k.0 k.1 (slots_items c.loop-number.self.table.words) i.size
    (λ n low. (i.done n (omega arith)).0) (λ n low. (i.done n (omega arith)).1) in
    let words = slots_items c.loop-number.self.table.words in
    subst (λ key. IsRested g.P.Structured.structure key words (past_of c.loop-number.self.before)) (sym c.loop-number.invariant.0)
    (subst (λ before. IsRested g.P.Structured.structure c.args.self.now.key words (past_of before)) (sym c.loop-number.invariant.1) (s.witness, s.rests, λ e inside. s.responses e (k.2 e inside)))

pub cached_at-cached-requires : goal.cached_at-cached-requires
cached_at-cached-requires g c = let f = few c.apart-apart.result c.loop-number.number in let low = c.loop-number-test.true in let end = c.loop-number.invariant.2 in let small = c.args.self.now.some.1 in omega arith

pub overflow_add-side : goal.overflow_add-side
overflow_add-side g c = let e = c.cached_at-cached.ensures in let f = few c.apart-apart.result c.loop-number.number in let low = c.loop-number-test.true in let end = c.loop-number.invariant.2 in let small = c.args.self.now.some.1 in omega arith

pub overflow_add-cached : goal.overflow_add-cached
overflow_add-cached g c = let e = c.cached_at-cached.ensures in let f = few c.apart-apart.result c.loop-number.number in let low = c.loop-number-test.true in let end = c.loop-number.invariant.2 in let small = c.args.self.now.some.1 in omega arith

pub side-value-requires : goal.side-value-requires
side-value-requires g c =
    let at : c.cached_at-cached.result ≡ cached_at (g.P.Structured.structure.apart c.args.self.now.key) c.loop-number.number = c.cached_at-cached.ensures ∙ ap (λ (a : ℕ). cached_at a c.loop-number.number) c.apart-apart.ensures in
    let there : persisted_at (g.P.Structured.structure.apart c.args.self.now.key) c.loop-number.number < cached_at (g.P.Structured.structure.apart c.args.self.now.key) (g.P.Structured.structure.words c.args.self.now.key) = (let low = c.loop-number-test.true in let end = c.loop-number.invariant.2 in before (g.P.Structured.structure.apart c.args.self.now.key) c.loop-number.number (g.P.Structured.structure.words c.args.self.now.key) (omega arith)) in
    let chosen : IsChosen (g.P.Structured.structure.apart c.args.self.now.key) (get_or c.args.choice.now c.loop-number.number false) c.loop-number.number c.if-choice-number.side = elim c.if-choice-number.branch [
      | then-choice-number w ↦ inl (w.if-choice-number.true, w.side-is ∙ at)
      | else-choice-number w ↦ inr (w.if-choice-number.false, w.side-is ∙ ap (λ (n : ℕ). n + 1) at)
    ] in
    subst (λ key. c.if-choice-number.side < cached_at (g.P.Structured.structure.apart key) (g.P.Structured.structure.words key)) (sym c.loop-number.invariant.0)
    (elim chosen [ inl is ↦ (let e = is.1 in omega (arith, there, e)) | inr is ↦ (let e = is.1 in omega (arith, there, e)) ])

pub set_word-requires : goal.set_word-requires
set_word-requires g c =
    let at : c.cached_at-cached.result ≡ cached_at (g.P.Structured.structure.apart c.args.self.now.key) c.loop-number.number = c.cached_at-cached.ensures ∙ ap (λ (a : ℕ). cached_at a c.loop-number.number) c.apart-apart.ensures in
    let there : persisted_at (g.P.Structured.structure.apart c.args.self.now.key) c.loop-number.number < cached_at (g.P.Structured.structure.apart c.args.self.now.key) (g.P.Structured.structure.words c.args.self.now.key) = (let low = c.loop-number-test.true in let end = c.loop-number.invariant.2 in before (g.P.Structured.structure.apart c.args.self.now.key) c.loop-number.number (g.P.Structured.structure.words c.args.self.now.key) (omega arith)) in
    let size : slots_len c.loop-number.self.table.words ≡ cached_at (g.P.Structured.structure.apart c.args.self.now.key) (g.P.Structured.structure.words c.args.self.now.key) = c.loop-number.self.sized ∙ ap (λ key. cached_at (g.P.Structured.structure.apart key) (g.P.Structured.structure.words key)) c.loop-number.invariant.0 in
    omega (arith, at, there, size)

pub set_word-requires-in-loop-number : goal.set_word-requires-in-loop-number
set_word-requires-in-loop-number g c =
    let at : c.cached_at-cached.result ≡ cached_at (g.P.Structured.structure.apart c.args.self.now.key) c.loop-number.number = c.cached_at-cached.ensures ∙ ap (λ (a : ℕ). cached_at a c.loop-number.number) c.apart-apart.ensures in
    let there : persisted_at (g.P.Structured.structure.apart c.args.self.now.key) c.loop-number.number < cached_at (g.P.Structured.structure.apart c.args.self.now.key) (g.P.Structured.structure.words c.args.self.now.key) = (let low = c.loop-number-test.true in let end = c.loop-number.invariant.2 in before (g.P.Structured.structure.apart c.args.self.now.key) c.loop-number.number (g.P.Structured.structure.words c.args.self.now.key) (omega arith)) in
    let size : slots_len c.set_word.new.self.table.words ≡ cached_at (g.P.Structured.structure.apart c.args.self.now.key) (g.P.Structured.structure.words c.args.self.now.key) = c.set_word.new.self.sized ∙ ap (λ key. cached_at (g.P.Structured.structure.apart key) (g.P.Structured.structure.words key)) (c.set_word.ensures.others.0 ∙ c.loop-number.invariant.0) in
    omega (arith, at, there, size)

pub loop-number-preserved : goal.loop-number-preserved
loop-number-preserved g c =
    let i = c.loop-number.invariant in
    let n = c.loop-number.number in
    let v = c.side-value.result in
    let a = g.P.Structured.structure.apart c.args.self.now.key in
    let choice : ℕ → Bool = λ k. get_or c.args.choice.now k false in
    let ws : List ℕ = slots_items c.args.self.now.table.words in
    let w : List ℕ = slots_items c.loop-number.self.table.words in
    let at : c.cached_at-cached.result ≡ cached_at (g.P.Structured.structure.apart c.args.self.now.key) c.loop-number.number = c.cached_at-cached.ensures ∙ ap (λ (a : ℕ). cached_at a c.loop-number.number) c.apart-apart.ensures in
    let there : persisted_at (g.P.Structured.structure.apart c.args.self.now.key) c.loop-number.number < cached_at (g.P.Structured.structure.apart c.args.self.now.key) (g.P.Structured.structure.words c.args.self.now.key) = (let low = c.loop-number-test.true in let end = c.loop-number.invariant.2 in before (g.P.Structured.structure.apart c.args.self.now.key) c.loop-number.number (g.P.Structured.structure.words c.args.self.now.key) (omega arith)) in
    let chosen : IsChosen (g.P.Structured.structure.apart c.args.self.now.key) (get_or c.args.choice.now c.loop-number.number false) c.loop-number.number c.if-choice-number.side = elim c.if-choice-number.branch [
      | then-choice-number w ↦ inl (w.if-choice-number.true, w.side-is ∙ at)
      | else-choice-number w ↦ inr (w.if-choice-number.false, w.side-is ∙ ap (λ (n : ℕ). n + 1) at)
    ] in
    let size : slots_len c.loop-number.self.table.words ≡ cached_at (g.P.Structured.structure.apart c.args.self.now.key) (g.P.Structured.structure.words c.args.self.now.key) = c.loop-number.self.sized ∙ ap (λ key. cached_at (g.P.Structured.structure.apart key) (g.P.Structured.structure.words key)) i.0 in
    let long = (slots_counts c.loop-number.self.table.words).0 in
    let sets : slots_items c.set_word-in-loop-number.new.self.table.words ≡ set (set w (cached_at a n) v) (persisted_at a n) v = c.set_word-in-loop-number.ensures.words ∙ ap (λ (l : List ℕ). set l (c.cached_at-cached.result + 1) v) c.set_word.ensures.words ∙ ap (λ (j : ℕ). set (set w j v) (j + 1) v) at in (
      c.set_word-in-loop-number.ensures.others.0 ∙ c.set_word.ensures.others.0 ∙ i.0,
      c.set_word-in-loop-number.ensures.others.1 ∙ c.set_word.ensures.others.1 ∙ i.1,
      i.2,
      subst (λ (l : List ℕ). Left a choice ws l (n + 1)) (sym sets) (left_more a choice ws w n v i.3 (omega (arith, there, size, long)) (c.side-value.ensures ∙ left_there a choice ws w n c.if-choice-number.side i.3 chosen)),
    )
