use Rattle.std.proofs.Common.{◌≡◌, ◌+◌, ◌∙◌, ℕ, ap, sym, subst, List, arith}
use Rattle.pm_board.specs.Rule.{AreFirst}
use Rattle.pm_board.proofs.FirstWords.{none_yet, one_apart, one_beside}
use Rattle.pm_board.proofs.Sides.{few}
use Rattle.pm_board.proofs.board.first_words.Goals as goal
use Rattle.pm_board.proofs.board.first_words.Goals.{then-word-apart+in_ok-extend_from_slice, else-word-apart+in_ok-extend_from_slice-2}

pub loop-word-init : goal.loop-word-init
loop-word-init g c = none_yet g.P.Structured.structure c.args.key.now c.in_ok-words.words.items c.in_ok-words.ensures.items

pub returns : goal.returns
returns g c = subst (λ (n : ℕ). AreFirst g.P.Structured.structure c.args.key.now n c.loop-word.words.items) (let a = c.loop-word-test.false in let b = c.loop-word.auto.word-end in let e = c.words-count.ensures in let h : c.loop-word.word ≡ g.P.Structured.structure.words c.args.key.now = omega arith in h) c.loop-word.invariant

pub cached_at-requires : goal.cached_at-requires
cached_at-requires g c = let f = few c.apart-apart.result c.words-count.result in let e = c.words-count.ensures in let small = c.requires.few in omega arith

pub loop-word-preserved : goal.loop-word-preserved
loop-word-preserved g c =
    let s = g.P.Structured.structure in
    let key = c.args.key.now in
    let n = c.loop-word.word in
    let f = c.first_word-first.result in
    let e = c.apart-apart.ensures in
    elim c.if-word-apart.branch [
      | then-word-apart+in_ok-extend_from_slice w ↦ subst (λ (ws : List ℕ). AreFirst s key (n + 1) ws) (sym (ap (λ v. v.items) w.words-is ∙ w.in_ok-extend_from_slice.ensures.items)) (one_apart s key n f c.loop-word.words.items c.loop-word.invariant c.first_word-first.ensures (let low = w.if-word-apart.true in omega arith))
      | else-word-apart+in_ok-extend_from_slice-2 w ↦ subst (λ (ws : List ℕ). AreFirst s key (n + 1) ws) (sym (ap (λ v. v.items) w.words-is ∙ w.in_ok-extend_from_slice-2.ensures.items)) (one_beside s key n f c.loop-word.words.items c.loop-word.invariant c.first_word-first.ensures (let high = w.if-word-apart.false in omega arith))
    ]
