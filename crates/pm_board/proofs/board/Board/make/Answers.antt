use Rattle.std.proofs.Common.{◌≡◌, ℕ, [], ap, sym, subst, List, false}
use Rattle.atomic_table.specs.Table.{opening}
use Rattle.pm_board.specs.Views.{first_view}
use Rattle.pm_board.specs.Rule.{Ruled}
use Rattle.pm_board.proofs.Dealt.{opens_new, runs_all}
use Rattle.pm_board.proofs.board.Board.make.Goals as goal

pub of_words-requires : goal.of_words-requires
of_words-requires g c =
    let words : List ℕ = c.in_ok-words.words.items in
    let items : c.as_slice.result.now ≡ words = c.as_slice.ensures.value in
    let kept : c.of.result.value.items ≡ words = ap (λ v. v.items) c.of.ensures in
    subst (λ (z : List ℕ × List ℕ). Ruled g.P.Structured.structure c.args.key {X = ℕ} (record { stopped = false; words = z.0 }) (opening z.1 [] (first_view g.P.Structured.structure c.args.key false []))) (λ i. (sym kept i, sym items i))
    (opens_new g.P.Structured.structure c.args.key words c.in_ok-words.ensures)

pub returns-clause-rest : goal.returns-clause-rest
returns-clause-rest g c = runs_all g.P.Structured.structure c.args.key false [] [] _ c.in_ok-table.ensures.4
