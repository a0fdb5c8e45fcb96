use Rattle.std.proofs.Common.{ℕ, ◌≡◌, ◌<◌, ◌∙◌, List, [], length, sym, ap, subst, arith, true}
use Rattle.std.specs.Prelude.{Some, None}
use Rattle.std.specs.Mem.Slots.{slots_items, slots_counts}
use Rattle.atomic_table.specs.Table.{Me, Allows, opening}
use Rattle.pm_board.specs.declared.board.View.{View}
use Rattle.pm_board.specs.Looks.{BeginsWithAll, Looks, looked}
use Rattle.pm_board.specs.Rule.{Ruled}
use Rattle.pm_board.specs.Starts.{start_of}
use Rattle.pm_board.specs.Views.{first_view, past_of, whole_view}
use Rattle.pm_board.proofs.Dealt.{opens, runs_all}
use Rattle.pm_board.proofs.Looking.{looks, newcomers_look}
use Rattle.pm_board.proofs.Sides.{positive}
use Rattle.pm_board.proofs.closed.ClosedBoard.reopen.Goals as goal

pub of_words-requires : goal.of_words-requires
of_words-requires g c =
    let b = c.requires.0 in
    let rests = c.requires.1 in
    let s = g.P.Structured.structure in
    let key = c.args.self.key in
    let ws : List ℕ = slots_items c.args.self.table.words in
    let kept : c.of.result.value.items ≡ ws = ap (λ v. v.items) c.of.ensures ∙ c.in-Ok.ensures in
    let items : c.as_slice.result.now ≡ ws = c.as_slice.ensures.value ∙ c.in-Ok.ensures in
    subst (λ (z : List ℕ × List ℕ). Ruled s key {X = ℕ} (record { stopped = true; words = z.0 }) (opening z.1 [] (first_view s key true (past_of c.args.self.before)))) (λ i. (sym kept i, sym items i))
    (opens s key ws b true (past_of c.args.self.before) rests.run rests.from (λ e. absurd (cc)) (sym (slots_counts c.args.self.table.words).0 ∙ c.args.self.sized) rests.stopped rests.buffer c.requires.2)

pub load-found-requires : goal.load-found-requires
load-found-requires g c =
    let o = c.in-Ok-of_words.ensures in
    let s = g.P.Structured.structure in
    let table = c.in-Ok-of_words.opened.shared in
    let me = c.in-Ok-of_words.place.me in
    let length_is = sym (slots_counts c.args.self.table.words).0 ∙ c.args.self.sized in
    let long = ap (λ (ws : List ℕ). length ws) (c.as_slice.ensures.value ∙ c.in-Ok.ensures) ∙ length_is in
    let some : 0 < table.table_id.words = (let n = positive (s.apart c.args.self.key) _ c.args.self.some.0 in let a = o.0 in omega (arith, n, a, long)) in (
      o.2,
      some,
      subst (λ (m : Me ℕ (View g.row.P-Doing.Denot g.row.P-Response.Denot)). Allows (Ruled s table.key.own {X = ℕ} (start_of table.key)) table.table_id.slots c.in-Ok-of_words.place.id m 0 (λ n. n) (λ n m'. (m'.1 ≡ m.1) × Looks m.0 m.0.past m'.0))
          (λ i. (me.0, sym (ap (λ m. m.1) o.4) i)) (looks s table.key.own (start_of table.key) _ _ me.0 me.0.past (λ e here. here)),
    )

pub returns-in-Ok-of_words-clause-place : goal.returns-in-Ok-of_words-clause-place
returns-in-Ok-of_words-clause-place g c =
    let o = c.in-Ok-of_words.ensures in
    let s = g.P.Structured.structure in
    let key = c.args.self.key in
    let l = c.load-found.ensures.2.1 in
    let past = past_of c.args.self.before in
    let first : c.in-Ok-of_words.place.me.0 ≡ first_view s key true past = ap (λ m. m.0) o.4 in
    let at : c.load-found.new.seat.me.0 ≡ whole_view s key true (Some l.seen) past =
    l.at ∙ (ap (λ (v : View g.row.P-Doing.Denot g.row.P-Response.Denot). (let w : View g.row.P-Doing.Denot g.row.P-Response.Denot = record { entries = looked l.seen v.entries; past = v.past } in w)) first ∙ ap (λ es. (let w : View g.row.P-Doing.Denot g.row.P-Response.Denot = record { entries = es; past = past } in w)) (newcomers_look s.stopped None l.seen 0 (s.processes key))) in
    let empty : c.load-found.new.seat.me.1 ≡ [] = c.load-found.ensures.2.0 ∙ ap (λ m. m.1) o.4 in (
      c.load-found.ensures.0 ∙ o.2,
      (l.seen, (λ i. (at i, empty i)), subst (λ (v : View g.row.P-Doing.Denot g.row.P-Response.Denot). BeginsWithAll l.seen v.past) first l.others),
    )

pub returns-in-Ok-of_words-clause-rest : goal.returns-in-Ok-of_words-clause-rest
returns-in-Ok-of_words-clause-rest g c =
    let p = returns-in-Ok-of_words-clause-place g c in
    runs_all g.P.Structured.structure c.args.self.key true p.1.0 (past_of c.args.self.before) _ p.1.1
