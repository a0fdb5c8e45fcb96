-- What each process of a board was answered stands in the core's run.
use Rattle.std.proofs.Common.{ℕ, ◌≡◌, ◌+◌, List, [], ◌∷◌, ◌++◌, length, length-append, sym, ap, subst, ◌∙◌, arith}
use Rattle.std.proofs.lemmas.List.{append_assoc}
use Rattle.ds_shared_runs.specs.History as core
use Rattle.ds_formula.specs.declared.cells.Shape.{Shape}
use Rattle.ds_shared_runs.proofs.Right.{fits, where_answered}
use Rattle.ds_shared_runs.specs.Runs.{IsRun}
use Rattle.ds_state.specs.World.{PlainWorld}
use Rattle.pm_base.specs.declared.history.Entry.{Entry}
use Rattle.pm_base.proofs.Lists.{in_left, in_right}
use Rattle.ds_shared_runs.specs.declared.history.CallEvent.{CallEvent}
use Rattle.ds_state.specs.declared.situation.Situation.{Situation}
use Rattle.pm_base.specs.Structures.{In}
use Rattle.pm_base.specs.Runs.{Happened, deeds_by, history_of}
use Rattle.pm_board.proofs.Histories.{did_both}
use Rattle.pm_board.specs.Rule.{DidSo, world_on}
use Rattle.pm_board.specs.declared.board.Seated.{Seated}
use Rattle.ds_structure.specs.Sheet.{sheet}
use Rattle.ds_structure.specs.declared.response.Response.{Response}
use Rattle.ds_structure.specs.declared.sheet.SheetKey.{SheetKey}
use Rattle.ds_structure_runs.specs.Boards.{BoardsHaveTheHeadline, StandInOrder}
use Rattle.ds_structure_runs.specs.Runs.{call_events_by, core_world, Follows, IsMoment, RunsHaveTheHeadline}
use Rattle.ds_structure_runs.proofs.Cores.{events_both}

-- what a history says stands in the run in its order
in_order : (first : PlainWorld) (hs : List core.Happened) (last : PlainWorld) (r : IsRun first hs last) (shape : Shape) (seen : List (Entry Situation Response)) (later earlier : List core.Happened) → hs ≡ later ++ earlier → Follows shape seen earlier
    → StandInOrder first hs last r shape seen (length earlier)
in_order first hs last r shape [] later earlier parts f = tt
in_order first hs last r shape (e ∷ es) later earlier parts f = (
  length f.1,
  (λ p t inside.
      let w = where_answered p t f.0 (subst (λ (l : List CallEvent). In l t) (sym (f.3 p)) inside) in
      let whole : hs ≡ (later ++ w.since) ++ w.h ∷ (w.until ++ f.1) = parts ∙ (ap (λ (l : List core.Happened). later ++ l) (f.2 ∙ (ap (λ (l : List core.Happened). l ++ f.1) w.parts ∙ append_assoc w.since (w.h ∷ w.until) f.1)) ∙ sym (append_assoc later w.since (w.h ∷ (w.until ++ f.1)))) in
      let at = r.call_events (later ++ w.since) (w.until ++ f.1) w.h p t whole w.tells in
      let long = length-append w.until f.1 in
      let all = ap length f.2 ∙ (length-append f.0 f.1 ∙ ap (λ (n : ℕ). n + length f.1) (ap length w.parts ∙ length-append w.since (w.h ∷ w.until))) in
      (length (w.until ++ f.1), (omega (arith, long)), (omega (arith, long, all)), at, fits first hs last r p t (length (w.until ++ f.1)) at)),
  in_order first hs last r shape es (later ++ f.0) f.1 (parts ∙ (ap (λ (l : List core.Happened). later ++ l) f.2 ∙ sym (append_assoc later f.0 f.1))) f.4,
)

module _ (key : SheetKey) where
  abbrev did : ℕ → List (Happened sheet key) → List CallEvent
  did p hs = call_events_by key.layout.shape (deeds_by p (history_of sheet key hs))

  split : (p : ℕ) (ys xs : List (Happened sheet key)) → did p (ys ++ xs) ≡ did p ys ++ did p xs
  split p ys xs = ap (call_events_by key.layout.shape) (did_both sheet key p ys xs) ∙ events_both key (deeds_by p (history_of sheet key ys)) (deeds_by p (history_of sheet key xs))

  -- what it did in a stretch it did in the whole
  in_whole : (all : List (Happened sheet key)) (e : Seated Situation Response) (t : CallEvent) → DidSo sheet key all e → In (call_events_by key.layout.shape e.deeds.done) t → In (did e.process all) t
  in_whole all e t d inside =
      let here : In (did e.process d.stretch) t = subst (λ (l : List _). In (call_events_by key.layout.shape l) t) d.done inside in
      let more : In (did e.process (d.stretch ++ d.before)) t = subst (λ (l : List CallEvent). In l t) (sym (split e.process d.stretch d.before)) (in_left (did e.process d.stretch) (did e.process d.before) t here) in
      let whole : In (did e.process (d.since ++ (d.stretch ++ d.before))) t = subst (λ (l : List CallEvent). In l t) (sym (split e.process d.since (d.stretch ++ d.before))) (in_right (did e.process d.since) (did e.process (d.stretch ++ d.before)) t more) in
      subst (λ (l : List (Happened sheet key)). In (did e.process l) t) (sym d.parts) whole

  pub boards_have_the_headline : RunsHaveTheHeadline key → BoardsHaveTheHeadline key
  boards_have_the_headline runs words known h =
      let c = runs h.first (world_on sheet key words h.witness) h.happened h.new h.run in (
        c.0,
        λ few.
            let r = c.1 few in
            record {
              headline = r;
              right = λ e t inside did_it. r.right e.process t (in_whole h.happened e t (h.did e inside) did_it);
              saw = λ e seen inside is.
                  let b = h.saw e seen inside is in
                  let m : IsMoment key c.0.happened seen = subst (IsMoment key c.0.happened) (sym b.is) (c.0.moments b.since b.until b.parts) in
                  (m, in_order (core_world key h.first) c.0.happened (core_world key (world_on sheet key words h.witness)) r.run key.layout.shape seen m.later m.earlier m.parts m.follows);
            },
      )
