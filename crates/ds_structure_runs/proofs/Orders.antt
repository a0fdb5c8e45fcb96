-- A call that begins after what its caller was shown.
use Rattle.std.proofs.Common.{◌≡◌, List, ◌∷◌, ◌++◌, length, length-append, arith, ap, ◌∙◌}
use Rattle.std.proofs.lemmas.List.{append_assoc}
use Rattle.ds_state.specs.declared.situation.Situation.{Situation}
use Rattle.pm_base.specs.declared.history.Entry.{Entry}
use Rattle.pm_board.specs.Looks.{Extends}
use Rattle.ds_structure.specs.declared.response.Response.{Response}
use Rattle.ds_structure_runs.specs.Boards.{StandsAfter}

abbrev Line : Type 0
Line = Entry Situation Response

pub stands_after : (earlier seen late since until after before : List Line) (answer begin : Line) → earlier ≡ since ++ answer ∷ until → Extends seen earlier → late ≡ after ++ begin ∷ before → StandsAfter (late ++ seen) begin (before ++ seen) until
stands_after earlier seen late since until after before answer begin there knows here = record {
  since = after;
  parts = ap (λ (z : List Line). z ++ seen) here ∙ append_assoc after (begin ∷ before) seen;
  later =
      let a = ap length there in
      let b = ap length knows.1 in
      let c = length-append since (answer ∷ until) in
      let d = length-append knows.0 earlier in
      let e = length-append before seen in
      omega (arith, a, b, c, d, e);
}
