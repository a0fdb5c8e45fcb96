use Rattle.std.proofs.Common.{ℕ, ◌≡◌, ◌<◌, ◌≤◌, List, length, ap, sym, ◌∙◌, arith, map, Vec, Global}
use Rattle.std.specs.Vec.{vec_capacity}
use Rattle.std.proofs.lemmas.List.{map-set, length-map}
use Rattle.ds_eval.specs.declared.value.Value.{Value}
use Rattle.ds_state.specs.KnownShow.{values_of, noted}
use Rattle.ds_state.specs.Reports.{PlainReports, with_report}
use Rattle.ds_state.proofs.ShowRooms.{room_of, kept_room}
use Rattle.ds_state.proofs.reports.Reports.keep.Goals as goal

-- the process has a show
low : (rows : List (Vec Value Global)) (cells process : ℕ) (r : PlainReports) → process < length r.values → record { cells = cells; values = map (λ v. v.items) rows } ≡ r → process < length rows
low rows cells process r l is =
    let same = ap (λ (x : PlainReports). length x.values) (sym is) ∙ length-map rows (λ v. v.items) in
    omega arith

pub fill-requires-clause-room : goal.fill-requires-clause-room
fill-requires-clause-room c = room_of (λ v. vec_capacity v) c.self.inside.values.items c.args.process c.self.inside.cells c.index_mut.result.now (low c.self.inside.values.items c.self.inside.cells c.args.process c.args.self.now c.requires.process c.self.view_is) c.self.invariant c.index_mut.ensures.value

pub invariant_of-self : goal.invariant_of-self
invariant_of-self c =
    let room : c.self.inside.cells ≤ vec_capacity c.index_mut.result.now = room_of (λ v. vec_capacity v) c.self.inside.values.items c.args.process c.self.inside.cells c.index_mut.result.now (low c.self.inside.values.items c.self.inside.cells c.args.process c.args.self.now c.requires.process c.self.view_is) c.self.invariant c.index_mut.ensures.value in
    kept_room (λ v. vec_capacity v) c.self.inside.values.items c.args.process c.self.inside.cells c.fill.new.report c.self.invariant (let same = c.fill.ensures.capacity in omega arith)

pub returns : goal.returns
returns c =
    let made : List Value → PlainReports = λ vs. with_report (record { cells = c.self.inside.cells; values = map (λ v. v.items) c.self.inside.values.items }) c.args.process vs in
    ap (λ (vs : List (List Value)). let r : PlainReports = record { cells = c.self.inside.cells; values = vs } in r) (map-set (λ v. v.items) c.self.inside.values.items c.args.process c.fill.new.report)
    ∙ ap made c.fill.ensures.items
    ∙ ap (λ (r : PlainReports). with_report r c.args.process (values_of r.cells (noted c.args.values.now) (noted c.args.kinds.now))) c.self.view_is
