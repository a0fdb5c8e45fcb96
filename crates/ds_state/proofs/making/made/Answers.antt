use Rattle.std.proofs.Common.{ℕ, ◌≡◌, ◌≤◌, ◌*◌, [], ap, ◌∙◌, subst, rules, Option, None}
use Rattle.std.specs.Prelude.{replicate, vec_capacity}
use Rattle.ds_layout.specs.declared.place.TheConstants.{RECORDS}
use Rattle.ds_layout.specs.declared.layout.Layout.{Layout}
use Rattle.ds_layout.specs.Places.{cells_of}
use Rattle.ds_state.specs.declared.situation.Situation.TheVariants.{Idle}
use Rattle.ds_state.specs.Reports.{no_reports}
use Rattle.ds_state.specs.Value.{rest_in}
use Rattle.ds_state.specs.World.{PlainIssue}
use Rattle.ds_state.proofs.Made.{made_new, made_kept}
use Rattle.ds_state.proofs.making.made.Goals as goal

pub invariant_of-result : goal.invariant_of-result
invariant_of-result c =
    let l : c.layout-layout.result ≡ c.args.words.layout = c.layout-layout.ensures in
    let s : c.in_ok-situations.situations.items ≡ replicate c.args.words.layout.processes (Idle (rest_in c.args.edition)) = c.in_ok-situations.ensures ∙ ap (λ (x : Layout). replicate x.processes (Idle (rest_in c.args.edition))) l in
    let p : c.in_ok-open_edits.open_edits.items ≡ replicate c.args.words.layout.processes None = c.in_ok-open_edits.ensures.items_if_clones_equal (λ y e. search rules) ∙ ap (λ (x : Layout). replicate {A = Option PlainIssue} x.processes None) l in
    let n : c.in_ok-counted.counted.items ≡ [] = c.in_ok-counted.ensures.items in
    let r : c.in_ok-reports.reports ≡ no_reports c.args.words.layout.processes (cells_of c.args.words.layout) =
    c.in_ok-reports.ensures ∙ ap (λ (k : ℕ). no_reports c.layout-layout.result.processes k) c.cells.ensures.value ∙ ap (λ (x : Layout). no_reports x.processes (cells_of x)) l in
    let room : c.args.words.layout.processes * RECORDS ≤ vec_capacity c.in_ok-counted.counted = subst (λ (x : Layout). x.processes * RECORDS ≤ vec_capacity c.in_ok-counted.counted) l c.in_ok-counted.ensures.capacity in
    rw (s, p, n, r) (made_kept c.args.words c.args.edition (vec_capacity c.in_ok-counted.counted) c.requires room)

pub returns-clause-new : goal.returns-clause-new
returns-clause-new c =
    let l : c.layout-layout.result ≡ c.args.words.layout = c.layout-layout.ensures in
    let s : c.in_ok-situations.situations.items ≡ replicate c.args.words.layout.processes (Idle (rest_in c.args.edition)) = c.in_ok-situations.ensures ∙ ap (λ (x : Layout). replicate x.processes (Idle (rest_in c.args.edition))) l in
    let p : c.in_ok-open_edits.open_edits.items ≡ replicate c.args.words.layout.processes None = c.in_ok-open_edits.ensures.items_if_clones_equal (λ y e. search rules) ∙ ap (λ (x : Layout). replicate {A = Option PlainIssue} x.processes None) l in
    let n : c.in_ok-counted.counted.items ≡ [] = c.in_ok-counted.ensures.items in
    rw (s, p, n) (made_new c.args.words c.args.edition c.requires)
