use Rattle.std.proofs.Common.{◌∙◌, sym, ap, refl, [], arith}
use Rattle.std.specs.Prelude.{Option}
use Rattle.ds_layout.specs.declared.header.Header.{Header}
use Rattle.ds_layout.specs.Header.{header_of}
use Rattle.ds_state.specs.Shown.{header_in}
use Rattle.ds_state.specs.Works.{PlainWorkCall}
use Rattle.ds_state.proofs.ReadBack.{header_in_fits, most_small}
use Rattle.ds_work.specs.WorkSteps.{header_from}
use Rattle.ds_work.proofs.machine.header_from.Goals as goal

pub text_from-requires : goal.text_from-requires
text_from-requires c =
    let most = most_small c.call.inside.edition in
    let fits = header_in_fits c.call.inside.edition c.read.result c.in-Some.header (sym c.header_in.ensures ∙ c.in-Some.is) in
    omega arith

pub returns-in-Some : goal.returns-in-Some
returns-in-Some c = c.text_from.ensures (record c.args.call.now { length = c.in-Some.header.length; text = [] }) refl
    ∙ ap (λ (o : Option Header). (header_from c.args.call.now o).stage) (sym c.in-Some.is ∙ c.header_in.ensures ∙ ap (λ (o : Option Header). header_in c.call.inside.edition o) c.read.ensures.value)
    ∙ ap (λ (x : PlainWorkCall). (header_from c.args.call.now (header_in x.edition (header_of x.cells c.args.word))).stage) c.call.view_is
