use Rattle.std.proofs.Common.{◌∙◌, refl}
use Rattle.ds_server.specs.Replies.{got_view}
use Rattle.ds_net_desks.proofs.Reading.{got_after, tried_both, tried_none}
use Rattle.ds_net_desks.proofs.cell_question.CellQuestion.answer.Goals as goal

pub loop-init : goal.loop-init
loop-init g c = record { tried = tried_none c.args.numbered.now c.args.notebook.now.seen.items; notes = (refl, refl); process = refl }

pub returns-in-Some-clause-got : goal.returns-in-Some-clause-got
returns-in-Some-clause-got g c =
    let q = c.args.self.now in
    got_after q.cell q.number c.args.numbered.now c.loop.numbered c.tried.new.numbered c.args.notebook.now.seen.items c.loop.notebook.seen.items c.tried.new.notebook.seen.items (got_view q.cell c.in-Some.got) c.loop.invariant.tried c.in-Some.ensures.some

pub loop-preserved : goal.loop-preserved
loop-preserved g c = record {
  tried = tried_both c.args.numbered.now c.loop.numbered c.tried.new.numbered c.args.notebook.now.seen.items c.loop.notebook.seen.items c.tried.new.notebook.seen.items c.loop.invariant.tried (c.tried.ensures.none c.in_default.is);
  notes = (c.tried.ensures.notes.0 ∙ c.loop.invariant.notes.0, c.tried.ensures.notes.1 ∙ c.loop.invariant.notes.1);
  process = c.tried.ensures.process ∙ c.loop.invariant.process;
}

pub returns-clause-got : goal.returns-clause-got
returns-clause-got g c =
    let q = c.args.self.now in
    got_after q.cell q.number c.args.numbered.now c.loop.numbered c.tried_alone.new.numbered c.args.notebook.now.seen.items c.loop.notebook.seen.items c.tried_alone.new.notebook.seen.items (got_view q.cell c.tried_alone.result) c.loop.invariant.tried c.tried_alone.ensures.got
