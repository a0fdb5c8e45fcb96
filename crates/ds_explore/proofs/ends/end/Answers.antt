use Rattle.std.proofs.Common.{◌∙◌, ap}
use Rattle.ds_core.specs.Ends.{reports}
use Rattle.ds_core.specs.declared.reply.Reply.{Reply}
use Rattle.ds_script.specs.Doing.{end_text}
use Rattle.ds_script.specs.ScriptTexts.{reply_text}
use Rattle.ds_explore.specs.Judging.{replied}
use Rattle.ds_explore.proofs.Judged.{behind_it}
use Rattle.ds_explore.proofs.ends.end.Goals as goal

pub returns-clause-reports : goal.returns-clause-reports
returns-clause-reports c = record {
  resolved = c.in_ok-resolved.field-0.text.items;
  all = c.in_ok-resolved.ensures.all;
  recovered = c.recover.new.world;
  recovers = c.in_ok-resolved.ensures.recoveries;
  settled = c.settle-left.new.world;
  settles = c.settle-left.ensures.settles;
  reports_whole = c.whole_show-reported.ensures;
  is = behind_it c.in_ok-resolved.field-0.text.items c.deref.result.now c.deref-2.result.now (end_text c.settle-left.new.world 0 c.settle-left.result) (reply_text c.whole_show-reported.new.world 0 (replied reports c.whole_show-reported.result))
      c.extend_from_slice.new.self.items c.extend_from_slice-2.new.self.items (c.deref.ensures.value ∙ c.in_ok-settled.ensures)
      (c.deref-2.ensures.value ∙ c.in_ok-line.ensures ∙ ap (λ (r : Reply). reply_text c.whole_show-reported.new.world 0 r) c.replied.ensures) c.in_ok-extend_from_slice.ensures.items c.in_ok-extend_from_slice-2.ensures.items;
}
