use Rattle.std.proofs.Common.{ℕ, List, ◌∙◌, ◌++◌, ap, length}
use Rattle.std.specs.Prelude.{Result}
use Rattle.ds_state.specs.declared.recovery.RecoveryEnd.{RecoveryEnd}
use Rattle.ds_state.specs.declared.refusal.Refusal.{Refusal}
use Rattle.ds_core.specs.declared.reply.Reply.{Reply}
use Rattle.ds_script.specs.ScriptTexts.{reply_text}
use Rattle.ds_explore.proofs.Judged.{recoveries_none, recoveries_more, longer}
use Rattle.ds_explore.proofs.ends.recover.Goals as goal

pub loop-process-init : goal.loop-process-init
loop-process-init c = record {
  are = recoveries_none c.args.world.now c.new-resolved.result.items c.new-text.result.items c.new-resolved.ensures.items c.new-text.ensures.items;
  count = ap (λ (l : List (Result RecoveryEnd Refusal)). length l) c.new-resolved.ensures.items;
}

pub loop-process-preserved : goal.loop-process-preserved
loop-process-preserved c = record {
  are = recoveries_more c.args.world.now c.loop-process.world c.whole_recovery-came.new.world c.loop-process.resolved.items c.loop-process.text.items c.in_ok-line.line.items c.loop-process.process c.whole_recovery-came.result c.push.new.self.items c.extend_from_slice.new.self.items
      c.loop-process.invariant.are c.loop-process.invariant.count c.whole_recovery-came.ensures (c.in_ok-line.ensures ∙ ap (λ (r : Reply). reply_text c.whole_recovery-came.new.world c.loop-process.process r) c.replied.ensures) c.in_ok-push.ensures.items
      (c.in_ok-extend_from_slice.ensures.items ∙ ap (λ (xs : List ℕ). c.loop-process.text.items ++ xs) c.deref.ensures.value);
  count = longer c.loop-process.resolved.items c.push.new.self.items c.whole_recovery-came.result c.loop-process.process c.loop-process.invariant.count c.in_ok-push.ensures.items;
}
