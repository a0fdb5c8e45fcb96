use Rattle.std.proofs.Common.{◌≡◌, ◌∙◌, ap, subst, sym}
use Rattle.std.specs.Prelude.{Option}
use Rattle.ds_core.specs.declared.reply.Reply.{Reply}
use Rattle.ds_core.specs.declared.reply.Reply.TheVariants.{Stepped}
use Rattle.ds_script.specs.declared.drive.Halt.{Halt}
use Rattle.ds_script.specs.declared.turn.Left.{Left}
use Rattle.ds_script.specs.Doing.{Drives, driven}
use Rattle.ds_script.specs.Plays.{at_end, halted}
use Rattle.ds_script.specs.ScriptTurns.{Remains}
use Rattle.ds_script.proofs.Halting.{on, over}
use Rattle.ds_script.proofs.drive.halt_of.Goals as goal

pub returns-in-Some-clause-goes : goal.returns-in-Some-clause-goes
returns-in-Some-clause-goes c = λ w p event h.
    subst (λ (r : Reply). driven w p c.args.until event r ≡ Drives p c.args.until) (sym c.in-Stepped.is)
    (on w p c.args.until event c.in-Some.field-0
    (subst (λ (o : Option Left). Remains o (driven w p c.args.until event Stepped)) c.in-Some.is
    (subst (λ (r : Reply). Remains c.args.turn.now.left (driven w p c.args.until event r)) c.in-Stepped.is h)))

pub returns-in-None-clause-halts : goal.returns-in-None-clause-halts
returns-in-None-clause-halts c = λ w p event h.
    subst (λ (r : Reply). driven w p c.args.until event r ≡ halted w p c.args.until c.at_end.result) (sym c.in-Stepped.is)
    (over w p c.args.until event
    (subst (λ (o : Option Left). Remains o (driven w p c.args.until event Stepped)) c.in-None.is
    (subst (λ (r : Reply). Remains c.args.turn.now.left (driven w p c.args.until event r)) c.in-Stepped.is h))
    ∙ ap (λ (halt : Halt). halted w p c.args.until halt) (sym c.at_end.ensures))
