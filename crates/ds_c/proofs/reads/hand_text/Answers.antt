use Rattle.std.proofs.Common.{◌≡◌, length, refl, subst, arith}
use Rattle.std.specs.Prelude.{Ok, Err}
use Rattle.ds_c.specs.Calls.{Fills}
use Rattle.ds_c.proofs.reads.hand_text.Goals as goal

pub returns-in-Ok : goal.returns-in-Ok
returns-in-Ok c =
    let many : c.len.result ≡ length c.in-Ok.text.items = omega (arith, c.len.ensures, c.in-Ok.text.ok.0) in
    let fills = subst (λ bytes. Fills bytes c.args.buffer.now c.fill.new.buffer c.fill.result) c.deref.ensures.value c.fill.ensures in
    (Ok c.in-Ok.text.items, (c.in-Ok.ensures.ok, refl), (fills, many))

pub returns-in-Err : goal.returns-in-Err
returns-in-Err c = (Err c.in-Err.failure, (c.in-Err.ensures.err, refl), (refl, refl, c.number.ensures))
