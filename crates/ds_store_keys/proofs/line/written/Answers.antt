use Rattle.std.proofs.Common.{IsUtf8, ap, inr, refl, subst, sym}
use Rattle.ds_store_keys.specs.Keys.{KeptKey}
use Rattle.ds_store_keys.proofs.Written.{key_utf8}
use Rattle.ds_store_keys.proofs.line.written.Goals as goal

pub returns-in_default-clause-unwritten : goal.returns-in_default-clause-unwritten
returns-in_default-clause-unwritten c layout =
    inr (refl, λ may. c.in_default.ensures.cases.0 (rw c.deref.ensures.value (subst IsUtf8 (sym (ap (λ (k : KeptKey). k.key) c.note.view_is)) (key_utf8 c.args.note.now.key may.key))))
