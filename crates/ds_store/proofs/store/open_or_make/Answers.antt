use Rattle.std.proofs.Common.{rules}
use Rattle.sqlite.specs.Held.{state}
use Rattle.ds_store.proofs.Apart.{bare_has_none, not_both}
use Rattle.ds_store.proofs.Growing.{if_ok}
use Rattle.ds_store.proofs.store.open_or_make.Goals as goal

pub returns-then-is_bare-clause-opens : goal.returns-then-is_bare-clause-opens
returns-then-is_bare-clause-opens g c =
    if_ok c.make.result c.make.ensures.one (λ opened is clean held holds. absurd (bare_has_none (state g.S.Store c.args.conn).now held (c.is_bare.ensures.bare c.if-is_bare.true) holds))

pub returns-clause-makes : goal.returns-clause-makes
returns-clause-makes g c clean bare = absurd (not_both c.is_bare.result (c.is_bare.ensures.other bare) (search rules))
