use Rattle.std.proofs.Common.{sym, rules}
use Rattle.pm_explore.proofs.table.find_hashed.Goals as goal

pub returns-then-is_like : goal.returns-then-is_like
returns-then-is_like g c = record {
  found = c.index-then-index-hash.result.now;
  at = record { low = search rules; is = sym c.index-then-index-hash.ensures };
  same = c.is_like.ensures c.if-is_like.true;
}
