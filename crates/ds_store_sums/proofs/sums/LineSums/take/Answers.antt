use Rattle.std.proofs.Common.{sym, subst}
use Rattle.sha2.specs.Hashers.{Holds256}
use Rattle.ds_store_sums.specs.Sums.{bytes_of}
use Rattle.ds_store_sums.proofs.Bytes.{bytes_more}
use Rattle.ds_store_sums.proofs.sums.LineSums.take.Goals as goal

pub returns : goal.returns
returns c lines h are = record {
  holds = subst (Holds256 c.update-2.new.self) (sym (bytes_more lines c.args.line.now)) (c.update-2.ensures _ (c.update.ensures (bytes_of lines) h.holds));
  summed = are;
}
