use Rattle.std.proofs.Common.{◌∙◌, ap, bytes_eq, option_map, sym}
use Rattle.std.specs.Map.{lookup}
use Rattle.ds_store_keys.specs.Keys.{edit_of}
use Rattle.ds_store_keys.proofs.Listing.{once_none, use_in_none}
use Rattle.ds_store_keys.proofs.table.KeyTable.new.Goals as goal

pub returns-clause-keys : goal.returns-clause-keys
returns-clause-keys c = record {
  finds = λ key. ap (λ es. option_map edit_of (lookup (λ k. bytes_eq key k.items) es)) c.new.ensures.empty ∙ sym (use_in_none key);
  once = once_none;
}
