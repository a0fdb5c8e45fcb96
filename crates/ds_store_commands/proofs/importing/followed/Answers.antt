use Rattle.std.proofs.Common.{◌∙◌, ap, map}
use Rattle.std.specs.String.{string_bytes}
use Rattle.ds_store.specs.Summing.{summed_anew}
use Rattle.ds_store_commands.proofs.importing.followed.Goals as goal

pub returns-clause-same : goal.returns-clause-same
returns-clause-same c = ap (λ v. map string_bytes v.items) c.in_ok-opened.ensures.lines ∙ (c.in_ok-summed.ensures.anew ∙ ap summed_anew c.in_ok-copies.ensures)

pub returns-clause-followed : goal.returns-clause-followed
returns-clause-followed c =
    let opened = c.in_ok-opened.opened in
    record {
      layout = opened.store.layout;
      counts = opened.store.counts.counts.items;
      sheet = opened.sheet;
      leads = c.in_ok-opened.ensures.leads;
      once = c.in_ok-opened.ensures.keys.once;
    }
