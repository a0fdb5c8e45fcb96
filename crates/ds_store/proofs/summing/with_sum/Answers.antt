use Rattle.std.proofs.Common.{rules, ◌≡◌, ◌∙◌, ◌++◌, ◌∷◌, [], ap, map}
use Rattle.std.specs.Prelude.{filter, not}
use Rattle.std.specs.String.{string_bytes}
use Rattle.std.proofs.lemmas.List.Elements.{filter_from_retain}
use Rattle.ds_store.proofs.Growing.{if_ok, map_filter}
use Rattle.ds_store.specs.Summing.{without_sums}
use Rattle.ds_store_sums.specs.Sums.{is_sum, sum_of}
use Rattle.ds_store.proofs.summing.with_sum.Goals as goal

pub returns-clause-anew : goal.returns-clause-anew
returns-clause-anew c =
    let lines = c.args.lines.items in
    let plain = c.retain.new.self.items in
    let kept : plain ≡ filter (λ line. not (is_sum (string_bytes line))) lines =
    filter_from_retain _ (λ line. not (is_sum (string_bytes line))) (λ f line b g called. search rules) _ lines plain c.retain.ensures.filtered in
    let are : map string_bytes plain ≡ without_sums (map string_bytes lines) = ap (map string_bytes) kept ∙ map_filter string_bytes (λ line. not (is_sum line)) lines in
    if_ok c.sum_up.result c.sum_up.ensures.summed (λ all is.
    let summed = (is [] c.new.ensures).1 in
    summed.1 ∙ (ap (λ sum. map string_bytes plain ++ sum ∷ []) summed.3 ∙ ap (λ ls. ls ++ sum_of ls ∷ []) are))
