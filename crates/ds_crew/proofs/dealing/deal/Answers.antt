use Rattle.std.proofs.Common.{rules, arith, ◌≡◌, ◌<◌, ◌+◌, ◌++◌, [], ◌∷◌, ℕ, length, map, drop, get_or, sym, ap, ◌∙◌, subst}
use Rattle.std.proofs.lemmas.List.{get_or-map, length_push, length-map}
use Rattle.std.proofs.lemmas.List.Sums.{sum_by_push}
use Rattle.ds_crew.specs.Passes.{PlainPass, first_pass, first_count, dones_of, settleds_of}
use Rattle.ds_crew.specs.Kept.{report_of}
use Rattle.ds_crew.proofs.Deals.{front, each_more, pass_is, no_more}
use Rattle.ds_crew.proofs.dealing.deal.Goals as goal

pub loop-last-preserved : goal.loop-last-preserved
loop-last-preserved g c =
    let i = c.loop-last.invariant in
    let w = c.args.world.now in
    let ps = c.loop-last.passes.items in
    let qs = c.push_reserved.new.self.items in
    let n : ℕ = length ps in
    let pass = c.pass_of.result in
    let step = c.in-Some.ensures.steps in
    let wide : length (map (λ last. last.items) c.args.lasts.items) ≡ length c.args.lasts.items = length-map c.args.lasts.items (λ last. last.items) in
    let below : n < length c.args.lasts.items = omega (arith, i.count, step.1, c.requires.lasts.count, wide) in
    let at = front c.args.lasts.items _ n c.in-Some.last below (sym step.0 ∙ i.rest) in
    let here : c.len-process.result ≡ n = search rules in
    let last : c.in-Some.last.items ≡ report_of w.reports n = ap (λ v. v.items) at.0 ∙ sym (get_or-map (λ v. v.items) c.args.lasts.items n c.in-Some.last [] below) ∙ c.requires.lasts.each n (omega (arith, wide, below)) in
    let is : pass ≡ first_pass w n = c.pass_of.ensures ∙ pass_is w n c.len-process.result c.split_off-share.result.amount c.split_off-other.result.amount c.in-Some.last.items here last (c.split_off-share.ensures.amount ∙ i.done) (c.split_off-other.ensures.amount ∙ i.settled) in
    let more : qs ≡ ps ++ pass ∷ [] = c.push_reserved.ensures.items in
    let long : length qs ≡ n + 1 = ap length more ∙ length_push ps pass in
    record {
      count = omega (arith, long, i.count, step.1);
      rest = at.1 ∙ ap (λ k. drop k c.args.lasts.items) (sym long);
      room = search rules;
      done = no_more w.done n ∙ ap (first_count w.done) (sym long);
      settled = no_more w.settled n ∙ ap (first_count w.settled) (sym long);
      dones = omega (arith, i.dones, c.split_off-share.ensures.amount_left);
      settleds = omega (arith, i.settleds, c.split_off-other.ensures.amount_left);
      dones_parts = omega (arith, i.dones_parts, step.1, c.split_off-share.ensures.parts_left);
      settleds_parts = omega (arith, i.settleds_parts, step.1, c.split_off-other.ensures.parts_left);
      each = subst (λ l. (p : ℕ) (d : PlainPass) → p < length l → get_or l p d ≡ first_pass w p) (sym more) (each_more w ps pass i.each is);
      all_dones = omega (arith, i.all_dones, ap dones_of more, sum_by_push (λ p. p.dones) ps pass, ap (λ p. p.dones) c.pass_of.ensures, c.split_off-share.ensures.amount);
      all_settleds = omega (arith, i.all_settleds, ap settleds_of more, sum_by_push (λ p. p.settleds) ps pass, ap (λ p. p.settleds) c.pass_of.ensures, c.split_off-other.ensures.amount);
    }
