use Rattle.std.proofs.Common.{rules, ◌≡◌, ◌<◌, ◌≤◌, ◌∙◌, ap, sym, subst, get_or, length, refl, arith}
use Rattle.ds_store_journal.specs.Standings.{none_made}
use Rattle.ds_store_keys.specs.Keys.{carried}
use Rattle.ds_store.proofs.going_over.ReadJournal.goes_over.Goals as goal

pub returns : goal.returns
returns c good old new h g =
    let one = c.args.self.now in
    let two = c.args.next.now in
    let joins : two.joins ≡ one.joins = search rules in
    let few = c.stand_alike.ensures.few good in
    record {
      layout = one.texts.layout;
      again = two.texts.layout;
      texts = c.if-not-is_same.ensures refl old new h.texts g.texts;
      joins = sym g.joins ∙ (joins ∙ h.joins);
      keys = sym g.keys ∙ (sym c.deref-2.ensures.value ∙ (c.if-not-are_carried.ensures.same refl ∙ (ap carried c.deref.ensures.value ∙ ap carried h.keys)));
      standings = λ process low.
          let below : process < one.joins = subst (λ n. process < n) (sym h.joins) low in
          let long : length c.deref-3.result.now ≡ one.texts.layout.processes = ap length c.deref-3.ensures.value ∙ h.count in
          let long_2 : length c.deref-4.result.now ≡ two.texts.layout.processes = ap length c.deref-4.ensures.value ∙ g.count in
          let few_0 : one.joins ≤ length c.deref-3.result.now = few.0 in
          let few_1 : one.joins ≤ length c.deref-4.result.now = few.1 in
          let here : process < one.texts.layout.processes = omega (arith, below, long, few_0) in
          let there : process < two.texts.layout.processes = omega (arith, below, long_2, few_1) in
          let alike = c.stand_alike.ensures.alike good process none_made below in
          let same : get_or two.standings.items process none_made ≡ get_or one.standings.items process none_made =
          subst (λ xs. get_or two.standings.items process none_made ≡ get_or xs process none_made) c.deref-3.ensures.value (subst (λ ys. get_or ys process none_made ≡ get_or c.deref-3.result.now process none_made) c.deref-4.ensures.value alike) in
          sym (g.standings process none_made there) ∙ (same ∙ h.standings process none_made here);
    }
