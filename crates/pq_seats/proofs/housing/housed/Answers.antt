use Rattle.std.proofs.Common.{rules, ◌≡◌, ◌+◌, ◌++◌, [], ◌∷◌, ◌∙◌, ap, sym, map, length, arith, ℕ, List}
use Rattle.std.proofs.lemmas.List.{length_push}
use Rattle.std.specs.Vec.Iter.{into_iter_items}
use Rattle.rtrb.specs.Ring.{received, known_items}
use Rattle.pq_seats.specs.declared.pass.Pass.{Pass}
use Rattle.pq_seats.specs.declared.ring.Home.{Home}
use Rattle.pq_seats.proofs.Moving.{moved, next_home}
use Rattle.pq_seats.proofs.housing.housed.Goals as goal

pub house-requires : goal.house-requires
house-requires c =
    let homes = c.loop-pass.homes.items in
    let so_far = ap (λ l. map (λ (h : Home). h.process) homes ++ map (λ (p : Pass). p.process) l) (sym c.in-Some.ensures.steps.0) ∙ c.loop-pass.invariant.order in
    let here : c.len-process.result ≡ length homes = search rules in
    next_home homes c.in-Some.pass _ c.args.passes.items so_far c.requires.order ∙ sym here

pub loop-pass-preserved : goal.loop-pass-preserved
loop-pass-preserved c =
    let i = c.loop-pass.invariant in
    let homes = c.loop-pass.homes.items in
    let home = c.house.result in
    let pass = c.in-Some.pass in
    let step = c.in-Some.ensures.steps in
    let more = c.push_reserved.ensures.items in
    let long : length c.push_reserved.new.self.items ≡ length homes + 1 = ap length more ∙ length_push homes home in
    let fewer : length c.loop-pass.rings.items ≡ length c.pop.new.self.items + 1 = ap length c.in-Some-pop.ensures.items ∙ length_push c.pop.new.self.items c.in-Some-pop.ring in
    let here : c.len-process.result ≡ length homes = search rules in
    let F : Home → ℕ = λ h. h.process in
    let G : Pass → ℕ = λ p. p.process in
    let K : Home → List Pass = λ h. known_items h.end in
    let R : Home → List Pass = λ h. received h.end in
    let S : Pass → List Pass = λ p. p ∷ [] in
    record {
      rings = omega (arith, fewer, i.rings, step.1);
      room = omega (arith, long, step.1, i.room, c.push_reserved.ensures.capacity);
      order = ap (λ l. map F l ++ map G (into_iter_items c.next.new.self)) more ∙ moved F G homes home pass _ _ (ap (λ l. map F homes ++ map G l) (sym step.0) ∙ i.order) (c.house.ensures.0 ∙ (here ∙ sym (next_home homes pass _ c.args.passes.items (ap (λ l. map F homes ++ map G l) (sym step.0) ∙ i.order) c.requires.order)));
      known = ap (λ l. map K l ++ map S (into_iter_items c.next.new.self)) more ∙ moved K S homes home pass _ _ (ap (λ l. map K homes ++ map S l) (sym step.0) ∙ i.known) c.house.ensures.2;
      came = ap (λ l. map R l ++ map S (into_iter_items c.next.new.self)) more ∙ moved R S homes home pass _ _ (ap (λ l. map R homes ++ map S l) (sym step.0) ∙ i.came) c.house.ensures.1;
    }
