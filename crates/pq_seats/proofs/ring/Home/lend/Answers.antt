use Rattle.std.proofs.Common.{sym, subst, All}
use Rattle.rtrb.specs.Ring.{received, known_items}
use Rattle.pq_seats.specs.Known.{IsOf}
use Rattle.pq_seats.specs.Homes.{Lends}
use Rattle.pq_seats.proofs.Moving.{still_of, still_process, only}
use Rattle.pq_seats.proofs.ring.Home.lend.Goals as goal

pub returns-clause-some : goal.returns-clause-some
returns-clause-some c =
    let self = c.args.self.now in
    let pass = c.in-Ok.pass in
    let made = c.pass_through-back in
    let got = c.in-Ok.ensures.ok in
    subst (λ p. Lends self made.result.1 made.result.0 p) (sym made.ensures.pass) (record {
      process = still_process self.process (received self.end) pass self.some got.2 self.own;
      came = (known_items c.pop.new.self, got.1);
      of = λ t n of. still_of t n (received self.end) pass self.some got.2 of;
      through = made.ensures.back.0;
      room = made.ensures.back.1;
    })

pub returns-clause-of : goal.returns-clause-of
returns-clause-of c = λ t n of.
    let self = c.args.self.now in
    let pass = c.in-Ok.pass in
    subst (All (λ q. IsOf t n q)) (sym c.pass_through-back.ensures.home.1) (only (λ q. IsOf t n q) pass (still_of t n (received self.end) pass self.some c.in-Ok.ensures.ok.2 of))

pub returns-in_default-clause-of : goal.returns-in_default-clause-of
returns-in_default-clause-of c = λ t n of. subst (All (λ q. IsOf t n q)) (sym c.in_default.ensures.empty.0) of
