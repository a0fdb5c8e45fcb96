use Rattle.std.proofs.Common.{rules, ◌≡◌, ◌<◌, ◌+◌, ◌++◌, ◌∷◌, [], ap, sym, subst, ◌∙◌, length, length-append, arith}
use Rattle.std.specs.Arc.{arc_value}
use Rattle.ds_shared_seats.specs.declared.sheet.OpenSheet.{OpenSheet}
use Rattle.ds_shared_seats.proofs.Looking.{as_many}
use Rattle.ds_store.proofs.Taking.{AreNew, all_fresh, all_seated, element, one_more, taken}
use Rattle.ds_store.proofs.seated.all_seats.Goals as goal

many : (s : OpenSheet) → length s.homes.items ≡ (arc_value s.sheet).board.layout.processes
many s = as_many s.homes.items s.layout.processes s.order ∙ ap (λ l. l.processes) s.fits

pub loop-process-preserved : goal.loop-process-preserved
loop-process-preserved c =
    let first = c.args.sheet.now in
    let before = c.loop-process.sheet in
    let inv = c.loop-process.invariant in
    let p = c.loop-process.process in
    let seat = c.in-Ok.seat in
    let seats = c.loop-process.seats.items in
    let takes = c.in-Ok.ensures.ok in
    let all = many first in
    let layout : c.layout-processes.result ≡ (arc_value first.sheet).board.layout = c.layout-processes.ensures in
    let count = ap (λ l. l.processes) layout in
    let under : p < c.layout-processes.result.processes = search rules in
    let low : p < length first.homes.items = omega (arith, all, count, under) in
    let d = element first.homes.items p low in
    let new = taken first before c.take.new.self seat p d c.requires (inv.homes p d (omega arith)) low inv.sheet takes in
    let items : c.push_reserved.new.self.items ≡ seats ++ seat ∷ [] = c.push_reserved.ensures.items in
    let long = length-append seats (seat ∷ []) in
    let more = ap length items in
    let so = inv.count in
    record {
      sheet = takes.sheet ∙ inv.sheet;
      homes = λ k e far. takes.others k e (λ same. omega (arith, same, far)) ∙ inv.homes k e (omega (arith, far));
      count = omega (arith, long, more, so);
      room = search rules;
      new = subst (AreNew (arc_value first.sheet) (p + 1)) (sym items) (one_more (arc_value first.sheet) seats seat p so inv.new new);
    }

pub returns-clause-seats : goal.returns-clause-seats
returns-clause-seats c =
    let first = c.args.sheet.now in
    let inv = c.loop-process.invariant in
    let s = arc_value first.sheet in
    let seats = c.loop-process.seats.items in
    let layout : c.layout-processes.result ≡ s.board.layout = c.layout-processes.ensures in
    let count = ap (λ l. l.processes) layout in
    let end : c.loop-process.process ≡ c.layout-processes.result.processes = search rules in
    let long = inv.count in
    let all : length seats ≡ s.board.layout.processes = omega (arith, count, end, long) in
    let new = subst (λ n. AreNew s n seats) (sym long) inv.new in
    (all_seated s seats all new, all_fresh s seats new)
