use Rattle.std.proofs.Common.{rules, ◌≡◌, ◌+◌, ◌∙◌, sym, refl, ap, subst, ℕ, List, [], arith}
use Rattle.std.specs.Prelude.{false}
use Rattle.ds_words.specs.declared.access.BufferEntry.{BufferEntry}
use Rattle.ds_words.specs.declared.access.Access.{Access}
use Rattle.pm_board.specs.Table.{answer, buffer_after, HasRoom}
use Rattle.pm_board.specs.Machines.{stepped, left, IsServed, IsIn, Drives, unbegun, under_way}
use Rattle.pm_board.proofs.Sides.{few as at_most}
use Rattle.pm_board.proofs.Driving.{within, room, asked_none, asked_also, asked_stop}
use Rattle.pm_board.proofs.Machines.{poised_steps, poised, steps_on, broken, settled}
use Rattle.pm_board.proofs.drive.drive.Goals as goal

pub loop-end-init : goal.loop-end-init
loop-end-init g c = record {
  same = (refl, refl);
  fits = c.requires.fits;
  serves = subst (λ (x : List (BufferEntry ℕ)). IsServed g.P.Structured.structure g.M.Machine.calls c.args.board.now.key c.args.call.now x) (sym c.new-buffer.ensures) c.requires.serves;
  taken = 0;
  asked = asked_none g.F.Fuse.said c.args.fuse.now;
  few = omega arith;
  drives = subst (λ (x : List (BufferEntry ℕ)). Drives g.P.Structured.structure g.M.Machine.calls c.args.board.now.key c.args.call.now c.args.seat.now.me false c.args.seat.now.me c.args.call.now x 0) (sym c.new-buffer.ensures) (unbegun c.requires.begins c.requires.goes);
}

pub returns-then-not-go-clause-me : goal.returns-then-not-go-clause-me
returns-then-not-go-clause-me g c =
    let few = c.loop-end.invariant.few in (
      c.loop-end.invariant.taken,
      asked_stop g.F.Fuse.said c.args.fuse.now c.loop-end.fuse _ c.loop-end.invariant.taken c.loop-end.invariant.asked c.if-not-go.ensures,
      broken g.P.Structured.structure g.M.Machine.calls c.args.board.now.key c.law.ensures c.law-2.ensures c.args.call.now c.args.seat.now.me c.loop-end.begun c.loop-end.seat.me c.loop-end.call c.loop-end.buffer.items c.loop-end.invariant.taken (omega (arith, few)) c.in-None.ensures c.loop-end.invariant.drives,
    )

pub returns-in-Some-clause-me : goal.returns-in-Some-clause-me
returns-in-Some-clause-me g c =
    let few = c.loop-end.invariant.few in (
      c.loop-end.invariant.taken,
      c.loop-end.invariant.asked,
      settled g.P.Structured.structure g.M.Machine.calls c.args.board.now.key c.law.ensures c.law-2.ensures c.args.call.now c.args.seat.now.me c.loop-end.begun c.loop-end.seat.me c.loop-end.call c.loop-end.buffer.items c.loop-end.invariant.taken c.in-Some.end few c.in-Some.ensures c.loop-end.invariant.drives,
    )

pub access-found-requires-clause-within : goal.access-found-requires-clause-within
access-found-requires-clause-within g c =
    let words = c.args.board.now.sized.0 in
    let few = c.args.board.now.some.1 in (
      rw (c.want-wanted.ensures, c.apart-apart.ensures) (within (g.P.Structured.structure.apart c.args.board.now.key) (g.P.Structured.structure.words c.args.board.now.key) _ (g.M.Machine.calls.access c.args.board.now.key c.loop-end.call) c.loop-end.buffer.items c.args.board.now.some.0
          (c.loop-end.invariant.serves c.loop-end.invariant.fits c.in-None.ensures) words),
      (let most = at_most (g.P.Structured.structure.apart c.args.board.now.key) (g.P.Structured.structure.words c.args.board.now.key) in omega (arith, words, few, most)),
    )

pub access-found-requires-clause-step : goal.access-found-requires-clause-step
access-found-requires-clause-step g c =
    let p = poised g.P.Structured.structure g.M.Machine.calls c.args.board.now.key c.law.ensures c.law-2.ensures c.args.call.now c.args.seat.now.me c.loop-end.begun c.loop-end.seat.me c.loop-end.call c.loop-end.buffer.items c.loop-end.invariant.taken c.loop-end.invariant.drives in
    rw (c.want-wanted.ensures, c.args.board.now.sized.1, c.apart-apart.ensures)
    (poised_steps g.P.Structured.structure g.M.Machine.calls c.args.board.now.key c.law.ensures c.law-2.ensures _ _ _ c.loop-end.begun c.loop-end.seat.me c.loop-end.call c.loop-end.buffer.items c.loop-end.invariant.fits c.in-None.ensures p)

pub keep-requires : goal.keep-requires
keep-requires g c =
    let there : HasRoom c.want-wanted.result c.loop-end.buffer.items = rw c.want-wanted.ensures (room (g.P.Structured.structure.words c.args.board.now.key) (g.M.Machine.calls.access c.args.board.now.key c.loop-end.call) c.loop-end.buffer.items (c.loop-end.invariant.serves c.loop-end.invariant.fits c.in-None.ensures)) in
    record { room = there }

pub loop-end-preserved : goal.loop-end-preserved
loop-end-preserved g c =
    let found : ℕ = c.access-found.result in
    let taken : ℕ = c.loop-end.invariant.taken in
    let is : c.want-wanted.result ≡ g.M.Machine.calls.access c.args.board.now.key c.loop-end.call = c.want-wanted.ensures in
    let p = poised g.P.Structured.structure g.M.Machine.calls c.args.board.now.key c.law.ensures c.law-2.ensures c.args.call.now c.args.seat.now.me c.loop-end.begun c.loop-end.seat.me c.loop-end.call c.loop-end.buffer.items taken c.loop-end.invariant.drives in
    let empty : c.access-found.new.seat.me.1 ≡ [] = c.access-found.ensures.landed.0 ∙ ap (λ m. m.1) p.at in
    let landed = c.access-found.ensures.landed.1 in
    let next : c.got.new.self ≡ stepped g.P.Structured.structure g.M.Machine.calls c.args.board.now.key c.loop-end.call found =
    c.got.ensures.next ∙ ap (g.M.Machine.calls.next c.loop-end.call) (c.answer.ensures ∙ ap (λ (a : Access ℕ). answer a found) is) in
    let back : c.keep.new.buffer.items ≡ left g.P.Structured.structure g.M.Machine.calls c.args.board.now.key c.loop-end.call c.loop-end.buffer.items found =
    c.keep.ensures ∙ ap (λ (a : Access ℕ). buffer_after (g.P.Structured.structure.class_in c.args.board.now.key) a c.loop-end.buffer.items found) is in
    let on = steps_on g.P.Structured.structure g.M.Machine.calls c.args.board.now.key c.law.ensures c.law-2.ensures c.args.call.now c.args.seat.now.me c.loop-end.begun c.loop-end.seat.me c.access-found.new.seat.me c.loop-end.call c.loop-end.buffer.items taken found c.in-None.ensures c.loop-end.invariant.drives landed empty in
    let fewer = c.got.ensures.fewer in
    let few = c.loop-end.invariant.few in
    record {
      same = search rules;
      fits = c.got.ensures.fits;
      serves = subst (λ (x : List (BufferEntry ℕ)). IsServed g.P.Structured.structure g.M.Machine.calls c.args.board.now.key c.got.new.self x) (sym back) (subst (λ d. IsServed g.P.Structured.structure g.M.Machine.calls c.args.board.now.key d (left g.P.Structured.structure g.M.Machine.calls c.args.board.now.key c.loop-end.call c.loop-end.buffer.items found)) (sym next) landed.serves);
      taken = taken + 1;
      asked = asked_also g.F.Fuse.said c.args.fuse.now c.loop-end.fuse _ taken 0 1 0 c.loop-end.invariant.asked c.if-not-go.ensures;
      few = omega (arith, few, fewer);
      drives = under_way c.access-found.new.seat.me c.got.new.self c.keep.new.buffer.items (taken + 1)
          (subst (λ d. IsIn g.P.Structured.structure g.M.Machine.calls c.args.board.now.key c.args.call.now c.args.seat.now.me c.access-found.new.seat.me d c.keep.new.buffer.items (taken + 1)) (sym next) (subst (λ (x : List (BufferEntry ℕ)). IsIn g.P.Structured.structure g.M.Machine.calls c.args.board.now.key c.args.call.now c.args.seat.now.me c.access-found.new.seat.me (stepped g.P.Structured.structure g.M.Machine.calls c.args.board.now.key c.loop-end.call found) x (taken + 1)) (sym back) on));
    }
