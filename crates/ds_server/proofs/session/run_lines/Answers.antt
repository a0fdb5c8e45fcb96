use Rattle.std.proofs.Common.{ℕ, [], ◌++◌, Option, refl, sym, subst, arith, ◌∙◌, inl}
use Rattle.ds_script_io.specs.Streams.{write_failed}
use Rattle.ds_script_io.proofs.Known.{Consumes-none, Consumes-both, Appends-none}
use Rattle.ds_server.specs.Desks.{Seated}
use Rattle.ds_server.specs.SessionTexts.{said_text}
use Rattle.ds_server.specs.Session.{Session, begins, Served}
use Rattle.ds_server.proofs.Sessions.{turns_short, turns_long, session_more, session_stops, served, within, over, more_given, more_counted}
use Rattle.ds_server.proofs.session.run_lines.Goals as goal

pub returns-in_default-clause-outcome : goal.returns-in_default-clause-outcome
returns-in_default-clause-outcome g c = (
  [],
  [],
  Consumes-none _,
  (λ _. Appends-none _),
  inl (subst (λ (j : Option ℕ). Served g.B.Desk.rules c.args.most c.args.desk.now [] [] [] c.args.desk.now j) (sym c.requires.none) (record { lines = []; session = begins; is = refl })),
  omega arith,
  omega arith,
)

pub lines-init : goal.lines-init
lines-init g c = record {
  bytes = [];
  out = [];
  consumed = Consumes-none _;
  written = Appends-none _;
  session = subst (λ (j : Option ℕ). Session g.B.Desk.rules c.args.most c.args.desk.now [] c.args.desk.now j []) (sym c.requires.none) begins;
  seated = subst (λ (j : Option ℕ). Seated g.B.Desk.rules j c.args.desk.now) (sym c.requires.none) tt;
  counted = omega arith;
  room = omega (arith, c.in-Ok.ensures.capacity);
  given = omega arith;
  flushed = λ was. was;
  failed = refl;
}

pub returns-in-Ended-clause-outcome : goal.returns-in-Ended-clause-outcome
returns-in-Ended-clause-outcome g c =
    let i = c.lines.invariant in
    let r = c.in-Ended.ensures.line in (
      i.bytes ++ r.0,
      i.out,
      Consumes-both _ _ _ i.bytes r.0 i.consumed r.1,
      (λ _. i.written),
      (r.0, served g.B.Desk.rules c.args.most c.args.desk.now c.lines.desk i.bytes r.0 i.out c.lines.joined i.session, within c.args.limit c.lines.left i.bytes r.0 i.counted r.2),
      more_given i.bytes r.0 _ _ _ i.given r.3,
      omega (arith, (within c.args.limit c.lines.left i.bytes r.0 i.counted r.2).within),
    )

pub returns-in-Failed-clause-outcome : goal.returns-in-Failed-clause-outcome
returns-in-Failed-clause-outcome g c =
    let i = c.lines.invariant in
    let r = c.in-Failed.ensures.line in (
      i.bytes ++ r.0,
      i.out,
      Consumes-both _ _ _ i.bytes r.0 i.consumed r.1,
      (λ _. i.written),
      (r.0, served g.B.Desk.rules c.args.most c.args.desk.now c.lines.desk i.bytes r.0 i.out c.lines.joined i.session, within c.args.limit c.lines.left i.bytes r.0 i.counted r.2),
      more_given i.bytes r.0 _ _ _ i.given r.3,
      omega (arith, (within c.args.limit c.lines.left i.bytes r.0 i.counted r.2).within),
    )

pub returns-in-Over-clause-outcome : goal.returns-in-Over-clause-outcome
returns-in-Over-clause-outcome g c =
    let i = c.lines.invariant in
    let r = c.in-Over.ensures.line in (
      i.bytes ++ r.0,
      i.out,
      Consumes-both _ _ _ i.bytes r.0 i.consumed r.1,
      (λ _. i.written),
      (r.0, served g.B.Desk.rules c.args.most c.args.desk.now c.lines.desk i.bytes r.0 i.out c.lines.joined i.session, over c.args.limit c.lines.left i.bytes r.0 i.counted r.2),
      more_given i.bytes r.0 _ _ _ i.given r.3,
      omega (arith, (over c.args.limit c.lines.left i.bytes r.0 i.counted r.2).over),
    )

pub lines-preserved-in-Ok-turn : goal.lines-preserved-in-Ok-turn
lines-preserved-in-Ok-turn g c =
    let i = c.lines.invariant in
    let r = c.in-Line.ensures.line in
    let a = c.in-Ok-turn.ensures.turned in
    let t = turns_short g.B.Desk.rules c.args.most c.lines.left c.read_line.new.left c.lines.desk c.turn.new.desk c.lines.joined r.0 c.deref.result.now a.said c.read_line.new.line.items r.2 c.deref.ensures.value a.says in
    let m = session_more g.B.Desk.rules c.args.most c.args.desk.now c.lines.desk c.turn.new.desk i.bytes r.0 i.out c.lines.joined c.turn.new.joined a.said _ _ _ _ _ i.session i.written t a.joined_is a.writes in
    record {
      bytes = i.bytes ++ r.0;
      out = i.out ++ said_text (g.B.Desk.rules.shape c.lines.desk) a.said;
      consumed = Consumes-both _ _ _ i.bytes r.0 i.consumed r.1;
      written = m.0;
      session = m.1;
      seated = a.seated;
      counted = more_counted i.bytes r.0 c.lines.left c.read_line.new.left c.args.limit i.counted r.2.counted;
      room = omega (arith, i.room, c.in-Line.ensures.room);
      given = more_given i.bytes r.0 _ _ _ i.given r.3;
      flushed = λ was. c.in-Ok-turn.ensures.flushed (i.flushed was);
      failed = a.writes.1 ∙ i.failed;
    }

pub lines-preserved : goal.lines-preserved
lines-preserved g c =
    let i = c.lines.invariant in
    let r = c.in-Long.ensures.line in
    let a = c.in-Ok-turn-2.ensures.turned in
    let t = turns_long g.B.Desk.rules c.args.most c.lines.left c.read_line.new.left c.lines.desk c.turn-in-Long.new.desk c.lines.joined r.0 c.deref-in-Long.result.now a.said r.2 a.says in
    let m = session_more g.B.Desk.rules c.args.most c.args.desk.now c.lines.desk c.turn-in-Long.new.desk i.bytes r.0 i.out c.lines.joined c.turn-in-Long.new.joined a.said _ _ _ _ _ i.session i.written t a.joined_is a.writes in
    record {
      bytes = i.bytes ++ r.0;
      out = i.out ++ said_text (g.B.Desk.rules.shape c.lines.desk) a.said;
      consumed = Consumes-both _ _ _ i.bytes r.0 i.consumed r.1;
      written = m.0;
      session = m.1;
      seated = a.seated;
      counted = more_counted i.bytes r.0 c.lines.left c.read_line.new.left c.args.limit i.counted r.2.counted;
      room = omega (arith, i.room, c.in-Long.ensures.room);
      given = more_given i.bytes r.0 _ _ _ i.given r.3;
      flushed = λ was. c.in-Ok-turn-2.ensures.flushed (i.flushed was);
      failed = a.writes.1 ∙ i.failed;
    }

pub returns-in-Err-clause-outcome : goal.returns-in-Err-clause-outcome
returns-in-Err-clause-outcome g c =
    let i = c.lines.invariant in
    let r = c.in-Line.ensures.line in
    let a = c.in-Err.ensures.turned in
    let t = turns_short g.B.Desk.rules c.args.most c.lines.left c.read_line.new.left c.lines.desk c.turn.new.desk c.lines.joined r.0 c.deref.result.now a.said c.read_line.new.line.items r.2 c.deref.ensures.value a.says in
    let m = session_stops g.B.Desk.rules c.args.most c.args.desk.now c.lines.desk c.turn.new.desk i.bytes r.0 i.out c.lines.joined c.turn.new.joined a.said _ _ _ _ (write_failed c.turn.new.writer) c.args.limit c.in-Err.stop i.session i.written t a.joined_is a.writes in
    rw c.end_at.ensures (i.bytes ++ r.0, i.out, Consumes-both _ _ _ i.bytes r.0 i.consumed r.1, m.0, m.1, more_given i.bytes r.0 _ _ _ i.given r.3, omega (arith, more_counted i.bytes r.0 c.lines.left c.read_line.new.left c.args.limit i.counted r.2.counted))

pub returns-in-Err-turn-clause-outcome : goal.returns-in-Err-turn-clause-outcome
returns-in-Err-turn-clause-outcome g c =
    let i = c.lines.invariant in
    let r = c.in-Long.ensures.line in
    let a = c.in-Err-turn.ensures.turned in
    let t = turns_long g.B.Desk.rules c.args.most c.lines.left c.read_line.new.left c.lines.desk c.turn-in-Long.new.desk c.lines.joined r.0 c.deref-in-Long.result.now a.said r.2 a.says in
    let m = session_stops g.B.Desk.rules c.args.most c.args.desk.now c.lines.desk c.turn-in-Long.new.desk i.bytes r.0 i.out c.lines.joined c.turn-in-Long.new.joined a.said _ _ _ _ (write_failed c.turn-in-Long.new.writer) c.args.limit c.in-Err-turn.stop i.session i.written t a.joined_is a.writes in
    rw c.end_at-in-Err-turn.ensures (i.bytes ++ r.0, i.out, Consumes-both _ _ _ i.bytes r.0 i.consumed r.1, m.0, m.1, more_given i.bytes r.0 _ _ _ i.given r.3, omega (arith, more_counted i.bytes r.0 c.lines.left c.read_line.new.left c.args.limit i.counted r.2.counted))
