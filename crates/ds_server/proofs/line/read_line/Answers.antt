use Rattle.std.proofs.Common.{◌≤◌, ℕ, [], ◌∷◌, ◌++◌, List, length, ap, ◌∙◌, arith, length-append}
use Rattle.ds_script_io.proofs.Known.{Consumes-both}
use Rattle.ds_server.proofs.LineLemmas.{no_feed_more, reads_over, reads_long}
use Rattle.ds_server.proofs.line.read_line.Goals as goal

pub returns-then-left-eq0-clause-line : goal.returns-then-left-eq0-clause-line
returns-then-left-eq0-clause-line g c =
    let i = c.loop-byte.invariant in (
      i.seen ++ c.in-Byte.byte ∷ [],
      Consumes-both _ _ _ i.seen (c.in-Byte.byte ∷ []) i.consumed c.in-Byte.ensures.0,
      reads_over c.args.left.now c.loop-byte.left i.seen c.in-Byte.byte i.no_feed i.counted c.if-left-eq0.true,
      omega (arith, length-append i.seen (c.in-Byte.byte ∷ []), i.given, c.in-Byte.ensures.1),
    )

pub returns-then-len-most-clause-line : goal.returns-then-len-most-clause-line
returns-then-len-most-clause-line g c =
    let i = c.loop-byte.invariant in (
      i.seen ++ c.in-Byte.byte ∷ [],
      Consumes-both _ _ _ i.seen (c.in-Byte.byte ∷ []) i.consumed c.in-Byte.ensures.0,
      reads_long c.args.most c.args.left.now c.loop-byte.left c.len.result i.seen c.in-Byte.byte i.no_feed i.counted c.if-left-eq0.false c.if-byte-eq10.true (c.len.ensures ∙ i.kept) c.if-len-most.true,
      omega (arith, length-append i.seen (c.in-Byte.byte ∷ []), i.given, c.in-Byte.ensures.1),
    )

pub loop-byte-preserved-then-len-most-2 : goal.loop-byte-preserved-then-len-most-2
loop-byte-preserved-then-len-most-2 g c =
    let i = c.loop-byte.invariant in
    let more = length-append i.seen (c.in-Byte.byte ∷ []) in
    let short : length i.seen ≤ c.args.most = omega (arith, c.if-len-most-2.true, c.len-in-Byte.ensures, i.kept) in
    record {
      seen = i.seen ++ c.in-Byte.byte ∷ [];
      consumed = Consumes-both _ _ _ i.seen (c.in-Byte.byte ∷ []) i.consumed c.in-Byte.ensures.0;
      no_feed = no_feed_more i.seen c.in-Byte.byte i.no_feed c.if-byte-eq10.false;
      kept = omega (arith, more, i.kept, c.if-len-most-2.true, c.len-in-Byte.ensures, c.push_reserved.ensures.len);
      whole = λ _. c.push_reserved.ensures.items ∙ ap (λ (l : List ℕ). l ++ c.in-Byte.byte ∷ []) (i.whole short);
      counted = omega (arith, more, i.counted, c.if-left-eq0.false);
      room = c.push_reserved.ensures.capacity ∙ i.room;
      given = omega (arith, more, i.given, c.in-Byte.ensures.1);
    }

pub loop-byte-preserved : goal.loop-byte-preserved
loop-byte-preserved g c =
    let i = c.loop-byte.invariant in
    let more = length-append i.seen (c.in-Byte.byte ∷ []) in
    record {
      seen = i.seen ++ c.in-Byte.byte ∷ [];
      consumed = Consumes-both _ _ _ i.seen (c.in-Byte.byte ∷ []) i.consumed c.in-Byte.ensures.0;
      no_feed = no_feed_more i.seen c.in-Byte.byte i.no_feed c.if-byte-eq10.false;
      kept = omega (arith, more, i.kept, c.if-len-most-2.false, c.len-in-Byte.ensures);
      whole = λ few. absurd (omega (arith, more, few, i.kept, c.if-len-most-2.false, c.len-in-Byte.ensures));
      counted = omega (arith, more, i.counted, c.if-left-eq0.false);
      room = i.room;
      given = omega (arith, more, i.given, c.in-Byte.ensures.1);
    }
