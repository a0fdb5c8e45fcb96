use Rattle.std.proofs.Common.{◌++◌, ◌∷◌, ◌+◌, ◌∙◌, [], ap, sym, map, take, drop, append_assoc, arith, length-append}
use Rattle.std.proofs.lemmas.List.{length-map, length-take}
use Rattle.std.specs.String.{string_bytes}
use Rattle.ds_store_journal.proofs.Noting.{cut_at}
use Rattle.ds_store.proofs.replay.follow_rest.Goals as goal

pub returns-in-Err-clause-stops : goal.returns-in-Err-clause-stops
returns-in-Err-clause-stops c before leads counts one =
    let rest = c.args.rest.now in
    let index = c.loop-line.line-index in
    let bytes = c.as_bytes.result.now in
    let first = map string_bytes (take index rest) in
    let more = map string_bytes (drop (index + 1) rest) in
    let old = c.loop-line.replay in
    let cut = cut_at string_bytes rest index c.line-item.result c.loop-line-test.true c.line-item.is ∙ ap (λ b. (first ++ b ∷ []) ++ more) (sym c.as_bytes.ensures.value) in
    let led = c.loop-line.invariant.leads before leads in
    let why = c.in-Err.ensures.unfollowed (before ++ first) led (c.loop-line.invariant.counts counts) in (
      _,
      c.in-Err.fault,
      c.at_line.ensures.is,
      record {
        before = before ++ first;
        line = bytes;
        after = more;
        are = ap (λ ls. before ++ ls) (cut ∙ append_assoc first (bytes ∷ []) more) ∙ sym (append_assoc before first (bytes ∷ more));
        at = omega (arith, one, c.loop-line.invariant.at, c.loop-line-test.true, length-append before first, length-map (take index rest) string_bytes, length-take index rest);
        layout = old.layout;
        counts = old.counts.counts.items;
        sheet = old.sheet;
        seats = c.follow.new.self.sheet.seats.items;
        leads = led;
        unfollowed = why;
      },
    )
