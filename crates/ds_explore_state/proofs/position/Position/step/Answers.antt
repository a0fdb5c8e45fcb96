use Rattle.std.proofs.Common.{List, ap, refl, rules, sym, ◌∙◌}
use Rattle.ds_words.specs.declared.access.BufferEntry.{BufferEntry}
use Rattle.ds_layout.specs.declared.place.Place.{Place}
use Rattle.ds_explore_state.specs.Orders.{seat_after, written_by}
use Rattle.ds_explore_state.specs.States.{seat_of}
use Rattle.ds_explore_state.proofs.Happening.{past_buffer, seat_buffer, seat_past, seat_put}
use Rattle.ds_explore_state.proofs.position.Position.step.Goals as goal

pub returns-then-process-len : goal.returns-then-process-len
returns-then-process-len c =
    let made = c.in_ok-access.ensures in
    record {
      mid = made.0;
      reply = c.in_ok-access.reply;
      ready = made.1;
      access = c.in_ok-access.access;
      makes = made.2;
      writes = c.written_by.ensures ∙ ap (λ (b : List (BufferEntry Place)). written_by c.in_ok-access.access b) (sym (past_buffer c.args.self.now.seats.items c.args.process (search rules)));
      fits = made.3;
      reads = made.4;
      seats = seat_past c.args.self.now.seats.items c.args.process (seat_after c.args.process c.in_ok-access.access c.in_ok-access.reply c.step.new.world) (search rules);
    }

pub returns : goal.returns
returns c =
    let made = c.in_ok-access.ensures in
    record {
      mid = made.0;
      reply = c.in_ok-access.reply;
      ready = made.1;
      access = c.in_ok-access.access;
      makes = made.2;
      writes = c.written_by-written.ensures ∙ ap (λ (b : List (BufferEntry Place)). written_by c.in_ok-access.access b) (c.deref.ensures.value ∙ sym (seat_buffer c.args.self.now.seats.items c.args.process c.index.result.now (search rules) c.index.ensures));
      fits = made.3;
      reads = made.4;
      seats = seat_put c.args.self.now.seats.items _ c.args.process c.in_ok-seat.seat c.index-2.result.now (seat_after c.args.process c.in_ok-access.access c.in_ok-access.reply c.step.new.world) (search rules) c.index-2.ensures c.in_ok-seat.ensures refl;
    }
