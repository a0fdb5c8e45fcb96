use Rattle.std.proofs.Common.{rules, ◌≡◌, ◌<◌, length, get_or, subst, sym, ◌∙◌}
use Rattle.std.proofs.lemmas.List.{get_or_default, get_or-set_same}
use Rattle.std.specs.Arc.{arc_value}
use Rattle.ds_state.specs.declared.answer.EditEnd.TheVariants.{Done}
use Rattle.ds_shared.specs.declared.ended.Ended.TheVariants.{Answered}
use Rattle.ds_shared.specs.declared.sheet.SharedSheet.{SharedSheet}
use Rattle.ds_shared_seats.specs.Calls.{Edits}
use Rattle.ds_shared_seats.specs.Sheets.{IsSeatOf}
use Rattle.ds_store.specs.Stores.{STEPS_MOST}
use Rattle.ds_formula.specs.Cells.{IsInside}
use Rattle.ds_shared_seats.specs.declared.seat.Seat.{Seat}
use Rattle.ds_store.proofs.Growing.{if_err, on_ok}
use Rattle.ds_store.proofs.Taking.{made_more}
use Rattle.ds_store.proofs.seated.SeatedSheet.edit.Goals as goal

pub returns-clause-made : goal.returns-clause-made
returns-clause-made c =
    let s = arc_value c.args.self.now.sheet.sheet in
    let seats = c.args.self.now.seats.items in
    let p = c.args.process in
    let before = c.index_mut.result.now in
    let after = c.edited.new.seat in
    let low : p < length seats = search rules in
    let was : get_or seats p after ≡ before = sym (c.index_mut.ensures.value ∙ get_or_default seats p _ after low) in
    let of : IsSeatOf s before = subst (IsSeatOf s) was (c.args.self.now.seated.of p after low) in
    on_ok c.edited.result c.edited.ensures.edits (λ does layout edits made.
    made_more layout edits s seats (record { process = p; number = c.args.number; cell = c.args.cell; text = c.args.text.now }) before after low was
    (subst (λ (t : SharedSheet). Edits t c.args.cell c.args.text.now STEPS_MOST before.pass after.pass (Answered (Done c.args.number))) of does) made)

pub returns-clause-not_done : goal.returns-clause-not_done
returns-clause-not_done c low inside =
    let s = arc_value c.args.self.now.sheet.sheet in
    let seats = c.args.self.now.seats.items in
    let p = c.args.process in
    let cell = c.args.cell in
    let text = c.args.text.now in
    let before = c.index_mut.result.now in
    let after = c.edited.new.seat in
    let was : (d : Seat) → get_or seats p d ≡ before = λ d. sym (c.index_mut.ensures.value ∙ get_or_default seats p _ d low) in
    let of : IsSeatOf s before = subst (IsSeatOf s) (was after) (c.args.self.now.seated.of p after low) in
    if_err c.edited.result (c.edited.ensures.not_done (subst (λ (t : SharedSheet). IsInside t.board.layout.shape cell) (sym of) inside)) (λ fault misses. record {
      how = misses.0;
      edits = λ d.
          let here = subst (λ (t : SharedSheet). Edits t cell text STEPS_MOST before.pass after.pass misses.0) of misses.1 in
          let from = subst (λ (x : Seat). Edits s cell text STEPS_MOST x.pass after.pass misses.0) (sym (was d)) here in
          subst (λ (x : Seat). Edits s cell text STEPS_MOST (get_or seats p d).pass x.pass misses.0) (sym (get_or-set_same seats p after d low)) from;
      why = misses.2;
    })
