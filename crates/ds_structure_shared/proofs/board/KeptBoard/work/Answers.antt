use Rattle.std.proofs.Common.{rules, ◌≡◌, ◌+◌, ◌∙◌, ℕ, refl, sym, subst}
use Rattle.std.specs.Prelude.{Some}
use Rattle.ds_layout.specs.declared.layout.Layout.{Layout}
use Rattle.ds_state.specs.declared.situation.Situation.{Situation}
use Rattle.pm_board.proofs.Driving.{asked_none, asked_also}
use Rattle.pm_board.specs.Fuses.{Asked}
use Rattle.pm_board.specs.Views.{Sits}
use Rattle.ds_structure.specs.Calls.{MayWork, works}
use Rattle.ds_structure.specs.declared.work.WorkPause.TheVariants.{Answers, Reads, Waits}
use Rattle.ds_structure_shared.specs.Ends.{Ends}
use Rattle.ds_structure_shared.specs.Works.{reads, takes}
use Rattle.ds_structure_shared.proofs.Working.{at_begin, case_of, may_on, on_cells, on_turn, on_less, on_end, on_stop}
use Rattle.ds_structure_shared.proofs.board.KeptBoard.work.Goals as goal

pub loop-end-init : goal.loop-end-init
loop-end-init g c = record { table = refl; taken = 0; asked = asked_none g.F.Fuse.said c.args.fuse.now; loops = at_begin c.args.self.now.layout c.args.call.now c.args.place.now.me c.requires.asked c.requires.sits }

pub work-pause-requires-clause-may : goal.work-pause-requires-clause-may
work-pause-requires-clause-may g c =
    subst (λ (l : Layout). (now : Situation) × Sits c.loop-end.place.me c.loop-end.call.process now × MayWork l now c.loop-end.call) (sym c.args.self.now.same)
    (may_on c.args.self.now.layout c.args.call.now c.args.place.now.me c.requires.asked c.requires.sits c.loop-end.place.me c.loop-end.call c.loop-end.invariant.taken c.loop-end.invariant.loops)

pub returns-in-None-clause-ended : goal.returns-in-None-clause-ended
returns-in-None-clause-ended g c =
    let i = c.loop-end.invariant in
    let e = c.in-None.ensures.ended in (
      i.taken + e.0,
      asked_also g.F.Fuse.said c.args.fuse.now c.loop-end.fuse _ i.taken 0 e.0 1 i.asked e.1,
      on_stop c.args.self.now.layout c.args.call.now c.args.place.now.me c.requires.asked c.requires.sits c.loop-end.place.me _ c.loop-end.call _ i.taken e.0 i.loops e.2,
    )

pub returns-in-Some-Answers-clause-ended : goal.returns-in-Some-Answers-clause-ended
returns-in-Some-Answers-clause-ended g c =
    let i = c.loop-end.invariant in
    let end = c.in-Some-Answers.end in
    let is : c.work-pause.result ≡ Some (Answers end) = search rules in
    let e = case_of _ (λ pause. (n : ℕ) × Asked g.F.Fuse.said c.loop-end.fuse c.work-pause.new.fuse n 0 × Ends works c.loop-end.call c.loop-end.place.me c.work-pause.new.place.me c.work-pause.new.call pause n) c.work-pause.result (Answers end) is c.work-pause.ensures.ended in (
      i.taken + e.0,
      asked_also g.F.Fuse.said c.args.fuse.now c.loop-end.fuse _ i.taken 0 e.0 0 i.asked e.1,
      on_end c.args.self.now.layout c.args.call.now c.args.place.now.me c.requires.asked c.requires.sits c.loop-end.place.me _ c.loop-end.call _ end i.taken e.0 i.loops e.2,
    )

pub read-requires : goal.read-requires
read-requires g c =
    let i = c.loop-end.invariant in
    let is : c.work-pause.result ≡ Some Reads = search rules in
    let e = case_of _ (λ pause. (n : ℕ) × Asked g.F.Fuse.said c.loop-end.fuse c.work-pause.new.fuse n 0 × Ends works c.loop-end.call c.loop-end.place.me c.work-pause.new.place.me c.work-pause.new.call pause n) c.work-pause.result Reads is c.work-pause.ensures.ended in
    on_cells c.args.self.now.layout c.args.call.now c.args.place.now.me c.requires.asked c.requires.sits c.loop-end.place.me _ c.loop-end.call _ Reads i.taken e.0 i.loops e.2

pub loop-end-smaller-in-Some-Reads : goal.loop-end-smaller-in-Some-Reads
loop-end-smaller-in-Some-Reads g c =
    let i = c.loop-end.invariant in
    let is : c.work-pause.result ≡ Some Reads = search rules in
    let e = case_of _ (λ pause. (n : ℕ) × Asked g.F.Fuse.said c.loop-end.fuse c.work-pause.new.fuse n 0 × Ends works c.loop-end.call c.loop-end.place.me c.work-pause.new.place.me c.work-pause.new.call pause n) c.work-pause.result Reads is c.work-pause.ensures.ended in
    on_less c.args.self.now.layout c.args.call.now c.args.place.now.me c.requires.asked c.requires.sits c.loop-end.place.me _ c.loop-end.call _ c.read.new.call Reads i.taken e.0 i.loops e.2 (reads c.read.new.call c.works_are_of_a_sheet.ensures e.2.ends c.read.ensures)

pub loop-end-preserved-in-Some-Reads : goal.loop-end-preserved-in-Some-Reads
loop-end-preserved-in-Some-Reads g c =
    let i = c.loop-end.invariant in
    let is : c.work-pause.result ≡ Some Reads = search rules in
    let e = case_of _ (λ pause. (n : ℕ) × Asked g.F.Fuse.said c.loop-end.fuse c.work-pause.new.fuse n 0 × Ends works c.loop-end.call c.loop-end.place.me c.work-pause.new.place.me c.work-pause.new.call pause n) c.work-pause.result Reads is c.work-pause.ensures.ended in
    record {
      table = c.work-pause.ensures.table ∙ i.table;
      taken = i.taken + e.0;
      asked = asked_also g.F.Fuse.said c.args.fuse.now c.loop-end.fuse _ i.taken 0 e.0 0 i.asked e.1;
      loops = on_turn c.args.self.now.layout c.args.call.now c.args.place.now.me c.requires.asked c.requires.sits c.loop-end.place.me _ c.loop-end.call _ c.read.new.call Reads i.taken e.0 i.loops e.2 (reads c.read.new.call c.works_are_of_a_sheet.ensures e.2.ends c.read.ensures);
    }

pub loop-end-smaller : goal.loop-end-smaller
loop-end-smaller g c =
    let i = c.loop-end.invariant in
    let is : c.work-pause.result ≡ Some Waits = search rules in
    let e = case_of _ (λ pause. (n : ℕ) × Asked g.F.Fuse.said c.loop-end.fuse c.work-pause.new.fuse n 0 × Ends works c.loop-end.call c.loop-end.place.me c.work-pause.new.place.me c.work-pause.new.call pause n) c.work-pause.result Waits is c.work-pause.ensures.ended in
    on_less c.args.self.now.layout c.args.call.now c.args.place.now.me c.requires.asked c.requires.sits c.loop-end.place.me _ c.loop-end.call _ c.offer_to.new.call Waits i.taken e.0 i.loops e.2 (takes c.offer_to.new.call c.works_are_of_a_sheet.ensures e.2.ends c.offer_to.ensures)

pub loop-end-preserved : goal.loop-end-preserved
loop-end-preserved g c =
    let i = c.loop-end.invariant in
    let is : c.work-pause.result ≡ Some Waits = search rules in
    let e = case_of _ (λ pause. (n : ℕ) × Asked g.F.Fuse.said c.loop-end.fuse c.work-pause.new.fuse n 0 × Ends works c.loop-end.call c.loop-end.place.me c.work-pause.new.place.me c.work-pause.new.call pause n) c.work-pause.result Waits is c.work-pause.ensures.ended in
    record {
      table = c.work-pause.ensures.table ∙ i.table;
      taken = i.taken + e.0;
      asked = asked_also g.F.Fuse.said c.args.fuse.now c.loop-end.fuse _ i.taken 0 e.0 0 i.asked e.1;
      loops = on_turn c.args.self.now.layout c.args.call.now c.args.place.now.me c.requires.asked c.requires.sits c.loop-end.place.me _ c.loop-end.call _ c.offer_to.new.call Waits i.taken e.0 i.loops e.2 (takes c.offer_to.new.call c.works_are_of_a_sheet.ensures e.2.ends c.offer_to.ensures);
    }
