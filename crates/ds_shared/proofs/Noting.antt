-- A pass that was shown what another one had seen has looked.
use Rattle.std.proofs.Common.{ℕ, ◌≡◌, List, [], ◌∷◌, ◌++◌, refl, sym, ap, subst, ◌∙◌, inl}
use Rattle.std.specs.Prelude.{Some}
use Rattle.atomic_table.specs.Table.{Me}
use Rattle.atomic_table.specs.declared.shared.Seat.{Seat}
use Rattle.ds_state.specs.declared.situation.Situation.TheVariants.{Stopped}
use Rattle.pm_base.specs.Runs.{deeds_by}
use Rattle.pm_base.specs.Structures.{In}
use Rattle.pm_board.specs.Looks.{Extends, Looks, looking, looked}
use Rattle.pm_board.specs.Views.{lone, first_in, united, deeds_at, seen_at, seen_so_far}
use Rattle.ds_structure_shared.specs.Boards.{SheetEntry, SheetSeated, SheetView, sole}
use Rattle.ds_shared.specs.Answers.{HasLooked}
use Rattle.ds_shared.specs.Known.{IsKnown, IsNote, noted_by, outcomes, seen_by, steps_of}
use Rattle.ds_shared.specs.declared.pass.Pass.{Pass}

-- the view of a pass that is shown a note
both_view : (s n : Seat ℕ SheetView) (p m : ℕ) (b : _) → IsKnown s p m b → IsNote n → united s.me.0 n.me.0 ≡ record { entries = sole s ∷ []; past = first_in Stopped n.me.0.past ∷ [] }
both_view s n p m b known note = λ i. united ((known.alone i).0) ((note.one i).0)

module _ (s n t : Seat ℕ SheetView) (p m : ℕ) (b : _) (known : IsKnown s p m b) (note : IsNote n) (l : Looks (united s.me.0 n.me.0) [] t.me.0) (empty : t.me.1 ≡ []) where
  after : t.me ≡ (lone (looking l.seen (sole s)), [])
  after = λ i. ((l.at ∙ ap (λ (v : SheetView). record { entries = looked l.seen v.entries; past = [] }) (both_view s n p m b known note)) i, empty i)

  one : sole t ≡ looking l.seen (sole s)
  one = ap (λ (z : Me ℕ SheetView). first_in Stopped z.0.entries) after

  done : deeds_at t.me ≡ record { done = (sole s).deeds.done; steps = (sole s).deeds.steps; seen = Some l.seen }
  done = ap deeds_at after

  before : deeds_at s.me ≡ (sole s).deeds
  before = ap deeds_at known.alone

  pub knows_after : IsKnown t p m b
  knows_after = record {
    alone = after ∙ ap (λ (e : SheetSeated). (lone e, [])) (sym one);
    process_is = ap (λ (e : SheetSeated). e.process) one ∙ known.process_is;
    idle = λ off. ap (λ (e : SheetSeated). e.now) one ∙ known.idle off;
    looked = ap (λ (e : SheetSeated). e.deeds.seen) one ∙ ap Some (sym (ap (λ d. seen_so_far d.seen) done));
  }

  pub has_learned : (old new : Pass) → old.place ≡ s → new.place ≡ t → old.process ≡ p → new.process ≡ old.process → new.number ≡ old.number → new.stopped ≡ old.stopped → HasLooked old new
  has_learned old new from to own process number stopped =
      let mine = l.own (sole s) (subst (λ (v : SheetView). In v.entries (sole s)) (sym (both_view s n p m b known note)) (inl refl)) (seen_at s.me) known.looked in record {
        late = mine.0;
        seen = ap seen_by to ∙ (ap (λ d. seen_so_far d.seen) done ∙ (mine.1 ∙ ap (λ (z : List SheetEntry). mine.0 ++ z) (ap seen_by (sym from))));
        own = ap (λ (q : ℕ). deeds_by q mine.0) (own ∙ sym known.process_is) ∙ mine.2;
        process = process;
        number = number;
        stopped = stopped;
        call_events = ap outcomes to ∙ (ap (λ d. d.done) done ∙ (sym (ap (λ d. d.done) before) ∙ ap outcomes (sym from)));
        steps = ap steps_of to ∙ (ap (λ d. d.steps) done ∙ (sym (ap (λ d. d.steps) before) ∙ ap steps_of (sym from)));
      }

  pub note_begins : Extends (seen_by t) (noted_by n)
  note_begins =
      let x = l.others (first_in Stopped n.me.0.past) (subst (λ (v : SheetView). In v.past (first_in Stopped n.me.0.past)) (sym (both_view s n p m b known note)) (inl refl)) (noted_by n) note.looked in
      (x.0, ap (λ d. seen_so_far d.seen) done ∙ x.1)
