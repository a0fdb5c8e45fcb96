-- What a show knows stays while others step.
use Rattle.std.proofs.Common.{ℕ, ◌≡◌, ◌<◌, List, ◌++◌, refl, ap, sym, ◌∙◌, subst, arith, append_assoc, length, inl, inr}
use Rattle.ds_layout.specs.declared.place.Place.TheVariants.{Version, Mark, Announce}
use Rattle.ds_state.specs.Works.{PlainShowCall}
use Rattle.ds_state.specs.World.{PlainEdit, PlainWorld}
use Rattle.ds_layout.specs.Mark.{IsClean}
use Rattle.ds_state.specs.KnownWork.{IsAtRest}
use Rattle.ds_state.specs.KnownShow.{noted, Moment, HasMoment, HasNoted, Seen, first, middle, off, seen_at, SeenFits, ShowFitsAt, ShowFits}
use Rattle.ds_state.specs.Rely.{Grows, Rely}
use Rattle.ds_state.proofs.Lasting.{at_most, below_stable, last_stable}

module _ (q : ℕ) (old new : PlainWorld) (g : Grows q Version old new) where
  module _ (announcements marks values kinds : List ℕ) where
    pub noted_stable : HasNoted old announcements marks values kinds → HasNoted new announcements marks values kinds
    noted_stable h = record {
      announcements = λ q l. at_most (h.announcements q l) (g.announces_cached q);
      marks = λ c l. at_most (h.marks c l) (g.marks_cached c);
      clean = h.clean;
      calm = h.calm;
      values = λ c l at. let f = h.fewer.1 in (g.values c (still c (omega arith) at)).0 ∙ h.values c l (was c (omega arith) at);
      kinds = λ c l at. let f = h.fewer.1 in let f' = h.fewer.0 in (g.values c (still c (omega arith) at)).1 ∙ h.kinds c l (was c (omega arith) at);
      fewer = h.fewer;
    }
      where
        was : (c : ℕ) → c < length marks → new.memory.cached (Mark c) ≡ noted marks c → old.memory.cached (Mark c) ≡ noted marks c
        was c l at = let a = h.marks c l in let b = g.marks_cached c in omega arith

        still : (c : ℕ) → c < length marks → new.memory.cached (Mark c) ≡ noted marks c → IsClean (old.memory.cached (Mark c))
        still c l at = subst (λ (x : ℕ). IsClean x) (sym (was c l at)) (h.clean c l)

    pub moment_stable : (m : Moment) → HasMoment old announcements marks values kinds m → HasMoment new announcements marks values kinds m
    moment_stable m h = record {
      marks_from = h.marks_from;
      marks_to = λ c. at_most (h.marks_to c) (g.marks_cached c);
      announced_from = h.announced_from;
      announced_to = λ q. at_most (h.announced_to q) (g.announces_cached q);
      values = h.values;
      kinds = h.kinds;
      more = h.more ++ g.added;
      counted = g.counted ∙ ap (λ (es : List PlainEdit). es ++ g.added) h.counted ∙ append_assoc m.edits h.more g.added;
      right = λ s. rw g.layout (h.right (record {
        clean = λ c l. s.clean c (rw g.layout l);
        settled = λ q l. s.settled q (rw g.layout l);
      }));
    }

    pub seen_stable : (m : Moment) (s : Seen) → SeenFits old announcements marks values kinds m s → SeenFits new announcements marks values kinds m s
    seen_stable m first h = tt
    seen_stable m (middle again_marks again) h = record { moment = moment_stable m h.moment; mark = h.mark; announcement = h.announcement }
    seen_stable m (off (Mark c) word) h = record { had = at_most h.had (g.marks_cached c); off = h.off }
    seen_stable m (off (Announce p) word) h = record { had = at_most h.had (g.announces_cached p); off = h.off }
    seen_stable m (off _ word) h = absurd h

  pub rest_same : (next : ℕ) → new.open_edits q ≡ old.open_edits q → IsAtRest old q next → IsAtRest new q next
  rest_same next same h = record {
    number = h.number;
    open_edits = same ∙ h.open_edits;
    below = below_stable q Version old new g next h.below;
    cached = g.owned_cached (Announce q) refl (λ x. cc) ∙ h.cached ∙ sym (last_stable q Version old new g next);
    persisted = elim (g.owned_persisted (Announce q) refl (λ x. cc)) [
      | inl up ↦ up ∙ h.persisted ∙ sym (last_stable q Version old new g next)
      | inr caught ↦ caught ∙ h.cached ∙ sym (last_stable q Version old new g next)
    ];
  }

-- all that a show knows, with its moment
pub show_goes : (old new : PlainWorld) (q : ℕ) (e : PlainShowCall) (m : Moment) → Grows q Version old new → new.open_edits q ≡ old.open_edits q → new.memory.buffer q ≡ old.memory.buffer q
    → ShowFitsAt old q e m → ShowFitsAt new q e m
show_goes old new q e m g' pending buffer h =
    let g : Grows e.process Version old new = subst (λ (x : ℕ). Grows x Version old new) (sym h.mine) g' in
    record {
      mine = h.mine;
      is = h.is;
      cells = rw g.layout h.cells;
      processes = rw g.layout h.processes;
      rest = rest_same e.process old new g e.next (ap new.open_edits h.mine ∙ pending ∙ ap old.open_edits (sym h.mine)) h.rest;
      holds_none = λ x by. h.holds_none x ((g.holds x (λ y. cc)).came by);
      buffer = ap new.memory.buffer h.mine ∙ buffer ∙ ap old.memory.buffer (sym h.mine) ∙ h.buffer;
      noted = noted_stable e.process old new g e.announcements e.marks e.values e.kinds h.noted;
      seen = seen_stable e.process old new g e.announcements e.marks e.values e.kinds m (seen_at e.cells e.processes e.stage) h.seen;
    }

-- what a show knows stays while another process steps
pub show_stable : (old new : PlainWorld) (q : ℕ) (e : PlainShowCall) → Rely q old new → ShowFits old q e → ShowFits new q e
show_stable old new q e r (m, h) = (m, show_goes old new q e m (r.grows Version) r.open_edits r.buffer h)
