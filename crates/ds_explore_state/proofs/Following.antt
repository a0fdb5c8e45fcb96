-- What happens keeps a position one that follows the first.
use Rattle.std.proofs.Common.{ℕ, zero, suc, ◌≡◌, ◌<◌, ◌≤◌, ◌∙◌, refl, sym, ap, subst, inl, inr, List, [], ◌∷◌, ◌++◌, length, map, get_or, Bool, true, false, arith}
use Rattle.std.specs.Prelude.{◌≢◌, Option, Some, None, slice_get, slice_index_or, slice_set, bit_or}
use Rattle.std.specs.List.{AllByRecursion}
use Rattle.std.proofs.lemmas.List.{length-set, get_or-set_same, get_or-set_other}
use mathlib.Core.Logic.{dite}
use native.Mathlib.Decide.{ℕ_discrete}
use Rattle.ds_words.specs.declared.access.Access.{Access}
use Rattle.ds_words.specs.declared.access.Access.TheVariants.{Nothing, Load, Store, Or, SwapIf, Flush, Back}
use Rattle.ds_words.specs.declared.access.BufferEntry.{BufferEntry}
use Rattle.ds_words.specs.Memory.{Memory, SameMemory}
use Rattle.ds_layout.specs.declared.layout.Layout.{Layout}
use Rattle.ds_layout.specs.declared.place.Place.{Place}
use Rattle.ds_layout.specs.Places.{IsPlace, class_of}
use Rattle.ds_layout.specs.SheetMemory.{memory, PerformsAt}
use Rattle.ds_state.specs.Value.{WorldValue, world_of, IsGood, first_rest}
use Rattle.ds_state.specs.declared.situation.Situation.{Situation}
use Rattle.ds_state.specs.declared.situation.Situation.TheVariants.{Idle}
use Rattle.ds_core.specs.Own.{IsInCall}
use Rattle.ds_core.specs.declared.reply.Reply.{Reply}
use Rattle.ds_core.specs.declared.reply.Reply.TheVariants as replies
use Rattle.ds_explore_state.specs.declared.position.Move.{Move}
use Rattle.ds_explore_state.specs.declared.position.Move.TheVariants.{Step, Stop, Evict}
use Rattle.ds_explore_state.specs.declared.position.Position.{Position}
use Rattle.ds_explore_state.specs.States.{PlainSeat, word_in}
use Rattle.ds_explore_state.specs.Orders.{Evicts, HappensAt, HappensTo, IsReady, Steps, Stops, access_in, buffer_after, no_seat, oldest_in, seat_after, seat_stopped, seats_of, with_seat, written_by}
use Rattle.ds_explore_state.specs.Following.{CanHappen, Follows, IsFollowed, IsOff, IsWithin}
use Rattle.ds_explore_state.proofs.Memories.{by_cases}
use Rattle.ds_explore_state.proofs.Steps.{Goes}
use Rattle.ds_explore_state.proofs.Alike.{busy_get, busy_is, makes_eviction, makes_step, makes_stop, ready_calls, waits_no_more}

-- ---- an access

module _ (access : Access Place) (p : ℕ) (m n : Memory Place) (buffer : List (BufferEntry Place)) (holds : m.buffer p ≡ buffer) where
  -- what is written is the word at the one place
  pub writes_there : (a : ℕ) → PerformsAt access p m n a → (r : Place) → (written_by access buffer ≡ Some r → ⊥) → (n.cached r ≡ m.cached r) × (n.persisted r ≡ m.persisted r)
  writes_there a h r off = by_access access h off
    where
      by_access : (access : Access Place) → PerformsAt access p m n a → (written_by access buffer ≡ Some r → ⊥) → (n.cached r ≡ m.cached r) × (n.persisted r ≡ m.persisted r)
      by_access Nothing (e, h) off = (h.cached r, h.persisted r)
      by_access (Load place) (e, h) off = (h.cached r, h.persisted r)
      by_access (Store place value) (e, h) off = (h.elsewhere r (λ is. off (ap Some (sym is))), h.persisted r)
      by_access (Or place bits) (e, h) off = (h.elsewhere r (λ is. off (ap Some (sym is))), h.persisted r)
      by_access (SwapIf place expected value) (e, inl (hit, h)) off = (h.elsewhere r (λ is. off (ap Some (sym is))), h.persisted r)
      by_access (SwapIf place expected value) (e, inr (miss, h)) off = (h.cached r, h.persisted r)
      by_access (Flush place) (e, h) off = (h.cached r, h.persisted r)
      by_access Back (e, (entry, rest, h)) off =
          (h.cached r, h.elsewhere r (λ is. off (ap oldest_in (sym holds ∙ h.oldest) ∙ ap Some (sym is))))

  -- what the buffer of the process holds then
  pub holds_then : (w : WorldValue) (a : ℕ) → ((r : Place) → (memory w.sheet).cached r ≡ n.cached r) → PerformsAt access p m n a → n.buffer p ≡ buffer_after access w buffer
  holds_then w a same h = by_access access h
    where
      by_access : (access : Access Place) → PerformsAt access p m n a → n.buffer p ≡ buffer_after access w buffer
      by_access Nothing (e, h) = h.buffer p ∙ holds
      by_access (Load place) (e, h) = h.buffer p ∙ holds
      by_access (Store place value) (e, h) = h.buffer p ∙ holds
      by_access (Or place bits) (e, h) = h.buffer p ∙ holds
      by_access (SwapIf place expected value) (e, inl (hit, h)) = h.buffer p ∙ holds
      by_access (SwapIf place expected value) (e, inr (miss, h)) = h.buffer p ∙ holds
      by_access (Flush place) (e, h) =
          h.mine ∙ ap (λ (b : List (BufferEntry Place)). b ++ record { place = place; class = class_of place; value = m.cached place } ∷ []) holds
          ∙ ap (λ (v : ℕ). buffer ++ record { place = place; class = class_of place; value = v } ∷ []) (sym (h.cached place) ∙ sym (same place))
      by_access Back (e, (entry, rest, h)) = h.mine ∙ ap (λ (b : List (BufferEntry Place)). buffer_after Back w b) (sym h.oldest ∙ holds)

  -- other buffers stay
  pub others_hold : (a q : ℕ) → PerformsAt access p m n a → q ≢ p → n.buffer q ≡ m.buffer q
  others_hold a q h ne = by_access access h
    where
      by_access : (access : Access Place) → PerformsAt access p m n a → n.buffer q ≡ m.buffer q
      by_access Nothing (e, h) = h.buffer q
      by_access (Load place) (e, h) = h.buffer q
      by_access (Store place value) (e, h) = h.buffer q
      by_access (Or place bits) (e, h) = h.buffer q
      by_access (SwapIf place expected value) (e, inl (hit, h)) = h.buffer q
      by_access (SwapIf place expected value) (e, inr (miss, h)) = h.buffer q
      by_access (Flush place) (e, h) = h.others q ne
      by_access Back (e, (entry, rest, h)) = h.others q ne

-- ---- seats

seat_holds : (p : ℕ) (access : Access Place) (reply : Reply) (w : WorldValue) (seat : PlainSeat) → (seat_after p access reply w seat).buffer ≡ buffer_after access w seat.buffer
seat_holds p access (replies.Answered answer) w seat = refl
seat_holds p access (replies.Begun number) w seat = refl
seat_holds p access replies.Entered w seat = refl
seat_holds p access (replies.Refused why) w seat = refl
seat_holds p access replies.Stepped w seat = refl
seat_holds p access replies.WrongTask w seat = refl
seat_holds p access replies.Evicted w seat = refl
seat_holds p access replies.Stopped w seat = refl
seat_holds p access replies.Crashed w seat = refl
seat_holds p access replies.NotEnabled w seat = refl

-- the buffers of seats of which one is changed
seat_there : (change : PlainSeat → PlainSeat) (p : ℕ) (seats after : List PlainSeat) → p < length seats → after ≡ with_seat change p seats → slice_index_or after p no_seat ≡ change (slice_index_or seats p no_seat)
seat_there change p seats after low is =
    ap (λ (l : List PlainSeat). slice_index_or l p no_seat) is ∙ get_or-set_same seats p (change (slice_index_or seats p no_seat)) no_seat low

seat_other : (change : PlainSeat → PlainSeat) (p q : ℕ) (seats after : List PlainSeat) → q ≢ p → after ≡ with_seat change p seats → slice_index_or after q no_seat ≡ slice_index_or seats q no_seat
seat_other change p q seats after ne is =
    ap (λ (l : List PlainSeat). slice_index_or l q no_seat) is ∙ get_or-set_other seats p q (change (slice_index_or seats p no_seat)) no_seat ne

seat_count : (change : PlainSeat → PlainSeat) (p : ℕ) (seats after : List PlainSeat) → after ≡ with_seat change p seats → length after ≡ length seats
seat_count change p seats after is = ap length is ∙ length-set seats p (change (slice_index_or seats p no_seat))

-- ---- before a step

ready_memory : (v m : WorldValue) (p : ℕ) → IsReady v p m → SameMemory (memory v.sheet) (memory m.sheet)
ready_memory v m p (inl (e, none)) = subst (λ (x : WorldValue). SameMemory (memory v.sheet) (memory x.sheet)) (sym e) (record { cached = λ r. refl; persisted = λ r. refl; buffer = λ q. refl })
ready_memory v m p (inr (entry, h)) = h.offers.turn.memory

ready_layout : (v m : WorldValue) (p : ℕ) → IsReady v p m → m.sheet.layout ≡ v.sheet.layout
ready_layout v m p (inl (e, none)) = ap (λ (x : WorldValue). x.sheet.layout) e
ready_layout v m p (inr (entry, h)) = h.offers.turn.layout

-- what is off the groups is not what was written
not_written : (groups : List (List Place)) (written : Option Place) (r : Place) → IsWithin groups written → IsOff groups r → written ≡ Some r → ⊥
not_written groups written r within off is = within r is off

module _ (groups : List (List Place)) (v old new : WorldValue) (seats after : List PlainSeat) (f : Follows groups v old seats) where
  pub follows_step : (p : ℕ) (written : Option Place) → IsInCall ((world_of old).situation p) → IsWithin groups written → Steps p written old seats new after → Follows groups v new after
  follows_step p written calls within s =
      let in_mid : IsInCall ((world_of s.mid).situation p) = ready_calls old s.mid p s.ready calls in
      let g : Goes s.mid p s.reply new = makes_step s.mid new p s.reply s.fits.good in_mid (waits_no_more old s.mid p s.ready) s.fits.takes in
      let stays : SameMemory (memory old.sheet) (memory s.mid.sheet) = ready_memory old s.mid p s.ready in
      let layout : new.sheet.layout ≡ old.sheet.layout = g.layout ∙ ready_layout old s.mid p s.ready in
      let access : s.access ≡ access_in s.mid.sheet.layout.shape (Some g.call) =
      s.makes ∙ ap (λ (o : Option Situation). access_in s.mid.sheet.layout.shape o) (busy_get s.mid p in_mid ∙ ap Some g.at) in
      let performs : PerformsAt s.access p (memory s.mid.sheet) (memory new.sheet) g.word = subst (λ (a : Access Place). PerformsAt a p (memory s.mid.sheet) (memory new.sheet) g.word) (sym access) g.performs in
      let holds : (memory s.mid.sheet).buffer p ≡ (slice_index_or seats p no_seat).buffer = stays.buffer p ∙ f.buffers p in
      let count = f.count in
      let many = ap (λ (l : Layout). l.processes) (ready_layout old s.mid p s.ready) in
      let there = g.there in
      let low : p < length seats = omega (arith, count, many, there) in
      record {
        layout = layout ∙ f.layout;
        good = s.fits.good;
        count = seat_count (seat_after p s.access s.reply new) p seats after s.seats ∙ f.count ∙ sym (ap (λ (l : Layout). l.processes) layout);
        cached = λ r off. (writes_there s.access p (memory s.mid.sheet) (memory new.sheet) (slice_index_or seats p no_seat).buffer holds g.word performs r (λ e. not_written groups written r within off (s.writes ∙ e))).0 ∙ stays.cached r ∙ f.cached r off;
        persisted = λ r off. (writes_there s.access p (memory s.mid.sheet) (memory new.sheet) (slice_index_or seats p no_seat).buffer holds g.word performs r (λ e. not_written groups written r within off (s.writes ∙ e))).1 ∙ stays.persisted r ∙ f.persisted r off;
        buffers = λ q. by_cases p q ((memory new.sheet).buffer q) (slice_index_or after q no_seat).buffer
            (λ e. ap (memory new.sheet).buffer e ∙ holds_then s.access p (memory s.mid.sheet) (memory new.sheet) (slice_index_or seats p no_seat).buffer holds new g.word (λ r. refl) performs
            ∙ sym (seat_holds p s.access s.reply new (slice_index_or seats p no_seat)) ∙ sym (ap (λ (s : PlainSeat). s.buffer) (seat_there (seat_after p s.access s.reply new) p seats after low s.seats))
            ∙ sym (ap (λ (k : ℕ). (slice_index_or after k no_seat).buffer) e))
            (λ ne. others_hold s.access p (memory s.mid.sheet) (memory new.sheet) (slice_index_or seats p no_seat).buffer holds g.word q performs ne ∙ stays.buffer q ∙ f.buffers q
            ∙ sym (ap (λ (s : PlainSeat). s.buffer) (seat_other (seat_after p s.access s.reply new) p q seats after ne s.seats)));
      }

  pub follows_stop : (p : ℕ) (written : Option Place) → IsInCall ((world_of old).situation p) → Stops p written old seats new after → Follows groups v new after
  follows_stop p written calls s =
      let both = makes_stop old new p s.reply s.fits.good calls s.fits.takes in
      let h = both.1.stops in
      let count = f.count in
      let there = both.1.there in
      let low : p < length seats = omega (arith, count, there) in
      record {
        layout = h.layout ∙ f.layout;
        good = s.fits.good;
        count = seat_count (seat_stopped p s.reply new) p seats after s.seats ∙ f.count ∙ sym (ap (λ (l : Layout). l.processes) h.layout);
        cached = λ r off. h.memory.cached r ∙ f.cached r off;
        persisted = λ r off. h.memory.persisted r ∙ f.persisted r off;
        buffers = λ q. by_cases p q ((memory new.sheet).buffer q) (slice_index_or after q no_seat).buffer
            (λ e. ap (memory new.sheet).buffer e ∙ h.memory.mine ∙ sym (ap (λ (s : PlainSeat). s.buffer) (seat_there (seat_stopped p s.reply new) p seats after low s.seats)) ∙ sym (ap (λ (k : ℕ). (slice_index_or after k no_seat).buffer) e))
            (λ ne. h.memory.others q ne ∙ f.buffers q ∙ sym (ap (λ (s : PlainSeat). s.buffer) (seat_other (seat_stopped p s.reply new) p q seats after ne s.seats)));
      }

  pub follows_eviction : (place : Place) (written : Option Place) → IsPlace old.sheet.layout place → IsWithin groups written → Evicts place written old seats new after → Follows groups v new after
  follows_eviction place written there within s =
      let h = (makes_eviction old new place s.reply there s.fits.takes).evicts in
      record {
        layout = h.layout ∙ f.layout;
        good = s.fits.good;
        count = ap length s.seats ∙ f.count ∙ sym (ap (λ (l : Layout). l.processes) h.layout);
        cached = λ r off. h.memory.cached r ∙ f.cached r off;
        persisted = λ r off. h.memory.elsewhere r (λ is. not_written groups written r within off (s.writes ∙ ap Some (sym is))) ∙ f.persisted r off;
        buffers = λ q. h.memory.buffer q ∙ f.buffers q ∙ ap (λ (l : List PlainSeat). (slice_index_or l q no_seat).buffer) (sym s.seats);
      }

-- what happens keeps it
pub follows_on : (groups : List (List Place)) (first x y : Position) (move : Move) (written : Option Place) → CanHappen x move → IsWithin groups written → HappensAt x move written y → IsFollowed groups first x → IsFollowed groups first y
follows_on groups first x y move written can within h f = by_move move can h
  where
    by_move : (move : Move) → CanHappen x move → HappensAt x move written y → IsFollowed groups first y
    by_move (Step p) can h = follows_step groups first.world x.world y.world (seats_of x) (seats_of y) f p written (busy_is x.world p can.calls) within h
    by_move (Stop p) can h = follows_stop groups first.world x.world y.world (seats_of x) (seats_of y) f p written (busy_is x.world p can.calls) h
    by_move (Evict place) can h = follows_eviction groups first.world x.world y.world (seats_of x) (seats_of y) f place written can.there within h
