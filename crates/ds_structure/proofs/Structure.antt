-- The sheet is a structure.
use Rattle.std.proofs.Common.{ℕ, ◌≡◌, ◌≢◌, ◌<◌, List, [], map, refl, sym, ap, subst, ◌∙◌, inl, inr, arith, ne_eqb, eq-eqb, Bool, true, false}
use Rattle.std.proofs.lemmas.List.{append-nil}
use Rattle.std.specs.Prelude.{if◌then◌else◌}
use mathlib.Core.Logic.{dite}
use native.Mathlib.Decide.{ℕ_discrete}
use Rattle.ds_words.specs.Memory.{Memory, EvictsAt, StopsAt, Crashes}
use Rattle.ds_layout.specs.declared.place.Edition.TheVariants.{Second}
use Rattle.ds_layout.specs.declared.place.Place.{Place}
use Rattle.ds_layout.specs.declared.place.Place.TheVariants.{Version}
use Rattle.ds_layout.specs.Places.{words_of, number_of, place_of, IsPlace}
use Rattle.ds_layout.specs.SheetMemory.{is_place, side_at, entry_at}
use Rattle.ds_layout.proofs.PlaceCases.{place_cases}
use Rattle.ds_layout.proofs.Places.{IsPlace-place_of, number_of-place_of, number_of_alone, number_of_below}
use Rattle.ds_layout.proofs.Sheet.{IsPlace-is_place, side_at_place, evicts_at, crashes_at, stops_at}
use Rattle.ds_state.specs.Crashes.{CrashesTo, StopsIn}
use Rattle.ds_state.specs.Events.{Evicts}
use Rattle.ds_state.specs.Fresh.{AreNew, IsNew}
use Rattle.ds_state.specs.LayoutsFit.{IsMoving}
use Rattle.ds_state.specs.World.{PlainWorld}
use Rattle.ds_state.specs.declared.situation.Situation.{Situation}
use Rattle.ds_state.specs.declared.situation.Situation.TheVariants.{Idle, Stopped, Editing, Working, Recovering, Showing, Migrating}
use Rattle.ds_state.proofs.Accesses.{evict_sound}
use Rattle.ds_state.proofs.Buffers.{buffered}
use Rattle.ds_state.proofs.CrashSound.{crash_sound}
use Rattle.ds_state.proofs.Leaves.{stop_leaves}
use Rattle.ds_state.proofs.Middles.{middles_evicted, middles_new, middles_crashed}
use Rattle.ds_state.proofs.New.{new_sound}
use Rattle.ds_state.proofs.Spent.{spent_evicted}
use Rattle.pm_base.specs.Structures.{IsStructure, IsFirst, Goes, GoesTelling, first_world, after_begin, after_step, after_evict, after_stop, after_crash}
use Rattle.ds_words.specs.declared.access.Access.{Access}
use Rattle.ds_words.specs.Memory.{Performs}
use Rattle.pm_base.proofs.ByKind.{kind_begins, kind_steps}
use Rattle.pm_base.proofs.Puts.{put_here, put_else, put_same}
use Rattle.ds_structure.specs.Calls.{edits, works, shows, recoveries}
use Rattle.ds_structure.specs.Sheet.{SheetWorld, plain, IsWell, CallBegins, begins_edit, begins_work, begins_show, begins_recovery, CallSteps, steps_edit, steps_work, steps_show, steps_recovery, sheet}
use Rattle.ds_structure.specs.declared.response.Response.{Response}
use Rattle.ds_structure.specs.declared.sheet.SheetKey.{SheetKey}
use Rattle.ds_structure.proofs.Edits.{edits_begin, edits_step}
use Rattle.ds_structure.proofs.Losing.{true_crashed}
use Rattle.ds_structure.proofs.Passing.{KeepsEdits, true_on, goes}
use Rattle.ds_structure.proofs.Recoveries.{stopped_buffer, recoveries_begin, recoveries_step}
use Rattle.ds_structure.proofs.Shows.{shows_begin, shows_step}
use Rattle.ds_structure.proofs.Works.{works_begin, works_step}

-- a choice of 0
zero_if : (b : Bool) (x : ℕ) → (b ≡ true → x ≡ 0) → (if b then x else 0) ≡ 0
zero_if true x h = h refl
zero_if false x h = refl

module _ (key : SheetKey) where
  abbrev version : ℕ
  version = number_of key.layout Version

  -- ---- a new sheet

  first_there : (f : ℕ → ℕ) → ((r : ℕ) → r < words_of key.layout → f r ≡ sheet.first_word key r) → side_at key.layout f Version ≡ 1
  first_there f h = side_at_place key.layout f Version tt ∙ (h version (number_of_below key.layout Version tt) ∙ ap (λ (b : Bool). (let n : ℕ = if b then 1 else 0 in n)) (eq-eqb version version refl))

  first_else : (f : ℕ → ℕ) → ((r : ℕ) → r < words_of key.layout → f r ≡ sheet.first_word key r) → (r : Place) → r ≢ Version → side_at key.layout f r ≡ 0
  unfolding side_at
  first_else f h r ne = zero_if (is_place key.layout r) (f (number_of key.layout r)) (λ is.
      let there : IsPlace key.layout r = IsPlace-is_place key.layout r is in
      h (number_of key.layout r) (number_of_below key.layout r there)
      ∙ ap (λ (b : Bool). (let n : ℕ = if b then 1 else 0 in n)) (ne_eqb (number_of key.layout r) version (λ same. ne (number_of_alone key.layout r Version there tt same))))

  pub new_sheet : (memory : Memory ℕ) → IsFirst sheet key memory → IsNew (plain key (first_world sheet key memory))
  new_sheet memory first =
      let words : AreNew (plain key (first_world sheet key memory)).memory Second = record {
        seen = first_there memory.cached first.cached;
        kept = first_there memory.persisted first.persisted;
        cached = first_else memory.cached first.cached;
        persisted = first_else memory.persisted first.persisted;
        buffer = λ q. ap (map (entry_at key.layout)) (first.buffer q);
      } in
      record { edition = Second; memory = words; situation = λ q low. refl; counted = refl; open_edits = λ q. refl }

  opens : (memory : Memory ℕ) → IsFirst sheet key memory → IsWell (plain key (first_world sheet key memory))
  opens memory first =
      let w : PlainWorld = plain key (first_world sheet key memory) in
      let new : IsNew w = new_sheet memory first in
      record {
        sound = new_sound w new;
        second = record { cached = first_there memory.cached first.cached; persisted = first_there memory.persisted first.persisted; settled = λ q low moving. moving };
        middles = ((λ q. w), (λ q. w), middles_new (λ q. w) (λ q. w) w new);
      }

  -- ---- evictions

  evicts : (w : SheetWorld) (n : ℕ) (m2 : Memory ℕ) → IsWell (plain key w) → n < words_of key.layout → EvictsAt n w.memory m2 → Goes sheet key w (after_evict sheet key w n m2)
  evicts w n m2 well low h =
      let new : SheetWorld = after_evict sheet key w n m2 in
      let r : Place = place_of key.layout n in
      let t : Evicts r (plain key w) (plain key new) = record {
        layout = refl;
        memory = evicts_at key.layout w.memory m2 r (IsPlace-place_of key.layout n low) (subst (λ (k : ℕ). EvictsAt k w.memory m2) (sym (number_of-place_of key.layout n)) h);
        situation = λ q. refl;
        counted = refl;
        open_edits = λ q. refl;
      } in
      let kept : KeepsEdits (plain key w) (plain key new) = record {
        layout = refl;
        spent = λ q k spent. spent_evicted r (plain key w) (plain key new) well.sound t q k spent;
        added = [];
        counted = sym (append-nil w.hidden.counted);
        stays = λ d there. there;
        came = λ d there spent. there;
      } in
      record {
        sound = record {
          sound = (evict_sound r (plain key w) (plain key new) well.sound (buffered (plain key w) well.sound) t).0;
          second = record {
            cached = t.memory.cached Version ∙ well.second.cached;
            persisted = elim (place_cases Version r) [
              | inl same ↦ subst (λ (z : Place). (plain key new).memory.persisted z ≡ (plain key w).memory.cached z) (sym same) t.memory.there ∙ well.second.cached
              | inr other ↦ t.memory.elsewhere Version other ∙ well.second.persisted
            ];
            settled = well.second.settled;
          };
          middles = (well.middles.0, well.middles.1, middles_evicted well.middles.0 well.middles.1 (plain key w) (plain key new) well.middles.2 r well.sound t);
        };
        keeps = λ q u told. true_on (plain key w) (plain key new) kept w.hidden.before_crashes q u told;
      }

  -- ---- stops

  stops_one : (w : SheetWorld) (p : ℕ) (m2 : Memory ℕ) → IsWell (plain key w) → p < key.layout.processes → StopsAt p w.memory m2 → w.situation p ≢ Stopped → Goes sheet key w (after_stop sheet key w p m2)
  stops_one w p m2 well low h runs =
      let new : SheetWorld = after_stop sheet key w p m2 in
      let t : StopsIn p (plain key w) (plain key new) = record {
        runs = runs;
        layout = refl;
        memory = stops_at key.layout w.memory m2 p h;
        situation = put_here w.situation p Stopped p refl;
        others = λ q ne. put_else w.situation p Stopped q ne;
        counted = refl;
        open_edits = λ q. refl;
      } in
      goes key w new p well refl (record {
        leaves = stop_leaves p (plain key w) (plain key new) well.sound low t;
        version = (let same = t.memory.persisted Version in omega arith);
        rests = λ moving. subst IsMoving (put_here w.situation p Stopped p refl) moving;
      })

  -- a process that has stopped stays as it is
  still : (w : SheetWorld) (p : ℕ) (m2 : Memory ℕ) → IsWell (plain key w) → p < key.layout.processes → StopsAt p w.memory m2 → w.situation p ≡ Stopped → Goes sheet key w (after_stop sheet key w p m2)
  still w p m2 well low h at =
      let empty : w.memory.buffer p ≡ [] = stopped_buffer key w p well low at in
      let buffer : (q : ℕ) → w.memory.buffer q ≡ m2.buffer q = λ q. dite (ℕ_discrete q p)
      (λ same. ap w.memory.buffer same ∙ (empty ∙ (sym h.mine ∙ ap m2.buffer (sym same))))
      (λ other. sym (h.others q other)) in
      let is : w ≡ after_stop sheet key w p m2 = λ i. record {
        memory = record { cached = λ r. sym (h.cached r) i; persisted = λ r. sym (h.persisted r) i; buffer = λ q. buffer q i };
        situation = λ q. sym (put_same w.situation p Stopped at q) i;
        hidden = w.hidden;
      } in
      subst (λ (v : SheetWorld). Goes sheet key w v) is (record { sound = well; keeps = λ q u told. told })

  stops : (w : SheetWorld) (p : ℕ) (m2 : Memory ℕ) → IsWell (plain key w) → p < key.layout.processes → StopsAt p w.memory m2 → Goes sheet key w (after_stop sheet key w p m2)
  stops w p m2 well low h = by (w.situation p) refl
    where
      by : (s : Situation) → w.situation p ≡ s → Goes sheet key w (after_stop sheet key w p m2)
      by Stopped at = still w p m2 well low h at
      by (Idle n) at = stops_one w p m2 well low h (λ is. cc)
      by (Editing e) at = stops_one w p m2 well low h (λ is. cc)
      by (Working e) at = stops_one w p m2 well low h (λ is. cc)
      by (Recovering e) at = stops_one w p m2 well low h (λ is. cc)
      by (Showing e) at = stops_one w p m2 well low h (λ is. cc)
      by (Migrating e) at = stops_one w p m2 well low h (λ is. cc)

  -- ---- crashes

  crashes : (w : SheetWorld) (m2 : Memory ℕ) → IsWell (plain key w) → Crashes w.memory m2 → Goes sheet key w (after_crash sheet key w m2)
  crashes w m2 well h =
      let new : SheetWorld = after_crash sheet key w m2 in
      let t : CrashesTo (plain key w) (plain key new) = record {
        layout = refl;
        memory = crashes_at key.layout w.memory m2 h;
        situation = λ q low. refl;
        counted = refl;
        open_edits = λ q. refl;
      } in
      record {
        sound = record {
          sound = crash_sound (plain key w) (plain key new) well.sound t;
          second = record {
            cached = t.memory.cached Version ∙ well.second.persisted;
            persisted = t.memory.persisted Version ∙ well.second.persisted;
            settled = λ q low moving. moving;
          };
          middles = (well.middles.0, well.middles.1, middles_crashed well.middles.0 well.middles.1 (plain key w) (plain key new) t);
        };
        keeps = λ q u told. true_crashed (plain key w) (plain key new) well.sound t w.hidden.before_crashes q u told;
      }

  -- ---- calls

  begins : (w : SheetWorld) (p : ℕ) (now : Situation) → IsWell (plain key w) → p < key.layout.processes → CallBegins key p (w.situation p) now → Goes sheet key w (after_begin sheet key w p now)
  begins w p now well low (begins_edit k) = kind_begins sheet key edits (edits_begin key) w p now well low k
  begins w p now well low (begins_work k) = kind_begins sheet key works (works_begin key) w p now well low k
  begins w p now well low (begins_show k) = kind_begins sheet key shows (shows_begin key) w p now well low k
  begins w p now well low (begins_recovery k) = kind_begins sheet key recoveries (recoveries_begin key) w p now well low k

  steps : (w : SheetWorld) (p : ℕ) (access : Access ℕ) (answer : ℕ) (now : Situation) (says : List Response) (m2 : Memory ℕ) → IsWell (plain key w) → p < key.layout.processes → CallSteps key p (w.situation p) access answer now says
      → Performs (sheet.class_in key) access p w.memory m2 answer → GoesTelling sheet key w (after_step sheet key w p now m2) p says
  steps w p access answer now says m2 well low (steps_edit k) performs = kind_steps sheet key edits (edits_step key) w p access answer now says m2 well low k performs
  steps w p access answer now says m2 well low (steps_work k) performs = kind_steps sheet key works (works_step key) w p access answer now says m2 well low k performs
  steps w p access answer now says m2 well low (steps_show k) performs = kind_steps sheet key shows (shows_step key) w p access answer now says m2 well low k performs
  steps w p access answer now says m2 well low (steps_recovery k) performs = kind_steps sheet key recoveries (recoveries_step key) w p access answer now says m2 well low k performs

  pub sheet_holds : IsStructure sheet key
  sheet_holds = record { opens = opens; begins = begins; steps = steps; evicts = evicts; stops = stops; crashes = crashes }
