-- A migration, from its begin to its answer: what its process says of its edits, and what the words say of them.
use Rattle.std.proofs.Common.{ℕ, ◌≡◌, ◌/◌, List, refl, ap, sym, ◌∙◌, subst, inl, inr}
use Rattle.std.proofs.lemmas.Bool.{cases_eq}
use Rattle.ds_words.specs.Memory.{Memory}
use Rattle.ds_words.specs.declared.access.BufferEntry.{BufferEntry}
use Rattle.ds_layout.specs.declared.place.Place.{Place}
use Rattle.ds_layout.specs.declared.place.Place.TheVariants.{Header, Announce}
use Rattle.ds_layout.specs.SheetMemory.{PerformsAt}
use Rattle.ds_layout.specs.declared.layout.Layout.{Layout}
use Rattle.ds_state.specs.World.{PlainWorld}
use Rattle.ds_state.specs.Works.{PlainMigrateCall, PlainShowCall}
use Rattle.ds_state.specs.CallsFit.{CallFits, MigrationHolds, MigrationFits}
use Rattle.ds_state.specs.Value.{WorldValue, world_of}
use Rattle.ds_state.specs.declared.situation.Situation.{Situation}
use Rattle.ds_state.specs.declared.situation.Situation.TheVariants.{Showing, Migrating}
use Rattle.ds_state.specs.declared.migration.MigrateStage.{MigrateStage}
use Rattle.ds_state.specs.declared.migration.MigrateStage.TheVariants as stages
use Rattle.ds_recover.specs.MigrationSteps as steps
use Rattle.ds_core.specs.Moments.{Ledger}
use Rattle.ds_core.specs.LedgerSteps.{OneAccess}
use Rattle.ds_core.specs.MigrationEvents.{MigrationStepsBy, MigrationBegins}
use Rattle.ds_core.specs.declared.reply.Reply.{Reply}
use Rattle.ds_core.proofs.Headers.{SidesStay, Spares, FirstSpares, sides_same, sides_performed}
use Rattle.ds_core.proofs.Ledgers.{IsOf, SaysSame, says_same, doubts, numbered}
use Rattle.ds_core.proofs.Turns.{migration_turn, migration_begins_turn}
use Rattle.ds_core.proofs.Told.{Tells, told_on, tells_turn}

-- ---- its accesses

spares : (p n : ℕ) (e : PlainMigrateCall) (s : MigrateStage) → Spares p n (steps.access_at e s)
spares p n e (stages.StoreNew at) = tt
spares p n e stages.Swap = tt
spares p n e _ = tt

first_spares : (p n q : ℕ) (w : PlainWorld) (e : PlainMigrateCall) (s : MigrateStage) → MigrationHolds w q e s → FirstSpares p n (w.memory.buffer q)
first_spares p n q w e (stages.BackNew at) h = subst (λ (xs : List (BufferEntry Place)). FirstSpares p n xs) (sym h) tt
first_spares p n q w e (stages.BackVersion how) h = subst (λ (xs : List (BufferEntry Place)). FirstSpares p n xs) (sym h) tt
first_spares p n q w e _ h = subst (λ (xs : List (BufferEntry Place)). FirstSpares p n xs) (sym h) tt

-- an announcement stays as processes see it
announce_stays : (q p : ℕ) (e : PlainMigrateCall) (s : MigrateStage) (old new : Memory Place) (word : ℕ) → PerformsAt (steps.access_at e s) q old new word → new.cached (Announce p) ≡ old.cached (Announce p)
announce_stays q p e stages.LoadVersion old new word h = h.1.cached (Announce p)
announce_stays q p e (stages.LoadOld at) old new word h = h.1.cached (Announce p)
announce_stays q p e (stages.StoreNew at) old new word h = h.1.elsewhere (Announce p) (λ x. cc)
announce_stays q p e (stages.FlushNew at) old new word h = h.1.cached (Announce p)
announce_stays q p e (stages.BackNew at) old new word h = h.1.2.cached (Announce p)
announce_stays q p e stages.Swap old new word h = elim h.1 [ inl won ↦ won.1.elsewhere (Announce p) (λ x. cc) | inr lost ↦ lost.1.cached (Announce p) ]
announce_stays q p e (stages.FlushVersion how) old new word h = h.1.cached (Announce p)
announce_stays q p e (stages.BackVersion how) old new word h = h.1.2.cached (Announce p)
announce_stays q p e (stages.Answer how) old new word h = h.1.cached (Announce p)

-- ---- a step

after_says : (e : PlainMigrateCall) (s : MigrateStage) (word : ℕ) → SaysSame (Migrating e) (steps.after e s word)
after_says e (stages.Answer how) word = record { number = refl; doubt = refl }
after_says e _ word = record { number = refl; doubt = refl }

after_shows_not : (e : PlainMigrateCall) (s : MigrateStage) (word : ℕ) (g : PlainShowCall) → steps.after e s word ≡ Showing g → ⊥
after_shows_not e (stages.Answer how) word g is = (cc)
after_shows_not e _ word g is = (cc)

module _ (v v' : WorldValue) (p : ℕ) (reply : Reply) (s : MigrationStepsBy v p reply v') where
  pub migration_access : OneAccess p (world_of v).memory (world_of v').memory
  migration_access =
      let e : PlainMigrateCall = s.steps.migration in
      (steps.access_at e e.stage, s.steps.word, subst (λ (q : ℕ). PerformsAt (steps.access_at e e.stage) q (world_of v).memory (world_of v').memory s.steps.word) s.steps.mine s.steps.steps.memory)

  now : (world_of v').situation p ≡ steps.after s.steps.migration s.steps.migration.stage s.steps.word
  now = ap (λ q. (world_of v').situation q) (sym s.steps.mine) ∙ s.steps.steps.situation

  pub migration_shows_not : (g : PlainShowCall) → (world_of v').situation p ≡ Showing g → ⊥
  migration_shows_not g is = after_shows_not s.steps.migration s.steps.migration.stage s.steps.word g (sym now ∙ is)

  pub migration_says : (q : ℕ) → SaysSame ((world_of v).situation q) ((world_of v').situation q)
  migration_says q = elim (cases_eq q p) [
    | inl here ↦ (
        let then_is = ap (λ x. (world_of v').situation x) here ∙ now in
        let before = ap (λ x. (world_of v).situation x) here ∙ s.steps.at in
        let says = after_says s.steps.migration s.steps.migration.stage s.steps.word in
        record { number = ap numbered then_is ∙ says.number ∙ sym (ap numbered before); doubt = ap doubts then_is ∙ says.doubt ∙ sym (ap doubts before) })
    | inr other ↦ says_same _ _ (s.steps.steps.others q (λ same. other (same ∙ s.steps.mine)))
  ]

module _ (layout : Layout) (l : Ledger) (v v' : WorldValue) (p : ℕ) (reply : Reply) (h : IsOf layout l v) (t : Tells l v) (s : MigrationStepsBy v p reply v') where
  fits : MigrationFits (world_of v) p s.steps.migration
  fits = subst (λ (x : Situation). CallFits (world_of v) p x) s.steps.at (h.good.sound.calls p s.steps.there)

  fits_own : MigrationFits (world_of v) s.steps.migration.process s.steps.migration
  fits_own = subst (λ q. MigrationFits (world_of v) q s.steps.migration) (sym s.steps.mine) fits

  pub migration_header : (n : ℕ) → SidesStay (world_of v).memory (world_of v').memory (Header p n)
  migration_header n =
      let e : PlainMigrateCall = s.steps.migration in
      sides_performed p n e.process (steps.access_at e e.stage) (world_of v).memory (world_of v').memory s.steps.word (spares p n e e.stage) (first_spares p n e.process (world_of v) e e.stage fits_own.buffer) s.steps.steps.memory

  pub tells_migration_on : Tells l v'
  tells_migration_on = tells_turn p l l v v' t (migration_turn v v' p reply h.good.sound s) (record {
    layout = s.steps.steps.layout;
    told = λ c is. (let k = t.told p c is in told_on l.counted l.counted (world_of v) (world_of v') p c k s.steps.steps.layout (migration_header c.it.edit.number) k.counted);
    opens = λ issue is. t.opens p issue (sym (s.steps.steps.open_edits p) ∙ is);
    announced = λ doubt none. (let before = sym (s.steps.steps.open_edits p) ∙ none in
        ap (λ x. x / 4) (announce_stays s.steps.migration.process p s.steps.migration s.steps.migration.stage (world_of v).memory (world_of v').memory s.steps.word s.steps.steps.memory) ∙ t.announced p s.steps.there (ap doubts s.steps.at) before);
  }) (λ q ne. refl) (λ q c ne is. (t.told q c is).counted)

-- ---- its begin

module _ (layout : Layout) (l : Ledger) (v v' : WorldValue) (p : ℕ) (h : IsOf layout l v) (t : Tells l v) (b : MigrationBegins v p v') where
  pub migration_begins_says : (q : ℕ) → SaysSame ((world_of v).situation q) ((world_of v').situation q)
  migration_begins_says q = elim (cases_eq q p) [
    | inl here ↦ (
        let then_is = ap (λ x. (world_of v').situation x) here ∙ b.begun.situation in
        let before = ap (λ x. (world_of v).situation x) here ∙ b.begun.stopped in
        record { number = ap numbered then_is ∙ sym (ap numbered before); doubt = ap doubts then_is ∙ sym (ap doubts before) })
    | inr other ↦ says_same _ _ (b.begun.others q other)
  ]

  pub tells_migration_begun : Tells l v'
  tells_migration_begun = tells_turn p l l v v' t (migration_begins_turn v v' p h.good.sound b) (record {
    layout = b.begun.layout;
    told = λ c is. (let k = t.told p c is in told_on l.counted l.counted (world_of v) (world_of v') p c k b.begun.layout (sides_same (world_of v).memory (world_of v').memory (Header p c.it.edit.number) b.begun.memory) k.counted);
    opens = λ issue is. t.opens p issue (sym (b.begun.open_edits p) ∙ is);
    announced = λ doubt none. ap (λ x. x / 4) (b.begun.memory.cached (Announce p)) ∙ t.announced p b.there (ap doubts b.begun.stopped) (sym (b.begun.open_edits p) ∙ none);
  }) (λ q ne. refl) (λ q c ne is. (t.told q c is).counted)
