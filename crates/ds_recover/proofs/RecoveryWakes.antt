-- The first three steps of a recovery: it notes the layout, and persists the version's word.
use Rattle.std.proofs.Common.{ℕ, ◌≡◌, ◌<◌, [], refl, sym, ◌∙◌, inl, inr, ap}
use Rattle.std.specs.Prelude.{Option}
use Rattle.std.proofs.lemmas.Bool.{cases_eq}
use Rattle.ds_words.specs.Memory.{WritesBack}
use Rattle.ds_layout.specs.declared.place.Place.TheVariants.{Version}
use Rattle.ds_state.specs.CallsFit.{RecoveryFits}
use Rattle.ds_state.specs.Owing.{entry}
use Rattle.ds_state.specs.Rely.{Keeps}
use Rattle.ds_state.specs.Sound.{IsSound}
use Rattle.ds_state.specs.Works.{PlainRecoverCall}
use Rattle.ds_state.specs.World.{PlainIssue, PlainWorld}
use Rattle.ds_state.specs.declared.recovery.RecoverStage.{RecoverStage}
use Rattle.ds_state.specs.declared.recovery.RecoverStage.TheVariants.{LoadVersion, FlushVersion, BackVersion}
use Rattle.ds_state.specs.declared.situation.Situation.TheVariants.{Recovering}
use Rattle.ds_recover.proofs.Waking.{Steps, load_version, flush_version, back_version}
use Rattle.ds_recover.specs.RecoverySteps.{StepsAt, at, open_edit_at}
use Rattle.ds_recover.proofs.RecoveryBack.{first_back}

-- what such a step leaves
steps_of : (e : PlainRecoverCall) (s : RecoverStage) (word : ℕ) (old new : PlainWorld) → ((o : Option PlainIssue) → open_edit_at o s ≡ o) → StepsAt e s word old new → Steps e.process old new
steps_of e s word old new stays t = record {
  layout = t.layout;
  others = t.others;
  counted = t.counted;
  open_edits = λ q. elim (cases_eq q e.process) [
    | inl same ↦ ap new.open_edits same ∙ t.open_edits ∙ stays (old.open_edits e.process) ∙ ap old.open_edits (sym same)
    | inr ne ↦ t.others_open_edits q ne
  ];
}

module _ (e : PlainRecoverCall) (word : ℕ) (old new : PlainWorld) (sound : IsSound old) (real : e.process < old.layout.processes) where
  pub step_load_version : old.situation e.process ≡ Recovering (at e LoadVersion) → StepsAt e LoadVersion word old new → Keeps e.process old new
  step_load_version was t = load_version e word old new sound real was (steps_of e LoadVersion word old new (λ o. refl) t) t.memory.0 t.memory.1 t.situation

  pub step_flush_version : old.situation e.process ≡ Recovering (at e FlushVersion) → StepsAt e FlushVersion word old new → Keeps e.process old new
  step_flush_version was t = flush_version e old new sound real was (steps_of e FlushVersion word old new (λ o. refl) t) t.memory.1 t.situation

  pub step_back_version : old.situation e.process ≡ Recovering (at e BackVersion) → RecoveryFits old e.process (at e BackVersion) → StepsAt e BackVersion word old new → Keeps e.process old new
  step_back_version was fits t =
      let m : WritesBack e.process (entry Version fits.buffer.value) [] old.memory new.memory = first_back (entry Version fits.buffer.value) [] fits.buffer.alone t.memory.1 in
      back_version e (entry Version fits.buffer.value) [] old new sound real was (steps_of e BackVersion word old new (λ o. refl) t) m t.situation
