-- The field says only that a proof of `Rests` exists. An entailment is a proposition, so the proof may be opened in front of the walk that Rattle made.
use seplogic.Bi.Basic.{Entails-prop}
use mathlib.Core.Logic.{∥∥₁_elim}
use mathlib.Core.Path.{refl}
use base.Logic.{via, mono_r}
use denote.Triple.Entry.{on_entry}
use borrow.Fn.Kinds.{sig_of}
use contract.Monad.{fact_mono}
use Rattle.ds_shared.specs.Answers.{Rests}
use Rattle.ds_shared_seats.proofs.resting.RestingSheet.into_sheet.Statement.{statement}
use Rattle.ds_shared_seats.proofs.resting.RestingSheet.into_sheet.Lts as lts
use Rattle.ds_shared_seats.proofs.resting.RestingSheet.into_sheet.Reads as reads
use Rattle.ds_shared_seats.proofs.resting.RestingSheet.into_sheet.Tie as tie

pub into_sheet_spec : {M : Type 1} → statement M
into_sheet_spec {M} =
    tie.close (λ 𝓤 𝓛 𝓣 y.
    ∥∥₁_elim y.0.3.0.rests (Entails-prop 𝓤.op _ _) (λ rests.
    via 𝓤 _ (mono_r 𝓤 (on_entry 𝓛 (sig_of 0 lts.ps lts.r) y.0.0 y.0.1 y.0.3 y.0.4) (fact_mono 𝓤 _ (Rests y.0.3.0.sheet) (λ _. rests)))
    (lts.spec (λ κs a. Rests a.0.sheet) reads.Post (λ c. (refl, c.requires)) 𝓤 𝓛 𝓣 y)))
