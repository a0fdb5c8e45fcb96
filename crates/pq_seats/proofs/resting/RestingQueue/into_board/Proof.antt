-- The field says only that a proof of `Rests` exists. An entailment is a proposition, so the proof may be opened in front of the walk that Rattle made.
use seplogic.Bi.Basic.{Entails-prop}
use mathlib.Core.Logic.{∥∥₁_elim}
use mathlib.Core.Path.{refl}
use base.Logic.{via, mono_r}
use denote.Triple.Entry.{on_entry}
use borrow.Fn.Kinds.{sig_of}
use contract.Monad.{fact_mono}
use Rattle.std.specs.Mem.Slots.{slots_items}
use Rattle.pm_board.specs.Rule.{IsRested}
use Rattle.pm_board.specs.Views.{past_of}
use Rattle.pq.specs.Queue.{queue}
use Rattle.pq_seats.proofs.resting.RestingQueue.into_board.Statement.{statement}
use Rattle.pq_seats.proofs.resting.RestingQueue.into_board.Lts as lts
use Rattle.pq_seats.proofs.resting.RestingQueue.into_board.Reads as reads
use Rattle.pq_seats.proofs.resting.RestingQueue.into_board.Tie as tie

pub into_board_spec : {M : Type 1} → statement M
into_board_spec {M} =
    tie.close (λ 𝓤 𝓛 𝓣 y.
    ∥∥₁_elim y.0.3.0.rests (Entails-prop 𝓤.op _ _) (λ rests.
    via 𝓤 _ (mono_r 𝓤 (on_entry 𝓛 (sig_of 0 lts.ps lts.r) y.0.0 y.0.1 y.0.3 y.0.4) (fact_mono 𝓤 _ (IsRested queue y.0.3.0.board.key (slots_items y.0.3.0.board.table.words) (past_of y.0.3.0.board.before)) (λ _. rests)))
    (lts.spec (λ κs a. IsRested queue a.0.board.key (slots_items a.0.board.table.words) (past_of a.0.board.before)) reads.Post (λ c. (refl, c.requires)) 𝓤 𝓛 𝓣 y)))
