use Rattle.std.proofs.Common.{ℕ, ◌<◌, subst, sym}
use Rattle.std.proofs.Math.Logic.{∥∥₁_map}
use Rattle.pq_seats.proofs.resting.RestingQueue.crash_with.Goals as goal

pub invariant_of-self : goal.invariant_of-self
invariant_of-self c = record { few = subst (λ (k : ℕ). k < 16384) (sym c.crash_with.ensures.key) c.args.self.now.few; rests = ∥∥₁_map c.args.self.now.rests c.crash_with.ensures.rests }
