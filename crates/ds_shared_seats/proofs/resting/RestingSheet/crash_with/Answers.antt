use Rattle.std.proofs.Math.Logic.{∥∥₁_map}
use Rattle.ds_shared_seats.proofs.resting.RestingSheet.crash_with.Goals as goal

pub invariant_of-self : goal.invariant_of-self
invariant_of-self c = record { rests = ∥∥₁_map c.args.self.now.rests c.crash_with.ensures.rests }
