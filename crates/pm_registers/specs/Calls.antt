-- The calls on a register: what each stage does to the words, and what comes then.
use Rattle.std.specs.Prelude.{ℕ, ◌+◌, ◌*◌, ◌==◌}
use Rattle.ds_words.specs.declared.access.Access.{Access}
use Rattle.ds_words.specs.declared.access.Access.TheVariants.{Nothing, Load, Store, SwapIf, Flush, Back}
use Rattle.pm_registers.specs.declared.calls.WriteCall.{WriteCall}
use Rattle.pm_registers.specs.declared.calls.WriteStage.{WriteStage}
use Rattle.pm_registers.specs.declared.calls.WriteStage.TheVariants as write
use Rattle.pm_registers.specs.declared.calls.RecoverCall.{RecoverCall}
use Rattle.pm_registers.specs.declared.calls.RecoverStage.{RecoverStage}
use Rattle.pm_registers.specs.declared.calls.RecoverStage.TheVariants as recover
use Rattle.pm_registers.specs.declared.calls.Response.{Response}
use Rattle.pm_registers.specs.declared.calls.Response.TheVariants.{Recalled}

-- the access of each stage of a write of this value by process p
abbrev pub write_access_at : ℕ → ℕ → WriteStage → Access ℕ
write_access_at p value write.StoreAnnounce = Store (2 * p) value
write_access_at p value write.FlushAnnounce = Flush (2 * p)
write_access_at p value write.BackAnnounce = Back
write_access_at p value write.LoadHead = Load (2 * p + 1)
write_access_at p value (write.Swap seen) = SwapIf (2 * p + 1) seen value
write_access_at p value write.FlushHead = Flush (2 * p + 1)
write_access_at p value write.BackHead = Back
write_access_at p value write.Done = Nothing

-- the access of its next step
abbrev pub write_access : WriteCall → Access ℕ
write_access c = write_access_at c.process c.value c.stage

-- the stage after a step that was answered so
abbrev pub write_stage : WriteStage → ℕ → WriteStage
write_stage write.StoreAnnounce word = write.FlushAnnounce
write_stage write.FlushAnnounce word = write.BackAnnounce
write_stage write.BackAnnounce word = write.LoadHead
write_stage write.LoadHead word = write.Swap word
write_stage (write.Swap seen) word = write.FlushHead
write_stage write.FlushHead word = write.BackHead
write_stage write.BackHead word = write.Done
write_stage write.Done word = write.Done

-- the write after such a step
abbrev pub write_next : WriteCall → ℕ → WriteCall
write_next c word = record c { stage = write_stage c.stage word }

-- the access of each stage of a recovery of process p
abbrev pub recover_access_at : ℕ → RecoverStage → Access ℕ
recover_access_at p recover.LoadAnnounce = Load (2 * p)
recover_access_at p (recover.FlushAnnounce last) = Flush (2 * p)
recover_access_at p (recover.BackAnnounce last) = Back
recover_access_at p (recover.LoadHead last) = Load (2 * p + 1)
recover_access_at p (recover.FlushHead last head) = Flush (2 * p + 1)
recover_access_at p (recover.BackHead last head) = Back
recover_access_at p (recover.Done last head) = Nothing

-- the access of its next step
abbrev pub recover_access : RecoverCall → Access ℕ
recover_access c = recover_access_at c.process c.stage

-- the stage after a step that was answered so
abbrev pub recover_stage : RecoverStage → ℕ → RecoverStage
recover_stage recover.LoadAnnounce word = recover.FlushAnnounce word
recover_stage (recover.FlushAnnounce last) word = recover.BackAnnounce last
recover_stage (recover.BackAnnounce last) word = recover.LoadHead last
recover_stage (recover.LoadHead last) word = recover.FlushHead last word
recover_stage (recover.FlushHead last head) word = recover.BackHead last head
recover_stage (recover.BackHead last head) word = recover.Done last head
recover_stage (recover.Done last head) word = recover.Done last head

-- the recovery after such a step
abbrev pub recover_next : RecoverCall → ℕ → RecoverCall
recover_next c word = record c { stage = recover_stage c.stage word }

-- what a recovery answers that read this announcement and this head
abbrev pub recalled : ℕ → ℕ → Response
recalled last head = Recalled last (head == last)
