-- What a stage names keeps fitting.
use Rattle.std.proofs.Common.{ℕ, ◌≡◌, ◌/◌, ◌%◌, ◌<◌, ◌==◌, Bool, true, if◌then◌else◌, nat_lt, inl, inr}
use Rattle.std.proofs.lemmas.Bool.{cases_Bool, ltb-true}
use Rattle.pq.specs.Calls.{recover_stage, recover_announced, by_kind, found_next, found_claim, found_taker, found_result, RecoverStageFits}
use Rattle.pq.specs.declared.places.TheConstants.{MOST_NODES, EMPTY}
use Rattle.pq.specs.declared.recover.RecoverStage.{RecoverStage}
use Rattle.pq.specs.declared.recover.RecoverStage.TheVariants as recover
use Rattle.pq.specs.declared.recover.Found.TheVariants as found

-- one of two stages that both fit, the first if the test says so
either_fits : (b : Bool) (s r : RecoverStage) → (b ≡ true → RecoverStageFits s) → RecoverStageFits r → RecoverStageFits (if b then s else r)
either_fits b s r f g = elim (cases_Bool b) [
  | inl e ↦ rw e (f e)
  | inr e ↦ rw e g
]

kind_fits : (word : ℕ) → RecoverStageFits (by_kind word)
kind_fits word = either_fits (word == 0) (recover.Done found.Nothing) (if word % 2 == 0 then recover.LoadTail else recover.LoadHead) (λ e. tt) (either_fits (word % 2 == 0) recover.LoadTail recover.LoadHead (λ e. tt) tt)

next_fits : (i turns a word : ℕ) → a < MOST_NODES → RecoverStageFits (found_next i turns a word)
next_fits i turns a word l = either_fits (word == 0) recover.LoadLinked _ (λ e. tt) (either_fits (word == i) (recover.FlushNext a) _ (λ e. l) (either_fits (turns == 0) recover.Torn _ (λ e. tt) (either_fits (nat_lt word MOST_NODES) (recover.FindNode word) recover.Torn (λ e. ltb-true word MOST_NODES e) tt)))

claim_fits : (a word : ℕ) → a < MOST_NODES → RecoverStageFits (found_claim a word)
claim_fits a word l = either_fits (word == 0) recover.LoadResult _ (λ e. tt) (either_fits (nat_lt word MOST_NODES) (recover.LoadTaker a word) recover.Torn (λ e. (l, ltb-true word MOST_NODES e)) tt)

taker_fits : (i turns a y word : ℕ) → a < MOST_NODES → y < MOST_NODES → RecoverStageFits (found_taker i turns a y word)
taker_fits i turns a y word l k = either_fits (word == 0) recover.LoadResult _ (λ e. tt) (either_fits (word == i) (recover.FlushTaker a y) _ (λ e. (l, k)) (either_fits (turns == 0) recover.Torn (recover.FindNext y) (λ e. tt) k))

result_fits : (word : ℕ) → RecoverStageFits (found_result word)
result_fits word = either_fits (word == 0) (recover.Done found.NotDequeued) _ (λ e. tt) (either_fits (word == EMPTY) recover.FlushEmpty _ (λ e. tt) (either_fits (nat_lt word MOST_NODES) (recover.LoadValue word) recover.Torn (λ e. ltb-true word MOST_NODES e) tt))

pub stage_fits : (u turns : ℕ) (s : RecoverStage) (word : ℕ) → RecoverStageFits s → RecoverStageFits (recover_stage u turns s word)
stage_fits u turns recover.LoadAnnounce word f = either_fits (nat_lt word 33554432) recover.FlushAnnounce recover.Torn (λ e. tt) tt
stage_fits u turns recover.FlushAnnounce word f = tt
stage_fits u turns recover.BackAnnounce word f = kind_fits u
stage_fits u turns recover.LoadTail word f = either_fits (nat_lt word MOST_NODES) (recover.FindNode word) recover.Torn (λ e. ltb-true word MOST_NODES e) tt
stage_fits u turns (recover.FindNode a) word f = next_fits (u / 2) turns a word f
stage_fits u turns (recover.FlushNext a) word f = f
stage_fits u turns (recover.BackNext a) word f = tt
stage_fits u turns recover.LoadLinked word f = either_fits (word == 0) (recover.Done found.NotEnqueued) (recover.Done found.WasEnqueued) (λ e. tt) tt
stage_fits u turns recover.LoadHead word f = either_fits (nat_lt word MOST_NODES) (recover.FindNext word) recover.Torn (λ e. ltb-true word MOST_NODES e) tt
stage_fits u turns (recover.FindNext a) word f = claim_fits a word f
stage_fits u turns (recover.LoadTaker a y) word f = taker_fits (u / 2) turns a y word f.0 f.1
stage_fits u turns (recover.FlushTaker a y) word f = f
stage_fits u turns (recover.BackTaker a y) word f = f.1
stage_fits u turns recover.LoadResult word f = result_fits word
stage_fits u turns recover.FlushEmpty word f = tt
stage_fits u turns recover.BackEmpty word f = tt
stage_fits u turns (recover.LoadValue y) word f = tt
stage_fits u turns (recover.Done g) word f = tt
stage_fits u turns recover.Torn word f = tt

pub announced_fits : (s : RecoverStage) (u word : ℕ) → u < 33554432 → recover_announced s u word < 33554432
announced_fits recover.LoadAnnounce u word l = elim (cases_Bool (nat_lt word 33554432)) [
  | inl e ↦ rw e (ltb-true word 33554432 e)
  | inr e ↦ rw e l
]
announced_fits recover.FlushAnnounce u word l = l
announced_fits recover.BackAnnounce u word l = l
announced_fits recover.LoadTail u word l = l
announced_fits (recover.FindNode a) u word l = l
announced_fits (recover.FlushNext a) u word l = l
announced_fits (recover.BackNext a) u word l = l
announced_fits recover.LoadLinked u word l = l
announced_fits recover.LoadHead u word l = l
announced_fits (recover.FindNext a) u word l = l
announced_fits (recover.LoadTaker a y) u word l = l
announced_fits (recover.FlushTaker a y) u word l = l
announced_fits (recover.BackTaker a y) u word l = l
announced_fits recover.LoadResult u word l = l
announced_fits recover.FlushEmpty u word l = l
announced_fits recover.BackEmpty u word l = l
announced_fits (recover.LoadValue y) u word l = l
announced_fits (recover.Done g) u word l = l
announced_fits recover.Torn u word l = l
