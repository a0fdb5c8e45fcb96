-- In a new sheet every process is idle, before its edit 0.
use Rattle.std.proofs.Common.{ℕ, ◌≡◌, refl, inl, inr, arith}
use Rattle.std.proofs.lemmas.Bool.{cases_lt}
use Rattle.std.proofs.lemmas.List.{get_or_past}
use Rattle.ds_state.specs.Fresh.{IsNew}
use Rattle.ds_state.specs.Value.{WorldValue, first_rest, world_of, IsGood}
use Rattle.ds_state.specs.declared.situation.Rest.{Rest}
use Rattle.ds_state.specs.declared.situation.Situation.TheVariants.{Idle}

pub record IsFirst (v : WorldValue) (p : ℕ) : Type 0 where
  pub rest : Rest
  pub is : (world_of v).situation p ≡ Idle rest
  pub zero : rest.number ≡ 0

-- in a new world each process is idle, before its edit 0
pub new_idle : (v : WorldValue) → IsGood v → IsNew (world_of v) → (p : ℕ) → IsFirst v p
new_idle v good new p = elim (cases_lt p v.sheet.layout.processes) [
  | inl lt ↦ record { rest = record { number = 0; edition = new.edition }; is = new.situation p lt; zero = refl }
  | inr ge ↦ record { rest = first_rest; is = get_or_past v.situations p (Idle first_rest) (let n = good.situations in omega arith); zero = refl }
]
