-- A cause that is handed on.
use Rattle.std.proofs.Common.{◌≡◌, Result, Ok, Err, subst, sym}
use Rattle.std.specs.Prelude.{IfErr, IsErrAnd}
use Rattle.ds_analyze.specs.declared.form.Unwritten.{Unwritten}

-- what holds of it holds where it is handed on
pub handed_on : {A : Type 0} (result : Result A Unwritten) (why : Unwritten) (P : Unwritten → Type 0) → IsErrAnd result (λ e. e ≡ why) → P why → IfErr result P
handed_on (Ok done) why P is h = tt
handed_on (Err e) why P is h = subst P (sym is) h
