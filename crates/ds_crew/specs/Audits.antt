-- What an audit of receipts finds.
use Rattle.std.specs.Prelude.{ℕ, ◌≡◌, ◌≢◌, List, All, AllPairs, Contains, length, take, slice_get, Some, Result, Ok, Err}
use Rattle.ds_formula.specs.declared.cells.Shape.{Shape}
use Rattle.ds_formula.specs.Cells.{IsInside, index_of}
use Rattle.ds_state.specs.World.{PlainEdit}
use Rattle.ds_crew.specs.Receipts.{PlainReceipt}
use Rattle.ds_crew.specs.declared.audit.AuditFault.{AuditFault}
use Rattle.ds_crew.specs.declared.audit.AuditFault.TheVariants.{Missing, Twice, Count}

-- the edit that a receipt names, on a sheet of this shape
abbrev pub edit_of : Shape → PlainReceipt → PlainEdit
edit_of shape r = record { process = r.process; number = r.number; cell = index_of shape r.cell; text = r.text }

-- the sheet has the receipt's cell, and the edit that the receipt names, with its cell and text, counts
pub record Stands (shape : Shape) (counted : List PlainEdit) (r : PlainReceipt) : Type 0 where
  pub inside : IsInside shape r.cell
  pub counts : Contains counted (edit_of shape r)

-- each receipt stands, and none is there twice
pub record AreRight (shape : Shape) (counted : List PlainEdit) (receipts : List PlainReceipt) : Type 0 where
  pub stand : All (Stands shape counted) receipts
  pub once : AllPairs (λ a b. a ≢ b) receipts

-- the receipts before this place are right, and this is the receipt there
pub record IsFirstAt (shape : Shape) (counted : List PlainEdit) (receipts : List PlainReceipt) (place : ℕ) (r : PlainReceipt) : Type 0 where
  pub before : AreRight shape counted (take place receipts)
  pub there : slice_get receipts place ≡ Some r

-- the receipt at this place is the first that is not right: it does not stand
pub record IsMissing (shape : Shape) (counted : List PlainEdit) (receipts : List PlainReceipt) (place : ℕ) : Type 0 where
  pub receipt : PlainReceipt
  pub first : IsFirstAt shape counted receipts place receipt
  pub none : Stands shape counted receipt → ⊥

-- the receipt at this place is the first that is not right: it names a linearized edit, and the same one stands before it
pub record IsTwice (shape : Shape) (counted : List PlainEdit) (receipts : List PlainReceipt) (place : ℕ) : Type 0 where
  pub receipt : PlainReceipt
  pub first : IsFirstAt shape counted receipts place receipt
  pub stands : Stands shape counted receipt
  pub again : Contains (take place receipts) receipt

-- the receipts are right; how many they are, and how many edits were answered Done, are these numbers
pub record AreSoMany (shape : Shape) (counted : List PlainEdit) (done : ℕ) (receipts : List PlainReceipt) (number acknowledged : ℕ) : Type 0 where
  pub right : AreRight shape counted receipts
  pub number_is : number ≡ length receipts
  pub acknowledged_is : acknowledged ≡ done

-- why the first receipt that is not right is not
abbrev pub IsWrong : Shape → List PlainEdit → List PlainReceipt → AuditFault → Type 0
IsWrong shape counted receipts (Missing place) = IsMissing shape counted receipts place
IsWrong shape counted receipts (Twice place) = IsTwice shape counted receipts place
IsWrong shape counted receipts (Count number acknowledged) = ⊥

-- what is found: the number of receipts, where they are right and as many as the edits that were answered Done; else
-- the first that is not right; else that they are another number
abbrev pub Audits : Shape → List PlainEdit → ℕ → List PlainReceipt → Result ℕ AuditFault → Type 0
Audits shape counted done receipts (Ok number) = AreSoMany shape counted done receipts number number
Audits shape counted done receipts (Err (Missing place)) = IsMissing shape counted receipts place
Audits shape counted done receipts (Err (Twice place)) = IsTwice shape counted receipts place
Audits shape counted done receipts (Err (Count number acknowledged)) = AreSoMany shape counted done receipts number acknowledged × (number ≢ acknowledged)
