-- The values of a table of texts.
use Rattle.std.proofs.Common.{ℕ, Bool, List, [], Option, Some, inl, inr, refl, subst}
use Rattle.std.specs.Io.KnownBytes.{Consumes}
use Rattle.std.proofs.KnownBytes.{Consumes-all}
use Rattle.ds_script_io.specs.Input.{EndsWith}
use Rattle.ds_script_io.specs.declared.input.InputEnd.{InputEnd}
use Rattle.ds_grid.specs.declared.form.GridForm.{GridForm}
use Rattle.ds_grid.specs.declared.ending.GridEnd.TheVariants as ends
use Rattle.ds_grid.specs.Grids.{Concludes, Shows}

-- a grid whose report has ended was read whole
pub shows_of : (form : GridForm) (limit : ℕ) (table : List ℕ) (after : Option (List ℕ)) (ended failed : Bool) (bytes out : List ℕ)
    → Consumes (Some table) after bytes → Concludes form limit after ended failed bytes out ends.Ended → Shows form table out
shows_of form limit table after ended failed bytes out consumed (inl reported) =
    let whole = subst (λ (e : InputEnd). EndsWith limit after ended failed bytes e) reported.ran.0 reported.ends_with in
    subst (λ (b : List ℕ). Shows form b out) (Consumes-all (Some table) after bytes [] bytes consumed whole.no_more refl) reported.ran.1
shows_of form limit table after ended failed bytes out consumed (inr unread) = cc
