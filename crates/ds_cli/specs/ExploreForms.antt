-- What is to be written of an exploration.
use Rattle.std.specs.Prelude.{ℕ, ◌+◌, ◌<◌, ◌≡◌, ◌≤◌, Bool, List, codes, if◌then◌else◌, nat_lt}
use Rattle.clap.specs.Words.{Row}
use Rattle.ds_cli.specs.Numbers.{IsFlag, IsNumberOf}
use Rattle.ds_cli.specs.declared.exploring.ExploreForm.{ExploreForm}
use Rattle.ds_cli.specs.declared.exploring.ExploreForm.TheVariants as form
use Rattle.ds_cli.specs.declared.exploring.Forms.{Forms}

-- what the options say of what is to be written
pub record AreForms (rows : List Row) (forms : Forms) : Type 0 where
  pub summary : IsFlag rows (codes "summary") forms.summary
  pub json : IsFlag rows (codes "json") forms.json
  pub show : IsNumberOf rows (codes "show") forms.show
  pub trace : IsNumberOf rows (codes "trace") forms.trace

-- one, where this holds
abbrev pub one_if : Bool → ℕ
one_if holds = if holds then 1 else 0

-- how many forms are asked for
abbrev pub asked_forms : Forms → ℕ
asked_forms forms = ((one_if forms.summary + one_if forms.json) + one_if (nat_lt 0 forms.show)) + one_if (nat_lt 0 forms.trace)

-- the form that is asked for, where it is one
abbrev pub form_by : Forms → ExploreForm
form_by forms =
    if forms.summary then form.Summary
    else (if forms.json then form.Json else (if nat_lt 0 forms.show then form.Outcome forms.show else (if nat_lt 0 forms.trace then form.Picture forms.trace else form.All)))

-- what is to be written: all outcomes, or the one form that is asked for
pub record IsExploreForm (rows : List Row) (form : ExploreForm) : Type 0 where
  pub forms : Forms
  pub are : AreForms rows forms
  pub one : asked_forms forms ≤ 1
  pub is : form ≡ form_by forms

-- two forms are asked for, or more
pub record AreManyForms (rows : List Row) : Type 0 where
  pub forms : Forms
  pub are : AreForms rows forms
  pub many : 1 < asked_forms forms
