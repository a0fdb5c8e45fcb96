use Rattle.ds_a1.proofs.Shown.{shown}
use Rattle.ds_a1.proofs.laws.contents_are_shown.Goals as goal

pub returns-clause-text : goal.returns-clause-text
returns-clause-text c = shown

pub returns-clause-content : goal.returns-clause-content
returns-clause-content c = λ shape text content h. record { open_text = text; opens_as = shown shape text content h; reads = h }
