use Rattle.std.proofs.Common.{◌∙◌, List, ℕ, ap, sym}
use Rattle.ds_a1.specs.Tokens.{begins_reference, tokens}
use Rattle.ds_a1.proofs.Steps.{colon_front, no_colon_front}
use Rattle.ds_a1.proofs.tokens.goes_on.Goals as goal

pub returns-then-not-begins_mark : goal.returns-then-not-begins_mark
returns-then-not-begins_mark c = sym (no_colon_front c.args.text.now (sym c.begins_mark.ensures ∙ c.if-not-begins_mark.true))

pub returns : goal.returns
returns c =
    c.begins_reference.ensures ∙ ap (λ (t : List ℕ). begins_reference (tokens t)) c.split_at.ensures.back
    ∙ sym (colon_front c.args.text.now (sym c.begins_mark.ensures ∙ c.if-not-begins_mark.false))
