use Rattle.std.proofs.Common.{◌≡◌, ◌<◌, ◌==◌, length, arith, ap, sym, ◌∙◌, List}
use Rattle.std.proofs.lemmas.Bool.{false≢true}
use Rattle.std.proofs.lemmas.List.{length-map}
use Rattle.ds_words.specs.Words.{buffer_of}
use Rattle.ds_words.specs.declared.access.BufferEntry.{BufferEntry}
use Rattle.ds_words.proofs.Laws.{nested_read, HasEntry-tested, HasEntry-some}
use Rattle.ds_words.proofs.words.Words.has_entry.Goals as goal
use Rattle.ds_words.proofs.words.Words.has_entry.Goals.{After-is_empty}

there : (c : After-is_empty) → c.args.process < length c.args.self.now.buffers
there c = omega (arith, c.self.inside.buffers.ok.0, ap length (ap (λ v. v.buffers) c.self.view_is), length-map c.self.inside.buffers.items (λ b. b.items))

-- the buffer that is read is that of the process
same : (c : After-is_empty) → c.index-buffer.result.now.items ≡ buffer_of c.args.self.now c.args.process
unfolding buffer_of
same c = nested_read (λ b. b.items) c.self.inside.buffers.items c.args.process c.index-buffer.result.now c.args.self.now.buffers (ap (λ v. v.buffers) c.self.view_is) (there c) c.index-buffer.ensures

pub returns-then-is_empty : goal.returns-then-is_empty
returns-then-is_empty c =
    let before = (goal.at.returns-then-is_empty c).After-is_empty in
    (λ no. absurd (false≢true no), λ h. absurd (HasEntry-some c.args.self.now c.args.process _ (same before) h (sym c.is_empty.ensures ∙ c.if-is_empty.true)))

pub returns : goal.returns
returns c =
    let before = (goal.at.returns c).After-is_empty in
    HasEntry-tested c.args.self.now c.args.process c.deref.result.now _ c.len-2.result (there before) (c.deref.ensures.0 ∙ same before)
    (ap (λ (es : List (BufferEntry _)). length es == 0) c.deref.ensures.0 ∙ sym c.is_empty.ensures ∙ c.if-is_empty.false) (omega (arith, c.self.inside.words.ok.0, ap length (ap (λ v. v.words) c.self.view_is)))
