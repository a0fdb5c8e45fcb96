use Rattle.std.proofs.Common.{ℕ, ◌≡◌, length, List, drop, ap, sym, ◌∙◌, ◌∷◌, refl, subst, ◌<◌}
use Rattle.ds_words.specs.Words.{buffer_of}
use Rattle.ds_words.specs.declared.access.BufferEntry.{BufferEntry}
use Rattle.ds_words.proofs.Laws.{nested_read, nested_write}
use Rattle.ds_words.proofs.words.Words.taken.Goals as goal
use Rattle.ds_words.proofs.words.Words.taken.Goals.{After-index_mut-buffer, After-take_first}

-- the buffer that is read is that of the process
same : (c : After-index_mut-buffer) → c.index_mut-buffer.result.now.items ≡ buffer_of c.args.self.now c.args.process
unfolding buffer_of
same c = nested_read (λ b. b.items) c.self.inside.buffers.items c.args.process c.index_mut-buffer.result.now c.args.self.now.buffers (ap (λ v. v.buffers) c.self.view_is) c.requires.process c.index_mut-buffer.ensures.value

-- it begins with the entry that is taken
begins : (c : After-take_first) → buffer_of c.args.self.now c.args.process ≡ c.take_first.result ∷ c.take_first.new.buffer.items
begins c = sym (same c.before) ∙ c.take_first.ensures

pub take_first-requires : goal.take_first-requires
take_first-requires c = subst (λ (es : List (BufferEntry ℕ)). 0 < length es) (sym (same (goal.at.take_first-requires c).After-index_mut-buffer)) c.requires.some

pub returns-clause-oldest : goal.returns-clause-oldest
returns-clause-oldest c =
    let b = begins (goal.at.returns-clause-oldest c).After-take_first in
    b ∙ ap (λ (es : List (BufferEntry ℕ)). c.take_first.result ∷ es) (sym (ap (λ (es : List (BufferEntry ℕ)). drop 1 es) b))

pub returns-clause-rest : goal.returns-clause-rest
returns-clause-rest c =
    nested_write (λ b. b.items) c.args.self.now _ c.self.inside.buffers.items c.args.process c.take_first.new.buffer _
    (ap (λ v. v.classes) c.self.view_is) (ap (λ v. v.words) c.self.view_is) refl (ap (λ v. v.buffers) c.self.view_is)
    (sym (ap (λ (es : List (BufferEntry ℕ)). drop 1 es) (begins (goal.at.returns-clause-rest c).After-take_first)))
