use Rattle.std.proofs.Common.{ℕ, ◌≡◌, ◌++◌, ◌∷◌, [], length, List, arith, ap, sym, ◌∙◌, refl, lit<, subst}
use Rattle.ds_words.specs.Memory.{FlushesAt}
use Rattle.ds_words.specs.Words.{WordsValue, memory_of, class_at, buffer_of}
use Rattle.ds_words.specs.declared.access.BufferEntry.{BufferEntry}
use Rattle.ds_words.proofs.Laws.{nested_read, nested_write, flushes-with}
use Rattle.ds_words.proofs.words.Words.flush.Goals as goal
use Rattle.ds_words.proofs.words.Words.flush.Goals.{After-index_mut-buffer}

-- the buffer that is read is that of the process
same : (c : After-index_mut-buffer) → c.index_mut-buffer.result.now.items ≡ buffer_of c.args.self.now c.args.process
unfolding buffer_of
same c = nested_read (λ b. b.items) c.self.inside.buffers.items c.args.process c.index_mut-buffer.result.now c.args.self.now.buffers (ap (λ v. v.buffers) c.self.view_is) c.requires.process c.index_mut-buffer.ensures.value

pub push-requires : goal.push-requires
push-requires c = (lit< tt, omega (arith, c.requires.room, ap length (same (goal.at.push-requires c).After-index_mut-buffer)))

pub returns-clause-flushes : goal.returns-clause-flushes
returns-clause-flushes c =
    let v : WordsValue = c.args.self.now in
    let entries : List (BufferEntry ℕ) = buffer_of v c.args.process ++ record { place = c.args.number; class = class_at v c.args.number; value = (memory_of v).cached c.args.number } ∷ [] in
    let is : c.push.new.self.items ≡ entries = c.push.ensures.items ∙ (rw (same (goal.at.returns-clause-flushes c).After-index_mut-buffer, c.class-class.ensures, c.load-value.ensures) refl) in
    let e = nested_write (λ b. b.items) v _ c.self.inside.buffers.items c.args.process c.push.new.self entries
    (ap (λ x. x.classes) c.self.view_is) (ap (λ x. x.words) c.self.view_is) refl (ap (λ x. x.buffers) c.self.view_is) is in
    subst (λ (x : WordsValue). FlushesAt c.args.process c.args.number (class_at v c.args.number) (memory_of v) (memory_of x)) (sym e)
    (flushes-with v c.args.process c.args.number c.requires.process)
