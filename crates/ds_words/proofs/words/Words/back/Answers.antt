use Rattle.ds_words.proofs.Laws.{taken_there, backs_first, backs_shape}
use Rattle.ds_words.proofs.words.Words.back.Goals as goal

pub word-word-requires : goal.word-word-requires
word-word-requires c = taken_there c.args.self.now c.taken-entry.new.self c.args.process c.taken-entry.result _ c.requires c.taken-entry.ensures.oldest c.taken-entry.ensures.rest

pub set_word-requires : goal.set_word-requires
set_word-requires c = taken_there c.args.self.now c.taken-entry.new.self c.args.process c.taken-entry.result _ c.requires c.taken-entry.ensures.oldest c.taken-entry.ensures.rest

pub returns-clause-back : goal.returns-clause-back
returns-clause-back c =
    backs_first c.args.self.now c.taken-entry.new.self c.set_word.new.self c.args.process c.taken-entry.result _ c.word-word.result c.newer-persisted.result
    c.requires c.taken-entry.ensures.oldest c.taken-entry.ensures.rest c.word-word.ensures c.newer-persisted.ensures c.set_word.ensures

pub returns-clause-shape : goal.returns-clause-shape
returns-clause-shape c = backs_shape c.args.self.now c.taken-entry.new.self c.set_word.new.self c.args.process _ _ _ c.taken-entry.ensures.rest c.set_word.ensures
