use Rattle.test_shared.proofs.pairs.ended.Goals as goal

pub returns : goal.returns
returns c = let h = c.close.ensures in (h.layout.0, h.rests)
