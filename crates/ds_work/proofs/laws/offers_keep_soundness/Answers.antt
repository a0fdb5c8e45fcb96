use Rattle.ds_work.proofs.EachWork as laws
use Rattle.ds_work.proofs.laws.offers_keep_soundness.Goals as goal

pub returns : goal.returns
returns c = laws.offer_keep
