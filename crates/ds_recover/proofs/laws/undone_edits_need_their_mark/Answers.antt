use Rattle.ds_recover.proofs.Unmarked.{relied, unmarked_answer}
use Rattle.ds_recover.proofs.laws.undone_edits_need_their_mark.Goals as goal

pub returns : goal.returns
returns c = record { relied = relied; unmarked = unmarked_answer }
