use Rattle.ds_net.proofs.going_over.ServedSheet.go_over.Goals as goal

pub returns : goal.returns
returns g c = let over = c.in_ok-go_over_in_turn.ensures in (over.0, (over.1.0, (c.go_over_in_turn.new.backlog.list, over.1.1)), over.2)
