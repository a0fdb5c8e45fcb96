use Rattle.ds_explore_state.proofs.Ordered.{order_is_path}
use Rattle.ds_explore_state.proofs.laws.orders_are_paths.Goals as goal

pub returns : goal.returns
returns g c = λ states groups allowed places first edges graph kept known moves y order.
    order_is_path states groups (g.E.Endings.numbered c.args.endings.now) allowed places first edges graph kept known moves y order
