-- No request has a float.
use Rattle.std.proofs.Common.{◌≡◌, false, refl, Some, None}
use Rattle.serde_json.specs.Written.{has_float}
use Rattle.ds_client.specs.Asks.{Wish, Join, JoinAny, Set, Undo, Report, View, Get, History, Outcome, Last}
use Rattle.ds_client.specs.Requests.{wish_data}

-- no request has a float
pub wish_no_float : (wish : Wish) → has_float (wish_data wish) ≡ false
wish_no_float (Join process None None) = refl
wish_no_float (Join process None (Some token)) = refl
wish_no_float (Join process (Some done) None) = refl
wish_no_float (Join process (Some done) (Some token)) = refl
wish_no_float (Set cell text None) = refl
wish_no_float (Set cell text (Some key)) = refl
wish_no_float (JoinAny None) = refl
wish_no_float (JoinAny (Some token)) = refl
wish_no_float (Undo cell) = refl
wish_no_float (Get cell None) = refl
wish_no_float (Get cell (Some token)) = refl
wish_no_float (History from None) = refl
wish_no_float (History from (Some token)) = refl
wish_no_float (Outcome key None) = refl
wish_no_float (Outcome key (Some token)) = refl
wish_no_float (View None) = refl
wish_no_float (View (Some token)) = refl
wish_no_float Report = refl
wish_no_float Last = refl
