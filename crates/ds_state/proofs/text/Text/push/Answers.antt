use Rattle.std.proofs.Common.{ℕ, ◌<◌, List, length, subst, sym, arith}
use Rattle.ds_formula.specs.Limits.{TEXT_MOST}
use Rattle.ds_state.specs.Text.{padded_len}
use Rattle.ds_state.proofs.Padded.{padded_push}
use Rattle.ds_state.proofs.text.Text.push.Goals as goal

pub invariant_of-self : goal.invariant_of-self
invariant_of-self c =
    let len : ℕ = c.self.inside.len in
    let room = subst (λ (xs : List ℕ). length xs < TEXT_MOST) (sym c.self.view_is) c.requires in
    let same = padded_len c.self.inside.bytes c.self.inside.len c.self.invariant in
    padded_push c.self.inside.bytes c.self.inside.len c.args.byte c.self.invariant (omega (arith, room, same)) (let fits = c.ranges.byte.fits in omega (arith, fits))
