-- `actor` meets its contract: one bit for an action, no bit for any other node. Assumes nothing.
use Prim.Native.Nat.{◌<◌}
use mathlib.Core.Path.{sym}
use native.Mathlib.Omega.{arith}
use Rattle.card_figures.proofs.Sets.{actor_is_held, one_actor, no_actor_in_nothing, no_actor_above}
use Rattle.card_figures.proofs.actor.Goals as goal
use Rattle.card_figures.proofs.actor.Goals.{In-1-to-2}

-- The lifeline of an action has a bit in the set.
held : (c : In-1-to-2) → c.args.n.a < 16
held c = actor_is_held c.args.n (omega arith) (omega arith)
    c.requires

pub overflow_cast-result : goal.overflow_cast-result
overflow_cast-result c =
    let small = held (goal.at.overflow_cast-result c).In-1-to-2 in
    omega arith

pub overflow_shl-result : goal.overflow_shl-result
overflow_shl-result c =
    held (goal.at.overflow_shl-result c).In-1-to-2

pub returns-in-1-to-2 : goal.returns-in-1-to-2
returns-in-1-to-2 c =
    sym (one_actor c.args.n (omega arith)
    (omega arith) (held (goal.at.returns-in-1-to-2 c).In-1-to-2))

pub returns-in-0 : goal.returns-in-0
returns-in-0 c = sym (no_actor_in_nothing c.args.n c.in-0.is)

pub returns-in_default : goal.returns-in_default
returns-in_default c = sym (no_actor_above c.args.n (omega arith))
