-- `lay_whole` meets its contract: after i turns the first i nodes stand in the first i places, and the rest is as it
-- was. Assumes nothing.
use Prim.Native.Nat.{◌<◌}
use native.Mathlib.Omega.{arith}
use lib.ListN.{length}
use Rattle.room_lay.proofs.Placed.{placed_so_far, one_node_more}
use Rattle.room_lay.proofs.lay_whole.Goals as goal

pub add-root-requires : goal.add-root-requires
add-root-requires c =
    let nodes = c.nodes-nodes in
    let at = c.loop-i in
    let all = rw nodes.ensures at c.count-count.ensures in
    placed_so_far c.args.card.now c.args.room.now nodes.result.now nodes.ensures at.i at.room
    at.invariant.0 c.requires.0 c.requires.2 (omega arith) (omega (arith, c.requires.1))

pub loop-i-preserved : goal.loop-i-preserved
loop-i-preserved c =
    let s = c.args in
    let nodes = c.nodes-nodes in
    let at = c.loop-i in
    let node = c.node_at-node in
    let added = c.add-root in
    let all = rw nodes.ensures at c.count-count.ensures in
    let enough : at.i < length s.room.now = omega (arith, c.requires.1) in
    let (next, root) =
    one_node_more s.card.now s.room.now nodes.result.now nodes.ensures at.i at.room at.invariant.0
    added.new.room added.result node.result node.ensures enough added.ensures.0
    added.ensures.1 in
    (next, root)
