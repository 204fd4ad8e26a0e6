-- `count_all` meets its contract: after i turns the children of the first i nodes are counted. Assumes nothing.
use native.Mathlib.Omega.{arith}
use Rattle.node_spec.specs.Row.{children, Below}
use Rattle.node_spec.proofs.Trees.{below_more}
use Rattle.card_spec.specs.Nodes.{node_at}
use Rattle.card_tree.proofs.Counts.{none_counted, counts_are_small, one_more_counted}
use Rattle.card_tree.proofs.count_all.Goals as goal
use Rattle.card_tree.proofs.count_all.Goals.{After-node_at}

-- Each child of node i has a count.
low : (c : After-node_at) → Below 255 (children c.node_at.result)
low c =
    let i = c.loop-i.i in
    rw c.node_at.ensures
    (below_more i 255 (children (node_at c.args.nodes.now i)) (omega (arith, c.requires.0.few))
    (c.requires.0.lower i (omega arith)))

pub loop-i-init : goal.loop-i-init
loop-i-init c = rw c.requires.1 (none_counted c.args.nodes.now)

pub count_children-requires : goal.count_children-requires
count_children-requires c =
    let at = c.loop-i in
    (low c, counts_are_small c.args.nodes.now at.i at.counts (omega (arith, c.requires.0.few)) at.invariant)

pub loop-i-preserved : goal.loop-i-preserved
loop-i-preserved c =
    let nodes = c.args.nodes.now in
    let at = c.loop-i in
    one_more_counted nodes at.i at.counts _ _ c.node_at.ensures c.count_children.ensures
    (low (goal.at.loop-i-preserved c).After-node_at) at.invariant
