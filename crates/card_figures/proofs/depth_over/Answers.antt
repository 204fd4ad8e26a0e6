-- `depth_over` meets its contract: each arm of the match knows the children. Assumes nothing.
use native.Mathlib.Omega.{arith}
use Rattle.node_spec.proofs.Ranges.{children_of_a_leaf, children_of_a_pair, children_of_a_loop, children_of_the_unknown}
use Rattle.node_spec.proofs.Ranges.{below_of_a_pair, below_of_a_loop}
use Rattle.card_figures.proofs.depth_over.Goals as goal

pub bounds-depths-a : goal.bounds-depths-a
bounds-depths-a c = (below_of_a_pair c.args.n (omega arith) (omega arith) c.requires.0).0

pub bounds-depths-b : goal.bounds-depths-b
bounds-depths-b c =
    let (a, b) = below_of_a_pair c.args.n (omega arith) (omega arith) c.requires.0 in
    omega arith

pub bounds-depths-a-in-7-to-10 : goal.bounds-depths-a-in-7-to-10
bounds-depths-a-in-7-to-10 c = below_of_a_loop c.args.n (omega arith) (omega arith) c.requires.0

pub returns-in-0-to-2 : goal.returns-in-0-to-2
returns-in-0-to-2 c =
    rw (children_of_a_leaf c.args.n (omega arith)) (omega arith)

pub returns-in-3-to-6 : goal.returns-in-3-to-6
returns-in-3-to-6 c =
    let n = c.args.n in
    rw (children_of_a_pair n (omega arith) (omega arith)) (omega arith)

pub returns-in-7-to-10 : goal.returns-in-7-to-10
returns-in-7-to-10 c =
    let n = c.args.n in
    rw (children_of_a_loop n (omega arith) (omega arith)) (omega arith)

pub returns-in_default : goal.returns-in_default
returns-in_default c =
    rw (children_of_the_unknown c.args.n (omega arith)) (omega arith)
