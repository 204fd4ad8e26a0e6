-- `count_children` meets its contract: each arm of the match knows the children. Assumes nothing.
use mathlib.Core.Path.{◌∙◌, ap}
use native.Mathlib.Omega.{arith}
use Rattle.node_spec.proofs.Ranges.{children_of_a_leaf, children_of_a_pair, children_of_a_loop, children_of_the_unknown}
use Rattle.node_spec.proofs.Ranges.{below_of_a_pair, below_of_a_loop}
use Rattle.card_tree.specs.Counting.{one_more}
use Rattle.card_tree.proofs.Counts.{one_more_grows_by_one}
use Rattle.card_tree.proofs.count_children.Goals as goal

pub count_child-requires : goal.count_child-requires
count_child-requires c =
    let n = c.args.n in
    let (a, b) = below_of_a_pair n (omega arith) (omega arith) c.requires.0 in
    (a, omega (arith, c.requires.1 n.a))

pub count_child-requires-in-3-to-6 : goal.count_child-requires-in-3-to-6
count_child-requires-in-3-to-6 c =
    let n = c.args.n in
    let (a, b) = below_of_a_pair n (omega arith) (omega arith) c.requires.0 in
    let counts = c.args.counts.now in
    let left = one_more_grows_by_one counts n.a n.a in
    let right = one_more_grows_by_one counts n.a n.b in (
      omega arith,
      rw c.count_child.ensures (omega (arith, c.requires.1 n.a, c.requires.1 n.b)),
    )

pub count_child-requires-in-7-to-10 : goal.count_child-requires-in-7-to-10
count_child-requires-in-7-to-10 c =
    let n = c.args.n in
    let a = below_of_a_loop n (omega arith) (omega arith) c.requires.0 in
    (a, omega (arith, c.requires.1 n.a))

pub returns-in-0-to-2 : goal.returns-in-0-to-2
returns-in-0-to-2 c =
    rw (children_of_a_leaf c.args.n (omega arith))

pub returns-in-3-to-6 : goal.returns-in-3-to-6
returns-in-3-to-6 c =
    let n = c.args.n in
    rw (children_of_a_pair n (omega arith) (omega arith))
    (c.count_child-in-3-to-6.ensures ∙ ap (λ counts. one_more counts n.b) c.count_child.ensures)

pub returns-in-7-to-10 : goal.returns-in-7-to-10
returns-in-7-to-10 c =
    let n = c.args.n in
    rw (children_of_a_loop n (omega arith) (omega arith)) c.count_child-in-7-to-10.ensures

pub returns-else-n-lt11 : goal.returns-else-n-lt11
returns-else-n-lt11 c =
    rw (children_of_the_unknown c.args.n (omega arith))
