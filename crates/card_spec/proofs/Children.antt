-- A node has j as a child as often as the table counts, which goes by the ranges of the kind number.
-- Assumes nothing.
use Prim.Native.Nat.{ℕ, ◌<◌, ◌≤◌}
use mathlib.Core.Path.{◌≡◌}
use native.Mathlib.Decide.{dec_le}
use native.Mathlib.Omega.{arith}
use borrow.Author.Tests.{le-leb, lt-leb}
use Rattle.node.specs.declared.Node.{Node}
use Rattle.node_spec.specs.Row.{children, times}
use Rattle.node_spec.proofs.Ranges.{children_of_a_leaf, children_of_a_pair, children_of_a_loop, children_of_the_unknown}
use Rattle.card_spec.specs.Table.{child_in}

module _ (n : Node) (j : ℕ) where
  abbrev Alike : Type 0
  Alike = times j (children n) ≡ child_in n.kind n.a n.b j

  of_a_leaf : n.kind ≤ 2 → Alike
  of_a_leaf high =
      let low : n.kind < 3 = omega arith in
      rw (children_of_a_leaf n high, lt-leb 3 n.kind low)

  of_a_pair : 3 ≤ n.kind → n.kind ≤ 6 → Alike
  of_a_pair low high =
      rw (
        children_of_a_pair n low high,
        le-leb 3 n.kind low,
        le-leb n.kind 10 (omega arith),
        le-leb n.kind 6 high,
      )
      (omega arith)

  of_a_loop : 7 ≤ n.kind → n.kind ≤ 10 → Alike
  of_a_loop low high =
      rw (
        children_of_a_loop n low high,
        le-leb 3 n.kind (omega arith),
        le-leb n.kind 10 high,
        lt-leb n.kind 6 (omega arith),
      )
      (omega arith)

  of_the_unknown : 11 ≤ n.kind → Alike
  of_the_unknown low =
      rw (
        children_of_the_unknown n low,
        le-leb 3 n.kind (omega arith),
        lt-leb n.kind 10 (omega arith),
        lt-leb n.kind 6 (omega arith),
      )

  pub child_in_a_node : Alike
  child_in_a_node = by (dec_le n.kind 2) (dec_le n.kind 6) (dec_le n.kind 10)
    where
      by : Dec (n.kind ≤ 2) → Dec (n.kind ≤ 6) → Dec (n.kind ≤ 10) → Alike
      by (yes leaf) pair loop = of_a_leaf leaf
      by (no high) (yes pair) loop = of_a_pair (omega arith) pair
      by (no high) (no higher) (yes loop) = of_a_loop (omega arith) loop
      by (no high) (no higher) (no highest) = of_the_unknown (omega arith)
