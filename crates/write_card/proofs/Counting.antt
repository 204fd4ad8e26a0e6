-- A part in a room has one node more than its own parts together, by the ranges of kinds that the code tests.
-- Assumes nothing.
use Prim.Native.Nat.{ℕ, ◌+◌, ◌≤◌}
use mathlib.Core.List.{List}
use mathlib.Core.Path.{◌≡◌, refl, ap, ◌∙◌}
use native.Mathlib.Decide.{dec_le}
use native.Mathlib.Omega.{arith}
use Rattle.chart_spec.specs.Chart.{Chart, size}
use Rattle.node.specs.declared.Node.{Node}
use Rattle.node_spec.specs.Kind.{Pair, paired}
use Rattle.node_spec.specs.Kind.Pair.{composed, choice}
use Rattle.node_spec.proofs.Ranges.{three_to_six_are_pairs}
use Rattle.room_spec.specs.Room.{chart_in}
use Rattle.room_spec.proofs.Apart.{Reading, empty_here, action_here, pair_here, loop_here, unknown_here}

size_of_a_pair : (q : Pair) (l r : Chart) → size (paired q l r) ≡ 1 + (size l + size r)
size_of_a_pair (composed o) l r = refl
size_of_a_pair choice l r = refl

module _ (r : Reading) where
  abbrev room : List ℕ
  room = r.room

  abbrev pub n : Node
  n = r.node

  abbrev pub whole : Chart
  whole = chart_in room r.place

  abbrev pub left : Chart
  left = chart_in room n.a

  abbrev pub right : Chart
  right = chart_in room n.b

  pub a_leaf_is_one : n.kind ≤ 2 → size whole ≡ 1
  a_leaf_is_one high = by (dec_le 1 n.kind)
    where
      by : Dec (1 ≤ n.kind) → size whole ≡ 1
      by (yes low) = let (receives, e, acts) = action_here r low high in ap size acts
      by (no none) = ap size (empty_here r (omega arith))

  pub the_unknown_is_one : 11 ≤ n.kind → size whole ≡ 1
  the_unknown_is_one k = ap size (unknown_here r k)

  pub a_pair_is_one_more : 3 ≤ n.kind → n.kind ≤ 6 → size whole ≡ 1 + (size left + size right)
  a_pair_is_one_more low high =
      let (q, e) = three_to_six_are_pairs n.kind low high in
      ap size (pair_here r q e) ∙ size_of_a_pair q left right

  pub a_loop_is_one_more : 7 ≤ n.kind → n.kind ≤ 10 → size whole ≡ 1 + size left
  a_loop_is_one_more low high = let (k, e, again) = loop_here r low high in ap size again
