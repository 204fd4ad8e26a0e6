-- What stands at a place, taken apart by the ranges of kinds that the code tests: its chart, and that its parts stand
-- at lower places.
-- Assumes nothing.
use Prim.Native.Nat.{ℕ, suc, ◌≤◌, ◌<◌}
use mathlib.Core.Bool.{Bool}
use mathlib.Core.List.{List}
use mathlib.Core.Path.{◌≡◌, ap, sym, subst, ◌∙◌}
use native.Mathlib.Omega.{arith}
use lib.ListN.{length}
use Rattle.chart_spec.specs.Chart.{Order, Loop}
use Rattle.chart_spec.specs.Chart.Chart.{empty, act, alt, pair, loop}
use Rattle.node.specs.declared.Node.{Node}
use Rattle.node_spec.specs.Kind.{Kind, kind_of, Pair, paired}
use Rattle.node_spec.specs.Kind.Pair.{composed, choice}
use Rattle.node_spec.specs.Kind.Kind.{nothing, action, pairs, loops, unknown}
use Rattle.node_spec.specs.Row.{charts, stands, stands_as, children, Below}
use Rattle.node_spec.proofs.Ranges.{
  zero_is_nothing,
  one_and_two_are_actions,
  three_to_five_are_orders,
  six_is_the_choice,
  seven_to_ten_are_loops,
  above_ten_is_unknown,
  below_of_a_pair,
  below_of_a_loop,
}
use Rattle.room_spec.specs.declared.Root.{Root}
use Rattle.room_spec.specs.Room.{nodes_in, node_in, chart_in, Table, Rooted, Stands, Kept}
use Rattle.room_spec.proofs.Standing.{chart_at, kept_table, table_less}

-- Every place of a table is the root of a part.
pub table_rooted :
    (room : List ℕ) (used place : ℕ) → Table room used → place < used → place < length room → Rooted room place
table_rooted room used place table h inside =
    record { inside = inside; table = table_less room used (suc place) (omega arith) table }

-- A root in the places that are kept stays a root.
pub kept_rooted :
    (used : ℕ) (before after : List ℕ) (place : ℕ) → Kept used before after → Table before used → Rooted before place
    → place < used → Rooted after place
kept_rooted used before after place kept table root h =
    table_rooted after used place (kept_table used before after kept table) h
    (omega (arith, root.inside, kept.long))

-- A part stands where all that is in use with it is kept.
pub kept_stands :
    (root : Root) (before after : List ℕ) → Kept root.used before after → Stands before root → Stands after root
kept_stands root before after kept (table, rooted, below) = (
  kept_table root.used before after kept table,
  kept_rooted root.used before after root.place kept table rooted below,
  below,
)

-- A part at a place, and its node as it was read.
pub record Reading : Type 0 where
  pub room : List ℕ
  pub place : ℕ
  pub root : Rooted room place
  pub node : Node
  pub here : node ≡ node_in room place

-- The same, to be pruned or executed above the places in use.
pub record Working : Type 0 where
  pub reading : Reading
  pub used : ℕ
  pub table : Table reading.room used
  pub below : reading.place < used

module _ (r : Reading) where
  abbrev room : List ℕ
  room = r.room

  abbrev place : ℕ
  place = r.place

  abbrev n : Node
  n = r.node

  chart_as : (k : Kind) → kind_of n.kind ≡ k → chart_in room place ≡ stands_as k (charts (nodes_in room)) n
  chart_as k e =
      chart_at room place r.root.inside (r.root.table.lower place (omega arith) r.root.inside)
      ∙ ap (stands (charts (nodes_in room))) (sym r.here) ∙ ap (λ m. stands_as m (charts (nodes_in room)) n) e

  lower : Below place (children n)
  lower =
      subst (λ m. Below place (children m)) (sym r.here)
      (r.root.table.lower place (omega arith) r.root.inside)

  rooted_below : (p : ℕ) → p < place → Rooted room p
  rooted_below p h = table_rooted room (suc place) p r.root.table (omega arith) (omega (arith, r.root.inside))

  pub empty_here : n.kind ≡ 0 → chart_in room place ≡ empty
  empty_here k = chart_as nothing (zero_is_nothing n.kind k)

  pub action_here :
      1 ≤ n.kind → n.kind ≤ 2
      → (receives : Bool) × (kind_of n.kind ≡ action receives)
      × (chart_in room place ≡ act (record { line = n.a; receives = receives; message = n.b }))
  action_here low high =
      let (receives, e) = one_and_two_are_actions n.kind low high in (receives, e, chart_as (action receives) e)

  pub order_here :
      3 ≤ n.kind → n.kind ≤ 5
      → (o : Order) × (kind_of n.kind ≡ pairs (composed o))
      × (chart_in room place ≡ pair o (chart_in room n.a) (chart_in room n.b))
  order_here low high =
      let (o, e) = three_to_five_are_orders n.kind low high in (o, e, chart_as (pairs (composed o)) e)

  pub pair_here :
      (q : Pair) → kind_of n.kind ≡ pairs q
      → chart_in room place ≡ paired q (chart_in room n.a) (chart_in room n.b)
  pair_here q e = chart_as (pairs q) e

  pub alt_here : n.kind ≡ 6 → chart_in room place ≡ alt (chart_in room n.a) (chart_in room n.b)
  alt_here k = chart_as (pairs choice) (six_is_the_choice n.kind k)

  pub loop_here :
      7 ≤ n.kind → n.kind ≤ 10
      → (k : Loop) × (kind_of n.kind ≡ loops k) × (chart_in room place ≡ loop k (chart_in room n.a))
  loop_here low high = let (k, e) = seven_to_ten_are_loops n.kind low high in (k, e, chart_as (loops k) e)

  pub loop_of_that_kind : (k : Loop) → kind_of n.kind ≡ loops k → chart_in room place ≡ loop k (chart_in room n.a)
  loop_of_that_kind k e = chart_as (loops k) e

  pub unknown_here : 11 ≤ n.kind → chart_in room place ≡ empty
  unknown_here k = chart_as unknown (above_ten_is_unknown n.kind k)

  -- The parts of a pair and of a loop stand at lower places.
  pub left_lower : 3 ≤ n.kind → n.kind ≤ 6 → (n.a < place) × Rooted room n.a
  left_lower low high = let (a, b) = below_of_a_pair n low high lower in (a, rooted_below n.a a)

  pub right_lower : 3 ≤ n.kind → n.kind ≤ 6 → (n.b < place) × Rooted room n.b
  right_lower low high = let (a, b) = below_of_a_pair n low high lower in (b, rooted_below n.b b)

  pub body_lower : 7 ≤ n.kind → n.kind ≤ 10 → (n.a < place) × Rooted room n.a
  body_lower low high = let a = below_of_a_loop n low high lower in (a, rooted_below n.a a)
