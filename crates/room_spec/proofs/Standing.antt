-- What stands in a room: the chart at a place is the chart of its node, and what is kept keeps its charts. Both come
-- from the laws of rows: what stands at a place depends only on the nodes up to it.
-- Assumes nothing.
use Prim.Native.Nat.{ℕ, ◌<◌, ◌≤◌}
use mathlib.Core.List.{List, ◌++◌, map-append}
use mathlib.Core.Path.{◌≡◌, refl, ap, sym, subst, ◌∙◌}
use native.Mathlib.Omega.{arith}
use lib.ListN.{length, get_or, take, drop, take-append-drop, length-take, length-map, get_or-map}
use lib.Seq.{get_or-take, take-take}
use Rattle.chart_spec.specs.Chart.Chart.{empty}
use Rattle.node.specs.Place.{node_of}
use Rattle.node_spec.specs.Row.{charts, stands, children, Below}
use Rattle.node_spec.proofs.Rows.{charts_keep, charts_at}
use Rattle.room_spec.specs.Room.{nodes_in, node_in, chart_in, Table, Kept}

-- The chart at a place is the chart of the node there.
pub chart_at :
    (room : List ℕ) (p : ℕ) → p < length room → Below p (children (node_in room p))
    → chart_in room p ≡ stands (charts (nodes_in room)) (node_in room p)
chart_at room p h low =
    let same : get_or (nodes_in room) p (node_of 0) ≡ node_in room p = get_or-map node_of room p 0 in
    let inside : p < length (nodes_in room) = omega (arith, length-map room node_of) in
    charts_at (nodes_in room) p (node_of 0) inside (rw same low) ∙ ap (stands (charts (nodes_in room))) same

-- The charts of the first places depend on these places alone.
chart_of_the_first :
    (room : List ℕ) (used p : ℕ) → p < used → p < length room → chart_in room p ≡ chart_in (take used room) p
chart_of_the_first room used p h inside =
    let split : nodes_in room ≡ nodes_in (take used room) ++ nodes_in (drop used room)
    = ap nodes_in (sym (take-append-drop used room)) ∙ map-append node_of (take used room) (drop used room) in
    ap (λ row. get_or (charts row) p empty) split
    ∙ charts_keep (nodes_in (take used room)) (nodes_in (drop used room)) p
    (omega (arith, length-map (take used room) node_of, length-take used room))

module _ (used : ℕ) (before after : List ℕ) (kept : Kept used before after) where
  pub kept_chart : (p : ℕ) → p < used → p < length before → chart_in after p ≡ chart_in before p
  kept_chart p h inside =
      chart_of_the_first after used p h (omega (arith, kept.long)) ∙ ap (λ row. chart_in row p) kept.same
      ∙ sym (chart_of_the_first before used p h inside)

  pub kept_node : (p : ℕ) → p < used → node_in after p ≡ node_in before p
  kept_node p h =
      ap node_of (sym (get_or-take used after p 0 h) ∙ ap (λ row. get_or row p 0) kept.same
      ∙ get_or-take used before p 0
      h)

  -- What is kept stays a table.
  pub kept_table : Table before used → Table after used
  kept_table table =
      record {
        usable = omega (arith, kept.long, table.usable);
        counted = omega (arith, kept.long, table.counted);
        lower = λ p h inside.
            subst (λ n. Below p (children n)) (sym (kept_node p h)) (table.lower p h (omega (arith, kept.long)));
      }

pub kept_self : (used : ℕ) (room : List ℕ) → Kept used room room
kept_self used room = record { long = refl; same = refl }

-- What is kept first in fewer places and then in more is kept in the fewer.
pub kept_then :
    (used more : ℕ) (before between after : List ℕ) → used ≤ more → Kept used before between → Kept more between after
    → Kept used before after
kept_then used more before between after h one two =
    record {
      long = two.long ∙ one.long;
      same = sym (take-take used more after h) ∙ ap (take used) two.same ∙ take-take used more between h
          ∙ one.same;
    }

-- The first places of a table are a table.
pub table_less : (room : List ℕ) (used less : ℕ) → less ≤ used → Table room used → Table room less
table_less room used less h table =
    record {
      usable = table.usable;
      counted = omega (arith, table.counted);
      lower = λ p l inside. table.lower p (omega arith) inside;
    }
