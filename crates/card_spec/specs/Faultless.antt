-- A working definition, which nobody has to believe: what the code that counts children, depth and lifelines can rely
-- on after the first four rules.
-- Assumes nothing.
use Rattle.std.specs.Prelude.{ℕ, ◌≤◌, ◌<◌, List, T}
use Rattle.node_spec.specs.Kind.{kind_of}
use Rattle.node_spec.specs.Row.{children, Below}
use Rattle.card_spec.specs.Nodes.{count_of, node_at}
use Rattle.card_spec.specs.Figures.{acts_as}

-- One to 255 nodes, children lower than their parents, and lifelines that a set of 16 bits can hold. This is a clause
-- of four functions and no type: docs/DECISIONS.md names `acting`, and what that requires may not change; a type for the
-- other three would stand beside the clause.
pub record Faultless (nodes : List ℕ) : Type 0 where
  pub some : 1 ≤ count_of nodes
  pub few : count_of nodes ≤ 255
  pub lower : (i : ℕ) → i < count_of nodes → Below i (children (node_at nodes i))
  pub held : (i d : ℕ) → i < count_of nodes → T (acts_as (kind_of (node_at nodes i).kind) (node_at nodes i) d) → d < 16
