-- The figures of a sound card beside its number of nodes: its depth, and the number of different lifelines that act
-- in it (01, The chart card).
-- Assumes nothing.
use Rattle.std.specs.Prelude.{ℕ, zero, suc, ◌+◌, Bool, false, cond, ◌||◌, List, [], ◌∷◌, eqb}
use Rattle.chart_spec.specs.Chart.{depth}
use Rattle.node.specs.declared.Node.{Node}
use Rattle.node_spec.specs.Kind.{Kind, kind_of}
use Rattle.node_spec.specs.Kind.Kind.{nothing, action, pairs, loops, unknown}
use Rattle.node_spec.specs.Row.{chart}
use Rattle.card_spec.specs.Nodes.{row_of}

-- The depth of the chart.
abbrev pub depth_of : List ℕ → ℕ
depth_of nodes = depth (chart (row_of nodes))

-- Whether a node is an action on lifeline d.
abbrev pub acts_as : Kind → Node → ℕ → Bool
acts_as nothing n d = false
acts_as (action r) n d = eqb n.a d
acts_as (pairs p) n d = false
acts_as (loops k) n d = false
acts_as unknown n d = false

-- Whether lifeline d acts in some node of the row.
abbrev pub acts : List Node → ℕ → Bool
acts [] d = false
acts (n ∷ row) d = acts_as (kind_of n.kind) n d || acts row d

-- How many numbers below n pass a test.
unfoldable pub tally : (ℕ → Bool) → ℕ → ℕ
tally p zero = 0
tally p (suc n) = cond (p n) 1 0 + tally p n

-- The number of different lifelines that act.
abbrev pub acting_of : List ℕ → ℕ
acting_of nodes = tally (acts (row_of nodes)) 16
