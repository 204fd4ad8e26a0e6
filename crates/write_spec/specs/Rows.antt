-- A chart written down as a row of nodes. `chart` (node_spec/specs/Row.antt) reads it back.
-- Assumes nothing.
use Rattle.std.specs.Prelude.{ℕ, ◌+◌, ◌-◌, List, [], ◌∷◌, ◌++◌}
use Rattle.chart_spec.specs.Chart.{Chart, size}
use Rattle.chart_spec.specs.Chart.Chart.{empty, act, alt, pair, loop}
use Rattle.node.specs.declared.Node.{Node}
use Rattle.node_spec.specs.Kind.{Kind, number_of}
use Rattle.node_spec.specs.Kind.Pair.{composed, choice}
use Rattle.node_spec.specs.Kind.Kind.{nothing, action, pairs, loops}

-- A node of that kind (01, The chart card).
abbrev pub node_as : Kind → ℕ → ℕ → Node
node_as k a b = record { kind = number_of k; a = a; b = b }

-- The number of a chart's last node, its root, if its first node has that number.
abbrev pub root_from : ℕ → Chart → ℕ
root_from first c = first + size c - 1

-- The parent of two parts that were written one after the other.
abbrev pub parent_of : Kind → ℕ → Chart → Chart → Node
parent_of k first l r = node_as k (root_from first l) (root_from (first + size l) r)

-- The nodes of a chart, numbered from `first` on: "left part before right part before parent"
-- (01, Verdicts and numbers given).
unfoldable pub written : ℕ → Chart → List Node
written first empty = node_as nothing 0 0 ∷ []
written first (act a) = node_as (action a.receives) a.line a.message ∷ []
written first (alt l r) =
    (written first l ++ written (first + size l) r) ++ (parent_of (pairs choice) first l r ∷ [])
written first (pair o l r) =
    (written first l ++ written (first + size l) r) ++ (parent_of (pairs (composed o)) first l r ∷ [])
written first (loop k b) = written first b ++ (node_as (loops k) (root_from first b) 0 ∷ [])
