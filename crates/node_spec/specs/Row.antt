-- A row of nodes and the charts that they stand for: what a card and a room have in common. A row is read once from
-- its first node to its last; a child is found among the charts of the nodes before its parent. This is defined for
-- every row, sound or not.
-- Assumes nothing.
use Rattle.std.specs.Prelude.{ℕ, ◌+◌, ◌-◌, max, ◌<◌, cond, List, [], ◌∷◌, ◌++◌, eqb, length, get_or}
use Rattle.chart_spec.specs.Action.{Every}
use Rattle.chart_spec.specs.Chart.{Chart}
use Rattle.chart_spec.specs.Chart.Chart.{empty, act, loop}
use Rattle.node.specs.declared.Node.{Node}
use Rattle.node_spec.specs.Kind.{Kind, kind_of, paired}
use Rattle.node_spec.specs.Kind.Kind.{nothing, action, pairs, loops, unknown}

-- The chart of a node of that kind, its children found among the charts before it: a is the lifeline and b the message;
-- or a the left child and b the right; or a the body (01, The chart card).
abbrev pub stands_as : Kind → List Chart → Node → Chart
stands_as nothing before n = empty
stands_as (action r) before n = act (record { line = n.a; receives = r; message = n.b })
stands_as (pairs p) before n = paired p (get_or before n.a empty) (get_or before n.b empty)
stands_as (loops k) before n = loop k (get_or before n.a empty)
stands_as unknown before n = empty

-- The chart of a node.
abbrev pub stands : List Chart → Node → Chart
stands before n = stands_as (kind_of n.kind) before n

-- The charts `before` a row, and then those of its nodes.
abbrev pub charts_after : List Chart → List Node → List Chart
charts_after before [] = before
charts_after before (n ∷ row) = charts_after (before ++ (stands before n ∷ [])) row

-- The charts of a row, one for each node.
unfoldable pub charts : List Node → List Chart
charts row = charts_after [] row

-- The chart of a row: its last node is the root (01, The chart card).
abbrev pub chart : List Node → Chart
chart row = get_or (charts row) (length row - 1) empty

-- The numbers of the children of a node of that kind: left and right, or the body (01, The chart card).
abbrev pub children_as : Kind → Node → List ℕ
children_as nothing n = []
children_as (action r) n = []
children_as (pairs p) n = n.a ∷ n.b ∷ []
children_as (loops k) n = n.a ∷ []
children_as unknown n = []

-- The numbers of a node's children.
abbrev pub children : Node → List ℕ
children n = children_as (kind_of n.kind) n

-- Every number of the list is below n.
abbrev pub Below : ℕ → List ℕ → Type 0
Below n ks = Every (λ k. k < n) ks

-- How many of the numbers are j.
abbrev pub times : ℕ → List ℕ → ℕ
times j [] = 0
times j (k ∷ ks) = cond (eqb k j) 1 0 + times j ks

-- The greatest value of f at these numbers, 0 if there is no number.
abbrev pub highest : (ℕ → ℕ) → List ℕ → ℕ
highest f [] = 0
highest f (k ∷ ks) = max (f k) (highest f ks)

-- How often node j is a child in the row; a pair may name it twice (01, Verdicts and numbers given, 5).
abbrev pub uses : List Node → ℕ → ℕ
uses [] j = 0
uses (n ∷ row) j = times j (children n) + uses row j
