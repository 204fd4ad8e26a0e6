-- Nodes, read out of their bytes.
-- Assumes nothing.
use Rattle.std.specs.Prelude.{ℕ, zero, suc, ◌+◌, ◌*◌, ◌/◌, List, [], ◌∷◌, ◌++◌, length, get_or}
use Rattle.chart_spec.specs.Chart.{Chart}
use Rattle.node.specs.declared.Node.{Node}
use Rattle.node_spec.specs.Row.{chart}
use Rattle.card_spec.specs.Parts.{nodes_of}

-- How many nodes there are: node records of 4 bytes (01, The chart card).
abbrev pub count_of : List ℕ → ℕ
count_of nodes = length nodes / 4

-- Node i: kind, a, b (01, The chart card).
abbrev pub node_at : List ℕ → ℕ → Node
node_at nodes i =
    record { kind = get_or nodes (i * 4) 0; a = get_or nodes (i * 4 + 1) 0; b = get_or nodes (i * 4 + 2) 0 }

-- The fourth byte of node i, c, which is never used (01, The chart card).
abbrev pub spare_at : List ℕ → ℕ → ℕ
spare_at nodes i = get_or nodes (i * 4 + 3) 0

-- The first n nodes.
abbrev pub row_to : List ℕ → ℕ → List Node
row_to nodes zero = []
row_to nodes (suc n) = row_to nodes n ++ (node_at nodes n ∷ [])

-- All nodes.
abbrev pub row_of : List ℕ → List Node
row_of nodes = row_to nodes (count_of nodes)

-- The row of a card's nodes.
abbrev pub card_row : List ℕ → List Node
card_row card = row_of (nodes_of card)

-- The chart that a card is.
abbrev pub card_chart : List ℕ → Chart
card_chart card = chart (card_row card)
