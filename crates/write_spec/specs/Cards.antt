-- A chart written down as the bytes of a card without a note.
-- Assumes nothing.
use Rattle.std.specs.Prelude.{ℕ, ◌+◌, ◌*◌, ◌/◌, ◌%◌, ◌≤◌, List, [], ◌∷◌, ◌++◌}
use Rattle.chart_spec.specs.Chart.{Chart, size, depth}
use Rattle.node.specs.declared.Node.{Node}
use Rattle.card_spec.specs.Meaning.{Declared}
use Rattle.write_spec.specs.Rows.{written}

-- A node record of 4 bytes: kind, a, b, c; "c is never used" (01, The chart card).
abbrev pub record_of : Node → List ℕ
record_of n = n.kind ∷ n.a ∷ n.b ∷ 0 ∷ []

-- The records of a row, one after the other.
abbrev pub records_of : List Node → List ℕ
records_of [] = []
records_of (n ∷ row) = record_of n ++ records_of row

-- A trailer of 6 bytes: back distance, low byte first; number of lifelines, number of messages, then 57 4C hex
-- (01, The chart card).
abbrev pub trailer_of : ℕ → ℕ → ℕ → List ℕ
trailer_of back lifelines messages = back % 256 ∷ back / 256 ∷ lifelines ∷ messages ∷ 0x57 ∷ 0x4C ∷ []

-- How many bytes a chart's nodes take, which is the back distance (01, The chart card).
abbrev pub record_bytes : Chart → ℕ
record_bytes c = size c * 4

-- How many bytes its card has.
abbrev pub card_bytes : Chart → ℕ
card_bytes c = record_bytes c + 6

-- "A card without a note, the same counts, nodes with left part before right part before parent"
-- (01, Verdicts and numbers given).
abbrev pub card_of : ℕ → ℕ → Chart → List ℕ
card_of lifelines messages c = records_of (written 0 c) ++ trailer_of (record_bytes c) lifelines messages

-- A chart that a card can hold: counts in range, 1 to 255 nodes, declared lifelines and messages, depth at most 16
-- (01, The chart card).
pub record Holds (lifelines messages : ℕ) (c : Chart) : Type 0 where
  pub some_lifelines : 1 ≤ lifelines
  pub few_lifelines : lifelines ≤ 16
  pub some_messages : 1 ≤ messages
  pub few_messages : messages ≤ 64
  pub declared : Declared lifelines messages c
  pub few_nodes : size c ≤ 255
  pub shallow : depth c ≤ 16
