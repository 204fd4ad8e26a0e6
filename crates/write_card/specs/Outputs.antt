-- Working definitions, which nobody has to believe: what it means that a node, or the nodes of a chart, were written
-- into an output, and what that requires.
-- Assumes nothing.
use Rattle.std.specs.Prelude.{ℕ, ◌+◌, ◌*◌, ◌≤◌, ◌<◌, List, ◌≡◌, length}
use Rattle.std.proofs.lemmas.List.Edits.{sets}
use Rattle.chart_spec.specs.Chart.{Chart, size}
use Rattle.node.specs.declared.Node.{Node}
use Rattle.card_spec.specs.Meaning.{Declared}
use Rattle.write_spec.specs.Rows.{written}
use Rattle.write_spec.specs.Cards.{record_of, records_of}

-- A node whose record can be stored in an output under that number: each of its numbers fits in a byte.
pub record Storable (n : Node) (number : ℕ) (out : List ℕ) : Type 0 where
  pub kind : n.kind < 256
  pub a : n.a < 256
  pub b : n.b < 256
  pub few : number < 256
  pub enough : (number + 1) * 4 ≤ length out

-- The record of a node was stored in an output under that number, and `next` is the number after it.
abbrev pub Stores : Node → ℕ → List ℕ → ℕ → List ℕ → Type 0
Stores n number before next after =
    (next ≡ number + 1) × (after ≡ sets before (number * 4) (record_of n))

-- A chart whose nodes can be written into an output from that number on.
pub record Writable (c : Chart) (first : ℕ) (out : List ℕ) : Type 0 where
  pub declared : Declared 16 64 c
  pub few : first + size c ≤ 255
  pub enough : (first + size c) * 4 ≤ length out

-- The nodes of a chart were written into an output from that number on, and `next` is the number after them.
abbrev pub Writes : Chart → ℕ → List ℕ → ℕ → List ℕ → Type 0
Writes c first before next after =
    (next ≡ first + size c) × (after ≡ sets before (first * 4) (records_of (written first c)))
