-- Working definitions, which nobody has to believe: a node as one number of 32 bits, as it stands in a place of the
-- room.
-- Assumes nothing.
use Rattle.std.specs.Prelude.{ℕ, ◌+◌, ◌*◌, ◌/◌, ◌%◌, ◌^◌, ◌<◌}
use Rattle.node.specs.declared.Node.{Node}

-- Two numbers in one: low in the lowest `width` bits, high above them.
abbrev pub joined : ℕ → ℕ → ℕ → ℕ
joined width high low = high * 2 ^ width + low % 2 ^ width

-- The kind in 4 bits and two place numbers of 14 bits (01, How a log is executed).
abbrev pub word_of : Node → ℕ
word_of n = joined 14 (joined 14 (n.kind % 2 ^ 4) n.a) n.b

-- The node that a number holds.
abbrev pub node_of : ℕ → Node
node_of word = record { kind = word / 2 ^ 28; a = word / 2 ^ 14 % 2 ^ 14; b = word % 2 ^ 14 }

-- A node whose three numbers fit into a place.
pub record Fitting (n : Node) : Type 0 where
  pub kind : n.kind < 2 ^ 4
  pub a : n.a < 2 ^ 14
  pub b : n.b < 2 ^ 14
