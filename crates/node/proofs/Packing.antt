-- A node packed into a place and unpacked is the same node, and a place unpacked and packed is the same number: by
-- division with remainder.
-- Assumes nothing.
use Prim.Native.Nat.{ℕ, ◌^◌, ◌<◌}
use mathlib.Core.Path.{◌≡◌}
use native.Mathlib.Omega.{arith}
use Rattle.node.specs.declared.Node.{Node}
use Rattle.node.specs.Place.{word_of, node_of, Fitting}

-- Unpacking what was packed gives the same three numbers.
pub unpacks_to_the_same_node : (n : Node) → Fitting n → node_of (word_of n) ≡ n
unpacks_to_the_same_node n fits =
    let kind : (node_of (word_of n)).kind ≡ n.kind = omega arith in
    let a : (node_of (word_of n)).a ≡ n.a = omega arith in
    let b : (node_of (word_of n)).b ≡ n.b = omega arith in
    rw (kind, a, b)

-- Packing what was unpacked gives the same number.
pub packs_to_the_same_word : (word : ℕ) → word < 2 ^ 32 → word_of (node_of word) ≡ word
packs_to_the_same_word word small = omega arith
