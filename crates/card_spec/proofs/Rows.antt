-- The row of a card's first n nodes has length n.
-- Assumes nothing.
use Prim.Native.Nat.{ℕ, zero, suc}
use mathlib.Core.List.{List, [], ◌∷◌}
use mathlib.Core.Path.{◌≡◌, refl}
use native.Mathlib.Omega.{arith}
use lib.ListN.{length, length-append}
use Rattle.card_spec.specs.Nodes.{node_at, row_to}

pub length_row : (nodes : List ℕ) (n : ℕ) → length (row_to nodes n) ≡ n
length_row nodes zero = refl
length_row nodes (suc n) = omega (arith, length-append (row_to nodes n) (node_at nodes n ∷ []), length_row nodes n)
