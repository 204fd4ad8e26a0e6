-- Working definitions, which nobody has to believe: what is left of a pair and of a loop, given what is left of their
-- parts, and the room afterwards. proofs/Left.antt shows that this is pruning.
-- Assumes nothing.
use Rattle.std.specs.Prelude.{ℕ, cond, List, Option, Some, None, eqb}
use Rattle.room_spec.specs.declared.Root.{Root}
use Rattle.room_spec.specs.Building.{added, root_at}

-- The places in use after pruning, where `used` were in use before.
abbrev pub above : Option Root → ℕ → ℕ
above (Some root) used = root.used
above None used = used

-- A pair of what is left of both sides. If nothing is left of the right side, what is left is the left side of an alt
-- (kind 6), and nothing of any other pair.
abbrev pub pair_of : List ℕ → ℕ → Root → Option Root → Option Root
pair_of room kind left (Some right) = Some (root_at room right.used)
pair_of room kind left None = cond (eqb kind 6) (Some left) None

abbrev pub pair_in : List ℕ → ℕ → Root → Option Root → List ℕ
pair_in room kind left (Some right) =
    added room right.used (record { kind = kind; a = left.place; b = right.place })
pair_in room kind left None = room

-- A loop of what is left of the body, or an empty if nothing is left.
abbrev pub loop_of : List ℕ → Option Root → ℕ → Root
loop_of room body used = root_at room (above body used)

abbrev pub loop_in : List ℕ → ℕ → Option Root → ℕ → List ℕ
loop_in room kind (Some root) used = added room root.used (record { kind = kind; a = root.place; b = 0 })
loop_in room kind None used = added room used (record { kind = 0; a = 0; b = 0 })
