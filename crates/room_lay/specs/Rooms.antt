-- Working definitions, which nobody has to believe: a card's chart laid into a room, one place for each node, in the
-- card's own order (01, How a log is executed, Places).
-- Assumes nothing.
use Rattle.std.specs.Prelude.{ℕ, ◌-◌, Bool, cond, List, Option, Some, None, map, ◌++◌, ltb, length, drop, Result, Ok, Err}
use Rattle.node.specs.Place.{word_of}
use Rattle.number_spec.specs.declared.Refusal.{Refusal}
use Rattle.number_spec.specs.declared.Refusal.TheVariants.{RoomExceeded}
use Rattle.card_spec.specs.Parts.{nodes_of}
use Rattle.card_spec.specs.Nodes.{count_of, row_to}
use Rattle.room_spec.specs.declared.Root.{Root}

-- The first n nodes in the first n places; beyond them the room is as it was.
abbrev pub placed : List ℕ → ℕ → List ℕ → List ℕ
placed nodes n room = map word_of (row_to nodes n) ++ drop n room

-- How many places the card's chart takes.
abbrev pub taken : List ℕ → ℕ
taken card = count_of (nodes_of card)

-- The chart exceeds the room.
abbrev pub exceeds : List ℕ → List ℕ → Bool
exceeds card room = ltb (length room) (taken card)

-- What laying returns: the root in the last of the places that the chart takes, unless the chart exceeds the room.
abbrev pub laying : List ℕ → List ℕ → Option Root
laying card room = cond (exceeds card room) None (Some (record { place = taken card - 1; used = taken card }))

-- The room afterwards; a room that the chart exceeds is left as it was.
abbrev pub laid_in : List ℕ → List ℕ → List ℕ
laid_in card room = cond (exceeds card room) room (placed (nodes_of card) (taken card) room)

-- What laying finds: "10 | the chart .. exceeds the usable room | 0" (01, Verdicts and numbers given). It decides what
-- is returned; but unlike with 1 to 8, the usable room is zeroed.
abbrev pub finding_of : Option Root → Result Unit Refusal
finding_of (Some root) = Ok tt
finding_of None = Err RoomExceeded
