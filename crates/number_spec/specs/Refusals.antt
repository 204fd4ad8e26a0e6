-- The number and the place of each refusal, and the rule that it answers for (01, Verdicts and numbers given).
-- Assumes nothing.
use Rattle.std.specs.Prelude.{ℕ, Bool, cond, Result, Ok, Err}
use Rattle.number_spec.specs.declared.Refusal.{Refusal}
use Rattle.number_spec.specs.declared.Refusal.TheVariants.{
  CardFrame,
  BackDistance,
  Counts,
  FaultyNode,
  MisusedNode,
  TooDeep,
  LogLength,
  UndeclaredAction,
  AllowanceSpent,
  RoomExceeded,
  UndeclaredLifeline,
  NoLogLeft,
  OutputTooShort,
}

-- The number in 01's table.
abbrev pub number_of : Refusal → ℕ
number_of CardFrame = 1
number_of BackDistance = 2
number_of Counts = 3
number_of (FaultyNode node) = 4
number_of (MisusedNode node) = 5
number_of TooDeep = 6
number_of LogLength = 7
number_of (UndeclaredAction action) = 8
number_of AllowanceSpent = 9
number_of RoomExceeded = 10
number_of UndeclaredLifeline = 11
number_of NoLogLeft = 12
number_of OutputTooShort = 13

-- The place in 01's table: the node of 4 and 5, the action of 8, and 0 for any other.
abbrev pub place_of : Refusal → ℕ
place_of CardFrame = 0
place_of BackDistance = 0
place_of Counts = 0
place_of (FaultyNode node) = node
place_of (MisusedNode node) = node
place_of TooDeep = 0
place_of LogLength = 0
place_of (UndeclaredAction action) = action
place_of AllowanceSpent = 0
place_of RoomExceeded = 0
place_of UndeclaredLifeline = 0
place_of NoLogLeft = 0
place_of OutputTooShort = 0

-- A rule: unless it holds, it refuses.
abbrev pub rule : Refusal → Bool → Result Unit Refusal
rule refusal holds = cond holds (Ok tt) (Err refusal)
