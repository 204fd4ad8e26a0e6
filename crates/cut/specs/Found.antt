-- A working definition, which nobody has to believe: the finding for a cut, from what pruning the card's chart
-- returned.
-- Assumes nothing.
use Rattle.std.specs.Prelude.{Option, Some, None, Result, Ok, Err}
use Rattle.number_spec.specs.declared.Refusal.{Refusal}
use Rattle.number_spec.specs.declared.Refusal.TheVariants.{NoLogLeft}
use Rattle.room_spec.specs.declared.Root.{Root}

-- "12 | cut: no log of the chart avoids the lifeline | 0" (01, Verdicts and numbers given).
abbrev pub finding_of : Option Root → Result Unit Refusal
finding_of (Some root) = Ok tt
finding_of None = Err NoLogLeft
