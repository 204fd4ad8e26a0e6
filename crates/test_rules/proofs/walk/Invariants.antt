-- `walk` goes from a part that stands in the room to the next. Assumes nothing.
use Rattle.room_spec.specs.Room.{Stands}
use Rattle.test_rules.proofs.walk.Given as goal

abbrev pub invariant-loop-step : goal.invariant-loop-step
invariant-loop-step l = Stands l.room l.part
