-- `grow` goes from a part that stands in the room to its follow-up, and stays there if there is none. Assumes nothing.
use Rattle.room_spec.specs.Room.{Stands}
use Rattle.test_deepest.proofs.grow.Given as goal

abbrev pub invariant-loop : goal.invariant-loop
invariant-loop l = Stands l.room l.last
