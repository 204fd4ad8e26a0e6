-- `write_follow_ups` keeps what was in use: each follow-up is built above it. Assumes nothing.
use Rattle.room_spec.specs.Room.{Stands, Kept}
use Rattle.test_rules.proofs.write_follow_ups.Given as goal

abbrev pub invariant-loop-k : goal.invariant-loop-k
invariant-loop-k l = Stands l.room l.root × Kept l.root.used l.initial.room l.room
