-- `walk` meets its contract: what was in use is kept while follow-ups are written. Assumes nothing.
use Rattle.room_spec.proofs.Apart.{kept_stands}
use Rattle.test_rules.proofs.walk.Goals as goal

pub follow_up-requires : goal.follow_up-requires
follow_up-requires c =
    kept_stands c.loop-step.part c.loop-step.room c.write_follow_ups.new.room c.write_follow_ups.ensures
    c.loop-step.invariant
