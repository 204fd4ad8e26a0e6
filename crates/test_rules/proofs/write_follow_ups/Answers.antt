-- `write_follow_ups` meets its contract: where a follow-up was built, the part still stands. Assumes nothing.
use Rattle.std.proofs.Common.{arith}
use Rattle.room_spec.proofs.Apart.{kept_stands}
use Rattle.room_spec.proofs.Standing.{kept_then}
use Rattle.test_rules.proofs.write_follow_ups.Goals as goal

pub loop-k-preserved : goal.loop-k-preserved
loop-k-preserved c = (
  kept_stands c.args.root c.loop-k.room c.follow_up.new.room c.follow_up.ensures.kept c.loop-k.invariant.0,
  kept_then c.args.root.used c.args.root.used c.args.room.now c.loop-k.room c.follow_up.new.room (omega arith)
      c.loop-k.invariant.1 c.follow_up.ensures.kept,
)
