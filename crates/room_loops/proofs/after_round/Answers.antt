-- `after_round` meets its contract: the round that was begun, and the loop after it; for a weak loop, the pruned loop
-- before both. Assumes nothing.
use mathlib.Core.Path.{refl}
use Rattle.room_spec.specs.Room.{node_in}
use Rattle.room_loops.proofs.Rounding.{Going, at_another_loop, asks_to_prune, pruned_table, front_table, at_a_weak_loop}
use Rattle.room_loops.proofs.after_round.Goals as goal
use Rattle.room_loops.proofs.after_round.Goals.{Start}

-- The loop, with its node and the part that its body becomes.
abbrev going : (c : Start) → Going
going c =
    record {
      reading =
          record {
            room = c.args.room.now;
            place = c.args.place;
            root = c.requires.1;
            node = node_in c.args.room.now c.args.place;
            here = refl;
          };
      lifeline = c.args.lifeline;
      x = c.args.x;
      held = c.requires.0;
      below = c.requires.2;
    }

pub returns-then-node-ne-WEAK_LOOP : goal.returns-then-node-ne-WEAK_LOOP
returns-then-node-ne-WEAK_LOOP c =
    let begun = c.add-begun.ensures in
    let read = c.read-node.ensures in
    let other = rw read at c.if-node-ne-WEAK_LOOP.true in
    rw (begun.0, begun.1, c.new-round.ensures, c.between_rounds.ensures, read)
    (at_another_loop (going (goal.at.returns-then-node-ne-WEAK_LOOP c).Start) other)

pub prune-body-requires : goal.prune-body-requires
prune-body-requires c =
    let begun = c.add-begun.ensures in
    let read = c.read-node.ensures in
    let nine = rw read at c.if-node-ne-WEAK_LOOP.false in
    rw (c.at.ensures, begun.0, begun.1, c.new-round.ensures, c.between_rounds.ensures, read)
    (asks_to_prune (going (goal.at.prune-body-requires c).Start) nine)

pub loop_of-front-requires : goal.loop_of-front-requires
loop_of-front-requires c =
    let begun = c.add-begun.ensures in
    let read = c.read-node.ensures in
    let nine = rw read at c.if-node-ne-WEAK_LOOP.false in
    let pruned = rw (c.at.ensures, begun.0, begun.1, c.new-round.ensures, c.between_rounds.ensures, read) at
    c.prune-body.ensures in
    rw begun.0
    (pruned_table (going (goal.at.loop_of-front-requires c).Start) nine c.prune-body.new.room c.prune-body.result
    pruned)

pub add-requires : goal.add-requires
add-requires c =
    let begun = c.add-begun.ensures in
    let read = c.read-node.ensures in
    let nine = rw read at c.if-node-ne-WEAK_LOOP.false in
    let pruned = rw (c.at.ensures, begun.0, begun.1, c.new-round.ensures, c.between_rounds.ensures, read) at
    c.prune-body.ensures in
    let front = c.loop_of-front.ensures in
    rw (front.0, front.1, begun.0, read)
    (front_table (going (goal.at.add-requires c).Start) nine c.prune-body.new.room c.prune-body.result pruned)

pub returns : goal.returns
returns c =
    let begun = c.add-begun.ensures in
    let read = c.read-node.ensures in
    let nine = rw read at c.if-node-ne-WEAK_LOOP.false in
    let pruned = rw (c.at.ensures, begun.0, begun.1, c.new-round.ensures, c.between_rounds.ensures, read) at
    c.prune-body.ensures in
    let front = c.loop_of-front.ensures in
    let done = c.add.ensures in
    rw (done.0, done.1, c.new-whole.ensures, front.0, front.1, begun.0, read)
    (at_a_weak_loop (going (goal.at.returns c).Start) nine c.prune-body.new.room c.prune-body.result pruned)
