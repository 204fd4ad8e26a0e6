-- `right_of_par` meets its contract: the side is replaced, if it has a follow-up. Assumes nothing.
use Rattle.node_spec.proofs.Ranges.{par_is_five}
use Rattle.room_pairs.proofs.Pairing.{par_replaced}
use Rattle.room_pairs.proofs.right_of_par.Goals as goal

pub returns : goal.returns
returns c =
    let s = c.args in
    let beside = rw c.in_ok-x.was at c.requires in
    let done = c.add.ensures in
    rw (c.in_ok-x.was, done.0, done.1, c.new.ensures)
    (λ k d. par_replaced s.room.now k d 5 s.left c.in_ok-x.x par_is_five beside.0 beside.1)
