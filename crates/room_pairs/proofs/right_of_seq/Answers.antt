-- `right_of_seq` meets its contract: if the right has a follow-up, the left is pruned; if not, the left is asked
-- whether it evades the lifeline. Assumes nothing.
use Rattle.node_spec.proofs.Ranges.{seq_is_four}
use Rattle.room_spec.specs.Room.{chart_in}
use Rattle.room_pairs.proofs.Pairing.{seq_passed}
use Rattle.room_pairs.proofs.right_of_seq.Goals as goal

pub returns : goal.returns
returns c =
    let s = c.args in
    let part = rw (c.at.ensures, c.in-Some.is) at c.prune-pruned.ensures in
    let done = c.add.ensures in
    rw (c.in-Ok.is, done.0, done.1, c.new.ensures)
    (seq_passed s.room.now s.k s.lifeline c.in-Ok.x (chart_in s.room.now s.left) c.prune-pruned.new.room 4
    c.in-Some.part seq_is_four part.0 part.1)
