-- `on_left` meets its contract: of an alt the side alone remains, any other pair is built anew. Assumes nothing.
use Rattle.room_pairs.proofs.Pairing.{left_alone, left_replaced}
use Rattle.room_pairs.proofs.on_left.Goals as goal

pub returns-then-node-eq-ALT : goal.returns-then-node-eq-ALT
returns-then-node-eq-ALT c =
    let s = c.args in
    λ q e. left_alone s.room.now s.node.kind s.node.b s.x q e c.if-node-eq-ALT.true

pub returns : goal.returns
returns c =
    let s = c.args in
    let pre = c.requires in
    let other = c.if-node-eq-ALT.false in
    let done = c.add.ensures in
    rw (done.0, done.1, c.new.ensures)
    (λ q e. left_replaced s.room.now s.node.kind s.node.b s.x q e other pre.0 pre.1)
