-- `write_card` meets its contract: the nodes from number 0 on, and the trailer after them. Assumes nothing.
use Rattle.room_spec.specs.Room.{chart_in}
use Rattle.write_card.proofs.Whole.{held_is_writable, card_written}
use Rattle.write_card.proofs.write_card.Goals as goal

pub write-nodes-requires : goal.write-nodes-requires
write-nodes-requires c =
    let s = c.args in
    let (root, holds, enough) = c.requires in
    (root, held_is_writable s.counts.lifelines s.counts.messages (chart_in s.room.now s.place) s.out.now holds enough)

pub returns : goal.returns
returns c =
    let s = c.args in
    let written = c.write-nodes in
    card_written s.counts.lifelines s.counts.messages (chart_in s.room.now s.place) s.out.now written.result
    written.new.out c.put_trailer.new.out c.requires.2 written.ensures
    c.put_trailer.ensures
