-- `run` meets its contract: the card was found sound before it was laid. Assumes nothing.
use Rattle.std.proofs.Common.{sym, ◌∙◌}
use Rattle.room_lay.proofs.Onward.{whole_is_a_table, whole_is_rooted, whole_is_below}
use Rattle.test_deepest.proofs.run.Goals as goal

pub grow-many-requires : goal.grow-many-requires
grow-many-requires c =
    let card = c.in-Ok.sound in
    let whole = sym c.in-Some.is ∙ c.lay.ensures.0 in
    rw c.lay.ensures.1 (
      whole_is_a_table card.bytes.now c.args.room.now card.sound c.requires c.in-Some.root whole,
      whole_is_rooted card.bytes.now c.args.room.now card.sound c.requires c.in-Some.root whole,
      whole_is_below card.bytes.now c.args.room.now card.sound c.requires c.in-Some.root whole,
    )
