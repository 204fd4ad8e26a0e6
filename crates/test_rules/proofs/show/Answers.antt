-- `show` meets its contract: the card was found sound before it was laid. Assumes nothing.
use Rattle.std.proofs.Common.{sym, ◌∙◌, arith, replicate}
use Rattle.room_lay.proofs.Onward.{whole_is_a_table, whole_is_rooted, whole_is_below}
use Rattle.test_rules.proofs.show.Goals as goal

pub write_line-requires : goal.write_line-requires
write_line-requires c =
    let card = c.in-Ok.sound in
    let whole = sym c.in-Some.is ∙ c.lay.ensures.0 in
    rw c.lay.ensures.1 (whole_is_rooted card.bytes.now (replicate 64 0) card.sound (omega arith) c.in-Some.root whole)

pub walk-requires : goal.walk-requires
walk-requires c =
    let card = c.in-Ok.sound in
    let whole = sym c.in-Some.is ∙ c.lay.ensures.0 in
    rw c.lay.ensures.1 (
      whole_is_a_table card.bytes.now (replicate 64 0) card.sound (omega arith) c.in-Some.root whole,
      whole_is_rooted card.bytes.now (replicate 64 0) card.sound (omega arith) c.in-Some.root whole,
      whole_is_below card.bytes.now (replicate 64 0) card.sound (omega arith) c.in-Some.root whole,
    )
