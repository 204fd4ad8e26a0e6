-- `cut_in` meets its contract: the chart is laid and pruned, and what is left of it, if anything, is written if the
-- output is long enough for its card. Assumes nothing.
use mathlib.Core.Path.{◌∙◌}
use native.Mathlib.Omega.{arith}
use Rattle.std.specs.Prelude.{None}
use Rattle.cut.proofs.Leaving.{
  few_places,
  asks_pruning,
  found_by_pruning,
  Left,
  part_left,
  asks_counting,
  asks_writing,
}
use Rattle.cut_spec.proofs.Refusing.{never_avoided, too_short, card_made}
use Rattle.cut.proofs.cut_in.Goals as goal
use Rattle.cut.proofs.cut_in.Goals.{In-Some}

-- What is left of the chart.
left :
    (c : In-Some)
    → Left c.args.card.bytes.now c.args.lifeline
    c.prune.new.room c.in-Some.part.place
left c =
    let s = c.args in
    let (declared, long) = c.requires in
    let laid = c.lay_whole-root in
    part_left s.card.bytes.now s.card.sound s.lifeline s.room.now long laid.result laid.ensures.0
    laid.new.room laid.ensures.1 c.prune.new.room c.in-Some.part
    (rw c.in-Some.is at c.prune.ensures)

pub lay_whole-root-requires : goal.lay_whole-root-requires
lay_whole-root-requires c =
    let card = c.args.card in
    let long = c.requires.1 in
    (card.sound, omega (arith, few_places card.bytes.now card.sound), omega arith)

pub prune-requires : goal.prune-requires
prune-requires c =
    let s = c.args in
    let (declared, long) = c.requires in
    let laid = c.lay_whole-root in
    asks_pruning s.card.bytes.now s.card.sound s.lifeline s.room.now long laid.result laid.ensures.0
    laid.new.room laid.ensures.1

pub returns-in_default : goal.returns-in_default
returns-in_default c =
    let s = c.args in
    let (declared, long) = c.requires in
    let laid = c.lay_whole-root in
    let lost = rw c.in_default.is at c.prune.ensures in
    let (answer, out) =
    never_avoided s.card.bytes.now s.lifeline s.out.now s.card.sound declared
    (found_by_pruning s.card.bytes.now s.card.sound s.lifeline s.room.now long laid.result laid.ensures.0
    laid.new.room laid.ensures.1 c.prune.new.room None lost) in
    (c.refused.ensures ∙ answer, out)

pub card_bytes-length-requires : goal.card_bytes-length-requires
card_bytes-length-requires c = asks_counting c.args.card.sound (left c)

pub returns-then-out-length : goal.returns-then-out-length
returns-then-out-length c =
    let in_part = (goal.at.returns-then-out-length c).In-Some in
    let s = in_part.args in
    let (declared, long) = in_part.requires in
    let part = left in_part in
    let bytes = rw part.stands at c.card_bytes-length.ensures in
    let (answer, out) =
    too_short s.card.bytes.now s.lifeline s.out.now s.card.sound declared part.evading (omega arith) in
    (c.refused-then-out-length.ensures ∙ answer, out)

pub write_card-requires : goal.write_card-requires
write_card-requires c =
    let in_part = (goal.at.write_card-requires c).In-Some in
    asks_writing in_part.args.card.sound (left in_part) c.counts-counts.result.lifelines
    c.counts-counts.result.messages in_part.args.out.now
    c.counts-counts.ensures.lifelines c.counts-counts.ensures.messages
    (omega (arith, c.card_bytes-length.ensures))

pub overflow_cast-result : goal.overflow_cast-result
overflow_cast-result c =
    let in_part = (goal.at.overflow_cast-result c).In-Some in
    omega (
      arith,
      c.card_bytes-length.ensures,
      (asks_counting in_part.args.card.sound
          (left in_part)).1,
    )

pub returns : goal.returns
returns c =
    let in_part = (goal.at.returns c).In-Some in
    let s = in_part.args in
    let (declared, long) = in_part.requires in
    let part = left in_part in
    let bytes = rw part.stands at c.card_bytes-length.ensures in
    let wrote = rw (part.stands, c.counts-counts.ensures.lifelines, c.counts-counts.ensures.messages) at
    c.write_card.ensures in
    card_made s.card.bytes.now s.lifeline s.out.now s.card.sound declared part.evading
    c.card_bytes-length.result
    c.write_card.new.out bytes (omega arith) wrote
