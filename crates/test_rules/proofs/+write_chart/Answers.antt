-- `write_chart` ends, and reads only places of the chart. Assumes nothing.
use Rattle.std.proofs.Common.{ℕ, ◌≡◌, arith}
use Rattle.room_spec.proofs.Apart.{Reading, left_lower, right_lower, body_lower}
use Rattle.test_rules.proofs.+write_chart.Goals as goal
use Rattle.test_rules.proofs.+write_chart.Goals.{After-read-node}

-- The part, with its node.
abbrev reading : {t : ℕ} (c : After-read-node t) → Reading
reading c =
    record {
      room = c.args.room.now;
      place = c.args.place;
      root = c.requires;
      node = c.read-node.result;
      here = c.read-node.ensures;
    }

-- The measure is the place number.
at_place : {t : ℕ} (c : After-read-node t) → (reading c).place ≡ t
at_place c = c.decreases

pub write_chart-requires : goal.write_chart-requires
write_chart-requires t c =
    let r = (goal.at.write_chart-requires t c).After-read-node in
    let (lower, root) = left_lower (reading r) (omega arith) (omega arith) in
    (omega (arith, at_place r), root)

pub write_chart-requires-in-3-to-6 : goal.write_chart-requires-in-3-to-6
write_chart-requires-in-3-to-6 t c =
    let r = (goal.at.write_chart-requires-in-3-to-6 t c).After-read-node in
    let (lower, root) = right_lower (reading r) (omega arith) (omega arith) in
    (omega (arith, at_place r), root)

pub write_chart-requires-in-7-to-10 : goal.write_chart-requires-in-7-to-10
write_chart-requires-in-7-to-10 t c =
    let r = (goal.at.write_chart-requires-in-7-to-10 t c).After-read-node in
    let (lower, root) = body_lower (reading r) (omega arith) (omega arith) in
    (omega (arith, at_place r), root)
