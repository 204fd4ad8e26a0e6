-- `depth` ends, and the depth of a chart is at most its place number plus one. Assumes nothing.
use Rattle.std.proofs.Common.{ℕ, ◌≡◌, arith}
use Rattle.room_spec.proofs.Apart.{Reading, left_lower, right_lower, body_lower}
use Rattle.test_deepest.proofs.+depth.Goals as goal
use Rattle.test_deepest.proofs.+depth.Goals.{After-read-node}

-- The part, with its node.
abbrev reading : {t : ℕ} (c : After-read-node t) → Reading
reading c =
    record {
      room = c.args.room.now;
      place = c.args.place;
      root = c.requires;
      node = c.read-node.result;
      here = c.read-node.ensures;
    }

-- The measure is the place number.
at_place : {t : ℕ} (c : After-read-node t) → (reading c).place ≡ t
at_place c = c.decreases

pub depth-requires : goal.depth-requires
depth-requires t c =
    let r = (goal.at.depth-requires t c).After-read-node in
    let (lower, root) = left_lower (reading r) (omega arith) (omega arith) in
    (omega (arith, at_place r), root)

pub depth-requires-in-3-to-6 : goal.depth-requires-in-3-to-6
depth-requires-in-3-to-6 t c =
    let r = (goal.at.depth-requires-in-3-to-6 t c).After-read-node in
    let (lower, root) = right_lower (reading r) (omega arith) (omega arith) in
    (omega (arith, at_place r), root)

pub depth-requires-in-7-to-10 : goal.depth-requires-in-7-to-10
depth-requires-in-7-to-10 t c =
    let r = (goal.at.depth-requires-in-7-to-10 t c).After-read-node in
    let (lower, root) = body_lower (reading r) (omega arith) (omega arith) in
    (omega (arith, at_place r), root)

pub returns-in-3-to-6 : goal.returns-in-3-to-6
returns-in-3-to-6 t c =
    let r = (goal.at.returns-in-3-to-6 t c).After-read-node in
    let (left, l) = left_lower (reading r) (omega arith) (omega arith) in
    let (right, b) = right_lower (reading r) (omega arith) (omega arith) in
    omega (arith, c.max.ensures, c.depth.ensures, c.depth-in-3-to-6.ensures)

pub returns-in-7-to-10 : goal.returns-in-7-to-10
returns-in-7-to-10 t c =
    let r = (goal.at.returns-in-7-to-10 t c).After-read-node in
    let (lower, b) = body_lower (reading r) (omega arith) (omega arith) in
    omega (arith, c.depth-in-7-to-10.ensures)
