-- `count` meets its contract: for each kind, the answers at the parts give the size of the chart.
-- Assumes nothing.
use mathlib.Core.Path.{◌≡◌, sym}
use native.Mathlib.Omega.{arith}
use Rattle.chart_spec.specs.Chart.{size}
use Rattle.room_spec.proofs.Apart.{Reading, left_lower, right_lower, body_lower}
use Rattle.write_card.proofs.Counting.{left, right}
use Rattle.write_card.proofs.Counting.{a_leaf_is_one, the_unknown_is_one, a_pair_is_one_more, a_loop_is_one_more}
use Prim.Native.Nat.{ℕ, ◌+◌, ◌≤◌}
use Rattle.write_card.proofs.+count.Goals as goal
use Rattle.write_card.proofs.+count.Goals.{After-read-node}

-- The part, with its node.
abbrev reading : {t : ℕ} (c : After-read-node t) → Reading
reading c =
    record {
      room = c.args.room.now;
      place = c.args.place;
      root = c.requires.0;
      node = c.read-node.result;
      here = c.read-node.ensures;
    }

-- The measure is the place number.
at_place : {t : ℕ} (c : After-read-node t) → (reading c).place ≡ t
at_place c = c.decreases

-- The parts of a pair, and of a loop, together have fewer nodes than the whole, which has at most 255.
pair_fits :
    {t : ℕ} (c : After-read-node t) → 3 ≤ (reading c).node.kind → (reading c).node.kind ≤ 6
    → size (left (reading c)) + size (right (reading c)) ≤ 254
pair_fits c low high = omega (arith, c.requires.1, a_pair_is_one_more (reading c) low high)

loop_fits :
    {t : ℕ} (c : After-read-node t) → 7 ≤ (reading c).node.kind → (reading c).node.kind ≤ 10
    → size (left (reading c)) ≤ 254
loop_fits c low high = omega (arith, c.requires.1, a_loop_is_one_more (reading c) low high)

pub count-requires : goal.count-requires
count-requires t c =
    let read = (goal.at.count-requires t c).After-read-node in
    let (lower, root) = left_lower (reading read) (omega arith) (omega arith) in
    let fits = pair_fits read (omega arith) (omega arith) in
    (omega (arith, at_place read), (root, omega arith))

pub count-requires-in-3-to-6 : goal.count-requires-in-3-to-6
count-requires-in-3-to-6 t c =
    let read = (goal.at.count-requires-in-3-to-6 t c).After-read-node in
    let (lower, root) = right_lower (reading read) (omega arith) (omega arith) in
    let fits = pair_fits read (omega arith) (omega arith) in
    (omega (arith, at_place read), (root, omega arith))

pub overflow_add-result : goal.overflow_add-result
overflow_add-result t c =
    let fits = pair_fits (goal.at.overflow_add-result t c).After-read-node (omega arith) (omega arith) in
    omega (arith, c.count.ensures, c.count-in-3-to-6.ensures)

pub overflow_add-result-in-3-to-6 : goal.overflow_add-result-in-3-to-6
overflow_add-result-in-3-to-6 t c =
    let fits = pair_fits (goal.at.overflow_add-result-in-3-to-6 t c).After-read-node (omega arith) (omega arith) in
    omega (arith, c.count.ensures, c.count-in-3-to-6.ensures)

pub count-requires-in-7-to-10 : goal.count-requires-in-7-to-10
count-requires-in-7-to-10 t c =
    let read = (goal.at.count-requires-in-7-to-10 t c).After-read-node in
    let (lower, root) = body_lower (reading read) (omega arith) (omega arith) in
    let fits = loop_fits read (omega arith) (omega arith) in
    (omega (arith, at_place read), (root, omega arith))

pub overflow_add-result-in-7-to-10 : goal.overflow_add-result-in-7-to-10
overflow_add-result-in-7-to-10 t c =
    let fits = loop_fits (goal.at.overflow_add-result-in-7-to-10 t c).After-read-node (omega arith) (omega arith) in
    omega (arith, c.count-in-7-to-10.ensures)

pub returns-in-3-to-6 : goal.returns-in-3-to-6
returns-in-3-to-6 t c =
    omega (
      arith,
      c.count.ensures,
      c.count-in-3-to-6.ensures,
      a_pair_is_one_more (reading (goal.at.returns-in-3-to-6 t c).After-read-node)
          (omega arith) (omega arith),
    )

pub returns-in-7-to-10 : goal.returns-in-7-to-10
returns-in-7-to-10 t c =
    omega (
      arith,
      c.count-in-7-to-10.ensures,
      a_loop_is_one_more
          (reading (goal.at.returns-in-7-to-10 t c).After-read-node) (omega arith) (omega arith),
    )

pub returns-in_default : goal.returns-in_default
returns-in_default t c = sym (a_leaf_is_one (reading (goal.at.returns-in_default t c).After-read-node) (omega arith))

pub returns-in_default-2 : goal.returns-in_default-2
returns-in_default-2 t c = sym (the_unknown_is_one (reading (goal.at.returns-in_default-2 t c).After-read-node)
    (omega arith))
