-- `write` meets its contract: for each kind, what is written of the parts gives what is written of the chart.
-- Assumes nothing.
use mathlib.Core.Logic.{◌⊎◌, inl, inr}
use mathlib.Core.Path.{◌≡◌}
use native.Mathlib.Omega.{arith}
use Rattle.chart_spec.specs.Chart.Chart.{empty}
use Rattle.room_spec.specs.Room.{chart_in}
use Rattle.room_spec.proofs.Apart.{Reading, empty_here, unknown_here, left_lower, right_lower, body_lower}
use Rattle.write_card.specs.Outputs.{Writable}
use Rattle.write_spec.proofs.Nodes.{at_least_one}
use Rattle.write_card.proofs.Putting.{
  asks_action,
  action_written,
  asks_empty,
  empty_written,
  asks_left,
  asks_right,
  asks_parent,
  pair_written,
  asks_body,
  asks_loop,
  loop_written,
}
use Prim.Native.Nat.{ℕ, ◌<◌, ◌≤◌}
use Rattle.write_card.proofs.+write.Goals as goal
use Rattle.write_card.proofs.+write.Goals.{in_default-via-then-node-lt1, in_default-via-else-node-lt1+else-node-lt3+else-node-lt7+else-node-lt11, After-read-node, In-3-to-6, In-7-to-10, In_default}

-- The part, with its node.
abbrev reading : {t : ℕ} (c : After-read-node t) → Reading
reading c =
    record {
      room = c.args.room.now;
      place = c.args.place;
      root = c.requires.0;
      node = c.read-node.result;
      here = c.read-node.ensures;
    }

-- It can be written.
writable :
    {t : ℕ} (c : After-read-node t)
    → Writable (chart_in (reading c).room (reading c).place) c.args.first
    c.args.out.now
writable c = c.requires.1

-- The measure is the place number.
at_place : {t : ℕ} (c : After-read-node t) → (reading c).place ≡ t
at_place c = c.decreases

-- Neither an action nor a pair nor a loop.
neither : {t : ℕ} (c : In_default t) → (c.read-node.result.kind < 1) ⊎ (11 ≤ c.read-node.result.kind)
neither c =
    elim c.in_default.branch [
      | in_default-via-then-node-lt1 w ↦ inl (omega arith)
      | in_default-via-else-node-lt1+else-node-lt3+else-node-lt7+else-node-lt11 w ↦ inr (omega arith)
    ]

nothing_here : (r : Reading) → (r.node.kind < 1) ⊎ (11 ≤ r.node.kind) → chart_in r.room r.place ≡ empty
nothing_here r (inl low) = empty_here r (omega arith)
nothing_here r (inr high) = unknown_here r (omega arith)

-- A pair was read.
is_pair :
    {t : ℕ} (c : In-3-to-6 t)
    → (3 ≤ c.read-node.result.kind) × (c.read-node.result.kind ≤ 6)
is_pair c = (omega arith, omega arith)

-- A loop was read.
is_loop :
    {t : ℕ} (c : In-7-to-10 t)
    → (7 ≤ c.read-node.result.kind)
    × (c.read-node.result.kind ≤ 10)
is_loop c = (omega arith, omega arith)

pub put-requires : goal.put-requires
put-requires t c =
    let read = (goal.at.put-requires t c).After-read-node in
    let s = c.args in
    asks_action (reading read) s.first s.out.now (writable read) (omega arith) (omega arith)

pub write-right-requires : goal.write-right-requires
write-right-requires t c =
    let read = (goal.at.write-right-requires t c).After-read-node in
    let s = c.args in
    let (low, high) = is_pair (goal.at.write-right-requires t c).In-3-to-6 in
    let (lower, root) = left_lower (reading read) low high in (
      omega (arith, at_place read),
      (root, asks_left (reading read) s.first s.out.now (writable read) low high),
    )

pub write-parent-requires : goal.write-parent-requires
write-parent-requires t c =
    let read = (goal.at.write-parent-requires t c).After-read-node in
    let s = c.args in
    let (low, high) = is_pair (goal.at.write-parent-requires t c).In-3-to-6 in
    let l = c.write-right in
    let (lower, root) = right_lower (reading read) low high in (
      omega (arith, at_place read),
      (
        root,
        asks_right (reading read) s.first s.out.now (writable read) low high l.result
            l.new.out l.ensures,
      ),
    )

pub overflow_sub-right : goal.overflow_sub-right
overflow_sub-right t c =
    let r = reading (goal.at.overflow_sub-right t c).After-read-node in
    omega (arith, c.write-right.ensures.0, at_least_one (chart_in r.room r.node.a))

pub overflow_sub-parent : goal.overflow_sub-parent
overflow_sub-parent t c =
    let r = reading (goal.at.overflow_sub-parent t c).After-read-node in
    omega (arith, c.write-parent.ensures.0, at_least_one (chart_in r.room r.node.b))

pub put-requires-in-3-to-6 : goal.put-requires-in-3-to-6
put-requires-in-3-to-6 t c =
    let read = (goal.at.put-requires-in-3-to-6 t c).After-read-node in
    let s = c.args in
    let (low, high) = is_pair (goal.at.put-requires-in-3-to-6 t c).In-3-to-6 in
    let l = c.write-right in
    let m = c.write-parent in
    rw c.new.ensures
    (asks_parent (reading read) s.first s.out.now (writable read) low high l.result
    l.new.out l.ensures m.result m.new.out m.ensures)

pub write-parent-requires-in-7-to-10 : goal.write-parent-requires-in-7-to-10
write-parent-requires-in-7-to-10 t c =
    let read = (goal.at.write-parent-requires-in-7-to-10 t c).After-read-node in
    let s = c.args in
    let (low, high) = is_loop (goal.at.write-parent-requires-in-7-to-10 t c).In-7-to-10 in
    let (lower, root) = body_lower (reading read) low high in (
      omega (arith, at_place read),
      (root, asks_body (reading read) s.first s.out.now (writable read) low high),
    )

pub overflow_sub-parent-in-7-to-10 : goal.overflow_sub-parent-in-7-to-10
overflow_sub-parent-in-7-to-10 t c =
    let r = reading (goal.at.overflow_sub-parent-in-7-to-10 t c).After-read-node in
    omega (arith, c.write-parent-in-7-to-10.ensures.0, at_least_one (chart_in r.room r.node.a))

pub put-requires-in-7-to-10 : goal.put-requires-in-7-to-10
put-requires-in-7-to-10 t c =
    let read = (goal.at.put-requires-in-7-to-10 t c).After-read-node in
    let s = c.args in
    let (low, high) = is_loop (goal.at.put-requires-in-7-to-10 t c).In-7-to-10 in
    let b = c.write-parent-in-7-to-10 in
    rw c.new-in-7-to-10.ensures
    (asks_loop (reading read) s.first s.out.now (writable read) low high b.result
    b.new.out b.ensures)

pub put-requires-in_default : goal.put-requires-in_default
put-requires-in_default t c =
    let read = (goal.at.put-requires-in_default t c).After-read-node in
    let s = c.args in
    rw c.new-in_default.ensures
    (asks_empty (reading read) s.first s.out.now (writable read)
    (nothing_here (reading read) (neither (goal.at.put-requires-in_default t c).In_default)))

pub returns-in-1-to-2 : goal.returns-in-1-to-2
returns-in-1-to-2 t c =
    let read = (goal.at.returns-in-1-to-2 t c).After-read-node in
    let s = c.args in
    let p = c.put in
    action_written (reading read) s.first s.out.now (writable read) p.result p.new.out
    (omega arith)
    (omega arith) p.ensures

pub returns-in-3-to-6 : goal.returns-in-3-to-6
returns-in-3-to-6 t c =
    let read = (goal.at.returns-in-3-to-6 t c).After-read-node in
    let s = c.args in
    let (low, high) = is_pair (goal.at.returns-in-3-to-6 t c).In-3-to-6 in
    let l = c.write-right in
    let m = c.write-parent in
    let p = c.put-in-3-to-6 in
    let put = rw c.new.ensures at p.ensures in
    pair_written (reading read) s.first s.out.now (writable read) low high l.result
    l.new.out l.ensures m.result m.new.out m.ensures p.result p.new.out
    put

pub returns-in-7-to-10 : goal.returns-in-7-to-10
returns-in-7-to-10 t c =
    let read = (goal.at.returns-in-7-to-10 t c).After-read-node in
    let s = c.args in
    let (low, high) = is_loop (goal.at.returns-in-7-to-10 t c).In-7-to-10 in
    let b = c.write-parent-in-7-to-10 in
    let p = c.put-in-7-to-10 in
    let put = rw c.new-in-7-to-10.ensures at p.ensures in
    loop_written (reading read) s.first s.out.now (writable read) low high b.result
    b.new.out b.ensures p.result p.new.out put

pub returns-in_default : goal.returns-in_default
returns-in_default t c =
    let read = (goal.at.returns-in_default t c).After-read-node in
    let s = c.args in
    let p = c.put-in_default in
    let put = rw c.new-in_default.ensures at p.ensures in
    empty_written (reading read) s.first s.out.now (writable read)
    (nothing_here (reading read) (neither (goal.at.returns-in_default t c).In_default))
    p.result p.new.out put
