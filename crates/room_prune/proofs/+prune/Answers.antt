-- `prune` meets its contract: for each kind, what is left of the parts gives what pruning leaves.
-- Assumes nothing.
use mathlib.Core.Path.{◌≡◌}
use native.Mathlib.Omega.{arith}
use Rattle.room_spec.proofs.Apart.{Working}
use Rattle.room_prune.proofs.Left.{
  at_an_empty,
  at_the_unknown,
  at_another_action,
  at_an_action_on_it,
  asks_left,
  at_a_lost_order,
  asks_right_alone,
  at_an_alt_by_its_right,
  asks_right,
  at_a_pair,
  asks_body,
  above_body,
  at_a_loop,
}
use Prim.Native.Nat.{ℕ, ◌≤◌}
use Rattle.room_prune.proofs.+prune.Goals as goal
use Rattle.room_prune.proofs.+prune.Goals.{After-read-node, In-3-to-6, In-7-to-10}

-- The part to be pruned, with its node.
abbrev work : {t : ℕ} (c : After-read-node t) → Working
work c =
    record {
      reading =
          record {
            room = c.args.room.now;
            place = c.args.root.place;
            root = c.requires.1;
            node = c.read-node.result;
            here = c.read-node.ensures;
          };
      used = c.args.root.used;
      table = c.requires.0;
      below = c.requires.2;
    }

-- The lifeline.
abbrev lifeline : {t : ℕ} (c : After-read-node t) → ℕ
lifeline c = c.args.lifeline

-- A pair was read, or a loop.
is_pair : {t : ℕ} (c : In-3-to-6 t)
    → (3 ≤ c.read-node.result.kind) × (c.read-node.result.kind ≤ 6)
is_pair c = (omega arith, omega arith)

is_loop : {t : ℕ} (c : In-7-to-10 t)
    → (7 ≤ c.read-node.result.kind)
    × (c.read-node.result.kind ≤ 10)
is_loop c = (omega arith, omega arith)

-- The measure is the place number.
at_place : {t : ℕ} (c : After-read-node t) → (work c).reading.place ≡ t
at_place c = c.decreases

pub prune-requires : goal.prune-requires
prune-requires t c =
    let read = (goal.at.prune-requires t c).After-read-node in
    let (low, high) = is_pair (goal.at.prune-requires t c).In-3-to-6 in
    let (lower, stands) = asks_left (work read) (lifeline read) low high in
    rw c.at.ensures (omega (arith, at_place read), stands)

pub prune-right-requires : goal.prune-right-requires
prune-right-requires t c =
    let read = (goal.at.prune-right-requires t c).After-read-node in
    let (low, high) = is_pair (goal.at.prune-right-requires t c).In-3-to-6 in
    let left = rw (c.at.ensures, c.in-Some.is) at c.prune.ensures in
    let (lower, stands) = asks_right (work read) (lifeline read) low high c.prune.new.room c.in-Some.left left in
    rw c.at-in-Some.ensures (omega (arith, at_place read), stands)

pub prune-requires-in-None : goal.prune-requires-in-None
prune-requires-in-None t c =
    let read = (goal.at.prune-requires-in-None t c).After-read-node in
    let (low, high) = is_pair (goal.at.prune-requires-in-None t c).In-3-to-6 in
    let lost = rw (c.at.ensures, c.in-None.is) at c.prune.ensures in
    let (lower, stands) = asks_right_alone (work read) (lifeline read) low high c.prune.new.room lost in
    rw c.at-in-None.ensures (omega (arith, at_place read), stands)

pub prune-body-requires : goal.prune-body-requires
prune-body-requires t c =
    let read = (goal.at.prune-body-requires t c).After-read-node in
    let (low, high) = is_loop (goal.at.prune-body-requires t c).In-7-to-10 in
    let (lower, stands) = asks_body (work read) (lifeline read) low high in
    rw c.at-in-7-to-10.ensures (omega (arith, at_place read), stands)

pub loop_of-requires : goal.loop_of-requires
loop_of-requires t c =
    let read = (goal.at.loop_of-requires t c).After-read-node in
    above_body (work read) (lifeline read) c.prune-body.new.room c.prune-body.result
    (rw c.at-in-7-to-10.ensures at c.prune-body.ensures)

pub returns-in-1-to-2 : goal.returns-in-1-to-2
returns-in-1-to-2 t c =
    let read = (goal.at.returns-in-1-to-2 t c).After-read-node in
    at_an_action_on_it (work read) (lifeline read) (omega arith) (omega arith)
    c.if-node-lifeline.true

pub returns-in-Some : goal.returns-in-Some
returns-in-Some t c =
    let read = (goal.at.returns-in-Some t c).After-read-node in
    let (low, high) = is_pair (goal.at.returns-in-Some t c).In-3-to-6 in
    let left = rw (c.at.ensures, c.in-Some.is) at c.prune.ensures in
    let right = rw c.at-in-Some.ensures at c.prune-right.ensures in
    let done = c.pair_of.ensures in
    rw (done.0, done.1)
    (at_a_pair (work read) (lifeline read) low high c.prune.new.room c.in-Some.left left
    c.prune-right.new.room c.prune-right.result right)

pub returns-in-None : goal.returns-in-None
returns-in-None t c =
    let read = (goal.at.returns-in-None t c).After-read-node in
    let (low, high) = is_pair (goal.at.returns-in-None t c).In-3-to-6 in
    let lost = rw (c.at.ensures, c.in-None.is) at c.prune.ensures in
    at_an_alt_by_its_right (work read) (lifeline read) low high c.prune.new.room lost
    c.prune-in-None.new.room c.prune-in-None.result c.if-node-eq-ALT.true
    (rw c.at-in-None.ensures at c.prune-in-None.ensures)

pub returns-in-None-2 : goal.returns-in-None-2
returns-in-None-2 t c =
    let read = (goal.at.returns-in-None-2 t c).After-read-node in
    let (low, high) = is_pair (goal.at.returns-in-None-2 t c).In-3-to-6 in
    let lost = rw (c.at.ensures, c.in-None.is) at c.prune.ensures in
    at_a_lost_order (work read) (lifeline read) low high c.prune.new.room lost
    c.if-node-eq-ALT.false

pub returns-in-7-to-10 : goal.returns-in-7-to-10
returns-in-7-to-10 t c =
    let read = (goal.at.returns-in-7-to-10 t c).After-read-node in
    let (low, high) = is_loop (goal.at.returns-in-7-to-10 t c).In-7-to-10 in
    let done = c.loop_of.ensures in
    rw (done.0, done.1)
    (at_a_loop (work read) (lifeline read) c.prune-body.new.room c.prune-body.result low high
    (rw c.at-in-7-to-10.ensures at c.prune-body.ensures))

pub returns-in_default : goal.returns-in_default
returns-in_default t c =
    let read = (goal.at.returns-in_default t c).After-read-node in
    at_an_empty (work read) (lifeline read) (omega arith)

pub returns-in_default-2 : goal.returns-in_default-2
returns-in_default-2 t c =
    let read = (goal.at.returns-in_default-2 t c).After-read-node in
    at_another_action (work read) (lifeline read) (omega arith) (omega arith)
    c.if-node-lifeline.false

pub returns-in_default-3 : goal.returns-in_default-3
returns-in_default-3 t c =
    let read = (goal.at.returns-in_default-3 t c).After-read-node in
    at_the_unknown (work read) (lifeline read) (omega arith)
