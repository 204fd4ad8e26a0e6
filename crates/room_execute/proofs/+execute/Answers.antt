-- `execute` meets its contract: for each kind, the answers at the parts give the answer for the follow-ups of the
-- chart. Assumes nothing.
use mathlib.Core.Path.{◌≡◌}
use native.Mathlib.Omega.{arith}
use Rattle.std.proofs.lemmas.Result.{err_from_is_err_and}
use Rattle.chart_spec.specs.Action as chart
use Rattle.room_spec.specs.Building.{action_of}
use Rattle.room_spec.proofs.Apart.{Working}
use Rattle.room_execute.proofs.Placing.{
  at_an_empty,
  at_the_unknown,
  at_an_action,
  asks_left,
  asks_to_carry,
  on_its_left,
  asks_right,
  asks_to_turn,
  on_its_right,
  asks_body,
  no_round,
  one_round,
}
use Prim.Native.Nat.{ℕ, ◌≤◌}
use Rattle.room_execute.proofs.+execute.Goals as goal
use Rattle.room_execute.proofs.+execute.Goals.{After-read-node, In-3-to-6, In-7-to-10}

-- The part to be executed, with its node.
abbrev work : {t : ℕ} (c : After-read-node t) → Working
work c =
    record {
      reading =
          record {
            room = c.args.room.now;
            place = c.args.root.place;
            root = c.requires.1;
            node = c.read-node.result;
            here = c.read-node.ensures;
          };
      used = c.args.root.used;
      table = c.requires.0;
      below = c.requires.2;
    }

-- Which occurrence of which action.
abbrev occurrence : {t : ℕ} (c : After-read-node t) → ℕ
occurrence c = c.args.k

abbrev action : {t : ℕ} (c : After-read-node t) → chart.Action
action c = action_of c.args.action.now

-- A pair was read, or a loop.
is_pair : {t : ℕ} (c : In-3-to-6 t)
    → (3 ≤ c.read-node.result.kind) × (c.read-node.result.kind ≤ 6)
is_pair c = (omega arith, omega arith)

is_loop : {t : ℕ} (c : In-7-to-10 t)
    → (7 ≤ c.read-node.result.kind)
    × (c.read-node.result.kind ≤ 10)
is_loop c = (omega arith, omega arith)

-- The measure is the place number.
at_place : {t : ℕ} (c : After-read-node t) → (work c).reading.place ≡ t
at_place c = c.decreases

pub execute-requires : goal.execute-requires
execute-requires t c =
    let read = (goal.at.execute-requires t c).After-read-node in
    let (low, high) = is_pair (goal.at.execute-requires t c).In-3-to-6 in
    let (lower, stands) = asks_left (work read) (occurrence read) (action read) low high in
    rw c.at.ensures (omega (arith, at_place read), stands)

pub on_left-requires : goal.on_left-requires
on_left-requires t c =
    let read = (goal.at.on_left-requires t c).After-read-node in
    let (low, high) = is_pair (goal.at.on_left-requires t c).In-3-to-6 in
    let made = rw (c.at.ensures, c.in-Ok.is) at c.execute.ensures in
    asks_to_carry (work read) (occurrence read) (action read) low high c.execute.new.room c.in-Ok.x made

pub execute-right-requires : goal.execute-right-requires
execute-right-requires t c =
    let read = (goal.at.execute-right-requires t c).After-read-node in
    let (low, high) = is_pair (goal.at.execute-right-requires t c).In-3-to-6 in
    let none = rw (c.at.ensures, c.in-Err.is) at c.execute.ensures in
    let (lower, stands) = asks_right (work read) (occurrence read) (action read) low high
    c.execute.new.room c.in-Err.missing none in
    rw c.at-in-Err.ensures (omega (arith, at_place read), stands)

pub on_right-requires : goal.on_right-requires
on_right-requires t c =
    let read = (goal.at.on_right-requires t c).After-read-node in
    let (low, high) = is_pair (goal.at.on_right-requires t c).In-3-to-6 in
    let none = rw (c.at.ensures, c.in-Err.is) at c.execute.ensures in
    let right = rw c.at-in-Err.ensures at c.execute-right.ensures in
    asks_to_turn (work read) (occurrence read) (action read) low high
    c.execute.new.room c.in-Err.missing none
    c.execute-right.new.room c.execute-right.result right

pub execute-requires-in-7-to-10 : goal.execute-requires-in-7-to-10
execute-requires-in-7-to-10 t c =
    let read = (goal.at.execute-requires-in-7-to-10 t c).After-read-node in
    let (low, high) = is_loop (goal.at.execute-requires-in-7-to-10 t c).In-7-to-10 in
    let (lower, stands) = asks_body (work read) (occurrence read) (action read) low high in
    rw c.at-in-7-to-10.ensures (omega (arith, at_place read), stands)

pub returns-in_err-x-in-7-to-10 : goal.returns-in_err-x-in-7-to-10
returns-in_err-x-in-7-to-10 t c =
    let read = (goal.at.returns-in_err-x-in-7-to-10 t c).After-read-node in
    let (low, high) = is_loop (goal.at.returns-in_err-x-in-7-to-10 t c).In-7-to-10 in
    let none = rw (c.at-in-7-to-10.ensures, c.in_err-x-in-7-to-10.was) at c.execute-in-7-to-10.ensures in
    let handed = err_from_is_err_and c.from_residual.result c.from_residual.ensures.1 in
    rw (handed.1, handed.2)
    (no_round (work read) (occurrence read) (action read) low high c.execute-in-7-to-10.new.room
    c.in_err-x-in-7-to-10.field-0.0 none)

pub returns-in-1-to-2 : goal.returns-in-1-to-2
returns-in-1-to-2 t c =
    let read = (goal.at.returns-in-1-to-2 t c).After-read-node in
    let done = c.on_action in
    at_an_action (work read) (occurrence read) (action read) done.new.room
    done.result (omega arith) (omega arith)
    done.ensures

pub returns-in-Ok : goal.returns-in-Ok
returns-in-Ok t c =
    let read = (goal.at.returns-in-Ok t c).After-read-node in
    let (low, high) = is_pair (goal.at.returns-in-Ok t c).In-3-to-6 in
    let made = rw (c.at.ensures, c.in-Ok.is) at c.execute.ensures in
    let done = c.on_left in
    on_its_left (work read) (occurrence read) (action read) low high
    c.execute.new.room c.in-Ok.x made
    done.new.room done.result done.ensures

pub returns-in-Err : goal.returns-in-Err
returns-in-Err t c =
    let read = (goal.at.returns-in-Err t c).After-read-node in
    let (low, high) = is_pair (goal.at.returns-in-Err t c).In-3-to-6 in
    let none = rw (c.at.ensures, c.in-Err.is) at c.execute.ensures in
    let right = rw c.at-in-Err.ensures at c.execute-right.ensures in
    let done = c.on_right in
    on_its_right (work read) (occurrence read) (action read) low high
    c.execute.new.room c.in-Err.missing none
    c.execute-right.new.room c.execute-right.result right
    done.new.room done.result done.ensures

pub returns-in_ok-x-in-7-to-10 : goal.returns-in_ok-x-in-7-to-10
returns-in_ok-x-in-7-to-10 t c =
    let read = (goal.at.returns-in_ok-x-in-7-to-10 t c).After-read-node in
    let (low, high) = is_loop (goal.at.returns-in_ok-x-in-7-to-10 t c).In-7-to-10 in
    let made = rw (c.at-in-7-to-10.ensures, c.in_ok-x-in-7-to-10.was) at c.execute-in-7-to-10.ensures in
    let done = c.after_round in
    one_round (work read) (occurrence read) (action read) low high
    c.execute-in-7-to-10.new.room c.in_ok-x-in-7-to-10.x made
    done.new.room done.result done.ensures

pub returns-in_default : goal.returns-in_default
returns-in_default t c =
    let read = (goal.at.returns-in_default t c).After-read-node in
    at_an_empty (work read) (occurrence read) (action read) (omega arith)

pub returns-in_default-2 : goal.returns-in_default-2
returns-in_default-2 t c =
    let read = (goal.at.returns-in_default-2 t c).After-read-node in
    at_the_unknown (work read) (occurrence read) (action read) (omega arith)
