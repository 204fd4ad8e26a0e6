-- `ask` meets its contract: for each kind, the answers at the parts give the answer for the chart. An action answers as
-- the question says, and all else as a law of the question says. Assumes nothing.
use mathlib.Core.Path.{◌≡◌}
use native.Mathlib.Omega.{arith}
use Rattle.room_spec.proofs.Apart.{Reading, left_lower, right_lower}
use Rattle.room_spec.proofs.Descending.{
  yes_at_empty,
  said_at_an_action,
  yes_at_a_loop,
  yes_at_the_unknown,
  alt_by_its_left,
  alt_by_its_right,
  pair_by_its_left,
  pair_by_its_right,
}
use Prim.Native.Nat.{ℕ}
use Rattle.room_ask.proofs.+ask.Given.{Over}
use Rattle.room_ask.proofs.+ask.Goals as goal
use Rattle.room_ask.proofs.+ask.Goals.{After-read-node}

-- The part, with its node.
abbrev reading : (g : Over) (t : ℕ) (c : After-read-node g t) → Reading
reading g t c =
    record {
      room = c.args.room.now;
      place = c.args.place;
      root = c.requires;
      node = c.read-node.result;
      here = c.read-node.ensures;
    }

-- The measure is the place number.
at_place : (g : Over) (t : ℕ) (c : After-read-node g t) → (reading g t c).place ≡ t
at_place g t c = c.decreases

pub ask-requires : goal.ask-requires
ask-requires g t c κs within =
    let read = (goal.at.ask-requires g t c).After-read-node in
    let six = c.in-6.is in
    let (lower, root) = left_lower (reading g t read) (omega arith) (omega arith) in
    (omega (arith, at_place g t read), (within, root))

pub ask-requires-else-ask : goal.ask-requires-else-ask
ask-requires-else-ask g t c κs within =
    let read = (goal.at.ask-requires-else-ask g t c).After-read-node in
    let six = c.in-6.is in
    let (lower, root) = right_lower (reading g t read) (omega arith) (omega arith) in
    (omega (arith, at_place g t read), (within, root))

pub ask-requires-in-3-to-5 : goal.ask-requires-in-3-to-5
ask-requires-in-3-to-5 g t c κs within =
    let read = (goal.at.ask-requires-in-3-to-5 g t c).After-read-node in
    let (lower, root) = left_lower (reading g t read) (omega arith) (omega arith) in
    (omega (arith, at_place g t read), (within, root))

pub ask-requires-then-ask-2 : goal.ask-requires-then-ask-2
ask-requires-then-ask-2 g t c κs within =
    let read = (goal.at.ask-requires-then-ask-2 g t c).After-read-node in
    let (lower, root) = right_lower (reading g t read) (omega arith) (omega arith) in
    (omega (arith, at_place g t read), (within, root))

pub returns-in-0 : goal.returns-in-0
returns-in-0 g t c =
    let read = reading g t (goal.at.returns-in-0 g t c).After-read-node in
    let descends = g.met.Q.Question.descends c.args.question in
    yes_at_empty descends read c.in-0.is

pub returns-then-ask : goal.returns-then-ask
returns-then-ask g t c =
    let read = reading g t (goal.at.returns-then-ask g t c).After-read-node in
    let descends = g.met.Q.Question.descends c.args.question in
    alt_by_its_left descends read c.ask.result c.ask.ensures c.in-6.is c.if-ask.true

pub returns-else-ask : goal.returns-else-ask
returns-else-ask g t c =
    let read = reading g t (goal.at.returns-else-ask g t c).After-read-node in
    let descends = g.met.Q.Question.descends c.args.question in
    alt_by_its_right descends read c.ask.result c.ask.ensures
    c.ask-else-ask.result c.ask-else-ask.ensures c.in-6.is c.if-ask.false

pub returns-in-1-to-2 : goal.returns-in-1-to-2
returns-in-1-to-2 g t c =
    let read = reading g t (goal.at.returns-in-1-to-2 g t c).After-read-node in
    let descends = g.met.Q.Question.descends c.args.question in
    said_at_an_action descends read (omega arith) (omega arith) c.at_action.result c.at_action.ensures

pub returns-then-ask-2 : goal.returns-then-ask-2
returns-then-ask-2 g t c =
    let read = reading g t (goal.at.returns-then-ask-2 g t c).After-read-node in
    let descends = g.met.Q.Question.descends c.args.question in
    pair_by_its_right descends read c.ask-in-3-to-5.result c.ask-in-3-to-5.ensures
    c.ask-then-ask-2.result c.ask-then-ask-2.ensures (omega arith) (omega arith) c.if-ask-2.true

pub returns-else-ask-2 : goal.returns-else-ask-2
returns-else-ask-2 g t c =
    let read = reading g t (goal.at.returns-else-ask-2 g t c).After-read-node in
    let descends = g.met.Q.Question.descends c.args.question in
    pair_by_its_left descends read c.ask-in-3-to-5.result c.ask-in-3-to-5.ensures
    (omega arith) (omega arith) c.if-ask-2.false

pub returns-in-7-to-10 : goal.returns-in-7-to-10
returns-in-7-to-10 g t c =
    let read = reading g t (goal.at.returns-in-7-to-10 g t c).After-read-node in
    let descends = g.met.Q.Question.descends c.args.question in
    yes_at_a_loop descends read (omega arith) (omega arith)

pub returns-in_default : goal.returns-in_default
returns-in_default g t c =
    let read = reading g t (goal.at.returns-in_default g t c).After-read-node in
    let descends = g.met.Q.Question.descends c.args.question in
    yes_at_the_unknown descends read (omega arith)
