-- `on_action` meets its contract: another action has no follow-up, this one has one. Assumes nothing.
use native.Mathlib.Omega.{arith}
use Rattle.room_spec.specs.Building.{action_of}
use Rattle.room_execute.proofs.Occurring.{another_action, passed_over, becomes_empty}
use Rattle.room_execute.proofs.on_action.Goals as goal

pub returns : goal.returns
returns c =
    let s = c.args in
    let asked = c.is in
    let done = c.add.ensures in
    rw (done.0, done.1, c.new.ensures)
    (becomes_empty s.room.now s.used s.k s.node (action_of s.action.now) asked.result asked.ensures
    c.if-not-is.false (omega arith)
    c.requires)

pub returns-then-k-gt0 : goal.returns-then-k-gt0
returns-then-k-gt0 c =
    let s = c.args in
    let asked = c.is in
    passed_over s.room.now s.used s.k s.node (action_of s.action.now) asked.result asked.ensures
    c.if-not-is.false (omega arith)

pub returns-then-not-is : goal.returns-then-not-is
returns-then-not-is c =
    let s = c.args in
    let asked = c.is in
    another_action s.room.now s.used s.k s.node (action_of s.action.now) asked.result asked.ensures
    c.if-not-is.true
