-- `on_right` meets its contract, by the kind of the pair. Assumes nothing.
use native.Mathlib.Omega.{arith}
use Rattle.room_spec.specs.Room.{chart_in}
use Rattle.room_pairs.proofs.Pairing.{in_a_strict, in_a_seq, in_a_par, in_an_alt}
use Rattle.room_pairs.proofs.on_right.Goals as goal

pub returns-in-3 : goal.returns-in-3
returns-in-3 c =
    let s = c.args in
    let done = c.right_of_strict in
    λ q is. in_a_strict s.room.now s.node.kind s.k s.lifeline s.right
    (chart_in s.room.now s.node.a)
    s.room.now done.result q is c.in-3.is (done.ensures s.lifeline)

pub returns-in-4 : goal.returns-in-4
returns-in-4 c =
    let s = c.args in
    let done = c.right_of_seq in
    λ q is. in_a_seq s.room.now s.node.kind s.k s.lifeline s.right
    (chart_in s.room.now s.node.a)
    done.new.room done.result q is c.in-4.is done.ensures

pub returns-in-5 : goal.returns-in-5
returns-in-5 c =
    let s = c.args in
    let done = c.right_of_par in
    λ q is. in_a_par s.room.now s.node.kind s.k s.lifeline s.right
    (chart_in s.room.now s.node.a)
    done.new.room done.result q is c.in-5.is
    (done.ensures s.k s.lifeline)

pub returns-in_default : goal.returns-in_default
returns-in_default c =
    let s = c.args in
    λ q is. in_an_alt s.room.now s.node.kind s.k s.lifeline s.right
    (chart_in s.room.now s.node.a)
    s.room.now s.right q is (λ e. omega arith) (λ e. omega arith) (λ e. omega arith)
    (λ before used xs start answer. answer)
