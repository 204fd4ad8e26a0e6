-- `is_in_order` meets its contract: each arm of the match knows the kind, and the definition for that kind is the arm's
-- two tests. Assumes nothing.
use native.Mathlib.Omega.{arith}
use borrow.Author.Tests.{ne_eqb, eq-eqb, lt-ltb, le-ltb}
use Rattle.node_spec.proofs.Ranges.{zero_is_nothing, one_and_two_are_actions, three_to_six_are_pairs}
use Rattle.node_spec.proofs.Ranges.{seven_to_ten_are_loops, above_ten_is_unknown}
use Rattle.card_faults.proofs.is_in_order.Goals as goal

pub returns-then-n-eq0 : goal.returns-then-n-eq0
returns-then-n-eq0 c =
    rw (
      eq-eqb _ _ c.if-c-eq0.true,
      zero_is_nothing _ c.in-0.is,
      eq-eqb _ _ c.if-n-eq0.true,
    )

pub returns-else-n-eq0 : goal.returns-else-n-eq0
returns-else-n-eq0 c =
    rw (
      eq-eqb _ _ c.if-c-eq0.true,
      zero_is_nothing _ c.in-0.is,
      ne_eqb _ _ c.if-n-eq0.false,
    )

pub returns-then-n-counts : goal.returns-then-n-counts
returns-then-n-counts c =
    let s = c.args in
    let (r, e) = one_and_two_are_actions s.n.kind
    (omega arith) (omega arith) in
    rw (eq-eqb _ _ c.if-c-eq0.true, e, lt-ltb _ _ c.if-n-counts.true)

pub returns-else-n-counts : goal.returns-else-n-counts
returns-else-n-counts c =
    let s = c.args in
    let (r, e) = one_and_two_are_actions s.n.kind (omega arith)
    (omega arith) in
    rw (eq-eqb _ _ c.if-c-eq0.true, e, le-ltb _ _ c.if-n-counts.false)

pub returns-then-n-i : goal.returns-then-n-i
returns-then-n-i c =
    let s = c.args in
    let (p, e) = three_to_six_are_pairs s.n.kind (omega arith) (omega arith) in
    rw (
      eq-eqb _ _ c.if-c-eq0.true,
      e,
      lt-ltb _ _ c.if-n-i.true,
    )

pub returns-else-n-i : goal.returns-else-n-i
returns-else-n-i c =
    let s = c.args in
    let (p, e) = three_to_six_are_pairs s.n.kind (omega arith) (omega arith) in
    rw (eq-eqb _ _ c.if-c-eq0.true, e, le-ltb _ _ c.if-n-i.false)

pub returns-then-n-eq0-2 : goal.returns-then-n-eq0-2
returns-then-n-eq0-2 c =
    let s = c.args in
    let (k, e) = seven_to_ten_are_loops s.n.kind (omega arith) (omega arith) in
    rw (
      eq-eqb _ _ c.if-c-eq0.true,
      e,
      eq-eqb _ _ c.if-n-eq0-2.true,
    )

pub returns-else-n-eq0-2 : goal.returns-else-n-eq0-2
returns-else-n-eq0-2 c =
    let s = c.args in
    let (k, e) = seven_to_ten_are_loops s.n.kind (omega arith) (omega arith) in
    rw (eq-eqb _ _ c.if-c-eq0.true, e, ne_eqb _ _ c.if-n-eq0-2.false)

pub returns-in_default : goal.returns-in_default
returns-in_default c =
    rw (eq-eqb _ _ c.if-c-eq0.true, above_ten_is_unknown c.args.n.kind (omega arith))
