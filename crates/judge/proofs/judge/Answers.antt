-- `judge` meets its contract: the card or the log is refused; if neither is, the usable room is cleared.
-- Assumes nothing.
use Prim.Native.Nat.{◌-◌}
use mathlib.Core.Path.{◌∙◌}
use native.Mathlib.Omega.{arith}
use Rattle.judge_spec.proofs.Refusing.{refusal_judges, both_sound}
use Rattle.judge.proofs.judge.Goals as goal

pub returns-in-Ok : goal.returns-in-Ok
returns-in-Ok c =
    let s = c.args in
    let (same, passed) = c.in-Ok.ensures in
    let judged = c.judge_sound in
    both_sound s.card.now s.log.now s.allowance s.room.now judged.result (c.usable-end.result - 0) judged.new.room
    passed (omega (arith, c.usable-end.ensures)) (rw same at judged.ensures.0) judged.ensures.1

pub returns-in-Err : goal.returns-in-Err
returns-in-Err c =
    let s = c.args in
    let (answer, room) =
    refusal_judges s.card.now s.log.now s.allowance s.room.now c.in-Err.refusal c.in-Err.ensures in
    (c.refused.ensures ∙ rw (c.number_of.ensures, c.place_of.ensures) answer, room)
