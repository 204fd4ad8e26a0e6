-- `note` meets its contract: a sound card has the bytes before its first node as its note, any other card none.
-- Assumes nothing.
use Prim.Native.Nat.{◌-◌}
use mathlib.Core.Path.{◌≡◌, sym}
use native.Mathlib.Omega.{arith}
use Rattle.std.proofs.Common.{rules}
use Rattle.card_spec.specs.Parts.{first_at}
use Rattle.card_spec.proofs.Answers.{note_of_a_sound_card, note_of_a_refused_card}
use Rattle.card_check.proofs.note.Goals as goal

pub returns-in-Ok : goal.returns-in-Ok
returns-in-Ok c =
    let card = c.args.card.now in
    let end : c.first_at-end.result - 0 ≡ first_at card = omega (arith, c.first_at-end.ensures) in
    (search rules, rw end (sym (note_of_a_sound_card card c.in-Ok.ensures.cases.1)))

pub returns-in-Err : goal.returns-in-Err
returns-in-Err c = (search rules, sym (note_of_a_refused_card c.args.card.now c.in-Err.field-0 c.in-Err.ensures.cases))
