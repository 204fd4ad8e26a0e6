-- `check` meets its contract: a sound card gets its figures, any other what refuses it. Assumes nothing.
use mathlib.Core.Path.{sym, ◌∙◌}
use Rattle.card_spec.proofs.Answers.{found_so_refused, passed→sound}
use Rattle.card_spec.proofs.Promises.{nothing_refuses_exactly_sound_cards}
use Rattle.card_spec.proofs.Telling.{sound→faultless}
use Rattle.card_check.proofs.check.Goals as goal

pub acting-requires : goal.acting-requires
acting-requires c =
    let card = c.args.card.now in
    rw c.nodes-nodes.ensures
    (sound→faultless card ((nothing_refuses_exactly_sound_cards card).0 c.in-Ok.ensures.0))

pub returns-in-Ok : goal.returns-in-Ok
returns-in-Ok c =
    rw (c.count.ensures, c.acting.ensures, c.in-Ok.ensures.1, c.nodes-nodes.ensures)
    (sym (passed→sound c.args.card.now c.in-Ok.ensures.0))

pub returns-in-Err : goal.returns-in-Err
returns-in-Err c = c.refused.ensures ∙ sym (found_so_refused c.args.card.now c.in-Err.refusal c.in-Err.ensures)
