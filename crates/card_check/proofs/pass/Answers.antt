-- `pass` meets its contract: a card that nothing refuses is sound. Assumes nothing.
use Rattle.card_spec.proofs.Promises.{nothing_refuses_exactly_sound_cards}
use Rattle.card_check.proofs.pass.Goals as goal

pub invariant_of-result : goal.invariant_of-result
invariant_of-result c =
    record { sound = (nothing_refuses_exactly_sound_cards c.args.card.now).0 c.in_ok-measure.ensures.0 }
