-- `cut` meets its contract: the card or the lifeline is refused; else `cut_in` makes the cut of the sound card.
-- Assumes nothing.
use mathlib.Core.Path.{◌∙◌}
use Rattle.cut_spec.proofs.Refusing.{asked_refused}
use Rattle.cut.proofs.cut.Goals as goal

pub returns-in-Err : goal.returns-in-Err
returns-in-Err c =
    let s = c.args in
    let (answer, out) = asked_refused s.card.now s.lifeline s.out.now c.in-Err.refusal c.in-Err.ensures in
    (c.refused.ensures ∙ answer, out)
