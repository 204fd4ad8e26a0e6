-- The note of a card.
-- Assumes nothing.
use Rattle.std.specs.Prelude.{ℕ, cond, List, [], eqb, take}
use Rattle.card_spec.specs.Parts.{first_at}
use Rattle.card_spec.specs.Checking.{checking}

-- The note is handed back as that part of the caller's own bytes; a refused card gives an empty part (01, The chart
-- card).
abbrev pub note_of : List ℕ → List ℕ
note_of card = cond (eqb (checking card).number 0) (take (first_at card) card) []
