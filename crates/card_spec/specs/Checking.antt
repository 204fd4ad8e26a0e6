-- The answer to a card.
-- Assumes nothing.
use Rattle.std.specs.Prelude.{ℕ, List, [], ◌∷◌, leb, Result, Ok, Err}
use Rattle.number_spec.specs.declared.Refusal.{Refusal}
use Rattle.number_spec.specs.declared.Refusal.TheVariants.{CardFrame, BackDistance, Counts, TooDeep}
use Rattle.number_spec.specs.Refusals.{number_of, place_of, rule}
use Rattle.card_spec.specs.declared.Checked.{Checked}
use Rattle.card_spec.specs.Parts.{lifelines_of, messages_of, nodes_of}
use Rattle.card_spec.specs.Nodes.{count_of}
use Rattle.card_spec.specs.Figures.{depth_of, acting_of}
use Rattle.card_spec.specs.Findings.{framed, back_in_rule, counts_in_range, faulty, misused, or_else}

-- The order of refusals: 1 to 6 as numbered (01, Verdicts and numbers given).
abbrev pub findings : List ℕ → List (Result Unit Refusal)
findings card =
    rule CardFrame (framed card)
    ∷ rule BackDistance (back_in_rule card)
    ∷ rule Counts (counts_in_range card)
    ∷ faulty (lifelines_of card) (messages_of card) (nodes_of card)
    ∷ misused (nodes_of card)
    ∷ rule TooDeep (leb (depth_of (nodes_of card)) 16)
    ∷ []

-- The first finding that refuses.
abbrev pub first : List (Result Unit Refusal) → Result Unit Refusal
first [] = Ok tt
first (f ∷ fs) = or_else f (first fs)

-- A refusal: number, place and zero figures (01, Verdicts and numbers given).
abbrev pub refused : Refusal → Checked
refused refusal =
    record { number = number_of refusal; place = place_of refusal; nodes = 0; depth = 0; lifelines = 0 }

-- A sound card: number 0, place 0, its number of nodes, its depth, and the number of different lifelines that act in it
-- (01, The chart card).
abbrev pub soundness : List ℕ → Checked
soundness nodes =
    record { number = 0; place = 0; nodes = count_of nodes; depth = depth_of nodes; lifelines = acting_of nodes }

-- The answer to a card, given what was found.
abbrev pub answered : Result Unit Refusal → Checked → Checked
answered (Ok u) sound = sound
answered (Err refusal) sound = refused refusal

-- The answer to a card.
unfoldable pub checking : List ℕ → Checked
checking card = answered (first (findings card)) (soundness (nodes_of card))
