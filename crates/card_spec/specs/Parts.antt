-- The parts of a card: a note, the nodes, and a trailer of six bytes that points back to the first node. They are
-- defined also for bytes that are no card; `Findings` says what makes bytes a card.
-- Assumes nothing.
use Rattle.std.specs.Prelude.{ℕ, ◌+◌, ◌-◌, ◌*◌, cond, List, ltb, length, get_or, take, drop}

-- Byte k of the trailer; 0 if the card is shorter than a trailer (01, The chart card).
unfoldable pub trailer_byte : List ℕ → ℕ → ℕ
trailer_byte card k = cond (ltb (length card) 6) 0 (get_or card (length card - 6 + k) 0)

-- The back distance, low byte first: the count of bytes from the first node to the trailer (01, The chart card).
abbrev pub back_of : List ℕ → ℕ
back_of card = trailer_byte card 0 + 256 * trailer_byte card 1

-- The declared number of lifelines (01, The chart card).
abbrev pub lifelines_of : List ℕ → ℕ
lifelines_of card = trailer_byte card 2

-- The declared number of messages (01, The chart card).
abbrev pub messages_of : List ℕ → ℕ
messages_of card = trailer_byte card 3

-- Where the trailer begins.
abbrev pub trailer_at : List ℕ → ℕ
trailer_at card = length card - 6

-- Where the first node begins, and the note ends.
abbrev pub first_at : List ℕ → ℕ
first_at card = trailer_at card - back_of card

-- The bytes of the nodes.
abbrev pub nodes_of : List ℕ → List ℕ
nodes_of card = take (trailer_at card - first_at card) (drop (first_at card) card)
