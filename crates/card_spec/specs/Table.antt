-- Numbers 1 to 6 of the table in 01, "Verdicts and numbers given", a second time: as conditions on the bytes, in the
-- table's words and order. 1 to 5 share nothing with `Checking`; 6 shares the chart that the card is, and its depth.
-- proofs/Telling.antt shows that both say the same.
-- Assumes nothing.
use Rattle.std.specs.Prelude.{ℕ, zero, suc, ◌+◌, ◌-◌, ◌*◌, ◌/◌, ◌%◌, ◌<◌, ◌≤◌, cond, ◌&&◌, List, ◌≢◌, ◌⊎◌, ◌≡◌, eqb, leb, length, get_or}
use Rattle.chart_spec.specs.Chart.{depth}
use Rattle.card_spec.specs.Nodes.{card_chart}

-- Byte k of the card.
abbrev pub byte : List ℕ → ℕ → ℕ
byte card k = get_or card k 0

-- 1: card under 6 or over 4,096 bytes, or last two bytes wrong.
abbrev pub NoCard : List ℕ → Type 0
NoCard card =
    length card < 6 ⊎ 4096 < length card ⊎ byte card (length card - 2) ≢ 0x57 ⊎ byte card (length card - 1) ≢ 0x4C

-- The back distance, low byte first (01, The chart card).
abbrev pub back : List ℕ → ℕ
back card = byte card (length card - 6) + 256 * byte card (length card - 5)

-- The number of lifelines (01, The chart card).
abbrev pub lifelines : List ℕ → ℕ
lifelines card = byte card (length card - 4)

-- The number of messages (01, The chart card).
abbrev pub messages : List ℕ → ℕ
messages card = byte card (length card - 3)

-- 2: back distance out of rule (a multiple of 4 from 4 to 1,020), or larger than the bytes before the trailer.
abbrev pub BackOut : List ℕ → Type 0
BackOut card = back card % 4 ≢ 0 ⊎ back card < 4 ⊎ 1020 < back card ⊎ length card - 6 < back card

-- 3: lifelines (1 to 16) or messages (1 to 64) out of range.
abbrev pub CountsOut : List ℕ → Type 0
CountsOut card = lifelines card < 1 ⊎ 16 < lifelines card ⊎ messages card < 1 ⊎ 64 < messages card

-- How many nodes there are (01, The chart card).
abbrev pub count : List ℕ → ℕ
count card = back card / 4

-- Field k of node i: kind, a, b, c (01, The chart card).
abbrev pub field : List ℕ → ℕ → ℕ → ℕ
field card i k = byte card (length card - 6 - back card + (i * 4 + k))

-- 4: a node has an unknown kind,
abbrev pub UnknownKind : ℕ → Type 0
UnknownKind kind = 10 < kind

-- a non-zero unused field (c; a and b of kind 0; b of kinds 7 to 10),
abbrev pub UnusedSet : ℕ → ℕ → ℕ → ℕ → Type 0
UnusedSet kind a b c = c ≢ 0 ⊎ (kind ≡ 0 × (a ≢ 0 ⊎ b ≢ 0)) ⊎ (7 ≤ kind × kind ≤ 10 × b ≢ 0)

-- a lifeline or message not declared (kinds 1 and 2),
abbrev pub Undeclared : ℕ → ℕ → ℕ → ℕ → ℕ → Type 0
Undeclared lifelines messages kind a b = 1 ≤ kind × kind ≤ 2 × (lifelines ≤ a ⊎ messages ≤ b)

-- or a child not lower than itself (a of kinds 3 to 10, b of kinds 3 to 6).
abbrev pub NotLower : ℕ → ℕ → ℕ → ℕ → Type 0
NotLower i kind a b = (3 ≤ kind × kind ≤ 10 × i ≤ a) ⊎ (3 ≤ kind × kind ≤ 6 × i ≤ b)

-- A node is at fault.
abbrev pub Fault : ℕ → ℕ → ℕ → ℕ → ℕ → ℕ → ℕ → Type 0
Fault lifelines messages i kind a b c =
    UnknownKind kind ⊎ UnusedSet kind a b c ⊎ Undeclared lifelines messages kind a b ⊎ NotLower i kind a b

-- Node i of the card is at fault.
abbrev pub FaultAt : List ℕ → ℕ → Type 0
FaultAt card i =
    Fault (lifelines card) (messages card) i (field card i 0) (field card i 1) (field card i 2) (field card i 3)

-- How often a node of that kind has j as a child: in a of kinds 3 to 10, in b of kinds 3 to 6 (01, The chart card).
abbrev pub child_in : ℕ → ℕ → ℕ → ℕ → ℕ
child_in kind a b j =
    cond (leb 3 kind && leb kind 10) (cond (eqb a j) 1 0) 0 + cond (leb 3 kind && leb kind 6) (cond (eqb b j) 1 0) 0

-- How often j is a child of the first n nodes of the card.
abbrev pub child_of_first : List ℕ → ℕ → ℕ → ℕ
child_of_first card j zero = 0
child_of_first card j (suc i) =
    child_of_first card j i + child_in (field card i 0) (field card i 1) (field card i 2) j

-- 5: a node other than the root is a child zero times or more than once.
abbrev pub MisuseAt : List ℕ → ℕ → Type 0
MisuseAt card j = child_of_first card j (count card) ≡ 0 ⊎ 1 < child_of_first card j (count card)

-- 6: depth over 16.
abbrev pub TooDeep : List ℕ → Type 0
TooDeep card = 16 < depth (card_chart card)

-- The lowest such node.
pub record Lowest (At : ℕ → Type 0) (n p : ℕ) : Type 0 where
  pub inside : p < n
  pub here : At p
  pub none_lower : (j : ℕ) → j < p → ¬ At j

-- None of the conditions 1 to 3 holds.
pub record Trailed (card : List ℕ) : Type 0 where
  pub framed : ¬ NoCard card
  pub back : ¬ BackOut card
  pub counts : ¬ CountsOut card

-- Nor does 4, at any node.
pub record Ordered (card : List ℕ) : Type 0 where
  pub trailed : Trailed card
  pub nodes : (i : ℕ) → i < count card → ¬ FaultAt card i

-- Nor does 5, at any node but the root.
pub record Tree (card : List ℕ) : Type 0 where
  pub ordered : Ordered card
  pub once : (j : ℕ) → j < count card - 1 → ¬ MisuseAt card j

-- A sound card: nothing refuses it.
pub record Sound (card : List ℕ) : Type 0 where
  pub tree : Tree card
  pub shallow : ¬ TooDeep card

-- The number and place that a card is given, each under its exact condition.
pub data Told (card : List ℕ) : ℕ → ℕ → Type 0 where
  one : NoCard card → Told card 1 0
  two : ¬ NoCard card → BackOut card → Told card 2 0
  three : ¬ NoCard card → ¬ BackOut card → CountsOut card → Told card 3 0
  four : {i : ℕ} → Trailed card → Lowest (FaultAt card) (count card) i → Told card 4 i
  five : {j : ℕ} → Ordered card → Lowest (MisuseAt card) (count card - 1) j → Told card 5 j
  six : Tree card → TooDeep card → Told card 6 0
  sound : Sound card → Told card 0 0
