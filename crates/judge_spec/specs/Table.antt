-- Numbers 7 and 8 of the table in 01, "Verdicts and numbers given", as conditions on the bytes; and what refuses a card
-- and a log, in the table's order. Numbers 1 to 6 are in card_spec/specs/Table.antt.
-- Assumes nothing.
use Rattle.std.specs.Prelude.{ℕ, ◌+◌, ◌*◌, ◌/◌, ◌%◌, ◌<◌, ◌≤◌, List, ◌≢◌, ◌⊎◌, length}
use Rattle.card_spec.specs.Table.{byte, lifelines, messages, Lowest, Sound, Told}

-- 7: log of odd length or over 256 bytes.
abbrev pub OddOrLong : List ℕ → Type 0
OddOrLong log = length log % 2 ≢ 0 ⊎ 256 < length log

-- 8: log action i has a lifeline or message not declared. "Two bytes an action: lifeline times 2, plus 0 for emission
-- or 1 for reception; then the message" (01, The log).
abbrev pub UndeclaredAt : List ℕ → List ℕ → ℕ → Type 0
UndeclaredAt card log i = lifelines card ≤ byte log (i * 2) / 2 ⊎ messages card ≤ byte log (i * 2 + 1)

-- A card and a log that nothing refuses.
pub record SoundBoth (card log : List ℕ) : Type 0 where
  pub sound : Sound card
  pub whole : ¬ OddOrLong log
  pub declared : (i : ℕ) → i < length log / 2 → ¬ UndeclaredAt card log i

-- The number and place with which a card and a log are refused, each under its exact condition: 1 to 8 as numbered.
pub data Refused (card log : List ℕ) : ℕ → ℕ → Type 0 where
  by_the_card : {number place : ℕ} → number ≢ 0 → Told card number place → Refused card log number place
  seven : Sound card → OddOrLong log → Refused card log 7 0
  eight : {i : ℕ} → Sound card → ¬ OddOrLong log → Lowest (UndeclaredAt card log) (length log / 2) i
      → Refused card log 8 i
