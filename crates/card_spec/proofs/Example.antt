-- The card that 01 prints is sound, and is the chart S of 01's table: left and right, emission and reception, lifeline
-- and message stand where 01 puts them. Proved by computing.
-- Assumes nothing.
use Prim.Native.Nat.{ℕ}
use mathlib.Core.List.{List, [], ◌∷◌}
use mathlib.Core.Path.{◌≡◌, refl}
use Rattle.chart_spec.specs.ByHand.{S}
use Rattle.node_spec.specs.Kind.{kind_of}
use Rattle.node_spec.specs.Row.{charts}
use Rattle.card_spec.specs.Parts.{trailer_byte}
use Rattle.card_spec.specs.Nodes.{card_chart}
use Rattle.card_spec.specs.Figures.{tally}
use Rattle.card_spec.specs.Checking.{checking}

-- "With chart 01 00 00 00 02 01 00 00 03 00 01 00 0C 00 02 01 57 4C" (01, Logs worked by hand).
abbrev pub printed : List ℕ
printed =
    0x01 ∷ 0x00 ∷ 0x00 ∷ 0x00 ∷ 0x02 ∷ 0x01 ∷ 0x00 ∷ 0x00 ∷ 0x03 ∷ 0x00 ∷ 0x01 ∷ 0x00
    ∷ 0x0C ∷ 0x00 ∷ 0x02 ∷ 0x01 ∷ 0x57 ∷ 0x4C ∷ []

pub the_printed_card_is_S : card_chart printed ≡ S
unfolding kind_of charts trailer_byte
the_printed_card_is_S = refl

pub the_printed_card_is_sound :
    checking printed ≡ record { number = 0; place = 0; nodes = 3; depth = 2; lifelines = 2 }
unfolding kind_of charts trailer_byte tally checking
the_printed_card_is_sound = refl
