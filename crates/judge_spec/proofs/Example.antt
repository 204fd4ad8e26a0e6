-- The card and the log that 01 prints, as bytes, are judged as 01 says: 20 accepted, place 2, steps 2, places 6. Proved
-- by computing.
-- Assumes nothing.
use Prim.Native.Nat.{ℕ}
use mathlib.Core.List.{List, [], ◌∷◌}
use mathlib.Core.Path.{◌≡◌, refl}
use Rattle.chart_spec.specs.Executing.{follows, prune}
use Rattle.chart_spec.specs.Lending.{attempts, walk, answer}
use Rattle.node_spec.specs.Kind.{kind_of}
use Rattle.node_spec.specs.Row.{charts}
use Rattle.card_spec.specs.Parts.{trailer_byte}
use Rattle.card_spec.proofs.Example.{printed}
use Rattle.judge_spec.specs.Judgment.{judgment}

-- "And log 00 00 03 00" (01, Logs worked by hand).
abbrev pub printed_log : List ℕ
printed_log = 0x00 ∷ 0x00 ∷ 0x03 ∷ 0x00 ∷ []

-- "It prints exactly accepted 2 2 6", with the program's lending.
pub the_printed_log_is_accepted :
    judgment printed printed_log 1_000_000 16_384 ≡ record { number = 20; place = 2; steps = 2; places = 6 }
unfolding judgment answer walk attempts follows prune kind_of charts trailer_byte
the_printed_log_is_accepted = refl
