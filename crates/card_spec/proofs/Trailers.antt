-- The trailer's bytes, of a card that is shorter than a trailer and of one that is not.
-- Assumes nothing.
use Prim.Native.Nat.{ℕ, ◌+◌, ◌-◌, ◌<◌, ◌≤◌}
use mathlib.Core.List.{List}
use mathlib.Core.Path.{◌≡◌}
use borrow.Author.Tests.{lt-ltb, le-ltb}
use lib.ListN.{length, get_or}
use Rattle.card_spec.specs.Parts.{trailer_byte}

pub no_trailer : (card : List ℕ) (k : ℕ) → length card < 6 → trailer_byte card k ≡ 0
unfolding trailer_byte
no_trailer card k h = rw (lt-ltb (length card) 6 h)

pub trailer_there : (card : List ℕ) (k : ℕ) → 6 ≤ length card
    → trailer_byte card k ≡ get_or card (length card - 6 + k) 0
unfolding trailer_byte
trailer_there card k h = rw (le-ltb (length card) 6 h)
