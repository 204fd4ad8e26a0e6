-- A working definition, which nobody has to believe: a set of numbers as bits.
-- Assumes nothing.
use Rattle.std.specs.Prelude.{ℕ, zero, suc, ◌+◌, ◌*◌, ◌^◌, Bool, cond}

-- The numbers below n that pass a test, as a set of n bits.
unfoldable pub bits_of : (ℕ → Bool) → ℕ → ℕ
bits_of p zero = 0
bits_of p (suc n) = cond (p n) 1 0 * 2 ^ n + bits_of p n
