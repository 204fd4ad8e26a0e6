-- A working definition, which nobody has to believe: the order in which the rounds of a loop follow each other, by kind
-- numbers.
-- Assumes nothing.
use Rattle.std.specs.Prelude.{ℕ, cond, eqb}

-- The kind of the pair between the rounds of a loop of that kind: 3 for 7, 5 for 10, else 4.
abbrev pub order_between : ℕ → ℕ
order_between kind = cond (eqb kind 7) 3 (cond (eqb kind 10) 5 4)
