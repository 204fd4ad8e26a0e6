-- `with_number` meets its contract: a number below 10 is one digit; any other has the digits of `number / 10` first,
-- and then its last digit. Assumes nothing.
use Rattle.std.proofs.Common.{ℕ, [], ◌∷◌, length, ◌≡◌, ◌+◌, ◌^◌, ◌<◌, ◌≤◌, ◌/◌, ◌%◌, ap, arith}
use mathlib.Core.Path.{◌∙◌}
use lib.ListN.{length-append}
use Rattle.bench_spec.specs.Spelling.{digit, decimal}
use Rattle.bench_spec.proofs.Digits.{one_digit, more_digits}
use Rattle.bench_line.proofs.Adding.{adds_so, adds_both, fits_less, fits_the_rest}
use Rattle.bench_line.proofs.+with_number.Goals as goal

-- A number n of at least 10 has one digit more than `n / 10`.
one_digit_more : (n : ℕ) → 10 ≤ n → n < 2 ^ 32 → length (decimal n) ≡ length (decimal (n / 10)) + 1
one_digit_more n many fits =
    ap length (more_digits n many fits) ∙ length-append (decimal (n / 10)) (digit (n % 10) ∷ [])

pub with_byte-requires : goal.with_byte-requires
with_byte-requires t c =
    let one = ap length (one_digit c.args.number (omega arith)) in
    fits_less c.requires (omega arith)

pub returns-then-number-lt10 : goal.returns-then-number-lt10
returns-then-number-lt10 t c = adds_so (one_digit c.args.number (omega arith)) c.with_byte.ensures

pub with_number-higher-requires : goal.with_number-higher-requires
with_number-higher-requires t c =
    let n = c.args.number in
    let more = one_digit_more n (omega arith) (omega arith) in
    (omega arith, fits_less c.requires (omega arith))

pub with_byte-requires-2 : goal.with_byte-requires-2
with_byte-requires-2 t c =
    let more = one_digit_more c.args.number (omega arith) (omega arith) in
    fits_the_rest c.requires c.with_number-higher.ensures (omega arith)

pub returns : goal.returns
returns t c =
    adds_so (more_digits c.args.number (omega arith) (omega arith))
    (adds_both c.with_number-higher.ensures c.with_byte-2.ensures)
