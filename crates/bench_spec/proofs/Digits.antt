-- The digits of a number: one for a number below 10; any other has those of `n / 10` first, and then the last. The
-- second law uses that ten digits are enough for a number of 32 bits: allowing more digits than a number has changes
-- nothing. So they are the digits that std prints of it, and there are at most ten.
-- Assumes nothing.
use Prim.Native.Nat.{ℕ, zero, suc, ◌/◌, ◌%◌, ◌^◌, ◌≤◌, ◌<◌}
use mathlib.Core.List.{[], ◌∷◌, ◌++◌}
use mathlib.Core.Path.{◌≡◌, sym, ap, ◌∙◌}
use native.Mathlib.Decide.{dec_lt}
use native.Mathlib.Nat.{pow-suc, div-lt_iff_lt-mul}
use native.Mathlib.Omega.{arith}
use lib.ListN.{length, length-append}
use borrow.Author.Tests.{lt-ltb, le-ltb}
use Rattle.std.specs.Fmt.{decimal as printed_by_std}
use Rattle.std.proofs.lemmas.Fmt.{decimal_from_appends, length-decimal-le}
use Rattle.bench_spec.specs.Spelling.{digit, digits, decimal}

pub digits_of_few : (k n : ℕ) → n < 10 → digits (suc k) n ≡ digit n ∷ []
digits_of_few k n few = rw (lt-ltb n 10 few)

pub digits_of_many : (k n : ℕ) → 10 ≤ n → digits (suc k) n ≡ digits k (n / 10) ++ (digit (n % 10) ∷ [])
digits_of_many k n many = rw (le-ltb n 10 many)

tenth_has_one_less : (k n : ℕ) → n < 10 ^ suc k → n / 10 < 10 ^ k
tenth_has_one_less k n h = (div-lt_iff_lt-mul {k = 10} {x = n} {y = 10 ^ k} (omega arith)).1 (rw pow-suc at h)

one_more_changes_nothing : (k n : ℕ) → n < 10 ^ suc k → digits (suc (suc k)) n ≡ digits (suc k) n
one_more_changes_nothing zero n h = digits_of_few 1 n h ∙ sym (digits_of_few 0 n h)
one_more_changes_nothing (suc k) n h =
    by (dec_lt n 10) (one_more_changes_nothing k (n / 10) (tenth_has_one_less (suc k) n h))
  where
    by : Dec (n < 10) → digits (suc (suc k)) (n / 10) ≡ digits (suc k) (n / 10)
        → digits (suc (suc (suc k))) n ≡ digits (suc (suc k)) n
    by (yes few) tenth = digits_of_few (suc (suc k)) n few ∙ sym (digits_of_few (suc k) n few)
    by (no many) tenth =
        digits_of_many (suc (suc k)) n (omega arith)
        ∙ ap (λ higher. higher ++ (digit (n % 10) ∷ [])) tenth
        ∙ sym (digits_of_many (suc k) n (omega arith))

pub one_digit : (n : ℕ) → n < 10 → decimal n ≡ digit n ∷ []
unfolding decimal
one_digit n few = digits_of_few 9 n few

pub more_digits : (n : ℕ) → 10 ≤ n → n < 2 ^ 32 → decimal n ≡ decimal (n / 10) ++ (digit (n % 10) ∷ [])
unfolding decimal
more_digits n many fits =
    digits_of_many 9 n many
    ∙ ap (λ higher. higher ++ (digit (n % 10) ∷ [])) (sym (one_more_changes_nothing 8 (n / 10) (omega arith)))

pub as_std_prints_it : (n : ℕ) → n < 2 ^ 32 → decimal n ≡ printed_by_std n
unfolding decimal
as_std_prints_it n fits =
    decimal_from_appends digits (record { one = digits_of_few; more = digits_of_many }) 10 n (omega arith)
    (length-decimal-le 10 n (omega arith) (omega arith) (omega arith))

at_most : (k n : ℕ) → length (digits k n) ≤ k
at_most zero n = omega arith
at_most (suc k) n = by (dec_lt n 10) (at_most k (n / 10))
  where
    by : Dec (n < 10) → length (digits k (n / 10)) ≤ k → length (digits (suc k) n) ≤ suc k
    by (yes few) tenth = omega (arith, ap length (digits_of_few k n few))
    by (no many) tenth =
        let e = ap length (digits_of_many k n (omega arith)) in
        omega (arith, length-append (digits k (n / 10)) (digit (n % 10) ∷ []))

pub at_most_ten_digits : (n : ℕ) → length (decimal n) ≤ 10
unfolding decimal
at_most_ten_digits n = at_most 10 n
