-- The word of each number, and that it has at most 18 bytes.
-- Assumes nothing.
use Prim.Native.Nat.{ℕ, ◌≤◌}
use mathlib.Core.Bool.{Bool, true, false, cond}
use mathlib.Core.List.{List, ◌++◌}
use mathlib.Core.Logic.{◌≢◌}
use mathlib.Core.Path.{◌≡◌}
use native.Mathlib.Omega.{arith}
use lib.Dec.{eqb}
use lib.ListN.{length, length-append}
use borrow.Author.Tests.{ne_eqb}
use Rattle.bench_spec.specs.Spelling.{bytes, decimal, word_of}
use Rattle.bench_spec.proofs.Digits.{at_most_ten_digits}

either_is_short :
    (b : Bool) (one other : List ℕ) → length one ≤ 18 → length other ≤ 18 → length (cond b one other) ≤ 18
either_is_short true one other h k = h
either_is_short false one other h k = k

module _ (number : ℕ) where
  pub twenty_is_accepted : number ≡ 20 → word_of number ≡ bytes "accepted"
  twenty_is_accepted e = rw e

  pub twenty_one_is_short : number ≡ 21 → word_of number ≡ bytes "short"
  twenty_one_is_short e = rw e

  pub twenty_two_is_deviates : number ≡ 22 → word_of number ≡ bytes "deviates"
  twenty_two_is_deviates e = rw e

  pub any_other_is_refused :
      number ≢ 20 → number ≢ 21 → number ≢ 22 → word_of number ≡ bytes "refused-" ++ decimal number
  any_other_is_refused a b c = rw (ne_eqb number 20 a, ne_eqb number 21 b, ne_eqb number 22 c)

  pub at_most_eighteen_bytes : length (word_of number) ≤ 18
  at_most_eighteen_bytes =
      let refused = bytes "refused-" ++ decimal number in
      let few : length refused ≤ 18
      = omega (arith, length-append (bytes "refused-") (decimal number), at_most_ten_digits number) in
      let third = cond (eqb number 22) (bytes "deviates") refused in
      let second = cond (eqb number 21) (bytes "short") third in
      either_is_short (eqb number 20) (bytes "accepted") second (omega arith)
      (either_is_short (eqb number 21) (bytes "short") third (omega arith)
      (either_is_short (eqb number 22) (bytes "deviates") refused (omega arith) few))
