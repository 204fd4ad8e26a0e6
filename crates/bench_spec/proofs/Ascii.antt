-- Each byte of a printed line is ASCII, so the line is a text: it has letters, `-`, digits, blanks, and the line's end.
-- Assumes nothing.
use Prim.Native.Nat.{ℕ, zero, suc, ◌/◌, ◌%◌, ◌<◌}
use mathlib.Core.List.{[], ◌∷◌}
use mathlib.Core.Path.{◌≡◌, sym, subst}
use native.Mathlib.Decide.{dec_lt, ℕ_discrete}
use native.Mathlib.Omega.{arith}
use Rattle.std.specs.Prelude.{Option, Some, None}
use Rattle.std.specs.Str.{IsAscii}
use Rattle.std.proofs.Common.{rules}
use Rattle.std.proofs.lemmas.Str.{IsAscii-append}
use Rattle.std.proofs.lemmas.Str.Ascii.{IsAscii-nil, IsAscii-cons}
use Rattle.judge_spec.specs.declared.Judged.{Judged}
use Rattle.bench_spec.specs.Spelling.{bytes, digit, digits, decimal, word_of, apart, Line, line_of, printed}
use Rattle.bench_spec.proofs.Digits.{digits_of_few, digits_of_many}
use Rattle.bench_spec.proofs.Words.{
  twenty_is_accepted,
  twenty_one_is_short,
  twenty_two_is_deviates,
  any_other_is_refused,
}

digit_is_ascii : (n : ℕ) → n < 10 → IsAscii (digit n ∷ [])
digit_is_ascii n h = IsAscii-cons (digit n) [] (omega arith) IsAscii-nil

digits_are_ascii : (k n : ℕ) → IsAscii (digits k n)
digits_are_ascii zero n = IsAscii-nil
digits_are_ascii (suc k) n = by (dec_lt n 10) (digits_are_ascii k (n / 10))
  where
    by : Dec (n < 10) → IsAscii (digits k (n / 10)) → IsAscii (digits (suc k) n)
    by (yes few) higher = subst IsAscii (sym (digits_of_few k n few)) (digit_is_ascii n few)
    by (no many) higher =
        subst IsAscii (sym (digits_of_many k n (omega arith)))
        (IsAscii-append (digits k (n / 10)) (digit (n % 10) ∷ []) higher (digit_is_ascii (n % 10) (omega arith)))

decimal_is_ascii : (n : ℕ) → IsAscii (decimal n)
unfolding decimal
decimal_is_ascii n = digits_are_ascii 10 n

apart_is_ascii : (n : ℕ) → IsAscii (apart n)
apart_is_ascii n = IsAscii-append (bytes " ") (decimal n) (search rules) (decimal_is_ascii n)

word_is_ascii : (n : ℕ) → IsAscii (word_of n)
word_is_ascii n = by (ℕ_discrete n 20) (ℕ_discrete n 21) (ℕ_discrete n 22)
  where
    by : Dec (n ≡ 20) → Dec (n ≡ 21) → Dec (n ≡ 22) → IsAscii (word_of n)
    by (yes a) b c = subst IsAscii (sym (twenty_is_accepted n a)) (search rules)
    by (no a) (yes b) c = subst IsAscii (sym (twenty_one_is_short n b)) (search rules)
    by (no a) (no b) (yes c) = subst IsAscii (sym (twenty_two_is_deviates n c)) (search rules)
    by (no a) (no b) (no c) =
        subst IsAscii (sym (any_other_is_refused n a b c))
        (IsAscii-append (bytes "refused-") (decimal n) (search rules) (decimal_is_ascii n))

end_is_ascii : IsAscii (10 ∷ [])
end_is_ascii = search rules

printed_is_ascii : (l : Line) → IsAscii l.word → IsAscii (printed l)
printed_is_ascii l word = search (IsAscii-append, apart_is_ascii, end_is_ascii)

pub a_line_is_ascii : (told : Option Judged) → IsAscii (printed (line_of told))
a_line_is_ascii (Some judged) = printed_is_ascii (line_of (Some judged)) (word_is_ascii judged.number)
a_line_is_ascii None = printed_is_ascii (line_of None) (search rules)
