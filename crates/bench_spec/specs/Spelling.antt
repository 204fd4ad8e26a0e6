-- The line that the program prints: as a word and three numbers, and as bytes.
-- Assumes nothing.
use Rattle.std.specs.Prelude.{ℕ, zero, suc, ◌+◌, ◌/◌, ◌%◌, cond, List, [], ◌∷◌, ◌++◌, eqb, ltb, Option, Some, None}
use Prim.Native.Char.{code}
use Prim.Native.String.{String, [] as none, ◌∷◌ as ◌then◌}
use Rattle.judge_spec.specs.declared.Judged.{Judged}

-- A text, byte by byte.
abbrev pub bytes : String → List ℕ
bytes none = []
bytes (letter then text) = code letter ∷ bytes text

-- The byte that prints a number below 10; 48 prints 0.
abbrev pub digit : ℕ → ℕ
digit n = 48 + n

-- The digits of a number that has at most so many of them, the highest first.
abbrev pub digits : ℕ → ℕ → List ℕ
digits zero n = []
digits (suc k) n =
    let higher = digits k (n / 10) in
    cond (ltb n 10) (digit n ∷ []) (higher ++ (digit (n % 10) ∷ []))

-- A number as it is printed: a place, steps or places, which have 32 bits and so at most ten digits.
unfoldable pub decimal : ℕ → List ℕ
decimal n = digits 10 n

-- "Words: accepted, short, deviates, or refused-N" (01, Logs worked by hand).
abbrev pub word_of : ℕ → List ℕ
word_of number =
    cond (eqb number 20) (bytes "accepted")
    (cond (eqb number 21) (bytes "short")
    (cond (eqb number 22) (bytes "deviates")
    (bytes "refused-" ++ decimal number)))

-- "One line: word, place, steps, places" (01, Logs worked by hand).
pub record Line : Type 0 where
  pub word : List ℕ
  pub place : ℕ
  pub steps : ℕ
  pub places : ℕ

-- The line for what the program tells. "If either file is missing it prints `no-file 0 0 0`" (01, Logs worked by hand).
abbrev pub line_of : Option Judged → Line
line_of (Some judged) =
    record {
      word = word_of judged.number;
      place = judged.place;
      steps = judged.steps;
      places = judged.places;
    }
line_of None = record { word = bytes "no-file"; place = 0; steps = 0; places = 0 }

-- A blank, and then the number.
abbrev pub apart : ℕ → List ℕ
apart n = bytes " " ++ decimal n

-- A line as it is printed, with the line's end (the byte 10).
abbrev pub printed : Line → List ℕ
printed l = (((l.word ++ apart l.place) ++ apart l.steps) ++ apart l.places) ++ (10 ∷ [])
