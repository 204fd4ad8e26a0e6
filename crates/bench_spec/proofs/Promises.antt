-- What is promised of the program, for whoever reads nothing else: each sentence of 01 on it, as a theorem that only
-- cites others. The program tells `told_of` of the contents that it read from `chart` and `log`
-- (bench_files/src/lib.rt), and writes `printed` of the line for it (bench_line/src/lib.rt). What holds here of these
-- definitions therefore holds of the code. That the contents are the files' own is promised for each reader of which
-- std says what it has to give; of the files of a directory std says nothing.
-- Assumes nothing.
use Prim.Native.Nat.{ℕ, ◌<◌, ◌≤◌}
use mathlib.Core.List.{List, [], ◌∷◌, ◌++◌}
use mathlib.Core.Logic.{◌↔◌, ◌⊎◌, ◌≢◌, inl, inr}
use mathlib.Core.Path.{◌≡◌, refl, sym, ap, ◌∙◌}
use native.Mathlib.Omega.{arith}
use lib.ListN.{length, take, length-take}
use lib.Seq.{take_all}
use Rattle.std.specs.Prelude.{Option, Some, None, Ok, Err}
use Rattle.std.specs.declared.ops.ControlFlow.TheVariants.{Break}
use Rattle.card_spec.specs.Table.{Sound}
use Rattle.card_spec.specs.Table.Told.{one}
use Rattle.card_spec.proofs.Example as card
use Rattle.judge_spec.specs.declared.Judged.{Judged}
use Rattle.judge_spec.specs.Judgment.{judgment}
use Rattle.judge_spec.specs.Table.Refused.{by_the_card, seven}
use Rattle.judge_spec.proofs.Example.{printed_log, the_printed_log_is_accepted}
use Rattle.judge_spec.proofs.Promises.{refused_exactly_as_the_table_tells}
use Rattle.bench_spec.specs.Reading.{Moved, after_read, OnlyIfOpen, AllRead}
use Rattle.bench_spec.specs.Telling.{allowance, room, filled, told_of, told_from}
use Rattle.bench_spec.specs.Spelling.{bytes, decimal, word_of, line_of, printed}
use Rattle.bench_spec.proofs.Words as words

-- ---- what is told

module _ (long : ℕ) where
  -- No second telling meets the contract.
  pub no_second_telling :
      (card log : Option (List ℕ)) {r s : Option Judged} → r ≡ told_of card log long → s ≡ told_of card log long
      → r ≡ s
  no_second_telling card log e f = e ∙ sym f

  -- "If either file is missing": the program tells so exactly then.
  pub no_file_exactly_if_one_is_missing :
      (card log : Option (List ℕ)) → (told_of card log long ≡ None) ↔ ((card ≡ None) ⊎ (log ≡ None))
  no_file_exactly_if_one_is_missing card log = (missing card log, told card log)
    where
      missing : (card log : Option (List ℕ)) → told_of card log long ≡ None → (card ≡ None) ⊎ (log ≡ None)
      missing (Some c) (Some l) e = cc
      missing (Some c) None e = inr refl
      missing None log e = inl refl

      told : (card log : Option (List ℕ)) → (card ≡ None) ⊎ (log ≡ None) → told_of card log long ≡ None
      told (Some c) (Some l) (inl e) = cc
      told (Some c) (Some l) (inr e) = cc
      told (Some c) None e = refl
      told None log e = refl

-- The contents are missing exactly if reading ended with nothing.
pub no_content_exactly_if_nothing_was_read :
    (bytes : List ℕ) (read : Option ℕ) → (filled bytes read ≡ None) ↔ (read ≡ None)
no_content_exactly_if_nothing_was_read bytes (Some n) = (λ e. cc, λ e. cc)
no_content_exactly_if_nothing_was_read bytes None = (λ e. refl, λ e. refl)

-- A file that could not be opened is told as missing, and so is one of which reading failed, whatever was read before.
pub an_unopened_file_is_missing :
    (F E : Type 0) (error : E) (content : Option ℕ)
    → OnlyIfOpen {F = F} {E = E} content (Err error) → content ≡ None
an_unopened_file_is_missing F E error (Some n) h = absurd h
an_unopened_file_is_missing F E error None h = refl

pub a_failed_read_is_missing :
    (E : Type 0) (error : E) (end long : ℕ) → after_read {E = E} end long (Err error) ≡ Break None
a_failed_read_is_missing E error end long = refl

-- A file that fits into the lent bytes is read whole.
pub a_file_that_fits_is_read_whole :
    (left bytes : List ℕ) (n : ℕ) → AllRead (Some left) (Some n) bytes → length left ≤ length bytes
    → take n bytes ≡ left
a_file_that_fits_is_read_whole left bytes n all fits = all ∙ take_all (length bytes) left fits

-- A read that did not fail answers with just so many bytes.
pub bytes_are_counted : (E : Type 0) (most n : ℕ) → Moved {E = E} most (Ok n) ↔ (n ≤ most)
bytes_are_counted E most n = (λ h. h, λ h. h)

-- A file that is too long is read far enough to be refused: the bytes that it is read into are one more than a card or
-- a log may have (`Reports`, specs/Telling.antt), and it fills them.
module _ (card log lent : List ℕ) where
  pub a_longer_card_is_refused :
      length card ≡ 4097 → (n : ℕ) → (judgment (take 4097 card) (take n log) allowance (length lent)).number ≡ 1
  a_longer_card_is_refused e n =
      let long : 4096 < length (take 4097 card) = omega (arith, length-take 4097 card) in
      ((refused_exactly_as_the_table_tells (take 4097 card) (take n log) allowance lent 1 0).1
      (by_the_card (λ never. omega arith) (one (inr (inl long))))).1

  pub a_longer_log_is_refused :
      length log ≡ 257 → (m : ℕ) → Sound (take m card)
      → (judgment (take m card) (take 257 log) allowance (length lent)).number ≡ 7
  a_longer_log_is_refused e m sound =
      let long : 256 < length (take 257 log) = omega (arith, length-take 257 log) in
      ((refused_exactly_as_the_table_tells (take m card) (take 257 log) allowance lent 7 0).1
      (seven sound (inr long))).1

-- ---- the line

-- "Words: accepted, short, deviates, or refused-N."
module _ (number : ℕ) where
  pub the_word_is_accepted : number ≡ 20 → word_of number ≡ bytes "accepted"
  the_word_is_accepted = words.twenty_is_accepted number

  pub the_word_is_short : number ≡ 21 → word_of number ≡ bytes "short"
  the_word_is_short = words.twenty_one_is_short number

  pub the_word_is_deviates : number ≡ 22 → word_of number ≡ bytes "deviates"
  the_word_is_deviates = words.twenty_two_is_deviates number

  pub the_word_is_refused :
      number ≢ 20 → number ≢ 21 → number ≢ 22 → word_of number ≡ bytes "refused-" ++ decimal number
  the_word_is_refused = words.any_other_is_refused number

-- "If either file is missing it prints `no-file 0 0 0`."
pub a_missing_file_is_printed : printed (line_of None) ≡ bytes "no-file 0 0 0" ++ (10 ∷ [])
unfolding decimal
a_missing_file_is_printed = refl

-- "With chart 01 00 00 00 02 01 00 00 03 00 01 00 0C 00 02 01 57 4C and log 00 00 03 00 it prints exactly
-- accepted 2 2 6": these are the 18 and the 4 bytes that were read, whatever stands after them.
pub it_prints_exactly :
    (behind more : List ℕ)
    → printed
    (line_of (told_from (Some 18) (card.printed ++ behind) (Some 4) (printed_log ++ more) room))
    ≡ bytes "accepted 2 2 6" ++ (10 ∷ [])
unfolding decimal
it_prints_exactly behind more = ap (λ j. printed (line_of (Some j))) the_printed_log_is_accepted
