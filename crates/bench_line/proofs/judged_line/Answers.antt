-- `judged_line` meets its contract: the word, then each number after a blank, then the line's end. A word has at most
-- 18 bytes and a number at most ten, so the line has at most 52. Assumes nothing.
use Rattle.std.proofs.Common.{length, ◌≤◌, arith}
use Rattle.judge_spec.specs.declared.Judged.{Judged}
use Rattle.bench_spec.specs.Spelling.{decimal, word_of}
use Rattle.bench_spec.proofs.Digits.{at_most_ten_digits}
use Rattle.bench_spec.proofs.Words.{at_most_eighteen_bytes}
use Rattle.bench_line.proofs.Adding.{adds_both, fits_less, fits_the_rest, says_all}
use Rattle.bench_line.proofs.judged_line.Goals as goal

-- How long the pieces of a line are at most.
record Short (judged : Judged) : Type 0 where
  word : length (word_of judged.number) ≤ 18
  place : length (decimal judged.place) ≤ 10
  steps : length (decimal judged.steps) ≤ 10
  places : length (decimal judged.places) ≤ 10

each_is_short : (judged : Judged) → Short judged
each_is_short judged =
    record {
      word = at_most_eighteen_bytes judged.number;
      place = at_most_ten_digits judged.place;
      steps = at_most_ten_digits judged.steps;
      places = at_most_ten_digits judged.places;
    }

pub with_word-word-requires : goal.with_word-word-requires
with_word-word-requires c = fits_less c.empty.ensures (omega (arith, at_most_eighteen_bytes c.args.judged.number))

pub with_apart-place-requires : goal.with_apart-place-requires
with_apart-place-requires c =
    let judged = c.args.judged in
    fits_the_rest c.empty.ensures c.with_word-word.ensures
    (omega (arith, at_most_eighteen_bytes judged.number, at_most_ten_digits judged.place))

pub with_apart-steps-requires : goal.with_apart-steps-requires
with_apart-steps-requires c =
    let few = each_is_short c.args.judged in
    record { whole = c.with_apart-place.ensures.whole; enough = omega arith }

pub with_apart-places-requires : goal.with_apart-places-requires
with_apart-places-requires c =
    let few = each_is_short c.args.judged in
    record { whole = c.with_apart-steps.ensures.whole; enough = omega arith }

pub with_byte-requires : goal.with_byte-requires
with_byte-requires c =
    let few = each_is_short c.args.judged in
    record { whole = c.with_apart-places.ensures.whole; enough = omega arith }

pub returns : goal.returns
returns c =
    let all = adds_both
    (adds_both (adds_both (adds_both c.with_word-word.ensures c.with_apart-place.ensures) c.with_apart-steps.ensures)
    c.with_apart-places.ensures)
    c.with_byte.ensures in
    let few = each_is_short c.args.judged in
    says_all c.empty.ensures all (omega arith)
