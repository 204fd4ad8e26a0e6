-- The answer to a sound card and log, from what laying the chart and searching the log return.
-- Assumes nothing.
use Prim.Native.Nat.{ℕ, ◌+◌, ◌<◌, ◌≤◌}
use mathlib.Core.List.{List}
use mathlib.Core.Path.{◌≡◌, sym, ap, ◌∙◌}
use native.Mathlib.Omega.{arith}
use lib.ListN.{length}
use borrow.Author.Tests.{lt-ltb, le-ltb}
use Rattle.chart_spec.specs.Action.{Log}
use Rattle.chart_spec.specs.Chart.{Chart, size}
use Rattle.chart_spec.specs.Lending.{Answer, halted, told, walk, answer}
use Rattle.card_spec.specs.Nodes.{card_chart}
use Rattle.card_spec.specs.Table.{Sound}
use Rattle.log_spec.specs.Bytes.{log_of, actions_of}
use Rattle.log_spec.proofs.Actions.{as_many_actions}
use Rattle.room_spec.specs.declared.Root.{Root}
use Rattle.room_spec.specs.Room.{chart_in, Stands}
use Rattle.std.specs.Prelude.{Option, Some, None}
use Rattle.room_lay.specs.Rooms.{laying, laid_in, finding_of}
use Rattle.room_lay.proofs.Onward.{
  too_little_exceeds,
  whole_fits,
  whole_keeps_the_length,
  whole_counts_the_chart,
  whole_is_a_table,
  whole_is_below,
  whole_is_rooted,
  whole_stands,
}
use Rattle.judge_spec.specs.Judgment.{judged_of, returned}
use Rattle.search_spec.specs.declared.Ended.{Ended}
use Rattle.search_spec.specs.Ending.{ending_of, Searches}

-- A chart that exceeds the room, and one that does not.
exceeding_answer : (c : Chart) (t : Log) (allowance room : ℕ) → room < size c → answer c t allowance room ≡ halted 10 0
    0
unfolding answer
exceeding_answer c t allowance room h = rw (lt-ltb room (size c) h)

fitting_answer : (c : Chart) (t : Log) (allowance room : ℕ) → size c ≤ room
    → answer c t allowance room ≡ told (length t) (walk allowance room t c (size c) 0 (size c))
unfolding answer
fitting_answer c t allowance room h = rw (le-ltb room (size c) h)

module _ (card log room : List ℕ) (allowance : ℕ) (sound : Sound card) where
  -- The answer of the search. What is returned is what laying the chart found, or else this answer.
  abbrev searched : Answer
  searched =
      let t = log_of log in
      let c = card_chart card in
      told (length t) (walk allowance (length room) t c (size c) 0 (size c))

  pub returned_by_laying : length room ≤ 16384 → (laid : Option Root) → laid ≡ laying card room
      → judged_of (answer (card_chart card) (log_of log) allowance (length room)) ≡ returned (finding_of laid) searched
  returned_by_laying usable None laid =
      ap judged_of
      (exceeding_answer (card_chart card) (log_of log) allowance (length room)
      (too_little_exceeds card room sound laid))
  returned_by_laying usable (Some root) laid =
      ap judged_of
      (fitting_answer (card_chart card) (log_of log) allowance (length room)
      (whole_fits card room sound usable root laid))

  module _ (usable : length room ≤ 16384) (root : Root) (laid : Some root ≡ laying card room) (after : List ℕ)
      (there : after ≡ laid_in card room) where
    -- The chart was laid: it can be searched,
    pub laid_stands : Stands after root
    laid_stands =
        rw there (
          whole_is_a_table card room sound usable root laid,
          whole_is_rooted card room sound usable root laid,
          whole_is_below card room sound usable root laid,
        )

    -- and what is told of the search is the answer.
    pub search_answers :
        (later : List ℕ) (r : Ended)
        → Searches after (log_of log) root (record { left = allowance; places = root.used }) later r
        → told (actions_of log) (ending_of allowance r) ≡ answer (card_chart card) (log_of log) allowance (length room)
    search_answers later r searched =
        let all : 0 + allowance ≡ allowance = omega arith in
        let long : length after ≡ length room = ap length there ∙ whole_keeps_the_length card room sound usable root
        laid in
        let chart : chart_in after root.place ≡ card_chart card
        = ap (λ s. chart_in s root.place) there ∙ whole_stands card room sound usable root laid in
        let used = whole_counts_the_chart card room sound usable root laid in
        let fits = whole_fits card room sound usable root laid in
        let ends = rw (all, long, chart, used) at (searched.ends 0) in
        ap (λ n. told n (ending_of allowance r)) (sym (as_many_actions log)) ∙ ap (told (length (log_of log))) ends
        ∙ sym (fitting_answer (card_chart card) (log_of log) allowance (length room) fits)
