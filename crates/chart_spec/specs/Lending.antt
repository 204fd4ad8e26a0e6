-- The answer to a chart and a log under an allowance of steps and a room of places: the search as 01 makes it, which
-- asks before each follow-up whether it may be made, and stops where it may not.
-- Assumes nothing.
use Rattle.std.specs.Prelude.{ℕ, suc, ◌+◌, max, Bool, true, false, cond, List, [], ◌∷◌, leb, ltb, length}
use Rattle.chart_spec.specs.Action.{Log}
use Rattle.chart_spec.specs.Chart.{Chart, size}
use Rattle.chart_spec.specs.Executing.{Made, chart_of, cost_of, terminates, follows}

-- What a judgment returns (01, Verdicts and numbers given).
pub record Answer : Type 0 where
  pub number : ℕ
  pub place : ℕ
  pub steps : ℕ
  pub places : ℕ

-- How a search under a lending ends, each time with the steps made and the most places in use: it found an accepting
-- path; or every choice failed, with the most actions executed on one path; or it was stopped, with its number.
pub data Ending : Type 0 where
  found : (steps places : ℕ) → Ending
  failed : (deepest steps places : ℕ) → Ending
  stopped : (number steps places : ℕ) → Ending

-- Before each follow-up the search tests for 9, "a follow-up is wanted and the allowance is spent", and then for 10,
-- "the next whole follow-up exceeds the usable room". If neither holds, the follow-up is made: one step more, n places
-- in use, and the search goes on (01, Verdicts and numbers given).
-- (whether the allowance is spent, whether n exceeds the room, n, how it goes on, the steps and places so far)
abbrev pub follow_up : Bool → Bool → ℕ → (ℕ → ℕ → Ending) → ℕ → ℕ → Ending
follow_up true exceeds n on steps places = stopped 9 steps places
follow_up false true n on steps places = stopped 10 steps places
follow_up false false n on steps places = on (suc steps) (max places n)

-- The ending, when another path has executed an opening of d actions.
abbrev pub deepened : ℕ → Ending → Ending
deepened d (found steps places) = found steps places
deepened d (failed deepest steps places) = failed (max d deepest) steps places
deepened d (stopped number steps places) = stopped number steps places

-- How a choice ended, and how the search goes on if it failed: with the next choice (01, How a log is executed).
abbrev pub or_next : Ending → (ℕ → ℕ → Ending) → Ending
or_next (found steps places) next = found steps places
or_next (failed deepest steps places) next = deepened (suc deepest) (next steps places)
or_next (stopped number steps places) next = stopped number steps places

module _ (allowance room : ℕ) where
  -- The choices one after another, each from the same places in use: "when a choice has failed, its places are free
  -- again" (01, How a log is executed).
  unfoldable pub attempts : (Chart → ℕ → ℕ → ℕ → Ending) → ℕ → List Made → ℕ → ℕ → Ending
  attempts go used [] steps places = failed 0 steps places
  attempts go used (x ∷ xs) steps places =
      let n = used + cost_of x in
      follow_up (leb allowance steps) (ltb room n) n
      (λ s p. or_next (go (chart_of x) n s p) (λ s p. attempts go used xs s p)) steps places

  -- "Depth first, occurrences of the log's next action from left to right. At the log's end a terminating chart
  -- accepts at once; otherwise the search goes on with the next choice" (01, How a log is executed).
  unfoldable pub walk : Log → Chart → ℕ → ℕ → ℕ → Ending
  walk [] c used steps places = cond (terminates c) (found steps places) (failed 0 steps places)
  walk (a ∷ t) c used steps places = attempts (λ x n s p. walk t x n s p) used (follows c a) steps places

-- A log that was not accepted: 22 deviates if no path got through the whole log, else 21 short. The argument says
-- whether none did.
abbrev pub unaccepted : Bool → ℕ
unaccepted true = 22
unaccepted false = 21

-- An answer with no verdict has place 0.
abbrev pub halted : ℕ → ℕ → ℕ → Answer
halted number s p = record { number = number; place = 0; steps = s; places = p }

-- The answer for a log of length `long`: 20 accepted and 21 short give that length, 22 deviates the deepest opening; 9
-- and 10 have the figures reached so far (01, Verdicts and numbers given).
abbrev pub told : ℕ → Ending → Answer
told long (found s p) = record { number = 20; place = long; steps = s; places = p }
told long (failed d s p) = record { number = unaccepted (ltb d long); place = d; steps = s; places = p }
told long (stopped number s p) = halted number s p

-- The answer to a chart and a log. A chart that exceeds the room gets 10 with no figures, before any follow-up; else
-- the search begins with the chart's own places in use.
unfoldable pub answer : Chart → Log → ℕ → ℕ → Answer
answer c t allowance room =
    cond (ltb room (size c)) (halted 10 0 0) (told (length t) (walk allowance room t c (size c) 0 (size c)))
