-- The customer's demands (00), for charts and logs. Each theorem stands under the sentence that it keeps, and only
-- cites others.
--
-- `answer c t allowance room` is the answer to chart c and log t: number, place, steps, places (specs/Lending.antt).
-- `Published c` is the chart's trace set as document 000 composes it (specs/Published.antt).
-- `Begins`, `Longer` and `Longest` speak of openings (specs/Openings.antt).
-- `Reaches`, `Wants` and `Exceeds` speak of a lending (specs/Reaching.antt).
-- The crates that build on this one show that cards and logs given as bytes get these answers.
-- Assumes nothing.
use Prim.Native.Nat.{ℕ, ◌<◌, ◌≤◌}
use mathlib.Core.List.{◌++◌}
use mathlib.Core.Logic.Iff
use mathlib.Core.Logic.{◌↔◌, ◌⊎◌, inl, inr}
use mathlib.Core.Path.{◌≡◌, sym, ◌∙◌}
use lib.Dec.{T}
use lib.ListN.{length}
use Rattle.chart_spec.specs.Action.{Log, Avoids}
use Rattle.chart_spec.specs.Chart.{Chart, size}
use Rattle.chart_spec.specs.Openings.{Begins, Longer, Longest}
use Rattle.chart_spec.specs.Published.{Published}
use Rattle.chart_spec.specs.Executing.{chart_of, evades, prune}
use Rattle.chart_spec.specs.Searching.{searched, steps_of, places_of, places_after}
use Rattle.chart_spec.specs.Lending.{Answer, halted, answer}
use Rattle.chart_spec.specs.Reaching.{Reaches, Verdict, Wants, Exceeds}
use Rattle.chart_spec.proofs.Agreement.{
  every_chart_has_a_published_log,
  evades_iff_some_published_log_avoids,
  prune_keeps_published,
}
use Rattle.chart_spec.proofs.Extending.{answer_extends}
use Rattle.chart_spec.proofs.Numbers.{
  reached_answer,
  of_verdict,
  spent_answer,
  too_large_answer,
  exceeded_answer,
  verdict_iff_reaches,
  nine_iff_wants,
  ten_iff_exceeds,
  no_other_number,
  within_the_lending,
  verdict_figures,
}
use Rattle.chart_spec.proofs.Judging.{
  accepted_iff,
  short_iff,
  deviates_iff,
  accepted_place,
  short_place,
  deviates_place,
  deviates_begins_none,
  search_decides_the_published_set,
  begins_none_iff,
  longest_is_shorter,
}

module _ (c : Chart) (t : Log) (allowance room : ℕ) where
  -- the answer
  abbrev given : Answer
  given = answer c t allowance room

  -- ---- Demand 2: what a verdict says of the log

  -- "When a verdict is given, it is accepted exactly if the log belongs to the chart's set of traces as the published
  -- interaction semantics composes it."
  pub accepted_exactly_if_published : Reaches c t allowance room → (given.number ≡ 20) ↔ Published c t
  accepted_exactly_if_published r =
      of_verdict c t allowance room (λ a. (a.number ≡ 20) ↔ Published c t) r
      (accepted_iff (Published c) t (searched c t) (steps_of c t) (places_of c t)
      (search_decides_the_published_set c t))

  -- "It is short exactly if it does not belong but some longer log beginning with it does."
  pub short_exactly_if_only_a_longer_log_is : Reaches c t allowance room
      → (given.number ≡ 21) ↔ ((¬ Published c t) × Longer (Published c) t)
  short_exactly_if_only_a_longer_log_is r =
      of_verdict c t allowance room (λ a. (a.number ≡ 21) ↔ ((¬ Published c t) × Longer (Published c) t)) r
      (short_iff (Published c) t (searched c t) (steps_of c t) (places_of c t) (search_decides_the_published_set c t))

  -- "Otherwise it deviates": no log of the chart begins with it,
  pub deviates_exactly_if_it_begins_none : Reaches c t allowance room
      → (given.number ≡ 22) ↔ (¬ Begins (Published c) t)
  deviates_exactly_if_it_begins_none r =
      of_verdict c t allowance room (λ a. (a.number ≡ 22) ↔ (¬ Begins (Published c) t)) r
      (deviates_iff (Published c) t (searched c t) (steps_of c t) (places_of c t)
      (search_decides_the_published_set c t))

  -- which is neither accepted nor short,
  pub otherwise_it_deviates : Reaches c t allowance room
      → (given.number ≡ 22) ↔ ((¬ Published c t) × (¬ Longer (Published c) t))
  otherwise_it_deviates r = Iff.trans (deviates_exactly_if_it_begins_none r) (begins_none_iff (Published c) t)

  -- "and the place is the length of its longest opening with which some log of the chart begins",
  pub deviates_at_the_longest_opening : given.number ≡ 22
      → Longest (Published c) t given.place
  deviates_at_the_longest_opening e =
      of_verdict c t allowance room (λ a. a.number ≡ 22 → Longest (Published c) t a.place)
      ((verdict_iff_reaches c t allowance room).0 (inr (inr e)))
      (deviates_place (Published c) t (searched c t) (steps_of c t) (places_of c t)
      (search_decides_the_published_set c t)) e

  -- which is shorter than the log.
  pub deviates_before_the_end : given.number ≡ 22 → given.place < length t
  deviates_before_the_end e =
      let none = (deviates_exactly_if_it_begins_none ((verdict_iff_reaches c t allowance room).0 (inr (inr e)))).0 e in
      longest_is_shorter (Published c) t (deviates_at_the_longest_opening e) none

  -- 01, Verdicts and numbers given: 20 and 21 give the log's length.
  pub accepted_gives_the_length : given.number ≡ 20 → given.place ≡ length t
  accepted_gives_the_length e =
      of_verdict c t allowance room (λ a. a.number ≡ 20 → a.place ≡ length t)
      ((verdict_iff_reaches c t allowance room).0 (inl e))
      (accepted_place (Published c) t (searched c t) (steps_of c t) (places_of c t)) e

  pub short_gives_the_length : given.number ≡ 21 → given.place ≡ length t
  short_gives_the_length e =
      of_verdict c t allowance room (λ a. a.number ≡ 21 → a.place ≡ length t)
      ((verdict_iff_reaches c t allowance room).0 (inr (inl e)))
      (short_place (Published c) t (searched c t) (steps_of c t) (places_of c t)
      (search_decides_the_published_set c t)) e

  -- ---- Demand 3: steps and places

  -- "For each sound chart and log the written search rules fix a number of steps and a number of places." They are
  -- `steps_of c t` and `places_of c t`, which do not depend on the lending.
  -- "A verdict comes exactly when the allowance and the usable room reach these two,
  pub verdict_exactly_when_reached : Verdict given.number ↔ Reaches c t allowance room
  verdict_exactly_when_reached = verdict_iff_reaches c t allowance room

  -- and is then the same with the same two figures, however much more is lent."
  pub same_whatever_more_is_lent : (more more_room : ℕ) → Reaches c t allowance room → Reaches c t more more_room
      → given ≡ answer c t more more_room
  same_whatever_more_is_lent more more_room r s =
      reached_answer c t allowance room r ∙ sym (reached_answer c t more more_room s)

  -- These two are its figures.
  pub verdict_has_the_figures : Reaches c t allowance room
      → (given.steps ≡ steps_of c t) × (given.places ≡ places_of c t)
  verdict_has_the_figures r =
      of_verdict c t allowance room (λ a. (a.steps ≡ steps_of c t) × (a.places ≡ places_of c t)) r
      (verdict_figures (length t) (searched c t) (steps_of c t) (places_of c t))

  -- Else the number is 9 or 10.
  pub verdict_or_nine_or_ten : Verdict given.number ⊎ (given.number ≡ 9) ⊎ (given.number ≡ 10)
  verdict_or_nine_or_ten = no_other_number c t allowance room

  -- 01: 9 exactly if "a follow-up is wanted and the allowance is spent", whatever room it would take,
  pub nine_exactly_if_the_allowance_is_spent : (given.number ≡ 9) ↔ Wants c t room allowance
  nine_exactly_if_the_allowance_is_spent = nine_iff_wants c t allowance room

  -- with the figures reached so far.
  pub nine_has_the_figures_reached : given.number ≡ 9
      → given ≡ halted 9 allowance (places_after c t allowance)
  nine_has_the_figures_reached e = spent_answer c t allowance room ((nine_iff_wants c t allowance room).0 e)

  -- 01: 10 exactly if "the chart, or the next whole follow-up, exceeds the usable room", the allowance not spent;
  pub ten_exactly_if_the_room_is_exceeded : (given.number ≡ 10)
      ↔ ((room < size c) ⊎ ((k : ℕ) × Exceeds c t allowance room k))
  ten_exactly_if_the_room_is_exceeded = ten_iff_exceeds c t allowance room

  -- no figures if it is the chart, else the figures reached so far.
  pub ten_has_no_figures_for_the_chart : room < size c → given ≡ halted 10 0 0
  ten_has_no_figures_for_the_chart = too_large_answer c t allowance room

  pub ten_has_the_figures_reached : (k : ℕ) → Exceeds c t allowance room k
      → given ≡ halted 10 k (places_after c t k)
  ten_has_the_figures_reached = exceeded_answer c t allowance room

  -- No answer, whichever it is, has more steps than the allowance, nor more places than the room.
  pub never_above_the_lending : (given.steps ≤ allowance) × (given.places ≤ room)
  never_above_the_lending = within_the_lending c t allowance room

  -- "Once a log deviates, every sound longer log beginning with it gets the same verdict, place and figures from the
  -- same lending", whatever that is.
  pub once_deviating_the_same_for_ever : given.number ≡ 22 → (u : Log) (lent lent_room : ℕ)
      → answer c (t ++ u) lent lent_room ≡ answer c t lent lent_room
  once_deviating_the_same_for_ever e u lent lent_room =
      let none = (deviates_exactly_if_it_begins_none ((verdict_iff_reaches c t allowance room).0 (inr (inr e)))).0 e in
      answer_extends c t u lent lent_room
      ((deviates_begins_none (Published c) t (searched c t) (search_decides_the_published_set c t)).1 none)

-- ---- Demand 2: what a cut keeps

module _ (c : Chart) (d : ℕ) where
  -- "Cutting a device out of a chart keeps exactly the logs in which it never acts,
  pub cut_keeps_exactly_the_logs_without_the_device : T (evades c d) → (t : Log)
      → Published (chart_of (prune c d)) t ↔ (Published c t × Avoids d t)
  cut_keeps_exactly_the_logs_without_the_device = prune_keeps_published c d

  -- and is refused for want of such a log exactly if there is none."
  pub cut_refused_exactly_if_there_is_none : (¬ T (evades c d)) ↔ (¬ ((t : Log) × Published c t × Avoids d t))
  cut_refused_exactly_if_there_is_none = Iff.not (evades_iff_some_published_log_avoids c d)

-- "Every chart has at least one log" (01, Which logs belong to a chart).
pub every_chart_has_a_log : (c : Chart) → (t : Log) × Published c t
every_chart_has_a_log = every_chart_has_a_published_log
