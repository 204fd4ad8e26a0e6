-- The customer's demands (00), for the bytes that are lent. Each theorem stands under the sentence that it keeps, and
-- only cites others.
--
-- `judge` returns `judgment` of card, log, allowance and the room's length, and leaves `room_after` of card, log and
-- room: that is its contract (judge/src/lib.rt), and `Judges` its two equations. What holds here of the two definitions
-- (specs/Judgment.antt) therefore holds of the code. `Published` is a chart's trace set as document 000 composes it,
-- `card_chart` the chart that a card is, `log_of` the log that bytes are. `Begins`, `Longer` and `Longest` speak of
-- openings, `Reaches`, `Wants` and `Exceeds` of a lending (crate `chart_spec`). `Refused` and `SoundBoth` are 01's
-- table, numbers 1 to 8, as conditions (specs/Table.antt).
-- Assumes nothing.
use Prim.Native.Nat.{ℕ, ◌<◌, ◌≤◌}
use mathlib.Core.List.{List, ◌++◌}
use mathlib.Core.Logic.{◌↔◌, ◌⊎◌, inl, inr}
use mathlib.Core.Path.{◌≡◌, sym, ap, ◌∙◌}
use native.Mathlib.Omega.{arith}
use lib.ListN.{length, get_or}
use Rattle.chart_spec.specs.Action.{Log}
use Rattle.chart_spec.specs.Chart.{Chart, size}
use Rattle.chart_spec.specs.Openings.{Begins, Longer, Longest}
use Rattle.chart_spec.specs.Published.{Published}
use Rattle.chart_spec.specs.Searching.{steps_of, places_of, places_after}
use Rattle.chart_spec.specs.Lending.{halted, answer}
use Rattle.chart_spec.specs.Reaching.{Reaches, Verdict, Wants, Exceeds}
use Rattle.chart_spec.proofs.Demands as demands
use Rattle.card_spec.specs.Nodes.{card_chart}
use Rattle.log_spec.specs.Bytes.{log_of, actions_of}
use Rattle.log_spec.proofs.Actions.{as_many_actions, log_of_both}
use Rattle.judge_spec.specs.declared.Judged.{Judged}
use Rattle.judge_spec.specs.Judgment.{usable, judged_of, judgment, room_after, Judges}
use Rattle.judge_spec.specs.Table.{Refused, SoundBoth}
use Rattle.judge_spec.proofs.Telling.{sound_judges}
use Rattle.judge_spec.proofs.Numbers.{number_of_any, refused_iff, sound_iff, refused_figures, refused_room}
use Rattle.judge_spec.proofs.Numbers.{figures_within, whole_log}
use Rattle.judge_spec.proofs.Wiped.{zeros_inside, kept_beyond, same_length}

module _ (card log : List ℕ) (allowance : ℕ) (room : List ℕ) where
  -- the judgment, the card's chart, the log, the usable room
  abbrev given : Judged
  given = judgment card log allowance (length room)

  abbrev chart : Chart
  chart = card_chart card

  abbrev t : Log
  t = log_of log

  abbrev places : ℕ
  places = usable (length room)

  -- ---- Demand 1: one answer, and the room afterwards

  -- "Every card, log, allowance and working room, sound or spoiled, gets exactly one numbered answer": 1 to 10, 20, 21
  -- or 22;
  pub every_input_gets_a_number : ((1 ≤ given.number) × (given.number ≤ 10)) ⊎ Verdict given.number
  every_input_gets_a_number = number_of_any card log allowance room

  -- no second answer, nor a second room, meets the contract.
  pub no_second_answer : {r s : Judged} {after later : List ℕ} → Judges card log allowance room r after
      → Judges card log allowance room s later → (r ≡ s) × (after ≡ later)
  no_second_answer (r, after) (s, later) = (r ∙ sym s, after ∙ sym later)

  -- "and the tool does its own checking": 1 to 8 are given exactly as 01's table tells,
  pub refused_exactly_as_the_table_tells : (number place : ℕ)
      → ((number ≤ 8) × (given.number ≡ number) × (given.place ≡ place)) ↔ Refused card log number place
  refused_exactly_as_the_table_tells = refused_iff card log allowance room

  -- and judging begins exactly if nothing refuses card and log.
  pub begun_exactly_for_sound_input : (8 < given.number) ↔ SoundBoth card log
  begun_exactly_for_sound_input = sound_iff card log allowance room

  -- "With 1 to 8, steps and places are 0" (01, Verdicts and numbers given).
  pub refused_has_no_figures : given.number ≤ 8 → (given.steps ≡ 0) × (given.places ≡ 0)
  refused_has_no_figures = refused_figures card log allowance room

  -- "Refused input leaves lent room and output untouched."
  pub refused_leaves_the_room_as_found : given.number ≤ 8 → room_after card log room ≡ room
  refused_leaves_the_room_as_found = refused_room card log allowance room

  -- "Once judging has begun, the usable room comes back all zeros."
  pub begun_leaves_zeros : 8 < given.number → (i none : ℕ) → i < places → get_or (room_after card log room) i none ≡ 0
  begun_leaves_zeros h i none inside =
      ap (λ l. get_or l i none) (sound_judges card log allowance room (begun_exactly_for_sound_input.0 h)).1
      ∙ zeros_inside room i none inside

  -- "Beyond that nothing is touched" (01, How a log is executed).
  pub beyond_the_usable_room_nothing_is_touched : (i none : ℕ) → places ≤ i
      → get_or (room_after card log room) i none ≡ get_or room i none
  beyond_the_usable_room_nothing_is_touched i none outside = kept_beyond card log room i none outside

  pub the_room_keeps_its_length : length (room_after card log room) ≡ length room
  the_room_keeps_its_length = same_length card log room

  -- ---- Demand 2: what a verdict says of the log

  module _ (verdict : Verdict given.number) where
    -- A verdict is given only for a sound card and log.
    pub verdict_only_for_sound_input : SoundBoth card log
    verdict_only_for_sound_input = begun_exactly_for_sound_input.0 (above verdict)
      where
        above : Verdict given.number → 8 < given.number
        above (inl e) = omega arith
        above (inr (inl e)) = omega arith
        above (inr (inr e)) = omega arith

    same : given ≡ judged_of (answer chart t allowance places)
    same = (sound_judges card log allowance room verdict_only_for_sound_input).0

    reached : Reaches chart t allowance places
    reached = (demands.verdict_exactly_when_reached chart t allowance places).0 (rw same at verdict)

    -- "When a verdict is given, it is accepted exactly if the log belongs to the chart's set of traces as the published
    -- interaction semantics composes it."
    pub accepted_exactly_if_published : (given.number ≡ 20) ↔ Published chart t
    accepted_exactly_if_published = rw same (demands.accepted_exactly_if_published chart t allowance places reached)

    -- "It is short exactly if it does not belong but some longer log beginning with it does."
    pub short_exactly_if_only_a_longer_log_is :
        (given.number ≡ 21) ↔ ((¬ Published chart t) × Longer (Published chart) t)
    short_exactly_if_only_a_longer_log_is =
        rw same (demands.short_exactly_if_only_a_longer_log_is chart t allowance places reached)

    -- "Otherwise it deviates": no log of the chart begins with it,
    pub deviates_exactly_if_it_begins_none : (given.number ≡ 22) ↔ (¬ Begins (Published chart) t)
    deviates_exactly_if_it_begins_none =
        rw same (demands.deviates_exactly_if_it_begins_none chart t allowance places reached)

    -- which is neither accepted nor short,
    pub otherwise_it_deviates : (given.number ≡ 22) ↔ ((¬ Published chart t) × (¬ Longer (Published chart) t))
    otherwise_it_deviates = rw same (demands.otherwise_it_deviates chart t allowance places reached)

    -- "and the place is the length of its longest opening with which some log of the chart begins",
    pub deviates_at_the_longest_opening : given.number ≡ 22 → Longest (Published chart) t given.place
    deviates_at_the_longest_opening =
        rw same (demands.deviates_at_the_longest_opening chart t allowance places)

    -- which is less than the number of its actions.
    pub deviates_before_the_end : given.number ≡ 22 → given.place < actions_of log
    deviates_before_the_end =
        rw (← as_many_actions log, same) (demands.deviates_before_the_end chart t allowance places)

    -- 01, Verdicts and numbers given: 20 and 21 give the log's length in actions.
    pub accepted_gives_the_length : given.number ≡ 20 → given.place ≡ actions_of log
    accepted_gives_the_length =
        rw (← as_many_actions log, same) (demands.accepted_gives_the_length chart t allowance places)

    pub short_gives_the_length : given.number ≡ 21 → given.place ≡ actions_of log
    short_gives_the_length =
        rw (← as_many_actions log, same) (demands.short_gives_the_length chart t allowance places)

    -- ---- Demand 3: steps and places

    -- "For each sound chart and log the written search rules fix a number of steps and a number of places." They are
    -- `steps_of` and `places_of`, which do not depend on the lending.
    -- The verdict has them,
    pub verdict_has_the_figures : (given.steps ≡ steps_of chart t) × (given.places ≡ places_of chart t)
    verdict_has_the_figures = rw same (demands.verdict_has_the_figures chart t allowance places reached)

    -- "and is then the same with the same two figures, however much more is lent."
    pub same_whatever_more_is_lent : (more : ℕ) (larger : List ℕ) → allowance ≤ more → length room ≤ length larger
        → judgment card log more (length larger) ≡ given
    same_whatever_more_is_lent more larger h k =
        let all : Reaches chart t more (usable (length larger)) = (omega (arith, reached.0), omega (arith, reached.1))
        in
        (sound_judges card log more larger verdict_only_for_sound_input).0
        ∙ ap judged_of
        (sym (demands.same_whatever_more_is_lent chart t allowance places more (usable (length larger)) reached all))
        ∙ sym same

  -- "A verdict comes exactly when the allowance and the usable room reach these two": for a sound card and log.
  pub verdict_exactly_when_reached : Verdict given.number ↔ (SoundBoth card log × Reaches chart t allowance places)
  verdict_exactly_when_reached = (
    λ v. (verdict_only_for_sound_input v, reached v),
    λ (s, r). rw (sound_judges card log allowance room s).0
        ((demands.verdict_exactly_when_reached chart t allowance places).1 r),
  )

  module _ (sound : SoundBoth card log) where
    same_answer : given ≡ judged_of (answer chart t allowance places)
    same_answer = (sound_judges card log allowance room sound).0

    -- 01: 9 exactly if "a follow-up is wanted and the allowance is spent", with the figures reached so far;
    pub nine_exactly_if_the_allowance_is_spent : (given.number ≡ 9) ↔ Wants chart t places allowance
    nine_exactly_if_the_allowance_is_spent =
        rw same_answer (demands.nine_exactly_if_the_allowance_is_spent chart t allowance places)

    pub nine_has_the_figures_reached : given.number ≡ 9
        → given ≡ judged_of (halted 9 allowance (places_after chart t allowance))
    nine_has_the_figures_reached e =
        same_answer
        ∙ ap judged_of (demands.nine_has_the_figures_reached chart t allowance places (rw same_answer at e))

    -- 10 exactly if "the chart, or the next whole follow-up, exceeds the usable room", the allowance not spent;
    pub ten_exactly_if_the_room_is_exceeded :
        (given.number ≡ 10) ↔ ((places < size chart) ⊎ ((k : ℕ) × Exceeds chart t allowance places k))
    ten_exactly_if_the_room_is_exceeded =
        rw same_answer (demands.ten_exactly_if_the_room_is_exceeded chart t allowance places)

    -- no figures if it is the chart, else the figures reached so far.
    pub ten_has_no_figures_for_the_chart : places < size chart → given ≡ judged_of (halted 10 0 0)
    ten_has_no_figures_for_the_chart h =
        same_answer ∙ ap judged_of (demands.ten_has_no_figures_for_the_chart chart t allowance places h)

    pub ten_has_the_figures_reached : (k : ℕ) → Exceeds chart t allowance places k
        → given ≡ judged_of (halted 10 k (places_after chart t k))
    ten_has_the_figures_reached k h =
        same_answer ∙ ap judged_of (demands.ten_has_the_figures_reached chart t allowance places k h)

  -- No answer, whichever it is, has more steps than the allowance, nor more places than the usable room.
  pub never_above_the_lending : (given.steps ≤ allowance) × (given.places ≤ places)
  never_above_the_lending = figures_within card log allowance room

  -- "Once a log deviates, every sound longer log beginning with it gets the same verdict, place and figures from the
  -- same lending", whatever that is.
  pub once_deviating_the_same_for_ever : given.number ≡ 22 → (more : List ℕ) → SoundBoth card (log ++ more)
      → (lent : ℕ) (lent_room : List ℕ)
      → judgment card (log ++ more) lent (length lent_room) ≡ judgment card log lent (length lent_room)
  once_deviating_the_same_for_ever e more longer lent lent_room =
      let v : Verdict given.number = inr (inr e) in
      let sound = verdict_only_for_sound_input v in
      (sound_judges card (log ++ more) lent lent_room longer).0
      ∙ ap (λ u. judged_of (answer chart u lent (usable (length lent_room)))) (log_of_both log more (whole_log card log
      sound))
      ∙ ap judged_of
      (demands.once_deviating_the_same_for_ever chart t allowance places (rw (same v) at e) (log_of more) lent
      (usable (length lent_room)))
      ∙ sym (sound_judges card log lent lent_room sound).0

-- "Every chart has at least one log" (01, Which logs belong to a chart): so the chart of every card has one.
pub every_card_has_a_log : (card : List ℕ) → (t : Log) × Published (card_chart card) t
every_card_has_a_log card = demands.every_chart_has_a_log (card_chart card)
