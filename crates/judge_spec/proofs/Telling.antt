-- What refuses a card and a log is what 01's table tells: each number and place under its exact condition, and no
-- other. If nothing refuses them, the judgment is the answer to the card's chart and the log.
-- Assumes nothing.
use Prim.Native.Nat.{ℕ, ◌/◌, ◌%◌, ◌<◌, ◌≤◌}
use mathlib.Core.Bool.{Bool, true, false}
use mathlib.Core.List.{List}
use mathlib.Core.Path.{◌≡◌, refl, sym, ◌∙◌}
use native.Mathlib.Decide.{ℕ_discrete}
use lib.ListN.{length}
use Rattle.chart_spec.specs.Lending.{answer}
use Rattle.std.specs.Prelude.{Ok, Err}
use Rattle.number_spec.specs.declared.Refusal.TheVariants.{LogLength, UndeclaredAction}
use Rattle.card_spec.specs.Parts.{lifelines_of, messages_of}
use Rattle.card_spec.specs.Nodes.{card_chart}
use Rattle.card_spec.specs.Checking.{checking}
use Rattle.card_spec.specs.Table.{Lowest, Sound}
use Rattle.card_spec.proofs.Decided.{Decided, by_leb, by_ltb, by_eqb, by_both, if_not, if_so}
use Rattle.card_spec.proofs.Deciding.{at_least_six, same_lifelines, same_messages}
use Rattle.card_spec.proofs.LowestAt.{Looked, look, no_fault→fine, lowest→refused}
use Rattle.card_spec.proofs.LowestAt.Looked.{nowhere, somewhere}
use Rattle.card_spec.proofs.Promises.{given_exactly_as_the_table_tells, zero_exactly_for_sound_cards}
use Rattle.card_spec.proofs.Telling.{sound→nothing_found}
use Rattle.log_spec.specs.Bytes.{log_of, action_at}
use Rattle.log_spec.specs.Refusing.{in_rule, declared, undeclared, refusing}
use Rattle.judge_spec.specs.Judgment.{usable, judged_of, refused_at, judgment, cleared, room_after, Judges}
use Rattle.judge_spec.specs.Table as table
use Rattle.judge_spec.specs.Table.{OddOrLong, UndeclaredAt, SoundBoth}
use Rattle.judge_spec.specs.Table.Refused.{by_the_card, seven, eight}
use Rattle.judge_spec.proofs.Refusing.{card_refused, log_refused}

-- 7
rule_decided : (log : List ℕ) → Decided (in_rule log) (OddOrLong log)
rule_decided log = by_both (by_eqb (length log % 2) 0) (λ even. by_leb (length log) 256)

module _ (card log : List ℕ) where
  module _ (sound : Sound card) where
    long : 6 ≤ length card
    long = at_least_six card sound.tree.ordered.trailed.framed

    -- 8, decided for each action.
    abbrev is_declared : ℕ → Bool
    is_declared i = declared (lifelines_of card) (messages_of card) (action_at log i)

    each_decided : (i : ℕ) → i < length log / 2 → Decided (is_declared i) (UndeclaredAt card log i)
    each_decided i h =
        rw (← same_lifelines card long, ← same_messages card long)
        (by_both (by_ltb (action_at log i).line (lifelines_of card)) (λ line.
        by_ltb (action_at log i).message (messages_of card)))

    found_seven : OddOrLong log → refusing (lifelines_of card) (messages_of card) log ≡ Err LogLength
    found_seven h = rw (if_so (rule_decided log) h)

    module _ (whole : ¬ OddOrLong log) where
      found_undeclared : refusing (lifelines_of card) (messages_of card) log
          ≡ undeclared (lifelines_of card) (messages_of card) log
      found_undeclared = rw (if_not (rule_decided log) whole)

      found_eight : (i : ℕ) → Lowest (UndeclaredAt card log) (length log / 2) i
          → refusing (lifelines_of card) (messages_of card) log ≡ Err (UndeclaredAction i)
      found_eight i l =
          found_undeclared
          ∙ lowest→refused UndeclaredAction is_declared (UndeclaredAt card log) (length log / 2) i each_decided l

  -- Nothing refuses a sound card and log.
  pub nothing_found : SoundBoth card log → refusing (lifelines_of card) (messages_of card) log ≡ Ok tt
  nothing_found s =
      found_undeclared s.sound s.whole
      ∙ no_fault→fine UndeclaredAction (is_declared s.sound) (UndeclaredAt card log) (length log / 2)
      (each_decided s.sound) s.declared

  -- One of the two: refused, with its number and place, or sound.
  pub data LookedAt : Type 0 where
    is_refused : (number place : ℕ) → table.Refused card log number place → LookedAt
    is_sound : SoundBoth card log → LookedAt

  by_eight : (sound : Sound card) (whole : ¬ OddOrLong log)
      → Looked UndeclaredAction (is_declared sound) (UndeclaredAt card log) (length log / 2) → LookedAt
  by_eight sound whole (nowhere e none) = is_sound (record { sound = sound; whole = whole; declared = none })
  by_eight sound whole (somewhere i e l) = is_refused 8 i (eight sound whole l)

  by_seven : (sound : Sound card) (b : Bool) → in_rule log ≡ b → LookedAt
  by_seven sound false e = is_refused 7 0 (seven sound ((rule_decided log).fails e))
  by_seven sound true e =
      by_eight sound ((rule_decided log).passes e)
      (look UndeclaredAction (is_declared sound) (UndeclaredAt card log) (length log / 2) (each_decided sound))

  by_the_number : Dec ((checking card).number ≡ 0) → LookedAt
  by_the_number (yes e) = by_seven ((zero_exactly_for_sound_cards card).0 e) (in_rule log) refl
  by_the_number (no h) =
      is_refused (checking card).number (checking card).place
      (by_the_card h ((given_exactly_as_the_table_tells card (checking card).number (checking card).place).0 (
        refl,
        refl,
      )))

  pub looked_at : LookedAt
  looked_at = by_the_number (ℕ_discrete (checking card).number 0)

  module _ (allowance : ℕ) (room : List ℕ) where
    -- Refused: the number and place, no figures, and the room as found.
    pub refused_judges : {number place : ℕ} → table.Refused card log number place
        → Judges card log allowance room (refused_at number place) room
    refused_judges (by_the_card {number} {place} h told) =
        let (n, p) = (given_exactly_as_the_table_tells card _ _).1 told in
        rw (n, p) at (card_refused card log allowance room (checking card) refl (λ e. h (sym n ∙ e)))
    refused_judges (seven sound h) =
        log_refused card log allowance room LogLength sound (found_seven sound h)
    refused_judges (eight {i = i} sound whole l) =
        log_refused card log allowance room (UndeclaredAction i) sound (found_eight sound whole i l)

    -- Sound: the answer to the chart and the log, and the usable room zeroed.
    pub sound_judges : SoundBoth card log
        → (judgment card log allowance (length room)
        ≡ judged_of (answer (card_chart card) (log_of log) allowance (usable (length room))))
        × (room_after card log room ≡ cleared room)
    unfolding judgment room_after
    sound_judges s = rw (sound→nothing_found card s.sound, nothing_found s) (refl, refl)
