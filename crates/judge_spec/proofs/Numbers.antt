-- Which numbers a judgment gives: 1 to 8 exactly if the card or the log is refused, and 9, 10 or a verdict exactly if
-- neither is. One of the two always holds, and the number tells which.
-- Assumes nothing.
use Prim.Native.Nat.{ℕ, ◌%◌, ◌<◌, ◌≤◌, zero-le}
use mathlib.Core.List.{List}
use mathlib.Core.Logic.{◌↔◌, ◌⊎◌, inl, inr}
use mathlib.Core.Path.{◌≡◌, sym, ap}
use native.Mathlib.Decide.{ℕ_discrete}
use native.Mathlib.Omega.{arith}
use lib.ListN.{length}
use Rattle.chart_spec.specs.Reaching.{Verdict}
use Rattle.chart_spec.proofs.Demands.{verdict_or_nine_or_ten, never_above_the_lending}
use Rattle.card_spec.specs.Nodes.{card_chart}
use Rattle.card_spec.proofs.Promises.{every_card_gets_a_number, given_exactly_as_the_table_tells}
use Rattle.log_spec.specs.Bytes.{log_of}
use Rattle.judge_spec.specs.declared.Judged.{Judged}
use Rattle.judge_spec.specs.Judgment.{usable, refused_at, judgment, room_after}
use Rattle.judge_spec.specs.Table.{Refused, SoundBoth}
use Rattle.judge_spec.specs.Table.Refused.{by_the_card, seven, eight}
use Rattle.judge_spec.proofs.Telling.{LookedAt, looked_at, refused_judges, sound_judges}
use Rattle.judge_spec.proofs.Telling.LookedAt.{is_refused, is_sound}

-- A whole log has an even number of bytes.
pub whole_log : (card log : List ℕ) → SoundBoth card log → length log % 2 ≡ 0
whole_log card log s = by (ℕ_discrete (length log % 2) 0)
  where
    by : Dec (length log % 2 ≡ 0) → length log % 2 ≡ 0
    by (yes e) = e
    by (no h) = absurd (s.whole (inl h))

-- The numbers of refusals are 1 to 8.
refused_range : (card log : List ℕ) {number place : ℕ} → Refused card log number place → (1 ≤ number) × (number ≤ 8)
refused_range card log (by_the_card h told) =
    let is = ((given_exactly_as_the_table_tells card _ _).1 told).0 in
    let few = every_card_gets_a_number card in
    (omega arith, omega arith)
refused_range card log (seven sound h) = (omega arith, omega arith)
refused_range card log (eight sound whole l) = (omega arith, omega arith)

module _ (card log : List ℕ) (allowance : ℕ) (room : List ℕ) where
  abbrev given : Judged
  given = judgment card log allowance (length room)

  -- A sound card and log get 9, 10 or a verdict.
  sound_number : SoundBoth card log → Verdict given.number ⊎ (given.number ≡ 9) ⊎ (given.number ≡ 10)
  sound_number s =
      rw (sound_judges card log allowance room s).0
      (verdict_or_nine_or_ten (card_chart card) (log_of log) allowance (usable (length room)))

  above_eight : (n : ℕ) → Verdict n ⊎ (n ≡ 9) ⊎ (n ≡ 10) → 8 < n
  above_eight n (inl (inl e)) = omega arith
  above_eight n (inl (inr (inl e))) = omega arith
  above_eight n (inl (inr (inr e))) = omega arith
  above_eight n (inr (inl e)) = omega arith
  above_eight n (inr (inr e)) = omega arith

  in_range : (n : ℕ) → Verdict n ⊎ (n ≡ 9) ⊎ (n ≡ 10) → ((1 ≤ n) × (n ≤ 10)) ⊎ Verdict n
  in_range n (inl v) = inr v
  in_range n (inr (inl e)) = inl (omega arith, omega arith)
  in_range n (inr (inr e)) = inl (omega arith, omega arith)

  -- A refusal has its number and place, and no figures.
  refused_given : {number place : ℕ} → Refused card log number place → given ≡ refused_at number place
  refused_given r = sym (refused_judges card log allowance room r).0

  pub number_of_any : ((1 ≤ given.number) × (given.number ≤ 10)) ⊎ Verdict given.number
  number_of_any = by (looked_at card log)
    where
      by : LookedAt card log → ((1 ≤ given.number) × (given.number ≤ 10)) ⊎ Verdict given.number
      by (is_refused number place r) =
          let (low, high) = refused_range card log r in
          let same = ap (λ j. j.number) (refused_given r) in
          inl (omega arith, omega arith)
      by (is_sound s) = in_range given.number (sound_number s)

  -- A number up to 8 is a refusal with that number and place.
  refused_there : given.number ≤ 8 → Refused card log given.number given.place
  refused_there h = by (looked_at card log)
    where
      by : LookedAt card log → Refused card log given.number given.place
      by (is_refused number place r) = rw (refused_given r) r
      by (is_sound s) = let over = above_eight given.number (sound_number s) in absurd (omega arith)

  pub refused_iff : (number place : ℕ)
      → ((number ≤ 8) × (given.number ≡ number) × (given.place ≡ place)) ↔ Refused card log number place
  refused_iff number place = (
    λ (h, n, p). rw (n, p) at (refused_there (omega arith)),
    λ r.
        let same = refused_given r in
        ((refused_range card log r).1, ap (λ j. j.number) same, ap (λ j. j.place) same),
  )

  pub sound_iff : (8 < given.number) ↔ SoundBoth card log
  sound_iff = (λ h. by h (looked_at card log), λ s. above_eight given.number (sound_number s))
    where
      by : 8 < given.number → LookedAt card log → SoundBoth card log
      by h (is_refused number place r) =
          let few = (refused_range card log r).1 in
          let same = ap (λ j. j.number) (refused_given r) in
          absurd (omega arith)
      by h (is_sound s) = s

  pub refused_figures : given.number ≤ 8 → (given.steps ≡ 0) × (given.places ≡ 0)
  refused_figures h =
      let same = refused_given (refused_there h) in
      (ap (λ j. j.steps) same, ap (λ j. j.places) same)

  pub refused_room : given.number ≤ 8 → room_after card log room ≡ room
  refused_room h = sym (refused_judges card log allowance room (refused_there h)).1

  -- A refusal has no figures, and the answer to a sound card and log is within the lending.
  pub figures_within : (given.steps ≤ allowance) × (given.places ≤ usable (length room))
  figures_within = by (looked_at card log)
    where
      by : LookedAt card log → (given.steps ≤ allowance) × (given.places ≤ usable (length room))
      by (is_refused number place r) = let same = refused_given r in rw same (zero-le, zero-le)
      by (is_sound s) =
          rw (sound_judges card log allowance room s).0
          (never_above_the_lending (card_chart card) (log_of log) allowance (usable (length room)))
