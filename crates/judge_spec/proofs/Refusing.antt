-- What was found decides the judgment and the room afterwards: the card was refused; or the log was; or neither, and
-- the answer is that of the chart and the log.
-- Assumes nothing.
use Prim.Native.Nat.{ℕ}
use mathlib.Core.List.{List, ◌++◌}
use mathlib.Core.Logic.{◌≢◌}
use mathlib.Core.Path.{◌≡◌, refl, ap, ◌∙◌}
use native.Mathlib.Omega.{arith}
use lib.ListN.{length, take, drop, replicate, length-take}
use Rattle.chart_spec.specs.Lending.{answer}
use Rattle.std.specs.Prelude.{Ok, Err}
use Rattle.number_spec.specs.declared.Refusal.{Refusal}
use Rattle.number_spec.specs.Refusals.{number_of, place_of}
use Rattle.card_spec.specs.Parts.{lifelines_of, messages_of}
use Rattle.card_spec.specs.Nodes.{card_chart}
use Rattle.card_spec.specs.declared.Checked.{Checked}
use Rattle.card_spec.specs.Checking.{checking}
use Rattle.card_spec.specs.Table.{Sound}
use Rattle.card_spec.proofs.Answers.{refused_so_found}
use Rattle.card_spec.proofs.Telling.{sound→nothing_found}
use Rattle.log_spec.specs.Bytes.{log_of}
use Rattle.log_spec.specs.Refusing.{refusing}
use Rattle.judge_spec.specs.declared.Judged.{Judged}
use Rattle.judge_spec.specs.Judgment.{usable, refusal, judged_of, refused_at, judgment, room_after, Judges}

zeroed : (room part : List ℕ) (end n : ℕ) → end ≡ n → part ≡ replicate n 0
    → part ++ drop end room ≡ replicate n 0 ++ drop n room
zeroed room part end n is zeros = rw (is, zeros)

module _ (card log : List ℕ) (allowance : ℕ) (room : List ℕ) where
  -- The card or the log was refused: 1 to 8.
  pub refusal_judges : (refused : Refusal) → refusal card log ≡ Err refused
      → Judges card log allowance room (refused_at (number_of refused) (place_of refused)) room
  unfolding judgment room_after
  refusal_judges refused e = rw e (refl, refl)

  -- The card was refused: 1 to 6.
  pub card_refused : (checked : Checked) → checked ≡ checking card → checked.number ≢ 0
      → Judges card log allowance room (refused_at checked.number checked.place) room
  card_refused checked e h =
      let (refused, found, is) = refused_so_found card (rw e at h) in
      rw (e, is) (refusal_judges refused (rw found refl))

  -- The log was refused: 7 or 8.
  pub log_refused : (refused : Refusal) → Sound card
      → refusing (lifelines_of card) (messages_of card) log ≡ Err refused
      → Judges card log allowance room (refused_at (number_of refused) (place_of refused)) room
  log_refused refused sound e = refusal_judges refused (rw (sound→nothing_found card sound, e) refl)

  -- Neither was refused: the judgment used the usable part of the room and cleared it.
  pub both_sound : (r : Judged) (end : ℕ) (part : List ℕ) → refusal card log ≡ Ok tt
      → end ≡ usable (length room)
      → r ≡ judged_of (answer (card_chart card) (log_of log) allowance (length (take end room)))
      → part ≡ replicate (length (take end room)) 0 → Judges card log allowance room r (part ++ drop end room)
  unfolding judgment room_after
  both_sound r end part e is answered zeros =
      let long : length (take end room) ≡ usable (length room) = omega (arith, length-take end room) in
      rw e (
        answered ∙ ap (λ n. judged_of (answer (card_chart card) (log_of log) allowance n)) long,
        zeroed room part end (usable (length room)) is (rw long at zeros),
      )
