-- The answer under a lending: which of 10, 9 and the verdicts it is, exactly when, and with which figures.
--
-- There are four cases, by how the run of the search goes (Walking.antt, Spending.antt): the chart exceeds the room;
-- the lending reaches; the allowance is spent; the next follow-up exceeds the room. One of them always holds, and never
-- two: a follow-up that was made is within the most places.
-- Assumes nothing.
use Prim.Native.Nat.{ℕ, zero, suc, ◌≤◌, ◌<◌, zero-le}
use native.Mathlib.Nat.{zero-add, le_refl, le_trans, le-max_left, le-max_right, le_of_suc-le-suc, not-suc-le-zero}
use native.Mathlib.Omega.{arith}
use mathlib.Core.Bool.{Bool, true, false, not, cond}
use mathlib.Core.List.{List, [], ◌∷◌}
use mathlib.Core.Logic.{◌↔◌, ◌⊎◌, inl, inr, ⊎_elim}
use mathlib.Core.Path.{◌≡◌, refl, sym, ap, ◌∙◌, subst}
use lib.Dec.{T, ltb, ltb→lt, nltb→le, lit<}
use lib.ListN.{length, take, get_or}
use lib.Seq.{take-length}
use Rattle.chart_spec.specs.Action.{Log}
use Rattle.chart_spec.specs.Chart.{Chart, size}
use Rattle.chart_spec.specs.Searching.{
  Outcome,
  accepted,
  refused,
  searched,
  run_of,
  most,
  steps_of,
  places_of,
  places_after,
}
use Rattle.chart_spec.specs.Lending.{Answer, Ending, unaccepted, halted, told, answer}
use Rattle.chart_spec.specs.Reaching.{Reaches, Verdict, Wants, Exceeds}
use Rattle.chart_spec.proofs.Walking.{ending, verdict, verdict_of, spent, answer_is_spent}
use Rattle.chart_spec.proofs.Spending.{Course, whole, out_of_steps, out_of_room, course}

-- ---- numbers

-- a verdict is none of the numbers of a search that was stopped
verdict_is_not : (n m : ℕ) → Verdict n → n ≡ m → m < 20 → ⊥
verdict_is_not n m (inl v) e h = omega arith
verdict_is_not n m (inr (inl v)) e h = omega arith
verdict_is_not n m (inr (inr v)) e h = omega arith

unaccepted_number : (p : Bool) → Verdict (unaccepted p)
unaccepted_number true = inr (inr refl)
unaccepted_number false = inr (inl refl)

verdict_number : (long : ℕ) (o : Outcome) (s p : ℕ) → Verdict (verdict long o s p).number
verdict_number long (accepted run) s p = inl refl
verdict_number long (refused deepest run) s p = unaccepted_number (ltb deepest long)

number_is : {q r : Answer} → q ≡ r → q.number ≡ r.number
number_is e = ap (λ (a : Answer). a.number) e

-- ---- the figures of a verdict

pub verdict_figures : (long : ℕ) (o : Outcome) (s p : ℕ)
    → ((verdict long o s p).steps ≡ s) × ((verdict long o s p).places ≡ p)
verdict_figures long (accepted run) s p = (refl, refl)
verdict_figures long (refused d run) s p = (refl, refl)

-- ---- runs

-- the chart is within the most places in use, and so is each follow-up that was made
most_from : (p : ℕ) (run : List ℕ) → p ≤ most p run
most_from p [] = le_refl p
most_from p (n ∷ run) = le_trans (most_from p run) (le-max_right n (most p run))

most_made : (p j k : ℕ) (run : List ℕ) → k < j → k < length run → get_or run k 0 ≤ most p (take j run)
most_made p zero k run h g = absurd (not-suc-le-zero h)
most_made p (suc j) k [] h g = absurd (not-suc-le-zero g)
most_made p (suc j) zero (n ∷ run) h g = le-max_left n (most p (take j run))
most_made p (suc j) (suc k) (n ∷ run) h g =
    le_trans (most_made p j k run (le_of_suc-le-suc h) (le_of_suc-le-suc g)) (le-max_right n (most p (take j run)))

module _ (c : Chart) (t : Log) (allowance room : ℕ) where
  -- ---- one of four cases always holds

  -- The four cases, each with its answer.
  data Case (q : Answer) : Type 0 where
    too_large : room < size c → q ≡ halted 10 0 0 → Case q
    reached : Reaches c t allowance room → q ≡ verdict_of c t → Case q
    nine : Wants c t room allowance → q ≡ halted 9 allowance (places_after c t allowance) → Case q
    ten : (k : ℕ) → Exceeds c t allowance room k → q ≡ halted 10 k (places_after c t k) → Case q

  run_case : (end : Ending) → Course allowance room (ending (searched c t)) 0 (size c) (run_of (searched c t)) end
      → Case (told (length t) end)
  run_case end (whole a b e) =
      let none = zero-add (steps_of c t) in
      reached (rw none at a, b)
      (ap (told (length t)) e ∙ ap (λ (n : ℕ). verdict (length t) (searched c t) n (places_of c t)) none)
  run_case end (out_of_steps k h b a e) =
      let all : k ≡ allowance = sym (zero-add k) ∙ a in
      nine (subst (Wants c t room) all (record { within = b; wanted = h }))
      (ap (told (length t)) e
      ∙ ap (λ (n : ℕ). halted 9 n (places_after c t k)) (zero-add k)
      ∙ ap (λ (n : ℕ). halted 9 n (places_after c t n)) all)
  run_case end (out_of_room k h b a x e) =
      ten k (record { wants = record { within = b; wanted = h }; unspent = rw (zero-add k) at a; exceeded = x })
      (ap (told (length t)) e ∙ ap (λ (n : ℕ). halted 10 n (places_after c t k)) (zero-add k))

  chart_case : (p : Bool) → (T p → room < size c) → (T (not p) → size c ≤ room) → (end : Ending)
      → (size c ≤ room → Course allowance room (ending (searched c t)) 0 (size c) (run_of (searched c t)) end)
      → Case (cond p (halted 10 0 0) (told (length t) end))
  chart_case true f f⁻ end g = too_large (f tt) refl
  chart_case false f f⁻ end g = run_case end (g (f⁻ tt))

  -- the answer
  abbrev given : Answer
  given = answer c t allowance room

  answer_case : Case given
  answer_case =
      subst Case (sym (answer_is_spent c t allowance room))
      (chart_case (ltb room (size c)) (ltb→lt room (size c)) (nltb→le room (size c))
      (spent allowance room (searched c t) 0 (size c))
      (course allowance room (ending (searched c t)) 0 (size c) (run_of (searched c t)) zero-le))

  -- ---- and no two of them

  wants_fits : (k : ℕ) → Wants c t room k → ¬ (room < size c)
  wants_fits k w h = let p = w.within in let q = most_from (size c) (take k (run_of (searched c t))) in omega arith

  reaches_fits : Reaches c t allowance room → ¬ (room < size c)
  reaches_fits r h = let p = r.1 in let q = most_from (size c) (run_of (searched c t)) in omega arith

  reaches_wants_none : Reaches c t allowance room → ¬ Wants c t room allowance
  reaches_wants_none r w = let p = r.0 in let q = w.wanted in omega arith

  reaches_exceeds_none : (k : ℕ) → Reaches c t allowance room → ¬ Exceeds c t allowance room k
  reaches_exceeds_none k r x =
      let run = run_of (searched c t) in
      let p = r.1 in
      let q = x.exceeded in
      let w = x.wants.wanted in
      let m = rw (take-length run) at (most_made (size c) (length run) k run w w) in
      omega arith

  spent_exceeds_none : (k : ℕ) → Wants c t room allowance → ¬ Exceeds c t allowance room k
  spent_exceeds_none k w x =
      let p = w.within in
      let q = x.exceeded in
      let m = most_made (size c) allowance k (run_of (searched c t)) x.unspent x.wants.wanted in
      omega arith

  exceeds_none_later : (j k : ℕ) → Exceeds c t allowance room j → Exceeds c t allowance room k → ¬ (j < k)
  exceeds_none_later j k x y h =
      let p = y.wants.within in
      let q = x.exceeded in
      let m = most_made (size c) k j (run_of (searched c t)) h x.wants.wanted in
      omega arith

  exceeds_once : (j k : ℕ) → Exceeds c t allowance room j → Exceeds c t allowance room k → j ≡ k
  exceeds_once j k x y =
      let p = exceeds_none_later j k x y in
      let q = exceeds_none_later k j y x in
      omega arith

  -- So two answers that each belong to one of these cases are the same.
  same_case : {q r : Answer} → Case q → Case r → q ≡ r
  same_case (too_large h e) (too_large g f) = e ∙ sym f
  same_case (too_large h e) (reached g f) = absurd (reaches_fits g h)
  same_case (too_large h e) (nine g f) = absurd (wants_fits allowance g h)
  same_case (too_large h e) (ten k g f) = absurd (wants_fits k g.wants h)
  same_case (reached h e) (too_large g f) = absurd (reaches_fits h g)
  same_case (reached h e) (reached g f) = e ∙ sym f
  same_case (reached h e) (nine g f) = absurd (reaches_wants_none h g)
  same_case (reached h e) (ten k g f) = absurd (reaches_exceeds_none k h g)
  same_case (nine h e) (too_large g f) = absurd (wants_fits allowance h g)
  same_case (nine h e) (reached g f) = absurd (reaches_wants_none g h)
  same_case (nine h e) (nine g f) = e ∙ sym f
  same_case (nine h e) (ten k g f) = absurd (spent_exceeds_none k h g)
  same_case (ten j h e) (too_large g f) = absurd (wants_fits j h.wants g)
  same_case (ten j h e) (reached g f) = absurd (reaches_exceeds_none j g h)
  same_case (ten j h e) (nine g f) = absurd (spent_exceeds_none j g h)
  same_case (ten j h e) (ten k g f) =
      e ∙ ap (λ (m : ℕ). halted 10 m (places_after c t m)) (exceeds_once j k h g) ∙ sym f

  -- ---- the answer in each case

  -- The lending reaches: the verdict, with the steps and places of the log on the chart.
  pub reached_answer : Reaches c t allowance room → given ≡ verdict_of c t
  reached_answer r = same_case answer_case (reached r refl)

  -- The allowance is spent when the next follow-up is wanted: 9, with the figures reached.
  pub spent_answer : Wants c t room allowance → given ≡ halted 9 allowance (places_after c t allowance)
  spent_answer w = same_case answer_case (nine w refl)

  -- The chart exceeds the room: 10, with no figures.
  pub too_large_answer : room < size c → given ≡ halted 10 0 0
  too_large_answer h = same_case answer_case (too_large h refl)

  -- After k steps the allowance is not spent, and the next whole follow-up exceeds the room: 10, with the figures
  -- reached.
  pub exceeded_answer : (k : ℕ) → Exceeds c t allowance room k → given ≡ halted 10 k (places_after c t k)
  exceeded_answer k x = same_case answer_case (ten k x refl)

  -- What holds of the verdict holds of the answer, where the lending reaches.
  pub of_verdict : (P : Answer → Type 0) → Reaches c t allowance room → P (verdict_of c t) → P given
  of_verdict P r h = subst P (sym (reached_answer r)) h

  -- ---- the case that each number stands for

  is_verdict : {q : Answer} → q ≡ verdict_of c t → Verdict q.number
  is_verdict e =
      subst Verdict (sym (number_is e)) (verdict_number (length t) (searched c t) (steps_of c t) (places_of c t))

  pub verdict_iff_reaches : Verdict given.number ↔ Reaches c t allowance room
  verdict_iff_reaches = (tells answer_case, λ r. is_verdict (reached_answer r))
    where
      tells : {q : Answer} → Case q → Verdict q.number → Reaches c t allowance room
      tells {q} (too_large h e) v = absurd (verdict_is_not q.number 10 v (number_is e) (lit< tt))
      tells {q} (reached h e) v = h
      tells {q} (nine h e) v = absurd (verdict_is_not q.number 9 v (number_is e) (lit< tt))
      tells {q} (ten k h e) v = absurd (verdict_is_not q.number 10 v (number_is e) (lit< tt))

  pub nine_iff_wants : (given.number ≡ 9) ↔ Wants c t room allowance
  nine_iff_wants = (tells answer_case, λ w. number_is (spent_answer w))
    where
      tells : {q : Answer} → Case q → q.number ≡ 9 → Wants c t room allowance
      tells {q} (too_large h e) n = let m = number_is e in absurd (omega arith)
      tells {q} (reached h e) n = absurd (verdict_is_not q.number 9 (is_verdict e) n (lit< tt))
      tells {q} (nine h e) n = h
      tells {q} (ten k h e) n = let m = number_is e in absurd (omega arith)

  pub ten_iff_exceeds : (given.number ≡ 10) ↔ ((room < size c) ⊎ ((k : ℕ) × Exceeds c t allowance room k))
  ten_iff_exceeds =
      (tells answer_case, ⊎_elim (λ h. number_is (too_large_answer h)) (λ w. number_is (exceeded_answer w.0 w.1)))
    where
      tells : {q : Answer} → Case q → q.number ≡ 10 → (room < size c) ⊎ ((k : ℕ) × Exceeds c t allowance room k)
      tells {q} (too_large h e) n = inl h
      tells {q} (reached h e) n = absurd (verdict_is_not q.number 10 (is_verdict e) n (lit< tt))
      tells {q} (nine h e) n = let m = number_is e in absurd (omega arith)
      tells {q} (ten k h e) n = inr (k, h)

  -- There is no other number.
  pub no_other_number : Verdict given.number ⊎ (given.number ≡ 9) ⊎ (given.number ≡ 10)
  no_other_number = tells answer_case
    where
      tells : {q : Answer} → Case q → Verdict q.number ⊎ (q.number ≡ 9) ⊎ (q.number ≡ 10)
      tells (too_large h e) = inr (inr (number_is e))
      tells (reached h e) = inl (is_verdict e)
      tells (nine h e) = inr (inl (number_is e))
      tells (ten k h e) = inr (inr (number_is e))

  -- ---- figures

  -- No answer has more steps than the allowance, nor more places than the room.
  pub within_the_lending : (given.steps ≤ allowance) × (given.places ≤ room)
  within_the_lending = tells answer_case
    where
      Within : Answer → Type 0
      Within q = (q.steps ≤ allowance) × (q.places ≤ room)

      tells : {q : Answer} → Case q → Within q
      tells (too_large h e) = subst Within (sym e) (zero-le, zero-le)
      tells (reached (steps, places) e) =
          let (s, p) = verdict_figures (length t) (searched c t) (steps_of c t) (places_of c t) in
          subst Within (sym e) (rw s steps, rw p places)
      tells (nine h e) = subst Within (sym e) (le_refl allowance, h.within)
      tells (ten k h e) = subst Within (sym e) (omega (arith, h.unspent), h.wants.within)
