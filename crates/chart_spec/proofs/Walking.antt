-- The search under a lending makes the follow-ups of the search with nothing to stop it, in the same order, until it
-- is stopped: it is the run of that search, spent against the allowance and the room.
--
-- `spend` goes along a run, makes the search's tests before each follow-up, and hands over at the end. A function that
-- leaves a stopped ending as it is can be applied at the end of the run or after it, so a failed choice and the choices
-- after it spend their runs one after the other. The rest is induction on the log and on the choices.
-- Assumes nothing.
use Prim.Native.Nat.{ℕ, suc, ◌+◌}
use mathlib.Core.Bool.{Bool, true, false, cond}
use mathlib.Core.List.{List, [], ◌∷◌, ◌++◌}
use mathlib.Core.Path.{◌≡◌, refl, sym, ap, ap₂, fun_ext, ◌∙◌}
use lib.Dec.{leb, ltb}
use lib.ListN.{length}
use Rattle.chart_spec.specs.Action.{Log}
use Rattle.chart_spec.specs.Chart.{Chart, size}
use Rattle.chart_spec.specs.Executing.{Made, chart_of, cost_of, terminates, follows}
use Rattle.chart_spec.specs.Searching.{
  Outcome,
  accepted,
  refused,
  or_else,
  step,
  tries,
  explore,
  searched,
  run_of,
  steps_of,
  places_of,
}
use Rattle.chart_spec.specs.Lending.{
  Answer,
  told,
  Ending,
  found,
  failed,
  stopped,
  follow_up,
  deepened,
  or_next,
  attempts,
  walk,
  halted,
  answer,
}

-- How a search that was not stopped ends.
abbrev pub ending : Outcome → ℕ → ℕ → Ending
ending (accepted run) s p = found s p
ending (refused deepest run) s p = failed deepest s p

-- The verdict on a log of length `long`, from the outcome of the search and its figures.
abbrev pub verdict : ℕ → Outcome → ℕ → ℕ → Answer
verdict long o s p = told long (ending o s p)

-- The verdict on a log of a chart, with its two figures.
abbrev pub verdict_of : Chart → Log → Answer
verdict_of c t = verdict (length t) (searched c t) (steps_of c t) (places_of c t)

-- A function that leaves a stopped ending as it is.
abbrev pub KeepsStops : (Ending → Ending) → Type 0
KeepsStops f = (number s p : ℕ) → f (stopped number s p) ≡ stopped number s p

-- It can be applied after a follow-up, or to how the search goes on.
pub follow_up_then : (f : Ending → Ending) → KeepsStops f → (b e : Bool) (n : ℕ) (on : ℕ → ℕ → Ending) (s p : ℕ)
    → f (follow_up b e n on s p) ≡ follow_up b e n (λ s p. f (on s p)) s p
follow_up_then f h true true n on s p = h 9 s p
follow_up_then f h true false n on s p = h 9 s p
follow_up_then f h false true n on s p = h 10 s p
follow_up_then f h false false n on s p = refl

module _ (allowance room : ℕ) where
  -- The next follow-up, to n places in use, and then how the search goes on.
  abbrev pub next : ℕ → (ℕ → ℕ → Ending) → ℕ → ℕ → Ending
  next n on s p = follow_up (leb allowance s) (ltb room n) n on s p

  -- The run, follow-up by follow-up, and then how the search goes on.
  unfoldable pub spend : List ℕ → (ℕ → ℕ → Ending) → ℕ → ℕ → Ending
  spend [] on s p = on s p
  spend (n ∷ run) on s p = next n (spend run on) s p

  -- A search with the outcome o, from the steps and places so far.
  abbrev pub spent : Outcome → ℕ → ℕ → Ending
  spent o s p = spend (run_of o) (ending o) s p

  -- ---- runs one after the other

  -- two ways to go on are the same
  abbrev Alike : (ℕ → ℕ → Ending) → (ℕ → ℕ → Ending) → Type 0
  Alike f g = (s p : ℕ) → f s p ≡ g s p

  next_alike : (n : ℕ) (f g : ℕ → ℕ → Ending) → Alike f g → Alike (next n f) (next n g)
  next_alike n f g h s p = ap (λ on. next n on s p) (fun_ext (λ s. fun_ext (λ p. h s p)))

  spend_alike : (run : List ℕ) (f g : ℕ → ℕ → Ending) → Alike f g → Alike (spend run f) (spend run g)
  spend_alike run f g h s p = ap (λ on. spend run on s p) (fun_ext (λ s. fun_ext (λ p. h s p)))

  spend_append : (run more : List ℕ) (on : ℕ → ℕ → Ending) → Alike (spend (run ++ more) on) (spend run (spend more on))
  unfolding spend
  spend_append [] more on s p = refl
  spend_append (n ∷ run) more on s p =
      next_alike n (spend (run ++ more) on) (spend run (spend more on)) (spend_append run more on) s p

  spend_then : (f : Ending → Ending) → KeepsStops f → (run : List ℕ) (on : ℕ → ℕ → Ending)
      → Alike (λ s p. f (spend run on s p)) (spend run (λ s p. f (on s p)))
  unfolding spend
  spend_then f h [] on s p = refl
  spend_then f h (n ∷ run) on s p =
      follow_up_then f h (leb allowance s) (ltb room n) n (spend run on) s p
      ∙ next_alike n (λ s p. f (spend run on s p)) (spend run (λ s p. f (on s p))) (spend_then f h run on) s p

  spend_both : (f : Ending → Ending) → KeepsStops f → (run more : List ℕ) (on : ℕ → ℕ → Ending)
      → Alike (spend run (λ s p. f (spend more on s p))) (spend (run ++ more) (λ s p. f (on s p)))
  spend_both f h run more on s p =
      spend_alike run (λ s p. f (spend more on s p)) (spend more (λ s p. f (on s p))) (spend_then f h more on) s p
      ∙ sym (spend_append run more (λ s p. f (on s p)) s p)

  -- ---- the choices

  -- a choice that failed, and then those after it
  failed_spent : (d : ℕ) (run : List ℕ) (rest : Outcome)
      → Alike (spend run (λ s p. deepened (suc d) (spent rest s p))) (spent (or_else d run rest))
  failed_spent d run (accepted more) = spend_both (deepened (suc d)) (λ number s p. refl) run more found
  failed_spent d run (refused e more) = spend_both (deepened (suc d)) (λ number s p. refl) run more (failed e)

  -- a choice, from before its step on
  or_next_spent : (first rest : Outcome) (n : ℕ)
      → Alike (next n (λ s p. or_next (spent first s p) (spent rest))) (spent (step n first rest))
  unfolding spend
  or_next_spent (accepted run) rest n s p =
      next_alike n (λ s p. or_next (spend run found s p) (spent rest)) (spend run found)
      (spend_then (λ w. or_next w (spent rest)) (λ number s p. refl) run found) s p
  or_next_spent (refused d run) rest n s p =
      next_alike n (λ s p. or_next (spend run (failed d) s p) (spent rest)) (spent (or_else d run rest))
      (λ s p. spend_then (λ w. or_next w (spent rest)) (λ number s p. refl) run (failed d) s p
      ∙ failed_spent d run rest s p) s p
      ∙ taken rest
    where
      taken : (rest : Outcome) → next n (spent (or_else d run rest)) s p ≡ spent (or_else d (n ∷ run) rest) s p
      taken (accepted more) = refl
      taken (refused e more) = refl

  attempts_spent : (go : Chart → ℕ → ℕ → ℕ → Ending) (look : Chart → ℕ → Outcome)
      → ((x : Chart) (n : ℕ) → Alike (go x n) (spent (look x n))) → (used : ℕ) (xs : List Made)
      → Alike (attempts allowance room go used xs) (spent (tries look used xs))
  unfolding attempts tries spend
  attempts_spent go look h used [] s p = refl
  attempts_spent go look h used (x ∷ xs) s p =
      let n = used + cost_of x in
      next_alike n
      (λ s p. or_next (go (chart_of x) n s p) (attempts allowance room go used xs))
      (λ s p. or_next (spent (look (chart_of x) n) s p) (spent (tries look used xs)))
      (λ s p. ap₂ or_next (h (chart_of x) n s p)
      (fun_ext (λ s. fun_ext (λ p. attempts_spent go look h used xs s p)))) s p
      ∙ or_next_spent (look (chart_of x) n) (tries look used xs) n s p

  -- ---- the search

  at_end_spent : (b : Bool) (s p : ℕ) → cond b (found s p) (failed 0 s p)
      ≡ spent (cond b (accepted []) (refused 0 [])) s p
  unfolding spend
  at_end_spent true s p = refl
  at_end_spent false s p = refl

  -- The search under a lending is the run of the search with nothing to stop it, spent.
  pub walk_is_spent : (t : Log) (c : Chart) (used : ℕ) → Alike (walk allowance room t c used) (spent (explore t c used))
  unfolding walk explore
  walk_is_spent [] c used = at_end_spent (terminates c)
  walk_is_spent (a ∷ t) c used =
      attempts_spent (λ x n s p. walk allowance room t x n s p) (λ x n. explore t x n) (walk_is_spent t) used
      (follows c a)

-- The answer, from the run.
pub answer_is_spent : (c : Chart) (t : Log) (allowance room : ℕ)
    → answer c t allowance room
    ≡ cond (ltb room (size c)) (halted 10 0 0) (told (length t) (spent allowance room (searched c t) 0 (size c)))
unfolding answer
answer_is_spent c t allowance room =
    ap (λ w. cond (ltb room (size c)) (halted 10 0 0) (told (length t) w))
    (walk_is_spent allowance room t c (size c) 0 (size c))
