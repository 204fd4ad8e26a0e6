-- How a run ends: it goes through whole exactly if the allowance reaches its length and the room its most places; else
-- it stops at the first follow-up that may not be made: with 9 if the allowance is spent there, and with 10 if only the
-- room is exceeded.
--
-- By induction on the run, from any steps made and places in use so far.
-- Assumes nothing.
use Prim.Native.Nat.{ℕ, suc, ◌+◌, ◌≤◌, ◌<◌, max, zero-le, suc-le-suc}
use native.Mathlib.Nat.{add-zero, max-le}
use native.Mathlib.Omega.{arith}
use mathlib.Core.Bool.{Bool, true, false, not}
use mathlib.Core.List.{List, [], ◌∷◌}
use mathlib.Core.Path.{◌≡◌, sym, ap, ap₂, ◌∙◌}
use lib.Dec.{T, leb, ltb, leb→le, nleb→lt, ltb→lt, nltb→le}
use lib.ListN.{length, take, get_or}
use Rattle.chart_spec.specs.Searching.{most}
use Rattle.chart_spec.specs.Lending.{Ending, stopped, follow_up}
use Rattle.chart_spec.proofs.Walking.{spend}

-- the places of the next follow-up may be counted now or at the end
most_later : (p n : ℕ) (run : List ℕ) → most (max p n) run ≡ max n (most p run)
most_later p n [] = omega arith
most_later p n (m ∷ run) = ap (max m) (most_later p n run) ∙ omega arith

-- and so may its step
step_later : (s k : ℕ) → suc s + k ≡ s + suc k
step_later s k = omega arith

module _ (allowance room : ℕ) (on : ℕ → ℕ → Ending) where
  -- How a run ends, from s steps made and p places in use: it goes through; or its first k follow-ups are made, and the
  -- next one is wanted but the allowance is spent; or the allowance is not spent, but the next one is too large for the
  -- room.
  pub data Course (s p : ℕ) (run : List ℕ) (end : Ending) : Type 0 where
    whole : s + length run ≤ allowance → most p run ≤ room → end ≡ on (s + length run) (most p run) → Course s p run end
    out_of_steps : (k : ℕ) → k < length run → most p (take k run) ≤ room → s + k ≡ allowance
        → end ≡ stopped 9 (s + k) (most p (take k run)) → Course s p run end
    out_of_room : (k : ℕ) → k < length run → most p (take k run) ≤ room → s + k < allowance → room < get_or run k 0
        → end ≡ stopped 10 (s + k) (most p (take k run)) → Course s p run end

  -- one follow-up was made: the whole run ends as the rest of it does
  course_later : (s p n : ℕ) (run : List ℕ) (end : Ending) → Course (suc s) (max p n) run end → Course s p (n ∷ run) end
  course_later s p n run end (whole a b e) =
      whole (rw (← step_later s (length run)) a) (rw (← most_later p n run) b)
      (e ∙ ap₂ on (step_later s (length run)) (most_later p n run))
  course_later s p n run end (out_of_steps k h b a e) =
      out_of_steps (suc k) (suc-le-suc h) (rw (← most_later p n (take k run)) b) (sym (step_later s k) ∙ a)
      (e ∙ ap₂ (stopped 9) (step_later s k) (most_later p n (take k run)))
  course_later s p n run end (out_of_room k h b a r e) =
      out_of_room (suc k) (suc-le-suc h) (rw (← most_later p n (take k run)) b) (rw (← step_later s k) a) r
      (e ∙ ap₂ (stopped 10) (step_later s k) (most_later p n (take k run)))

  -- nothing more was made
  still : (number s p : ℕ) → stopped number s p ≡ stopped number (s + 0) p
  still number s p = ap (λ (m : ℕ). stopped number m p) (sym (add-zero s))

  -- the next follow-up, by the two tests
  course_next : (s p n : ℕ) (run : List ℕ) → s ≤ allowance → p ≤ room → (b e : Bool)
      → (T b → allowance ≤ s) → (T (not b) → s < allowance) → (T e → room < n)
      → (T (not b) → T (not e) → Course (suc s) (max p n) run (spend allowance room run on (suc s) (max p n)))
      → Course s p (n ∷ run) (follow_up b e n (spend allowance room run on) s p)
  course_next s p n run hs hp true e f f⁻ g rest =
      let h = f tt in out_of_steps 0 (suc-le-suc zero-le) hp (omega arith) (still 9 s p)
  course_next s p n run hs hp false true f f⁻ g rest =
      let h = f⁻ tt in out_of_room 0 (suc-le-suc zero-le) hp (omega arith) (g tt) (still 10 s p)
  course_next s p n run hs hp false false f f⁻ g rest = course_later s p n run _ (rest tt tt)

  -- How every run ends.
  pub course : (s p : ℕ) (run : List ℕ) → s ≤ allowance → p ≤ room → Course s p run (spend allowance room run on s p)
  unfolding spend
  course s p [] hs hp = whole (omega arith) hp (ap (λ (m : ℕ). on m p) (sym (add-zero s)))
  course s p (n ∷ run) hs hp =
      course_next s p n run hs hp (leb allowance s) (ltb room n)
      (leb→le allowance s) (nleb→lt allowance s) (ltb→lt room n)
      (λ h k. course (suc s) (max p n) run (nleb→lt allowance s h) (max-le hp (nltb→le room n k)))
