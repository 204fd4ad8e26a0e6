-- What the three verdicts say, for any set of logs that the search decides.
--
-- The search decides a set if it accepts exactly its logs and otherwise stops at the longest opening. Then a log that
-- was used up, but refused, begins a longer log of the set, and one that was not used up begins none. At the end: the
-- search decides the published set of a chart.
-- Assumes nothing.
use Prim.Native.Nat.{ℕ, ◌≤◌, ◌<◌}
use native.Mathlib.Nat.{le_refl, le_antisymm, not-le_of_lt, lt_of_not-le}
use native.Mathlib.Omega.{arith}
use mathlib.Core.Bool.{Bool, true, false, not}
use mathlib.Core.List.{[], ◌∷◌, ◌++◌, append-nil}
use mathlib.Core.Logic.Iff
use mathlib.Core.Logic.{◌↔◌, ◌≢◌}
use mathlib.Core.Path.{◌≡◌, refl, sym, ap, subst, ◌∙◌}
use lib.Dec.{T, ltb, ltb→lt, nltb→le}
use lib.ListN.{length, take}
use lib.Seq.{take-length}
use Rattle.chart_spec.specs.Action.{Log}
use Rattle.chart_spec.specs.Chart.{Chart, size}
use Rattle.chart_spec.specs.Traces.{Traces}
use Rattle.chart_spec.specs.Openings.{Begins, Longer, Longest}
use Rattle.chart_spec.specs.Published.{Published}
use Rattle.chart_spec.specs.Member.{Member}
use Rattle.chart_spec.specs.Searching.{Outcome, accepted, refused, searched}
use Rattle.chart_spec.specs.Lending.{unaccepted}
use Rattle.chart_spec.proofs.Walking.{verdict}
use Rattle.chart_spec.proofs.Agreement.{published_iff_member}
use Rattle.chart_spec.proofs.Exploring.{Accepts, Refuses, explore_accepts_iff_member, explore_refuses_at_the_longest}
use Rattle.chart_spec.proofs.Extending.{Deviates}

-- The outcome o of a search decides whether t is in the set, and how much of it begins a log of the set.
pub record Decides (M : Traces) (t : Log) (o : Outcome) : Type 0 where
  pub accepts : Accepts o ↔ M t
  pub refuses : Refuses (Longest M t) o

-- The log was used up, and not accepted.
abbrev UsedUp : ℕ → Outcome → Type 0
UsedUp long (accepted run) = ⊥
UsedUp long (refused deepest run) = long ≤ deepest

-- ---- the number tells the outcome

unaccepted_is : (d long : ℕ) (p : Bool) → (T p → d < long) → (T (not p) → long ≤ d)
    → ((unaccepted p ≡ 22) ↔ (d < long)) × ((unaccepted p ≡ 21) ↔ (long ≤ d)) × (unaccepted p ≢ 20)
unaccepted_is d long true f f⁻ =
    let h = f tt in ((λ e. h, λ g. refl), (λ e. absurd (omega arith), λ g. absurd (not-le_of_lt h g)), λ e. omega arith)
unaccepted_is d long false f f⁻ =
    let h = f⁻ tt in (
      (λ e. absurd (omega arith), λ g. absurd (not-le_of_lt g h)),
      (λ e. h, λ g. refl),
      λ e. omega arith,
    )

module _ (long : ℕ) (s p : ℕ) where
  pub twenty_accepts : (o : Outcome) → ((verdict long o s p).number ≡ 20) ↔ Accepts o
  twenty_accepts (accepted run) = (λ e. tt, λ h. refl)
  twenty_accepts (refused d run) =
      ((unaccepted_is d long (ltb d long) (ltb→lt d long) (nltb→le d long)).2, λ h. absurd h)

  twenty_one_used_up : (o : Outcome) → ((verdict long o s p).number ≡ 21) ↔ UsedUp long o
  twenty_one_used_up (accepted run) = (λ e. omega arith, λ h. absurd h)
  twenty_one_used_up (refused d run) = (unaccepted_is d long (ltb d long) (ltb→lt d long) (nltb→le d long)).1

  pub twenty_two_deviates : (o : Outcome) → ((verdict long o s p).number ≡ 22) ↔ Deviates long o
  twenty_two_deviates (accepted run) = (λ e. omega arith, λ h. absurd h)
  twenty_two_deviates (refused d run) = (unaccepted_is d long (ltb d long) (ltb→lt d long) (nltb→le d long)).0

-- ---- the outcome tells of the set

-- an opening of the whole length is the log
whole : (M : Traces) (t : Log) → Begins M (take (length t) t) → Begins M t
whole M t b = subst (Begins M) (take-length t) b

module _ (M : Traces) (t : Log) where
  begins_itself : M t → Begins M t
  begins_itself m = ([], subst M (sym (append-nil t)) m)

  begins_longer : Begins M t → ¬ M t → Longer M t
  begins_longer ([], m) n = absurd (n (subst M (append-nil t) m))
  begins_longer (a ∷ u, m) n = (a, u, m)

  longest_is_whole : (d : ℕ) → Longest M t d → length t ≤ d → Begins M t
  longest_is_whole d l h = whole M t (subst (λ (n : ℕ). Begins M (take n t)) (le_antisymm l.within h) l.opens)

  whole_is_longest : (d : ℕ) → Longest M t d → Begins M t → length t ≤ d
  whole_is_longest d l b = l.longest (length t) (le_refl (length t)) (subst (Begins M) (sym (take-length t)) b)

  used_up_is_short : (o : Outcome) → Decides M t o → UsedUp (length t) o ↔ ((¬ M t) × Longer M t)
  used_up_is_short (accepted run) k = (λ h. absurd h, λ w. w.0 (k.accepts.0 tt))
  used_up_is_short (refused d run) k =
      let l = k.refuses in (
        λ h. (k.accepts.1, begins_longer (longest_is_whole d l h) k.accepts.1),
        λ w. whole_is_longest d l (w.1.0 ∷ w.1.1, w.1.2),
      )

  pub deviates_begins_none : (o : Outcome) → Decides M t o → Deviates (length t) o ↔ (¬ Begins M t)
  deviates_begins_none (accepted run) k = (λ h. absurd h, λ n. n (begins_itself (k.accepts.0 tt)))
  deviates_begins_none (refused d run) k =
      let l = k.refuses in
      (λ h b. not-le_of_lt h (whole_is_longest d l b), λ n. lt_of_not-le (λ h. n (longest_is_whole d l h)))

  -- ---- the three verdicts

  pub accepted_iff : (o : Outcome) (s p : ℕ) → Decides M t o → ((verdict (length t) o s p).number ≡ 20) ↔ M t
  accepted_iff o s p k = Iff.trans (twenty_accepts (length t) s p o) k.accepts

  pub short_iff : (o : Outcome) (s p : ℕ) → Decides M t o → ((verdict (length t) o s p).number ≡ 21)
      ↔ ((¬ M t) × Longer M t)
  short_iff o s p k = Iff.trans (twenty_one_used_up (length t) s p o) (used_up_is_short o k)

  pub deviates_iff : (o : Outcome) (s p : ℕ) → Decides M t o → ((verdict (length t) o s p).number ≡ 22) ↔ (¬ Begins M t)
  deviates_iff o s p k = Iff.trans (twenty_two_deviates (length t) s p o) (deviates_begins_none o k)

  -- ---- the three places

  pub accepted_place : (o : Outcome) (s p : ℕ) → (verdict (length t) o s p).number ≡ 20
      → (verdict (length t) o s p).place ≡ length t
  accepted_place (accepted run) s p e = refl
  accepted_place (refused d run) s p e = absurd ((twenty_accepts (length t) s p (refused d run)).0 e)

  pub short_place : (o : Outcome) (s p : ℕ) → Decides M t o → (verdict (length t) o s p).number ≡ 21
      → (verdict (length t) o s p).place ≡ length t
  short_place (accepted run) s p k e = refl
  short_place (refused d run) s p k e =
      le_antisymm k.refuses.within ((twenty_one_used_up (length t) s p (refused d run)).0 e)

  pub deviates_place : (o : Outcome) (s p : ℕ) → Decides M t o → (verdict (length t) o s p).number ≡ 22
      → Longest M t (verdict (length t) o s p).place
  deviates_place (accepted run) s p k e = absurd ((twenty_two_deviates (length t) s p (accepted run)).0 e)
  deviates_place (refused d run) s p k e = k.refuses

-- ---- a log that begins none

-- No log of the set begins with t exactly if neither t nor a longer log that begins with t belongs to it.
pub begins_none_iff : (M : Traces) (t : Log) → (¬ Begins M t) ↔ ((¬ M t) × (¬ Longer M t))
begins_none_iff M t = (
  λ none. (λ m. none ([], subst M (sym (append-nil t)) m), λ (a, u, m). none (a ∷ u, m)),
  λ (not, longer) (u, m). by not longer u m,
)
  where
    by : ¬ M t → ¬ Longer M t → (u : Log) → M (t ++ u) → ⊥
    by not longer [] m = not (subst M (append-nil t) m)
    by not longer (a ∷ u) m = longer (a, u, m)

-- The longest opening of a log that begins none is shorter than the log.
pub longest_is_shorter : (M : Traces) (t : Log) {n : ℕ} → Longest M t n → ¬ Begins M t → n < length t
longest_is_shorter M t {n} longest none = lt_of_not-le λ all.
    let whole : n ≡ length t = le_antisymm longest.within all in
    none (subst (Begins M) (ap (λ m. take m t) whole ∙ take-length t) longest.opens)

-- ---- the search decides the published set

longest_agrees : (c : Chart) (t : Log) (n : ℕ) → Longest (Member c) t n → Longest (Published c) t n
longest_agrees c t n l =
    record {
      within = l.within;
      opens = let (u, m) = l.opens in (u, (published_iff_member c (take n t ++ u)).1 m);
      longest = λ m h b. l.longest m h (b.0, (published_iff_member c (take m t ++ b.0)).0 b.1);
    }

refuses_agrees : (c : Chart) (t : Log) (o : Outcome) → Refuses (Longest (Member c) t) o
    → Refuses (Longest (Published c) t) o
refuses_agrees c t (accepted run) l = tt
refuses_agrees c t (refused d run) l = longest_agrees c t d l

pub search_decides_the_published_set : (c : Chart) (t : Log) → Decides (Published c) t (searched c t)
search_decides_the_published_set c t =
    record {
      accepts = Iff.trans (explore_accepts_iff_member t c (size c)) (Iff.symm (published_iff_member c t));
      refuses = refuses_agrees c t (searched c t) (explore_refuses_at_the_longest t c (size c));
    }
