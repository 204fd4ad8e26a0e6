-- A chart terminates exactly if it has the empty log, and evades d exactly if it has a log in which d never acts.
--
-- From the test to a log: a pair takes a log of each side and deals them one after the other, and a loop takes no
-- round. From a log to the test: the parts of an empty deal are empty, and the parts of a deal without d are without d.
-- Every chart has a log, by the same construction.
-- Assumes nothing.
use Prim.Native.Nat.{ℕ}
use mathlib.Core.Bool.{not}
use mathlib.Core.List.{[], ◌∷◌, ◌++◌}
use mathlib.Core.Logic.{◌↔◌, ◌≢◌, inl, inr, ⊎_elim, ⊎_map}
use mathlib.Core.Path.{subst}
use lib.Dec.{T, T_not, not_T, eqb, eqb→eq, eqb_refl}
use Rattle.chart_spec.specs.Action.{Log, Avoids}
use Rattle.chart_spec.specs.Chart.{Chart, empty, act, alt, pair, loop}
use Rattle.chart_spec.specs.Traces.{only, joined}
use Rattle.chart_spec.specs.Member.{done, Member, none}
use Rattle.chart_spec.specs.Executing.{terminates, evades}
use Rattle.chart_spec.proofs.Tests.{both→, both←, either→, either←left, either←right}
use Rattle.chart_spec.proofs.Deals.{deal_appended, deal_every→, deal_every←}

pub every_chart_has_a_log : (c : Chart) → (t : Log) × Member c t
every_chart_has_a_log empty = ([], only)
every_chart_has_a_log (act a) = (a ∷ [], only)
every_chart_has_a_log (alt l r) = let (t, m) = every_chart_has_a_log l in (t, inl m)
every_chart_has_a_log (pair o l r) =
    let (s, m) = every_chart_has_a_log l in
    let (u, n) = every_chart_has_a_log r in
    (s ++ u, joined s u m n (deal_appended o s u))
every_chart_has_a_log (loop k b) = ([], none)

-- ---- terminating

pub terminates→ : (c : Chart) → T (terminates c) → Member c []
terminates→ empty h = only
terminates→ (act a) h = absurd h
terminates→ (alt l r) h = ⊎_map (terminates→ l) (terminates→ r) (either→ (terminates l) (terminates r) h)
terminates→ (pair o l r) h =
    let (p, q) = both→ (terminates l) (terminates r) h in
    joined [] [] (terminates→ l p) (terminates→ r q) done
terminates→ (loop k b) h = none

pub terminates← : (c : Chart) → Member c [] → T (terminates c)
terminates← empty m = tt
terminates← (act a) m = elim m [ ]
terminates← (alt l r) (inl m) = either←left (terminates l) (terminates r) (terminates← l m)
terminates← (alt l r) (inr m) = either←right (terminates l) (terminates r) (terminates← r m)
terminates← (pair o l r) (joined s u m n done) = both← (terminates l) (terminates r) (terminates← l m) (terminates← r n)
terminates← (loop k b) m = tt

pub terminates_iff_the_empty_log_belongs : (c : Chart) → T (terminates c) ↔ Member c []
terminates_iff_the_empty_log_belongs c = (terminates→ c, terminates← c)

-- ---- evading

-- the test that an action is on another lifeline, as a fact
pub on_another→ : (l d : ℕ) → T (not (eqb l d)) → l ≢ d
on_another→ l d h e = T_not (eqb l d) h (subst (λ (n : ℕ). T (eqb l n)) e (eqb_refl l))

pub on_another← : (l d : ℕ) → l ≢ d → T (not (eqb l d))
on_another← l d h = not_T (eqb l d) (λ e. h (eqb→eq l d e))

pub evades→ : (c : Chart) (d : ℕ) → T (evades c d) → (t : Log) × Member c t × Avoids d t
evades→ empty d h = ([], only, tt)
evades→ (act a) d h = (a ∷ [], only, (on_another→ a.line d h, tt))
evades→ (alt l r) d h =
    ⊎_elim
    (λ p. let (t, m, e) = evades→ l d p in (t, inl m, e))
    (λ q. let (t, m, e) = evades→ r d q in (t, inr m, e))
    (either→ (evades l d) (evades r d) h)
evades→ (pair o l r) d h =
    let (p, q) = both→ (evades l d) (evades r d) h in
    let (s, m, e) = evades→ l d p in
    let (u, n, f) = evades→ r d q in
    let x = deal_appended o s u in
    (s ++ u, joined s u m n x, deal_every← _ x e f)
evades→ (loop k b) d h = ([], none, tt)

pub evades← : (c : Chart) (d : ℕ) (t : Log) → Member c t → Avoids d t → T (evades c d)
evades← empty d t m e = tt
evades← (act a) d t only e = on_another← a.line d e.0
evades← (alt l r) d t (inl m) e = either←left (evades l d) (evades r d) (evades← l d t m e)
evades← (alt l r) d t (inr m) e = either←right (evades l d) (evades r d) (evades← r d t m e)
evades← (pair o l r) d t (joined s u m n x) e =
    let (f, g) = deal_every→ _ x e in
    both← (evades l d) (evades r d) (evades← l d s m f) (evades← r d u n g)
evades← (loop k b) d t m e = tt

pub evades_iff_some_log_avoids : (c : Chart) (d : ℕ) → T (evades c d) ↔ ((t : Log) × Member c t × Avoids d t)
evades_iff_some_log_avoids c d = (evades→ c d, λ w. evades← c d w.0 w.1 w.2)
