-- What the search finds: it accepts exactly the logs of the chart; where it refuses, its deepest opening is the
-- longest opening with which some log of the chart begins.
--
-- By induction on the log. The choices of a step are the follow-ups, and the log goes on in one of them exactly if it
-- belongs to the chart: that is Following.antt. Acceptance needs one choice that accepts. The longest opening is one
-- action more than the longest in any choice, and where there is no choice it is empty, since every chart has a log.
-- Assumes nothing.
use Prim.Native.Nat.{ℕ, zero, suc, ◌+◌, ◌≤◌, max, zero-le, suc-le-suc}
use native.Mathlib.Nat.{
  le_trans,
  le_of_suc-le-suc,
  le-max_left,
  le-max_right,
  max-le,
  max-eq_left,
  max-eq_right,
  le_of_lt,
  lt_of_not-le,
}
use native.Mathlib.Decide.{dec_le}
use mathlib.Core.Bool.{Bool, true, false, cond}
use mathlib.Core.List.{List, [], ◌∷◌, ◌++◌}
use mathlib.Core.Logic.{◌↔◌}
use mathlib.Core.Path.{sym, subst}
use lib.Dec.{T}
use lib.ListN.{length, take}
use Rattle.chart_spec.specs.Action.{Action, Log}
use Rattle.chart_spec.specs.Chart.{Chart}
use Rattle.chart_spec.specs.Openings.{Begins, Longest}
use Rattle.chart_spec.specs.Member.{Member}
use Rattle.chart_spec.specs.Executing.{Made, chart_of, cost_of, terminates, follows}
use Rattle.chart_spec.specs.Searching.{Outcome, accepted, refused, step, tries, explore}
use Rattle.chart_spec.proofs.Evading.{every_chart_has_a_log, terminates→, terminates←}
use Rattle.chart_spec.proofs.Choices.{Some, here, there, some_implies, OneOf}
use Rattle.chart_spec.proofs.Following.{follows_iff}

-- ---- acceptance

-- The search accepted.
abbrev pub Accepts : Outcome → Type 0
Accepts (accepted run) = Unit
Accepts (refused deepest run) = ⊥

step_accepts : {P : Made → Type 0} (n : ℕ) (x : Made) (xs : List Made) (first rest : Outcome) → Accepts first ↔ P x
    → Accepts rest ↔ Some P xs → Accepts (step n first rest) ↔ Some P (x ∷ xs)
step_accepts n x xs (accepted run) rest f g = (λ h. here (f.0 tt), λ w. tt)
step_accepts n x xs (refused d run) (accepted more) f g = (λ h. there (g.0 tt), λ w. tt)
step_accepts {P} n x xs (refused d run) (refused e more) f g = (λ h. absurd h, none)
  where
    none : Some P (x ∷ xs) → ⊥
    none (here p) = f.1 p
    none (there w) = g.1 w

-- The choices accept exactly if one of them does.
tries_accepts : {P : Made → Type 0} (go : Chart → ℕ → Outcome) (used : ℕ) (xs : List Made)
    → ((x : Made) → Accepts (go (chart_of x) (used + cost_of x)) ↔ P x) → Accepts (tries go used xs) ↔ Some P xs
unfolding tries
tries_accepts go used [] f = (λ h. absurd h, elim [ ])
tries_accepts go used (x ∷ xs) f =
    step_accepts (used + cost_of x) x xs (go (chart_of x) (used + cost_of x)) (tries go used xs) (f x)
    (tries_accepts go used xs f)

at_end_accepts : (p : Bool) → Accepts (cond p (accepted []) (refused 0 [])) ↔ T p
at_end_accepts true = (λ h. tt, λ h. tt)
at_end_accepts false = (λ h. h, λ h. h)

-- The search accepts exactly the logs of the chart.
pub explore_accepts_iff_member : (t : Log) (c : Chart) (used : ℕ) → Accepts (explore t c used) ↔ Member c t
unfolding explore
explore_accepts_iff_member [] c used =
    let (f, g) = at_end_accepts (terminates c) in (λ h. terminates→ c (f h), λ m. g (terminates← c m))
explore_accepts_iff_member (a ∷ t) c used =
    let (f, g) = tries_accepts (λ x n. explore t x n) used (follows c a)
    (λ x. explore_accepts_iff_member t (chart_of x) (used + cost_of x)) in
    (λ h. (follows_iff c a t).1 (f h), λ m. g ((follows_iff c a t).0 m))

-- ---- the deepest opening

-- Where the search refused, its deepest opening has the property.
abbrev pub Refuses : (ℕ → Type 0) → Outcome → Type 0
Refuses P (accepted run) = Unit
Refuses P (refused deepest run) = P deepest

-- how far the choices got: no choice was begun, or some choice got through n actions of t after the first action
data Reached (xs : List Made) (t : Log) : ℕ → Type 0 where
  nowhere : Reached xs t zero
  through : {n : ℕ} → Some (λ x. Begins (Member (chart_of x)) (take n t)) xs → Reached xs t (suc n)

record Deepest (xs : List Made) (t : Log) (n : ℕ) : Type 0 where
  within : n ≤ suc (length t)
  reached : Reached xs t n
  deepest : (m : ℕ) → m ≤ length t → Some (λ x. Begins (Member (chart_of x)) (take m t)) xs → suc m ≤ n

reached_later : {x : Made} {xs : List Made} {t : Log} {n : ℕ} → Reached xs t n → Reached (x ∷ xs) t n
reached_later nowhere = nowhere
reached_later (through w) = through (there w)

max_of : (P : ℕ → Type 0) (m n : ℕ) → P m → P n → P (max m n)
max_of P m n p q = pick (dec_le m n)
  where
    pick : Dec (m ≤ n) → P (max m n)
    pick (yes h) = subst P (sym (max-eq_right h)) q
    pick (no h) = subst P (sym (max-eq_left (le_of_lt (lt_of_not-le h)))) p

step_deepest : (n : ℕ) (x : Made) (xs : List Made) (t : Log) (first rest : Outcome)
    → Refuses (Longest (Member (chart_of x)) t) first → Refuses (Deepest xs t) rest
    → Refuses (Deepest (x ∷ xs) t) (step n first rest)
step_deepest n x xs t (accepted run) rest f g = tt
step_deepest n x xs t (refused d run) (accepted more) f g = tt
step_deepest n x xs t (refused d run) (refused e more) f g =
    record {
      within = max-le (suc-le-suc f.within) g.within;
      reached = max_of (Reached (x ∷ xs) t) (suc d) e (through (here f.opens)) (reached_later g.reached);
      deepest = deep;
    }
  where
    deep : (m : ℕ) → m ≤ length t → Some (λ y. Begins (Member (chart_of y)) (take m t)) (x ∷ xs) → suc m ≤ max (suc d) e
    deep m h (here b) = le_trans (suc-le-suc (f.longest m h b)) (le-max_left (suc d) e)
    deep m h (there w) = le_trans (g.deepest m h w) (le-max_right (suc d) e)

tries_deepest : (go : Chart → ℕ → Outcome) (used : ℕ) (xs : List Made) (t : Log)
    → ((x : Made) → Refuses (Longest (Member (chart_of x)) t) (go (chart_of x) (used + cost_of x)))
    → Refuses (Deepest xs t) (tries go used xs)
unfolding tries
tries_deepest go used [] t f = record { within = zero-le; reached = nowhere; deepest = λ m h. elim [ ] }
tries_deepest go used (x ∷ xs) t f =
    step_deepest (used + cost_of x) x xs t (go (chart_of x) (used + cost_of x)) (tries go used xs) (f x)
    (tries_deepest go used xs t f)

-- Some log of the chart begins with a and s exactly if some log of a follow-up by a begins with s.
begins→ : (c : Chart) (a : Action) (s : Log) → Begins (Member c) (a ∷ s)
    → Some (λ x. Begins (Member (chart_of x)) s) (follows c a)
begins→ c a s (u, m) = some_implies (λ x w. (u, w)) ((follows_iff c a (s ++ u)).0 m)

begins← : (c : Chart) (a : Action) (s : Log) → Some (λ x. Begins (Member (chart_of x)) s) (follows c a)
    → Begins (Member c) (a ∷ s)
begins← c a s w = let (u, v) = one w in (u, (follows_iff c a (s ++ u)).1 v)
  where
    one : {xs : List Made} → Some (λ x. Begins (Member (chart_of x)) s) xs → (u : Log) × OneOf xs (s ++ u)
    one (here (u, m)) = (u, here m)
    one (there v) = let (u, o) = one v in (u, there o)

deepest_is_longest : (c : Chart) (a : Action) (t : Log) (o : Outcome) → Refuses (Deepest (follows c a) t) o
    → Refuses (Longest (Member c) (a ∷ t)) o
deepest_is_longest c a t (accepted run) f = tt
deepest_is_longest c a t (refused d run) f = record { within = f.within; opens = opening f.reached; longest = long }
  where
    opening : {n : ℕ} → Reached (follows c a) t n → Begins (Member c) (take n (a ∷ t))
    opening nowhere = every_chart_has_a_log c
    opening (through {n = n} w) = begins← c a (take n t) w

    long : (m : ℕ) → m ≤ suc (length t) → Begins (Member c) (take m (a ∷ t)) → m ≤ d
    long zero h b = zero-le
    long (suc m) h b = f.deepest m (le_of_suc-le-suc h) (begins→ c a (take m t) b)

at_end_longest : (c : Chart) (p : Bool) → Refuses (Longest (Member c) []) (cond p (accepted []) (refused 0 []))
at_end_longest c true = tt
at_end_longest c false = record { within = zero-le; opens = every_chart_has_a_log c; longest = λ m h b. h }

-- Where the search refuses, its deepest opening is the longest with which some log of the chart begins.
pub explore_refuses_at_the_longest : (t : Log) (c : Chart) (used : ℕ)
    → Refuses (Longest (Member c) t) (explore t c used)
unfolding explore
explore_refuses_at_the_longest [] c used = at_end_longest c (terminates c)
explore_refuses_at_the_longest (a ∷ t) c used =
    deepest_is_longest c a t (explore (a ∷ t) c used)
    (tries_deepest (λ x n. explore t x n) used (follows c a) t
    (λ x. explore_refuses_at_the_longest t (chart_of x) (used + cost_of x)))
