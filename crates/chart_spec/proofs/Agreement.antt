-- The published sets are those that the proofs work with: for every chart and log, Published and Member agree.
--
-- For each operator, a deal is what document 000's equations give. A power of a set is that many rounds, so the closure
-- is `Star`; and the restricted operator asks of a log that is not empty just what a round of the head loop asks. The
-- rest is induction on the chart. At the end stands what evading and pruning mean for the published sets.
-- Assumes nothing.
use Prim.Native.Nat.{ℕ, zero, suc}
use mathlib.Core.List.{[], ◌∷◌, ◌++◌, head-eq_of_cons-eq, tail-eq_of_cons-eq}
use mathlib.Core.Logic.Iff
use mathlib.Core.Logic.{◌↔◌, inl, inr, ⊎_map}
use mathlib.Core.Path.{refl, subst, subst₂}
use lib.Dec.{T}
use Rattle.chart_spec.specs.Action.{Action, Log, Avoids, Clear}
use Rattle.chart_spec.specs.Chart.{Order, strict, seq, par, Loop, each, head, Chart, empty, act, alt, pair, loop}
use Rattle.chart_spec.specs.Traces.{Traces, Only, only, Joined, joined}
use Rattle.chart_spec.specs.Published.{
  Woven,
  left_empty,
  right_empty,
  first_left,
  first_right,
  Conflict,
  scheduling,
  power,
  closure,
  restricted,
  Published,
  weak_sequencing,
}
use Rattle.chart_spec.specs.Member.{May, Deal, done, left, right, Round, dealt, headed, Star, none, more, Member}
use Rattle.chart_spec.specs.Executing.{chart_of, evades, prune}
use Rattle.chart_spec.proofs.Deals.{deal_all_left, deal_all_right, deal_appended, deal_strict_is_appended}
use Rattle.chart_spec.proofs.Evading.{every_chart_has_a_log, evades_iff_some_log_avoids}
use Rattle.chart_spec.proofs.Pruning.{prune_keeps}

-- ---- conflicts

clear→ : (s : Log) (d : ℕ) → Clear d s → ¬ Conflict s d
clear→ [] d e c = c
clear→ (a ∷ s) d e (inl c) = e.0 c
clear→ (a ∷ s) d e (inr c) = clear→ s d e.1 c

clear← : (s : Log) (d : ℕ) → ¬ Conflict s d → Clear d s
clear← [] d h = tt
clear← (a ∷ s) d h = (λ c. h (inl c), clear← s d (λ c. h (inr c)))

-- ---- operators

-- weaving with a condition is dealing with the same condition
woven→ : (o : Order) (free : Log → Action → Type 0) → ((s : Log) (a : Action) → free s a → May o s a) → {s u t : Log}
    → Woven free s u t → Deal o s u t
woven→ o free f (left_empty {t₂ = t₂}) = deal_all_right o t₂
woven→ o free f (right_empty {t₁ = t₁}) = deal_all_left o t₁
woven→ o free f (first_left w) = left (woven→ o free f w)
woven→ o free f (first_right {a₁ = a₁} {a₂ = a₂} {t₁ = t₁} m w) = right (f (a₁ ∷ t₁) a₂ m) (woven→ o free f w)

woven_left : {free : Log → Action → Type 0} (a : Action) (s u t : Log) → Woven free s u t → Woven free (a ∷ s) u (a ∷ t)
woven_left a s [] t left_empty = right_empty
woven_left a s [] t right_empty = right_empty
woven_left a s (b ∷ u) t w = first_left w

woven_right : {free : Log → Action → Type 0} (a : Action) (s u t : Log) → free s a → Woven free s u t
    → Woven free s (a ∷ u) (a ∷ t)
woven_right a [] u t m left_empty = left_empty
woven_right a [] u t m right_empty = left_empty
woven_right a (b ∷ s) u t m w = first_right m w

woven← : (o : Order) (free : Log → Action → Type 0) → ((s : Log) (a : Action) → May o s a → free s a) → {s u t : Log}
    → Deal o s u t → Woven free s u t
woven← o free f done = left_empty
woven← o free f (left {a = a} {s = s} {u = u} {t = t} x) = woven_left a s u t (woven← o free f x)
woven← o free f (right {a = a} {s = s} {u = u} {t = t} m x) = woven_right a s u t (f s a m) (woven← o free f x)

scheduling→ : (o : Order) (s u t : Log) → scheduling o s u t → Deal o s u t
scheduling→ strict s u t only = deal_appended strict s u
scheduling→ seq s u t w = woven→ seq (λ r a. ¬ Conflict r a.line) (λ r a. clear← r a.line) w
scheduling→ par s u t w = woven→ par (λ r a. Unit) (λ r a m. m) w

scheduling← : (o : Order) (s u t : Log) → Deal o s u t → scheduling o s u t
scheduling← strict s u t x = subst (Only (s ++ u)) (deal_strict_is_appended x) only
scheduling← seq s u t x = woven← seq (λ r a. ¬ Conflict r a.line) (λ r a. clear→ r a.line) x
scheduling← par s u t x = woven← par (λ r a. Unit) (λ r a m. m) x

-- ---- sets

-- T and M have the same logs
abbrev pub Same : Traces → Traces → Type 0
Same T M = (t : Log) → T t ↔ M t

pair_agrees : (o : Order) (T U L M : Traces) → Same T L → Same U M
    → Same (Joined (scheduling o) T U) (Joined (Deal o) L M)
pair_agrees o T U L M f g t = (forth, back)
  where
    forth : Joined (scheduling o) T U t → Joined (Deal o) L M t
    forth (joined s u m n x) = joined s u ((f s).0 m) ((g u).0 n) (scheduling→ o s u t x)

    back : Joined (Deal o) L M t → Joined (scheduling o) T U t
    back (joined s u m n x) = joined s u ((f s).1 m) ((g u).1 n) (scheduling← o s u t x)

-- a closure is any number of rounds, if its operator is a round
closure_agrees : (k : Loop) (op : Traces → Traces → Traces) (T M : Traces)
    → ((U : Traces) → ((u : Log) → U u → Star k M u) → (t : Log) → op T U t → Star k M t)
    → ((U : Traces) (s u t : Log) → M s → U u → Round k s u t → op T U t)
    → Same (closure op T) (Star k M)
closure_agrees k op T M f g t = (λ c. rounds c.0 t c.1, powers t)
  where
    rounds : (j : ℕ) (t : Log) → power op T j t → Star k M t
    rounds zero t only = none
    rounds (suc j) t p = f (power op T j) (rounds j) t p

    powers : (t : Log) → Star k M t → closure op T t
    powers t none = (0, only)
    powers t (more {s = s} {u = u} m v x) = let (j, p) = powers u v in (suc j, g (power op T j) s u t m p x)

kleene_agrees : (o : Order) (T M : Traces) → Same T M → Same (closure (Joined (scheduling o)) T) (Star (each o) M)
kleene_agrees o T M f = closure_agrees (each o) (Joined (scheduling o)) T M forth back
  where
    forth : (U : Traces) → ((u : Log) → U u → Star (each o) M u) → (t : Log) → Joined (scheduling o) T U t
        → Star (each o) M t
    forth U h t (joined s u m n x) = more ((f s).0 m) (h u n) (dealt (scheduling→ o s u t x))

    back : (U : Traces) (s u t : Log) → M s → U u → Round (each o) s u t → Joined (scheduling o) T U t
    back U s u t m n (dealt x) = joined s u ((f s).1 m) n (scheduling← o s u t x)

head_agrees : (T M : Traces) → Same T M → Same (closure (restricted weak_sequencing) T) (Star head M)
head_agrees T M f = closure_agrees head (restricted weak_sequencing) T M forth back
  where
    -- what Definition 2 asks of a log a.t
    Headed : Traces → Action → Log → Type 0
    Headed U a t = (s : Log) × T (a ∷ s) × Joined weak_sequencing (Only s) U t

    begun : (U : Traces) → ((u : Log) → U u → Star head M u) → (a : Action) (s t : Log) → T (a ∷ s)
        → Joined weak_sequencing (Only s) U t → Star head M (a ∷ t)
    begun U h a s t m (joined _ u only n x) = more ((f (a ∷ s)).0 m) (h u n) (headed (scheduling→ seq s u t x))

    forth : (U : Traces) → ((u : Log) → U u → Star head M u) → (t : Log) → restricted weak_sequencing T U t
        → Star head M t
    forth U h [] r = none
    forth U h (a ∷ t) r = let (s, m, j) = r.1 a t refl in begun U h a s t m j

    back : (U : Traces) (s u t : Log) → M s → U u → Round head s u t → restricted weak_sequencing T U t
    back U _ u _ m n (headed {a = a} {s = s} {t = t} x) = (
      joined (a ∷ s) u ((f (a ∷ s)).1 m) n (scheduling← seq (a ∷ s) u (a ∷ t) (left x)),
      λ b r e.
          subst₂ (Headed U) (head-eq_of_cons-eq e) (tail-eq_of_cons-eq e)
          (s, (f (a ∷ s)).1 m, joined s u only n (scheduling← seq s u t x)),
    )

-- ---- the theorem

-- The published sets and the working form are the same, for every chart and log.
pub published_iff_member : (c : Chart) (t : Log) → Published c t ↔ Member c t
published_iff_member empty t = (λ m. m, λ m. m)
published_iff_member (act a) t = (λ m. m, λ m. m)
published_iff_member (alt l r) t =
    let (f, f⁻) = published_iff_member l t in
    let (g, g⁻) = published_iff_member r t in
    (⊎_map f g, ⊎_map f⁻ g⁻)
published_iff_member (pair o l r) t =
    pair_agrees o (Published l) (Published r) (Member l) (Member r) (published_iff_member l) (published_iff_member r) t
published_iff_member (loop (each o) b) t = kleene_agrees o (Published b) (Member b) (published_iff_member b) t
published_iff_member (loop head b) t = head_agrees (Published b) (Member b) (published_iff_member b) t

-- ---- every chart has a published log

pub every_chart_has_a_published_log : (c : Chart) → (t : Log) × Published c t
every_chart_has_a_published_log c =
    let (t, m) = every_chart_has_a_log c in
    (t, (published_iff_member c t).1 m)

-- ---- evading and pruning, for the published sets

-- (000, Lemma 5)
pub evades_iff_some_published_log_avoids : (c : Chart) (d : ℕ) → T (evades c d)
    ↔ ((t : Log) × Published c t × Avoids d t)
evades_iff_some_published_log_avoids c d =
    Iff.trans (evades_iff_some_log_avoids c d) (
      λ w. (w.0, (published_iff_member c w.0).1 w.1, w.2),
      λ w. (w.0, (published_iff_member c w.0).0 w.1, w.2),
    )

-- (000, Lemma 7)
pub prune_keeps_published : (c : Chart) (d : ℕ) → T (evades c d) → (t : Log)
    → Published (chart_of (prune c d)) t ↔ (Published c t × Avoids d t)
prune_keeps_published c d h t =
    Iff.trans (published_iff_member (chart_of (prune c d)) t)
    (Iff.trans (prune_keeps c d h t) (Iff.and (Iff.symm (published_iff_member c t)) Iff.rfl))
