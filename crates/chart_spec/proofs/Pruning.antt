-- Pruning keeps exactly the logs that avoid d, and pruning a second time changes nothing.
--
-- By induction on the chart. A deal avoids d exactly if both of its parts do, so pairs and rounds are pruned part by
-- part. A side of an alt, or the body of a loop, that does not evade d has no log that avoids d: dropping it loses
-- none, and a loop is left with no round.
-- Assumes nothing.
use Prim.Native.Nat.{ℕ}
use mathlib.Core.Bool.{Bool, true, false}
use mathlib.Core.List.{[], ◌∷◌}
use mathlib.Core.Logic.{◌↔◌, ◌⊎◌, inl, inr, ⊎_map, ⊎_elim}
use mathlib.Core.Path.{◌≡◌, refl, ap, ap₂}
use lib.Dec.{T}
use Rattle.chart_spec.specs.Action.{Action, Log, Every, Avoids, Clear}
use Rattle.chart_spec.specs.Chart.{Order, Loop, Chart, empty, act, alt, pair, loop}
use Rattle.chart_spec.specs.Traces.{Traces, Only, only, Joined, joined}
use Rattle.chart_spec.specs.Member.{Deal, Round, dealt, headed, Member, Star, none, more}
use Rattle.chart_spec.specs.Executing.{evades, Made, chart_of, pruned_alt, pruned_loop, prune, lets_pass, passed}
use Rattle.chart_spec.proofs.Tests.{both→, either→, passes}
use Rattle.chart_spec.proofs.Deals.{deal_every→, deal_every←}
use Rattle.chart_spec.proofs.Evading.{evades→, evades←, on_another→}

-- ---- rounds, part by part

pub round_every→ : {k : Loop} (P : Action → Type 0) {s u t : Log} → Round k s u t → Every P t → Every P s × Every P u
round_every→ P (dealt x) h = deal_every→ P x h
round_every→ P (headed x) h = let (f, g) = deal_every→ P x h.1 in ((h.0, f), g)

pub round_every← : {k : Loop} (P : Action → Type 0) {s u t : Log} → Round k s u t → Every P s → Every P u → Every P t
round_every← P (dealt x) f g = deal_every← P x f g
round_every← P (headed x) f g = (f.0, deal_every← P x f.1 g)

-- N has exactly the logs of M that avoid d
abbrev pub Keeps : ℕ → Traces → Traces → Type 0
Keeps d M N = (t : Log) → N t ↔ (M t × Avoids d t)

-- no log of M avoids d
abbrev Acts : ℕ → Traces → Type 0
Acts d M = (t : Log) → M t → ¬ Avoids d t

star_keeps→ : {k : Loop} (d : ℕ) (M N : Traces) → Keeps d M N → (t : Log) → Star k N t → Star k M t × Avoids d t
star_keeps→ d M N keeps t none = (none, tt)
star_keeps→ d M N keeps t (more {s = s} {u = u} n w x) =
    let (m, f) = (keeps s).0 n in
    let (v, g) = star_keeps→ d M N keeps u w in
    (more m v x, round_every← _ x f g)

star_keeps← : {k : Loop} (d : ℕ) (M N : Traces) → Keeps d M N → (t : Log) → Star k M t → Avoids d t → Star k N t
star_keeps← d M N keeps t none e = none
star_keeps← d M N keeps t (more {s = s} {u = u} m v x) e =
    let (f, g) = round_every→ _ x e in more ((keeps s).1 (m, f)) (star_keeps← d M N keeps u v g) x

-- if no log of the body avoids d, the only log of the loop that avoids d is the empty one
star_keeps_no_round : {k : Loop} (d : ℕ) (M : Traces) → Acts d M → (t : Log) → Star k M t → Avoids d t → Only [] t
star_keeps_no_round d M acts t none e = only
star_keeps_no_round d M acts t (more {s = s} m v x) e = absurd (acts s m (round_every→ _ x e).0)

-- ---- each kind, by which parts evade

only_keeps : (d : ℕ) (s : Log) → Avoids d s → Keeps d (Only s) (Only s)
only_keeps d s e t = (λ m. (m, avoids m), λ w. w.0)
  where
    avoids : {t : Log} → Only s t → Avoids d t
    avoids only = e

alt_keeps : (d : ℕ) (l r : Chart) (m n : Made) (p q : Bool)
    → (T p → Keeps d (Member l) (Member (chart_of m))) → (¬ T p → Acts d (Member l))
    → (T q → Keeps d (Member r) (Member (chart_of n))) → (¬ T q → Acts d (Member r))
    → T p ⊎ T q → Keeps d (Member (alt l r)) (Member (chart_of (pruned_alt p q m n)))
alt_keeps d l r m n true true f f⁻ g g⁻ h t = (
  ⊎_elim (λ x. let (y, e) = (f tt t).0 x in (inl y, e)) (λ x. let (y, e) = (g tt t).0 x in (inr y, e)),
  λ w. ⊎_map (λ y. (f tt t).1 (y, w.1)) (λ y. (g tt t).1 (y, w.1)) w.0,
)
alt_keeps d l r m n true false f f⁻ g g⁻ h t = (
  λ x. let (y, e) = (f tt t).0 x in (inl y, e),
  λ w. ⊎_elim (λ y. (f tt t).1 (y, w.1)) (λ y. absurd (g⁻ (λ z. z) t y w.1)) w.0,
)
alt_keeps d l r m n false true f f⁻ g g⁻ h t = (
  λ x. let (y, e) = (g tt t).0 x in (inr y, e),
  λ w. ⊎_elim (λ y. absurd (f⁻ (λ z. z) t y w.1)) (λ y. (g tt t).1 (y, w.1)) w.0,
)
alt_keeps d l r m n false false f f⁻ g g⁻ (inl h) t = absurd h
alt_keeps d l r m n false false f f⁻ g g⁻ (inr h) t = absurd h

pair_keeps : (d : ℕ) (o : Order) (L M L' M' : Traces) → Keeps d L L' → Keeps d M M'
    → Keeps d (Joined (Deal o) L M) (Joined (Deal o) L' M')
pair_keeps d o L M L' M' f g t = (there, λ w. back w.0 w.1)
  where
    there : Joined (Deal o) L' M' t → Joined (Deal o) L M t × Avoids d t
    there (joined s u m n x) =
        let (m', e) = (f s).0 m in
        let (n', e') = (g u).0 n in
        (joined s u m' n' x, deal_every← _ x e e')

    back : Joined (Deal o) L M t → Avoids d t → Joined (Deal o) L' M' t
    back (joined s u m n x) e =
        let (es, eu) = deal_every→ _ x e in joined s u ((f s).1 (m, es)) ((g u).1 (n, eu)) x

loop_keeps : (d : ℕ) (k : Loop) (b : Chart) (m : Made) (p : Bool)
    → (T p → Keeps d (Member b) (Member (chart_of m))) → (¬ T p → Acts d (Member b))
    → Keeps d (Member (loop k b)) (Member (chart_of (pruned_loop p k m)))
loop_keeps d k b m true f f⁻ t = (
  star_keeps→ d (Member b) (Member (chart_of m)) (f tt) t,
  λ w. star_keeps← d (Member b) (Member (chart_of m)) (f tt) t w.0 w.1,
)
loop_keeps d k b m false f f⁻ t = (nothing, λ w. star_keeps_no_round d (Member b) (f⁻ (λ z. z)) t w.0 w.1)
  where
    nothing : {t : Log} → Only [] t → Star k (Member b) t × Avoids d t
    nothing only = (none, tt)

-- ---- the law

acts_unless_it_evades : (c : Chart) (d : ℕ) → ¬ T (evades c d) → Acts d (Member c)
acts_unless_it_evades c d never t m e = never (evades← c d t m e)

-- When a chart that evades d is pruned by d, it keeps exactly its logs that avoid d (000, Lemma 7).
pub prune_keeps : (c : Chart) (d : ℕ) → T (evades c d) → Keeps d (Member c) (Member (chart_of (prune c d)))
unfolding prune
prune_keeps empty d h = only_keeps d [] tt
prune_keeps (act a) d h = only_keeps d (a ∷ []) (on_another→ a.line d h, tt)
prune_keeps (alt l r) d h =
    alt_keeps d l r (prune l d) (prune r d) (evades l d) (evades r d)
    (prune_keeps l d) (acts_unless_it_evades l d) (prune_keeps r d) (acts_unless_it_evades r d)
    (either→ (evades l d) (evades r d) h)
prune_keeps (pair o l r) d h =
    let (p, q) = both→ (evades l d) (evades r d) h in
    pair_keeps d o (Member l) (Member r) (Member (chart_of (prune l d))) (Member (chart_of (prune r d)))
    (prune_keeps l d p) (prune_keeps r d q)
prune_keeps (loop k b) d h = loop_keeps d k b (prune b d) (evades b d) (prune_keeps b d) (acts_unless_it_evades b d)

-- ---- pruned once, pruned for good

-- What was pruned by d still evades d: the log that avoids d was kept.
pub pruned_evades : (c : Chart) (d : ℕ) → T (evades c d) → T (evades (chart_of (prune c d)) d)
pruned_evades c d h =
    let (t, m, e) = evades→ c d h in evades← (chart_of (prune c d)) d t ((prune_keeps c d h t).1 (m, e)) e

-- m is what pruning by d gives, and pruning by d gives it again
abbrev Settled : ℕ → Made → Type 0
Settled d m = T (evades (chart_of m) d) × (chart_of (prune (chart_of m) d) ≡ chart_of m)

alt_settled : (d : ℕ) (m n : Made) (p q : Bool) → (T p → Settled d m) → (T q → Settled d n) → T p ⊎ T q
    → chart_of (prune (chart_of (pruned_alt p q m n)) d) ≡ chart_of (pruned_alt p q m n)
unfolding prune
alt_settled d m n true true f g h =
    rw (passes (evades (chart_of m) d) (f tt).0, passes (evades (chart_of n) d) (g tt).0) (ap₂ alt (f tt).1 (g tt).1)
alt_settled d m n true false f g h = (f tt).1
alt_settled d m n false true f g h = (g tt).1
alt_settled d m n false false f g (inl h) = absurd h
alt_settled d m n false false f g (inr h) = absurd h

loop_settled : (d : ℕ) (k : Loop) (m : Made) (p : Bool) → (T p → Settled d m)
    → chart_of (prune (chart_of (pruned_loop p k m)) d) ≡ chart_of (pruned_loop p k m)
unfolding prune
loop_settled d k m true f = rw (passes (evades (chart_of m) d) (f tt).0) (ap (loop k) (f tt).1)
loop_settled d k m false f = refl

pub prune_is_idempotent : (c : Chart) (d : ℕ) → T (evades c d)
    → chart_of (prune (chart_of (prune c d)) d) ≡ chart_of (prune c d)
unfolding prune
prune_is_idempotent empty d h = refl
prune_is_idempotent (act a) d h = refl
prune_is_idempotent (alt l r) d h =
    alt_settled d (prune l d) (prune r d) (evades l d) (evades r d)
    (λ p. (pruned_evades l d p, prune_is_idempotent l d p)) (λ q. (pruned_evades r d q, prune_is_idempotent r d q))
    (either→ (evades l d) (evades r d) h)
prune_is_idempotent (pair o l r) d h =
    let (p, q) = both→ (evades l d) (evades r d) h in
    ap₂ (pair o) (prune_is_idempotent l d p) (prune_is_idempotent r d q)
prune_is_idempotent (loop k b) d h =
    loop_settled d k (prune b d) (evades b d) (λ p. (pruned_evades b d p, prune_is_idempotent b d p))

-- ---- the left of a seq

-- The left of a seq lets an action on d pass exactly if some log of it is clear of d,
pub lets_pass← : (c : Chart) (d : ℕ) (t : Log) → Member c t → Clear d t → T (lets_pass c d)
lets_pass← = evades←

-- and what it becomes has exactly these logs.
pub passed_keeps : (c : Chart) (d : ℕ) → T (lets_pass c d) → (t : Log)
    → Member (chart_of (passed c d)) t ↔ (Member c t × Clear d t)
passed_keeps = prune_keeps
