-- The first action of a loop's log, and the round that takes it.
--
-- The strict, head and parallel loop: that round can be taken as the first. In a strict loop the rounds before it are
-- empty; in a head loop it is the first; in a parallel loop it may change places with the rounds before it. So the log
-- goes on with the rest of the round and the loop, in the loop's order.
-- The weak loop: the rounds before it are gathered in front, which by regrouping is again a log of the loop, clear of
-- the action's lifeline; after them come the rest of the round and the loop.
-- Assumes nothing.
use mathlib.Core.List.{[], ◌∷◌}
use mathlib.Core.Path.{subst}
use Rattle.chart_spec.specs.Action.{Action, Log, Clear}
use Rattle.chart_spec.specs.Chart.{strict, seq, par, Loop, each, head}
use Rattle.chart_spec.specs.Traces.{Traces, only, Joined, joined}
use Rattle.chart_spec.specs.Member.{Deal, left, right, Round, dealt, headed, Star, none, more}
use Rattle.chart_spec.specs.Executing.{between}
use Rattle.chart_spec.proofs.Deals.{
  deal_all_right,
  deal_left_is_empty,
  deal_every→,
  deal_every←,
  deal_regroups_left,
  deal_regroups_right,
  deal_exchanges,
}

-- The rest of a round that began with a, and the loop after it.
abbrev pub Begun : Loop → Traces → Action → Traces
Begun k M a = Joined (Deal (between k)) (λ s. M (a ∷ s)) (Star k M)

-- A round that began with a is a round of the loop, before the rest.
round_begins : (k : Loop) {a : Action} {s u t : Log} → Deal (between k) s u t → Round k (a ∷ s) u (a ∷ t)
round_begins (each o) x = dealt (left x)
round_begins head x = headed x

pub begins : (k : Loop) (M : Traces) {a : Action} {t : Log} → Begun k M a t → Star k M (a ∷ t)
begins k M (joined s u m v x) = more m v (round_begins k x)

-- ---- strict, head and parallel loop

pub strict_begins : (M : Traces) {a : Action} {t : Log} → Star (each strict) M (a ∷ t) → Begun (each strict) M a t
strict_begins M (more m v (dealt (left {s = s} {u = u} x))) = joined s u m v x
strict_begins M {a} (more m v (dealt (right only x))) =
    subst (Begun (each strict) M a) (deal_left_is_empty x) (strict_begins M v)

pub head_begins : (M : Traces) {a : Action} {t : Log} → Star head M (a ∷ t) → Begun head M a t
head_begins M (more m v (headed {s = s} {u = u} x)) = joined s u m v x

pub parallel_begins : (M : Traces) {a : Action} {t : Log} → Star (each par) M (a ∷ t) → Begun (each par) M a t
parallel_begins M (more m v (dealt (left {s = s} {u = u} x))) = joined s u m v x
parallel_begins M {a} (more m v (dealt (right {u = u} {t = t} n x))) = exchange (parallel_begins M v)
  where
    exchange : Begun (each par) M a u → Begun (each par) M a t
    exchange (joined s' u' m' v' y) = let (r, z, w) = deal_exchanges x y in joined s' r m' (more m v' (dealt z)) w

-- ---- weak loop

-- How the log goes on after a: earlier rounds that are clear of a's lifeline, then the rest of a round that began with
-- a, and the loop.
abbrev pub Fronted : Traces → Action → Traces
Fronted M a = Joined (Deal seq) (λ f. Star (each seq) M f × Clear a.line f) (Begun (each seq) M a)

pub weak_begins→ : (M : Traces) {a : Action} {t : Log} → Star (each seq) M (a ∷ t) → Fronted M a t
weak_begins→ M {a} {t} (more m v (dealt (left {s = s} {u = u} x))) =
    joined [] t (none, tt) (joined s u m v x) (deal_all_right seq t)
weak_begins→ M {a} (more m v (dealt (right {u = u} {t = t} n x))) = regroup (weak_begins→ M v)
  where
    regroup : Fronted M a u → Fronted M a t
    regroup (joined f w (v', e) b y) =
        let (r, z, z') = deal_regroups_left x y in joined r w (more m v' (dealt z), deal_every← _ z n e) b z'

put_before : (M : Traces) {a : Action} {t f w : Log} → Star (each seq) M f → Clear a.line f → Begun (each seq) M a w
    → Deal seq f w t → Star (each seq) M (a ∷ t)
put_before M {a} none e b x = begins (each seq) M (subst (Begun (each seq) M a) (deal_left_is_empty x) b)
put_before M {a = a} {t = t} {w = w} (more {s = s} {u = u} {t = t'} m v (dealt z)) e b x =
    let (r, y, y') = deal_regroups_right x z in
    let (es, ef) = deal_every→ _ z e in
    more m (put_before M {t = r} v ef b y) (dealt (right es y'))

pub weak_begins← : (M : Traces) {a : Action} {t : Log} → Fronted M a t → Star (each seq) M (a ∷ t)
weak_begins← M (joined f w (v, e) b x) = put_before M v e b x
