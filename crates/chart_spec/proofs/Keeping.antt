-- What takes no place was there before: each node of what the rules make takes a place or belongs to a part that is
-- kept as it stands, and each part that is kept is a part of the chart. Pruning keeps nothing but actions and empties.
--
-- The first goes by induction on what was made, the rest by induction on the chart: a part of a side, or of a body,
-- is a part of the whole.
-- Assumes nothing.
use Prim.Native.Nat.{ℕ, ◌+◌}
use native.Mathlib.Omega.{arith}
use mathlib.Core.Bool.{Bool, true, false}
use mathlib.Core.List.{List, [], ◌∷◌, map}
use mathlib.Core.Path.{◌≡◌, refl}
use Rattle.chart_spec.specs.Action.{Action, Every, same}
use Rattle.chart_spec.specs.Chart.{Order, strict, seq, par, Loop, each, head, Chart, empty, act, alt, pair, loop, size}
use Rattle.chart_spec.specs.Executing.{
  terminates,
  evades,
  Made,
  kept,
  new_empty,
  new_alt,
  new_pair,
  new_loop,
  chart_of,
  cost_of,
  pruned_alt,
  pruned_loop,
  prune,
  lets_pass,
  passed,
  on_right,
  begun,
  after_round,
  follows,
}
use Rattle.chart_spec.proofs.Each.{every_map, every_implies, every_append, every_if}

-- A part of a chart: the chart itself, or a part of a side or of the body.
pub data Part : Chart → Chart → Type 0 where
  itself : {c : Chart} → Part c c
  alt_left : {l r p : Chart} → Part l p → Part (alt l r) p
  alt_right : {l r p : Chart} → Part r p → Part (alt l r) p
  pair_left : {o : Order} {l r p : Chart} → Part l p → Part (pair o l r) p
  pair_right : {o : Order} {l r p : Chart} → Part r p → Part (pair o l r) p
  loop_body : {k : Loop} {b p : Chart} → Part b p → Part (loop k b) p

-- Each part that is kept as it stands has the property.
abbrev pub EachKept : (Chart → Type 0) → Made → Type 0
EachKept P (kept c) = P c
EachKept P new_empty = Unit
EachKept P (new_alt m n) = EachKept P m × EachKept P n
EachKept P (new_pair o m n) = EachKept P m × EachKept P n
EachKept P (new_loop k m) = EachKept P m

each_kept_implies : (P Q : Chart → Type 0) → ((c : Chart) → P c → Q c) → (m : Made) → EachKept P m → EachKept Q m
each_kept_implies P Q f (kept c) h = f c h
each_kept_implies P Q f new_empty h = tt
each_kept_implies P Q f (new_alt m n) h = (each_kept_implies P Q f m h.0, each_kept_implies P Q f n h.1)
each_kept_implies P Q f (new_pair o m n) h = (each_kept_implies P Q f m h.0, each_kept_implies P Q f n h.1)
each_kept_implies P Q f (new_loop k m) h = each_kept_implies P Q f m h

-- ---- cost

-- The nodes of the parts that are kept as they stand.
abbrev pub nodes_kept : Made → ℕ
nodes_kept (kept c) = size c
nodes_kept new_empty = 0
nodes_kept (new_alt m n) = nodes_kept m + nodes_kept n
nodes_kept (new_pair o m n) = nodes_kept m + nodes_kept n
nodes_kept (new_loop k m) = nodes_kept m

-- Each node of what was made takes a place, or belongs to a part that is kept.
pub each_node_is_paid_or_kept : (m : Made) → cost_of m + nodes_kept m ≡ size (chart_of m)
each_node_is_paid_or_kept (kept c) = omega arith
each_node_is_paid_or_kept new_empty = refl
each_node_is_paid_or_kept (new_alt m n) =
    let p = each_node_is_paid_or_kept m in let q = each_node_is_paid_or_kept n in omega arith
each_node_is_paid_or_kept (new_pair o m n) =
    let p = each_node_is_paid_or_kept m in let q = each_node_is_paid_or_kept n in omega arith
each_node_is_paid_or_kept (new_loop k m) = let p = each_node_is_paid_or_kept m in omega arith

-- ---- pruning

module _ (P : Chart → Type 0) where
  pruned_alt_keeps : (m n : Made) (p q : Bool) → EachKept P m → EachKept P n → EachKept P (pruned_alt p q m n)
  pruned_alt_keeps m n true true x y = (x, y)
  pruned_alt_keeps m n true false x y = x
  pruned_alt_keeps m n false q x y = y

  pruned_loop_keeps : (k : Loop) (m : Made) (p : Bool) → EachKept P m → EachKept P (pruned_loop p k m)
  pruned_loop_keeps k m true x = x
  pruned_loop_keeps k m false x = tt

-- Pruning rebuilds each pair and loop, "even if nothing in it was cut" (01, How a log is executed, Places).
pub prune_keeps_leaves : (c : Chart) (d : ℕ) → EachKept (λ p. size p ≡ 1) (prune c d)
unfolding prune
prune_keeps_leaves empty d = refl
prune_keeps_leaves (act a) d = refl
prune_keeps_leaves (alt l r) d =
    pruned_alt_keeps (λ p. size p ≡ 1) (prune l d) (prune r d) (evades l d) (evades r d) (prune_keeps_leaves l d)
    (prune_keeps_leaves r d)
prune_keeps_leaves (pair o l r) d = (prune_keeps_leaves l d, prune_keeps_leaves r d)
prune_keeps_leaves (loop k b) d =
    pruned_loop_keeps (λ p. size p ≡ 1) k (prune b d) (evades b d) (prune_keeps_leaves b d)

-- What pruning keeps are parts of the chart.
pub prune_keeps_parts : (c : Chart) (d : ℕ) → EachKept (Part c) (prune c d)
unfolding prune
prune_keeps_parts empty d = itself
prune_keeps_parts (act a) d = itself
prune_keeps_parts (alt l r) d =
    pruned_alt_keeps (Part (alt l r)) (prune l d) (prune r d) (evades l d) (evades r d)
    (each_kept_implies (Part l) (Part (alt l r)) (λ p. alt_left) (prune l d) (prune_keeps_parts l d))
    (each_kept_implies (Part r) (Part (alt l r)) (λ p. alt_right) (prune r d) (prune_keeps_parts r d))
prune_keeps_parts (pair o l r) d = (
  each_kept_implies (Part l) (Part (pair o l r)) (λ p. pair_left) (prune l d) (prune_keeps_parts l d),
  each_kept_implies (Part r) (Part (pair o l r)) (λ p. pair_right) (prune r d) (prune_keeps_parts r d),
)
prune_keeps_parts (loop k b) d =
    pruned_loop_keeps (Part (loop k b)) k (prune b d) (evades b d)
    (each_kept_implies (Part b) (Part (loop k b)) (λ p. loop_body) (prune b d) (prune_keeps_parts b d))

-- ---- executing

-- What was made keeps only parts of the chart c.
abbrev pub KeepsPartsOf : Chart → Made → Type 0
KeepsPartsOf c x = EachKept (Part c) x

-- what keeps parts of a part keeps parts of the whole
of_whole : (p c : Chart) → ((q : Chart) → Part p q → Part c q) → (x : Made) → KeepsPartsOf p x → KeepsPartsOf c x
of_whole p c f x h = each_kept_implies (Part p) (Part c) f x h

on_right_keeps_parts : (o : Order) (l r : Chart) (d : ℕ) (xs : List Made) → Every (KeepsPartsOf r) xs
    → Every (KeepsPartsOf (pair o l r)) (on_right o l d xs)
on_right_keeps_parts strict l r d xs h =
    every_if (KeepsPartsOf (pair strict l r)) (terminates l) xs
    (every_implies (KeepsPartsOf r) (KeepsPartsOf (pair strict l r)) (of_whole r (pair strict l r) (λ q. pair_right)) xs
    h)
on_right_keeps_parts seq l r d xs h =
    let left = of_whole l (pair seq l r) (λ q. pair_left) (passed l d) (prune_keeps_parts l d) in
    every_if (KeepsPartsOf (pair seq l r)) (lets_pass l d) (map (new_pair seq (passed l d)) xs)
    (every_map (KeepsPartsOf r) (KeepsPartsOf (pair seq l r)) (new_pair seq (passed l d))
    (λ x g. (left, of_whole r (pair seq l r) (λ q. pair_right) x g)) xs h)
on_right_keeps_parts par l r d xs h =
    every_map (KeepsPartsOf r) (KeepsPartsOf (pair par l r)) (new_pair par (kept l))
    (λ x g. (pair_left itself, of_whole r (pair par l r) (λ q. pair_right) x g)) xs h

begun_keeps_parts : (k : Loop) (b : Chart) (x : Made) → KeepsPartsOf b x → KeepsPartsOf (loop k b) (begun k b x)
begun_keeps_parts k b x h = (of_whole b (loop k b) (λ q. loop_body) x h, itself)

after_round_keeps_parts : (k : Loop) (b : Chart) (d : ℕ) (x : Made) → KeepsPartsOf b x
    → KeepsPartsOf (loop k b) (after_round k b d x)
after_round_keeps_parts (each strict) b d x h = begun_keeps_parts (each strict) b x h
after_round_keeps_parts (each seq) b d x h =
    (prune_keeps_parts (loop (each seq) b) d, begun_keeps_parts (each seq) b x h)
after_round_keeps_parts (each par) b d x h = begun_keeps_parts (each par) b x h
after_round_keeps_parts head b d x h = begun_keeps_parts head b x h

-- "Parts kept as they stand take none": each such part of a follow-up is a part of the chart.
pub follows_keep_parts : (c : Chart) (a : Action) → Every (KeepsPartsOf c) (follows c a)
unfolding follows
follows_keep_parts empty a = tt
follows_keep_parts (act b) a = every_if (KeepsPartsOf (act b)) (same a b) (new_empty ∷ []) (tt, tt)
follows_keep_parts (alt l r) a =
    every_append (KeepsPartsOf (alt l r)) (follows l a) (follows r a)
    (every_implies (KeepsPartsOf l) (KeepsPartsOf (alt l r)) (of_whole l (alt l r) (λ q. alt_left)) (follows l a)
    (follows_keep_parts l a))
    (every_implies (KeepsPartsOf r) (KeepsPartsOf (alt l r)) (of_whole r (alt l r) (λ q. alt_right)) (follows r a)
    (follows_keep_parts r a))
follows_keep_parts (pair o l r) a =
    every_append (KeepsPartsOf (pair o l r)) (map (λ x. new_pair o x (kept r)) (follows l a))
    (on_right o l a.line (follows r a))
    (every_map (KeepsPartsOf l) (KeepsPartsOf (pair o l r)) (λ x. new_pair o x (kept r))
    (λ x h. (of_whole l (pair o l r) (λ q. pair_left) x h, pair_right itself)) (follows l a) (follows_keep_parts l a))
    (on_right_keeps_parts o l r a.line (follows r a) (follows_keep_parts r a))
follows_keep_parts (loop k b) a =
    every_map (KeepsPartsOf b) (KeepsPartsOf (loop k b)) (after_round k b a.line)
    (after_round_keeps_parts k b a.line) (follows b a) (follows_keep_parts b a)
