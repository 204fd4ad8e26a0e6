-- The follow-ups of a chart by an action are what can come after it: a ∷ t is a log of the chart exactly if t is a
-- log of one of its follow-ups by a. All eleven kinds.
--
-- By induction on the chart. A deal that begins with a takes it from the left part or from the right part. From the
-- left, the left side is followed up. From the right, strict asks that the left part is empty, seq that it is clear
-- of a's lifeline, par nothing: that is `on_right`. A loop's log that begins with a begins one of its rounds with a:
-- that is Looping.antt.
-- Assumes nothing.
use mathlib.Core.Bool.{Bool, true, false, cond, beq, ◌&&◌}
use mathlib.Core.List.{List, [], ◌∷◌, ◌++◌, map}
use mathlib.Core.Logic.{◌↔◌, ◌⊎◌, inl, inr, ⊎_elim, ⊎_map}
use mathlib.Core.Path.{◌≡◌, refl, sym, subst}
use lib.Dec.{T, eqb, eqb→eq, eqb_refl}
use Rattle.chart_spec.specs.Action.{Action, Log, same, Clear}
use Rattle.chart_spec.specs.Chart.{Order, strict, seq, par, Loop, each, head, Chart, empty, act, alt, pair, loop}
use Rattle.chart_spec.specs.Traces.{Only, only, Joined, joined}
use Rattle.chart_spec.specs.Member.{May, Deal, left, right, Star, Member}
use Rattle.chart_spec.specs.Executing.{
  Made,
  kept,
  new_empty,
  new_pair,
  chart_of,
  terminates,
  lets_pass,
  passed,
  on_right,
  begun,
  after_round,
  follows,
}
use Rattle.chart_spec.proofs.Tests.{both→, both←}
use Rattle.chart_spec.proofs.Deals.{deal_all_right, deal_left_is_empty}
use Rattle.chart_spec.proofs.Evading.{terminates→, terminates←}
use Rattle.chart_spec.proofs.Pruning.{lets_pass←, passed_keeps}
use Rattle.chart_spec.proofs.Looping.{
  Begun,
  begins,
  strict_begins,
  head_begins,
  parallel_begins,
  Fronted,
  weak_begins→,
  weak_begins←,
}
use Rattle.chart_spec.proofs.Choices.{
  here,
  there,
  some_left,
  some_right,
  some_append,
  some_map→,
  some_map←,
  some_if→,
  some_if←,
  joined_implies,
  union_left→,
  union_left←,
  union_right→,
  union_right←,
  Union,
  OneOf,
}

-- ---- the same action

beq→ : (p q : Bool) → T (beq p q) → p ≡ q
beq→ true true h = refl
beq→ true false h = absurd h
beq→ false true h = absurd h
beq→ false false h = refl

beq_refl : (p : Bool) → T (beq p p)
beq_refl true = tt
beq_refl false = tt

pub same→ : (a b : Action) → T (same a b) → a ≡ b
same→ a b h =
    let (g, m) = both→ (eqb a.line b.line && beq a.receives b.receives) (eqb a.message b.message)
    h in
    let (l, r) = both→ (eqb a.line b.line) (beq a.receives b.receives) g in
    let el = eqb→eq a.line b.line l in
    let er = beq→ a.receives b.receives r in
    let em = eqb→eq a.message b.message m in
    λ i. record { line = el i; receives = er i; message = em i }

pub same_refl : (a : Action) → T (same a a)
same_refl a =
    both← (eqb a.line a.line && beq a.receives a.receives) (eqb a.message a.message)
    (both← (eqb a.line a.line) (beq a.receives a.receives) (eqb_refl a.line)
    (beq_refl a.receives))
    (eqb_refl a.message)

-- ---- on the right of a pair

-- what an action on the right asks of the left part, and what it leaves of it
on_right→ : (o : Order) (l : Chart) (a : Action) (xs : List Made) {t : Log}
    → Joined (Deal o) (λ s. Member l s × May o s a) (OneOf xs) t → OneOf (on_right o l a.line xs) t
on_right→ strict l a xs (joined s u (m, only) w x) =
    some_if← (terminates l) xs (terminates← l m) (subst (OneOf xs) (deal_left_is_empty x) w)
on_right→ seq l a xs {t} (joined s u (m, e) w x) =
    let pass = lets_pass← l a.line s m e in
    some_if← (lets_pass l a.line) (map (new_pair seq (passed l a.line)) xs) pass
    (some_map← (new_pair seq (passed l a.line))
    (union_right→ (λ y. Member (chart_of y)) (joined s u ((passed_keeps l a.line pass s).1 (m, e)) w x)))
on_right→ par l a xs (joined s u (m, e) w x) =
    some_map← (new_pair par (kept l)) (union_right→ (λ y. Member (chart_of y)) (joined s u m w x))

on_right← : (o : Order) (l : Chart) (a : Action) (xs : List Made) {t : Log} → OneOf (on_right o l a.line xs) t
    → Joined (Deal o) (λ s. Member l s × May o s a) (OneOf xs) t
on_right← strict l a xs {t} w =
    let (h, v) = some_if→ (terminates l) xs w in joined [] t (terminates→ l h, only) v (deal_all_right strict t)
on_right← seq l a xs w =
    let (h, v) = some_if→ (lets_pass l a.line) (map (new_pair seq (passed l a.line)) xs) w in
    joined_implies (λ s m. (passed_keeps l a.line h s).0 m) (λ u n. n)
    (union_right← (λ y. Member (chart_of y)) (some_map→ (new_pair seq (passed l a.line)) xs v))
on_right← par l a xs w =
    joined_implies (λ s m. (m, tt)) (λ u n. n)
    (union_right← (λ y. Member (chart_of y)) (some_map→ (new_pair par (kept l)) xs w))

-- ---- a pair

-- The charts of xs are what can come after a in a chart.
abbrev Follow : Chart → Action → List Made → Type 0
Follow c a xs = (t : Log) → Member c (a ∷ t) ↔ OneOf xs t

pair_follows : (o : Order) (l r : Chart) (a : Action) (xs ys : List Made) → Follow l a xs → Follow r a ys
    → Follow (pair o l r) a (map (λ x. new_pair o x (kept r)) xs ++ on_right o l a.line ys)
pair_follows o l r a xs ys f g t =
    (forth, λ w. back (some_append (map (λ x. new_pair o x (kept r)) xs) (on_right o l a.line ys) w))
  where
    forth : Member (pair o l r) (a ∷ t) → OneOf (map (λ x. new_pair o x (kept r)) xs ++ on_right o l a.line ys) t
    forth (joined _ u m n (left {s = s} x)) =
        some_left (on_right o l a.line ys)
        (some_map← (λ x. new_pair o x (kept r)) (union_left→ (λ y. Member (chart_of y)) (joined s u ((f s).0 m) n x)))
    forth (joined s _ m n (right {u = u} e x)) =
        some_right (map (λ x. new_pair o x (kept r)) xs) (on_right→ o l a ys (joined s u (m, e) ((g u).0 n) x))

    begin_left : Joined (Deal o) (OneOf xs) (Member r) t → Member (pair o l r) (a ∷ t)
    begin_left (joined s u w n x) = joined (a ∷ s) u ((f s).1 w) n (left x)

    begin_right : Joined (Deal o) (λ s. Member l s × May o s a) (OneOf ys) t → Member (pair o l r) (a ∷ t)
    begin_right (joined s u (m, e) w x) = joined s (a ∷ u) m ((g u).1 w) (right e x)

    back : OneOf (map (λ x. new_pair o x (kept r)) xs) t ⊎ OneOf (on_right o l a.line ys) t
        → Member (pair o l r) (a ∷ t)
    back (inl w) = begin_left (union_left← (λ y. Member (chart_of y)) (some_map→ (λ x. new_pair o x (kept r)) xs w))
    back (inr w) = begin_right (on_right← o l a ys w)

-- ---- a loop

-- the rest of a round and the loop, as a log of one of the charts that the round's follow-ups give
begun→ : (k : Loop) (b : Chart) (a : Action) (xs : List Made) → Follow b a xs → (t : Log) → Begun k (Member b) a t
    → Union (λ y. Member (chart_of (begun k b y))) xs t
begun→ k b a xs f t j = union_left→ (λ y. Member (chart_of y)) (joined_implies (λ s. (f s).0) (λ u n. n) j)

begun← : (k : Loop) (b : Chart) (a : Action) (xs : List Made) → Follow b a xs → (t : Log)
    → Union (λ y. Member (chart_of (begun k b y))) xs t → Begun k (Member b) a t
begun← k b a xs f t w = joined_implies (λ s. (f s).1) (λ u n. n) (union_left← (λ y. Member (chart_of y)) w)

-- a loop in which the round that takes the log's first action can be taken as the first round
first_follows : (k : Loop) (b : Chart) (a : Action) (xs : List Made)
    → ((t : Log) → Star k (Member b) (a ∷ t) → Begun k (Member b) a t) → Follow b a xs
    → Follow (loop k b) a (map (begun k b) xs)
first_follows k b a xs first f t = (
  λ m. some_map← (begun k b) (begun→ k b a xs f t (first t m)),
  λ w. begins k (Member b) (begun← k b a xs f t (some_map→ (begun k b) xs w)),
)

-- the weak loop, with the pruned loop in front
weak_follows : (b : Chart) (a : Action) (xs : List Made) → Follow b a xs
    → Follow (loop (each seq) b) a (map (after_round (each seq) b a.line) xs)
weak_follows b a xs f t =
    (λ m. forth (weak_begins→ (Member b) m), λ w. back (some_map→ (after_round (each seq) b a.line) xs w))
  where
    front : (s : Log)
        → Member (chart_of (passed (loop (each seq) b) a.line)) s ↔ (Star (each seq) (Member b) s × Clear a.line s)
    front = passed_keeps (loop (each seq) b) a.line tt

    forth : Fronted (Member b) a t → OneOf (map (after_round (each seq) b a.line) xs) t
    forth j =
        some_map← (after_round (each seq) b a.line)
        (union_right→ (λ y. Member (chart_of (begun (each seq) b y)))
        (joined_implies (λ s. (front s).1) (begun→ (each seq) b a xs f) j))

    back : Union (λ x. Member (chart_of (after_round (each seq) b a.line x))) xs t → Star (each seq) (Member b) (a ∷ t)
    back w =
        weak_begins← (Member b)
        (joined_implies (λ s. (front s).0) (begun← (each seq) b a xs f)
        (union_right← (λ y. Member (chart_of (begun (each seq) b y))) w))

loop_follows : (k : Loop) (b : Chart) (a : Action) (xs : List Made) → Follow b a xs
    → Follow (loop k b) a (map (after_round k b a.line) xs)
loop_follows (each strict) b a xs = first_follows (each strict) b a xs (λ t. strict_begins (Member b))
loop_follows (each seq) b a xs = weak_follows b a xs
loop_follows (each par) b a xs = first_follows (each par) b a xs (λ t. parallel_begins (Member b))
loop_follows head b a xs = first_follows head b a xs (λ t. head_begins (Member b))

-- ---- an action, a choice

act_follows : (b a : Action) → Follow (act b) a (cond (same a b) (new_empty ∷ []) [])
act_follows b a t = (forth, λ w. let (h, v) = some_if→ (same a b) (new_empty ∷ []) w in back (same→ a b h) v)
  where
    forth : {a : Action} {t : Log} → Only (b ∷ []) (a ∷ t) → OneOf (cond (same a b) (new_empty ∷ []) []) t
    forth only = some_if← (same b b) (new_empty ∷ []) (same_refl b) (here only)

    back : {t : Log} → a ≡ b → OneOf (new_empty ∷ []) t → Only (b ∷ []) (a ∷ t)
    back e (there w) = elim w [ ]
    back e (here only) = subst (λ (c : Action). Only (b ∷ []) (c ∷ [])) (sym e) only

alt_follows : (l r : Chart) (a : Action) (xs ys : List Made) → Follow l a xs → Follow r a ys
    → Follow (alt l r) a (xs ++ ys)
alt_follows l r a xs ys f g t = (
  ⊎_elim (λ m. some_left ys ((f t).0 m)) (λ m. some_right xs ((g t).0 m)),
  λ w. ⊎_map (f t).1 (g t).1 (some_append xs ys w),
)

-- ---- the law

-- The log a.t belongs to a chart exactly if t belongs to one of its follow-ups by a (000, Lemmas 8 and 9).
pub follows_iff : (c : Chart) (a : Action) (t : Log) → Member c (a ∷ t) ↔ OneOf (follows c a) t
unfolding follows
follows_iff empty a t = (elim [ ], elim [ ])
follows_iff (act b) a t = act_follows b a t
follows_iff (alt l r) a t = alt_follows l r a (follows l a) (follows r a) (follows_iff l a) (follows_iff r a) t
follows_iff (pair o l r) a t = pair_follows o l r a (follows l a) (follows r a) (follows_iff l a) (follows_iff r a) t
follows_iff (loop k b) a t = loop_follows k b a (follows b a) (follows_iff b a) t
