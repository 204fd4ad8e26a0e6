-- A set of numbers as bits: the bits of a set with one number, the bits of two sets joined, and how many bits are one.
-- All by induction on the number of bits.
-- Assumes nothing.
use Prim.Native.Nat.{ℕ, zero, suc, ◌+◌, ◌*◌, ◌%◌, ◌^◌, ◌<◌, ◌≤◌}
use mathlib.Core.Bool.{Bool, true, false, cond, ◌||◌}
use mathlib.Core.List.{List, [], ◌∷◌, ◌++◌}
use mathlib.Core.Path.{◌≡◌, refl, sym, ◌∙◌}
use native.Mathlib.Decide.{ℕ_discrete, dec_le}
use native.Mathlib.Nat.{pow-suc, one-mul, mod-eq_of_lt}
use native.Mathlib.Numerals.{add-one}
use native.Mathlib.Omega.{arith}
use lib.Bits.{bit_or, or_block}
use lib.Count.{ones, ones_cat}
use lib.Dec.{T, eqb, eqb_refl}
use lib.Pow.{pow-lt}
use borrow.Author.Tests.{eq-eqb, ne_eqb}
use Rattle.node.specs.declared.Node.{Node}
use Rattle.node_spec.specs.Kind.{kind_of}
use Rattle.node_spec.proofs.Ranges.{zero_is_nothing, one_and_two_are_actions, three_to_six_are_pairs}
use Rattle.node_spec.proofs.Ranges.{seven_to_ten_are_loops, above_ten_is_unknown}
use Rattle.card_spec.specs.Nodes.{node_at, row_to}
use Rattle.card_spec.specs.Figures.{acts_as, acts, tally}
use Rattle.card_figures.specs.Bits.{bits_of}

pub bits_same : (p q : ℕ → Bool) → ((d : ℕ) → p d ≡ q d) → (n : ℕ) → bits_of p n ≡ bits_of q n
unfolding bits_of
bits_same p q h zero = refl
bits_same p q h (suc n) = rw (h n, bits_same p q h n)

-- A set without numbers has no bits.
pub bits_none : (p : ℕ → Bool) → ((d : ℕ) → p d ≡ false) → (n : ℕ) → bits_of p n ≡ 0
unfolding bits_of
bits_none p h zero = refl
bits_none p h (suc n) = rw (h n, bits_none p h n) (omega arith)

-- The set of the one number a, as n bits: it is 0 as long as n is at most a, and 2 ^ a above.
bits_below : (a n : ℕ) → n ≤ a → bits_of (λ d. eqb a d) n ≡ 0
unfolding bits_of
bits_below a zero h = refl
bits_below a (suc n) h = rw (ne_eqb a n (λ e. omega arith), bits_below a n (omega arith)) (omega arith)

pub bits_one : (a n : ℕ) → a < n → bits_of (λ d. eqb a d) n ≡ 2 ^ a
unfolding bits_of
bits_one a zero h = absurd (omega arith)
bits_one a (suc n) h = by (ℕ_discrete a n) (λ l. bits_one a n l)
  where
    by :
        Dec (a ≡ n) → (a < n → bits_of (λ d. eqb a d) n ≡ 2 ^ a)
        → cond (eqb a n) 1 0 * 2 ^ n + bits_of (λ d. eqb a d) n ≡ 2 ^ a
    by (yes e) below = rw (eq-eqb a n e, bits_below a n (omega arith), ← e) (omega arith)
    by (no d) below = rw (ne_eqb a n d, below (omega arith)) (omega arith)

pub bits_lt : (p : ℕ → Bool) (n : ℕ) → bits_of p n < 2 ^ n
unfolding bits_of
bits_lt p zero = omega arith
bits_lt p (suc n) = rw (pow-suc 2 n) (digit_lt (p n) (bits_lt p n))
  where
    digit_lt : {low top : ℕ} (b : Bool) → low < top → cond b 1 0 * top + low < top * 2
    digit_lt true h = omega arith
    digit_lt false h = omega arith

or_bit : (b c : Bool) → bit_or (cond b 1 0) (cond c 1 0) ≡ cond (b || c) 1 0
or_bit true true = refl
or_bit true false = refl
or_bit false true = refl
or_bit false false = refl

-- Two sets joined.
pub bits_or : (p q : ℕ → Bool) (n : ℕ) → bit_or (bits_of p n) (bits_of q n) ≡ bits_of (λ d. p d || q d) n
unfolding bits_of
bits_or p q zero = refl
bits_or p q (suc n) =
    rw (
      or_block n (cond (p n) 1 0) (cond (q n) 1 0) (bits_of p n) (bits_of q n) (bits_lt p n) (bits_lt q n),
      or_bit (p n) (q n),
      bits_or p q n,
    )

ones_of_a_bit : (b : Bool) → ones (cond b 1 0) ≡ cond b 1 0
unfolding ones
ones_of_a_bit true = refl
ones_of_a_bit false = refl

-- A set has as many ones as numbers.
pub ones_of_bits : (p : ℕ → Bool) (n : ℕ) → ones (bits_of p n) ≡ tally p n
unfolding bits_of tally ones
ones_of_bits p zero = refl
ones_of_bits p (suc n) =
    rw (ones_cat n (cond (p n) 1 0) (bits_of p n) (bits_lt p n), ones_of_a_bit (p n), ones_of_bits p n)

-- The lifeline of a node as a set: one bit for an action, none for any other node.
module _ (n : Node) where
  abbrev actor : ℕ → Bool
  actor d = acts_as (kind_of n.kind) n d

  pub actor_is_held : 1 ≤ n.kind → n.kind ≤ 2 → ((d : ℕ) → T (actor d) → d < 16) → n.a < 16
  actor_is_held low high held =
      let (r, e) = one_and_two_are_actions n.kind low high in
      held n.a (rw e (eqb_refl n.a))

  pub one_actor : 1 ≤ n.kind → n.kind ≤ 2 → n.a < 16 → bits_of actor 16 ≡ 1 * 2 ^ n.a % 65536
  one_actor low high held =
      let (r, e) = one_and_two_are_actions n.kind low high in
      let small : 2 ^ n.a < 2 ^ 16 = pow-lt held in
      bits_same actor (λ d. eqb n.a d) (λ d. rw e) 16 ∙ bits_one n.a 16 held
      ∙ rw (one-mul (2 ^ n.a)) (sym (mod-eq_of_lt small))

  no_actor : 3 ≤ n.kind → (d : ℕ) → actor d ≡ false
  no_actor low d = by (dec_le n.kind 6) (dec_le n.kind 10)
    where
      by : Dec (n.kind ≤ 6) → Dec (n.kind ≤ 10) → actor d ≡ false
      by (yes h) k = let (p, e) = three_to_six_are_pairs n.kind low h in rw e
      by (no h) (yes k) = let (l, e) = seven_to_ten_are_loops n.kind (omega arith) k in rw e
      by (no h) (no k) = rw (above_ten_is_unknown n.kind (omega arith))

  pub no_actor_in_nothing : n.kind ≡ 0 → bits_of actor 16 ≡ 0
  no_actor_in_nothing e = bits_none actor (λ d. rw (zero_is_nothing n.kind e)) 16

  pub no_actor_above : 3 ≤ n.kind → bits_of actor 16 ≡ 0
  no_actor_above low = bits_none actor (no_actor low) 16

-- One more node adds its own lifeline, if it acts.
acts_more : (row : List Node) (n : Node) (d : ℕ)
    → acts (row ++ (n ∷ [])) d ≡ (acts row d || acts_as (kind_of n.kind) n d)
acts_more [] n d = or_false (acts_as (kind_of n.kind) n d)
  where
    or_false : (b : Bool) → (b || false) ≡ b
    or_false true = refl
    or_false false = refl
acts_more (m ∷ row) n d = rw (acts_more row n d)
    (or_assoc (acts_as (kind_of m.kind) m d) (acts row d) (acts_as (kind_of n.kind) n d))
  where
    or_assoc : (a b c : Bool) → (a || (b || c)) ≡ ((a || b) || c)
    or_assoc true b c = refl
    or_assoc false b c = refl

-- The lifelines that act in the first i nodes, as a set; one more node adds its own.
pub one_more_acts :
    (nodes : List ℕ) (i set bits : ℕ) (n : Node)
    → n ≡ node_at nodes i → bits ≡ bits_of (acts_as (kind_of n.kind) n) 16 → set ≡ bits_of (acts (row_to nodes i)) 16
    → bit_or set bits ≡ bits_of (acts (row_to nodes (i + 1))) 16
one_more_acts nodes i set bits n en eb es =
    rw (
      es,
      eb,
      add-one i,
      en,
      bits_or (acts (row_to nodes i))
          (acts_as (kind_of (node_at nodes i).kind) (node_at nodes i)) 16,
    )
    (bits_same _ _ (λ d. sym (acts_more (row_to nodes i) (node_at nodes i) d)) 16)

pub no_actors_yet : (nodes : List ℕ) → bits_of (acts (row_to nodes 0)) 16 ≡ 0
no_actors_yet nodes = bits_none (acts (row_to nodes 0)) (λ d. refl) 16
