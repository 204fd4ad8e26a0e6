-- The number of each kind, read back from the table of kinds: a kind that is known stands in it once.
-- Assumes nothing.
use Prim.Native.Nat.{ℕ, zero, suc, ◌+◌, ◌<◌}
use mathlib.Core.Bool.{true, false}
use mathlib.Core.List.{List, [], ◌∷◌}
use mathlib.Core.Logic.{◌≢◌}
use mathlib.Core.Path.{◌≡◌, refl, ap, sym, subst, ◌∙◌}
use native.Mathlib.Decide.{dec_lt}
use native.Mathlib.Omega.{arith}
use lib.ListN.{length, get_or}
use Rattle.chart_spec.specs.Chart.{Loop}
use Rattle.chart_spec.specs.Chart.Order.{strict, seq, par}
use Rattle.chart_spec.specs.Chart.Loop.{each, head}
use Rattle.node_spec.specs.Kind.{Kind, kind_of, all_kinds, number_of, Pair}
use Rattle.node_spec.specs.Kind.Pair.{composed, choice}
use Rattle.node_spec.specs.Kind.Kind.{nothing, action, pairs, loops, unknown}
use Rattle.node_spec.proofs.Ranges.{above_ten_is_unknown}

-- The kinds of the list are numbered from `low` on.
abbrev Numbered : ℕ → List Kind → Type 0
Numbered low [] = Unit
Numbered low (k ∷ ks) = (number_of k ≡ low) × Numbered (suc low) ks

numbered_at :
    (low : ℕ) (ks : List Kind) (j : ℕ) → Numbered low ks → j < length ks → number_of (get_or ks j unknown) ≡ low + j
numbered_at low [] j all h = absurd (omega arith)
numbered_at low (k ∷ ks) zero (here, all) h = omega (arith, here)
numbered_at low (k ∷ ks) (suc j) (here, all) h = omega (arith, numbered_at (suc low) ks j all (omega arith))

all_numbered : Numbered 0 all_kinds
all_numbered = (refl, (refl, (refl, (refl, (refl, (refl, (refl, (refl, (refl, (refl, (refl, tt)))))))))))

numbered : (k : ℕ) → k < 11 → number_of (kind_of k) ≡ k
unfolding kind_of
numbered k h = omega (arith, numbered_at 0 all_kinds k all_numbered h)

-- Every kind but the unknown.
abbrev pub Known : Kind → Type 0
Known nothing = Unit
Known (action r) = Unit
Known (pairs q) = Unit
Known (loops l) = Unit
Known unknown = ⊥

pub known_kinds : (k : ℕ) → Known (kind_of k) → k < 11
known_kinds k known = by (dec_lt k 11)
  where
    by : Dec (k < 11) → k < 11
    by (yes h) = h
    by (no h) = absurd (subst Known (above_ten_is_unknown k (omega arith)) known)

-- A known kind has that number only.
pub kind_has_its_number : (k : ℕ) (is : Kind) → kind_of k ≡ is → Known is → k ≡ number_of is
kind_has_its_number k is e known = sym (numbered k (known_kinds k (subst Known (sym e) known))) ∙ ap number_of e

-- The kind with the number of a known kind is that kind.
pub number_of_its_kind : (k : Kind) → Known k → kind_of (number_of k) ≡ k
unfolding kind_of
number_of_its_kind nothing known = refl
number_of_its_kind (action false) known = refl
number_of_its_kind (action true) known = refl
number_of_its_kind (pairs (composed strict)) known = refl
number_of_its_kind (pairs (composed seq)) known = refl
number_of_its_kind (pairs (composed par)) known = refl
number_of_its_kind (pairs choice) known = refl
number_of_its_kind (loops (each strict)) known = refl
number_of_its_kind (loops head) known = refl
number_of_its_kind (loops (each seq)) known = refl
number_of_its_kind (loops (each par)) known = refl
number_of_its_kind unknown known = absurd known

abbrev pair_in_lem : Kind → Pair
pair_in_lem nothing = choice
pair_in_lem (action r) = choice
pair_in_lem (pairs q) = q
pair_in_lem (loops l) = choice
pair_in_lem unknown = choice

abbrev loop_in_lem : Kind → Loop
loop_in_lem nothing = head
loop_in_lem (action r) = head
loop_in_lem (pairs q) = head
loop_in_lem (loops l) = l
loop_in_lem unknown = head

-- A number belongs to at most one pair, and to at most one loop.
pub one_pair : (k j : ℕ) (p q : Pair) → k ≡ j → kind_of j ≡ pairs p → kind_of k ≡ pairs q → p ≡ q
one_pair k j p q same e f = ap pair_in_lem (sym e ∙ ap kind_of (sym same) ∙ f)

pub one_loop : (k j : ℕ) (l m : Loop) → k ≡ j → kind_of j ≡ loops l → kind_of k ≡ loops m → l ≡ m
one_loop k j l m same e f = ap loop_in_lem (sym e ∙ ap kind_of (sym same) ∙ f)

-- A pair whose number is that of no order is the choice.
pub else_the_choice : (k : ℕ) (q : Pair) → kind_of k ≡ pairs q → k ≢ 3 → k ≢ 4 → k ≢ 5 → choice ≡ q
else_the_choice k (composed strict) e three four five =
    absurd (three (kind_has_its_number k (pairs (composed strict)) e tt))
else_the_choice k (composed seq) e three four five = absurd (four (kind_has_its_number k (pairs (composed seq)) e tt))
else_the_choice k (composed par) e three four five = absurd (five (kind_has_its_number k (pairs (composed par)) e tt))
else_the_choice k choice e three four five = refl
