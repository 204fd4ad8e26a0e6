-- What can be relied on once the rules of the whole card and of its nodes hold: `Faultless`. A back distance in rule is
-- the length of the nodes' bytes. A node in order has its children below itself and its lifeline below the declared
-- number.
-- Assumes nothing.
use Prim.Native.Nat.{ℕ, ◌-◌, ◌%◌, ◌≤◌, ◌<◌}
use mathlib.Core.Bool.{true, ◌&&◌}
use mathlib.Core.List.{List}
use mathlib.Core.Path.{◌≡◌}
use native.Mathlib.Omega.{arith}
use lib.Dec.{T, eqb, ltb, leb, eqb→eq}
use lib.ListN.{length, drop, length-take, length-drop}
use borrow.Author.Tests.{eqb-true, ltb-true, leb-true}
use Rattle.node.specs.declared.Node.{Node}
use Rattle.node_spec.specs.Kind.{Kind, kind_of}
use Rattle.node_spec.specs.Kind.Kind.{nothing, action, pairs, loops, unknown}
use Rattle.node_spec.specs.Row.{children_as, Below}
use Rattle.std.specs.Prelude.{Ok}
use Rattle.number_spec.specs.declared.Refusal.TheVariants.{FaultyNode}
use Rattle.card_spec.specs.Parts.{trailer_at, first_at, back_of, lifelines_of, messages_of, nodes_of}
use Rattle.card_spec.specs.Nodes.{count_of, node_at, spare_at}
use Rattle.card_spec.specs.Figures.{acts_as}
use Rattle.card_spec.specs.Findings.{within, back_in_rule, counts_in_range, in_order_as, orderly, faulty}
use Rattle.card_spec.specs.Faultless.{Faultless}
use Rattle.chart_spec.proofs.Tests.{both_true}
use Rattle.card_spec.proofs.Lowest.{fine→none}

pub within→ : (low x high : ℕ) → within low x high ≡ true → (low ≤ x) × (x ≤ high)
within→ low x high h =
    let (l, u) = both_true (leb low x) (leb x high) h in
    (leb-true low x l, leb-true x high u)

-- The back distance is in rule.
pub record InRule (card : List ℕ) : Type 0 where
  pub whole : back_of card % 4 ≡ 0
  pub some : 4 ≤ back_of card
  pub few : back_of card ≤ 1020
  pub inside : back_of card ≤ trailer_at card

pub back→ : (card : List ℕ) → back_in_rule card ≡ true → InRule card
back→ card h =
    let (w, rest) = both_true (eqb (back_of card % 4) 0)
    (within 4 (back_of card) 1020 && leb (back_of card) (trailer_at card)) h in
    let (r, i) = both_true (within 4 (back_of card) 1020) (leb (back_of card) (trailer_at card)) rest in
    let (s, f) = within→ 4 (back_of card) 1020 r in
    record {
      whole = eqb-true (back_of card % 4) 0 w;
      some = s;
      few = f;
      inside = leb-true (back_of card)
          (trailer_at card) i;
    }

-- The nodes take as many bytes as the back distance says.
pub length_nodes : (card : List ℕ) → InRule card → length (nodes_of card) ≡ back_of card
length_nodes card rule =
    omega (
      arith,
      length-take (trailer_at card - first_at card) (drop (first_at card) card),
      length-drop (first_at card) card,
      rule.inside,
    )

in_order→lower : (k : Kind) (lifelines messages i : ℕ) (n : Node) → in_order_as k lifelines messages i n ≡ true
    → Below i (children_as k n)
in_order→lower nothing lifelines messages i n h = tt
in_order→lower (action r) lifelines messages i n h = tt
in_order→lower (pairs p) lifelines messages i n h =
    let (l, r) = both_true (ltb n.a i) (ltb n.b i) h in
    (ltb-true n.a i l, (ltb-true n.b i r, tt))
in_order→lower (loops k) lifelines messages i n h =
    let (z, l) = both_true (eqb n.b 0) (ltb n.a i) h in
    (ltb-true n.a i l, tt)
in_order→lower unknown lifelines messages i n h = tt

in_order→held :
    (k : Kind) (lifelines messages i : ℕ) (n : Node) (d : ℕ)
    → in_order_as k lifelines messages i n ≡ true → T (acts_as k n d) → d < lifelines
in_order→held nothing lifelines messages i n d h acts = absurd acts
in_order→held (action r) lifelines messages i n d h acts =
    let (l, m) = both_true (ltb n.a lifelines) (ltb n.b messages) h in
    omega (arith, ltb-true n.a lifelines l, eqb→eq n.a d acts)
in_order→held (pairs p) lifelines messages i n d h acts = absurd acts
in_order→held (loops k) lifelines messages i n d h acts = absurd acts
in_order→held unknown lifelines messages i n d h acts = absurd acts

-- The rules of a card make its nodes faultless.
pub faultless :
    (card : List ℕ) → InRule card → lifelines_of card ≤ 16
    → faulty (lifelines_of card) (messages_of card) (nodes_of card) ≡ Ok tt → Faultless (nodes_of card)
faultless card rule few fine =
    let lines = lifelines_of card in
    let messages = messages_of card in
    let nodes = nodes_of card in
    let order : (i : ℕ) → i < count_of nodes
    → in_order_as (kind_of (node_at nodes i).kind) lines messages i (node_at nodes i) ≡ true
    = λ i h.
    (both_true (eqb (spare_at nodes i) 0)
    (in_order_as (kind_of (node_at nodes i).kind) lines messages i (node_at nodes i))
    (fine→none (orderly lines messages nodes) FaultyNode (count_of nodes) fine i h)).1 in
    record {
      some = omega (arith, length_nodes card rule, rule.some);
      few = omega (arith, length_nodes card rule, rule.few);
      lower = λ i h. in_order→lower (kind_of (node_at nodes i).kind) lines messages i (node_at nodes i) (order i h);
      held = λ i d h acts.
          omega (
            arith,
            in_order→held (kind_of (node_at nodes i).kind) lines messages i (node_at nodes i) d
                (order i h) acts,
          );
    }

pub has_few_nodes : (card : List ℕ) → back_in_rule card ≡ true → count_of (nodes_of card) ≤ 255
has_few_nodes card h =
    let rule = back→ card h in
    omega (arith, length_nodes card rule, rule.few)

pub has_few_lifelines : (card : List ℕ) → counts_in_range card ≡ true → lifelines_of card ≤ 16
has_few_lifelines card h =
    let (l, m) = both_true (within 1 (lifelines_of card) 16) (within 1 (messages_of card) 64) h in
    (within→ 1 (lifelines_of card) 16 l).1

pub has_few_messages : (card : List ℕ) → counts_in_range card ≡ true → messages_of card ≤ 64
has_few_messages card h =
    let (l, m) = both_true (within 1 (lifelines_of card) 16) (within 1 (messages_of card) 64) h in
    (within→ 1 (messages_of card) 64 m).1
