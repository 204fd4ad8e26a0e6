-- Each test of `Findings` decides its condition of `Table`: the trailer's bytes and the nodes' fields are the same
-- bytes of the card, and joined tests decide joined conditions.
-- Assumes nothing.
use Prim.Native.Nat.{ℕ, zero, suc, ◌+◌, ◌-◌, ◌*◌, ◌%◌, ◌<◌, ◌≤◌}
use mathlib.Core.List.{List, [], ◌∷◌}
use mathlib.Core.Logic.{◌≢◌, ◌⊎◌, inl, inr}
use mathlib.Core.Path.{◌≡◌, refl, sym, ◌∙◌, ap}
use native.Mathlib.Nat.{add-zero}
use native.Mathlib.Omega.{arith}
use lib.Dec.{eqb}
use lib.ListN.{length, get_or, drop}
use lib.Seq.{get_or-take, get_or-drop}
use Rattle.node_spec.specs.Row.{uses}
use Rattle.node_spec.proofs.Rows.{uses_append}
use Rattle.card_spec.specs.Parts.{trailer_byte, trailer_at, first_at, back_of, lifelines_of, messages_of, nodes_of}
use Rattle.card_spec.specs.Nodes.{count_of, node_at, spare_at, row_to, card_row}
use Rattle.card_spec.specs.Findings.{framed, back_in_rule, counts_in_range, in_order}
use Rattle.card_spec.specs.Table.{byte, NoCard, BackOut, CountsOut, FaultAt, MisuseAt}
use Rattle.card_spec.specs.Table.{back, lifelines, messages, count, field, child_in, child_of_first}
use Rattle.card_spec.proofs.Trailers.{trailer_there}
use Rattle.card_spec.proofs.Relied.{InRule, length_nodes}
use Rattle.card_spec.proofs.Decided.{Decided, by_leb, by_eqb, by_both, regroup, in_words}
use Rattle.card_spec.proofs.Orderly.{order_decided}
use Rattle.card_spec.proofs.Children.{child_in_a_node}

-- Byte k of the trailer is byte m from the end.
from_the_end : (card : List ℕ) (k m : ℕ) → 6 ≤ length card → k + m ≡ 6
    → trailer_byte card k ≡ byte card (length card - m)
from_the_end card k m long e =
    let at : length card - 6 + k ≡ length card - m = omega arith in
    trailer_there card k long ∙ ap (byte card) at

same_number : (x y z : ℕ) → x ≡ y → Decided (eqb x z) (y ≢ z)
same_number x y z e = rw e (by_eqb y z)

-- 1
pub at_least_six : (card : List ℕ) {P : Type 0} → ¬ (length card < 6 ⊎ P) → 6 ≤ length card
at_least_six card fits =
    let short : ¬ (length card < 6) = λ h. fits (inl h) in
    omega arith

pub framed_decided : (card : List ℕ) → Decided (framed card) (NoCard card)
framed_decided card =
    let size = length card in
    regroup
    (by_both (by_both (by_leb 6 size) (λ _. by_leb size 4096)) (λ fits.
    let long = at_least_six card fits in
    by_both (same_number (trailer_byte card 4) (byte card (size - 2)) 0x57 (from_the_end card 4 2 long refl)) (λ _.
    same_number (trailer_byte card 5) (byte card (size - 1)) 0x4C (from_the_end card 5 1 long refl))))

module _ (card : List ℕ) (long : 6 ≤ length card) where
  pub same_back : back_of card ≡ back card
  same_back = rw (from_the_end card 0 6 long refl, from_the_end card 1 5 long refl)

  pub same_lifelines : lifelines_of card ≡ lifelines card
  same_lifelines = from_the_end card 2 4 long refl

  pub same_messages : messages_of card ≡ messages card
  same_messages = from_the_end card 3 3 long refl

  -- 2
  pub back_decided : Decided (back_in_rule card) (BackOut card)
  back_decided =
      rw (← same_back)
      (by_both (by_eqb (back_of card % 4) 0) (λ _.
      regroup
      (by_both (by_both (by_leb 4 (back_of card)) (λ _. by_leb (back_of card) 1020)) (λ _.
      by_leb (back_of card) (trailer_at card)))))

  -- 3
  pub counts_decided : Decided (counts_in_range card) (CountsOut card)
  counts_decided =
      rw (← same_lifelines, ← same_messages)
      (regroup
      (by_both (by_both (by_leb 1 (lifelines_of card)) (λ _. by_leb (lifelines_of card) 16)) (λ _.
      by_both (by_leb 1 (messages_of card)) (λ _. by_leb (messages_of card) 64))))

  module _ (rule : InRule card) where
    pub same_count : count_of (nodes_of card) ≡ count card
    same_count = omega (arith, length_nodes card rule, same_back)

    -- Field k of node i is the same byte, in the nodes' bytes and in the card.
    same_field : (i k : ℕ) → i < count card → k < 4 → get_or (nodes_of card) (i * 4 + k) 0 ≡ field card i k
    same_field i k h low =
        let inside : i * 4 + k < trailer_at card - first_at card = omega (arith, same_back, rule.inside, rule.whole) in
        get_or-take (trailer_at card - first_at card) (drop (first_at card) card) (i * 4 + k) 0 inside
        ∙ get_or-drop (first_at card) card (i * 4 + k) 0
        ∙ ap (λ b. byte card (trailer_at card - b + (i * 4 + k))) same_back

    same_kind : (i : ℕ) → i < count card → (node_at (nodes_of card) i).kind ≡ field card i 0
    same_kind i h = ap (λ k. get_or (nodes_of card) k 0) (sym (add-zero (i * 4))) ∙ same_field i 0 h (omega arith)

    -- 4
    pub fault_decided :
        (i : ℕ) → i < count card
        → Decided (in_order (lifelines_of card) (messages_of card) i (node_at (nodes_of card) i)
        (spare_at (nodes_of card) i)) (FaultAt card i)
    fault_decided i h =
        let nodes = nodes_of card in
        rw (
          ← same_lifelines,
          ← same_messages,
          ← same_kind i h,
          ← same_field i 1 h (omega arith),
          ← same_field i 2 h (omega arith),
          ← same_field i 3 h (omega arith),
        )
        (order_decided (lifelines_of card) (messages_of card) i (node_at nodes i) (spare_at nodes i))

    -- 5: a child is counted as often in the row of nodes as in the card's bytes.
    counted_alike : (j n : ℕ) → n ≤ count card → uses (row_to (nodes_of card) n) j ≡ child_of_first card j n
    counted_alike j zero h = refl
    counted_alike j (suc i) h =
        let node = node_at (nodes_of card) i in
        let here : (child_in node.kind node.a node.b j
        ≡ child_in (field card i 0) (field card i 1) (field card i 2) j)
        = rw (
          same_kind i (omega arith),
          same_field i 1 (omega arith) (omega arith),
          same_field i 2 (omega arith) (omega arith),
        ) in
        omega (
          arith,
          uses_append (row_to (nodes_of card) i) (node ∷ []) j,
          counted_alike j i (omega arith),
          child_in_a_node node j,
          here,
        )

    pub misuse_decided : (j : ℕ) → Decided (eqb (uses (card_row card) j) 1) (MisuseAt card j)
    misuse_decided j =
        let alike : uses (card_row card) j ≡ child_of_first card j (count card)
        = ap (λ n. uses (row_to (nodes_of card) n) j) same_count ∙ counted_alike j (count card) (omega arith) in
        rw alike
        (in_words (other (child_of_first card j (count card))) (not_one (child_of_first card j (count card)))
        (by_eqb (child_of_first card j (count card)) 1))
      where
        other : (n : ℕ) → n ≢ 1 → n ≡ 0 ⊎ 1 < n
        other zero h = inl refl
        other (suc n) h = inr (omega arith)

        not_one : (n : ℕ) → n ≡ 0 ⊎ 1 < n → n ≢ 1
        not_one n (inl h) e = omega arith
        not_one n (inr h) e = omega arith
