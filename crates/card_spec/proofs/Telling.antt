-- The answer to a card is what 01's table tells: each number and place under its exact condition, and no other. The
-- proof goes rule by rule, both ways: from the condition that holds to the answer, and from the answer to the
-- condition.
-- Assumes nothing.
use Prim.Native.Nat.{ℕ, ◌-◌, ◌<◌, ◌≤◌}
use mathlib.Core.Bool.{Bool, true, false}
use mathlib.Core.List.{List}
use mathlib.Core.Path.{◌≡◌, refl, ap}
use native.Mathlib.Decide.{dec_le}
use native.Mathlib.Omega.{arith}
use lib.Dec.{eqb}
use lib.ListN.{length}
use borrow.Author.Tests.{eqb-true}
use Rattle.node_spec.specs.Kind.{kind_of}
use Rattle.node_spec.specs.Row.{uses}
use Rattle.card_spec.specs.declared.Checked.{Checked}
use Rattle.std.specs.Prelude.{Ok}
use Rattle.number_spec.specs.declared.Refusal.TheVariants.{FaultyNode, MisusedNode}
use Rattle.card_spec.specs.Parts.{lifelines_of, messages_of, nodes_of}
use Rattle.card_spec.specs.Nodes.{count_of, node_at, spare_at, card_row}
use Rattle.card_spec.specs.Figures.{depth_of}
use Rattle.card_spec.specs.Findings.{framed, back_in_rule, counts_in_range, in_order_as}
use Rattle.card_spec.specs.Findings.{orderly, used_once, faulty, misused}
use Rattle.card_spec.specs.Checking.{checking, findings, first, soundness}
use Rattle.card_spec.specs.Faultless.{Faultless}
use Rattle.card_spec.specs.Table.{Trailed, Ordered, Tree, Sound, Told, NoCard, BackOut, FaultAt, MisuseAt, count}
use Rattle.card_spec.specs.Table.Told.{one, two, three, four, five, six, sound}
use Rattle.chart_spec.proofs.Tests.{both_true}
use Rattle.card_spec.proofs.Relied.{InRule, back→, has_few_lifelines, faultless}
use Rattle.card_spec.proofs.Decided.{Decided, if_not, if_so}
use Rattle.card_spec.proofs.Deciding.{at_least_six, framed_decided, back_decided, counts_decided}
use Rattle.card_spec.proofs.Deciding.{same_count, fault_decided, misuse_decided}
use Rattle.card_spec.proofs.LowestAt.{Looked, look, no_fault→fine, lowest→refused}
use Rattle.card_spec.proofs.LowestAt.Looked.{nowhere, somewhere}
use Rattle.card_spec.proofs.Answers.{Passed, answer_one, answer_two, answer_three}
use Rattle.card_spec.proofs.Answers.{nothing_found, answer_four, answer_five, answer_six}

module _ (card : List ℕ) where
  abbrev nodes : List ℕ
  nodes = nodes_of card

  -- Whether node j is a child exactly once.
  abbrev once : ℕ → Bool
  once = used_once (card_row card)

  long_of : ¬ NoCard card → 6 ≤ length card
  long_of = at_least_six card

  -- What can be relied on if none of the first three conditions holds.
  module _ (t : Trailed card) where
    long : 6 ≤ length card
    long = long_of t.framed

    pub is_framed : framed card ≡ true
    is_framed = if_not (framed_decided card) t.framed

    pub is_in_rule : back_in_rule card ≡ true
    is_in_rule = if_not (back_decided card long) t.back

    pub is_counted : counts_in_range card ≡ true
    is_counted = if_not (counts_decided card long) t.counts

    pub passed : Passed card
    passed = record { one = is_framed; two = is_in_rule; three = is_counted }

    pub rule : InRule card
    rule = back→ card is_in_rule

    pub counted_alike : count_of nodes ≡ count card
    counted_alike = same_count card long rule

    -- 4, decided for each node.
    abbrev ordered : ℕ → Bool
    ordered = orderly (lifelines_of card) (messages_of card) nodes

    each_order_decided : (i : ℕ) → i < count_of nodes → Decided (ordered i) (FaultAt card i)
    each_order_decided i h = fault_decided card long rule i (omega (arith, counted_alike))

    -- 5, decided for each node.
    each_use_decided : (j : ℕ) → j < count_of nodes - 1 → Decided (once j) (MisuseAt card j)
    each_use_decided j h = misuse_decided card long rule j

  pub no_fault : (o : Ordered card) → faulty (lifelines_of card) (messages_of card) nodes ≡ Ok tt
  no_fault o =
      let t = o.trailed in
      no_fault→fine FaultyNode (ordered t) (FaultAt card) (count_of nodes) (each_order_decided t)
      (λ i h. o.nodes i (omega (arith, counted_alike t)))

  pub no_misuse : (t : Tree card) → misused nodes ≡ Ok tt
  no_misuse t =
      no_fault→fine MisusedNode once (MisuseAt card) (count_of nodes - 1) (each_use_decided t.ordered.trailed)
      (λ j h. t.once j (omega (arith, counted_alike t.ordered.trailed)))

  -- Nothing refuses a sound card.
  pub sound→nothing_found : Sound card → first (findings card) ≡ Ok tt
  sound→nothing_found s =
      let tree = s.tree in
      let t = tree.ordered.trailed in
      let shallow : ¬ (16 < depth_of nodes) = s.shallow in
      nothing_found card (passed t) (no_fault tree.ordered) (no_misuse tree) (omega arith)

  -- A sound card has its figures.
  pub sound→answer : Sound card → checking card ≡ soundness nodes
  unfolding checking
  sound→answer s = rw (sound→nothing_found s)

  numbered : {a : Checked} → checking card ≡ a → ((checking card).number ≡ a.number) × ((checking card).place ≡ a.place)
  numbered e = (ap (λ a. a.number) e, ap (λ a. a.place) e)

  -- What the table tells is the answer.
  pub told→answer : {number place : ℕ} → Told card number place
      → ((checking card).number ≡ number) × ((checking card).place ≡ place)
  told→answer (one h) = numbered (answer_one card (if_so (framed_decided card) h))
  told→answer (two f h) =
      numbered (answer_two card (if_not (framed_decided card) f) (if_so (back_decided card (long_of f)) h))
  told→answer (three f b h) =
      numbered
      (answer_three card (if_not (framed_decided card) f) (if_not (back_decided card (long_of f)) b)
      (if_so (counts_decided card (long_of f)) h))
  told→answer (four {i = i} t l) =
      numbered
      (answer_four card (passed t) (FaultyNode i)
      (lowest→refused FaultyNode (ordered t) (FaultAt card) (count_of nodes) i (each_order_decided t)
      (rw (counted_alike t) l)))
  told→answer (five {j = j} o l) =
      let t = o.trailed in
      numbered
      (answer_five card (passed t) (MisusedNode j) (no_fault o)
      (lowest→refused MisusedNode once (MisuseAt card) (count_of nodes - 1) j (each_use_decided t)
      (rw (counted_alike t) l)))
  told→answer (six tree h) =
      let t = tree.ordered.trailed in
      numbered
      (answer_six card (passed t) (no_fault tree.ordered) (no_misuse tree) h)
  told→answer (sound s) = numbered (sound→answer s)

  answered : {a : Checked} → checking card ≡ a → Told card a.number a.place
      → Told card (checking card).number (checking card).place
  answered e t = rw e t

  by_six :
      (tree : Tree card) → Dec (depth_of nodes ≤ 16) → Told card (checking card).number (checking card).place
  by_six tree (yes h) =
      let s : Sound card = record { tree = tree; shallow = λ deep. omega arith } in
      answered (sound→answer s) (sound s)
  by_six tree (no h) =
      let t = tree.ordered.trailed in
      let deep : 16 < depth_of nodes = omega arith in
      answered
      (answer_six card (passed t) (no_fault tree.ordered) (no_misuse tree) deep)
      (six tree deep)

  by_five :
      (o : Ordered card) → Looked MisusedNode once (MisuseAt card) (count_of nodes - 1)
      → Told card (checking card).number (checking card).place
  by_five o (nowhere e none) =
      by_six (record { ordered = o; once = λ j h. none j (omega (arith, counted_alike o.trailed)) })
      (dec_le (depth_of nodes) 16)
  by_five o (somewhere j e l) =
      let t = o.trailed in
      answered (answer_five card (passed t) (MisusedNode j) (no_fault o) e)
      (five o (rw (counted_alike t) at l))

  by_four :
      (t : Trailed card) → Looked FaultyNode (ordered t) (FaultAt card) (count_of nodes)
      → Told card (checking card).number (checking card).place
  by_four t (nowhere e none) =
      by_five (record { trailed = t; nodes = λ i h. none i (omega (arith, counted_alike t)) })
      (look MisusedNode once (MisuseAt card) (count_of nodes - 1) (each_use_decided t))
  by_four t (somewhere i e l) =
      answered (answer_four card (passed t) (FaultyNode i) e) (four t (rw (counted_alike t) at l))

  by_three :
      ¬ NoCard card → ¬ BackOut card → (b : Bool) → counts_in_range card ≡ b
      → Told card (checking card).number (checking card).place
  by_three f b false e =
      answered (answer_three card (if_not (framed_decided card) f) (if_not (back_decided card (long_of f)) b) e)
      (three f b ((counts_decided card (long_of f)).fails e))
  by_three f b true e =
      let t : Trailed card = record { framed = f; back = b; counts = (counts_decided card (long_of f)).passes e } in
      by_four t (look FaultyNode (ordered t) (FaultAt card) (count_of nodes) (each_order_decided t))

  by_two : ¬ NoCard card → (b : Bool) → back_in_rule card ≡ b → Told card (checking card).number (checking card).place
  by_two f false e =
      answered (answer_two card (if_not (framed_decided card) f) e) (two f ((back_decided card (long_of f)).fails e))
  by_two f true e = by_three f ((back_decided card (long_of f)).passes e) (counts_in_range card) refl

  by_one : (b : Bool) → framed card ≡ b → Told card (checking card).number (checking card).place
  by_one false e = answered (answer_one card e) (one ((framed_decided card).fails e))
  by_one true e = by_two ((framed_decided card).passes e) (back_in_rule card) refl

  -- The answer is what the table tells.
  pub answer→told : Told card (checking card).number (checking card).place
  answer→told = by_one (framed card) refl

  -- In a sound card every node is in order, and every node but the root is a child once.
  pub sound→orderly :
      (s : Sound card) (i : ℕ) → i < count_of nodes
      → in_order_as (kind_of (node_at nodes i).kind) (lifelines_of card) (messages_of card) i (node_at nodes i) ≡ true
  sound→orderly s i h =
      let o = s.tree.ordered in
      let t = o.trailed in
      (both_true (eqb (spare_at nodes i) 0) (in_order_as (kind_of (node_at nodes i).kind) (lifelines_of card)
      (messages_of card) i (node_at nodes i))
      (if_not (each_order_decided t i h) (o.nodes i (omega (arith, counted_alike t))))).1

  pub sound→once : (s : Sound card) (j : ℕ) → j < count_of nodes - 1 → uses (card_row card) j ≡ 1
  sound→once s j h =
      eqb-true (uses (card_row card) j) 1
      (if_not (each_use_decided s.tree.ordered.trailed j h)
      (s.tree.once j (omega (arith, counted_alike s.tree.ordered.trailed))))

  pub sound→faultless : Sound card → Faultless nodes
  sound→faultless s =
      let t = s.tree.ordered.trailed in
      faultless card (rule t) (has_few_lifelines card (is_counted t)) (no_fault s.tree.ordered)
