-- Each node of a sound card fits into a place. So what is laid into a room is the card's row of nodes, and the chart at
-- its root is the card's chart.
-- Assumes nothing.
use Prim.Native.Nat.{ℕ, zero, suc, ◌+◌, ◌-◌, ◌<◌, ◌≤◌}
use mathlib.Core.Bool.{true}
use mathlib.Core.List.{List, [], ◌∷◌, ◌++◌, map, map-append}
use mathlib.Core.Path.{◌≡◌, refl, ap, sym, subst, ◌∙◌}
use native.Mathlib.Decide.{ℕ_discrete}
use native.Mathlib.Omega.{arith}
use lib.Dec.{T, eqb, ltb}
use borrow.Author.Tests.{eqb-true, ltb-true}
use lib.ListN.{length, get_or, drop, set, length-append, length-map, length-drop, get_or-map, get_or-append}
use lib.Seq.{set_at, drop-cons, append_snoc, get_or_at}
use Rattle.chart_spec.specs.Chart.Chart.{empty}
use Rattle.chart_spec.proofs.Tests.{both_true}
use Rattle.node.specs.declared.Node.{Node}
use Rattle.node_spec.specs.Kind.{Kind, kind_of}
use Rattle.node_spec.specs.Kind.Kind.{nothing, action, pairs, loops, unknown}
use Rattle.node.specs.Place.{node_of, word_of, Fitting}
use Rattle.node_spec.specs.Row.{charts, children, Below}
use Rattle.node.proofs.Packing.{unpacks_to_the_same_node}
use Rattle.node_spec.proofs.Numbering.{Known, known_kinds}
use Rattle.node_spec.proofs.Rows.{charts_keep}
use Rattle.card_spec.specs.Parts.{nodes_of, lifelines_of, messages_of}
use Rattle.card_spec.specs.Nodes.{node_at, row_to, card_chart}
use Rattle.card_spec.specs.Findings.{in_order_as}
use Rattle.card_spec.specs.Table.{Sound}
use Rattle.card_spec.proofs.Rows.{length_row}
use Rattle.card_spec.proofs.Relied.{has_few_lifelines, has_few_messages}
use Rattle.card_spec.proofs.Telling.{is_counted, sound→faultless, sound→orderly}
use Rattle.room_spec.specs.Room.{nodes_in, node_in, chart_in, Table}
use Rattle.room_spec.specs.declared.Root.{Root}
use Rattle.room_spec.specs.Building.{added, root_at}
use Rattle.room_spec.proofs.Adding.{root_inside}
use Rattle.room_lay.specs.Rooms.{placed, taken}

fits : (n : Node) → Known (kind_of n.kind) → n.a < 16384 → n.b < 16384 → Fitting n
fits n known a b = record { kind = omega (arith, known_kinds n.kind known); a = a; b = b }

-- A node that is in order fits into a place.
in_order_fits :
    (k : Kind) (lifelines messages i : ℕ) (n : Node) → kind_of n.kind ≡ k → lifelines ≤ 16 → messages ≤ 64 → i ≤ 255
    → in_order_as k lifelines messages i n ≡ true → Fitting n
in_order_fits nothing lifelines messages i n e few_l few_m few h =
    let (a, b) = both_true (eqb n.a 0) (eqb n.b 0) h in
    fits n (subst Known (sym e) tt) (omega (arith, eqb-true n.a 0 a)) (omega (arith, eqb-true n.b 0 b))
in_order_fits (action r) lifelines messages i n e few_l few_m few h =
    let (a, b) = both_true (ltb n.a lifelines) (ltb n.b messages) h in
    fits n (subst Known (sym e) tt) (omega (arith, ltb-true n.a lifelines a))
    (omega (arith, ltb-true n.b messages b))
in_order_fits (pairs p) lifelines messages i n e few_l few_m few h =
    let (a, b) = both_true (ltb n.a i) (ltb n.b i) h in
    fits n (subst Known (sym e) tt) (omega (arith, ltb-true n.a i a)) (omega (arith, ltb-true n.b i b))
in_order_fits (loops k) lifelines messages i n e few_l few_m few h =
    let (b, a) = both_true (eqb n.b 0) (ltb n.a i) h in
    fits n (subst Known (sym e) tt) (omega (arith, ltb-true n.a i a)) (omega (arith, eqb-true n.b 0 b))
in_order_fits unknown lifelines messages i n e few_l few_m few h = absurd (subst T (sym h) tt)

-- The first n nodes in the room are n numbers, and the room is as long as before.
row_words : (nodes : List ℕ) (n : ℕ) → length (map word_of (row_to nodes n)) ≡ n
row_words nodes n = length-map (row_to nodes n) word_of ∙ length_row nodes n

pub placed_length : (nodes : List ℕ) (n : ℕ) (room : List ℕ) → n ≤ length room
    → length (placed nodes n room) ≡ length room
placed_length nodes n room h =
    omega (arith, length-append (map word_of (row_to nodes n)) (drop n room), row_words nodes n, length-drop n room)

-- One node more.
pub placed_more :
    (nodes : List ℕ) (n : ℕ) (room : List ℕ) → n < length room
    → added (placed nodes n room) n (node_at nodes n) ≡ placed nodes (suc n) room
placed_more nodes n room h =
    let words = map word_of (row_to nodes n) in
    let word = word_of (node_at nodes n) in
    let rest = drop (suc n) room in
    ap (λ d. set (words ++ d) n word) (drop-cons room n 0 h)
    ∙ set_at words (get_or room n 0) rest word n (row_words nodes n)
    ∙ sym (append_snoc words word rest)
    ∙ ap (λ w. w ++ rest) (sym (map-append word_of (row_to nodes n) (node_at nodes n ∷ [])))

row_at : (nodes : List ℕ) (n p : ℕ) (d : Node) → p < n → get_or (row_to nodes n) p d ≡ node_at nodes p
row_at nodes zero p d h = absurd (omega arith)
row_at nodes (suc n) p d h = by (ℕ_discrete p n) (λ l. row_at nodes n p d l)
  where
    by : Dec (p ≡ n) → (p < n → get_or (row_to nodes n) p d ≡ node_at nodes p)
        → get_or (row_to nodes n ++ (node_at nodes n ∷ [])) p d ≡ node_at nodes p
    by (yes e) ih =
        get_or_at (row_to nodes n) (node_at nodes n) [] d p (length_row nodes n ∙ sym e) ∙ ap (node_at nodes) (sym e)
    by (no o) ih =
        get_or-append (row_to nodes n) (node_at nodes n ∷ []) d p (omega (arith, length_row nodes n)) ∙ ih
        (omega arith)

module _ (card : List ℕ) (sound : Sound card) where
  abbrev nodes : List ℕ
  nodes = nodes_of card

  node_fits : (i : ℕ) → i < taken card → Fitting (node_at nodes i)
  node_fits i h =
      let counted = is_counted card sound.tree.ordered.trailed in
      in_order_fits (kind_of (node_at nodes i).kind) (lifelines_of card) (messages_of card) i (node_at nodes i) refl
      (has_few_lifelines card counted) (has_few_messages card counted)
      (omega (arith, (sound→faultless card sound).few)) (sound→orderly card sound i h)

  module _ (room : List ℕ) (n : ℕ) (some : n ≤ taken card) (enough : n ≤ length room) where
    -- The node at each of the places.
    placed_node : (p : ℕ) → p < n → node_in (placed nodes n room) p ≡ node_at nodes p
    placed_node p h =
        let words = map word_of (row_to nodes n) in
        ap node_of (get_or-append words (drop n room) 0 p (omega (arith, row_words nodes n)))
        ∙ ap node_of (get_or-map word_of (row_to nodes n) p (record { kind = 0; a = 0; b = 0 }))
        ∙ ap (λ m. node_of (word_of m)) (row_at nodes n p (record { kind = 0; a = 0; b = 0 }) h)
        ∙ unpacks_to_the_same_node (node_at nodes p) (node_fits p (omega arith))

    -- They are a table.
    pub placed_table : length room ≤ 16384 → Table (placed nodes n room) n
    placed_table usable =
        record {
          usable = omega (arith, placed_length nodes n room enough);
          counted = omega (arith, placed_length nodes n room enough);
          lower = λ p h inside.
              subst (λ m. Below p (children m)) (sym (placed_node p h))
              ((sound→faultless card sound).lower p (omega arith));
        }

  -- The places are read back as the row of the card's nodes.
  row_read_back : (n : ℕ) → n ≤ taken card → map node_of (map word_of (row_to nodes n)) ≡ row_to nodes n
  row_read_back zero h = refl
  row_read_back (suc n) h =
      ap (map node_of) (map-append word_of (row_to nodes n) (node_at nodes n ∷ []))
      ∙ map-append node_of (map word_of (row_to nodes n)) (word_of (node_at nodes n) ∷ [])
      ∙ ap (λ row. row ++ (node_of (word_of (node_at nodes n)) ∷ [])) (row_read_back n (omega arith))
      ∙ ap (λ m. row_to nodes n ++ (m ∷ [])) (unpacks_to_the_same_node (node_at nodes n) (node_fits n (omega arith)))

  -- The card's chart stands at its root.
  pub placed_chart : (room : List ℕ) → chart_in (placed nodes (taken card) room) (taken card - 1) ≡ card_chart card
  placed_chart room =
      let row = row_to nodes (taken card) in
      let rest = drop (taken card) room in
      let split : nodes_in (placed nodes (taken card) room) ≡ row ++ nodes_in rest
      = map-append node_of (map word_of row) rest ∙ ap (λ r. r ++ nodes_in rest)
      (row_read_back (taken card) (omega arith)) in
      let long : length row ≡ taken card = length_row nodes (taken card) in
      ap (λ r. get_or (charts r) (taken card - 1) empty) split
      ∙ charts_keep row (nodes_in rest) (taken card - 1) (omega (arith, (sound→faultless card sound).some))
      ∙ ap (λ m. get_or (charts row) (m - 1) empty) (sym long)

-- How a loop lays the chart.
module _ (card room nodes : List ℕ) (theirs : nodes ≡ nodes_of card) (i : ℕ) (now : List ℕ)
    (so_far : now ≡ placed nodes i room) where
  pub placed_so_far :
      Sound card → length room ≤ 16384 → i ≤ taken card → i ≤ length room → Table now i
  placed_so_far sound usable some enough =
      subst (λ r. Table r i) (ap (λ n. placed n i room) (sym theirs) ∙ sym so_far)
      (placed_table card sound room i some enough usable)

  pub one_node_more :
      (next : List ℕ) (root : Root) (n : Node) → n ≡ node_at nodes i → i < length room → root ≡ root_at now i
      → next ≡ added now i n
      → (next ≡ placed nodes (i + 1) room) × (root ≡ record { place = i + 1 - 1; used = i + 1 })
  one_node_more next root n here enough e f =
      let long : length now ≡ length room = ap length so_far ∙ placed_length nodes i room (omega arith) in
      let inside : i < length now = omega arith in
      let place : i + 1 - 1 ≡ i = omega arith in
      let more : i + 1 ≡ suc i = omega arith in (
        f ∙ ap (added now i) here ∙ ap (λ r. added r i (node_at nodes i)) so_far ∙ placed_more nodes i room enough
            ∙ ap (λ m. placed nodes m room) (sym more),
        e ∙ root_inside now i inside ∙ ap (λ p. record { place = p; used = i + 1 }) (sym place),
      )
