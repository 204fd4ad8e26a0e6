-- A part in a room is written by its own parts and its node: what is written of its parts, one after the other, and
-- then of its node, is what is written of the whole.
-- Assumes nothing.
use Prim.Native.Nat.{ℕ, suc, ◌+◌, ◌-◌, ◌*◌, ◌≤◌}
use mathlib.Core.List.{List, [], ◌∷◌, ◌++◌}
use mathlib.Core.Path.{◌≡◌, refl, ap, sym, subst, ◌∙◌}
use native.Mathlib.Omega.{arith}
use lib.ListN.{length, set, length-append}
use lib.Seq.{sets, length-sets}
use Rattle.chart_spec.specs.Chart.{Chart, size}
use Rattle.chart_spec.specs.Chart.Chart.{empty, act}
use Rattle.node.specs.declared.Node.{Node}
use Rattle.node_spec.specs.Kind.{number_of, Pair, paired}
use Rattle.node_spec.specs.Kind.Pair.{composed, choice}
use Rattle.node_spec.specs.Kind.Kind.{nothing, action, pairs, loops}
use Rattle.node_spec.proofs.Ranges.{three_to_six_are_pairs}
use Rattle.node_spec.proofs.Numbering.{kind_has_its_number}
use Rattle.card_spec.specs.Meaning.{Declared}
use Rattle.room_spec.proofs.Apart.{Reading, action_here, pair_here, loop_here}
use Rattle.write_spec.specs.Rows.{node_as, root_from, parent_of, written}
use Rattle.write_spec.specs.Cards.{record_of, records_of}
use Rattle.write_card.specs.Outputs.{Storable, Stores, Writable, Writes}
use Rattle.write_spec.proofs.Nodes.{length_written}
use Rattle.write_spec.proofs.Read.{length_records}
use Rattle.write_card.proofs.Counting.{n, whole, left, right, a_leaf_is_one, a_pair_is_one_more, a_loop_is_one_more}

declared_sides :
    (q : Pair) (l r : Chart) → Declared 16 64 (paired q l r) → Declared 16 64 l × Declared 16 64 r
declared_sides (composed o) l r d = d
declared_sides choice l r d = d

written_pair :
    (first : ℕ) (q : Pair) (l r : Chart)
    → written first (paired q l r)
    ≡ (written first l ++ written (first + size l) r) ++ (parent_of (pairs q) first l r ∷ [])
unfolding written
written_pair first (composed o) l r = refl
written_pair first choice l r = refl

pub sets_append :
    (out : List ℕ) (i : ℕ) (vs ws : List ℕ) → sets (sets out i vs) (i + length vs) ws ≡ sets out i (vs ++ ws)
sets_append out i [] ws =
    let same : i + 0 ≡ i = omega arith in
    ap (λ k. sets out k ws) same
sets_append out i (v ∷ vs) ws =
    let same : i + suc (length vs) ≡ suc i + length vs = omega arith in
    ap (λ k. sets (sets (set out i v) (suc i) vs) k ws) same ∙ sets_append (set out i v) (suc i) vs ws

records_append : (row more : List Node) → records_of (row ++ more) ≡ records_of row ++ records_of more
records_append [] more = refl
records_append (n ∷ row) more = ap (λ bytes. record_of n ++ bytes) (records_append row more)

-- More nodes after the first ones.
more_written :
    (out : List ℕ) (first next : ℕ) (row more : List Node) → next ≡ first + length row
    → sets (sets out (first * 4) (records_of row)) (next * 4) (records_of more)
    ≡ sets out (first * 4) (records_of (row ++ more))
more_written out first next row more e =
    let at : next * 4 ≡ first * 4 + length (records_of row) = omega (arith, length_records row) in
    ap (λ k. sets (sets out (first * 4) (records_of row)) k (records_of more)) at
    ∙ sets_append out (first * 4) (records_of row) (records_of more)
    ∙ ap (sets out (first * 4)) (sym (records_append row more))

same_node :
    {kind kind' a a' b b' : ℕ} → kind ≡ kind' → a ≡ a' → b ≡ b'
    → ◌≡◌ {A = Node} (record { kind = kind; a = a; b = b }) (record { kind = kind'; a = a'; b = b' })
same_node e f g = rw (e, f, g)

-- A part that can be written.
module _ (r : Reading) (first : ℕ) (out : List ℕ) (w : Writable (whole r) first out) where
  -- An action has its own record.
  pub asks_action : 1 ≤ (n r).kind → (n r).kind ≤ 2 → Storable (n r) first out
  asks_action low high =
      let (receives, e, acts) = action_here r low high in
      let (line, message) : Declared 16 64 (act (record { line = (n r).a; receives = receives; message = (n r).b }))
      = subst (Declared 16 64) acts w.declared in
      let one = a_leaf_is_one r high in
      record {
        kind = omega arith;
        a = omega arith;
        b = omega arith;
        few = omega (arith, w.few);
        enough = omega (arith, w.enough);
      }

  pub action_written :
      (next : ℕ) (after : List ℕ) → 1 ≤ (n r).kind → (n r).kind ≤ 2 → Stores (n r) first out next after
      → Writes (whole r) first out next after
  unfolding written
  action_written next after low high (counted, stored) =
      let (receives, e, acts) = action_here r low high in
      let number : (n r).kind ≡ number_of (action receives) = kind_has_its_number (n r).kind (action receives) e tt in (
        omega (arith, a_leaf_is_one r high),
        stored
            ∙ ap (λ k. sets out (first * 4) (record_of (record { kind = k; a = (n r).a; b = (n r).b }))) number
            ∙ ap (λ c. sets out (first * 4) (records_of (written first c))) (sym acts),
      )

  -- An empty, and a node of no kind, is written as an empty.
  module _ (nothing_here : whole r ≡ empty) where
    pub asks_empty : Storable (node_as nothing 0 0) first out
    asks_empty =
        let one : size (whole r) ≡ 1 = ap size nothing_here in
        record {
          kind = omega arith;
          a = omega arith;
          b = omega arith;
          few = omega (arith, w.few);
          enough = omega (arith, w.enough);
        }

    pub empty_written :
        (next : ℕ) (after : List ℕ) → Stores (node_as nothing 0 0) first out next after
        → Writes (whole r) first out next after
    unfolding written
    empty_written next after (counted, stored) =
        let one : size (whole r) ≡ 1 = ap size nothing_here in (
          omega arith,
          stored ∙ ap (λ c. sets out (first * 4) (records_of (written first c))) (sym nothing_here),
        )

  -- A pair: left part, right part, parent.
  module _ (low : 3 ≤ (n r).kind) (high : (n r).kind ≤ 6) where
    sized : size (whole r) ≡ 1 + (size (left r) + size (right r))
    sized = a_pair_is_one_more r low high

    sides : Declared 16 64 (left r) × Declared 16 64 (right r)
    sides =
        let (q, e) = three_to_six_are_pairs (n r).kind low high in
        declared_sides q (left r) (right r) (subst (Declared 16 64) (pair_here r q e) w.declared)

    pub asks_left : Writable (left r) first out
    asks_left =
        record {
          declared = sides.0;
          few = omega (arith, w.few, sized);
          enough = omega (arith, w.enough, sized);
        }

    module _ (next : ℕ) (middle : List ℕ) (on_left : Writes (left r) first out next middle) where
      as_long_as_before : length middle ≡ length out
      as_long_as_before =
          ap length on_left.1 ∙ length-sets out (first * 4) (records_of (written first (left r)))

      pub asks_right : Writable (right r) next middle
      asks_right =
          record {
            declared = sides.1;
            few = omega (arith, w.few, sized, on_left.0);
            enough = omega (arith, w.enough, sized, on_left.0, as_long_as_before);
          }

      module _ (parent : ℕ) (later : List ℕ) (at_right : Writes (right r) next middle parent later) where
        abbrev node : Node
        node = record { kind = (n r).kind; a = next - 1; b = parent - 1 }

        pub asks_parent : Storable node parent later
        asks_parent =
            let long : length later ≡ length out
            = ap length at_right.1 ∙ length-sets middle (next * 4) (records_of (written next (right r)))
            ∙ as_long_as_before in
            record {
              kind = omega arith;
              a = omega (arith, w.few, sized, on_left.0);
              b = omega (arith, w.few, sized, on_left.0, at_right.0);
              few = omega (arith, w.few, sized, on_left.0, at_right.0);
              enough = omega (arith, w.enough, sized, on_left.0, at_right.0);
            }

        pub pair_written :
            (end : ℕ) (after : List ℕ) → Stores node parent later end after → Writes (whole r) first out end after
        pair_written end after (counted, stored) =
            let (q, e) = three_to_six_are_pairs (n r).kind low high in
            let l = left r in
            let number : (n r).kind ≡ number_of (pairs q) = kind_has_its_number (n r).kind (pairs q) e tt in
            let second : parent ≡ first + size l + size (right r) = omega (arith, on_left.0, at_right.0) in
            let wl = written first l in
            let wr = written (first + size l) (right r) in
            let top : node ≡ parent_of (pairs q) first l (right r)
            = same_node number (ap (λ k. k - 1) on_left.0) (ap (λ k. k - 1) second) in
            let after_left : middle ≡ sets out (first * 4) (records_of wl) = on_left.1 in
            let after_right : later ≡ sets out (first * 4) (records_of (wl ++ wr))
            = at_right.1
            ∙ ap (λ k. sets middle (k * 4) (records_of (written k (right r)))) on_left.0
            ∙ ap (λ bytes. sets bytes ((first + size l) * 4) (records_of wr)) after_left
            ∙ more_written out first (first + size l) wl wr (omega (arith, length_written first l)) in
            let behind : parent ≡ first + length (wl ++ wr)
            = omega (
              arith,
              length-append wl wr,
              length_written first l,
              length_written (first + size l) (right r),
            ) in (
              omega (arith, sized, on_left.0, at_right.0),
              stored
                  ∙ ap (λ m. sets later (parent * 4) (records_of (m ∷ []))) top
                  ∙ ap (λ bytes. sets bytes (parent * 4) (records_of (parent_of (pairs q) first l (right r) ∷ [])))
                  after_right
                  ∙ more_written out first parent (wl ++ wr) (parent_of (pairs q) first l (right r) ∷ []) behind
                  ∙ ap (λ row. sets out (first * 4) (records_of row)) (sym (written_pair first q l (right r)))
                  ∙ ap (λ c. sets out (first * 4) (records_of (written first c))) (sym (pair_here r q e)),
            )

  -- A loop: its body, and then its own node.
  module _ (low : 7 ≤ (n r).kind) (high : (n r).kind ≤ 10) where
    one_more : size (whole r) ≡ 1 + size (left r)
    one_more = a_loop_is_one_more r low high

    pub asks_body : Writable (left r) first out
    asks_body =
        let (k, e, again) = loop_here r low high in
        record {
          declared = subst (Declared 16 64) again w.declared;
          few = omega (arith, w.few, one_more);
          enough = omega (arith, w.enough, one_more);
        }

    module _ (parent : ℕ) (later : List ℕ) (on_body : Writes (left r) first out parent later) where
      abbrev around : Node
      around = record { kind = (n r).kind; a = parent - 1; b = 0 }

      pub asks_loop : Storable around parent later
      asks_loop =
          let long : length later ≡ length out
          = ap length on_body.1 ∙ length-sets out (first * 4) (records_of (written first (left r))) in
          record {
            kind = omega arith;
            a = omega (arith, w.few, one_more, on_body.0);
            b = omega arith;
            few = omega (arith, w.few, one_more, on_body.0);
            enough = omega (arith, w.enough, one_more, on_body.0);
          }

      pub loop_written :
          (end : ℕ) (after : List ℕ) → Stores around parent later end after → Writes (whole r) first out end after
      unfolding written
      loop_written end after (counted, stored) =
          let (k, e, again) = loop_here r low high in
          let b = left r in
          let number : (n r).kind ≡ number_of (loops k) = kind_has_its_number (n r).kind (loops k) e tt in
          let top : around ≡ node_as (loops k) (root_from first b) 0
          = same_node number (ap (λ k. k - 1) on_body.0) refl in
          let row = written first b in (
            omega (arith, one_more, on_body.0),
            stored
                ∙ ap (λ m. sets later (parent * 4) (records_of (m ∷ []))) top
                ∙ ap (λ bytes. sets bytes (parent * 4) (records_of (node_as (loops k) (root_from first b) 0 ∷ [])))
                on_body.1
                ∙ more_written out first parent row (node_as (loops k) (root_from first b) 0 ∷ [])
                (omega (arith, on_body.0, length_written first b))
                ∙ ap (λ c. sets out (first * 4) (records_of (written first c))) (sym again),
          )
