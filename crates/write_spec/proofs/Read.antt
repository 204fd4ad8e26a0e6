-- A card that was written is read back: its nodes, its counts and its chart are what was written, and it is sound if a
-- card can hold the chart. The bytes are taken apart where they were put together: before the trailer, and after every
-- four bytes.
-- Assumes nothing.
use Prim.Native.Nat.{ℕ, zero, suc, ◌+◌, ◌-◌, ◌*◌, ◌%◌, ◌<◌, ◌≤◌}
use mathlib.Core.Bool.{true}
use mathlib.Core.List.{List, [], ◌∷◌, ◌++◌}
use mathlib.Core.Path.{◌≡◌, refl, ap, sym, ◌∙◌}
use native.Mathlib.Omega.{arith}
use lib.ListN.{length, get_or, take, drop, length-append, get_or-append}
use lib.Seq.{take-suc, take-length, take_at, get_or-append-add}
use borrow.Author.Tests.{eq-eqb, le-leb}
use Rattle.chart_spec.specs.Chart.{Chart, size}
use Rattle.node.specs.declared.Node.{Node}
use Rattle.node_spec.specs.Kind.{kind_of}
use Rattle.node_spec.specs.Row.{chart, uses}
use Rattle.std.specs.Prelude.{Ok}
use Rattle.number_spec.specs.declared.Refusal.TheVariants.{FaultyNode, MisusedNode}
use Rattle.card_spec.specs.Parts.{trailer_byte, trailer_at, first_at, back_of, lifelines_of, messages_of, nodes_of}
use Rattle.card_spec.specs.Nodes.{count_of, node_at, spare_at, row_to, row_of, card_row, card_chart}
use Rattle.card_spec.specs.Figures.{depth_of}
use Rattle.card_spec.specs.Findings.{in_order, in_order_as, orderly, used_once, faulty, misused}
use Rattle.card_spec.specs.Table.{Sound}
use Rattle.card_spec.proofs.Trailers.{trailer_there}
use Rattle.card_spec.proofs.Lowest.{none→fine}
use Rattle.card_spec.proofs.Answers.{Passed, answer_sound}
use Rattle.card_spec.proofs.Promises.{zero_exactly_for_sound_cards}
use Rattle.write_spec.specs.Rows.{written}
use Rattle.write_spec.specs.Cards.{record_of, records_of, trailer_of, record_bytes, card_bytes, card_of, Holds}
use Rattle.write_spec.proofs.Nodes.{
  at_least_one,
  length_written,
  written_is_its_chart,
  written_uses_each_once,
  written_orderly,
  orderly_at,
}

-- ---- records

pub length_records : (row : List Node) → length (records_of row) ≡ length row * 4
length_records [] = refl
length_records (n ∷ row) = omega (arith, length-append (record_of n) (records_of row), length_records row)

-- A node that stands for nothing.
abbrev blank : Node
blank = record { kind = 0; a = 0; b = 0 }

-- Byte k of record i.
record_byte :
    (row : List Node) (i k : ℕ) → i < length row → k < 4
    → get_or (records_of row) (i * 4 + k) 0 ≡ get_or (record_of (get_or row i blank)) k 0
record_byte [] i k h low = absurd (omega arith)
record_byte (n ∷ row) zero k h low =
    let same : 0 * 4 + k ≡ k = omega arith in
    ap (λ j. get_or (records_of (n ∷ row)) j 0) same ∙ get_or-append (record_of n) (records_of row) 0 k low
record_byte (n ∷ row) (suc i) k h low =
    let same : suc i * 4 + k ≡ 4 + (i * 4 + k) = omega arith in
    ap (λ j. get_or (records_of (n ∷ row)) j 0) same ∙ get_or-append-add (record_of n) (records_of row) (i * 4 + k) 0
    ∙ record_byte row i k (omega arith) low

-- Node i, and its fourth byte.
record_node : (row : List Node) (i : ℕ) → i < length row → node_at (records_of row) i ≡ get_or row i blank
record_node row i h =
    let first : i * 4 ≡ i * 4 + 0 = omega arith in
    let kind : get_or (records_of row) (i * 4) 0 ≡ (get_or row i blank).kind
    = ap (λ j. get_or (records_of row) j 0) first ∙ record_byte row i 0 h (omega arith) in
    rw (kind, record_byte row i 1 h (omega arith), record_byte row i 2 h (omega arith))

record_spare : (row : List Node) (i : ℕ) → i < length row → spare_at (records_of row) i ≡ 0
record_spare row i h = record_byte row i 3 h (omega arith)

records_row : (row : List Node) (n : ℕ) → n ≤ length row → row_to (records_of row) n ≡ take n row
records_row row zero h = refl
records_row row (suc n) h =
    ap (λ r. r ++ (node_at (records_of row) n ∷ [])) (records_row row n (omega arith))
    ∙ ap (λ m. take n row ++ (m ∷ [])) (record_node row n (omega arith))
    ∙ sym (take-suc row n blank (omega arith))

record_count : (row : List Node) → count_of (records_of row) ≡ length row
record_count row = omega (arith, length_records row)

pub records_read_back : (row : List Node) → row_of (records_of row) ≡ row
records_read_back row =
    ap (row_to (records_of row)) (record_count row) ∙ records_row row (length row) (omega arith) ∙ take-length row

-- ---- parts of the card

module _ (lifelines messages : ℕ) (c : Chart) where
  abbrev card : List ℕ
  card = card_of lifelines messages c

  abbrev records : List ℕ
  records = records_of (written 0 c)

  abbrev trailer : List ℕ
  trailer = trailer_of (record_bytes c) lifelines messages

  length_of_records : length records ≡ record_bytes c
  length_of_records = omega (arith, length_records (written 0 c), length_written 0 c)

  pub length_card : length card ≡ card_bytes c
  length_card = omega (arith, length-append records trailer, length_of_records)

  trailer_byte_lem : (k : ℕ) → trailer_byte card k ≡ get_or trailer k 0
  trailer_byte_lem k =
      let at : length card - 6 + k ≡ length records + k = omega (arith, length_card, length_of_records) in
      trailer_there card k (omega (arith, length_card)) ∙ ap (λ j. get_or card j 0) at
      ∙ get_or-append-add records trailer k 0

  pub declares_lifelines : lifelines_of card ≡ lifelines
  declares_lifelines = trailer_byte_lem 2

  pub declares_messages : messages_of card ≡ messages
  declares_messages = trailer_byte_lem 3

  back : back_of card ≡ record_bytes c
  back = omega (arith, trailer_byte_lem 0, trailer_byte_lem 1)

  -- There is nothing before the first node.
  pub no_note : first_at card ≡ 0
  no_note = omega (arith, back, length_card)

  nodes : nodes_of card ≡ records
  nodes =
      let all : trailer_at card ≡ record_bytes c = omega (arith, length_card) in
      ap (λ j. take (trailer_at card - j) (drop j card)) no_note
      ∙ take_at records trailer (trailer_at card - 0) (omega (arith, length_of_records))

  -- The nodes stand in the order in which they were written.
  pub nodes_as_written : card_row card ≡ written 0 c
  nodes_as_written = ap row_of nodes ∙ records_read_back (written 0 c)

  -- The chart is the one that was written.
  pub has_its_chart : card_chart card ≡ c
  has_its_chart = ap chart nodes_as_written ∙ written_is_its_chart c

  count : count_of (nodes_of card) ≡ size c
  count = ap count_of nodes ∙ record_count (written 0 c) ∙ length_written 0 c

  -- ---- and nothing refuses it

  module _ (holds : Holds lifelines messages c) where
    passed : Passed card
    passed =
        let size_few = holds.few_nodes in
        let size_some = at_least_one c in
        let ends : (trailer_byte card 4 ≡ 0x57) × (trailer_byte card 5 ≡ 0x4C) =
        (trailer_byte_lem 4, trailer_byte_lem 5) in
        record {
          one = rw (
            le-leb 6 (length card) (omega (arith, length_card)),
            le-leb (length card) 4096 (omega (arith, length_card)),
            eq-eqb (trailer_byte card 4) 0x57 ends.0,
            eq-eqb (trailer_byte card 5) 0x4C ends.1,
          );
          two = rw (
            eq-eqb (back_of card % 4) 0 (omega (arith, back)),
            le-leb 4 (back_of card) (omega (arith, back)),
            le-leb (back_of card) 1020 (omega (arith, back)),
            le-leb (back_of card) (trailer_at card) (omega (arith, back, length_card)),
          );
          three = rw (
            declares_lifelines,
            declares_messages,
            le-leb 1 lifelines holds.some_lifelines,
            le-leb lifelines 16 holds.few_lifelines,
            le-leb 1 messages holds.some_messages,
            le-leb messages 64 holds.few_messages,
          );
        }

    in_order_lem :
        (i : ℕ) → i < count_of (nodes_of card)
        → in_order (lifelines_of card) (messages_of card) i (node_at (nodes_of card) i) (spare_at (nodes_of card) i)
        ≡ true
    in_order_lem i h =
        let inside : i < length (written 0 c) = omega (arith, count, length_written 0 c) in
        let n = get_or (written 0 c) i blank in
        let node : node_at (nodes_of card) i ≡ n
        = ap (λ bytes. node_at bytes i) nodes ∙ record_node (written 0 c) i inside in
        let spare : spare_at (nodes_of card) i ≡ 0
        = ap (λ bytes. spare_at bytes i) nodes ∙ record_spare (written 0 c) i inside in
        let number : 0 + i ≡ i = omega arith in
        ap (λ l. in_order l (messages_of card) i (node_at (nodes_of card) i) (spare_at (nodes_of card) i))
        declares_lifelines
        ∙ ap (λ m. in_order lifelines m i (node_at (nodes_of card) i) (spare_at (nodes_of card) i)) declares_messages
        ∙ ap (λ m. in_order lifelines messages i m (spare_at (nodes_of card) i)) node
        ∙ ap (in_order lifelines messages i n) spare
        ∙ ap (λ k. in_order_as (kind_of n.kind) lifelines messages k n) (sym number)
        ∙ orderly_at lifelines messages 0 (written 0 c) i blank
        (written_orderly lifelines messages 0 c holds.declared) inside

    no_faults : faulty (lifelines_of card) (messages_of card) (nodes_of card) ≡ Ok tt
    no_faults =
        none→fine (orderly (lifelines_of card) (messages_of card) (nodes_of card)) FaultyNode (count_of (nodes_of card))
        in_order_lem

    no_misuse : misused (nodes_of card) ≡ Ok tt
    no_misuse =
        none→fine (used_once (card_row card)) MisusedNode (count_of (nodes_of card) - 1)
        (λ j h.
        let once : uses (card_row card) j ≡ 1
        = ap (λ r. uses r j) nodes_as_written ∙ written_uses_each_once c j (omega (arith, count)) in
        eq-eqb (uses (card_row card) j) 1 once)

    -- A card that holds its chart is sound.
    pub written_is_sound : Sound card
    written_is_sound =
        let deep : depth_of (nodes_of card) ≤ 16 = rw has_its_chart holds.shallow in
        (zero_exactly_for_sound_cards card).0
        (ap (λ a. a.number) (answer_sound card passed no_faults no_misuse deep))
