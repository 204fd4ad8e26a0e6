-- The whole card: the nodes from the first byte on, and the trailer after them. A chart that a card can hold can be
-- written into an output that is long enough for its card.
-- Assumes nothing.
use Prim.Native.Nat.{ℕ, ◌+◌, ◌*◌, ◌≤◌}
use mathlib.Core.List.{List, ◌++◌}
use mathlib.Core.Path.{◌≡◌, ap, ◌∙◌}
use native.Mathlib.Omega.{arith}
use lib.ListN.{length, drop}
use lib.Seq.{sets, sets-eq}
use Rattle.chart_spec.specs.Chart.{Chart}
use Rattle.chart_spec.specs.Chart.Chart.{empty, act, alt, pair, loop}
use Rattle.card_spec.specs.Meaning.{Declared}
use Rattle.write_spec.specs.Rows.{written}
use Rattle.write_spec.specs.Cards.{records_of, trailer_of, record_bytes, card_bytes, card_of, Holds}
use Rattle.write_card.specs.Outputs.{Writable, Writes}
use Rattle.write_spec.proofs.Nodes.{length_written}
use Rattle.write_spec.proofs.Read.{length_records, length_card}
use Rattle.write_card.proofs.Putting.{sets_append}

-- The nodes from the first byte on and the trailer after them are the card, and the bytes after it are as they were.
pub card_written :
    (lifelines messages : ℕ) (c : Chart) (out : List ℕ) (next : ℕ) (middle after : List ℕ) → card_bytes c ≤ length out
    → Writes c 0 out next middle → after ≡ sets middle (next * 4) (trailer_of (next * 4) lifelines messages)
    → after ≡ card_of lifelines messages c ++ drop (card_bytes c) out
card_written lifelines messages c out next middle after enough (counted, nodes) stored =
    let records = records_of (written 0 c) in
    let trailer = trailer_of (record_bytes c) lifelines messages in
    let back : next * 4 ≡ record_bytes c = omega arith in
    let behind : record_bytes c ≡ 0 * 4 + length records
    = omega (arith, length_records (written 0 c), length_written 0 c) in
    let long : length (card_of lifelines messages c) ≡ card_bytes c = length_card lifelines messages c in
    let from : 0 * 4 + length (card_of lifelines messages c) ≡ card_bytes c = omega arith in
    stored
    ∙ ap (λ k. sets middle k (trailer_of k lifelines messages)) back
    ∙ ap (λ bytes. sets bytes (record_bytes c) trailer) nodes
    ∙ ap (λ k. sets (sets out (0 * 4) records) k trailer) behind
    ∙ sets_append out (0 * 4) records trailer
    ∙ sets-eq (card_of lifelines messages c) out (0 * 4) (omega arith)
    ∙ ap (λ k. card_of lifelines messages c ++ drop k out) from

-- A chart that a card can hold can be written into an output that is long enough for the card.
pub held_is_writable :
    (lifelines messages : ℕ) (c : Chart) (out : List ℕ) → Holds lifelines messages c → card_bytes c ≤ length out
    → Writable c 0 out
held_is_writable lifelines messages c out holds enough =
    record {
      declared = declared_more holds.few_lifelines holds.few_messages c holds.declared;
      few = omega (arith, holds.few_nodes);
      enough = omega arith;
    }
  where
    declared_more :
        {l l' m m' : ℕ} → l ≤ l' → m ≤ m' → (c : Chart) → Declared l m c → Declared l' m' c
    declared_more hl hm empty d = tt
    declared_more hl hm (act a) (line, message) = (omega arith, omega arith)
    declared_more hl hm (alt l r) (dl, dr) = (declared_more hl hm l dl, declared_more hl hm r dr)
    declared_more hl hm (pair o l r) (dl, dr) = (declared_more hl hm l dl, declared_more hl hm r dr)
    declared_more hl hm (loop k b) d = declared_more hl hm b d
