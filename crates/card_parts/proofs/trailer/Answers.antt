-- `trailer` meets its contract: the test before each return decides between the byte and 0. Assumes nothing.
use Rattle.std.proofs.Common.{◌∙◌, sym}
use Rattle.card_spec.proofs.Trailers.{no_trailer, trailer_there}
use Rattle.card_parts.proofs.trailer.Goals as goal

pub returns-then-size-lt-TRAILER_BYTES : goal.returns-then-size-lt-TRAILER_BYTES
returns-then-size-lt-TRAILER_BYTES c = sym (no_trailer _ _ c.if-size-lt-TRAILER_BYTES.true)

pub returns : goal.returns
returns c = c.from.ensures ∙ sym (trailer_there _ _ c.if-size-lt-TRAILER_BYTES.false)
