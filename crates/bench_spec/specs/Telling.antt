-- What the program tells of the contents of its two files.
-- Assumes nothing.
use Rattle.std.specs.Prelude.{ℕ, ◌≤◌, List, ◌≡◌, length, take, Option, Some, None}
use Rattle.judge_spec.specs.declared.Judged.{Judged}
use Rattle.judge_spec.specs.Judgment.{judgment, room_after}

-- "With allowance 1,000,000 and room 16,384" (01, Logs worked by hand).
abbrev pub allowance : ℕ
allowance = 1_000_000

abbrev pub room : ℕ
room = 16_384

-- What reading a file resulted in, how many bytes were read or nothing that can be relied on, was read into these lent
-- bytes: there are at least as many as it says.
abbrev pub ReadInto : List ℕ → Option ℕ → Type 0
ReadInto bytes (Some n) = n ≤ length bytes
ReadInto bytes None = Unit

-- The content that was read into these bytes: so many of them, from the first on.
abbrev pub filled : List ℕ → Option ℕ → Option (List ℕ)
filled bytes (Some n) = Some (take n bytes)
filled bytes None = None

-- What the program tells of the contents of `chart` and `log`, with a room of length `long`: the judgment of what was
-- read; or none, "if either file is missing" (01, Logs worked by hand).
abbrev pub told_of : Option (List ℕ) → Option (List ℕ) → ℕ → Option Judged
told_of (Some card) (Some log) long = Some (judgment card log allowance long)
told_of (Some card) None long = None
told_of None content long = None

-- The same, of how reading the two files ended, and of the bytes that they were read into.
abbrev pub told_from : Option ℕ → List ℕ → Option ℕ → List ℕ → ℕ → Option Judged
told_from chart card log actions long = told_of (filled card chart) (filled actions log) long

-- The room afterwards: as the judgment leaves it, or as found.
abbrev pub room_told : Option (List ℕ) → Option (List ℕ) → List ℕ → List ℕ
room_told (Some card) (Some log) found = room_after card log found
room_told (Some card) None found = found
room_told None content found = found

-- What the program reports: what it tells of some contents of the two files, with 01's lending. Each file was read into
-- one byte more than a card or a log may have, so that a longer file is found too long. No contract can say which bytes
-- the files of a directory have.
pub record Reports (told : Option Judged) : Type 0 where
  pub chart : Option ℕ
  pub log : Option ℕ
  pub card_bytes : List ℕ
  pub log_bytes : List ℕ
  pub card_long : length card_bytes ≡ 4097
  pub log_long : length log_bytes ≡ 257
  pub chart_within : ReadInto card_bytes chart
  pub log_within : ReadInto log_bytes log
  pub tells : told ≡ told_from chart card_bytes log log_bytes room
