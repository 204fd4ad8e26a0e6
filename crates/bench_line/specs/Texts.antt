-- Working definitions, which nobody has to believe: what a text says while it is being spelled.
-- Assumes nothing.
use Rattle.std.specs.Prelude.{ℕ, ◌+◌, ◌≤◌, List, ◌++◌, ◌≡◌, length, take}
use Rattle.bench_line.specs.declared.Text.{Text}

-- The bytes of a text, up to its end.
abbrev pub said : Text → List ℕ
said t = take t.end t.bytes

-- The text has room left for `more` bytes.
pub record Fits (t : Text) (more : ℕ) : Type 0 where
  pub whole : length t.bytes ≡ 52
  pub enough : t.end + more ≤ 52

-- The text r says what t says, and `more` after it.
pub record Adds (t : Text) (more : List ℕ) (r : Text) : Type 0 where
  pub whole : length r.bytes ≡ 52
  pub longer : r.end ≡ t.end + length more
  pub says : said r ≡ said t ++ more

-- The text r says exactly l.
pub record Says (l : List ℕ) (r : Text) : Type 0 where
  pub within : r.end ≤ length r.bytes
  pub says : said r ≡ l
