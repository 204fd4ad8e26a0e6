-- What an answer of std's `read` means, and what reading a file to its end comes to.
-- Assumes nothing.
use Rattle.std.specs.Prelude.{ℕ, zero, suc, ◌+◌, ◌≤◌, ◌≡◌, Bool, true, false, eqb, List, length, take}
use Rattle.std.specs.Prelude.{Option, Some, None, Result, Ok, Err}
use Rattle.std.specs.declared.ops.ControlFlow.{ControlFlow}
use Rattle.std.specs.declared.ops.ControlFlow.TheVariants.{Continue, Break}

-- What a call that is handed n bytes may answer: an error, or how many bytes it put, at most n.
abbrev pub Moved : {E : Type 0} → ℕ → Result ℕ E → Type 0
Moved n (Ok k) = k ≤ n
Moved n (Err e) = Unit

-- So many bytes were read. The first argument says whether they are all that fit.
abbrev pub so_far : Bool → ℕ → ControlFlow (Option ℕ) ℕ
so_far true read = Break (Some read)
so_far false read = Continue read

-- What an answer of `read` means when `end` of the `long` lent bytes were filled before: reading ends with so many
-- bytes, or with nothing that can be relied on; or it goes on. An error says that the call failed, 0 that the file has
-- ended; any other number says how many bytes it put after those.
abbrev pub after_read : {E : Type 0} → ℕ → ℕ → Result ℕ E → ControlFlow (Option ℕ) ℕ
after_read end long (Err e) = Break None
after_read end long (Ok zero) = Break (Some end)
after_read end long (Ok (suc k)) = so_far (eqb (end + suc k) long) (end + suc k)

-- Bytes are read only from a file that could be opened.
abbrev pub OnlyIfOpen : {F E : Type 0} → Option ℕ → Result F E → Type 0
OnlyIfOpen None file = Unit
OnlyIfOpen (Some n) (Ok f) = Unit
OnlyIfOpen (Some n) (Err e) = ⊥

-- What was read of a file that had these bytes left, where they are known: all of them, as far as the lent bytes go.
abbrev pub AllRead : Option (List ℕ) → Option ℕ → List ℕ → Type 0
AllRead None content bytes = Unit
AllRead (Some left) None bytes = Unit
AllRead (Some left) (Some n) bytes = take n bytes ≡ take (length bytes) left
