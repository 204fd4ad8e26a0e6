-- One answer of `read`: `buf` are the bytes from `end` on afterwards, and `behind` is what stands after them. What was
-- read so far are the bytes that the file had and has no more; so at the file's end, or once the lent bytes are full,
-- it is all of the file as far as they go.
-- Assumes nothing.
use Rattle.std.proofs.Common.{ℕ, zero, suc, ◌+◌, ◌-◌, ◌≤◌, ◌<◌, Bool, true, false, List, ◌++◌, length, take}
use Rattle.std.proofs.Common.{◌≡◌, refl, sym, ap, subst, ◌∙◌, length-take-le, take_all, take_at, arith}
use mathlib.Core.List.{append-nil}
use native.Mathlib.Decide.{dec_lt}
use lib.Dec.{eqb}
use lib.Seq.{take-append-add, take-append-le}
use borrow.Author.Tests.{eqb-true}
use Rattle.std.specs.Prelude.{Option, Some, None, Result, Ok, Err}
use Rattle.std.specs.Io.{ReadsAtMost}
use Rattle.std.specs.Io.KnownBytes.{Consumes, ReadConsumes, IsAtEnd}
use Rattle.std.proofs.KnownBytes.{Consumes-trans}
use Rattle.std.specs.declared.ops.ControlFlow.TheVariants.{Continue, Break}
use Rattle.bench_spec.specs.Reading.{so_far, after_read, AllRead}

nothing_read : (had : Option (List ℕ)) (bytes : List ℕ) → AllRead had None bytes
nothing_read None bytes = tt
nothing_read (Some left) bytes = tt

-- What is read up to a file's end, or fills the lent bytes, is all of it as far as they go.
all_read :
    (had has : Option (List ℕ)) (n : ℕ) (bytes : List ℕ) → n ≤ length bytes → Consumes had has (take n bytes)
    → (n < length bytes → IsAtEnd has) → AllRead had (Some n) bytes
all_read None has n bytes few lost ended = tt
all_read (Some left) None n bytes few lost ended = absurd lost
all_read (Some left) (Some rest) n bytes few lost ended = by (dec_lt n (length bytes))
  where
    long : length (take n bytes) ≡ n
    long = length-take-le n bytes few

    by : Dec (n < length bytes) → take n bytes ≡ take (length bytes) left
    by (yes more) =
        let whole : left ≡ take n bytes = lost ∙ ap (λ r. take n bytes ++ r) (ended more) ∙ append-nil (take n bytes) in
        sym (ap (take (length bytes)) whole ∙ take_all (length bytes) (take n bytes) (omega (arith, long)))
    by (no full) =
        sym (ap (take (length bytes)) lost ∙ take_at (take n bytes) rest (length bytes) (omega (arith, long)))

-- How many bytes were read, by what `so_far` says of them.
so_many : (all : Bool) (n read : ℕ) → so_far all n ≡ Continue read → n ≡ read
so_many true n read e = cc
so_many false n read e = cc

all_so_many :
    (all : Bool) (n : ℕ) (content : Option ℕ) → so_far all n ≡ Break content → (all ≡ true) × (Some n ≡ content)
all_so_many true n content e = (refl, cc)
all_so_many false n content e = cc

module _ (had has now : Option (List ℕ)) (bytes buf behind : List ℕ) (end : ℕ) (inside : end ≤ length bytes) where
  -- The lent bytes afterwards.
  abbrev put : List ℕ
  put = take end bytes ++ (buf ++ behind)

  filled : (n : ℕ) → n ≤ length buf → take (end + n) put ≡ take end bytes ++ take n buf
  filled n few =
      let same = length-take-le end bytes inside in
      ap (λ m. take (m + n) put) (sym same)
      ∙ take-append-add (take end bytes) (buf ++ behind) n
      ∙ ap (λ more. take end bytes ++ more) (take-append-le n buf behind few)

  lost_more :
      (n read : ℕ) → end + n ≡ read → n ≤ length buf → Consumes had has (take end bytes) → Consumes has now (take n buf)
      → Consumes had now (take read put)
  lost_more n read e few before this =
      let both = Consumes-trans had has now (take end bytes) (take n buf) before this in
      subst (λ m. Consumes had now (take m put)) e (subst (Consumes had now) (sym (filled n few)) both)

  pub goes_on :
      {E : Type 0} (got : Result ℕ E) (long read : ℕ) → ReadsAtMost got buf → ReadConsumes has now got buf
      → Consumes had has (take end bytes) → after_read end long got ≡ Continue read → Consumes had now (take read put)
  goes_on (Err e) long read most moved before is = cc
  goes_on (Ok zero) long read most moved before is = cc
  goes_on (Ok (suc n)) long read most moved before is =
      lost_more (suc n) read (so_many (eqb (end + suc n) long) (end + suc n) read is) most.0 before moved.0

  pub ends :
      {E : Type 0} (got : Result ℕ E) (long : ℕ) (content : Option ℕ) → ReadsAtMost got buf
      → ReadConsumes has now got buf → Consumes had has (take end bytes) → length bytes ≡ long
      → length buf ≡ long - end → length put ≡ long → after_read end long got ≡ Break content → AllRead had content put
  ends (Err e) long content most moved before whole room same is =
      let none : None ≡ content = cc in subst (λ c. AllRead had c put) none (nothing_read had put)
  ends (Ok zero) long content most moved before whole room same is =
      let some : Some end ≡ content = cc in
      subst (λ c. AllRead had c put) some
      (all_read had now end put (omega arith) (lost_more 0 end (omega arith) (omega arith) before moved.0)
      λ more. moved.1 refl (omega arith))
  ends (Ok (suc n)) long content most moved before whole room same is =
      let all = all_so_many (eqb (end + suc n) long) (end + suc n) content is in
      let full = eqb-true (end + suc n) long all.0 in
      subst (λ c. AllRead had c put) all.1
      (all_read had now (end + suc n) put (omega arith) (lost_more (suc n) (end + suc n) refl most.0 before moved.0)
      λ more. absurd (omega arith))
