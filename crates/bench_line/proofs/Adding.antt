-- Adding bytes to a text piece by piece adds them as a whole, and the text keeps room for the pieces that are left.
-- Assumes nothing.
use Prim.Native.Nat.{ℕ, ◌+◌, ◌≤◌}
use mathlib.Core.List.{List, [], ◌++◌, append-nil, append_assoc}
use mathlib.Core.Path.{◌≡◌, sym, ap, subst, ◌∙◌}
use native.Mathlib.Omega.{arith}
use lib.ListN.{length, take, length-append}
use Rattle.bench_line.specs.declared.Text.{Text}
use Rattle.bench_line.specs.Texts.{said, Fits, Adds, Says}

pub adds_nothing : (t : Text) {more : ℕ} → Fits t more → Adds t [] t
adds_nothing t f = record { whole = f.whole; longer = omega arith; says = sym (append-nil (said t)) }

-- The added bytes, written in another way.
pub adds_so : {t u : Text} {l m : List ℕ} → m ≡ l → Adds t l u → Adds t m u
adds_so {t} {u} e a = subst (λ bytes. Adds t bytes u) (sym e) a

pub adds_both : {t u v : Text} {l m : List ℕ} → Adds t l u → Adds u m v → Adds t (l ++ m) v
adds_both {t} {u} {v} {l} {m} a b =
    record {
      whole = b.whole;
      longer = omega (arith, a.longer, b.longer, length-append l m);
      says = b.says ∙ ap (λ front. front ++ m) a.says ∙ append_assoc (said t) l m;
    }

pub fits_less : {t : Text} {more less : ℕ} → Fits t more → less ≤ more → Fits t less
fits_less f h = record { whole = f.whole; enough = omega (arith, f.enough) }

-- After the first bytes there is room for the rest.
pub fits_the_rest :
    {t u : Text} {l : List ℕ} {more rest : ℕ} → Fits t more → Adds t l u → length l + rest ≤ more → Fits u rest
fits_the_rest f a h = record { whole = a.whole; enough = omega (arith, f.enough, a.longer) }

-- What is added to the empty text is all that the result says.
pub says_all : {t u : Text} {l : List ℕ} → Fits t 52 → Adds t l u → u.end ≤ 52 → Says l u
says_all {t} {u} {l} f a h =
    let none : t.end ≡ 0 = omega (arith, f.enough) in
    record {
      within = omega (arith, a.whole);
      says = a.says ∙ ap (λ end. take end t.bytes ++ l) none;
    }
