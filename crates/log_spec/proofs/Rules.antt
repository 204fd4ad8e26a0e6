-- What refuses a log that is out of rule.
-- Assumes nothing.
use Prim.Native.Nat.{ℕ}
use mathlib.Core.Bool.{false}
use mathlib.Core.List.{List}
use mathlib.Core.Path.{◌≡◌}
use Rattle.std.specs.Prelude.{Err}
use Rattle.number_spec.specs.declared.Refusal.TheVariants.{LogLength}
use Rattle.log_spec.specs.Refusing.{in_rule, refusing}

-- A log that is out of rule is refused with 7, whatever its actions are.
pub out_of_rule_is_seven :
    (lifelines messages : ℕ) (log : List ℕ) → in_rule log ≡ false → refusing lifelines messages log ≡ Err LogLength
out_of_rule_is_seven lifelines messages log e = rw e
