-- The kind of the item that a record's mark tells. By cases. Assumes nothing.
use mathlib.Core.Path.{◌≡◌, refl}
use mathlib.Core.Bool.{Bool, true, false, cond}
use Prim.Native.Nat.{ℕ}
use native.Mathlib.Omega.{arith}
use Rattle.std.proofs.lemmas.Bool.Decides.{nat_tests}
use Rattle.std.specs.Prelude.{Some, None}
use Rattle.std.proofs.lemmas.Option.{none-some}
use Rattle.work.specs.Kinds.{kind_number, kind_of, is_item_of, item_kind_of}
use Rattle.work.specs.declared.kinds.Kind.{Kind}
use Rattle.work.proofs.KindLaws.{kind_back}

pub item_some : (v : ℕ) (k : Kind) → item_kind_of v ≡ Some k → (v ≡ kind_number k) × (is_item_of v ≡ true)
unfolding item_kind_of
item_some v k e = by (is_item_of v) refl e
  where
    by : (b : Bool) → is_item_of v ≡ b → cond b (kind_of v) None ≡ Some k → (v ≡ kind_number k) × (is_item_of v ≡ true)
    by true h q = (kind_back v k q, h)
    by false h q = absurd (none-some k q)

pub item_none : (v : ℕ) → item_kind_of v ≡ None → is_item_of v ≡ false
unfolding item_kind_of kind_of
item_none v e = grind (arith, nat_tests)
