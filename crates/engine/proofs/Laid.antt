-- Entries laid into a slice one after the other: their copy at once, and the length. Assumes nothing.
use mathlib.Core.Path.{◌≡◌, sym, ap, ◌∙◌}
use mathlib.Core.List.{List}
use Prim.Native.Nat.{ℕ, zero, suc, ◌+◌, ◌≤◌}
use native.Mathlib.Omega.{arith}
use lib.ListN.{length, get_or, set}
use lib.Seq.{paste, paste-zero, paste-suc}
use Rattle.std.proofs.lemmas.Slice.{put_mid-paste}
use Rattle.laws.specs.Slices.{stores}
use Rattle.laws.proofs.Stores.{length-stores}
use Rattle.engine.specs.Reports.{laid}

module _ (a : ℕ) (x l m : List ℕ) where
  pub laid-long : (k : ℕ) → m ≡ laid k a x l → length m ≡ length l
  laid-long k e = ap length e ∙ length-stores (λ i. a + i) (λ i. get_or x i 0) l k

-- the copy of the first k entries
pub laid_pasted : (a : ℕ) (x l : List ℕ) (k : ℕ) → a + k ≤ length l → k ≤ length x → paste l a x k ≡ laid k a x l
unfolding stores
laid_pasted a x l zero room long = sym (paste-zero l a x)
laid_pasted a x l (suc k) room long =
    sym (paste-suc l a x k 0 (omega (arith, room)) (omega (arith, long)))
    ∙ ap (λ m. set m (a + k) (get_or x k 0)) (laid_pasted a x l k (omega (arith, room)) (omega (arith, long)))

-- a copy at once, as a list that a tactic takes
pub ruleset copies = (put_mid-paste, laid_pasted)
