-- A table of n places as a list: alike tables, one place changed, two places exchanged. By the elements. Assumes nothing.
use mathlib.Core.Path.{◌≡◌}
use mathlib.Core.Logic.{◌≢◌}
use Prim.Native.Nat.{ℕ, ◌<◌}
use native.Mathlib.Omega.{arith}
use lib.ListN.{set, length-set}
use lib.Seq.{get_or-set_same, get_or-set_other, ext_get_or}
use Rattle.laws.specs.Slices.{traded}
use Rattle.laws.specs.Views.{list_of}
use Rattle.laws.proofs.Tables.{length-traded, get_or-traded, exchange-first, exchange-second, exchange-away}
use Rattle.laws.proofs.Views.{length-list_of, get_or-list_of, up_same}

module _ {A : Type 0} (d : A) (n : ℕ) (f h : ℕ → A) where
  pub listed_same : ((x : ℕ) → x < n → h x ≡ f x) → list_of n h ≡ list_of n f
  listed_same e = up_same f h 0 n (λ x a b. e x (omega arith))

  pub listed-set : (w : ℕ) (v : A) → w < n → h w ≡ v → ((x : ℕ) → x ≢ w → x < n → h x ≡ f x) → list_of n h ≡ set (list_of n f) w v
  listed-set w v l e away =
      ext_get_or d (list_of n h) (set (list_of n f) w v) (simp (length-list_of, length-set))
      (λ x b. grind (arith, length-list_of, length-set, get_or-list_of, get_or-set_same, get_or-set_other, away))

  pub listed-traded : (a b : ℕ) → a < n → b < n → h a ≡ f b → h b ≡ f a → ((x : ℕ) → x ≢ a → x ≢ b → x < n → h x ≡ f x)
      → list_of n h ≡ traded d a b (list_of n f)
  listed-traded a b la lb ha hb away =
      ext_get_or d (list_of n h) (traded d a b (list_of n f)) (simp (length-list_of, length-traded))
      (λ x b. grind (arith, length-list_of, length-traded, get_or-list_of, get_or-traded, exchange-first, exchange-second, exchange-away, away))
