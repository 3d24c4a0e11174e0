-- Wires of different modes: what items do to the bits of the wires they do to the bits of their modes. Assumes nothing.
use mathlib.Core.Path.{◌≡◌, sym, ap, ◌∙◌}
use mathlib.Core.Logic.{◌⊎◌, inl, inr, ◌≢◌}
use mathlib.Core.Bool.{Bool, cond}
use mathlib.Core.List.{List, [], ◌∷◌}
use Prim.Native.Nat.{ℕ, ◌<◌}
use lib.Dec.{eqb}
use borrow.Author.Tests.{eq-eqb, ne_eqb}
use Rattle.laws.specs.Lists.{All}
use Rattle.std.proofs.lemmas.Bool.{cases_eq}
use Rattle.resolve.specs.Items.{Item, one, two, opaque, ItemBelow}
use Rattle.register.specs.Bits.{turned_of, first_of, second_of, item_bits, items_run}
use Rattle.claim.specs.Modes.{mode_bits, modes_run}

-- the modes of the wires below n are below n and different
pub record Apart (n : ℕ) (pos : ℕ → ℕ) : Type 0 where
  pub below : (w : ℕ) → w < n → pos w < n
  pub apart : (v w : ℕ) → v < n → w < n → pos v ≡ pos w → v ≡ w

module _ (n : ℕ) (pos : ℕ → ℕ) (p : Apart n pos) where
  same-mode : (v w : ℕ) → v < n → w < n → eqb (pos w) (pos v) ≡ eqb w v
  same-mode v w lv lw = by (cases_eq w v)
    where
      by : (w ≡ v) ⊎ (w ≢ v) → eqb (pos w) (pos v) ≡ eqb w v
      by (inl e) = eq-eqb (pos w) (pos v) (ap pos e) ∙ sym (eq-eqb w v e)
      by (inr e) = ne_eqb (pos w) (pos v) (λ q. e (p.apart w v lw lv q)) ∙ sym (ne_eqb w v e)

  -- the bits c by wire, b by mode
  abbrev Agree : (ℕ → Bool) → (ℕ → Bool) → Type 0
  Agree c b = (w : ℕ) → w < n → b (pos w) ≡ c w

  item-agrees : (x : Item) (c b : ℕ → Bool) → ItemBelow n x → Agree c b → Agree (item_bits x c) (mode_bits pos x b)
  item-agrees (one v m) c b l h w lw = λ i. cond (same-mode v w l lw i) (turned_of m (h v l i)) (h w lw i)
  item-agrees (two kind v v' r u) c b l h w lw = λ i.
      cond (same-mode v w l.0 lw i) (first_of u (h v l.0 i) (h v' l.1 i))
      (cond (same-mode v' w l.1 lw i) (second_of u (h v l.0 i) (h v' l.1 i)) (h w lw i))
  item-agrees opaque c b l h w lw = h w lw

  pub items-agree : (xs : List Item) (c b : ℕ → Bool) → All (ItemBelow n) xs → Agree c b → Agree (items_run xs c) (modes_run pos xs b)
  unfolding items_run modes_run
  items-agree [] c b l h = h
  items-agree (x ∷ xs) c b l h = item-agrees x (items_run xs c) (modes_run pos xs b) l.0 (items-agree xs c b l.1 h)
