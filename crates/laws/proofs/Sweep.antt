-- Laws of the loops that make a matrix anew where a mask says so: the start, what may still be read, a turn, the end. The law of a turn, for any key,
-- mask and new entries, is `sweep-more`; code has it in two forms: a store in a row (`sweep-store`), and a callee that makes a row (`sweep-row`).
-- Assumes nothing.
use mathlib.Core.Path.{◌≡◌, refl, sym, ◌∙◌}
use mathlib.Core.Logic.{◌⊎◌, inl, inr, ◌≢◌}
use mathlib.Core.Bool.{Bool, true, false}
use mathlib.Core.List.{List}
use Prim.Native.Nat.{ℕ, ◌+◌, ◌*◌, ◌≤◌, ◌<◌}
use native.Mathlib.Nat.{le_of_eq}
use lib.ListN.{length, set}
use lib.Ieee.{Float}
use borrow.Author.Tests.{eq-eqb, ne_eqb}
use Rattle.laws.specs.Matrix.{Mat, at, matrix, Is}
use Rattle.laws.specs.Steps.{Mask, masked, in_row}
use Rattle.laws.specs.Loops.{up_to, by_row, by_col}
use Rattle.std.proofs.lemmas.Bool.{cases_lt}
use Rattle.laws.proofs.Matrix.{matrix-is}
use Rattle.laws.proofs.Loops.{up_done, up_left, none_from, more, made}
use Rattle.laws.proofs.Columns.{entry_more}

-- ---- an entry of the mask, and one outside it

module _ (p : Mask) (new old : Mat) (r c : ℕ) where
  pub masked_on : p r c ≡ true → masked p new old r c ≡ new r c
  unfolding masked
  masked_on e = rw e

  pub masked_off : p r c ≡ false → masked p new old r c ≡ old r c
  unfolding masked
  masked_off e = rw e

-- ---- any key, mask and new entries

-- the entries of the mask whose key is below n are new, all others as they were
abbrev pub Swept : (ℕ → ℕ → ℕ) → Mask → Mat → ℕ → List Float → ℕ → List Float → Type 0
Swept key p new dim m₀ n m = Is dim m₀ (up_to key n (masked p new (at dim m₀)) (at dim m₀)) m

module _ (key : ℕ → ℕ → ℕ) (p : Mask) (new : Mat) (dim : ℕ) where
  -- the loop starts at n: no entry of the mask has a key below it
  pub sweep-start : (n : ℕ) (m : List Float) → ((r c : ℕ) → key r c < n → p r c ≡ false) → Swept key p new dim m n m
  sweep-start n m e = none_from key _ _ dim n m (λ r c h g. refl) (λ r c h g k. masked_off p new (at dim m) r c (e r c k))

  module _ (m₀ : List Float) (n : ℕ) (m : List Float) (w : Swept key p new dim m₀ n m) where
    -- an entry outside the mask is as it was, and so is one whose turn has not come
    pub sweep-out : (r c : ℕ) → r < dim → c < dim → p r c ≡ false → at dim m r c ≡ at dim m₀ r c
    sweep-out r c h g e = w.each r c h g ∙ by (cases_lt (key r c) n)
      where
        by : (key r c < n) ⊎ (n ≤ key r c) → up_to key n (masked p new (at dim m₀)) (at dim m₀) r c ≡ at dim m₀ r c
        by (inl k) = up_done key _ _ n r c k ∙ masked_off p new (at dim m₀) r c e
        by (inr k) = up_left key _ _ n r c k

    pub sweep-left : (r c : ℕ) → r < dim → c < dim → n ≤ key r c → at dim m r c ≡ at dim m₀ r c
    sweep-left r c h g k = w.each r c h g ∙ up_left key _ _ n r c k

    -- a turn, by a mask q of its own: in other turns' places q is empty, in this turn's it is p, and what it puts there is new
    pub sweep-more : (m' : List Float) (q : Mask) (v : Mat) → Is dim m (masked q v (at dim m)) m'
        → ((r c : ℕ) → r < dim → c < dim → key r c ≢ n → q r c ≡ false)
        → ((r c : ℕ) → r < dim → c < dim → key r c ≡ n → q r c ≡ p r c)
        → ((r c : ℕ) → r < dim → c < dim → key r c ≡ n → p r c ≡ true → v r c ≡ new r c)
        → Swept key p new dim m₀ (n + 1) m'
    sweep-more m' q v w' away here put =
        more key _ _ dim n m₀ m m' w w'.long w'.after
        (λ r c h g k. w'.each r c h g ∙ masked_off q v (at dim m) r c (away r c h g k))
        (λ r c h g k. w'.each r c h g ∙ own r c h g k (p r c) refl)
      where
        own : (r c : ℕ) → r < dim → c < dim → key r c ≡ n → (b : Bool) → p r c ≡ b → masked q v (at dim m) r c ≡ masked p new (at dim m₀) r c
        own r c h g k true e =
            masked_on q v (at dim m) r c (here r c h g k ∙ e) ∙ put r c h g k e ∙ sym (masked_on p new (at dim m₀) r c e)
        own r c h g k false e =
            masked_off q v (at dim m) r c (here r c h g k ∙ e) ∙ sweep-out r c h g e ∙ sym (masked_off p new (at dim m₀) r c e)

    -- the end
    pub sweep-done : ((r c : ℕ) → r < dim → c < dim → key r c < n) → m ≡ matrix dim (masked p new (at dim m₀)) m₀
    sweep-done k = made key _ _ dim n m₀ m k w

-- ---- a loop over the columns of row i, one store a turn

pub sweep-store : (p : Mask) (new : Mat) (dim i n : ℕ) (m₀ m m' : List Float) (x : Float) → i < dim → n < dim → dim * dim ≤ length m₀
    → p i n ≡ true → x ≡ new i n → Swept by_col (in_row i p) new dim m₀ n m → m' ≡ set m (i * dim + n) x → Swept by_col (in_row i p) new dim m₀ (n + 1) m'
sweep-store p new dim i n m₀ m m' x hi hn room on v w e =
    entry_more _ _ dim i n m₀ m m' x hi hn room
    (λ r h ne. masked_off (in_row i p) new (at dim m₀) r n (rw (ne_eqb r i ne)))
    (v ∙ sym (masked_on (in_row i p) new (at dim m₀) i n (rw (eq-eqb i i refl) on)))
    w e

-- ---- a loop over the rows, whose turn n makes the mask's part in row n

-- at an entry of the mask, new reads no other entry of the mask
abbrev pub Reads : ℕ → Mask → (Mat → Mat) → Type 0
Reads dim p new = (f g : Mat) → ((r c : ℕ) → r < dim → c < dim → p r c ≡ false → f r c ≡ g r c) → (r c : ℕ) → r < dim → c < dim → p r c ≡ true → f r c ≡ g r c → new f r c ≡ new g r c

pub sweep-row : (p : Mask) (new : Mat → Mat) (dim n : ℕ) (m₀ m m' : List Float) → Reads dim p new → dim * dim ≤ length m₀
    → Swept by_row p (new (at dim m₀)) dim m₀ n m → m' ≡ matrix dim (masked (in_row n p) (new (at dim m)) (at dim m)) m
    → Swept by_row p (new (at dim m₀)) dim m₀ (n + 1) m'
sweep-row p new dim n m₀ m m' reads room w e =
    sweep-more by_row p (new (at dim m₀)) dim m₀ n m w m' (in_row n p) (new (at dim m)) (matrix-is dim m _ m' (rw w.long room) e)
    (λ r c h g k. rw (ne_eqb r n k))
    (λ r c h g k. rw (eq-eqb r n k))
    (λ r c h g k y. reads (at dim m) (at dim m₀) (sweep-out by_row p _ dim m₀ n m w) r c h g y (sweep-left by_row p _ dim m₀ n m w r c h g (le_of_eq (sym k))))
