-- A text of pieces: one piece more, room for it, and the length. Assumes nothing.
use mathlib.Core.Path.{◌≡◌, sym, ap, ap₂, ◌∙◌}
use mathlib.Core.Logic.{⊎_elim}
use mathlib.Core.List.{List, ◌++◌, append_assoc, append-nil}
use Prim.Native.Nat.{ℕ, zero, suc, ◌+◌, ◌*◌, ◌≤◌, ◌<◌}
use native.Mathlib.Nat.{eq-or-lt_of_le, le_of_suc-le-suc, not-suc-le-zero}
use native.Mathlib.Numerals.{add-one}
use native.Mathlib.Omega.{arith}
use lib.ListN.{length, length-append}
use Rattle.text.specs.Lines.{pieces}
use Rattle.text.specs.Room.{Room}

-- what stands behind a text, and what stands behind that
pub behind : (t u v a b : List ℕ) → u ≡ t ++ a → v ≡ u ++ b → v ≡ t ++ (a ++ b)
behind t u v a b p q = q ∙ ap (λ x. x ++ b) p ∙ append_assoc t a b

-- the same where the text was empty
pub next : (u v a b c : List ℕ) → u ≡ a → v ≡ u ++ b → b ≡ c → v ≡ a ++ c
next u v a b c p q e = q ∙ ap₂ (λ x y. x ++ y) p e

module _ (f : ℕ → List ℕ) where
  pub pieces_more : (n : ℕ) → pieces f (n + 1) ≡ pieces f n ++ f n
  unfolding pieces
  pieces_more n = rw (add-one n)

  -- those up to k are no longer than all
  pub pieces-within : (k n : ℕ) → k < n → length (pieces f k ++ f k) ≤ length (pieces f n)
  unfolding pieces
  pieces-within k zero h = absurd (not-suc-le-zero h)
  pieces-within k (suc n) h =
      ⊎_elim
      (λ e. rw e (omega arith))
      (λ g. omega (arith, pieces-within k n g, length-append (pieces f n) (f n)))
      (eq-or-lt_of_le (le_of_suc-le-suc h))

  -- none is longer than b
  pub pieces-long : (b n : ℕ) → ((k : ℕ) → k < n → length (f k) ≤ b) → length (pieces f n) ≤ n * b
  unfolding pieces
  pieces-long b zero h = omega arith
  pieces-long b (suc n) h = omega (arith, pieces-long b n (λ k g. h k (omega arith)), h n (omega arith), length-append (pieces f n) (f n))

  -- ---- the first k stand behind a text t

  module _ (t u : List ℕ) (k : ℕ) (e : u ≡ t ++ pieces f k) where
    -- there is room for one more
    pub piece_room : (n : ℕ) → k < n → Room t (pieces f n) → Room u (f k)
    piece_room n h room =
        omega (arith, pieces-within k n h, length-append (pieces f k) (f k), ap length e, length-append t (pieces f k), room)

    pub piece_more : (v : List ℕ) → v ≡ u ++ f k → v ≡ t ++ pieces f (k + 1)
    piece_more v g = rw (pieces_more k) (behind t u v (pieces f k) (f k) e g)

  pub no_pieces : (t : List ℕ) → t ≡ t ++ pieces f 0
  unfolding pieces
  no_pieces t = sym (append-nil t)
