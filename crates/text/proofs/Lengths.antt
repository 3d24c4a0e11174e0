-- How long the lines are at most. Assumes nothing.
use mathlib.Core.Path.{◌≡◌, refl, ap, ap₂}
use mathlib.Core.Bool.{Bool, true, false, cond}
use mathlib.Core.List.{List, ◌++◌}
use Prim.Native.Nat.{ℕ, zero, suc, ◌*◌, ◌^◌, ◌≤◌, ◌<◌}
use native.Mathlib.Omega.{arith}
use lib.Dec.{eqb}
use lib.ListN.{length, get_or, take, length-append}
use lib.Seq.{length-take-le}
use Rattle.std.proofs.lemmas.List.{get_or-take}
use lib.Ieee.{Float, lt}
use Rattle.laws.specs.Zeros.{+0}
use Rattle.order.specs.declared.choice.Ordering.{Ordering}
use Rattle.order.specs.declared.choice.Ordering.TheVariants.{Identity, Paths, Greedy}
use Rattle.text.specs.Bounds.{printed_qubits, max_order_line, max_z_lines}
use Rattle.text.specs.Ascii.{ascii, decimal}
use Rattle.text.specs.Millionths.{million, millionths, in_range, signed, z_text}
use Rattle.text.specs.Lines.{line, pieces, field, name_of, order_line, z_line, z_lines}
use Rattle.text.proofs.Decimals.{long-most}
use Rattle.text.proofs.Values.{millionths-most}
use Rattle.text.proofs.Pieces.{pieces-long}

-- ---- Z

signed-long : (m : Bool) (k : ℕ) → k ≤ 2 * million → length (signed m k) ≤ 8
unfolding signed ascii
signed-long m k h = by (eqb k 0) m
  where
    by : (z m : Bool) → length (cond z (decimal k) (cond m (ascii "-" ++ decimal k) (decimal k))) ≤ 8
    by true m = omega (arith, long-most 6 k (omega arith))
    by false true = omega (arith, long-most 6 k (omega arith))
    by false false = omega (arith, long-most 6 k (omega arith))

z-long : (x : Float) → length (z_text x) ≤ 8
unfolding z_text ascii
z-long x = by (in_range x) refl
  where
    by : (b : Bool) → in_range x ≡ b → length (cond b (signed (lt x +0) (millionths x)) (ascii "out")) ≤ 8
    by true e = signed-long (lt x +0) (millionths x) (millionths-most x e)
    by false e = omega arith

z-line-long : (q : ℕ) (x : Float) → q < 10 → length (z_line q x) ≤ 12
unfolding z_line ascii
z-line-long q x h = simp length-append (omega (arith, long-most 0 q h, z-long x))

pub z-lines-long : (z : ℕ → Float) (n : ℕ) → n ≤ printed_qubits → length (z_lines z n) ≤ max_z_lines
z-lines-long z n h = omega (arith, pieces-long (λ q. z_line q (z q)) 12 n (λ q g. z-line-long q (z q) (omega arith)))

-- ---- the other lines

-- a count
pub short : (n : ℕ) → n < 2 ^ 32 → length (decimal n) ≤ 10
short n h = long-most 9 n (omega arith)

name-long : (o : Ordering) → length (name_of o) ≤ 8
unfolding name_of ascii
name-long Identity = omega arith
name-long Paths = omega arith
name-long Greedy = omega arith

pub order-long : (o : Ordering) (order : List ℕ) (n : ℕ)
    → n ≤ printed_qubits → ((k : ℕ) → get_or order k 0 < 10 ^ 5) → length (order_line o order n) ≤ max_order_line
unfolding order_line ascii
order-long o order n h few =
    simp length-append
    (omega (arith, name-long o, pieces-long (λ k. field " " (get_or order k 0)) 6 n (λ k g. omega (arith, long-most 4 (get_or order k 0) (few k)))))

-- a place
pub place_short : (n : ℕ) → n < 2 ^ 64 → length (decimal n) ≤ 20
place_short n h = long-most 19 n (omega arith)

-- ---- the order line tells the first n wires

module _ (f g : ℕ → List ℕ) where
  same_pieces : (n : ℕ) → ((k : ℕ) → k < n → f k ≡ g k) → pieces f n ≡ pieces g n
  unfolding pieces
  same_pieces zero h = refl
  same_pieces (suc n) h = ap₂ (λ a b. a ++ b) (same_pieces n (λ k l. h k (omega arith))) (h n (omega arith))

pub order-front : (o : Ordering) (order front : List ℕ) (n : ℕ) → front ≡ take n order → n ≤ length order
    → order_line o front (length front) ≡ order_line o order n
unfolding order_line
order-front o order front n e h =
    let long : length front ≡ n = rw e (length-take-le n order h) in
    rw long
    (ap (λ w. line (ascii "order " ++ name_of o ++ w))
    (same_pieces (λ k. field " " (get_or front k 0)) (λ k. field " " (get_or order k 0)) n
    (λ k l. ap (λ i. field " " i) (rw e (get_or-take n order k 0 l)))))
