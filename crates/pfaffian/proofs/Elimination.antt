-- Row k divided by the pivot, and then the rows from k + 2 on made by the rows k and k + 1: there each entry is what the plain elimination gives,
-- which divides anew for every entry. And the places of the three rows that make a row anew. Assumes nothing.
use mathlib.Core.Path.{◌≡◌, refl, ◌∙◌}
use mathlib.Core.List.{List}
use Prim.Native.Nat.{ℕ, suc, ◌+◌, ◌-◌, ◌*◌, ◌≤◌, ◌<◌}
use native.Mathlib.Nat.{suc-mul, add-mul, mul-le-mul_right}
use native.Mathlib.Numerals.{add-one}
use native.Mathlib.Omega.{arith}
use lib.ListN.{length}
use lib.Ieee.{Float, binary64, div}
use borrow.Author.Tests.{eq-eqb, ne_eqb, le-leb}
use Rattle.laws.specs.Matrix.{at, Is}
use Rattle.laws.specs.Steps.{masked, in_row, cols_from, corner_from, by_pair}
use Rattle.laws.proofs.Matrix.{matrix-is}
use Rattle.laws.proofs.Sweep.{masked_on, masked_off}
use Rattle.laws.proofs.Eliminations.{corner-on}
use Rattle.pfaffian.specs.Pfaffian.{less}
use Rattle.pfaffian.specs.Turns.{scaled, swept, less_by, Corner}

pub eliminated : (dim k : ℕ) (m m₁ m₂ : List Float) (akk : Float) → k + 2 ≤ dim → dim * dim ≤ length m → akk ≡ at dim m k (k + 1)
    → m₁ ≡ scaled dim k akk m → m₂ ≡ swept dim k m₁ → Corner dim (k + 2) m (less k (at dim m)) m₂
eliminated dim k m m₁ m₂ akk hk room ea e₁ e₂ = record {
  long = w₂.long ∙ w₁.long;
  each = each;
  after = λ i h. w₂.after i h ∙ w₁.after i h;
}
  where
    w₁ : Is dim m (masked (in_row k (cols_from (k + 2))) (λ r c. div binary64 (at dim m r c) akk) (at dim m)) m₁
    w₁ = matrix-is dim m _ m₁ room e₁

    w₂ : Is dim m₁ (masked (corner_from (k + 2)) (by_pair k less_by (at dim m₁)) (at dim m₁)) m₂
    w₂ = matrix-is dim m₁ _ m₂ (rw w₁.long room) e₂

    one : k + 1 ≡ suc k
    one = omega arith

    -- row k is divided, the later ones are not
    divided : (c : ℕ) → k + 2 ≤ c → c < dim → at dim m₁ k c ≡ div binary64 (at dim m k c) akk
    divided c h g = w₁.each k c (omega arith) g ∙ masked_on _ _ _ k c (rw (eq-eqb k k refl, le-leb (k + 2) c h))

    whole : (r c : ℕ) → k < r → r < dim → c < dim → at dim m₁ r c ≡ at dim m r c
    whole r c h b g = w₁.each r c b g ∙ masked_off _ _ _ r c (rw (ne_eqb r k (λ e. omega arith)))

    each : (r c : ℕ) → k + 2 ≤ r → r < dim → k + 2 ≤ c → c < dim → at dim m₂ r c ≡ less k (at dim m) r c
    each r c hr br hc bc =
        w₂.each r c br bc
        ∙ masked_on _ _ _ r c (corner-on (k + 2) r c hr hc)
        ∙ (λ t. less_by (whole r c (omega arith) br bc t) (divided r hr br t) (divided c hc bc t) (whole (k + 1) r (omega arith) (omega arith) br t)
        (whole (k + 1) c (omega arith) (omega arith) bc t))
        ∙ rw (ea, one)

-- ---- a walk along row k: place x is in column x - k dim, and the rows k + 1 and i are known by their distances

pub record Walk (dim k i x : ℕ) : Type 0 where
  pub first : x ≡ k * dim + (x - k * dim)
  pub second : x + dim ≡ (k + 1) * dim + (x - k * dim)
  pub own : x + (i * dim - k * dim) ≡ i * dim + (x - k * dim)
  pub low : k + 2 ≤ x - k * dim
  pub below : x - k * dim < dim
  pub room : (x + dim < dim * dim) × (x + (i * dim - k * dim) < dim * dim)

-- the rows of the pair and row i are in the matrix
pub rows_in : (dim k i : ℕ) → k + 2 ≤ i → i < dim → ((k + 1) * dim ≡ k * dim + dim) × (k * dim ≤ i * dim) × (i * dim + dim ≤ dim * dim)
rows_in dim k i l h =
    let e : (k + 1) * dim ≡ k * dim + dim = rw (add-one k) (suc-mul k dim) in
    let m : suc i * dim ≤ dim * dim = mul-le-mul_right dim h in
    (e, mul-le-mul_right dim (omega arith), omega (arith, m, suc-mul i dim))

pub walk : (dim k i x : ℕ) → k + 2 ≤ i → i < dim → k * dim + (k + 2) ≤ x → x < k * dim + dim → Walk dim k i x
walk dim k i x l h lx hx =
    let w = rows_in dim k i l h in record {
      first = omega arith;
      second = omega (arith, w.0);
      own = omega (arith, w.1);
      low = omega arith;
      below = omega arith;
      room = (omega (arith, w, mul-le-mul_right dim l, add-mul k 2 dim), omega (arith, w));
    }
