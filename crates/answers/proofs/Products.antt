-- Products of parities by the engine's own determinants and its own Pfaffian (specs/Products.antt says what is proved). Assumes nothing.
use mathlib.Core.Path.{◌≡◌, refl, sym, ap, subst, ◌∙◌}
use mathlib.Core.Bool.{Bool, true, false}
use mathlib.Core.List.{List, [], ◌∷◌, map}
use Prim.Native.Nat.{ℕ, zero, suc, ◌+◌, ◌*◌, ◌/◌, ◌%◌, ◌≤◌, ◌<◌}
use native.Mathlib.Omega.{arith}
use lib.Dec.{eqb}
use lib.ListN.{get_or, length}
use borrow.Author.Tests.{eqb-true, eqb-false}
use Rattle.rings.specs.Rings.{Ops}
use Rattle.formulas.specs.Numbers.{Exact, Tests, Divides}
use Rattle.formulas.specs.Engine.{Mat, State, Item, vacuum, get}
use Rattle.formulas.specs.Determinants.{odd, own_odd}
use Rattle.angles.specs.Qubits.{Operators, gamma}
use Rattle.angles.specs.Angles.{Block, Right, after, state_after}
use Rattle.formulas.specs.Pfaffians.{pfaffian, AllBelow, own_pfaffian, up, Alternating}
use Rattle.angles.specs.Wick.{indices}
use Rattle.queries.specs.Products.{index_of}
use Rattle.answers.specs.Products.{restricted, product_of, OwnProducts, ProductTheorem}
use Rattle.rings.proofs.Rings.{neg-zero, mul-neg}
use Rattle.angles.proofs.Majoranas.{gamma-anti}
use Rattle.angles.proofs.Steps.{Linear, lin-neg}
use Rattle.angles.proofs.Vacuum.{vac-linear}
use Rattle.angles.proofs.Runs.{every-angle, pulled-all}
use Rattle.angles.proofs.Products.{z-products}
use Rattle.angles.proofs.OwnOdd.{own-run}
use Rattle.angles.proofs.Swaps.{P, named, textbook}
use Rattle.angles.proofs.OwnPfaffian.{double, own-pfaffian}

-- ---- the indices of a list of modes

pub twice : (p : ℕ) → 2 * p ≡ double p
twice zero = refl
twice (suc p) = omega (arith, twice p)

pub twice-length : (ks : List ℕ) → 2 * length ks ≡ double (length ks)
twice-length ks = twice (length ks)

pub size-length : (ks : List ℕ) → length (indices ks) ≡ double (length ks)
size-length [] = refl
size-length (k ∷ ks) = ap (λ s. suc (suc s)) (size-length ks)

shifted : (f : ℕ → ℕ) (s n : ℕ) → map f (up (suc (suc s)) n) ≡ map (λ r. f (suc (suc r))) (up s n)
shifted f s zero = refl
shifted f s (suc n) = ap (λ w. f (suc (suc s)) ∷ w) (shifted f (suc s) n)

next : (k : ℕ) (ks : List ℕ) (r : ℕ) → index_of (k ∷ ks) (suc (suc r)) ≡ index_of ks r
next k ks r = λ i. 2 * get_or (k ∷ ks) (halves i) 0 + rests i
  where
    halves : suc (suc r) / 2 ≡ suc (r / 2)
    halves = omega arith

    rests : suc (suc r) % 2 ≡ r % 2
    rests = omega arith

pub indices-are : (ks : List ℕ) → map (index_of ks) (up 0 (double (length ks))) ≡ indices ks
indices-are [] = refl
indices-are (k ∷ ks) =
    λ i. first i ∷ (2 * k + 1) ∷
    (shifted (index_of (k ∷ ks)) 0 (double (length ks)) ∙ (λ j. map (λ r. next k ks r j) (up 0 (double (length ks)))) ∙ indices-are ks) i
  where
    first : 2 * k + 0 ≡ 2 * k
    first = omega arith

index-below : (n : ℕ) (ks : List ℕ) → AllBelow n ks → (r : ℕ) → r < double (length ks) → index_of ks r < 2 * n
index-below n [] h r l = absurd (omega (arith, l))
index-below n (k ∷ ks) h zero l = omega (arith, h.0)
index-below n (k ∷ ks) h (suc zero) l = omega (arith, h.0)
index-below n (k ∷ ks) h (suc (suc r)) l = subst (λ i. i < 2 * n) (sym (next k ks r)) (index-below n ks h.1 r (omega (arith, l)))

-- of a matrix that alternates, the rows and columns of some modes
pub restricted-alternates : {𝓝 : Ops} (n : ℕ) (e : Mat 𝓝) → Alternating 𝓝 (2 * n) e → (ks : List ℕ) → AllBelow n ks
    → Alternating 𝓝 (double (length ks)) (restricted e ks)
restricted-alternates n e 𝓜 ks h = record {
  turns = λ r c hr hc. 𝓜.turns (index_of ks r) (index_of ks c) (index-below n ks h r hr) (index-below n ks h c hc);
  nought-at = λ r hr. 𝓜.nought-at (index_of ks r) (index-below n ks h r hr);
}

module _ {𝓝 : Ops} {below : 𝓝.N → Bool} (𝓔 : Exact 𝓝 below) {n : ℕ} {𝓐 : Ops} (𝓠 : Operators 𝓝 𝓔.i n 𝓐) where
  -- the covariance alternates
  pub right-alternates : (gs : List (Item (Block 𝓠))) (t : State 𝓝) → Right 𝓠 gs t → Alternating 𝓝 (2 * n) (get 𝓝 t)
  right-alternates gs t 𝓡 = record { turns = λ r c hr hc. by r c hr hc (eqb r c) refl; nought-at = 𝓡.diagonal }
    where
      linear : Linear 𝓔 𝓠 (after 𝓠 gs)
      linear = pulled-all 𝓔 𝓠 gs 𝓠.vac (vac-linear 𝓔 𝓠)

      by : (r c : ℕ) → r < 2 * n → c < 2 * n → (b : Bool) → eqb r c ≡ b → get 𝓝 t r c ≡ 𝓝.neg (get 𝓝 t c r)
      by r c hr hc true e =
          subst (λ x. get 𝓝 t r x ≡ 𝓝.neg (get 𝓝 t x r)) (eqb-true r c e)
          (𝓡.diagonal r hr ∙ sym (neg-zero 𝓔.laws.ring) ∙ ap 𝓝.neg (sym (𝓡.diagonal r hr)))
      by r c hr hc false e =
          𝓡.covariance r c hr hc (eqb-false r c e)
          ∙ ap (after 𝓠 gs)
          (ap (𝓐.mul (𝓠.num (𝓝.neg 𝓔.i))) (gamma-anti 𝓔 𝓠 r c hr hc (eqb-false r c e)) ∙ mul-neg 𝓠.ring (𝓠.num (𝓝.neg 𝓔.i)) (𝓐.mul (gamma 𝓠 c) (gamma 𝓠 r)))
          ∙ lin-neg 𝓔 𝓠 (after 𝓠 gs) linear (𝓐.mul (𝓠.num (𝓝.neg 𝓔.i)) (𝓐.mul (gamma 𝓠 c) (gamma 𝓠 r)))
          ∙ ap 𝓝.neg (sym (𝓡.covariance c r hc hr (λ z. eqb-false r c e (sym z))))

module _ {𝓝 : Ops} {𝓣 : Tests 𝓝} (𝓥 : Divides 𝓝 𝓣) {below : 𝓝.N → Bool} (𝓔 : Exact 𝓝 below) {n : ℕ} {𝓐 : Ops} (𝓠 : Operators 𝓝 𝓔.i n 𝓐) where
  -- of any covariance that alternates: the engine's product is the Pfaffian of its rows and columns, by its first row
  product-is : (e : Mat 𝓝) → Alternating 𝓝 (2 * n) e → (ks : List ℕ) → AllBelow n ks
      → product_of 𝓝 𝓣 e ks ≡ pfaffian 𝓝 e (length (indices ks)) (indices ks)
  unfolding product_of
  product-is e 𝓜 ks h =
      ap (λ d. own_pfaffian 𝓝 𝓣 d m) (twice-length ks)
      ∙ own-pfaffian 𝓔.laws 𝓥 (length ks) (length (indices ks)) m (restricted-alternates n e 𝓜 ks h) enough
      ∙ textbook 𝓔.laws m (length (indices ks)) (up 0 (double (length ks)))
      ∙ named 𝓔.laws (index_of ks) e (suc (length (indices ks))) (up 0 (double (length ks)))
      ∙ ap (λ l. P 𝓝 e (suc (length (indices ks))) l) (indices-are ks)
      ∙ sym (textbook 𝓔.laws e (length (indices ks)) (indices ks))
    where
      m : Mat 𝓝
      m r c = e (index_of ks r) (index_of ks c)

      enough : length ks ≤ length (indices ks)
      enough = omega (arith, size-length ks, twice-length ks)

  pub own-products : OwnProducts 𝓣 𝓔 𝓠 (own_odd 𝓝 𝓣 below)
  own-products gs ks h d =
      ap (λ t. product_of 𝓝 𝓣 (get 𝓝 t) ks) (sym (own-run 𝓥 𝓔 𝓠 gs (vacuum 𝓝)))
      ∙ product-is (get 𝓝 t) (right-alternates 𝓔 𝓠 gs t (every-angle 𝓔 𝓠 gs)) ks h
      ∙ z-products 𝓔 𝓠 gs ks h d
    where
      t : State 𝓝
      t = state_after 𝓔 𝓠 (odd 𝓝 below) gs

pub product-theorem : ProductTheorem
product-theorem 𝓝 𝓣 𝓥 below 𝓔 n 𝓐 𝓠 = own-products 𝓥 𝓔 𝓠
