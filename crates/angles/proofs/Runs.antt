-- THE ANGLE THEOREM: every list of blocks (specs/Angles.antt says what it says). Assumes nothing.
use mathlib.Core.Path.{◌≡◌, refl, sym, ap, ◌∙◌}
use mathlib.Core.Logic.{◌≢◌}
use mathlib.Core.Bool.{Bool, false, cond, ◌&&◌}
use mathlib.Core.List.{List, [], ◌∷◌, map}
use Prim.Native.Nat.{ℕ, ◌+◌, ◌*◌, ◌-◌, ◌≤◌, ◌<◌}
use native.Mathlib.Omega.{arith}
use Rattle.laws.specs.Lists.{in_order}
use Rattle.rings.specs.Rings.{Ops, IsRing, sg}
use Rattle.formulas.specs.Numbers.{Exact}
use Rattle.formulas.specs.Engine.{Mat, Local, State, inside, later, rows, cols, step, run, vacuum, get, Item, applied, interaction, each}
use Rattle.angles.specs.Postponed.{plain}
use Rattle.formulas.specs.Determinants.{odd}
use Rattle.angles.specs.Qubits.{Operators, gamma}
use Rattle.angles.specs.Angles.{Block, operation, acts, pulled, EveryAngle, AngleTheorem}
use Rattle.angles.proofs.Postponed.{dot-same, Signed, turned, step-signed, step-entry}
use Rattle.angles.proofs.Majoranas.{z-is}
use Rattle.angles.proofs.Steps.{Linear, cov, pulled-linear, block-step}
use Rattle.angles.proofs.Vacuum.{vac-linear, vacuum-entry, cov-apart, cov-self}

-- ---- a map reads only the rows and columns that there are

module _ (𝓝 : Ops) (𝓛 : IsRing 𝓝) (o : Local 𝓝) (dim : ℕ) (band : o.start + o.width ≤ dim) (f g : Mat 𝓝)
    (e : (r c : ℕ) → r < dim → c < dim → f r c ≡ g r c) where
  rows-same : (r c : ℕ) → r < dim → c < dim → rows 𝓝 o f r c ≡ rows 𝓝 o g r c
  rows-same r c h l =
      λ i. cond (inside o r) (dot-same 𝓝 𝓛 (o.map (r - o.start)) (λ j. f (o.start + j) c) (λ j. g (o.start + j) c) o.width
      (λ j m. e (o.start + j) c (omega arith) l) i) (e r c h l i)

  cols-same : (r c : ℕ) → r < dim → c < dim → cols 𝓝 o f r c ≡ cols 𝓝 o g r c
  cols-same r c h l =
      λ i. cond (inside o c) (dot-same 𝓝 𝓛 (o.map (c - o.start)) (λ j. f r (o.start + j)) (λ j. g r (o.start + j)) o.width
      (λ j m. e r (o.start + j) h (omega arith)) i) (e r c h l i)

module _ (𝓝 : Ops) (𝓛 : IsRing 𝓝) (o : Local 𝓝) (dim : ℕ) (band : o.start + o.width ≤ dim) (f g : Mat 𝓝)
    (e : (r c : ℕ) → r < dim → c < dim → f r c ≡ g r c) where
  plain-same : (asked : Local 𝓝 → Bool) (r c : ℕ) → r < dim → c < dim → plain 𝓝 asked o f r c ≡ plain 𝓝 asked o g r c
  plain-same asked r c h l =
      λ i. sg 𝓝 (asked o && later o r) (sg 𝓝 (asked o && later o c)
      (cols-same 𝓝 𝓛 o dim band (rows 𝓝 o f) (rows 𝓝 o g) (rows-same 𝓝 𝓛 o dim band f g e) r c h l i))

module _ {𝓝 : Ops} {below : 𝓝.N → Bool} (𝓔 : Exact 𝓝 below) {n : ℕ} {𝓐 : Ops} (𝓠 : Operators 𝓝 𝓔.i n 𝓐) where
  -- the state t is that of the functional f
  record Holds (f : 𝓐.N → 𝓝.N) (t : State 𝓝) : Type 0 where
    D : ℕ → Bool
    signed : Signed 𝓝 𝓔.laws.ring below 𝓔.not-below 𝓔.is-below t D
    entries : (r c : ℕ) → r < 2 * n → c < 2 * n → get 𝓝 t r c ≡ cov 𝓔 𝓠 f r c

  abbrev op : Block 𝓠 → Local 𝓝
  op = operation 𝓠

  holds-step : (g : Block 𝓠) (f : 𝓐.N → 𝓝.N) → Linear 𝓔 𝓠 f → (t : State 𝓝) → Holds f t
      → Holds (λ a. f (acts 𝓠 g a)) (step 𝓝 below (odd 𝓝 below) (op g) t)
  holds-step g f l t h = record {
    D = turned 𝓝 𝓔.laws.ring below 𝓔.not-below 𝓔.is-below (odd 𝓝 below) (op g) t h.D h.signed;
    signed = step-signed 𝓝 𝓔.laws.ring below 𝓔.not-below 𝓔.is-below (odd 𝓝 below) (op g) t h.D h.signed;
    entries = λ r c hr hc.
        step-entry 𝓝 𝓔.laws.ring below 𝓔.not-below 𝓔.is-below (odd 𝓝 below) (op g) t h.D h.signed r c
        ∙ plain-same 𝓝 𝓔.laws.ring (op g) (2 * n) (omega (arith, g.fits)) (get 𝓝 t) (cov 𝓔 𝓠 f) h.entries (odd 𝓝 below) r c hr hc
        ∙ sym (block-step 𝓔 𝓠 g f l r c hr hc);
  }

  holds-run : (gs : List (Item (Block 𝓠))) (f : 𝓐.N → 𝓝.N) → Linear 𝓔 𝓠 f → (t : State 𝓝) → Holds f t
      → Holds (λ a. f (pulled 𝓠 gs a)) (run 𝓝 below (odd 𝓝 below) (map (each op) gs) t)
  unfolding in_order pulled
  holds-run [] f l t h = h
  holds-run (interaction ∷ gs) f l t h = holds-run gs f l t h
  holds-run (applied g ∷ gs) f l t h =
      holds-run gs (λ a. f (acts 𝓠 g a)) (pulled-linear 𝓔 𝓠 g f l) (step 𝓝 below (odd 𝓝 below) (op g) t) (holds-step g f l t h)

  pub pulled-all : (gs : List (Item (Block 𝓠))) (f : 𝓐.N → 𝓝.N) → Linear 𝓔 𝓠 f → Linear 𝓔 𝓠 (λ a. f (pulled 𝓠 gs a))
  unfolding pulled
  pulled-all [] f l = l
  pulled-all (interaction ∷ gs) f l = pulled-all gs f l
  pulled-all (applied g ∷ gs) f l = pulled-all gs (λ a. f (acts 𝓠 g a)) (pulled-linear 𝓔 𝓠 g f l)

  holds-vacuum : Holds 𝓠.vac (vacuum 𝓝)
  holds-vacuum = record {
    D = λ i. false;
    signed = λ i. refl;
    entries = λ r c hr hc.
        𝓔.laws.ring.mul-one (𝓝.mul ((vacuum 𝓝).m r c) 𝓝.one) ∙ 𝓔.laws.ring.mul-one ((vacuum 𝓝).m r c) ∙ vacuum-entry 𝓔 𝓠 r c hr hc;
  }

  pub every-angle : EveryAngle 𝓔 𝓠 (odd 𝓝 below)
  every-angle gs = record {
    covariance = covariance;
    diagonal = λ r h. end.entries r r h h ∙ cov-self 𝓔 𝓠 f (pulled-all gs 𝓠.vac (vac-linear 𝓔 𝓠)) r;
    parity = λ k h.
        covariance (2 * k) (2 * k + 1) (omega arith) (omega arith) (omega arith) ∙ ap f (z-is 𝓔 𝓠 k h);
  }
    where
      f : 𝓐.N → 𝓝.N
      f a = 𝓠.vac (pulled 𝓠 gs a)

      end : Holds f (run 𝓝 below (odd 𝓝 below) (map (each op) gs) (vacuum 𝓝))
      end = holds-run gs 𝓠.vac (vac-linear 𝓔 𝓠) (vacuum 𝓝) holds-vacuum

      covariance : (r c : ℕ) → r < 2 * n → c < 2 * n → r ≢ c
          → get 𝓝 (run 𝓝 below (odd 𝓝 below) (map (each op) gs) (vacuum 𝓝)) r c ≡ f (𝓐.mul (𝓠.num (𝓝.neg 𝓔.i)) (𝓐.mul (gamma 𝓠 r) (gamma 𝓠 c)))
      covariance r c hr hc d = end.entries r c hr hc ∙ cov-apart 𝓔 𝓠 f r c hr hc d

-- THE STATEMENT
pub angle-theorem : AngleTheorem
angle-theorem 𝓝 below 𝓔 n 𝓐 𝓠 = every-angle 𝓔 𝓠
