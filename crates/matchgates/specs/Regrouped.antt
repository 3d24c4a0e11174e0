-- WHICH CIRCUITS ARE THE SAME to every observable, in exact numbers. As fusing has it: gates on other qubits change places, the gates of a block become one
-- (crate `fuse`), and a diagonal block whose phase counts as none is a phase on each of its qubits (crate `classify`, Diagonal). Definitions only.
-- A public promise rests on this.
use Rattle.std.specs.Prelude.{◌≡◌, ◌≢◌, Bool, cond, List, ◌∷◌, ◌++◌, ℕ, ◌<◌, eqb}
use Rattle.laws.specs.Lists.{All}
use Rattle.rings.specs.Rings.{Ops}
use Rattle.formulas.specs.Numbers.{Exact}
use Rattle.formulas.specs.Engine.{Mat}
use Rattle.angles.specs.Qubits.{Operators}
use Rattle.matchgates.specs.Matrices.{identity}
use Rattle.matchgates.specs.Maps.{Conjugate}
use Rattle.matchgates.specs.Circuits.{Act, one, two, Fits, conjugated}
use Rattle.matchgates.specs.Fused.{Part, fused, parts_acts}

-- 1 and e on the diagonal
abbrev pub phase : (𝓝 : Ops) → 𝓝.N → Mat 𝓝
phase 𝓝 e r c = cond (eqb r c) (cond (eqb r 0) 𝓝.one e) 𝓝.zero

module _ {𝓝 : Ops} where
  -- the gate is not on k
  abbrev pub Away : ℕ → Act 𝓝 → Type 0
  Away k (one q u) = k ≢ q
  Away k (two p q u) = (k ≢ p) × (k ≢ q)

  -- no qubit is in both
  abbrev pub Disjoint : Act 𝓝 → Act 𝓝 → Type 0
  Disjoint (one q u) h = Away q h
  Disjoint (two p q u) h = Away p h × Away q h

pub data Alike {𝓝 : Ops} {i : 𝓝.N} (𝓙 : Conjugate 𝓝 i) (n : ℕ) : List (Act 𝓝) → List (Act 𝓝) → Type 0 where
  same : {gs : List (Act 𝓝)} → Alike 𝓙 n gs gs
  chain : {fs gs hs : List (Act 𝓝)} → Alike 𝓙 n fs gs → Alike 𝓙 n gs hs → Alike 𝓙 n fs hs
  later : {g : Act 𝓝} {gs hs : List (Act 𝓝)} → Alike 𝓙 n gs hs → Alike 𝓙 n (g ∷ gs) (g ∷ hs)
  -- gates on other qubits
  exchange : {g h : Act 𝓝} {gs : List (Act 𝓝)} → Disjoint g h → Alike 𝓙 n (g ∷ h ∷ gs) (h ∷ g ∷ gs)
  -- a gate that does nothing
  idle : {q : ℕ} (u : Mat 𝓝) {gs : List (Act 𝓝)} → ((r c : ℕ) → r < 2 → c < 2 → u r c ≡ identity 𝓝 r c) → Alike 𝓙 n (one q u ∷ gs) gs
  -- a block
  gathered : {p q : ℕ} → p < n → q < n → p ≢ q → (xs : List (Part 𝓝)) {gs : List (Act 𝓝)} → Alike 𝓙 n (parts_acts p q xs ++ gs) (two p q (fused 𝓝 xs) ∷ gs)
  -- a diagonal block of d0 to d3: "p_a = d2·conj(d0)", "p_b = d1·conj(d0)"; w = (d0·d3)·conj(d1·d2) is 1 where d0 d3 = d1 d2, since they have the size 1
  parted : {p q : ℕ} (u : Mat 𝓝) {gs : List (Act 𝓝)} → ((r c : ℕ) → r < 4 → c < 4 → r ≢ c → u r c ≡ 𝓝.zero)
      → 𝓝.mul (𝓙.conj (u 0 0)) (u 0 0) ≡ 𝓝.one → 𝓝.mul (u 0 0) (u 3 3) ≡ 𝓝.mul (u 1 1) (u 2 2)
      → Alike 𝓙 n (two p q u ∷ gs) (one p (phase 𝓝 (𝓝.mul (u 2 2) (𝓙.conj (u 0 0)))) ∷ one q (phase 𝓝 (𝓝.mul (u 1 1) (𝓙.conj (u 0 0)))) ∷ gs)

-- THE STATEMENT
abbrev pub AlikeRight : {𝓝 : Ops} {below : 𝓝.N → Bool} (𝓔 : Exact 𝓝 below) (𝓙 : Conjugate 𝓝 𝓔.i) {n : ℕ} {𝓐 : Ops} → Operators 𝓝 𝓔.i n 𝓐 → Type 0
AlikeRight {𝓝} 𝓔 𝓙 {n} {𝓐} 𝓠 = (gs hs : List (Act 𝓝)) → All (Fits n) gs → Alike 𝓙 n gs hs → (a : 𝓐.N) → conjugated 𝓔 𝓙 𝓠 gs a ≡ conjugated 𝓔 𝓙 𝓠 hs a
