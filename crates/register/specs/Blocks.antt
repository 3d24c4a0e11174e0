-- The blocks and items of a register tape. A class of blocks that products, Kronecker products and renamings do not leave: those with an even sum of
-- phases, which are all blocks of a register tape, or those that fit, which are all of one without Swap. Then what an item's kind says of its block.
-- Assumes nothing. Only inner functions rest on this.
use Rattle.std.specs.Prelude.{◌≡◌, ◌≢◌, Bool, true, false, cond, List, ℕ, ◌<◌, length, get_or, Float}
use Rattle.gate.specs.declared.matrix.Mat2.{Mat2}
use Rattle.gate.specs.declared.matrix.Mat4.{Mat4}
use Rattle.tape.specs.declared.gates.Gate.{Gate}
use Rattle.tape.specs.declared.gates.Gate.TheVariants.{One, Two, Three}
use Rattle.monomial.specs.Monomial.{Mono2, Mono4, Has2, Has4, diagonal, bit_a, bit_b, IsMatchgate, SwappedMatchgate}
use Rattle.monomial.specs.Algebra.{times4, kron4, renamed, Even}
use Rattle.classify.specs.Classify.{classify2_of}
use Rattle.classify.specs.declared.classify.Class2.{Class2}
use Rattle.fuse.specs.Relabel.{swap_code}
use Rattle.resolve.specs.Items.{Item, one, two, opaque, ItemKind, matchgate, phaseless, interacting, neither, kind_of}
use Rattle.register.specs.Register.{turns, exchanges}

-- ---- matrices

-- it has the entries of a one-qubit block
abbrev pub Turn : Mat2 → Type 0
Turn m = (b : Mono2) × Has2 m b

-- it has the entries of a two-qubit block of the class Q
abbrev pub Block : (Mono4 → Type 0) → Mat4 → Type 0
Block Q u = (b : Mono4) × Has4 u b × Q b

-- what is built of blocks of the class is in it
pub record Closed (Q : Mono4 → Type 0) : Type 0 where
  pub kron : (b c : Mono2) → Q (kron4 b c)
  pub times : (b c : Mono4) → Q b → Q c → Q (times4 b c)
  pub renaming : (b : Mono4) → Q b → Q (renamed b)

-- w is 1 or -1
abbrev pub EvenSum : Mono4 → Type 0
EvenSum b = (t : Bool) × Even t b

-- ---- gates

-- a gate of a register tape on n qubits, with its matrix in the class Q. Where `Still` holds, no gate renames, and its qubits are a pair in the
-- sense of P
abbrev pub GateIs : ℕ → (Mono4 → Type 0) → (ℕ → ℕ → Type 0) → Type 0 → Gate → Type 0
GateIs n Q P Still (One code q m) = (q < n) × ((b : Mono2) × Has2 m b × (b.turn ≡ turns code))
GateIs n Q P Still (Two code a b m) =
    (a < n) × (b < n) × (a ≢ b) × (exchanges code ≡ true) × (Still → (code ≢ swap_code) × P a b)
    × ((c : Mono4) × Has4 m c × Q c × ((x y : Bool) → bit_a c x y ≡ y) × ((x y : Bool) → bit_b c x y ≡ x))
GateIs n Q P Still (Three a b c) = ⊥

-- two different numbers below n, which are a pair in the sense of P where `Still` holds
abbrev pub Pair : ℕ → (ℕ → ℕ → Type 0) → Type 0 → ℕ → ℕ → Type 0
Pair n P Still a b = (a < n) × (b < n) × (a ≢ b) × (Still → P a b)

-- the list has the numbers below n, each once; where `Still` holds, each in its own place
pub record Places (n : ℕ) (Still : Type 0) (l : List ℕ) : Type 0 where
  pub long : length l ≡ n
  pub below : (w : ℕ) → w < n → get_or l w 0 < n
  pub apart : (v w : ℕ) → v < n → w < n → get_or l v 0 ≡ get_or l w 0 → v ≡ w
  pub own : Still → (w : ℕ) → w < n → get_or l w 0 ≡ w

-- ---- items

-- what the kind of an item says of its block: an interaction and what is neither come only without relabelling
abbrev pub KindIs : Bool → Mono4 → ItemKind → Type 0
KindIs relabel b matchgate = IsMatchgate b × (diagonal b ≡ false)
KindIs relabel b phaseless = IsMatchgate b × (diagonal b ≡ true)
KindIs relabel b interacting = (relabel ≡ false) × SwappedMatchgate b × (diagonal b ≡ true)
KindIs relabel b neither = (relabel ≡ false) × SwappedMatchgate b × (diagonal b ≡ false)

-- a matchgate, or diagonal with no phase
abbrev pub GaussianKind : ItemKind → Type 0
GaussianKind matchgate = Unit {0}
GaussianKind phaseless = Unit {0}
GaussianKind interacting = ⊥
GaussianKind neither = ⊥

-- what the class c of a matrix with the block b says: v has a block of the class Q, whose bits are those of b, exchanged where `swap` is set;
-- nothing is renamed where `Still` holds
pub record ClassIs (relabel : Bool) (Q : Mono4 → Type 0) (Still : Type 0) (b : Mono4) (c : Class2) : Type 0 where
  pub block : Mono4
  pub has : Has4 c.v block
  pub within : Q block
  pub kind : KindIs relabel block (kind_of c.kind)
  pub first : (x y : Bool) → bit_a b x y ≡ cond c.swap (bit_b block x y) (bit_a block x y)
  pub second : (x y : Bool) → bit_b b x y ≡ cond c.swap (bit_a block x y) (bit_b block x y)
  pub still : Still → c.swap ≡ false

-- a class of blocks that is closed, and what they are classified as
pub record Rules (relabel : Bool) (tol : Float) : Type 1 where
  pub Q : Mono4 → Type 0
  pub Still : Type 0
  pub closed : Closed Q
  pub class : (u : Mat4) (b : Mono4) → Has4 u b → Q b → ClassIs relabel Q Still b (classify2_of relabel tol u)

-- an item of a register tape on n wires, its block in the class Q
abbrev pub ItemIs : Bool → ℕ → (Mono4 → Type 0) → (ℕ → ℕ → Type 0) → Type 0 → Item → Type 0
ItemIs relabel n Q P Still (one w m) = (w < n) × Turn m
ItemIs relabel n Q P Still (two kind a b residual v) = Pair n P Still a b × ((c : Mono4) × Has4 v c × Q c × KindIs relabel c kind)
ItemIs relabel n Q P Still opaque = ⊥
