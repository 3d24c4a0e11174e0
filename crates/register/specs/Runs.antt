-- The run of a list of events in a monoid: the product of what its gates do, the newest on the left. Fusing is shown to keep the run of every list,
-- for any monoid and any action of gates in it under a few laws, so that one theorem serves bits and whatever else gates act on. Assumes nothing.
-- Only inner functions rest on this.
use Rattle.std.specs.Prelude.{◌≡◌, ◌≢◌, List, [], ◌∷◌, ℕ}
use Rattle.laws.specs.Lists.{All}
use Rattle.gate.specs.Matrix.{id2, mul2_of, mul4_of, kron_of, mat4_swap_qubits_of}
use Rattle.gate.specs.declared.matrix.Mat2.{Mat2}
use Rattle.gate.specs.declared.matrix.Mat4.{Mat4}
use Rattle.fuse.specs.Events.{Event, gone, one, two, three}

pub record Monoid : Type 1 where
  pub M : Type 0
  pub unit : M
  pub mul : M → M → M
  pub assoc : (x y z : M) → mul (mul x y) z ≡ mul x (mul y z)
  pub left : (x : M) → mul unit x ≡ x
  pub right : (x : M) → mul x unit ≡ x

pub record Acts (G : Monoid) : Type 1 where
  -- which numbers are slots, which two of them a gate may stand on, and which matrices it may have
  pub slot : ℕ → Type 0
  pub pair : ℕ → ℕ → Type 0
  pub ok2 : Mat2 → Type 0
  pub ok4 : Mat4 → Type 0
  -- what a gate does
  pub ev1 : ℕ → Mat2 → G.M
  pub ev2 : ℕ → ℕ → Mat4 → G.M
  pub differ : (a b : ℕ) → pair a b → a ≢ b
  pub ok-id : ok2 id2
  pub ok-mul2 : (m k : Mat2) → ok2 m → ok2 k → ok2 (mul2_of m k)
  pub ok-mul4 : (m k : Mat4) → ok4 m → ok4 k → ok4 (mul4_of m k)
  pub ok-kron : (m k : Mat2) → ok2 m → ok2 k → ok4 (kron_of m k)
  pub ok-renamed : (m : Mat4) → ok4 m → ok4 (mat4_swap_qubits_of m)
  -- products and renamings of matrices do what they should
  pub one-id : (w : ℕ) → ev1 w id2 ≡ G.unit
  pub one-mul : (w : ℕ) (m k : Mat2) → ok2 m → ok2 k → ev1 w (mul2_of m k) ≡ G.mul (ev1 w m) (ev1 w k)
  pub two-mul : (a b : ℕ) (m k : Mat4) → a ≢ b → ok4 m → ok4 k → ev2 a b (mul4_of m k) ≡ G.mul (ev2 a b m) (ev2 a b k)
  pub two-kron : (a b : ℕ) (m k : Mat2) → a ≢ b → ok2 m → ok2 k → ev2 a b (kron_of m k) ≡ G.mul (ev1 a m) (ev1 b k)
  pub two-renamed : (a b : ℕ) (m : Mat4) → a ≢ b → ok4 m → ev2 a b (mat4_swap_qubits_of m) ≡ ev2 b a m
  -- gates on different slots commute
  pub apart11 : (v w : ℕ) (m k : Mat2) → v ≢ w → G.mul (ev1 v m) (ev1 w k) ≡ G.mul (ev1 w k) (ev1 v m)
  pub apart12 : (w a b : ℕ) (m : Mat2) (u : Mat4) → w ≢ a → w ≢ b → G.mul (ev1 w m) (ev2 a b u) ≡ G.mul (ev2 a b u) (ev1 w m)
  pub apart22 : (c d a b : ℕ) (m u : Mat4) → c ≢ a → c ≢ b → d ≢ a → d ≢ b → G.mul (ev2 c d m) (ev2 a b u) ≡ G.mul (ev2 a b u) (ev2 c d m)

module _ (G : Monoid) (A : Acts G) where
  abbrev pub ev : Event → G.M
  ev gone = G.unit
  ev (one w m) = A.ev1 w m
  ev (two a b u) = A.ev2 a b u
  ev (three a b c) = G.unit

  -- the newest first
  unfoldable pub run : List Event → G.M
  run [] = G.unit
  run (e ∷ es) = G.mul (ev e) (run es)

  -- the gates that the laws speak of: no opaque ones
  abbrev pub Ok : Event → Type 0
  Ok gone = Unit {0}
  Ok (one w m) = A.slot w × A.ok2 m
  Ok (two a b u) = A.pair a b × A.ok4 u
  Ok (three a b c) = ⊥

  -- the list fs is such a list too, and does the same as es
  abbrev pub Keeps : List Event → List Event → Type 0
  Keeps es fs = All Ok fs × (run fs ≡ run es)
