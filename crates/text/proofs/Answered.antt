-- A q line never shows the zero of a refusal: the state passes question 16, the qubit 19, and its work 20. Assumes nothing.
use mathlib.Core.Path.{◌≡◌, refl, ap}
use mathlib.Core.Bool.{true}
use mathlib.Core.List.{List, [], ◌∷◌}
use Prim.Native.Nat.{ℕ, ◌≤◌, ◌<◌}
use native.Mathlib.Omega.{arith}
use lib.ListN.{length, replicate}
use borrow.Author.Tests.{le-leb}
use Rattle.laws.specs.Zeros.{+0}
use Rattle.laws.specs.Bounds.{max_qubits}
use Rattle.tape.specs.Parse.{Content, accepted, parse}
use Rattle.tape.specs.declared.header.Header.{Header}
use Rattle.detect.specs.Compile.{reported_of, program_of}
use Rattle.local.specs.Bounds.{state_places}
use Rattle.state.specs.Bounds.{dim_of}
use Rattle.state.specs.Questions.{state_ok}
use Rattle.state.specs.Answers.{Told}
use Rattle.queries.specs.Calls.{expectation_z_product_of}
use Rattle.queries.proofs.One.{one-qubit}
use Rattle.evolve.specs.Evolve.{evolved}
use Rattle.evolve.proofs.Evolving.{stored-long}
use Rattle.claim.proofs.Tables.{table-permutes}
use Rattle.text.specs.Bounds.{printed_qubits}
use Rattle.text.specs.Print.{state_of, z_work}
use Rattle.text.proofs.Running.{states, enough-state}

-- the state passes 16
passes : (t : List ℕ) (h : Header) (c : Content) → parse t ≡ accepted h c → h.n ≤ printed_qubits
    → state_ok h.n (state_of h c) (reported_of h c.gates).modes ≡ true
unfolding state_ok
passes t h c e few =
    let room : state_places (dim_of h.n) ≤ length (replicate states +0) = enough-state h.n few in
    let long : state_places (dim_of h.n) ≤ length (state_of h c) =
    rw (stored-long (dim_of h.n) (evolved h.n (program_of h c.gates)) (replicate states +0) (state_of h c) room refl) room in
    rw (
      le-leb h.n max_qubits (omega arith),
      le-leb (state_places (dim_of h.n)) (length (state_of h c)) long,
      table-permutes t h c e,
    )

pub z-answered : (t : List ℕ) (h : Header) (c : Content) (q : ℕ) → parse t ≡ accepted h c → h.n ≤ printed_qubits → q < h.n
    → (expectation_z_product_of h.n (state_of h c) (reported_of h c.gates).modes (q ∷ []) z_work).told.number ≡ 0
z-answered t h c q e few l =
    ap (λ (x : Told). x.number)
    (one-qubit h.n (state_of h c) (reported_of h c.gates).modes q (passes t h c e few) l z_work (omega arith))
