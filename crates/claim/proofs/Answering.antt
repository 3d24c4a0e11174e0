-- Every list of queries on a state that holds the register's bits is answered as the register answers it, and refused only where a query's own
-- questions are; the state that a register tape's program leaves in a slice is such a state. Assumes nothing.
use mathlib.Core.Path.{◌≡◌, refl, ap, ◌∙◌}
use mathlib.Core.Bool.{Bool, true}
use mathlib.Core.List.{List, [], ◌∷◌}
use Prim.Native.Nat.{ℕ, ◌≤◌}
use lib.ListN.{length}
use lib.Ieee.{Float}
use borrow.Author.Tests.{le-leb, eqb-true}
use Rattle.laws.specs.Bounds.{max_qubits}
use Rattle.tape.specs.Parse.{Content, accepted, parse}
use Rattle.tape.specs.declared.header.Header.{Header}
use Rattle.local.specs.Bounds.{state_places}
use Rattle.local.specs.State.{stored}
use Rattle.local.proofs.Stored.{stored_is}
use Rattle.state.specs.Bounds.{dim_of}
use Rattle.state.specs.Questions.{state_ok}
use Rattle.queries.specs.Calls.{covariance_of}
use Rattle.detect.specs.Report.{free_of}
use Rattle.detect.specs.Compile.{tape_counts, program_of, reported_of}
use Rattle.register.specs.Register.{RegisterTape, register_bits}
use Rattle.basis.specs.Holds.{Reads}
use Rattle.basis.proofs.Steps.{slice-reads}
use Rattle.basis.proofs.Products.{product-told}
use Rattle.basis.proofs.Marginals.{marginal-told, probability-told}
use Rattle.basis.proofs.Shots.{sample-told}
use Rattle.evolve.specs.Evolve.{evolved}
use Rattle.evolve.proofs.Evolving.{stored-long}
use Rattle.claim.specs.Queries.{Query, product, marginal, probability, sample, number, answer, answers, Begins, register_answer}
use Rattle.claim.specs.Queries.{passes, RightAnswers}
use Rattle.claim.proofs.Questions.{answered-exactly}
use Rattle.claim.proofs.Tables.{qubits-few, modes-read, lent-permutes}
use Rattle.claim.proofs.Tapes.{tape-holds}

-- ---- queries

module _ (n : ℕ) (b r : ℕ → Bool) (s : List Float) (modes : List ℕ) (ok : state_ok n s modes ≡ true) (R : Reads n b r (covariance_of n s) modes) where
  query-answered : (q : Query) → passes n q ≡ true → (answer n s modes q).told.number ≡ 0
  query-answered q p = eqb-true (answer n s modes q).told.number 0 (answered-exactly n s modes ok q ∙ p)

  query-right : (q : Query) → (answer n s modes q).told.number ≡ 0 → answer n s modes q ≡ register_answer n r q
  query-right (product qs w) e = ap number (product-told n b r s modes R qs w e)
  query-right (marginal qs xs w) e = ap number (marginal-told n b r s modes R qs xs w e)
  query-right (probability low high w) e = ap number (probability-told n b r s modes R low high w e)
  query-right (sample shots draws w out) e =
      let told = sample-told n b r s modes R shots draws w out e in
      λ t. record { told = told.0 t; out = told.1 t }

  pub answers-right : (qs : List Query) → RightAnswers n r qs (answers answer n s modes qs)
  unfolding answers
  answers-right [] = tt
  answers-right (q ∷ qs) = (record { answered = query-answered q; right = query-right q }, answers-right qs)

-- ---- tapes

-- the slice with the state that the program of a tape makes of the vacuum
abbrev left : Header → Content → List Float → List Float
left h c s = stored (dim_of h.n) (evolved h.n (program_of h c.gates)) s

-- with any mode table that is lent for the report's
module _ (t : List ℕ) (h : Header) (c : Content) (e : parse t ≡ accepted h c) (s : List Float) (room : state_places (dim_of h.n) ≤ length s)
    (modes : List ℕ) (lent : Begins h.n (reported_of h c.gates).modes modes) where
  pub passes-sixteen : state_ok h.n (left h c s) modes ≡ true
  unfolding state_ok
  passes-sixteen =
      let long : state_places (dim_of h.n) ≤ length (left h c s) =
      rw (stored-long (dim_of h.n) (evolved h.n (program_of h c.gates)) s (left h c s) room refl) room in
      rw (le-leb h.n max_qubits (qubits-few t h c e), le-leb (state_places (dim_of h.n)) (length (left h c s)) long)
      (lent-permutes t h c e modes lent)

  module _ (register : RegisterTape t) (free : free_of (tape_counts h c.gates) ≡ true) where
    tape-reads : (b : ℕ → Bool) × Reads h.n b (register_bits c.gates) (covariance_of h.n (left h c s)) modes
    tape-reads =
        let w = tape-holds t h c e register free in (
          w.0,
          slice-reads h.n w.0 (register_bits c.gates) s (left h c s) (evolved h.n (program_of h c.gates)) modes (qubits-few t h c e)
              (stored_is (dim_of h.n) s (evolved h.n (program_of h c.gates)) (left h c s) room refl) w.1 (lent-permutes t h c e modes lent)
              (λ q l. ap w.0 (lent.same q l ∙ modes-read t h c e q l) ∙ w.2 q l),
        )

    pub tape-answers : (qs : List Query) → RightAnswers h.n (register_bits c.gates) qs (answers answer h.n (left h c s) modes qs)
    tape-answers = answers-right h.n tape-reads.0 (register_bits c.gates) (left h c s) modes passes-sixteen tape-reads.1
