-- The mode table of an accepted tape passes question 16: "the mode table's first n a permutation". Assumes nothing.
use mathlib.Core.Path.{◌≡◌, refl, sym, ◌∙◌}
use mathlib.Core.Bool.{true}
use mathlib.Core.List.{List}
use Prim.Native.Nat.{ℕ, ◌≤◌, ◌<◌}
use native.Mathlib.Omega.{arith}
use lib.ListN.{length}
use borrow.Author.Tests.{le-leb}
use Rattle.state.proofs.Permutations.{modes-fit}
use Rattle.laws.specs.Tables.{mode_at}
use Rattle.laws.specs.Bounds.{max_qubits}
use Rattle.tape.specs.Parse.{Content, accepted, parse}
use Rattle.tape.specs.declared.header.Header.{Header}
use Rattle.tape.specs.declared.gates.Gate.{Gate}
use Rattle.state.specs.Modes.{is_permutation}
use Rattle.detect.specs.Report.{report_of}
use Rattle.detect.specs.Compile.{mode_of_qubit, reported_of}
use Rattle.detect.proofs.Entries.{length-table}
use Rattle.detect.proofs.Reports.{mode-at, mode-table-below, mode-table-apart}
use Rattle.register.proofs.Tapes.{header-good, good-gates}
use Rattle.claim.specs.Queries.{Begins}

-- n entries or more, the first n below n and different
permutation-is : (n : ℕ) (l : List ℕ) → n ≤ length l → ((q : ℕ) → q < n → mode_at l q < n)
    → ((p q : ℕ) → p < n → q < n → mode_at l p ≡ mode_at l q → p ≡ q) → is_permutation n l ≡ true
unfolding is_permutation
permutation-is n l long below apart =
    rw (le-leb n (length l) long) (modes-fit n l below (λ p q g h e. omega (arith, apart p q (omega arith) h e)))

table-long : (h : Header) (gs : List Gate) → length (reported_of h gs).modes ≡ max_qubits
unfolding reported_of report_of
table-long h gs = length-table (mode_of_qubit h gs) h.n

module _ (t : List ℕ) (h : Header) (c : Content) (e : parse t ≡ accepted h c) where
  -- question 2
  pub qubits-few : h.n ≤ max_qubits
  qubits-few = let w = header-good t h c e in rw w.0 at w.1.qubits

  pub modes-read : (q : ℕ) → q < h.n → mode_at (reported_of h c.gates).modes q ≡ mode_of_qubit h c.gates q
  modes-read q l = mode-at h c.gates qubits-few (good-gates t h c e) q l

  -- the report's table, and whatever is lent for it
  pub own-table : Begins h.n (reported_of h c.gates).modes (reported_of h c.gates).modes
  own-table = record { long = rw (table-long h c.gates) qubits-few; same = λ q l. refl }

  pub lent-permutes : (modes : List ℕ) → Begins h.n (reported_of h c.gates).modes modes → is_permutation h.n modes ≡ true
  lent-permutes modes lent =
      permutation-is h.n modes lent.long
      (λ q l. rw (lent.same q l) (mode-table-below h c.gates qubits-few (good-gates t h c e) q l))
      (λ p q k l f.
      mode-table-apart h c.gates qubits-few (good-gates t h c e) p q k l (sym (lent.same p k) ∙ f ∙ lent.same q l))

  pub table-permutes : is_permutation h.n (reported_of h c.gates).modes ≡ true
  table-permutes = lent-permutes (reported_of h c.gates).modes own-table
