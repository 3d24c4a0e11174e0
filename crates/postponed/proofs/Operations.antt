-- The engine beside the plain one, an operation at a time: on states, and in the callers' slices. Assumes nothing.
use mathlib.Core.Path.{◌≡◌, refl, sym, ap, subst, ◌∙◌}
use mathlib.Core.Bool.{true, false, cond, ◌&&◌}
use mathlib.Core.List.{List, [], ◌∷◌}
use Prim.Native.Nat.{ℕ, ◌+◌, ◌*◌, ◌%◌, ◌<◌}
use native.Mathlib.Omega.{arith}
use lib.Dec.{T, eqb, leb}
use lib.Ieee.{Float, binary64, fits, neg}
use lib.Ieee.Fits.{cond-fits}
use Rattle.std.proofs.Common.{Option, Some, None}
use Rattle.laws.specs.Lists.{All, in_order}
use Rattle.laws.specs.Zeros.{+0, +1, sg, nz}
use Rattle.laws.specs.Bounds.{max_qubits}
use Rattle.laws.specs.Matrix.{Mat, at, matrix}
use Rattle.laws.proofs.Matrix.{matrix-is, length-matrix}
use Rattle.real.specs.Maps.{local2, local4}
use Rattle.local.specs.State.{State, state_at, stored, vacuum}
use Rattle.local.proofs.Stored.{stored_is}
use Rattle.state.specs.Bounds.{dim_of}
use Rattle.state.specs.Operation.{decode_of, effect, Fits}
use Rattle.state.specs.Questions.{state_ok}
use Rattle.state.specs.Calls.{decoded_state, apply_answer, apply_state, called}
use Rattle.state.specs.declared.operation.Operation.{Operation}
use Rattle.state.specs.declared.operation.Operation.TheVariants.{One, Two, Interaction}
use Rattle.state.proofs.Operations.{decode-fits}
use Rattle.state.proofs.Questions.{asked, stored_ok}
use Rattle.plain.specs.Plain.{plain}
use Rattle.plain.specs.Calls.{matrix_ok, plain_answer, decoded_matrix, plain_matrix}
use Rattle.plain.proofs.Room.{room}
use Rattle.postponed.specs.Beside.{plainly_called, AlwaysSame}
use Rattle.postponed.proofs.Steps.{Postpones, get-same, step-same}

-- ---- an operation, and a list of them

effect-same : (n : ℕ) (o : Operation) → Fits n o → (p : Mat) (t : State) → Postpones n p t → Postpones n (plain o p) (effect o t)
unfolding effect plain Fits
effect-same n (One mode q) f p t h = step-same (local2 (2 * mode) q) n (omega arith) p t h (2 * (mode + 1)) (omega arith)
effect-same n (Two mode q) f p t h = step-same (local4 (2 * mode) q) n (omega arith) p t h (2 * (mode + 2)) (omega arith)
effect-same n (Interaction mode block second unit) f p t h = h

list-same : (n : ℕ) (os : List Operation) → All (Fits n) os → (p : Mat) (t : State) → Postpones n p t
    → Postpones n (in_order plain os p) (in_order effect os t)
unfolding in_order
list-same n [] f p t h = h
list-same n (o ∷ os) f p t h = list-same n os f.1 (plain o p) (effect o t) (effect-same n o f.0 p t h)

vacuum-same : (n : ℕ) → Postpones n vacuum.m vacuum
unfolding fits neg
vacuum-same n = record {
  turned = λ i. false;
  signs = λ i l. refl;
  same = λ r c hr hc. refl;
  fit = λ r c hr hc. fit r c;
  plain_fit = λ r c hr hc. fit r c;
}
  where
    fit : (r c : ℕ) → T (fits binary64 (vacuum.m r c))
    fit r c =
        cond-fits binary64 (eqb (r % 2) 0 && eqb c (r + 1)) +1 (cond (eqb (c % 2) 0 && eqb r (c + 1)) (neg +1) +0) tt
        (cond-fits binary64 (eqb (c % 2) 0 && eqb r (c + 1)) (neg +1) +0 tt tt)

-- the covariances are the same after every list
pub always-same : AlwaysSame effect plain
always-same n os f = get-same n (in_order plain os vacuum.m) (in_order effect os vacuum) (list-same n os f vacuum.m vacuum (vacuum-same n))

-- ---- in the slices: s has the engine's state, p the plain engine's matrix

pub record Both (n : ℕ) (modes : List ℕ) (s p : List Float) : Type 0 where
  pub engine : state_ok n s modes ≡ true
  pub plain : matrix_ok n p ≡ true
  pub same : Postpones n (at (dim_of n) p) (state_at (dim_of n) s)

-- what a slice holds may be named otherwise
like : (n : ℕ) (p p' : Mat) (t t' : State) → ((r c : ℕ) → r < 2 * n → c < 2 * n → p' r c ≡ p r c)
    → ((r c : ℕ) → r < 2 * n → c < 2 * n → t'.m r c ≡ t.m r c) → ((i : ℕ) → i < 2 * n → t'.d i ≡ t.d i) → Postpones n p t → Postpones n p' t'
like n p p' t t' ep em ed h = record {
  turned = h.turned;
  signs = λ i l. ed i l ∙ h.signs i l;
  same = λ r c hr hc.
      ap nz (ep r c hr hc) ∙ h.same r c hr hc ∙ ap (λ x. nz (sg (h.turned r) (sg (h.turned c) x))) (sym (em r c hr hc));
  fit = λ r c hr hc. subst (λ x. T (fits binary64 x)) (sym (em r c hr hc)) (h.fit r c hr hc);
  plain_fit = λ r c hr hc. subst (λ x. T (fits binary64 x)) (sym (ep r c hr hc)) (h.plain_fit r c hr hc);
}

-- the plain engine's question asks of a slice only how long it is
still_matrix : (n : ℕ) (f : Mat) (p : List Float) → matrix_ok n p ≡ true → matrix_ok n (matrix (dim_of n) f p) ≡ true
unfolding matrix_ok
still_matrix n f p ok =
    ap (λ (k : ℕ). leb n max_qubits && leb (dim_of n * dim_of n) k) (length-matrix (dim_of n) f p) ∙ ok

module _ (n : ℕ) (modes : List ℕ) where
  decoded-same : (s p : List Float) → Both n modes s p → (o : Option Operation) → ((x : Operation) → o ≡ Some x → Fits n x)
      → Both n modes (decoded_state n s o) (decoded_matrix n p o)
  unfolding decoded_state decoded_matrix
  decoded-same s p b None fit = b
  decoded-same s p b (Some o) fit =
      let t = effect o (state_at (dim_of n) s) in
      let w = stored_is (dim_of n) s t (stored (dim_of n) t s) (asked n s modes b.engine).room refl in
      let f = plain o (at (dim_of n) p) in
      let v = matrix-is (dim_of n) p f (matrix (dim_of n) f p) (room n p b.plain) refl in record {
        engine = stored_ok n modes t s b.engine;
        plain = still_matrix n f p b.plain;
        same = like n f (at (dim_of n) (matrix (dim_of n) f p)) t (state_at (dim_of n) (stored (dim_of n) t s)) v.each w.entry w.sign
            (effect-same n o (fit o refl) (at (dim_of n) p) (state_at (dim_of n) s) b.same);
      }

  call-same : (op s p : List Float) → Both n modes s p → Both n modes (apply_state n s modes op) (plain_matrix n p op)
  unfolding apply_state plain_matrix
  call-same op s p b = rw (b.engine, b.plain) (decoded-same s p b (decode_of n op) (λ x e. decode-fits n op x e))

  pub calls-same : (ops : List (List Float)) (s p : List Float) → Both n modes s p → Both n modes (called n modes ops s) (plainly_called n ops p)
  unfolding in_order
  calls-same [] s p b = b
  calls-same (op ∷ ops) s p b = calls-same ops (apply_state n s modes op) (plain_matrix n p op) (call-same op s p b)

  pub question-same : (op s p : List Float) → Both n modes s p → apply_answer n s modes op ≡ plain_answer n p op
  unfolding apply_answer plain_answer
  question-same op s p b = rw (b.engine, b.plain) refl

  -- each with the vacuum
  pub vacuum-both : (slice own : List Float) → state_ok n slice modes ≡ true → matrix_ok n own ≡ true
      → Both n modes (stored (dim_of n) vacuum slice) (matrix (dim_of n) vacuum.m own)
  vacuum-both slice own ok fits =
      let start = stored (dim_of n) vacuum slice in
      let w = stored_is (dim_of n) slice vacuum start (asked n slice modes ok).room refl in
      let m = matrix (dim_of n) vacuum.m own in
      let v = matrix-is (dim_of n) own vacuum.m m (room n own fits) refl in record {
        engine = stored_ok n modes vacuum slice ok;
        plain = still_matrix n vacuum.m own fits;
        same = like n vacuum.m (at (dim_of n) m) vacuum (state_at (dim_of n) start) v.each w.entry w.sign (vacuum-same n);
      }
