-- THE SIGN THEOREM: the engine's own definition of apply is right for every circuit, on states, in the caller's slice, and by calls of `apply`
-- (specs/Signs.antt says what that is). Assumes nothing.
use mathlib.Core.Path.{◌≡◌, refl, sym, ap, subst, ◌∙◌}
use mathlib.Core.Bool.{true}
use mathlib.Core.List.{List, [], ◌∷◌}
use Prim.Native.Nat.{ℕ, zero, suc, ◌+◌, ◌*◌, ◌<◌}
use native.Mathlib.Omega.{arith}
use lib.ListN.{get_or}
use lib.Ieee.{Float, binary64}
use lib.Ieee.Fits.{mul-fits}
use Rattle.laws.specs.Lists.{in_order}
use Rattle.laws.specs.Zeros.{nz}
use Rattle.laws.proofs.Zeros.{nz-nz}
use Rattle.local.specs.State.{State, state_at, stored, vacuum, get}
use Rattle.state.specs.Bounds.{dim_of}
use Rattle.state.specs.Questions.{state_ok}
use Rattle.state.specs.Calls.{decoded_state, apply_state, called}
use Rattle.state.specs.Operation.{decode_of, effect, applied}
use Rattle.std.proofs.Common.{Some}
use Rattle.state.proofs.Operations.{decode-fits}
use Rattle.state.proofs.Questions.{asked, stored_ok}
use Rattle.queries.specs.Products.{z_of, restricted, product_of}
use Rattle.queries.proofs.One.{entry_alone, alone-value, pfaffian-two}
use Rattle.signs.specs.Paulis.{float, expectation}
use Rattle.signs.specs.Majoranas.{gamma, paired, zs, DistinctModes}
use Rattle.signs.specs.Circuits.{BlockOp, operation, pulled, Within}
use Rattle.signs.specs.Signs.{run_by, applied_all, Right, AlwaysRight, RightInSlices, StandIn, RightByCalls}
use Rattle.signs.proofs.Runs.{pulled-paired, run_holds, slice-holds}
use Rattle.signs.proofs.Steps.{Holds, get-is}
use Rattle.signs.proofs.ZProducts.{z-product}

reads : (n : ℕ) (xs : List BlockOp) (t : State) → Within n xs → Holds n t (λ a. pulled xs (gamma a)) → Right n xs t
reads n xs t within holds = record { covariance = covariance; product = λ js modes. z-product n xs within js modes t holds }
  where
    covariance : (r c : ℕ) → r < 2 * n → c < 2 * n → nz (get t r c) ≡ float (expectation n (pulled xs (paired n (gamma r) (gamma c))))
    covariance r c hr hc =
        get-is n t (λ a. pulled xs (gamma a)) holds r c hr hc
        ∙ ap (λ s. float (expectation n s)) (sym (pulled-paired n xs within (gamma r) (gamma c)))

-- Z of one mode as the covariance has it: the product of one, by the law of one qubit
pub right-z : (n : ℕ) (xs : List BlockOp) (t : State) → Right n xs t → (k : ℕ) → k < n
    → nz (z_of (get t) k) ≡ float (expectation n (pulled xs (zs (k ∷ []))))
unfolding product_of
right-z n xs t right k l =
    sym (nz-nz (z_of (get t) k)) ∙ ap nz (sym (ap (λ x. x.value) two ∙ alone-value (z_of (get t) k))) ∙ right.product (k ∷ []) alone
  where
    even : 2 * k + 0 ≡ 2 * k
    even = omega arith

    two : product_of (get t) (k ∷ []) ≡ entry_alone (z_of (get t) k)
    two = pfaffian-two (restricted (get t) (k ∷ [])) (mul-fits binary64 _ _) ∙ ap (λ i. entry_alone (get t i (2 * k + 1))) even

    below : (i : ℕ) → i < 1 → get_or (k ∷ []) i 0 < n
    below zero h = l
    below (suc i) h = absurd (omega arith)

    alone : DistinctModes n (k ∷ [])
    alone = record { below = below; different = λ i j h g e. omega arith }

pub signs : AlwaysRight effect
signs n xs within = reads n xs (run_by effect xs vacuum) within (run_holds n xs within)

pub signs-in-slices : RightInSlices
signs-in-slices n xs s within room =
    reads n xs (state_at (dim_of n) (applied_all n xs (stored (dim_of n) vacuum s))) within (slice-holds n xs s within room)

-- ---- a call of `apply` is the operation that it reads, applied

-- what is read from places has its modes below n
pub stand-within : (n : ℕ) (xs : List BlockOp) (ops : List (List Float)) → StandIn n xs ops → Within n xs
stand-within n [] ops h = tt
stand-within n (x ∷ xs) [] h = absurd h
stand-within n (x ∷ xs) (op ∷ ops) h = (decode-fits n op (operation x) h.0, stand-within n xs ops h.1)

module _ (n : ℕ) (modes : List ℕ) where
  call-applies : (x : BlockOp) (op s : List Float) → decode_of n op ≡ Some (operation x) → state_ok n s modes ≡ true
      → apply_state n s modes op ≡ applied n (operation x) s
  unfolding apply_state decoded_state
  call-applies x op s e ok = rw ok (ap (decoded_state n s) e)

  calls-apply : (xs : List BlockOp) (ops : List (List Float)) (s : List Float) → StandIn n xs ops → state_ok n s modes ≡ true
      → called n modes ops s ≡ applied_all n xs s
  unfolding in_order
  calls-apply [] [] s h ok = refl
  calls-apply [] (op ∷ ops) s h ok = absurd h
  calls-apply (x ∷ xs) [] s h ok = absurd h
  calls-apply (x ∷ xs) (op ∷ ops) s h ok =
      ap (called n modes ops) (call-applies x op s h.0 ok)
      ∙ calls-apply xs ops (applied n (operation x) s) h.1 (stored_ok n modes (effect (operation x) (state_at (dim_of n) s)) s ok)

pub signs-by-calls : RightByCalls
signs-by-calls n xs ops modes s within stand ok =
    subst (λ (l : List Float). Right n xs (state_at (dim_of n) l)) (sym (calls-apply n modes xs ops (stored (dim_of n) vacuum s) stand
    (stored_ok n modes vacuum s ok))) (signs-in-slices n xs s within (asked n s modes ok).room)
