-- The operations in a slice, applied one after the other: one more of them, the same in the slice of the state, and those that were written in front of the
-- slice. Assumes nothing.
use mathlib.Core.Path.{◌≡◌, refl, sym, ap, ap₂, ◌∙◌}
use mathlib.Core.Bool.{true}
use mathlib.Core.List.{List, [], ◌∷◌, ◌++◌, map, append_assoc}
use Prim.Native.Nat.{ℕ, zero, suc, ◌+◌, ◌*◌, ◌≤◌}
use native.Mathlib.Numerals.{add-one}
use native.Mathlib.Omega.{arith}
use lib.ListN.{length, take, drop}
use lib.Seq.{take_at, drop_at, drop-drop}
use lib.Ieee.{Float}
use Rattle.laws.specs.Bounds.{op_places}
use Rattle.laws.specs.Lists.{in_order}
use Rattle.detect.specs.Operation.{Operation, places_of, all_places, written}
use Rattle.detect.proofs.Placing.{length-places}
use Rattle.local.specs.Bounds.{state_places}
use Rattle.local.specs.State.{State, stored, vacuum}
use Rattle.local.proofs.Stored.{stored_is}
use Rattle.state.specs.Bounds.{dim_of}
use Rattle.state.specs.Operation.{decode_of, effect, Fits}
use Rattle.state.specs.Calls.{decoded_state, apply_state, called}
use Rattle.state.specs.Questions.{state_ok}
use Rattle.state.specs.declared.operation.Operation as state
use Rattle.std.proofs.Common.{Option, Some, None}
use Rattle.state.proofs.Operations.{decode-fits}
use Rattle.state.proofs.Questions.{asked, still-ok}
use Rattle.state.proofs.Steps.{applied-more}
use Rattle.evolve.specs.Evolve.{decoded_by, placed_by, evolved, held_in, evolved_in}

-- ---- one operation more

pub evolved-more : (n k : ℕ) (l : List Float) (t : State)
    → evolved_in n (suc k) l t ≡ decoded_by effect (decode_of n (take op_places (drop (op_places * k) l))) (evolved_in n k l t)
unfolding in_order held_in
evolved-more n zero l t = refl
evolved-more n (suc k) l t =
    let sum : op_places + op_places * k ≡ op_places * suc k = omega arith in
    let past : drop (op_places * k) (drop op_places l) ≡ drop (op_places * suc k) l = drop-drop (op_places * k) op_places l ∙ ap (λ j. drop j l) sum in
    evolved-more n k (drop op_places l) (decoded_by effect (decode_of n (take op_places l)) t)
    ∙ ap (λ m. decoded_by effect (decode_of n (take op_places m)) (evolved_in n (suc k) l t)) past

-- ---- in the slice of the state

pub decoded-more : (n : ℕ) (d : Option state.Operation) (t : State) (s₀ s : List Float) → state_places (dim_of n) ≤ length s₀
    → ((o : state.Operation) → d ≡ Some o → Fits n o) → s ≡ stored (dim_of n) t s₀ → decoded_state n s d ≡ stored (dim_of n) (decoded_by effect d t) s₀
unfolding decoded_state decoded_by
decoded-more n (Some o) t s₀ s room fits e = applied-more n o t s₀ s room (fits o refl) e
decoded-more n None t s₀ s room fits e = e

-- storing a state leaves the length
pub stored-long : (dim : ℕ) (t : State) (s₀ s : List Float) → state_places dim ≤ length s₀ → s ≡ stored dim t s₀ → length s ≡ length s₀
stored-long dim t s₀ s room e = (stored_is dim s₀ t s room e).long

-- a turn of the loop
pub evolve-more : (n k : ℕ) (l s₀ s : List Float) → state_places (dim_of n) ≤ length s₀ → s ≡ stored (dim_of n) (evolved_in n k l vacuum) s₀
    → decoded_state n s (decode_of n (take op_places (drop (op_places * k) l))) ≡ stored (dim_of n) (evolved_in n (k + 1) l vacuum) s₀
evolve-more n k l s₀ s room e =
    let places = take op_places (drop (op_places * k) l) in
    rw add-one
    (decoded-more n (decode_of n places) (evolved_in n k l vacuum) s₀ s room (λ o g. decode-fits n places o g) e
    ∙ ap (λ t. stored (dim_of n) t s₀) (sym (evolved-more n k l vacuum)))

-- ---- by calls of `apply`

-- each operation applied by a call, one that 17 turns down included
pub called-evolved : (n : ℕ) (modes : List ℕ) (ops : List (List Float)) (t : State) (s₀ s : List Float) → state_ok n s₀ modes ≡ true
    → s ≡ stored (dim_of n) t s₀ → called n modes ops s ≡ stored (dim_of n) (placed_by effect n ops t) s₀
unfolding in_order apply_state
called-evolved n modes [] t s₀ s ok e = e
called-evolved n modes (op ∷ ops) t s₀ s ok e =
    let room = (asked n s₀ modes ok).room in
    let still : state_ok n s modes ≡ true = still-ok n modes s s₀ (stored-long (dim_of n) t s₀ s room e) ok in
    called-evolved n modes ops (decoded_by effect (decode_of n op) t) s₀ (apply_state n s modes op) ok
    (rw still (decoded-more n (decode_of n op) t s₀ s room (λ o g. decode-fits n op o g) e))

-- ---- operations in front of a slice

front : (os : List Operation) (l : List Float) → held_in (length os) (all_places os ++ l) ≡ map places_of os
unfolding held_in all_places
front [] l = refl
front (o ∷ os) l =
    let split : (places_of o ++ all_places os) ++ l ≡ places_of o ++ (all_places os ++ l) = append_assoc (places_of o) (all_places os) l in
    let first : take op_places ((places_of o ++ all_places os) ++ l) ≡ places_of o =
    ap (take op_places) split ∙ take_at (places_of o) (all_places os ++ l) op_places (length-places o) in
    let rest : drop op_places ((places_of o ++ all_places os) ++ l) ≡ all_places os ++ l =
    ap (drop op_places) split ∙ drop_at (places_of o) (all_places os ++ l) op_places (length-places o) in
    ap₂ (λ a b. a ∷ held_in (length os) b) first rest ∙ ap (λ ops. places_of o ∷ ops) (front os l)

-- what was written stands there
pub written-held : (k : ℕ) (os : List Operation) (l : List Float) → k ≡ length os → held_in k (written os l) ≡ map places_of os
written-held k os l e = ap (λ k. held_in k (written os l)) e ∙ front os (drop (0 + length (all_places os)) l)

-- and so it is run
pub evolved-written : (n k : ℕ) (os : List Operation) (l : List Float) → k ≡ length os → evolved_in n k (written os l) vacuum ≡ evolved n os
evolved-written n k os l e = ap (λ ops. placed_by effect n ops vacuum) (written-held k os l e)
