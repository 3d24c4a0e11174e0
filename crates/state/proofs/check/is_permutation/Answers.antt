-- `state::check::is_permutation` meets its contract, by its tests, `all_met` and `each_once`. Assumes nothing.
use Rattle.std.proofs.Common.{◌≤◌, length, take, ◌≡◌, ℕ, zero, suc, ◌<◌, Bool, false, sym, refl, ◌∙◌, suc-le-suc, zero-le, le-leb}
use mathlib.Core.Bool.{false≢true}
use borrow.Author.Tests.{lt-leb}
use Rattle.laws.specs.Views.{up_from, list_of}
use Rattle.laws.specs.Bounds.{max_qubits}
use Rattle.laws.specs.Tests.{all_below}
use Rattle.state.specs.Modes.{is_permutation}
use Rattle.std.proofs.lemmas.List.{length-take-le}
use Rattle.state.proofs.Permutations.{none-set, identity-ok, mode-front}
use Rattle.state.proofs.check.is_permutation.Goals as goal

pub returns-then-modes-n : goal.returns-then-modes-n
unfolding is_permutation
returns-then-modes-n c = rw (lt-leb _ _ c.if-modes-n.true)

pub returns-then-is_identity : goal.returns-then-is_identity
unfolding is_permutation
returns-then-is_identity c =
    let n = c.args.n in
    let modes = c.args.modes.now in
    let long = length-take-le n modes c.if-modes-n.false in
    let own = rw long at (sym c.is_identity.ensures ∙ c.if-is_identity.true) in
    rw (le-leb _ _ c.if-modes-n.false) (sym (sym (mode-front n modes) ∙ identity-ok n (take n modes) own))

-- the identity holds of no entries
some : (f : ℕ → Bool) (n : ℕ) → all_below f n ≡ false → 0 < n
unfolding all_below
some f zero e = absurd (false≢true (sym e))
some f (suc n) e = suc-le-suc zero-le

pub all_met-requires : goal.all_met-requires
all_met-requires c =
    let long = length-take-le c.args.n c.args.modes.now c.if-modes-n.false in
    (some _ _ (sym c.is_identity.ensures ∙ c.if-is_identity.false), rw long c.if-n-le-WORD.true)

pub returns-then-n-le-WORD : goal.returns-then-n-le-WORD
unfolding is_permutation
returns-then-n-le-WORD c =
    let n = c.args.n in
    let modes = c.args.modes.now in
    let long = length-take-le n modes c.if-modes-n.false in
    rw (le-leb _ _ c.if-modes-n.false) (rw long at c.all_met.ensures ∙ mode-front n modes)

pub each_once-requires : goal.each_once-requires
unfolding up_from
each_once-requires c =
    let long = length-take-le c.args.n c.args.modes.now c.if-modes-n.false in
    let few : length (take c.args.n c.args.modes.now) ≤ max_qubits = rw long c.requires in
    record { few = few; no_marks = record { long = few; clear = none-set (list_of max_qubits (λ i. false)) refl } }

pub returns : goal.returns
unfolding is_permutation
returns c =
    let n = c.args.n in
    let modes = c.args.modes.now in
    let long = length-take-le n modes c.if-modes-n.false in
    rw (le-leb _ _ c.if-modes-n.false) (rw long at c.each_once.ensures ∙ mode-front n modes)
