-- `queries::lists::note_bits` meets its contract: the marks are those of the places passed, none of which is bad or a contradiction. Assumes nothing.
use Rattle.std.proofs.Common.{◌≡◌, ℕ, suc, ◌<◌, Bool, Option, List, get_or, ◌∙◌, refl, sym, ap, arith, length-set, le-leb}
use borrow.Author.Tests.{lt-leb}
use Rattle.pfaffian.specs.Shot.{bit}
use Rattle.queries.specs.Lists.{mode_listed, bit_listed, noted, conflicts_of, contradicts, stop_place}
use Rattle.queries.specs.Inner.{Asked, mark_at}
use native.Mathlib.Nat.{sub-zero}
use Rattle.queries.proofs.Searches.{first-hit, first-miss, first-none}
use Rattle.queries.proofs.Marking.{read_is, bits-asked, note-turn}
use Rattle.queries.proofs.lists.note_bits.Goals as goal

pub loop-i-init : goal.loop-i-init
unfolding stop_place noted
loop-i-init c = (refl, rw sub-zero, c.requires.none)

pub returns-then-q-checked : goal.returns-then-q-checked
returns-then-q-checked c =
    let l = c.loop-i in
    let place = sym (first-hit _ l.i _ (omega arith) (rw (le-leb _ _ c.if-q-checked.true))) ∙ l.invariant.1 in
    record { answer = rw (← place) (omega arith, omega arith, refl); asked = rw (← place) l.invariant.2 }

pub bounds-bits-i : goal.bounds-bits-i
bounds-bits-i c = omega (arith, (bits-asked _ _ c.requires.bits_value).many)

-- what the test says of the place
tested : (modes qubits bits : List ℕ) (asked : List (Option Bool)) (n i k : ℕ) (x r : Bool)
    → Asked n (noted (mode_listed modes qubits) (bit_listed bits) i) asked → k < n
    → k ≡ mode_listed modes qubits i → bit x ≡ get_or bits i 0 → r ≡ conflicts_of (mark_at asked k) (suc (bit x))
    → r ≡ contradicts (mode_listed modes qubits) (bit_listed bits) i
tested modes qubits bits asked n i k x r m b e ex t =
    t ∙ (λ z. conflicts_of ((m.each k b ∙ ap (noted (mode_listed modes qubits) (bit_listed bits) i) e) z) (suc (ex z)))

pub returns-then-conflicts : goal.returns-then-conflicts
returns-then-conflicts c =
    let l = c.loop-i in
    let m = c.mode_of-k in
    let bits = bits-asked _ _ c.requires.bits_value in
    let own = read_is _ (bits.small l.i (omega (arith, bits.many))) in
    let e = c.args in
    let test = tested e.checked.modes.now e.qubits.now e.bits.now l.asked e.checked.n l.i m.result _ _ l.invariant.2 m.ensures.bound
    m.ensures.value own c.conflicts.ensures in
    let met = sym test ∙ c.if-conflicts.true in
    let place = sym (first-hit _ l.i _ (omega arith) (rw (lt-leb _ _ c.if-q-checked.false) met)) ∙ l.invariant.1 in
    record { answer = rw (← place) (omega arith, omega arith); asked = rw (← place) l.invariant.2 }

pub loop-i-preserved : goal.loop-i-preserved
loop-i-preserved c =
    let l = c.loop-i in
    let e = c.args in
    let m = c.mode_of-k in
    let bits = bits-asked _ _ c.requires.bits_value in
    let own = read_is _ (bits.small l.i (omega (arith, bits.many))) in
    let test = tested e.checked.modes.now e.qubits.now e.bits.now l.asked e.checked.n l.i m.result _ _ l.invariant.2 m.ensures.bound
    m.ensures.value own c.conflicts.ensures in
    let free = sym test ∙ c.if-conflicts.false in (
      simp length-set l.invariant.0,
      sym (first-miss _ l.i _ (omega arith) (rw (lt-leb _ _ c.if-q-checked.false) free)) ∙ l.invariant.1,
      note-turn (mode_listed e.checked.modes.now e.qubits.now) (bit_listed e.bits.now) e.checked.n l.asked l.i m.result _ m.ensures.bound
          m.ensures.value free own l.invariant.2,
    )

pub returns : goal.returns
returns c =
    let l = c.loop-i in
    let place = sym (first-none _ l.i _ (omega arith)) ∙ l.invariant.1 in
    record { answer = rw (← place) (omega arith); asked = rw (← place) l.invariant.2 }
