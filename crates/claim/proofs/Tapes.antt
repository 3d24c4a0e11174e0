-- Every accepted register tape without bad blocks: its program takes the vacuum to a basis state, in which the mode of each qubit has the register's
-- bit. Assumes nothing.
use mathlib.Core.Path.{◌≡◌, refl, sym, ap, ◌∙◌, subst}
use mathlib.Core.Bool.{Bool, true, cond}
use mathlib.Core.List.{List, []}
use Prim.Native.Nat.{ℕ, ◌<◌, ◌≤◌}
use lib.ListN.{get_or}
use borrow.Author.Tests.{eqb-true}
use Rattle.laws.specs.Bounds.{max_qubits}
use Rattle.laws.proofs.Lists.{all_map}
use Rattle.tape.specs.Parse.{Content, accepted, parse}
use Rattle.tape.specs.declared.header.Header.{Header}
use Rattle.tape.specs.declared.gates.Gate.{Gate}
use Rattle.order.proofs.Permutation.{order-permutes}
use Rattle.resolve.specs.Items.{Item, one, two, opaque, ItemBelow}
use Rattle.detect.specs.Report.{free_of}
use Rattle.detect.specs.Emit.{operations_of}
use Rattle.detect.specs.Compile.{relabels_of, reorders_of, match_pairs, labels_of, items_of, order_of, mode_of_wire, mode_of_qubit, tape_counts, program_of}
use Rattle.basis.specs.Holds.{HoldsBits}
use Rattle.evolve.specs.Evolve.{evolved}
use Rattle.monomial.specs.Monomial.{Mono4}
use Rattle.register.specs.Register.{RegisterTape, register_bits}
use Rattle.register.specs.Bits.{zeros}
use Rattle.register.specs.Blocks.{EvenSum, ItemIs}
use Rattle.register.specs.Follows.{Follows, any_pair}
use Rattle.register.proofs.Tapes.{tape-follows}
use Rattle.claim.specs.Modes.{modes_run}
use Rattle.claim.proofs.Modes.{Apart, items-agree}
use Rattle.claim.proofs.Shares.{all-free}
use Rattle.claim.proofs.Items.{items-hold}
use Rattle.claim.proofs.Tables.{qubits-few}

-- ---- the modes of the wires

modes-apart : (h : Header) (gs : List Gate) → Apart h.n (mode_of_wire h gs)
unfolding order_of
modes-apart h gs =
    let p = order-permutes (reorders_of h) h.n (match_pairs (items_of h gs).items) in
    record {
      below = p.there;
      apart = λ v w lv lw e. sym (p.back v lv) ∙ ap (λ k. get_or (order_of h gs).order k 0) e ∙ p.back w lw;
    }

item-below : (relabel : Bool) (n : ℕ) (Q : Mono4 → Type 0) (P : ℕ → ℕ → Type 0) (Still : Type 0) (x : Item) → ItemIs relabel n Q P Still x
    → ItemBelow n x
item-below relabel n Q P Still (one w m) i = i.0
item-below relabel n Q P Still (two kind a b r v) i = (i.0.0, i.0.1)
item-below relabel n Q P Still opaque i = absurd i

-- ---- the program

-- the last bits of the modes
abbrev final_bits : Header → List Gate → ℕ → Bool
final_bits h gs = modes_run (mode_of_wire h gs) (items_of h gs).items zeros

module _ (h : Header) (gs : List Gate) (f : Follows (relabels_of h) h.n EvenSum any_pair ⊥ gs (labels_of h gs) (items_of h gs)) where
  program-holds : h.n ≤ max_qubits → free_of (tape_counts h gs) ≡ true → HoldsBits h.n (final_bits h gs) (evolved h.n (program_of h gs))
  unfolding program_of tape_counts
  program-holds few free =
      subst (λ (s : Bool). HoldsBits h.n (final_bits h gs) (evolved h.n (cond s (operations_of (mode_of_wire h gs) (items_of h gs).items) []))) (sym free)
      (items-hold h.n few (mode_of_wire h gs) (modes-apart h gs) h.tolerance (relabels_of h) EvenSum any_pair ⊥ (items_of h gs).items f.items
      (all-free h.tolerance (mode_of_wire h gs) (items_of h gs).items (eqb-true (tape_counts h gs).bad 0 free)))

  program-bits : (q : ℕ) → q < h.n → final_bits h gs (mode_of_qubit h gs q) ≡ register_bits gs q
  program-bits q l =
      items-agree h.n (mode_of_wire h gs) (modes-apart h gs) (items_of h gs).items zeros zeros
      (all_map (item-below (relabels_of h) h.n EvenSum any_pair ⊥) (items_of h gs).items f.items) (λ w lw. refl)
      (get_or (items_of h gs).content (get_or (labels_of h gs).lab q 0) 0) (f.content.below (get_or (labels_of h gs).lab q 0) (f.lab.below q l))
      ∙ sym (f.bits q l)

-- ---- the tape

module _ (t : List ℕ) (h : Header) (c : Content) (e : parse t ≡ accepted h c) where
  follows : RegisterTape t → Follows (relabels_of h) h.n EvenSum any_pair ⊥ c.gates (labels_of h c.gates) (items_of h c.gates)
  unfolding labels_of items_of
  follows r = tape-follows t h c e r (relabels_of h)

  pub tape-holds : RegisterTape t → free_of (tape_counts h c.gates) ≡ true
      → (b : ℕ → Bool) × HoldsBits h.n b (evolved h.n (program_of h c.gates))
      × ((q : ℕ) → q < h.n → b (mode_of_qubit h c.gates q) ≡ register_bits c.gates q)
  tape-holds r free =
      (final_bits h c.gates, program-holds h c.gates (follows r) (qubits-few t h c e) free, program-bits h c.gates (follows r))
