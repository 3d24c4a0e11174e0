-- A tape of g gates and n qubits has at most g + n items, and each becomes at most three operations. Assumes nothing.
use mathlib.Core.Path.{◌≡◌, refl, ap, ◌∙◌}
use mathlib.Core.Bool.{Bool, true, false, cond, ◌&&◌}
use mathlib.Core.List.{List, [], ◌∷◌, ◌++◌, map, reverse}
use Prim.Native.Nat.{ℕ, suc, ◌+◌, ◌*◌, ◌≤◌}
use native.Mathlib.Omega.{arith}
use lib.Dec.{eqb}
use lib.ListN.{length, length-append, length-map, length-reverse}
use Rattle.resolve.proofs.Wires.{blocks-few, items-few}
use Rattle.laws.specs.Views.{until, from}
use Rattle.gate.specs.Matrix.{mul2_of, mat4_swap_qubits_of}
use Rattle.gate.specs.declared.matrix.Mat2.{Mat2}
use Rattle.gate.specs.declared.matrix.Mat4.{Mat4}
use Rattle.tape.specs.declared.header.Header.{Header}
use Rattle.tape.specs.declared.gates.Gate.{Gate}
use Rattle.tape.specs.declared.gates.Gate.TheVariants.{One, Two, Three}
use Rattle.fuse.specs.Events.{Event, gone, one, two, three, meets, touches, clear}
use Rattle.fuse.specs.Relabel.{Labelled, swap_code, slot_of, put, swapped, label, labelled, unlabelled}
use Rattle.fuse.specs.Fuse.{joined, place, fuse_step, fused}
use Rattle.fuse.specs.Compress.{diagonal2_of, press, compress_step, compressed}
use Rattle.resolve.specs.Resolve.{start_of}
use Rattle.resolve.specs.Whole.{resolved_of, fuse_of}
use Rattle.detect.specs.Report.{free_of, report_of}
use Rattle.detect.specs.Compile.{relabels_of, labels_of, items_of, mode_of_wire, tape_counts, reported_of}
use Rattle.detect.proofs.Sums.{counts-add}

-- ---- an event for each gate

one_label : (relabel : Bool) (g : Gate) (s : Labelled) → length (label relabel g s).events ≡ suc (length s.events)
one_label relabel (One code q m) s = refl
one_label relabel (Two code a b m) s = by (relabel && eqb code swap_code)
  where
    by : (t : Bool) → length (cond t (swapped a b s) (put (two (slot_of s a) (slot_of s b) m) s)).events ≡ suc (length s.events)
    by true = refl
    by false = refl
one_label relabel (Three a b c) s = refl

length-labelled : (relabel : Bool) (gs : List Gate) (s : Labelled) → length (labelled relabel gs s).events ≡ length gs + length s.events
unfolding labelled
length-labelled relabel [] s = omega arith
length-labelled relabel (g ∷ gs) s = omega (arith, length-labelled relabel gs (label relabel g s), one_label relabel g s)

-- ---- nothing ever moves

length-parts : (p : Event → Bool) (es : List Event) → length (until p es) + length (from p es) ≡ length es
unfolding until from
length-parts p [] = refl
length-parts p (e ∷ es) = by (p e) (length-parts p es)
  where
    by : (t : Bool) → length (until p es) + length (from p es) ≡ length es
        → length (cond t [] (e ∷ until p es)) + length (cond t (e ∷ es) (from p es)) ≡ suc (length es)
    by true h = omega arith
    by false h = omega arith

length-joined : (c d : ℕ) (m u : Mat4) (new old : List Event) → length (joined c d m u new old) ≡ suc (length new + suc (length old))
length-joined c d m u new old = ap suc (length-append (map (clear c d) new) _ ∙ ap (λ k. k + suc (length old)) (length-map new (clear c d)))

length-place : (a b : ℕ) (m : Mat4) (new old all : List Event)
    → length new + length old ≡ length all → length (place a b m new old all) ≡ suc (length all)
length-place a b m new [] all h = refl
length-place a b m new (gone ∷ old) all h = refl
length-place a b m new (one v k ∷ old) all h = refl
length-place a b m new (three c d e ∷ old) all h = refl
length-place a b m new (two c d u ∷ old) all h = by (eqb c a && eqb d b) (eqb c b && eqb d a)
  where
    by : (s t : Bool)
        → length (cond s (joined c d m u new old) (cond t (joined c d (mat4_swap_qubits_of m) u new old) (two a b m ∷ all))) ≡ suc (length all)
    by true t = length-joined c d m u new old ∙ ap suc h
    by false true = length-joined c d (mat4_swap_qubits_of m) u new old ∙ ap suc h
    by false false = refl

length-step : (e : Event) (es : List Event) → length (fuse_step e es) ≡ suc (length es)
length-step gone es = refl
length-step (one w m) es = refl
length-step (two a b m) es = length-place a b m (until (meets a b) es) (from (meets a b) es) es (length-parts (meets a b) es)
length-step (three a b c) es = refl

length-fused : (es : List Event) → length (fused es) ≡ length es
unfolding fused
length-fused [] = refl
length-fused (e ∷ es) = length-step e (fused es) ∙ ap suc (length-fused es)

length-press : (w : ℕ) (m : Mat2) (new old all : List Event)
    → length new + length old ≡ length all → length (press w m new old all) ≡ suc (length all)
length-press w m new [] all h = refl
length-press w m new (gone ∷ old) all h = refl
length-press w m new (one v k ∷ old) all h = by (diagonal2_of k && diagonal2_of m)
  where
    by : (t : Bool) → length (cond t (gone ∷ (new ++ (one v (mul2_of m k) ∷ old))) (one w m ∷ all)) ≡ suc (length all)
    by true = ap suc (length-append new (one v (mul2_of m k) ∷ old) ∙ h)
    by false = refl
length-press w m new (two a b u ∷ old) all h = refl
length-press w m new (three a b c ∷ old) all h = refl

length-pressed : (e : Event) (es : List Event) → length (compress_step e es) ≡ suc (length es)
length-pressed gone es = refl
length-pressed (one w m) es = length-press w m (until (touches w) es) (from (touches w) es) es (length-parts (touches w) es)
length-pressed (two a b u) es = refl
length-pressed (three a b c) es = refl

length-compressed : (es : List Event) → length (compressed es) ≡ length es
unfolding compressed
length-compressed [] = refl
length-compressed (e ∷ es) = length-pressed e (compressed es) ∙ ap suc (length-compressed es)

-- ---- the tape: an item for each event at most, and one for each slot

few-items : (h : Header) (gs : List Gate) → length (items_of h gs).items ≤ length gs + h.n
unfolding items_of fuse_of resolved_of labels_of start_of unlabelled
few-items h gs =
    let s : Labelled = labels_of h gs in
    let es : List Event = compressed (fused s.events) in
    omega (
      arith,
      items-few (relabels_of h) h.tolerance h.n s.swaps (reverse es),
      blocks-few (reverse es),
      length-reverse es,
      length-compressed (fused s.events),
      length-fused s.events,
      length-labelled (relabels_of h) gs (unlabelled h.n),
    )

pub operations-few : (h : Header) (gs : List Gate) → (reported_of h gs).operations ≤ 3 * (length gs + h.n)
unfolding reported_of report_of tape_counts
operations-few h gs = by (free_of (tape_counts h gs))
  where
    all : (tape_counts h gs).operations ≤ 3 * (length gs + h.n)
    all = omega (arith, (counts-add h.tolerance (mode_of_wire h gs) (items_of h gs).items).operations, few-items h gs)

    by : (t : Bool) → cond t (tape_counts h gs).operations 0 ≤ 3 * (length gs + h.n)
    by true = all
    by false = omega arith
