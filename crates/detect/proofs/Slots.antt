-- Of an accepted tape, every slot of the events is below n: relabelling, fusing and `compress` make no other. And the slots of the qubits are a permutation.
-- Assumes nothing.
use mathlib.Core.Path.{refl}
use mathlib.Core.Bool.{Bool, true, false, cond, ◌&&◌, ◌||◌}
use mathlib.Core.List.{List, [], ◌∷◌, ◌++◌, map, reverse, Memᴰ}
use Prim.Native.Nat.{ℕ, ◌<◌}
use lib.Dec.{eqb}
use Rattle.laws.specs.Views.{until, from}
use Rattle.laws.proofs.Lists.{all_append, all-onto, until-all, from_all}
use Rattle.gate.specs.Matrix.{mul2_of, mat4_swap_qubits_of}
use Rattle.gate.specs.declared.matrix.Mat2.{Mat2}
use Rattle.gate.specs.declared.matrix.Mat4.{Mat4}
use Rattle.tape.specs.Good.{GoodGate}
use Rattle.tape.specs.declared.gates.Gate.{Gate}
use Rattle.tape.specs.declared.gates.Gate.TheVariants.{One, Two, Three}
use Rattle.fuse.specs.Events.{Event, gone, one, two, three, meets, touches, clear, one_on}
use Rattle.fuse.specs.Relabel.{Labelled, label, labelled, unlabelled, swap_code, put, swapped, slot_of}
use Rattle.fuse.specs.Fuse.{grown, joined, place, fused}
use Rattle.fuse.specs.Compress.{press, compressed, diagonal2_of}
use Rattle.resolve.proofs.Wires.{EventBelow, EventsBelow, Permutation, identity-permutation, traded-permutation}

-- ---- events on slots below n

module _ (n : ℕ) where
  pub reverse-below : (es : List Event) → EventsBelow n es → EventsBelow n (reverse es)
  reverse-below es h = all-onto (EventBelow n) es [] h tt

  clear-below : (a b : ℕ) (es : List Event) → EventsBelow n es → EventsBelow n (map (clear a b) es)
  clear-below a b [] h = tt
  clear-below a b (e ∷ es) h = (go (one_on a e || one_on b e), clear-below a b es h.1)
    where
      go : (t : Bool) → EventBelow n (cond t gone e)
      go true = tt
      go false = h.0

  -- ---- blocks

  joined-below : (c d : ℕ) (m u : Mat4) (new old : List Event) → c < n → d < n → EventsBelow n new → EventsBelow n old → EventsBelow n (joined c d m u new old)
  joined-below c d m u new old hc hd h g =
      (tt, all_append (EventBelow n) (map (clear c d) new) (two c d (grown c d m u new) ∷ old) (clear-below c d new h) ((hc, hd), g))

  place-below : (a b : ℕ) (m : Mat4) (new old all : List Event) → a < n → b < n → EventsBelow n new → EventsBelow n old → EventsBelow n all → EventsBelow n (place a b m new old all)
  place-below a b m new [] all ha hb h g r = ((ha, hb), r)
  place-below a b m new (gone ∷ old) all ha hb h g r = ((ha, hb), r)
  place-below a b m new (one v k ∷ old) all ha hb h g r = ((ha, hb), r)
  place-below a b m new (three c d e ∷ old) all ha hb h g r = ((ha, hb), r)
  place-below a b m new (two c d u ∷ old) all ha hb h g r = go (eqb c a && eqb d b) (eqb c b && eqb d a)
    where
      go : (s t : Bool) → EventsBelow n (cond s (joined c d m u new old) (cond t (joined c d (mat4_swap_qubits_of m) u new old) (two a b m ∷ all)))
      go true t = joined-below c d m u new old g.0.0 g.0.1 h g.1
      go false true = joined-below c d (mat4_swap_qubits_of m) u new old g.0.0 g.0.1 h g.1
      go false false = ((ha, hb), r)

  pub fused-below : (es : List Event) → EventsBelow n es → EventsBelow n (fused es)
  unfolding fused
  fused-below [] h = tt
  fused-below (gone ∷ es) h = (tt, fused-below es h.1)
  fused-below (one w m ∷ es) h = (h.0, fused-below es h.1)
  fused-below (two a b m ∷ es) h =
      let r = fused-below es h.1 in
      place-below a b m (until (meets a b) (fused es)) (from (meets a b) (fused es)) (fused es) h.0.0 h.0.1
      (until-all (meets a b) (EventBelow n) (fused es) r) (from_all (meets a b) (EventBelow n) (fused es) r) r
  fused-below (three a b c ∷ es) h = (h.0, fused-below es h.1)

  -- ---- runs

  press-below : (w : ℕ) (m : Mat2) (new old all : List Event) → w < n → EventsBelow n new → EventsBelow n old → EventsBelow n all → EventsBelow n (press w m new old all)
  press-below w m new [] all hw h g r = (hw, r)
  press-below w m new (gone ∷ old) all hw h g r = (hw, r)
  press-below w m new (one v k ∷ old) all hw h g r = go (diagonal2_of k && diagonal2_of m)
    where
      go : (t : Bool) → EventsBelow n (cond t (gone ∷ (new ++ (one v (mul2_of m k) ∷ old))) (one w m ∷ all))
      go true = (tt, all_append (EventBelow n) new (one v (mul2_of m k) ∷ old) h g)
      go false = (hw, r)
  press-below w m new (two a b u ∷ old) all hw h g r = (hw, r)
  press-below w m new (three a b c ∷ old) all hw h g r = (hw, r)

  pub compressed-below : (es : List Event) → EventsBelow n es → EventsBelow n (compressed es)
  unfolding compressed
  compressed-below [] h = tt
  compressed-below (gone ∷ es) h = (tt, compressed-below es h.1)
  compressed-below (one w m ∷ es) h =
      let r = compressed-below es h.1 in
      press-below w m (until (touches w) (compressed es)) (from (touches w) (compressed es)) (compressed es) h.0
      (until-all (touches w) (EventBelow n) (compressed es) r) (from_all (touches w) (EventBelow n) (compressed es) r) r
  compressed-below (two a b m ∷ es) h = (h.0, compressed-below es h.1)
  compressed-below (three a b c ∷ es) h = (h.0, compressed-below es h.1)

  -- ---- relabelling

  pub record LabelsBelow (s : Labelled) : Type 0 where
    pub lab : Permutation n s.lab
    pub events : EventsBelow n s.events

  label-below : (relabel : Bool) (x : Gate) (s : Labelled) → GoodGate n x → LabelsBelow s → LabelsBelow (label relabel x s)
  label-below relabel (One code q m) s g h = record { lab = h.lab; events = (h.lab.below q g.below, h.events) }
  label-below relabel (Two code a b m) s g h = go (relabel && eqb code swap_code)
    where
      go : (t : Bool) → LabelsBelow (cond t (swapped a b s) (put (two (slot_of s a) (slot_of s b) m) s))
      go true = record { lab = traded-permutation n a b s.lab g.below-a g.below-b h.lab; events = (tt, h.events) }
      go false = record { lab = h.lab; events = ((h.lab.below a g.below-a, h.lab.below b g.below-b), h.events) }
  label-below relabel (Three a b c) s g h =
      record { lab = h.lab; events = ((h.lab.below a g.below-a, h.lab.below b g.below-b, h.lab.below c g.below-c), h.events) }

  pub labelled-below : (relabel : Bool) (gs : List Gate) (s : Labelled) → ((x : Gate) → Memᴰ x gs → GoodGate n x) → LabelsBelow s → LabelsBelow (labelled relabel gs s)
  unfolding labelled
  labelled-below relabel [] s g h = h
  labelled-below relabel (x ∷ gs) s g h =
      labelled-below relabel gs (label relabel x s) (λ y m. g y (Memᴰ.tail m)) (label-below relabel x s (g x (Memᴰ.head refl)) h)

  pub unlabelled-below : LabelsBelow (unlabelled n)
  unfolding unlabelled
  unlabelled-below = record { lab = identity-permutation n; events = tt }
