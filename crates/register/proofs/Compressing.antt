-- Compressing keeps the run of a list of events, in any monoid: what is not on a slot commutes with a gate on it, so the newer of two gates may move
-- next to the older. Assumes nothing.
use mathlib.Core.Path.{◌≡◌, refl, sym, ap, ◌∙◌}
use mathlib.Core.Bool.{Bool, true, false, cond, ◌&&◌, ◌||◌, or-false}
use mathlib.Core.List.{List, [], ◌∷◌, ◌++◌}
use Prim.Native.Nat.{ℕ}
use lib.Dec.{eqb}
use borrow.Author.Tests.{eqb-true}
use Rattle.laws.specs.Views.{until, from}
use Rattle.laws.specs.Lists.{All}
use Rattle.laws.proofs.Lists.{all_both, all_append, whole, until-all, from_all, until-fails, Heads, from_heads}
use Rattle.gate.specs.Matrix.{mul2_of}
use Rattle.gate.specs.declared.matrix.Mat2.{Mat2}
use Rattle.fuse.specs.Events.{Event, gone, one, two, three, touches}
use Rattle.fuse.specs.Compress.{diagonal2_of, press, compress_step, compressed}
use Rattle.register.specs.Runs.{Monoid, Acts, ev, run, Ok, Keeps}
use Rattle.std.proofs.lemmas.Bool.{or_parts}
use Rattle.register.proofs.Fusing.{fails, Off, first-away, passes, run-append}

module _ (G : Monoid) (A : Acts G) where
  off : (w : ℕ) (e : Event) → touches w e ≡ false → Ok G A e → Off w w e
  off w gone h o = tt
  off w (one v m) h o =
      let n = fails v w (or_parts (eqb v w) false h).0 in
      (n, n)
  off w (two a b u) h o =
      let n = or_parts (eqb a w) (eqb b w) h in
      let p = fails a w n.0 in
      let q = fails b w n.1 in
      (p, q, p, q)
  off w (three x y z) h o = absurd o

  -- the gates k and m on w with nothing on w between them
  joined-run : (w : ℕ) (m k : Mat2) → A.ok2 m → A.ok2 k → (new old : List Event) → All (Off w w) new
      → run G A (gone ∷ (new ++ (one w (mul2_of m k) ∷ old))) ≡ run G A (one w m ∷ (new ++ (one w k ∷ old)))
  unfolding run
  joined-run w m k om ok new old f =
      let R = run G A new in
      let O = run G A old in
      let X = A.ev1 w m in
      let K = A.ev1 w k in
      G.left (run G A (new ++ (one w (mul2_of m k) ∷ old)))
      ∙ run-append G A new (one w (mul2_of m k) ∷ old)
      ∙ ap (λ x. G.mul R (G.mul x O)) (A.one-mul w m k om ok)
      ∙ ap (G.mul R) (G.assoc X K O)
      ∙ sym (G.assoc R X (G.mul K O))
      ∙ ap (λ x. G.mul x (G.mul K O)) (sym (passes G A w w X (first-away G A w w m) new f))
      ∙ G.assoc X R (G.mul K O)
      ∙ ap (G.mul X) (sym (run-append G A new (one w k ∷ old)))

  module _ (w : ℕ) (s : A.slot w) (m : Mat2) (om : A.ok2 m) (new all : List Event) (h : All (Ok G A) new) (f : All (Off w w) new)
      (k : All (Ok G A) all) where
    stays : Keeps G A (one w m ∷ all) (one w m ∷ all)
    stays = (((s, om), k), refl)

    pressed : (old : List Event) → new ++ old ≡ all → All (Ok G A) old → Heads (touches w) old → Keeps G A (one w m ∷ all) (press w m new old all)
    pressed [] e o t = stays
    pressed (gone ∷ old) e o t = stays
    pressed (two a b u ∷ old) e o t = stays
    pressed (three a b c ∷ old) e o t = stays
    pressed (one v j ∷ old) e o t = by (diagonal2_of j && diagonal2_of m)
      where
        v-is : v ≡ w
        v-is = eqb-true v w (sym (or-false (eqb v w)) ∙ t)

        by : (d : Bool) → Keeps G A (one w m ∷ all) (cond d (gone ∷ (new ++ (one v (mul2_of m j) ∷ old))) (one w m ∷ all))
        by false = stays
        by true = (
          (tt, all_append (Ok G A) new (one v (mul2_of m j) ∷ old) h ((o.0.0, A.ok-mul2 m j om o.0.1), o.1)),
          ap (λ x. run G A (gone ∷ (new ++ (one x (mul2_of m j) ∷ old)))) v-is
              ∙ joined-run w m j om o.0.1 new old f
              ∙ ap (λ x. run G A (one w m ∷ (new ++ (one x j ∷ old)))) (sym v-is)
              ∙ ap (λ l. run G A (one w m ∷ l)) e,
        )

  compress-step : (e : Event) (es : List Event) → Ok G A e → All (Ok G A) es → Keeps G A (e ∷ es) (compress_step e es)
  compress-step gone es o k = ((o, k), refl)
  compress-step (two a b u) es o k = ((o, k), refl)
  compress-step (three a b c) es o k = absurd o
  compress-step (one w m) es o k =
      let free = until-all (touches w) (Ok G A) es k in
      pressed w o.0 m o.1 (until (touches w) es) es free
      (all_both {P = λ e. touches w e ≡ false} {Q = Ok G A} (off w) (until (touches w) es) (until-fails (touches w) es) free)
      k (from (touches w) es) (whole (touches w) es) (from_all (touches w) (Ok G A) es k) (from_heads (touches w) es)

  pub compressed-keeps : (es : List Event) → All (Ok G A) es → Keeps G A es (compressed es)
  unfolding compressed run
  compressed-keeps [] k = (tt, refl)
  compressed-keeps (e ∷ es) k = by (compressed-keeps es k.1)
    where
      by : Keeps G A es (compressed es) → Keeps G A (e ∷ es) (compress_step e (compressed es))
      by h =
          let s = compress-step e (compressed es) k.0 h.0 in
          (s.0, s.1 ∙ ap (G.mul (ev G A e)) h.1)
