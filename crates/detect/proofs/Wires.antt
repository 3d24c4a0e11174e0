-- Of an accepted tape: the items' wires are below n, content and slots are permutations, and so is the table of modes. Assumes nothing.
use mathlib.Core.Path.{◌≡◌, sym, ap, ◌∙◌}
use mathlib.Core.List.{List, reverse, Memᴰ}
use Prim.Native.Nat.{ℕ, ◌<◌}
use native.Mathlib.Omega.{arith}
use lib.ListN.{get_or}
use Rattle.tape.specs.Good.{GoodGate}
use Rattle.tape.specs.declared.header.Header.{Header}
use Rattle.tape.specs.declared.gates.Gate.{Gate}
use Rattle.fuse.specs.Relabel.{unlabelled}
use Rattle.fuse.specs.Fuse.{fused}
use Rattle.fuse.specs.Compress.{compressed}
use Rattle.order.proofs.Permutation.{order-permutes}
use Rattle.resolve.specs.Items.{ItemsBelow}
use Rattle.resolve.specs.Resolve.{start_of}
use Rattle.resolve.specs.Whole.{resolved_of, fuse_of}
use Rattle.resolve.proofs.Wires.{Permutation, Wired, resolved-wired, rests-wired, start-wired}
use Rattle.detect.specs.Compile.{relabels_of, reorders_of, match_pairs, labels_of, items_of, order_of, mode_of_qubit}
use Rattle.detect.proofs.Slots.{LabelsBelow, reverse-below, fused-below, compressed-below, labelled-below, unlabelled-below}

module _ (h : Header) (gs : List Gate) (good : (x : Gate) → Memᴰ x gs → GoodGate h.n x) where
  labels : LabelsBelow h.n (labels_of h gs)
  unfolding labels_of
  labels = labelled-below h.n (relabels_of h) gs (unlabelled h.n) good (unlabelled-below h.n)

  pub slots-permute : Permutation h.n (labels_of h gs).lab
  slots-permute = labels.lab

  wired : Wired h.n (resolved_of (relabels_of h) h.tolerance h.n (labels_of h gs).swaps (labels_of h gs).events)
  unfolding resolved_of
  wired =
      let es = (labels_of h gs).events in
      let below = reverse-below h.n (compressed (fused es)) (compressed-below h.n (fused es) (fused-below h.n es labels.events)) in
      resolved-wired (relabels_of h) h.tolerance h.n (reverse (compressed (fused es))) (start_of h.n (labels_of h gs).swaps) below
      (start-wired (relabels_of h) h.tolerance h.n (labels_of h gs).swaps)

  pub content-permutes : Permutation h.n (items_of h gs).content
  unfolding items_of fuse_of
  content-permutes = wired.content

  pub wires-items : ItemsBelow h.n (items_of h gs).items
  unfolding items_of fuse_of
  wires-items =
      rests-wired (relabels_of h) h.tolerance h.n
      (resolved_of (relabels_of h) h.tolerance h.n (labels_of h gs).swaps (labels_of h gs).events) h.n (omega arith) wired

  -- ---- "the mode table's first n a permutation"

  wire : ℕ → ℕ
  wire q = get_or (items_of h gs).content (get_or (labels_of h gs).lab q 0) 0

  wire-there : (q : ℕ) → q < h.n → wire q < h.n
  unfolding wire
  wire-there q l = content-permutes.below (get_or (labels_of h gs).lab q 0) (slots-permute.below q l)

  pub mode-below : (q : ℕ) → q < h.n → mode_of_qubit h gs q < h.n
  unfolding order_of wire
  mode-below q l = (order-permutes (reorders_of h) h.n (match_pairs (items_of h gs).items)).there (wire q) (wire-there q l)

  pub modes-apart : (q r : ℕ) → q < h.n → r < h.n → mode_of_qubit h gs q ≡ mode_of_qubit h gs r → q ≡ r
  unfolding order_of wire
  modes-apart q r l k e =
      let p = order-permutes (reorders_of h) h.n (match_pairs (items_of h gs).items) in
      let w : wire q ≡ wire r = sym (p.back (wire q) (wire-there q l)) ∙ ap (λ i. get_or (order_of h gs).order i 0) e ∙ p.back (wire r) (wire-there r k) in
      slots-permute.apart q r l k (content-permutes.apart (get_or (labels_of h gs).lab q 0) (get_or (labels_of h gs).lab r 0) (slots-permute.below q l) (slots-permute.below r k) w)
