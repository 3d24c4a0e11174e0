-- Demand 3's last sentence, up to the lengths of slices and the limit: a register tape without Swap, on neighbouring pairs, has no bad blocks and no
-- interactions, whatever its flags and tolerance. Its items are Gaussian and every wire is its own mode. Assumes nothing.
use mathlib.Core.Path.{◌≡◌, refl, sym, ap, ap₂, subst, ◌∙◌}
use mathlib.Core.Bool.{Bool, true, cond}
use mathlib.Core.List.{List, [], ◌∷◌, Memᴰ}
use Prim.Native.Nat.{ℕ, ◌+◌, ◌<◌}
use lib.ListN.{get_or}
use lib.Ieee.{Float, le}
use Rattle.laws.specs.Lists.{All}
use Rattle.gate.specs.Complex.{f0}
use Rattle.gate.specs.declared.matrix.Mat2.{Mat2}
use Rattle.gate.specs.declared.matrix.Mat4.{Mat4}
use Rattle.tape.specs.Parse.{Content, accepted, parse}
use Rattle.tape.specs.declared.header.Header.{Header}
use Rattle.tape.specs.declared.gates.Gate.{Gate}
use Rattle.majorana.specs.Majorana.{majorana_map1_of, majorana_map2_of}
use Rattle.monomial.specs.Tolerance.{Tolerance}
use Rattle.monomial.proofs.Complexes.{zero_is}
use Rattle.monomial.proofs.Tolerances.{zero-passes}
use Rattle.monomial.proofs.Single.{residual-single}
use Rattle.order.specs.Arrangement.{find, beside_of}
use Rattle.order.proofs.Permutation.{wire-mode}
use Rattle.resolve.specs.Items.{Item, one, two, opaque, ItemKind, matchgate, phaseless, interacting, neither}
use Rattle.detect.specs.declared.count.Counts.{Counts}
use Rattle.detect.specs.Emit.{oriented_of}
use Rattle.detect.specs.Counts.{apart, one_share, adjacent_share, match_share, two_share, plus_of, share_of, counted_onto, counts_of}
use Rattle.detect.specs.Compile.{relabels_of, reorders_of, labels_of, items_of, order_of, mode_of_wire, mode_of_qubit, tape_counts}
use Rattle.register.specs.Register.{RegisterTape, PlainGate}
use Rattle.register.specs.Blocks.{Turn, GaussianKind}
use Rattle.register.specs.Follows.{GaussianItem, Plain}
use Rattle.register.proofs.Tapes.{tolerance, tape-plain}
use Rattle.claim.proofs.Identity.{beside-modes, plain-order}

-- ---- counts

-- "no bad blocks", "no interactions"
abbrev Clear : Counts → Type 0
Clear c = (c.bad ≡ 0) × (c.nonadjacent ≡ 0) × (c.interactions ≡ 0)

clear-sum : (c s : Counts) → Clear c → Clear s → Clear (plus_of c s)
unfolding plus_of
clear-sum c s h k = (ap₂ ◌+◌ h.0 k.0, ap₂ ◌+◌ h.1 k.1, ap₂ ◌+◌ h.2 k.2)

module _ (tol : Float) (ok : Tolerance tol) (n : ℕ) (pos : ℕ → ℕ) (own : (w : ℕ) → w < n → pos w ≡ w) where
  one-clear : (u : Mat2) → Turn u → Clear (one_share tol (majorana_map1_of u))
  unfolding one_share
  one-clear u (b, has) = rw passes (refl, refl, refl)
    where
      passes : le (majorana_map1_of u).residual tol ≡ true
      passes = ap (λ (r : Float). le r tol) (residual-single u b has) ∙ zero-passes f0 tol ok zero_is

  match-clear : (i j : ℕ) (r : Float) (v : Mat4) → beside_of i j ≡ true → Clear (match_share i j r v)
  unfolding match_share adjacent_share
  match-clear i j r v h = subst (λ (t : Bool). Clear (cond t (adjacent_share r (majorana_map2_of (oriented_of i j v))) apart)) (sym h) (refl, refl, refl)

  two-clear : (kind : ItemKind) (i j : ℕ) (r : Float) (v : Mat4) → beside_of i j ≡ true → GaussianKind kind → Clear (two_share kind i j r v)
  unfolding two_share
  two-clear matchgate i j r v h g = match-clear i j r v h
  two-clear phaseless i j r v h g = (refl, refl, refl)
  two-clear interacting i j r v h g = absurd g
  two-clear neither i j r v h g = absurd g

  share-clear : (x : Item) → GaussianItem n x → Clear (share_of tol pos x)
  share-clear (one w u) (l, t) = one-clear u t
  share-clear (two kind a b r v) (k, l, s, block, kinds) = two-clear kind (pos a) (pos b) r v (beside-modes n pos own a b k l s) kinds
  share-clear opaque h = absurd h

  counts-clear : (xs : List Item) → All (GaussianItem n) xs → Clear (counts_of tol pos xs)
  unfolding counted_onto
  counts-clear [] h = (refl, refl, refl)
  counts-clear (x ∷ xs) h = clear-sum (counts_of tol pos xs) (share_of tol pos x) (counts-clear xs h.1) (share-clear x h.0)

-- ---- tapes

module _ (t : List ℕ) (h : Header) (c : Content) (e : parse t ≡ accepted h c) (r : RegisterTape t)
    (plain : (x : Gate) → Memᴰ x c.gates → PlainGate x) where
  fused : Plain h.n (labels_of h c.gates) (items_of h c.gates)
  unfolding items_of labels_of
  fused = tape-plain t h c e r (relabels_of h) plain

  wire-stays : (w : ℕ) → w < h.n → mode_of_wire h c.gates w ≡ w
  unfolding order_of
  wire-stays w l = ap (λ a. find w a.order) (plain-order (reorders_of h) h.n (items_of h c.gates).items fused.items) ∙ wire-mode h.n w l

  -- the qubit q has the mode q
  pub plain-identity : (q : ℕ) → q < h.n → mode_of_qubit h c.gates q ≡ q
  plain-identity q l =
      ap (λ (s : ℕ). mode_of_wire h c.gates (get_or (items_of h c.gates).content s 0)) (fused.lab q l)
      ∙ ap (mode_of_wire h c.gates) (fused.content q l)
      ∙ wire-stays q l

  -- no bad blocks, so none that are nonadjacent, and no interactions
  pub plain-free : ((tape_counts h c.gates).bad ≡ 0) × ((tape_counts h c.gates).nonadjacent ≡ 0) × ((tape_counts h c.gates).interactions ≡ 0)
  unfolding tape_counts
  plain-free = counts-clear h.tolerance (tolerance t h c e r (relabels_of h)) h.n (mode_of_wire h c.gates) wire-stays _ fused.items
