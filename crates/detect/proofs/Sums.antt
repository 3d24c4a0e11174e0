-- The counts of the items: blocks = Gaussian + bad + interactions, what is counted is little, and one item more. Assumes nothing.
use mathlib.Core.Path.{◌≡◌, refl}
use mathlib.Core.Bool.{Bool, true}
use mathlib.Core.List.{List, [], ◌∷◌}
use Prim.Native.Nat.{ℕ, suc, ◌+◌, ◌*◌, ◌≤◌, ◌<◌}
use native.Mathlib.Omega.{arith}
use lib.ListN.{length}
use lib.Ieee.{Float, le}
use Rattle.std.proofs.lemmas.Bool.{cond_both}
use Rattle.gate.specs.declared.matrix.Mat4.{Mat4}
use Rattle.order.specs.Arrangement.{beside_of}
use Rattle.majorana.specs.Majorana.{majorana_map1_of}
use Rattle.majorana.specs.declared.maps.Mapped.{Mapped}
use Rattle.classify.specs.Diagonal.{phase_a_of, phase_b_of, rotation_of}
use Rattle.std.specs.Prelude.{Option, Some, None}
use Rattle.real.specs.declared.maps.Map2.{Map2}
use Rattle.resolve.specs.Items as Items
use Rattle.resolve.specs.Items.{Item, ItemKind}
use Rattle.detect.specs.declared.count.Counts.{Counts}
use Rattle.detect.specs.Counts.{gaussian, bad, one_share, adjacent_share, match_share, turned, turns_in, two_share, none, plus_of, share_of, counted_onto, counts_of}
use Rattle.detect.specs.Records.{Small}

-- "blocks = Gaussian + bad + interactions", of so many items
pub record Adds (c : Counts) (k : ℕ) : Type 0 where
  pub blocks : c.blocks ≡ c.gaussian + c.bad + c.interactions
  pub items : c.blocks ≡ k
  pub two : c.two ≤ k
  pub nonadjacent : c.nonadjacent ≤ c.bad
  pub operations : c.operations ≤ 3 * k

-- ---- shares

gaussian-adds : (two ops : ℕ) (r : Float) (b : Bool) → two ≤ 1 → ops ≤ 3 → Adds (gaussian two ops r b) 1
gaussian-adds two ops r b h g = record { blocks = refl; items = refl; two = h; nonadjacent = omega arith; operations = omega arith }

bad-adds : (two ops : ℕ) (r : Float) → two ≤ 1 → ops ≤ 3 → Adds (bad two ops r) 1
bad-adds two ops r h g = record { blocks = refl; items = refl; two = h; nonadjacent = omega arith; operations = omega arith }

one-adds : (tol : Float) (m : Mapped Map2) → Adds (one_share tol m) 1
unfolding one_share
one-adds tol m =
    cond_both (le m.residual tol) _ _ (λ z. Adds z 1)
    (λ _. gaussian-adds 0 1 m.residual _ (omega arith) (omega arith)) (λ _. bad-adds 0 1 m.residual (omega arith) (omega arith))

match-adds : (i j : ℕ) (r : Float) (v : Mat4) → Adds (match_share i j r v) 1
unfolding match_share adjacent_share
match-adds i j r v =
    cond_both (beside_of i j) _ _ (λ z. Adds z 1)
    (λ _. gaussian-adds 1 1 _ _ (omega arith) (omega arith))
    (λ _. record { blocks = refl; items = refl; two = omega arith; nonadjacent = omega arith; operations = omega arith })

pub turns-few : (v : Mat4) → turns_in v ≤ 2
unfolding turns_in
turns-few v = omega (arith, once (rotation_of (phase_a_of v)), once (rotation_of (phase_b_of v)))
  where
    once : (x : Option Map2) → turned x ≤ 1
    once (Some q) = omega arith
    once None = omega arith

two-adds : (kind : ItemKind) (i j : ℕ) (r : Float) (v : Mat4) → Adds (two_share kind i j r v) 1
unfolding two_share
two-adds Items.matchgate i j r v = match-adds i j r v
two-adds Items.phaseless i j r v = gaussian-adds 1 (turns_in v) _ true (omega arith) (omega (arith, turns-few v))
two-adds Items.interacting i j r v =
    record { blocks = refl; items = refl; two = omega arith; nonadjacent = omega arith; operations = omega (arith, turns-few v) }
two-adds Items.neither i j r v = bad-adds 1 0 r (omega arith) (omega arith)

-- ---- the sum

module _ (tol : Float) (pos : ℕ → ℕ) where
  pub share-adds : (x : Item) → Adds (share_of tol pos x) 1
  share-adds (Items.one w u) = one-adds tol (majorana_map1_of u)
  share-adds (Items.two kind a b r v) = two-adds kind (pos a) (pos b) r v
  share-adds Items.opaque = bad-adds 0 0 _ (omega arith) (omega arith)

  pub counts-add : (l : List Item) → Adds (counts_of tol pos l) (length l)
  unfolding counted_onto plus_of
  counts-add [] = record { blocks = refl; items = refl; two = omega arith; nonadjacent = omega arith; operations = omega arith }
  counts-add (x ∷ l) = go (counts_of tol pos l) (share_of tol pos x) (length l) (counts-add l) (share-adds x)
    where
      go : (c s : Counts) (k : ℕ) → Adds c k → Adds s 1 → Adds (plus_of c s) (suc k)
      go c s k p q = record {
        blocks = omega (arith, p.blocks, q.blocks);
        items = omega (arith, p.items, q.items);
        two = omega (arith, p.two, q.two);
        nonadjacent = omega (arith, p.nonadjacent, q.nonadjacent);
        operations = omega (arith, p.operations, q.operations);
      }

pub adds-small : (c : Counts) (k : ℕ) → k < 65536 → Adds c k → Small c
adds-small c k h p =
    let b = p.blocks in
    let i = p.items in
    record {
      blocks = omega (arith, i);
      two = omega (arith, p.two);
      gaussian = omega (arith, b, i);
      bad = omega (arith, b, i);
      nonadjacent = omega (arith, b, i, p.nonadjacent);
      interactions = omega (arith, b, i);
      operations = omega (arith, p.operations);
    }

-- ---- one item more

pub counts-none : (tol : Float) (pos : ℕ → ℕ) → counts_of tol pos [] ≡ none
unfolding counted_onto
counts-none tol pos = refl

pub counts-more : (tol : Float) (pos : ℕ → ℕ) (x : Item) (l : List Item) → counts_of tol pos (x ∷ l) ≡ plus_of (counts_of tol pos l) (share_of tol pos x)
unfolding counted_onto
counts-more tol pos x l = refl
