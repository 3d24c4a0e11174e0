-- The engine's gates are on slots below n, and the gates of fused blocks on modes below n. Assumes nothing.
use mathlib.Core.Path.{◌≡◌, sym, ap, ◌∙◌}
use mathlib.Core.Logic.{◌≢◌}
use mathlib.Core.List.{List, [], ◌∷◌, map}
use Prim.Native.Nat.{ℕ, suc, ◌+◌, ◌≤◌, ◌<◌}
use native.Mathlib.Omega.{arith}
use lib.ListN.{length}
use Rattle.laws.specs.Lists.{All}
use Rattle.laws.specs.Slices.{traded}
use Rattle.laws.specs.Tables.{exchanged}
use Rattle.laws.proofs.Tables.{exchanged-below, exchanged-twice, length-traded, get_or-traded}
use Rattle.laws.proofs.Views.{length-list_of, get_or-list_of}
use Rattle.rings.specs.Rings.{Ops}
use Rattle.formulas.specs.Engine.{Mat}
use Rattle.laws.proofs.Lists.{all_append}
use Rattle.matchgates.specs.Circuits.{Act, one, two, Fits}
use Rattle.matchgates.specs.Fused.{Part, singles, both, turned, part_acts, parts_acts, Gathered, lone, pair, modes_of, acts_from}
use Rattle.matchgates.specs.Renamed.{Step, gate, renaming, swapped, meant, slot, slotted, labels, renamed, start}

-- ---- slots are below n, and those of two qubits differ

pub record Table (n : ℕ) (lab : List ℕ) : Type 0 where
  pub long : length lab ≡ n
  pub small : (q : ℕ) → q < n → slot lab q < n
  pub differ : (p q : ℕ) → p < n → q < n → p ≢ q → slot lab p ≢ slot lab q

module _ (n : ℕ) where
  pub start-table : Table n (start n)
  start-table = record {
    long = length-list_of n (λ q. q);
    small = λ q h. omega (arith, h, get_or-list_of n (λ q. q) q 0 h);
    differ = λ p q hp hq d e. d (sym (get_or-list_of n (λ q. q) p 0 hp) ∙ e ∙ get_or-list_of n (λ q. q) q 0 hq);
  }

  traded-table : (p q : ℕ) → p < n → q < n → (lab : List ℕ) → Table n lab → Table n (traded 0 p q lab)
  traded-table p q hp hq lab t = record {
    long = length-traded 0 p q lab ∙ t.long;
    small = λ k h. omega (arith, at k, t.small (exchanged p q k) (exchanged-below p q n k hp hq h));
    differ = λ j k hj hk d e. t.differ (exchanged p q j) (exchanged p q k) (exchanged-below p q n j hp hq hj) (exchanged-below p q n k hp hq hk)
        (λ g. d (sym (exchanged-twice p q j) ∙ ap (exchanged p q) g ∙ exchanged-twice p q k)) (sym (at j) ∙ e ∙ at k);
  }
    where
      at : (k : ℕ) → slot (traded 0 p q lab) k ≡ slot lab (exchanged p q k)
      at k = get_or-traded 0 p q lab (omega (arith, t.long)) (omega (arith, t.long)) k

module _ (𝓝 : Ops) (n : ℕ) where
  -- the gate fits
  abbrev F : Act 𝓝 → Type 0
  F = Fits n

  slotted-fits : (lab : List ℕ) → Table n lab → (g : Act 𝓝) → Fits n g → Fits n (slotted lab g)
  slotted-fits lab t (one q u) h = t.small q h
  slotted-fits lab t (two p q u) h = (t.small p h.0, t.small q h.1, t.differ p q h.0 h.1 h.2)

  pub renamed-fits : (gs : List (Step 𝓝)) → All (λ g. Fits n (meant g)) gs → (lab : List ℕ) → Table n lab → All F (renamed lab gs)
  unfolding renamed
  renamed-fits [] f lab t = tt
  renamed-fits (gate g ∷ gs) f lab t = (slotted-fits lab t g f.0, renamed-fits gs f.1 lab t)
  renamed-fits (renaming p q ∷ gs) f lab t = renamed-fits gs f.1 (traded 0 p q lab) (traded-table n p q f.0.0 f.0.1 lab t)
  renamed-fits (swapped p q u ∷ gs) f lab t = (
    (t.small p f.0.0, t.small q f.0.1, t.differ p q f.0.0 f.0.1 f.0.2),
    renamed-fits gs f.1 (traded 0 p q lab) (traded-table n p q f.0.0 f.0.1 lab t),
  )

  pub labels-below : (gs : List (Step 𝓝)) → All (λ g. F (meant g)) gs → (lab : List ℕ) → Table n lab → (q : ℕ) → q < n → slot (labels lab gs) q < n
  unfolding labels
  labels-below [] f lab t = t.small
  labels-below (gate g ∷ gs) f lab t = labels-below gs f.1 lab t
  labels-below (renaming p q ∷ gs) f lab t = labels-below gs f.1 (traded 0 p q lab) (traded-table n p q f.0.0 f.0.1 lab t)
  labels-below (swapped p q u ∷ gs) f lab t = labels-below gs f.1 (traded 0 p q lab) (traded-table n p q f.0.0 f.0.1 lab t)

  pub meant-fits : (gs : List (Step 𝓝)) → All F (map meant gs) → All (λ g. F (meant g)) gs
  meant-fits [] f = tt
  meant-fits (g ∷ gs) f = (f.0, meant-fits gs f.1)

  -- ---- the gates of blocks are on modes below n

  ones-fit : (k : ℕ) → k < n → (us : List (Mat 𝓝)) → All F (map (one k) us)
  ones-fit k h [] = tt
  ones-fit k h (u ∷ us) = (h, ones-fit k h us)

  parts-fit : (p q : ℕ) → p < n → q < n → p ≢ q → (xs : List (Part 𝓝)) → All F (parts_acts p q xs)
  parts-fit p q hp hq d [] = tt
  parts-fit p q hp hq d (v ∷ xs) = all_append F (part_acts p q v) (parts_acts p q xs) (part v) (parts-fit p q hp hq d xs)
    where
      part : (v : Part 𝓝) → All F (part_acts p q v)
      part (singles us vs) = all_append F (map (one p) us) (map (one q) vs) (ones-fit p hp us) (ones-fit q hq vs)
      part (both u) = ((hp, hq, d), tt)
      part (turned u) = ((hq, hp, λ e. d (sym e)), tt)

  pub gathered-fit : (k : ℕ) (g : Gathered 𝓝) → k + modes_of g ≤ n → All F (acts_from k g)
  gathered-fit k (lone us) h = ones-fit k (omega arith) us
  gathered-fit k (pair xs) h = parts-fit k (suc k) (omega arith) (omega arith) (λ e. omega (arith, e)) xs
