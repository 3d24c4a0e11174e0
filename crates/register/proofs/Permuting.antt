-- Lists that have the numbers below n, each once, such as the slots of the qubits and the wires in the slots: the identity, and two of them
-- exchanged. Assumes nothing.
use mathlib.Core.Path.{◌≡◌, sym, ap, ◌∙◌, subst}
use mathlib.Core.Logic.{◌⊎◌, inl, inr, ◌≢◌}
use mathlib.Core.List.{List}
use Prim.Native.Nat.{ℕ, ◌<◌}
use lib.ListN.{get_or}
use Rattle.laws.specs.Slices.{traded}
use Rattle.laws.specs.Tables.{exchanged}
use Rattle.laws.specs.Views.{list_of}
use Rattle.std.proofs.lemmas.Bool.{cases_eq}
use Rattle.laws.proofs.Tables.{exchanged-twice, exchanged-below, length-traded, get_or-traded}
use Rattle.laws.proofs.Views.{length-list_of, get_or-list_of}
use Rattle.register.specs.Blocks.{Places}

-- a property of the numbers below n: of two of them, and of the others
pub by_three : (P : ℕ → Type 0) (n a b : ℕ) → P a → P b → ((w : ℕ) → w < n → w ≢ a → w ≢ b → P w) → (w : ℕ) → w < n → P w
by_three P n a b pa pb po w h = by (cases_eq w a) (cases_eq w b)
  where
    by : (w ≡ a) ⊎ (w ≢ a) → (w ≡ b) ⊎ (w ≢ b) → P w
    by (inl e) _ = subst P (sym e) pa
    by (inr e) (inl g) = subst P (sym g) pb
    by (inr e) (inr g) = po w h e g

pub identity-places : (n : ℕ) (Still : Type 0) → Places n Still (list_of n (λ q. q))
identity-places n Still =
    let at : (w : ℕ) → w < n → get_or (list_of n (λ q. q)) w 0 ≡ w = λ w h. get_or-list_of n (λ q. q) w 0 h in
    record {
      long = length-list_of n (λ q. q);
      below = λ w h. subst (λ v. v < n) (sym (at w h)) h;
      apart = λ v w h k e. sym (at v h) ∙ e ∙ at w k;
      own = λ s. at;
    }

module _ {n : ℕ} {Still : Type 0} {l : List ℕ} (p : Places n Still l) (a b : ℕ) (ha : a < n) (hb : b < n) where
  pub traded-at : (w : ℕ) → get_or (traded 0 a b l) w 0 ≡ get_or l (exchanged a b w) 0
  traded-at = get_or-traded 0 a b l (subst (λ k. a < k) (sym p.long) ha) (subst (λ k. b < k) (sym p.long) hb)

  pub traded-places : (Still → ⊥) → Places n Still (traded 0 a b l)
  traded-places moves =
      record {
        long = length-traded 0 a b l ∙ p.long;
        below = λ w h. subst (λ v. v < n) (sym (traded-at w)) (p.below (exchanged a b w) (exchanged-below a b n w ha hb h));
        apart = λ v w h k e.
            sym (exchanged-twice a b v)
            ∙ ap (exchanged a b)
            (p.apart (exchanged a b v) (exchanged a b w) (exchanged-below a b n v ha hb h) (exchanged-below a b n w ha hb k)
            (sym (traded-at v) ∙ e ∙ traded-at w))
            ∙ exchanged-twice a b w;
        own = λ s. absurd (moves s);
      }
