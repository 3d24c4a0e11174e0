-- The choice of cuts: whatever the scores, what is chosen is one of the candidates. The first candidate beats "none so far", and there is always one:
-- cut 0 of both tails. Assumes nothing.
use mathlib.Core.Path.{◌≡◌, refl, sym, ap, ◌∙◌, subst}
use mathlib.Core.Logic.{◌⊎◌, inl, inr}
use mathlib.Core.Bool.{Bool, true, false, cond}
use mathlib.Core.List.{List, [], ◌∷◌, ◌++◌}
use Prim.Native.Nat.{ℕ, ◌+◌}
use native.Mathlib.Numerals.{add-one}
use lib.Ieee.{Float}
use Rattle.laws.specs.Views.{up_from}
use Rattle.gate.specs.Matrix.{kron_of, mul4_of}
use Rattle.gate.specs.declared.matrix.Mat2.{Mat2}
use Rattle.gate.specs.declared.matrix.Mat4.{Mat4}
use Rattle.classify.specs.Classify.{classify2_of, rank_of}
use Rattle.classify.specs.declared.classify.Class2.{Class2}
use Rattle.classify.specs.declared.classify.Kind2.{Kind2}
use Rattle.classify.specs.declared.classify.Kind2.TheVariants.{Diag, Interaction, Match, NonGaussian}
use Rattle.resolve.specs.Choose.{Choice}
use Rattle.resolve.specs.Choose.{Search}
use Rattle.resolve.specs.Cuts.{in_window, keep, cuts}
use Rattle.resolve.specs.Choose.{level_of, candidate_of, better_of, improves, offer_of, no_choice, Offer, offers_of, all_offers, try_each, choose_of}

-- a candidate beats what is of rank 3
beats : (k : Kind2) (l : Float) (t s : ℕ) (m : Float) (j : ℕ) → s ≡ 3 → better_of (rank_of k) l t s m j ≡ true
unfolding better_of
beats k l t s m j e = ap (λ s. better_of (rank_of k) l t s m j) e ∙ by k
  where
    by : (k : Kind2) → better_of (rank_of k) l t 3 m j ≡ true
    by Diag = refl
    by Interaction = refl
    by (Match r) = refl
    by (NonGaussian r) = refl

-- cut 0 is always tried
first-cut : (len : ℕ) → (ts : List ℕ) × (cuts len ≡ 0 ∷ ts)
unfolding cuts keep up_from
first-cut len = (keep (in_window len) (up_from (λ t. t) 1 len), ap (λ k. keep (in_window len) (up_from (λ t. t) 0 k)) (add-one len))

module _ (relabel : Bool) (tol : Float) (base : Mat4) (pa pb : ℕ → Mat2) where
  -- its class is that of the block with its own cuts
  abbrev pub Picked : Choice → Type 0
  Picked x = x.class ≡ classify2_of relabel tol (mul4_of (kron_of (pa x.ka) (pb x.kb)) base)

  abbrev made : ℕ → ℕ → Class2
  made ka kb = classify2_of relabel tol (mul4_of (kron_of (pa ka) (pb kb)) base)

  offered : (ka kb : ℕ) (s : Search) → (s.best.rank ≡ 3) ⊎ Picked s.best → Picked (offer_of ka kb (made ka kb) s).best
  unfolding offer_of candidate_of
  offered ka kb s h = by (improves (candidate_of ka kb (made ka kb)) s.best) refl h
    where
      by : (t : Bool) → improves (candidate_of ka kb (made ka kb)) s.best ≡ t → (s.best.rank ≡ 3) ⊎ Picked s.best
          → Picked (cond t (candidate_of ka kb (made ka kb)) s.best)
      by true e h = refl
      by false e (inr p) = p
      by false e (inl r) =
          absurd (subst (λ (t : Bool). cond t (Unit {0}) ⊥)
          (sym (beats (made ka kb).kind (level_of (made ka kb).kind) (ka + kb) s.best.rank s.best.level s.best.taken r) ∙ e) tt)

  each : (os : List Offer) (s : Search) → Picked s.best → Picked (try_each relabel tol base pa pb os s).best
  unfolding try_each
  each [] s p = p
  each (o ∷ os) s p = each os (offer_of o.ka o.kb (made o.ka o.kb) s) (offered o.ka o.kb s (inr p))

  pub picked : (la lb : ℕ) → Picked (choose_of relabel tol base pa pb la lb).best
  unfolding choose_of all_offers offers_of try_each
  picked la lb =
      let a = first-cut la in
      let b = first-cut lb in
      let s : Search = record { best = no_choice base; angled = false } in
      subst (λ l. Picked (try_each relabel tol base pa pb (all_offers l (cuts lb)) s).best) (sym a.1)
      (subst (λ l. Picked (try_each relabel tol base pa pb (all_offers (0 ∷ a.0) l) s).best) (sym b.1)
      (each (offers_of 0 b.0 ++ all_offers a.0 (0 ∷ b.0)) (offer_of 0 0 (made 0 0) s) (offered 0 0 s (inl refl))))
