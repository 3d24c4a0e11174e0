-- A row's part of four columns settled, straight on: after each of them the part is settled so far. Assumes nothing.
use mathlib.Core.Path.{◌≡◌, refl, sym, ap, ◌∙◌}
use mathlib.Core.Bool.{Bool, true, false}
use Prim.Native.Nat.{ℕ, ◌+◌, ◌*◌, ◌≤◌, ◌<◌}
use native.Mathlib.Omega.{arith}
use lib.ListN.{get_or, set}
use lib.Ieee.{nan, neg, lt}
use Rattle.laws.specs.Zeros.{+0}
use Rattle.laws.specs.Matrix.{at}
use Rattle.local.specs.Parts.{settled_entry}
use Rattle.local.specs.declared.signed.Signed.{Signed}
use Rattle.local.specs.Signed.{Same, Becomes}
use Rattle.local.proofs.SameSigned.{same_here, same_then}
use Rattle.local.proofs.Settling.{PartTo, part_none, part-next, sign_kept}

module _ (t₀ : Signed) (r s : ℕ) (row : r < t₀.dim) (fit : s + 4 ≤ t₀.dim) where
  -- j columns are done
  pub record Done (j : ℕ) (t : Signed) : Type 0 where
    pub same : Same t₀ t
    pub part : PartTo t₀.dim r s t₀.entries.now j t.entries.now

  pub done_none : Done 0 t₀
  done_none = record { same = same_here t₀; part = part_none t₀.dim r s t₀.entries.now }

  -- the sign of column x, which is the next one
  module _ (j x : ℕ) (b : Bool) (t t' : Signed) (h : j < 4) (next : x ≡ s + j) (below : b ≡ lt (get_or t₀.entries.now (t₀.dim * t₀.dim + x) nan) +0)
      (w : Done j t) where
    read : b ≡ lt (get_or t.entries.now (t₀.dim * t₀.dim + x) nan) +0
    read = sign_kept t₀.dim r s j x b t₀.entries.now t.entries.now w.part below

    pub done-turned : b ≡ true → Becomes t t' (set t.entries.now (r * t.dim + x) (neg (at t.dim t.entries.now r x))) → Done (j + 1) t'
    unfolding settled_entry
    done-turned y e = record {
      same = same_then _ _ _ w.same e.same;
      part = part-next t₀.dim r s j t₀.entries.now t.entries.now row (omega (arith, fit, h)) t₀.room w.part t'.entries.now
          (one ∙ ap (λ x. settled_entry t₀.dim r x t.entries.now) next);
    }
      where
        one : t'.entries.now ≡ settled_entry t₀.dim r x t.entries.now
        one = rw (sym read ∙ y) (rw w.same.dim at e.now)

    pub done_kept : b ≡ false → t' ≡ t → Done (j + 1) t'
    unfolding settled_entry
    done_kept y e = rw e (record {
      same = w.same;
      part = part-next t₀.dim r s j t₀.entries.now t.entries.now row (omega (arith, fit, h)) t₀.room w.part t.entries.now
          (one ∙ ap (λ x. settled_entry t₀.dim r x t.entries.now) next);
    })
      where
        one : t.entries.now ≡ settled_entry t₀.dim r x t.entries.now
        one = rw (sym read ∙ y) refl
