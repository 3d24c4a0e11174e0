-- The signs on runs: the claim holds of this engine, and the sign row is a run of which it speaks. It is false of an engine that never turns, of one that
-- turns its own rows too and of one that does not settle, by the sign row, and of one that turns the next mode only by the far row. Assumes nothing.
use mathlib.Core.Path.{◌≡◌, refl, sym, ap, subst, ◌∙◌}
use mathlib.Core.List.{List, [], ◌∷◌}
use Prim.Native.Nat.{ℕ}
use native.Mathlib.Omega.{arith}
use lib.ListN.{length, replicate}
use lib.Ieee.{Float}
use Rattle.laws.specs.Zeros.{+0, +1, nz}
use Rattle.laws.specs.Tables.{mode_at}
use Rattle.detect.specs.Answers.{Compiled, done}
use Rattle.detect.specs.Report.{report_of}
use Rattle.detect.specs.Compile.{reported_of}
use Rattle.local.specs.State.{vacuum, get}
use Rattle.state.specs.Answers.{Told, accepted}
use Rattle.state.specs.Operation.{Engine, effect}
use Rattle.queries.specs.Products.{z_of}
use Rattle.signs.specs.Paulis.{plus, minus, float}
use Rattle.signs.specs.Majoranas.{zs}
use Rattle.signs.specs.Engines.{no_turn, own_turn, no_settling, next_turn}
use Rattle.signs.proofs.Values.{plus≢minus, float_one}
use Rattle.evolve.specs.Evolve.{evolved_by}
use Rattle.claim.specs.Queries.{product, answer, Begins}
use Rattle.claim.proofs.Tables.{own-table}
use Rattle.gaussian.specs.Run.{asked, ran}
use Rattle.gaussian.specs.Signs.{value_after, parity_of}
use Rattle.gaussian.proofs.Signs.{signs-of}
use Rattle.rows.specs.Lost.{left_state, SignsOnRuns}
use Rattle.rows.proofs.SignRow.{lost-gives}
use Rattle.rows.proofs.SignRun.{Worked, the_row, far_row, Roomy, run_is, accepts, premise, z-told}

-- ---- this engine

pub own-signs : SignsOnRuns effect
own-signs t work marks ops state = signs-of t work marks ops state _ _ _ refl refl refl

-- ---- the witnesses' slices: room for 13 gates, four qubits and four operations, so for both rows

abbrev work : List Float
work = replicate 1088 +0

abbrev marks : List ℕ
marks = replicate 544 0

abbrev ops : List Float
ops = replicate 72 +0

abbrev state : List Float
state = replicate 72 +0

abbrev HasRoom : Worked → Type 0
HasRoom x = Roomy (length x.content.gates) x.header.n (length x.program) work marks ops state

roomy : HasRoom the_row × HasRoom far_row
roomy = (
  record { floats = omega arith; numbers = omega arith; operations = omega arith; places = omega arith },
  record { floats = omega arith; numbers = omega arith; operations = omega arith; places = omega arith },
)

-- ---- wrong engines

still-one : nz (nz +1) ≡ float plus
still-one = refl

-- one that gives 1 where the strings say -1
module _ (e : Engine) (x : Worked) (room : HasRoom x) (given : z_of (get (evolved_by e x.header.n x.program vacuum)) x.qubit ≡ +1) where
  abbrev r : Compiled
  r = ran x.tape work marks ops state

  abbrev four : List Float
  four = replicate 4 +0

  -- what it answers
  abbrev said : Told
  said = (answer r.report.n (left_state e (asked x.tape work marks ops state) state) r.report.modes (product (x.qubit ∷ []) four)).told

  said-is : said ≡ accepted (nz +1)
  said-is = z-told x work marks ops state room e +1 given four (omega arith)

  -- what the clause says of its answer
  must : SignsOnRuns e → nz said.value ≡ float minus
  unfolding reported_of report_of
  must claim =
      let right = claim x.tape work marks ops state (accepts x work marks ops state room) x.blocks (premise x work marks ops state room) in
      (right.parities r.report.modes table (x.qubit ∷ []) four).right (ap (λ (t : Told). t.number) said-is) ∙ ap float value
    where
      run : r ≡ done (reported_of x.header x.content.gates)
      run = run_is x work marks ops state room

      table : Begins r.report.n r.report.modes r.report.modes
      table = subst (λ (c : Compiled). Begins c.report.n c.report.modes c.report.modes) (sym run) (own-table x.tape x.header x.content x.parsed)

      value : value_after r.report.n x.blocks (parity_of r.report.modes (x.qubit ∷ [])) ≡ minus
      value =
          (λ i. value_after (run i).report.n x.blocks (zs (mode_at (run i).report.modes x.qubit ∷ [])))
          ∙ ap (λ k. value_after x.header.n x.blocks (zs (k ∷ []))) x.mode
          ∙ x.says

  pub lost : ¬ SignsOnRuns e
  lost claim = plus≢minus (float_one plus minus (sym (ap (λ (t : Told). nz t.value) said-is ∙ still-one) ∙ must claim))

pub refused : ¬ SignsOnRuns no_turn × ¬ SignsOnRuns own_turn × ¬ SignsOnRuns no_settling × ¬ SignsOnRuns next_turn
refused = (
  lost no_turn the_row roomy.0 lost-gives.0,
  lost own_turn the_row roomy.0 lost-gives.1,
  lost no_settling the_row roomy.0 lost-gives.2,
  lost next_turn far_row roomy.1 lost-gives.3,
)
