-- `queries::lists::list_modes` meets its contract: the modes passed are listed. Assumes nothing.
use Rattle.std.proofs.Common.{◌≡◌, ℕ, ◌+◌, ◌<◌, ◌≤◌, Bool, false}
use Rattle.arrayvec.specs.ArrayVec.{array_vec_len}
use Rattle.queries.specs.Lists.{passing}
use Rattle.queries.proofs.lists.list_modes.Given as goal

abbrev pub invariant-loop-k : goal.invariant-loop-k
invariant-loop-k g l =
    (array_vec_len l.list + l.fn.among.low ≤ l.k) × (l.fn.among.low < l.k → l.k ≤ l.fn.among.end)
    × ((p : ℕ → Bool) → ((k : ℕ) → k < l.fn.among.low → p k ≡ false) → ((k : ℕ) (b : Bool) → k < l.fn.among.end → g.F.Fn.post l.left (k, tt {0}) b → b ≡ p k)
    → l.list.items ≡ passing p l.k)
