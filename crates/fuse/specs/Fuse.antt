-- Two-qubit gates into blocks (000, `fuse`, its first loop): a gate joins the open block on its two slots, in the block's orientation and with the
-- one-qubit gates between, or it starts a block. Lists are the newest first. Assumes nothing. A public promise rests on this.
use Rattle.std.specs.Prelude.{cond, ◌&&◌, List, [], ◌∷◌, ◌++◌, map, ℕ, eqb}
use Rattle.laws.specs.Views.{until, from}
use Rattle.gate.specs.Matrix.{mul4_of, kron_of, mat4_swap_qubits_of}
use Rattle.gate.specs.declared.matrix.Mat4.{Mat4}
use Rattle.fuse.specs.Events.{Event, gone, one, two, three, meets, product, clear}

-- the core u of a block on (c, d) after the one-qubit gates of `new` on its slots and the gate m
abbrev pub grown : ℕ → ℕ → Mat4 → Mat4 → List Event → Mat4
grown c d m u new = mul4_of m (mul4_of (kron_of (product c new) (product d new)) u)

-- the block takes these gates: its tails are empty again, and the gate's place is
abbrev pub joined : ℕ → ℕ → Mat4 → Mat4 → List Event → List Event → List Event
joined c d m u new old = gone ∷ (map (clear c d) new ++ (two c d (grown c d m u new) ∷ old))

-- the gate m on (a, b) after the events `new`, of which none is a block on a or b. `old` begins with the newest block on a or b, if there is one: where
-- that is no opaque block and on both, it is the open block of both and takes m; otherwise m starts a block. `all` is the whole list
abbrev pub place : ℕ → ℕ → Mat4 → List Event → List Event → List Event → List Event
place a b m new [] all = two a b m ∷ all
place a b m new (gone ∷ old) all = two a b m ∷ all
place a b m new (one v k ∷ old) all = two a b m ∷ all
place a b m new (three c d e ∷ old) all = two a b m ∷ all
place a b m new (two c d u ∷ old) all =
    cond (eqb c a && eqb d b) (joined c d m u new old)
    (cond (eqb c b && eqb d a) (joined c d (mat4_swap_qubits_of m) u new old)
    (two a b m ∷ all))

abbrev pub fuse_step : Event → List Event → List Event
fuse_step gone es = gone ∷ es
fuse_step (one w m) es = one w m ∷ es
fuse_step (two a b m) es = place a b m (until (meets a b) es) (from (meets a b) es) es
fuse_step (three a b c) es = three a b c ∷ es

unfoldable pub fused : List Event → List Event
fused [] = []
fused (e ∷ es) = fuse_step e (fused es)
