-- `stored_queries::packed::Numbered::pass` meets its contract: the loop reads on, and the number and how many there are stay. Assumes nothing.
use Rattle.std.specs.Prelude.{◌≡◌}
use Rattle.stored_queries.proofs.packed.Numbered.pass.Given as goal

abbrev pub invariant-loop : goal.invariant-loop
invariant-loop g l = record {
  at : l.self.at ≡ l.initial.self.at;
  many : l.self.many ≡ l.initial.self.many;
}
