-- The code's candidates and its search, as the definitions have them: where the code has found none yet, the definitions have the choice that every
-- candidate improves. Assumes nothing. Only inner functions rest on this.
use Rattle.std.specs.Prelude.{Option, Some, None}
use Rattle.gate.specs.declared.matrix.Mat4.{Mat4}
use Rattle.classify.specs.Classify.{rank_number}
use Rattle.resolve.specs.declared.choose.Choice.{Choice as Candidate}
use Rattle.resolve.specs.declared.choose.Search.{Search as Searched}
use Rattle.resolve.specs.Choose.{Choice, Search, no_choice}

abbrev pub choice_of : Candidate → Choice
choice_of x = record { rank = rank_number x.score.rank; level = x.score.level; taken = x.score.taken; ka = x.ka; kb = x.kb; class = x.class }

abbrev pub best_of : Mat4 → Option Candidate → Choice
best_of base None = no_choice base
best_of base (Some x) = choice_of x

-- the search for the block `base`
abbrev pub search_of : Mat4 → Searched → Search
search_of base s = record { best = best_of base s.best; angled = s.angled }
