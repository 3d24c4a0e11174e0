-- What `compile` and `run` return and write into slices: number and place of a refusal, and the report's words (crate `detect`), floats and tables, these
-- one after the other. Definitions only. A public promise rests on this.
use Rattle.std.specs.Prelude.{◌≡◌, Bool, cond, ◌&&◌, List, ℕ, ◌*◌, leb, length, get_or, set, Float}
use Rattle.laws.specs.Slices.{put_row}
use Rattle.laws.specs.Bounds.{max_qubits}
use Rattle.detect.specs.Answers.{Compiled, number_of, place_of}
use Rattle.detect.specs.declared.report.Report.{Report}
use Rattle.detect.specs.Words.{word_count, measure_count, table_count, report_words}
use Rattle.engine.specs.Answers.{no_room}

-- the n entries of t from place a on
abbrev pub laid : ℕ → ℕ → List ℕ → List ℕ → List ℕ
laid n a t l = put_row n a (λ k. get_or t k 0) l

unfoldable pub words_written : Report → List ℕ → List ℕ
words_written r l = laid word_count 0 (report_words r) l

unfoldable pub measures_written : Report → List Float → List Float
measures_written r l = set (set l 0 r.fraction) 1 r.residual

-- "wires by mode", "path starts are marks beside the order", the mode of each qubit
unfoldable pub tables_written : Report → List ℕ → List ℕ
tables_written r l =
    laid max_qubits (2 * max_qubits) r.modes (laid max_qubits max_qubits r.starts (laid max_qubits 0 r.order l))

-- slices of these lengths have room for the place and the report
unfoldable pub has_report : ℕ → ℕ → ℕ → ℕ → Bool
has_report place report measures tables =
    leb 1 place && (leb word_count report && (leb measure_count measures && leb (table_count * max_qubits) tables))

-- the same, of the slices
abbrev pub room_of : List ℕ → List ℕ → List Float → List ℕ → Bool
room_of p w m t = has_report (length p) (length w) (length m) (length t)

-- c is told: its number is returned; its place, the words, the measures and the tables of its report are written; p, w, m and t are the slices
-- before, p', w', m' and t' after
pub record Reports (c : Compiled) (p w : List ℕ) (m : List Float) (t : List ℕ) (r : ℕ) (p' w' : List ℕ) (m' : List Float) (t' : List ℕ) : Type 0 where
  pub number : r ≡ cond (room_of p w m t) (number_of c.answer) no_room
  pub place : p' ≡ cond (room_of p w m t) (set p 0 (place_of c.answer)) p
  pub words : w' ≡ cond (room_of p w m t) (words_written c.report w) w
  pub measures : m' ≡ cond (room_of p w m t) (measures_written c.report m) m
  pub tables : t' ≡ cond (room_of p w m t) (tables_written c.report t) t
