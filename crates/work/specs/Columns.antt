-- What each column of the marks holds, and the kinds of a record. These are the names that definitions use; code has the columns in capitals, and
-- the kinds as the enum `Kind`.
-- Assumes nothing. Only inner functions rest on this.
use Rattle.std.specs.Prelude.{ℕ}

-- ---- columns

-- record i, gate i: the event's kind and slots, later the item's kind and wires
abbrev pub kind_column : ℕ
kind_column = 0

abbrev pub a_column : ℕ
a_column = 1

abbrev pub b_column : ℕ
b_column = 2

abbrev pub c_column : ℕ
c_column = 3

-- record q, qubit q: its slot
abbrev pub lab_column : ℕ
lab_column = 4

-- record s, slot s: the wire in it
abbrev pub content_column : ℕ
content_column = 5

-- record w, wire w: the smaller and the larger end of its path, and its place on it from the smaller end
abbrev pub lo_column : ℕ
lo_column = 8

abbrev pub hi_column : ℕ
hi_column = 9

abbrev pub at_column : ℕ
at_column = 10

-- record e, edge e: one more than the last edge before it with the same smaller wire, or 0
abbrev pub next_column : ℕ
next_column = 11

-- record e, edge e: its wires, the smaller first, and its weight
abbrev pub edge_lo_column : ℕ
edge_lo_column = 12

abbrev pub edge_hi_column : ℕ
edge_hi_column = 13

abbrev pub weight_column : ℕ
weight_column = 14

-- record w, wire w: one more than the last edge with the smaller wire w, or 0
abbrev pub head_column : ℕ
head_column = 15

-- record k, mode k: the wire on it
abbrev pub order_column : ℕ
order_column = 16

-- record w, wire w: its mode
abbrev pub pos_column : ℕ
pos_column = 17

-- record k, mode k: 1 where a path starts
abbrev pub start_column : ℕ
start_column = 18

-- ---- kinds

-- of an event: none, or a gate of one, two or three qubits
abbrev pub gone_kind : ℕ
gone_kind = 0

abbrev pub one_kind : ℕ
one_kind = 1

abbrev pub two_kind : ℕ
two_kind = 2

abbrev pub three_kind : ℕ
three_kind = 3

-- of an item: on one wire; on two: a matchgate, diagonal with a phase that counts as none, an interaction, neither; on three
abbrev pub one_item : ℕ
one_item = 4

abbrev pub match_item : ℕ
match_item = 5

abbrev pub diagonal_item : ℕ
diagonal_item = 6

abbrev pub interaction_item : ℕ
interaction_item = 7

abbrev pub neither_item : ℕ
neither_item = 8

abbrev pub opaque_item : ℕ
opaque_item = 9
