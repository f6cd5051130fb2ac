-- The sizes of document 01, once, by name; the code has the same names in capitals (src/lib.rt).
-- `abbrev`: each is seen through everywhere, so that a proof meets the number.
use Rattle.std.specs.Prelude.{ℕ}

-- a network has at most so many stations: what a word of reach has bits for
abbrev pub station_room : ℕ
station_room = 32

-- at most so many links: what a word of marks has bits for
abbrev pub link_room : ℕ
link_room = 64

-- at most so many letters in flight
abbrev pub letter_room : ℕ
letter_room = 4096

-- a counter is 1 to this
abbrev pub largest_counter : ℕ
largest_counter = 65535
