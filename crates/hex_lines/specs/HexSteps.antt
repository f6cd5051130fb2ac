-- What the code answers of hexadecimal lines, byte by byte, for every reading. proofs/Hex.antt says that the bytes of a line, one
-- after the other, give what specs/Hex.antt says of the whole line.
use Rattle.std.specs.Prelude.{ℕ, ◌+◌, ◌*◌, ◌/◌, ◌%◌, List, leb, ltb, take, set, replicate, if◌then◌else◌, Option, Some, None}
use Rattle.event_lines.specs.Split.{fed_by}
use Rattle.hex_lines.specs.declared.HexReading.{HexReading}
use Rattle.hex_lines.specs.Hex.{HexText, malformed, octets, hex_value, is_hex, is_even}

-- no byte read
unfoldable pub hex_start : HexReading
hex_start = record { count = 0; high = 0; bytes = replicate 32 0 }

-- malformed, whatever follows; the room stays
abbrev pub not_hex : HexReading → HexReading
not_hex r = record { count = 65; high = 0; bytes = r.bytes }

-- the first digit of a pair waits, the second makes a byte
unfoldable pub with_hex : HexReading → ℕ → HexReading
with_hex r d =
    if is_even r.count
    then record { count = r.count + 1; high = d; bytes = r.bytes }
    else record { count = r.count + 1; high = 0; bytes = set r.bytes (r.count / 2) (r.high % 16 * 16 + d) }

unfoldable pub read_hex : HexReading → ℕ → HexReading
read_hex r b = if is_hex b then (if ltb r.count 64 then with_hex r (hex_value b) else not_hex r) else not_hex r

-- the line ends here: so many bytes, at the front of the reading's room, or malformed
unfoldable pub hex_end : HexReading → Option ℕ
hex_end r = if leb r.count 64 then (if is_even r.count then Some (r.count / 2) else None) else None

-- what an answer says, with the room of the reading that it is an answer to
abbrev pub hex_says : Option ℕ → List ℕ → HexText
hex_says None room = malformed
hex_says (Some n) room = octets (take n room)

-- bytes one after the other
abbrev pub fed_hex : HexReading → List ℕ → HexReading
fed_hex = fed_by read_hex
