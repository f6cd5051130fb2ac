-- The bytes of a hexadecimal line, one after the other, give what specs/Hex.antt says of the whole line.
use Rattle.std.specs.Prelude.{if◌then◌else◌, Some, None}
use Prim.Native.Nat.{ℕ, suc, ◌+◌, ◌*◌, ◌/◌, ◌%◌, ◌≤◌, ◌<◌}
use mathlib.Core.Bool.{Bool, true, false, ◌&&◌}
use mathlib.Core.Path.{◌≡◌, refl, sym, ap, ◌∙◌}
use mathlib.Core.List.{List, [], ◌∷◌, ◌++◌, append-nil, append_assoc}
use native.Mathlib.Nat.{zero-add, add-zero}
use native.Mathlib.Decide.{dec_lt, ℕ_discrete}
use native.Mathlib.Omega.{arith}
use lib.Dec.{eqb, leb}
use lib.ListN.{length, take, set, length-set}
use lib.Seq.{take-suc-set}
use borrow.Author.Tests.{lt-ltb, le-ltb, le-leb, lt-leb, eq-eqb, ne_eqb, leb-true}
use Rattle.lists.specs.Lists.{every}
use Rattle.lists.proofs.Tests.{and_no, if_elim}
use Rattle.hex_lines.specs.declared.HexReading.{HexReading}
use Rattle.hex_lines.specs.Hex.{HexText, malformed, octets, hex_value, is_hex, pairs, is_even, hex_line}
use Rattle.hex_lines.specs.HexSteps.{hex_start, with_hex, read_hex, hex_end, hex_says, fed_hex}

-- what the line that was read so far says, if it ends here
abbrev says : HexReading → HexText
says r = hex_says (hex_end r) r.bytes

-- ---- a malformed line stays so, whatever follows
abbrev Beyond : HexReading → Type 0
Beyond r = 65 ≤ r.count

beyond_on : (r : HexReading) (b : ℕ) → Beyond r → Beyond (read_hex r b)
unfolding read_hex
beyond_on r b h = simp (le-ltb r.count 64 (omega arith)) (if_elim Beyond (is_hex b) (λ t. omega arith) (λ t. omega arith))

beyond_end : (bytes : List ℕ) (r : HexReading) → Beyond r → says (fed_hex r bytes) ≡ malformed
unfolding hex_end
beyond_end [] r h = simp (lt-leb r.count 64 h)
beyond_end (b ∷ bytes) r h = beyond_end bytes (read_hex r b) (beyond_on r b h)

-- ---- pairs, where the first digit may be read already: whether it waits, and its value
abbrev pairs_on : Bool → ℕ → List ℕ → List ℕ
pairs_on waits h [] = []
pairs_on false h (b ∷ bytes) = pairs_on true (hex_value b) bytes
pairs_on true h (b ∷ bytes) = (h * 16 + hex_value b) ∷ pairs_on false 0 bytes

pairs_are : (bytes : List ℕ) (h : ℕ) → pairs_on false h bytes ≡ pairs bytes
pairs_are [] h = refl
pairs_are (a ∷ []) h = refl
pairs_are (a ∷ b ∷ bytes) h = ap {B = List ℕ} (λ l. (hex_value a * 16 + hex_value b) ∷ l) (pairs_are bytes 0)

-- what the line says, if n digits are read, their pairs stand in the room, and these bytes are to come
abbrev is_odd : ℕ → Bool
is_odd n = eqb (n % 2) 1

unfoldable given : ℕ → ℕ → List ℕ → List ℕ → HexText
given n h room bytes =
    if every is_hex bytes && (leb (n + length bytes) 64 && is_even (n + length bytes))
    then octets (take (n / 2) room ++ pairs_on (is_odd n) h bytes)
    else malformed

abbrev at : ℕ → ℕ → List ℕ → HexReading
at n h room = record { count = n; high = h; bytes = room }

says_if : (t : Bool) (k : ℕ) (room : List ℕ)
    → hex_says (if t then Some k else None) room ≡ (if t then octets (take k room) else malformed)
says_if true k room = refl
says_if false k room = refl

given_end : (n h : ℕ) (room : List ℕ) → n ≤ 64 → says (at n h room) ≡ given n h room []
unfolding hex_end given
given_end n h room l = simp (le-leb n 64 l, add-zero, append-nil) (says_if (is_even n) (n / 2) room)

module _ (n h : ℕ) (room : List ℕ) (b : ℕ) (bytes : List ℕ) where
  given_no : 16 ≤ hex_value b → given n h room (b ∷ bytes) ≡ malformed
  unfolding given
  given_no l = simp (le-ltb (hex_value b) 16 l)

  given_long : 64 ≤ n → given n h room (b ∷ bytes) ≡ malformed
  unfolding given
  given_long l = simp (lt-leb (n + suc (length bytes)) 64 (omega arith), and_no)

  given_first : hex_value b < 16 → n % 2 ≡ 0 → given (n + 1) (hex_value b) room bytes ≡ given n h room (b ∷ bytes)
  unfolding given
  given_first l e =
      let size : n + 1 + length bytes ≡ n + suc (length bytes) = omega arith in
      let half : (n + 1) / 2 ≡ n / 2 = omega arith in
      simp (size, half, lt-ltb (hex_value b) 16 l, eq-eqb ((n + 1) % 2) 1 (omega arith), ne_eqb (n % 2) 1 (λ x. omega arith))

  given_second : hex_value b < 16 → h < 16 → length room ≡ 32 → n < 64 → n % 2 ≡ 1
      → given (n + 1) 0 (set room (n / 2) (h % 16 * 16 + hex_value b)) bytes ≡ given n h room (b ∷ bytes)
  unfolding given
  given_second l small full m e =
      let size : n + 1 + length bytes ≡ n + suc (length bytes) = omega arith in
      let half : (n + 1) / 2 ≡ suc (n / 2) = omega arith in
      let same : h % 16 ≡ h = omega arith in
      simp (
        size,
        half,
        same,
        lt-ltb (hex_value b) 16 l,
        ne_eqb ((n + 1) % 2) 1 (λ x. omega arith),
        eq-eqb (n % 2) 1 e,
        take-suc-set room (n / 2) (h * 16 + hex_value b) (omega arith),
        append_assoc,
      )

-- ---- what a byte does to a reading
module _ (n h : ℕ) (room : List ℕ) (b : ℕ) where
  on_no : 16 ≤ hex_value b → read_hex (at n h room) b ≡ at 65 0 room
  unfolding read_hex
  on_no l = simp (le-ltb (hex_value b) 16 l)

  on_long : hex_value b < 16 → 64 ≤ n → read_hex (at n h room) b ≡ at 65 0 room
  unfolding read_hex
  on_long l m = simp (lt-ltb (hex_value b) 16 l, le-ltb n 64 m)

  on_first_lem : hex_value b < 16 → n < 64 → n % 2 ≡ 0 → read_hex (at n h room) b ≡ at (n + 1) (hex_value b) room
  unfolding read_hex with_hex
  on_first_lem l m e = simp (lt-ltb (hex_value b) 16 l, lt-ltb n 64 m, eq-eqb (n % 2) 0 e)

  on_second : hex_value b < 16 → n < 64 → (n % 2 ≡ 0 → ⊥)
      → read_hex (at n h room) b ≡ at (n + 1) 0 (set room (n / 2) (h % 16 * 16 + hex_value b))
  unfolding read_hex with_hex
  on_second l m e = simp (lt-ltb (hex_value b) 16 l, lt-ltb n 64 m, ne_eqb (n % 2) 0 e)

-- ---- the whole line, from any place in it
abbrev Rest : List ℕ → Type 0
Rest bytes = (n h : ℕ) (room : List ℕ) → n ≤ 64 → h < 16 → length room ≡ 32 → says (fed_hex (at n h room) bytes) ≡ given n h room bytes

module _ (b : ℕ) (bytes : List ℕ) (behind : Rest bytes) (n h : ℕ) (room : List ℕ) (l : n ≤ 64) (small : h < 16) (full : length room ≡ 32)
  where
    abbrev Now : Type 0
    Now = says (fed_hex (read_hex (at n h room) b) bytes) ≡ given n h room (b ∷ bytes)

    -- a byte that spoils the line
    over : read_hex (at n h room) b ≡ at 65 0 room → given n h room (b ∷ bytes) ≡ malformed → Now
    over e w = ap (λ (x : HexReading). says (fed_hex x bytes)) e ∙ beyond_end bytes (at 65 0 room) (omega arith) ∙ sym w

    byte : Dec (hex_value b < 16) → Dec (n < 64) → Dec (n % 2 ≡ 0) → Now
    byte (no x) y z = over (on_no n h room b (omega arith)) (given_no n h room b bytes (omega arith))
    byte (yes x) (no y) z = over (on_long n h room b x (omega arith)) (given_long n h room b bytes (omega arith))
    byte (yes x) (yes y) (yes z) =
        ap (λ (r : HexReading). says (fed_hex r bytes)) (on_first_lem n h room b x y z)
        ∙ behind (n + 1) (hex_value b) room (omega arith) x full ∙ given_first n h room b bytes x z
    byte (yes x) (yes y) (no z) =
        ap (λ (r : HexReading). says (fed_hex r bytes)) (on_second n h room b x y z)
        ∙ behind (n + 1) 0 (set room (n / 2) (h % 16 * 16 + hex_value b)) (omega arith) (omega arith)
        (length-set room (n / 2) (h % 16 * 16 + hex_value b) ∙ full)
        ∙ given_second n h room b bytes x small full y (omega arith)

rest : (bytes : List ℕ) → Rest bytes
rest [] n h room l small full = given_end n h room l
rest (b ∷ bytes) n h room l small full =
    byte b bytes (rest bytes) n h room l small full (dec_lt (hex_value b) 16) (dec_lt n 64) (ℕ_discrete (n % 2) 0)

-- the law: all bytes of a line from the start, and its end
pub read_hex_line : (bytes : List ℕ) → hex_says (hex_end (fed_hex hex_start bytes)) (fed_hex hex_start bytes).bytes ≡ hex_line bytes
unfolding hex_start hex_line given
read_hex_line bytes = rest bytes 0 0 hex_start.bytes (omega arith) (omega arith) refl ∙ simp (zero-add, pairs_are)

-- the bytes of an answer stand in the room
pub hex_size : (r : HexReading) (n : ℕ) → Some n ≡ hex_end r → n ≤ 32
unfolding hex_end
hex_size r n = go (leb r.count 64) (is_even r.count) refl
  where
    go : (a b : Bool) → leb r.count 64 ≡ a → Some n ≡ (if a then (if b then Some (r.count / 2) else None) else None) → n ≤ 32
    go true true p e = let half : n ≡ r.count / 2 = cc in omega (arith, leb-true r.count 64 p)
    go true false p e = cc
    go false b p e = cc
