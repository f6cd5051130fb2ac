-- The parts of a line: bytes in hexadecimal, put one after the other, and a number with its space, spelled into a room of six bytes.
use Prim.Native.Nat.{ℕ, ◌+◌, ◌*◌, ◌≤◌, ◌<◌}
use mathlib.Core.Path.{◌≡◌, refl, sym, ap, ◌∙◌}
use mathlib.Core.List.{List, [], ◌∷◌, ◌++◌, append-nil}
use native.Mathlib.Numerals.{add-one}
use native.Mathlib.Omega.{arith}
use lib.ListN.{length, get_or, take, drop, length-append}
use lib.Seq.{take-suc, take-length, take_at, length-take-le}
use Rattle.lists.specs.Places.{collect}
use Rattle.lists.proofs.Places.{collect_append}
use Rattle.text.specs.Text.{digits, hex_pair}
use Rattle.text.proofs.Digits.{digits_at_most}
use Rattle.text.proofs.Puts.{put_fits}
use Rattle.text.specs.Line.{Puts, Adds}
use Rattle.text.specs.declared.Line.{Line}
use Rattle.text.proofs.Lines.{adds_put, adds_then, adds_same, adds_front, puts_parts}
use Rattle.text.specs.Parts.{field_text, hex_text}

-- ---- bytes
hex_more : (bytes : List ℕ) (i : ℕ) → i < length bytes
    → collect hex_pair (take i bytes) ++ hex_pair (get_or bytes i 0) ≡ collect hex_pair (take (i + 1) bytes)
hex_more bytes i h =
    rw (add-one, take-suc bytes i 0 h)
    (sym (collect_append hex_pair (take i bytes) (get_or bytes i 0 ∷ [])
    ∙ ap (λ (l : List ℕ). collect hex_pair (take i bytes) ++ l) (append-nil (hex_pair (get_or bytes i 0)))))

hex_length : (bytes : List ℕ) → length (collect hex_pair bytes) ≡ 2 * length bytes
hex_length [] = refl
hex_length (b ∷ bytes) = omega (arith, length-append (hex_pair b) (collect hex_pair bytes), hex_length bytes)

hex_whole : (bytes : List ℕ) (i : ℕ) → i ≡ length bytes → collect hex_pair (take i bytes) ≡ hex_text bytes
unfolding hex_text
hex_whole bytes i e = ap (collect hex_pair) (ap (λ (n : ℕ). take n bytes) e ∙ take-length bytes)

pub text_length : (bytes : List ℕ) → length (hex_text bytes) ≡ 2 * length bytes
unfolding hex_text
text_length bytes = hex_length bytes

-- the first i bytes were put
module _ (bytes : List ℕ) (i : ℕ) {a b : Line} (s : Adds (collect hex_pair (take i bytes)) a b) where
  pub bytes_more : {c : Line} → i < length bytes → Puts (hex_pair (get_or bytes i 0)) b c → Adds (collect hex_pair (take (i + 1) bytes)) a c
  bytes_more h p = adds_same (hex_more bytes i h) (adds_then s p)

  pub bytes_all : i ≡ length bytes → a.at + 2 * length bytes ≤ length a.out.now → Puts (hex_text bytes) a b
  bytes_all e h = puts_parts (omega (arith, text_length bytes)) (adds_same (hex_whole bytes i e) s)

-- ---- a number and its space
pub field_length : (n : ℕ) → n < 65536 → length (field_text n) ≤ 6
unfolding field_text
field_length n h = omega (arith, length-append (digits n) (32 ∷ []), digits_at_most 4 n (omega arith))

-- both, put at the front of a room of six
module _ (n : ℕ) {a b c : Line} {room : List ℕ} (h : n < 65536) (z : a.at ≡ 0) (full : length a.out.now ≡ 6) (p : Puts (digits n) a b)
    (q : Puts (32 ∷ []) b c) (e : room ≡ c.out.now) where
  both : Adds (field_text n) a c
  unfolding field_text
  both = adds_then (adds_put p) q

  pub field_end : c.at ≤ length room
  field_end = omega (arith, field_length n h, both.size, ap length e, (adds_front both z (omega (arith, field_length n h)) e).0)

  pub field_taken : c.at ≡ length (take c.at room)
  field_taken = sym (length-take-le c.at room field_end)

  pub field_spelled : take c.at room ≡ field_text n
  field_spelled =
      let w = adds_front both z (omega (arith, field_length n h)) e in
      ap (take c.at) (w.1 ∙ put_fits (field_text n) 0 a.out.now (omega (arith, field_length n h)))
      ∙ take_at (field_text n) (drop (0 + length (field_text n)) a.out.now) c.at (sym w.0)
