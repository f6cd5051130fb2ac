-- What the private steps of the code answer: small tests that the laws of proofs/ join to Network and Reach.
use Rattle.std.specs.Prelude.{ℕ, ◌+◌, ◌^◌, ◌<◌, ◌≡◌, ◌⊎◌, Bool, not, ◌&&◌, eqb, ltb}
use Rattle.lists.specs.Words.{bit_at}

-- a working link between two of the n stations, of which the word has one and lacks the other
abbrev pub crosses : ℕ → ℕ → ℕ → Bool → ℕ → Bool
crosses n a b works w = works && (ltb a n && (ltb b n && not (eqb (bit_at w a) (bit_at w b))))

-- r is the word w with one bit more: that of one of two ends of which w has the other
pub record Apart (a b w r : ℕ) : Type 0 where
  pub new : ℕ
  pub small : new < 32
  pub lacks : bit_at w new ≡ 0
  pub more : r ≡ w + 2 ^ new
  pub which : ((new ≡ a) × (bit_at w b ≡ 1)) ⊎ ((new ≡ b) × (bit_at w a ≡ 1))
