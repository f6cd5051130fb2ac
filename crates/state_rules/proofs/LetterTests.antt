-- The test of a letter by its sender's own links is the definition's.
use Prim.Native.Nat.{ℕ, ◌+◌, ◌%◌, ◌<◌}
use mathlib.Core.Bool.{Bool, true, false, ◌&&◌}
use mathlib.Core.Path.{◌≡◌, sym, ap, ap₂, ◌∙◌}
use native.Mathlib.Decide.{dec_lt}
use native.Mathlib.Omega.{arith}
use native.Mathlib.Nat.{mod-eq_of_lt}
use lib.Dec.{leb, ltb}
use borrow.Author.Tests.{lt-ltb, le-ltb, le-leb, lt-leb}
use Rattle.lists.specs.Words.{in_word}
use Rattle.lists.proofs.Tests.{and_assoc}
use Rattle.net.specs.declared.Body.{Body}
use Rattle.net.specs.declared.Body.TheVariants.{Request, Reply, Notice}
use Rattle.net.specs.declared.Letter.{Letter}
use Rattle.net.specs.declared.Net.{Net}
use Rattle.net.specs.Network.{is_end}
use Rattle.net.specs.Letters.{is_counter, letter_holds}
use Rattle.net.specs.Values.{network_of, link_count, body_test}
use Rattle.net.specs.Sizes.{station_room, link_room}
use Rattle.net.proofs.ValueLaws.{links_of_lem}
use Rattle.net.proofs.Bodies.{body_is}
use Rattle.sets.specs.Sets.{word_by}
use Rattle.sets.proofs.WordLaws.{in_by}
use Rattle.marks.specs.Marks.{own_at}
use Rattle.state_rules.specs.Carried.{past_subject, counter_holds, way_test, letter_test}

past_is : (j n : ℕ) → leb (j + 1) n ≡ ltb j n
past_is j n = go (dec_lt j n)
  where
    go : Dec (j < n) → leb (j + 1) n ≡ ltb j n
    go (yes h) = le-leb (j + 1) n (omega arith) ∙ sym (lt-ltb j n h)
    go (no h) = lt-leb (j + 1) n (omega arith) ∙ sym (le-ltb j n (omega arith))

body_by : (links : ℕ) (b : Body) → (leb (past_subject b) links && counter_holds b) ≡ body_test links b
body_by links Request = ap (λ (b : Bool). b && true) (le-leb 0 links (omega arith))
body_by links (Reply c) = ap (λ (b : Bool). b && is_counter c) (le-leb 0 links (omega arith))
body_by links (Notice j c) = ap (λ (b : Bool). b && is_counter c) (past_is j links)

-- ---- the letter
module _ (net : Net) (x : Letter) where
  abbrev body : Bool
  body = body_test (link_count net) x.body

  parts : letter_holds (network_of net) x ≡ ((ltb x.link (link_count net) && is_end (network_of net) x.link x.sender) && body)
  unfolding letter_holds
  parts =
      ap₂ (λ (n : ℕ) (b : Bool). (ltb x.link n && is_end (network_of net) x.link x.sender) && b) (links_of_lem net)
      (sym (body_is net x.body))

  joined : (own : ℕ) → letter_test (link_count net) own x ≡ ((way_test x && in_word own (x.link % link_room)) && body)
  joined own =
      sym (and_assoc (way_test x && in_word own (x.link % link_room)) _ _)
      ∙ ap (λ (b : Bool). (way_test x && in_word own (x.link % link_room)) && b) (body_by (link_count net) x.body)

  -- whatever word it is: a link or a sender beyond its room; no station beyond the room is an end
  pub way_beyond : (own : ℕ) → way_test x ≡ false → (ltb x.link (link_count net) && is_end (network_of net) x.link x.sender) ≡ false
      → letter_test (link_count net) own x ≡ letter_holds (network_of net) x
  way_beyond own w e =
      joined own ∙ ap (λ (b : Bool). (b && in_word own (x.link % link_room)) && body) w ∙ sym (parts ∙ ap (λ (b : Bool). b && body) e)

  -- the own links of its sender
  pub letter_is : (own : ℕ) → x.link < link_room → x.sender < station_room → own ≡ word_by (own_at net x.sender)
      → letter_test (link_count net) own x ≡ letter_holds (network_of net) x
  letter_is own l h e =
      joined own
      ∙ ap₂ (λ (a b : Bool). ((a && b) && in_word own (x.link % link_room)) && body) (lt-ltb x.link link_room l)
      (lt-ltb x.sender station_room h)
      ∙ ap (λ (b : Bool). b && body) (ap₂ (λ (w k : ℕ). in_word w k) e (mod-eq_of_lt l) ∙ in_by (own_at net x.sender) x.link l)
      ∙ sym parts
