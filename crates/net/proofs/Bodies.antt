-- The test of what a letter says: in the order in which the code asks, and against a network.
use Prim.Native.Nat.{ℕ, ◌≤◌, ◌<◌}
use mathlib.Core.Bool.{Bool, false, ◌&&◌}
use mathlib.Core.Path.{◌≡◌, refl, sym, ap, ◌∙◌}
use native.Mathlib.Omega.{arith}
use lib.Dec.{leb, ltb}
use borrow.Author.Tests.{lt-ltb, le-ltb, le-leb}
use Rattle.lists.proofs.Tests.{and_yes}
use Rattle.net.specs.declared.Body.{Body}
use Rattle.net.specs.declared.Body.TheVariants.{Request, Reply, Notice}
use Rattle.net.specs.declared.Net.{Net}
use Rattle.net.specs.Sizes.{largest_counter}
use Rattle.net.specs.Letters.{is_counter, body_holds}
use Rattle.net.specs.Values.{network_of, link_count, body_test}
use Rattle.net.proofs.ValueLaws.{links_of_lem}

-- a number of 16 bits is a counter if it is no 0
pub counter_is : (c : ℕ) → c ≤ largest_counter → leb 1 c ≡ is_counter c
counter_is c h = sym (and_yes (leb 1 c)) ∙ ap (λ (b : Bool). leb 1 c && b) (sym (le-leb c largest_counter h))

module _ (links : ℕ) (b : Body) where
  pub body_reply : (c : ℕ) → b ≡ Reply c → c < 65536 → leb 1 c ≡ body_test links b
  body_reply c e h = counter_is c (omega arith) ∙ sym (ap (body_test links) e)

  pub body_none : (s c : ℕ) → b ≡ Notice s c → links ≤ s → false ≡ body_test links b
  body_none s c e h = sym (ap (body_test links) e ∙ simp (le-ltb s links h))

  pub body_notice : (s c : ℕ) → b ≡ Notice s c → s < links → c < 65536 → leb 1 c ≡ body_test links b
  body_notice s c e h g = counter_is c (omega arith) ∙ sym (ap (body_test links) e ∙ simp (lt-ltb s links h))

pub body_is : (net : Net) (b : Body) → body_test (link_count net) b ≡ body_holds (network_of net) b
body_is net Request = refl
body_is net (Reply c) = refl
body_is net (Notice j c) = ap (λ (n : ℕ). ltb j n && is_counter c) (sym (links_of_lem net))
