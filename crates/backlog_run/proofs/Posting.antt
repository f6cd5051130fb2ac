-- New letters go behind those in flight, one after the other, in a room in which the others stand anywhere.
use Prim.Native.Nat.{ℕ, ◌+◌, ◌-◌, ◌≤◌, ◌<◌}
use borrow.Rule.Slice.PartMut.{put_mid}
use mathlib.Core.Path.{◌≡◌, refl, sym, ap, ◌∙◌}
use mathlib.Core.List.{List, ◌++◌}
use native.Mathlib.Decide.{ℕ_discrete}
use native.Mathlib.Omega.{arith}
use lib.ListN.{length, get_or, set, take, drop, length-set}
use lib.Seq.{get_or-set_same, get_or-set_other, ext_get_or}
use Rattle.net.specs.declared.Letter.{Letter}
use Rattle.station.specs.declared.Sending.{Sending}
use Rattle.station.specs.Values.{letters_of}
use Rattle.post.specs.declared.Post.{Post}
use Rattle.post.specs.Post.{posted, Going, begun_post, first_left, rest_left}
use Rattle.post.specs.Links.{lowest_in}
use Rattle.post.proofs.PostLaws as P
use Rattle.world.specs.World.{no_letter}
use Rattle.run_rooms.specs.Rooms.{in_flight}
use Rattle.run_rooms.proofs.Loops.{part_long, mid_before, mid_inside}
use Rattle.run_rooms.proofs.Moves.{joined}

-- the places that they are to fill
pub lent_long : (l : List Letter) (from n : ℕ) → from + n ≤ length l → length (take (from + n - from) (drop from l)) ≡ n
lent_long l from n h = part_long l from (from + n - from) ∙ omega (arith, h)

-- the first i of the letters that are posted stand in the places that they are to fill
pub record Posting (me : ℕ) (told : List ℕ) (post₀ : Post) (count : ℕ) (l : List Letter) (post : Post) (i : ℕ)
    : Type 0 where
  pub size : length l ≡ count
  pub many : count ≡ length (posted me told post₀)
  pub going : Going post
  pub rest : posted me told post ≡ drop i (posted me told post₀)
  pub put : (m : ℕ) → m < i → get_or l m no_letter ≡ get_or (posted me told post₀) m no_letter

pub posts_none : (me : ℕ) (told : List ℕ) (count : ℕ) (l : List Letter) (send : Sending) (post : Post) → post ≡ begun_post send
    → length l ≡ count → count ≡ length (letters_of me told send) → Posting me told post count l post 0
posts_none me told count l send post y size n =
    let g = P.start me told send post y in
    record { size = size; many = n ∙ ap length (sym g.0); going = g.1; rest = refl; put = λ m k. absurd (never m k) }
  where
    never : (m : ℕ) → m < 0 → ⊥
    never m k = omega (arith, k)

module _ {me : ℕ} {told : List ℕ} {post₀ : Post} {count : ℕ} {l : List Letter} {post : Post} {i : ℕ}
    (p : Posting me told post₀ count l post i) where
  pub posts_more : i < count → (j c : ℕ) (y : Letter) (q : Post) → j ≡ lowest_in post.subjects → c ≡ get_or told j 0
      → y ≡ first_left me c post → q ≡ rest_left post → Posting me told post₀ count (set l i y) q (i + 1)
  posts_more h j c y q ej ec ey eq =
      let k : i < length (posted me told post₀) = omega (arith, h, p.many) in
      let st = P.step_seen me told post q j c y (posted me told post₀) i no_letter ej ec ey eq p.going p.rest k in
      record { size = length-set l i y ∙ p.size; many = p.many; going = st.2; rest = st.1; put = λ m n. go m n st.0 (ℕ_discrete m i) }
    where
      go : (m : ℕ) → m < i + 1 → y ≡ get_or (posted me told post₀) i no_letter → Dec (m ≡ i)
          → get_or (set l i y) m no_letter ≡ get_or (posted me told post₀) m no_letter
      go m n is (yes e) =
          ap (λ (x : ℕ). get_or (set l i y) x no_letter) e ∙ get_or-set_same l i y no_letter (omega (arith, h, p.size)) ∙ is
          ∙ ap (λ (x : ℕ). get_or (posted me told post₀) x no_letter) (sym e)
      go m n is (no d) = get_or-set_other l i m y no_letter d ∙ p.put m (less d)
        where
          less : (m ≡ i → ⊥) → m < i
          less d = omega (arith, n, d)

  -- all of them do, and they were laid behind those in flight
  pub posts_end : count ≤ i → (old : List Letter) (start left behind n : ℕ) → behind ≡ start + left → n ≡ count
      → behind + n ≤ length old → (send : Sending) → post₀ ≡ begun_post send
      → in_flight (put_mid behind n old l) start (left + count) ≡ in_flight old start left ++ letters_of me told send
  posts_end e old start left behind n b c fits send y =
      let same : l ≡ posted me told post₀ =
      ext_get_or no_letter l (posted me told post₀) (p.size ∙ p.many) (λ m h. p.put m (omega (arith, h, e, p.size))) in
      let long : length l ≡ n = omega (arith, p.size, c) in
      joined old (put_mid behind n old l) l start left count (sym p.size)
      (λ j h. mid_before behind n old l no_letter long fits j (omega (arith, h, b)))
      (λ m h. ap (λ (k : ℕ). get_or (put_mid behind n old l) (k + m) no_letter) (sym b)
      ∙ mid_inside behind n old l no_letter long fits m (omega (arith, h, c)))
      ∙ ap (λ (x : List Letter). in_flight old start left ++ x) (same ∙ (P.start me told send post₀ y).0)
