-- What stays between the turns of a step's two loops, one that closes the letters up (`Closing`) and one that puts new ones (`Putting`):
-- they change the letters' room and nothing else.
use Prim.Native.Nat.{ℕ, ◌+◌, ◌-◌, ◌≤◌, ◌<◌}
use mathlib.Core.Path.{◌≡◌, refl, sym, ap, ap₂, ◌∙◌}
use mathlib.Core.List.{List, ◌++◌, append_assoc}
use native.Mathlib.Decide.{ℕ_discrete}
use native.Mathlib.Omega.{arith}
use lib.ListN.{length, get_or, set, take, drop, replicate, length-append, length-set, length-take, length-drop, drop_of_length-le}
use lib.Seq.{take_all, take_at, drop_at, get_or-set_same, get_or-set_other, ext_get_or}
use borrow.Rule.Slice.PartMut.{put_mid}
use Rattle.lists.specs.Places.{closing, roomed}
use Rattle.lists.proofs.Rooms.{drop_replicate, closing_none, closing_more}
use Rattle.net.specs.Sizes.{link_room, letter_room}
use Rattle.net.specs.declared.Letter.{Letter}
use Rattle.station.specs.declared.Station.{Station}
use Rattle.post.specs.declared.Post.{Post}
use Rattle.post.specs.Post.{posted, Going, first_left, rest_left}
use Rattle.post.specs.Links.{lowest_in}
use Rattle.post.proofs.PostLaws as P
use Rattle.world.specs.World.{no_letter}
use Rattle.state.specs.declared.State.{State}

-- a list put behind those that are used, in room that is z
roomed_put : {A : Type 0} (size : ℕ) (z : A) (xs ys : List A) (last n : ℕ) → length xs ≡ last → n ≡ length ys
    → length xs + length ys ≤ size → put_mid last n (roomed size z xs) ys ≡ roomed size z (xs ++ ys)
unfolding roomed
roomed_put {A} size z xs ys last n e d h =
    let rest = replicate (size - length xs) z in
    ap₂ (λ (a b : List A). a ++ (ys ++ b)) (take_at xs rest last e)
    (ap (drop n) (drop_at xs rest last e) ∙ drop_replicate n (size - length xs) z
    ∙ ap (λ (k : ℕ). replicate k z) (omega (arith, h, d, length-append xs ys)))
    ∙ sym (append_assoc xs ys (replicate (size - length (xs ++ ys)) z))

-- the state with these letters, and with this station
abbrev pub with_letters : State → List Letter → State
with_letters s ls = record { net = s.net; flying = s.flying; stations = s.stations; letters = ls }

abbrev pub with_station : State → ℕ → Station → State
with_station s i st = record { net = s.net; flying = s.flying; stations = set s.stations i st; letters = s.letters }

-- ---- the later letters close up, from the state s₀ on, as far as place i
pub record Closing (s₀ : State) (from last : ℕ) (s : State) (i : ℕ) : Type 0 where
  pub begun : from ≤ i
  pub ahead : i ≤ last
  pub within : from < last → last < letter_room
  pub room : length s₀.letters ≡ letter_room
  pub so_far : s ≡ with_letters s₀ (closing from s₀.letters i)

pub closes_none : (s : State) (from last : ℕ) → from ≤ last → (from < last → last < letter_room) → length s.letters ≡ letter_room
    → Closing s from last s from
closes_none s from last h w r =
    record {
      begun = omega arith;
      ahead = h;
      within = w;
      room = r;
      so_far = ap (with_letters s) (sym (closing_none from s.letters));
    }

module _ {s₀ s : State} {from last i : ℕ} (c : Closing s₀ from last s i) (h : i < last) where
  -- the letter that moves down is one of the room
  pub next_within : i + 1 < letter_room
  next_within = let w = c.within (omega (arith, c.begun, h)) in omega (arith, w, h)

  pub closes_more : Closing s₀ from last (with_letters s (set s.letters i (get_or s.letters (i + 1) no_letter))) (i + 1)
  closes_more =
      record {
        begun = omega (arith, c.begun);
        ahead = omega (arith, h);
        within = c.within;
        room = c.room;
        so_far = ap (λ (x : State). with_letters x (set x.letters i (get_or x.letters (i + 1) no_letter))) c.so_far
            ∙ ap (with_letters s₀) (closing_more from s₀.letters i no_letter c.begun (omega (arith, next_within, c.room)));
      }

-- ---- new letters go to the end, from the state s₀ on: i of those that are posted
pub record Putting (s₀ : State) (me : ℕ) (told : List ℕ) (last count : ℕ) (post₀ : Post) (s : State) (post : Post) (i : ℕ) : Type 0 where
  pub ahead : i ≤ count
  pub fits : last + count ≤ letter_room
  pub many : count ≡ length (posted me told post₀)
  pub going : Going post
  pub rest : posted me told post ≡ drop i (posted me told post₀)
  pub others : s ≡ with_letters s₀ s.letters
  pub table : length told ≡ link_room
  pub letters : (ls : List Letter) → s₀.letters ≡ roomed letter_room no_letter ls → length ls ≡ last
      → s.letters ≡ roomed letter_room no_letter (ls ++ take i (posted me told post₀))

-- ---- the same in the part of the room that is lent for them, xs being what stands in it
pub record Filling (me : ℕ) (told : List ℕ) (count : ℕ) (post₀ : Post) (xs : List Letter) (post : Post) (i : ℕ) : Type 0 where
  pub size : length xs ≡ count
  pub many : count ≡ length (posted me told post₀)
  pub going : Going post
  pub rest : posted me told post ≡ drop i (posted me told post₀)
  pub so_far : (m : ℕ) → m < i → get_or xs m no_letter ≡ get_or (posted me told post₀) m no_letter

module _ {me : ℕ} {told : List ℕ} {count i : ℕ} {post₀ post : Post} {xs : List Letter} (p : Filling me told count post₀ xs post i)
    (h : i < length xs) where
  pub fills_more : (j : ℕ) (y : Letter) (q : Post) → j ≡ lowest_in post.subjects → y ≡ first_left me (get_or told j 0) post
      → q ≡ rest_left post → Filling me told count post₀ (set xs i y) q (i + 1)
  fills_more j y q ej ey eq =
      let all = posted me told post₀ in
      let st = P.step_seen me told post q j (get_or told j 0) y all i no_letter ej refl ey eq p.going p.rest
      (omega (arith, h, p.size, p.many)) in
      record {
        size = length-set xs i y ∙ p.size;
        many = p.many;
        going = st.2;
        rest = st.1;
        so_far = λ m n. go m n st.0 (ℕ_discrete m i);
      }
    where
      go : (m : ℕ) → m < i + 1 → y ≡ get_or (posted me told post₀) i no_letter → Dec (m ≡ i)
          → get_or (set xs i y) m no_letter ≡ get_or (posted me told post₀) m no_letter
      go m n is (yes e) =
          ap (λ (k : ℕ). get_or (set xs i y) k no_letter) e ∙ get_or-set_same xs i y no_letter h ∙ is
          ∙ ap (λ (k : ℕ). get_or (posted me told post₀) k no_letter) (sym e)
      go m n is (no d) = get_or-set_other xs i m y no_letter d ∙ p.so_far m (less d)
        where
          less : (m ≡ i → ⊥) → m < i
          less d = omega (arith, n, d)

module _ {s₀ : State} {me : ℕ} {told : List ℕ} {last count : ℕ} {post₀ : Post} (p : Putting s₀ me told last count post₀ s₀ post₀ 0) where
  pub fills_none : length s₀.letters ≡ letter_room
      → Filling me told count post₀ (take (last + count - last) (drop last s₀.letters)) post₀ 0
  fills_none h =
      record {
        size = omega (
          arith,
          p.fits,
          h,
          length-take (last + count - last) (drop last s₀.letters),
          length-drop last s₀.letters,
        );
        many = p.many;
        going = p.going;
        rest = p.rest;
        so_far = λ m n. absurd (never n);
      }
    where
      never : {m : ℕ} → m < 0 → ⊥
      never n = omega arith

  -- the part is full: all letters that are posted stand behind those in flight
  pub fills_end : {xs : List Letter} {post : Post} {i : ℕ} → Filling me told count post₀ xs post i → length xs ≤ i
      → Putting s₀ me told last count post₀ (with_letters s₀ (put_mid last (last + count - last) s₀.letters xs)) post count
  fills_end {xs} {post} {i} f h =
      record {
        ahead = omega arith;
        fits = p.fits;
        many = p.many;
        going = f.going;
        rest = f.rest ∙ drop_of_length-le all {i = i} (omega (arith, h, f.size, f.many))
            ∙ sym (drop_of_length-le all {i = count} (omega (arith, f.many)));
        others = refl;
        table = p.table;
        letters = λ ls e n. ap (λ (l : List Letter). put_mid last (last + count - last) l xs) e
            ∙ roomed_put letter_room no_letter ls xs last (last + count - last) n (omega (arith, f.size))
            (omega (arith, p.fits, n, f.size)) ∙ ap (λ (l : List Letter). roomed letter_room no_letter (ls ++ l)) whole;
      }
    where
      all : List Letter
      all = posted me told post₀

      whole : xs ≡ take count all
      whole =
          ext_get_or no_letter xs all (f.size ∙ f.many) (λ m k. f.so_far m (omega (arith, k, h)))
          ∙ sym (take_all count all (omega (arith, f.many)))
