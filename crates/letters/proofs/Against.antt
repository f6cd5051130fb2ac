-- What the returns of `read` say, against a network.
use Rattle.std.specs.Prelude.{Option, Some, IfSome}
use Prim.Native.Nat.{ℕ, ◌<◌}
use mathlib.Core.Bool.{Bool, true, false, ◌&&◌}
use mathlib.Core.Path.{◌≡◌, refl, sym, ap, ap₂, ◌∙◌}
use mathlib.Core.List.{List, [], ◌∷◌}
use native.Mathlib.Omega.{arith}
use lib.Dec.{eqb, leb, ltb, ltb→lt}
use lib.ListN.{length, get_or}
use borrow.Author.Tests.{ne_eqb}
use Rattle.lists.proofs.Tests.{and_l, is_T}
use Rattle.fields.specs.declared.Cut.{Cut}
use Rattle.fields.specs.Fields.{short, field, first_field, cut_as, is_empty}
use Rattle.net.specs.declared.Net.{Net}
use Rattle.net.specs.declared.Body.{Body}
use Rattle.net.specs.Network.{Ends, Network}
use Rattle.net.specs.Values.{network_of}
use Rattle.net.specs.Sizes.{link_room}
use Rattle.sheet_rules.specs.Values.{net_holds}
use Rattle.letters.specs.declared.Said.{Said}
use Rattle.letters.specs.Letters.{refused, letter, Form, unknown, says, form_of, sender_of, values_hold, judged, letter_from, read_letter}
use Rattle.letters.specs.Values.{reading}
use Rattle.sheet_rules.proofs.Good.{few_places, links_are, ends_are, bodies_are}
use Rattle.letters.specs.Steps.{form_in, values_test, sender_in}

-- ---- the values, as the meaning of a good network has them
values_are : (net : Net) → net_holds net ≡ true → (k side : ℕ) (b : Body)
    → values_hold (network_of net) k side b ≡ values_test net.links k side b
values_are net good k side b =
    let t = is_T (net_holds net) good in
    ap₂ (λ (m : ℕ) (x : Bool). ltb k m && leb side 1 && x) (links_are net t) (bodies_are net t b)

empty_test : (l : List ℕ) → is_empty l ≡ eqb (length l) 0
empty_test [] = refl
empty_test (x ∷ l) = sym (ne_eqb (length (x ∷ l)) 0 (λ e. omega arith))

-- ---- reading
module _ (net : Net) (bytes : List ℕ) where
  pub read_bad : false ≡ net_holds net → refused 11 ≡ reading net bytes
  unfolding reading
  read_bad e = simp (sym e)

  module _ (good : true ≡ net_holds net) where
    reads : reading net bytes ≡ letter_from (network_of net) (first_field bytes)
    unfolding reading read_letter
    reads = simp (sym good)

    pub read_short : short ≡ first_field bytes → refused 1 ≡ reading net bytes
    read_short p = ap (letter_from (network_of net)) p ∙ sym reads

-- what is known where a field was cut off the front
pub record Fielded (net : Net) (bytes : List ℕ) (t : ℕ) (v rest : List ℕ) : Type 0 where
  pub good : true ≡ net_holds net
  pub cut : field t v rest ≡ first_field bytes

module _ {net : Net} {bytes : List ℕ} {t : ℕ} {v rest : List ℕ} (known : Fielded net bytes t v rest) where
  judges : (f : Form) → f ≡ form_of t v → judged (network_of net) (get_or v 0 0) (get_or v 1 0) f rest ≡ reading net bytes
  judges f p =
      ap (λ (x : Form). judged (network_of net) (get_or v 0 0) (get_or v 1 0) x rest) p
      ∙ ap (letter_from (network_of net)) known.cut ∙ sym (reads net bytes known.good)

  pub read_unknown : unknown ≡ form_of t v → refused 2 ≡ reading net bytes
  unfolding judged
  read_unknown p = judges unknown p

-- what is known where the field has a form besides
pub record Formed (net : Net) (bytes : List ℕ) (t : ℕ) (v rest : List ℕ) (s : Said) : Type 0 where
  pub fielded : Fielded net bytes t v rest
  pub form : says s.body ≡ form_of t v
  pub ends : (s.link ≡ get_or v 0 0) × (s.side ≡ get_or v 1 0)

-- what the calls before the test of the values answered makes it
pub formed : {net : Net} {bytes : List ℕ} {o : Option Cut} {f : Cut} {q : Option Said} {s : Said} → true ≡ net_holds net
    → cut_as o ≡ first_field bytes → o ≡ Some f → form_in q ≡ form_of f.tag f.value.now
    → IfSome q (λ x. (x.link ≡ get_or f.value.now 0 0) × (x.side ≡ get_or f.value.now 1 0)) → q ≡ Some s
    → Formed net bytes f.tag f.value.now f.rest.now s
formed g c o f e q = record { fielded = record { good = g; cut = rw o at c }; form = rw q at f; ends = rw q at e }

module _ {net : Net} {bytes : List ℕ} {t : ℕ} {v rest : List ℕ} {s : Said} (known : Formed net bytes t v rest s) where
  abbrev N : Network
  N = network_of net

  said : judged N s.link s.side (says s.body) rest ≡ reading net bytes
  said = ap₂ (λ (x y : ℕ). judged N x y (says s.body) rest) known.ends.0 known.ends.1 ∙ judges known.fielded (says s.body) known.form

  holds : (w : Bool) → w ≡ values_test net.links s.link s.side s.body → values_hold N s.link s.side s.body ≡ w
  holds w g = values_are net (sym known.fielded.good) s.link s.side s.body ∙ sym g

  pub read_range : false ≡ values_test net.links s.link s.side s.body → refused 3 ≡ reading net bytes
  unfolding judged
  read_range g = sym (sym said ∙ simp (holds false g))

  -- and its values are good
  module _ (g : true ≡ values_test net.links s.link s.side s.body) where
    link_inside : s.link < net.links
    link_inside =
        let u = and_l (ltb s.link net.links && leb s.side 1) _ (is_T (values_test net.links s.link s.side s.body) (sym g)) in
        ltb→lt s.link net.links (and_l (ltb s.link net.links) _ u)

    pub place_inside : s.link < link_room
    place_inside = omega (arith, link_inside, few_places net (is_T (net_holds net) (sym known.fielded.good)))

    pub read_more : false ≡ eqb (length rest) 0 → refused 2 ≡ reading net bytes
    unfolding judged
    read_more m = sym (sym said ∙ simp (holds true g, empty_test rest, sym m))

    pub read_good : (sender : ℕ) → true ≡ eqb (length rest) 0
        → sender ≡ sender_in (get_or net.low s.link 0) (get_or net.high s.link 0) s.side
        → letter (record { link = s.link; sender = sender; body = s.body }) ≡ reading net bytes
    unfolding judged
    read_good sender m o =
        let y : sender_of N s.link s.side ≡ sender =
        ap (λ (z : Ends). sender_in z.low z.high s.side)
        (ends_are net (is_T (net_holds net) (sym known.fielded.good)) s.link link_inside) ∙ sym o in
        sym (sym said ∙ simp (holds true g, empty_test rest, sym m)
        (ap (λ (z : ℕ). letter (record { link = s.link; sender = z; body = s.body })) y))
