-- The letter's format: what is written reads back; bytes that read to a letter are exactly what writing it gives; what is
-- read may travel in the network.
use Rattle.std.specs.Prelude.{if◌then◌else◌}
use Prim.Native.Nat.{ℕ, zero, suc, ◌/◌, ◌%◌, ◌≤◌, ◌<◌}
use mathlib.Core.Bool.{Bool, true, false, not, ◌&&◌, ◌||◌}
use mathlib.Core.Path.{◌≡◌, refl, sym, ap, ap₂, ◌∙◌, subst, subst⁻¹}
use mathlib.Core.List.{List, [], ◌∷◌, ◌++◌, append-nil}
use native.Mathlib.Nat.{div-add-mod'}
use native.Mathlib.Omega.{arith}
use lib.Dec.{T, eqb, leb, ltb, leb→le, ltb→lt, lt→ltb, eqb→eq, eqb_refl}
use lib.ListN.{length, get_or}
use borrow.Author.Tests.{ne_eqb, eqb-true}
use Rattle.lists.proofs.Tests.{and_l, and_r, and_i, or_left, or_right, T_is, is_T, if_elim}
use Rattle.fields.specs.Fields.{Field, short, field, first_field, write_field, is_empty, are_bytes, longest_value}
use Rattle.fields.proofs.Law.{cut_written, written_cut, parts_bytes, field_bytes}
use Rattle.net.specs.declared.Body.{Body}
use Rattle.net.specs.declared.Body.TheVariants.{Request, Reply, Notice}
use Rattle.net.specs.declared.Letter.{Letter}
use Rattle.net.specs.Network.{Network, ends, is_end}
use Rattle.sheet_rules.specs.Rules.{sheet_holds}
use Rattle.net.specs.declared.Net.{Net}
use Rattle.net.specs.Values.{network_of}
use Rattle.sheet_rules.specs.Values.{net_holds}
use Rattle.net.specs.Sizes.{link_room, largest_counter}
use Rattle.net.specs.Letters.{is_counter, body_holds, letter_holds}
use Rattle.letters.specs.Letters.{refused, letter, Form, unknown, says, form_of, sender_of, side_of, values_hold}
use Rattle.letters.specs.Letters.{judged, letter_from, read_letter, body_bytes, write_letter}
use Rattle.letters.specs.Values.{reading}
use Rattle.sheet_rules.proofs.Rules.{rules_of}
use Rattle.sheet_rules.proofs.Ends.{ends_rise}
use Rattle.sheet_rules.proofs.Good.{sheet_good}
use Rattle.letters.proofs.Forms.{tag_of, payload, bytes_are, is_form}

-- ---- side and sender
module _ (net : Network) (k : ℕ) where
  side_small : (s : ℕ) → T (leb (side_of net k s) 1)
  side_small s = if_elim (λ (x : ℕ). T (leb x 1)) (eqb (ends net k).low s) (λ _. tt) (λ _. tt)

  -- the side of an end names that end
  sender_back : (s : ℕ) → T (is_end net k s) → sender_of net k (side_of net k s) ≡ s
  sender_back s e = go (eqb (ends net k).low s) refl e
    where
      go : (b : Bool) → eqb (ends net k).low s ≡ b → T (b || eqb (ends net k).high s) → sender_of net k (if b then 0 else 1) ≡ s
      go true p t = eqb-true (ends net k).low s p
      go false p t = eqb→eq (ends net k).high s t

  -- the end that a side names is an end
  sender_end : (side : ℕ) → T (is_end net k (sender_of net k side))
  sender_end side =
      if_elim (λ (x : ℕ). T (is_end net k x)) (eqb side 0)
      (λ _. or_left (eqb (ends net k).low (ends net k).low) _ (eqb_refl (ends net k).low))
      (λ _. or_right (eqb (ends net k).low (ends net k).high) _ (eqb_refl (ends net k).high))

  -- and its side is that side, since a link's ends differ
  side_back : (side : ℕ) → T (leb side 1) → (ends net k).low < (ends net k).high → side_of net k (sender_of net k side) ≡ side
  side_back side t h = go side (leb→le side 1 t)
    where
      differ : (ends net k).low ≡ (ends net k).high → ⊥
      differ e = omega arith

      go : (x : ℕ) → x ≤ 1 → side_of net k (sender_of net k x) ≡ x
      go zero l = ap (λ (b : Bool). if b then 0 else 1) (T_is (eqb (ends net k).low (ends net k).low) (eqb_refl (ends net k).low))
      go (suc zero) l = ap (λ (b : Bool). if b then 0 else 1) (ne_eqb (ends net k).low (ends net k).high differ)
      go (suc (suc x)) l = absurd (omega arith)

-- ---- what was written reads back
form_back : (k side : ℕ) (b : Body) → form_of (tag_of b) (k ∷ side ∷ payload b) ≡ says b
unfolding form_of
form_back k side Request = refl
form_back k side (Reply c) = rw (div-add-mod' c 256)
form_back k side (Notice s c) = rw (div-add-mod' c 256)

pub reads_back : (net : Network) (x : Letter) → T (letter_holds net x) → read_letter net (write_letter net x) ≡ letter x
unfolding read_letter write_letter judged letter_holds
reads_back net x t =
    let k = x.link in
    let side = side_of net k x.sender in
    let b = x.body in
    let v = k ∷ side ∷ payload b in
    let a = ltb k (length net.links) in
    let e = is_end net k x.sender in
    let u = and_l (a && e) (body_holds net b) t in
    let good : values_hold net k side b ≡ true = T_is (values_hold net k side b)
    (and_i (a && leb side 1) _ (and_i a _ (and_l a e u) (side_small net k x.sender)) (and_r (a && e) (body_holds net b) t)) in
    ap (λ (l : List ℕ). letter_from net (first_field l)) (bytes_are k side b ∙ sym (append-nil (write_field (tag_of b) v)))
    ∙ ap (letter_from net) (cut_written (tag_of b) v [])
    ∙ ap (λ (f : Form). judged net k side f []) (form_back k side b)
    ∙ ap (λ (z : Bool). if not z then refused 3 else letter (record { link = k; sender = sender_of net k side; body = b })) good
    ∙ ap (λ (s : ℕ). letter (record { link = k; sender = s; body = b })) (sender_back net k x.sender (and_r a e u))

-- ---- what is read
record Whole (net : Network) (bytes : List ℕ) (x : Letter) : Type 0 where
  pub tag : ℕ
  pub value : List ℕ
  pub cut : first_field bytes ≡ field tag value []
  pub form : form_of tag value ≡ says x.body
  pub link : x.link ≡ get_or value 0 0
  pub sender : x.sender ≡ sender_of net (get_or value 0 0) (get_or value 1 0)
  pub holds : T (values_hold net (get_or value 0 0) (get_or value 1 0) x.body)

whole : (net : Network) (bytes : List ℕ) (x : Letter) → read_letter net bytes ≡ letter x → Whole net bytes x
unfolding read_letter judged
whole net bytes x e = go (first_field bytes) refl e
  where
    go : (f : Field) → first_field bytes ≡ f → letter_from net f ≡ letter x → Whole net bytes x
    go short p q = let z : ◌≡◌ {A = ℕ} 0 1 = cc in absurd (omega arith)
    go (field t v rest) p q = formed (form_of t v) refl q
      where
        formed : (f : Form) → form_of t v ≡ f → judged net (get_or v 0 0) (get_or v 1 0) f rest ≡ letter x → Whole net bytes x
        formed unknown g q = let z : ◌≡◌ {A = ℕ} 0 1 = cc in absurd (omega arith)
        formed (says b) g q = tested (values_hold net (get_or v 0 0) (get_or v 1 0) b) rest refl p q
          where
            tested : (w : Bool) (r : List ℕ) → values_hold net (get_or v 0 0) (get_or v 1 0) b ≡ w → first_field bytes ≡ field t v r
                → (if not w then refused 3 else (if not (is_empty r) then refused 2 else letter
                (record { link = get_or v 0 0; sender = sender_of net (get_or v 0 0) (get_or v 1 0); body = b }))) ≡ letter x → Whole net bytes x
            tested false r h p q = let z : ◌≡◌ {A = ℕ} 0 1 = cc in absurd (omega arith)
            tested true (y ∷ r) h p q = let z : ◌≡◌ {A = ℕ} 0 1 = cc in absurd (omega arith)
            tested true [] h p q =
                let l : record { link = get_or v 0 0; sender = sender_of net (get_or v 0 0) (get_or v 1 0); body = b } ≡ x = cc in
                let c : b ≡ x.body = ap (λ (y : Letter). y.body) l in
                record {
                  tag = t;
                  value = v;
                  cut = p;
                  form = g ∙ ap says c;
                  link = sym (ap (λ (y : Letter). y.link) l);
                  sender = sym (ap (λ (y : Letter). y.sender) l);
                  holds =
                      subst (λ (y : Body). T (values_hold net (get_or v 0 0) (get_or v 1 0) y)) c
                      (is_T (values_hold net (get_or v 0 0) (get_or v 1 0) b) h);
                }

-- what is read may travel: its link, sender, subject and counter are in range
pub read_holds : (net : Network) (bytes : List ℕ) (x : Letter) → read_letter net bytes ≡ letter x → T (letter_holds net x)
unfolding letter_holds
read_holds net bytes x e =
    let w = whole net bytes x e in
    let k = get_or w.value 0 0 in
    let side = get_or w.value 1 0 in
    let a = ltb k (length net.links) in
    let u = and_l (a && leb side 1) _ w.holds in
    subst⁻¹ (λ (y : ℕ). T (ltb y (length net.links) && is_end net y x.sender && body_holds net x.body)) w.link
    (and_i (a && is_end net k x.sender) _
    (and_i a _ (and_l a _ u) (subst⁻¹ (λ (s : ℕ). T (is_end net k s)) w.sender (sender_end net k side)))
    (and_r (a && leb side 1) _ w.holds))

value_bytes : (tag : ℕ) (v : List ℕ) → T (are_bytes (write_field tag v)) → T (are_bytes v)
unfolding write_field
value_bytes tag v h = (parts_bytes (tag ∷ length v / 256 ∷ length v % 256 ∷ []) v h).1

-- one writing: against a good network, bytes that read to a letter are exactly what writing that letter gives
pub one_writing : (net : Network) (bytes : List ℕ) (x : Letter) → T (sheet_holds net) → T (are_bytes bytes) → read_letter net bytes ≡ letter x
    → bytes ≡ write_letter net x
unfolding write_letter
one_writing net bytes x good t e =
    let w = whole net bytes x e in
    let v = w.value in
    let k = get_or v 0 0 in
    let side = get_or v 1 0 in
    let a = ltb k (length net.links) in
    let u = and_l (a && leb side 1) _ w.holds in
    let f = is_form w.tag v x.body w.form in
    let split : bytes ≡ write_field w.tag v ++ [] = written_cut bytes w.tag v [] t w.cut in
    let ends-differ = ends_rise net good k (ltb→lt k (length net.links) (and_l a _ u)) in
    let sides : side ≡ side_of net k x.sender = sym (ap (side_of net k) w.sender ∙ side_back net k side (and_r a _ u) ends-differ) in
    split ∙ append-nil (write_field w.tag v)
    ∙ ap₂ write_field f.tag (f.value (value_bytes w.tag v
    (subst (λ (l : List ℕ). T (are_bytes l)) (split ∙ append-nil (write_field w.tag v)) t)))
    ∙ sym (bytes_are k side x.body)
    ∙ ap (λ (z : ℕ). body_bytes k z x.body) sides
    ∙ ap (λ (z : ℕ). body_bytes z (side_of net z x.sender) x.body) (sym w.link)

-- so two byte strings never read to one letter
pub same_bytes : (net : Network) (xs ys : List ℕ) (x : Letter) → T (sheet_holds net) → T (are_bytes xs) → T (are_bytes ys)
    → read_letter net xs ≡ letter x → read_letter net ys ≡ letter x → xs ≡ ys
same_bytes net xs ys x good t u p q = one_writing net xs x good t p ∙ sym (one_writing net ys x good u q)

-- and what is written is bytes: so a letter that may travel in a good network has exactly one writing
pub writes_bytes : (net : Network) (x : Letter) → T (sheet_holds net) → T (letter_holds net x) → T (are_bytes (write_letter net x))
unfolding write_letter letter_holds
writes_bytes net x good t =
    subst⁻¹ (λ (l : List ℕ). T (are_bytes l)) (bytes_are k side x.body)
    (field_bytes (tag_of x.body) (k ∷ side ∷ payload x.body) (tag_small x.body) (payload_small x.body)
    (and_i (ltb k 256) _ (lt→ltb k 256 (omega (arith, few, ltb→lt k m (and_l a e u))))
    (and_i (ltb side 256) _ (lt→ltb side 256 (omega (arith, leb→le side 1 (side_small net k x.sender))))
    (payload_bytes x.body (and_r (a && e) (body_holds net x.body) t)))))
  where
    k : ℕ
    k = x.link

    m : ℕ
    m = length net.links

    side : ℕ
    side = side_of net k x.sender

    a : Bool
    a = ltb k m

    e : Bool
    e = is_end net k x.sender

    u : T (a && e)
    u = and_l (a && e) (body_holds net x.body) t

    few : m ≤ link_room
    few = (rules_of net good).few_links

    tag_small : (b : Body) → tag_of b < 256
    tag_small Request = omega arith
    tag_small (Reply c) = omega arith
    tag_small (Notice s c) = omega arith

    payload_small : (b : Body) → length (k ∷ side ∷ payload b) ≤ longest_value
    payload_small Request = omega arith
    payload_small (Reply c) = omega arith
    payload_small (Notice s c) = omega arith

    two_bytes : (c : ℕ) → T (is_counter c) → T (are_bytes (c / 256 ∷ c % 256 ∷ []))
    two_bytes c h =
        let l = leb→le c largest_counter (and_r (leb 1 c) _ h) in
        and_i (ltb (c / 256) 256) _ (lt→ltb (c / 256) 256 (omega arith))
        (and_i (ltb (c % 256) 256) _ (lt→ltb (c % 256) 256 (omega arith)) tt)

    payload_bytes : (b : Body) → T (body_holds net b) → T (are_bytes (payload b))
    payload_bytes Request h = tt
    payload_bytes (Reply c) h = two_bytes c h
    payload_bytes (Notice s c) h =
        and_i (ltb s 256) _ (lt→ltb s 256 (omega (arith, few, ltb→lt s m (and_l (ltb s m) _ h)))) (two_bytes c (and_r (ltb s m) _ h))

-- ---- the same for a network value, as the code is given one
module _ (net : Net) (x : Letter) where
  pub written_read : T (net_holds net) → T (letter_holds (network_of net) x) → reading net (write_letter (network_of net) x) ≡ letter x
  unfolding reading
  written_read g t = let h = T_is (net_holds net) g in rw h (reads_back (network_of net) x t)

  -- a letter was read, so the network was good
  was_good : (bytes : List ℕ) → reading net bytes ≡ letter x → T (net_holds net) × (read_letter (network_of net) bytes ≡ letter x)
  unfolding reading
  was_good bytes e = go (net_holds net) refl e
    where
      go : (b : Bool) → net_holds net ≡ b → (if not b then refused 11 else read_letter (network_of net) bytes) ≡ letter x
          → T (net_holds net) × (read_letter (network_of net) bytes ≡ letter x)
      go false p q = let z : ◌≡◌ {A = ℕ} 0 1 = cc in absurd (omega arith)
      go true p q = (is_T (net_holds net) p, q)

  pub read_written : (bytes : List ℕ) → T (are_bytes bytes) → reading net bytes ≡ letter x → bytes ≡ write_letter (network_of net) x
  read_written bytes t e = let w = was_good bytes e in one_writing (network_of net) bytes x (sheet_good net w.0) t w.1

  pub read_travels : (bytes : List ℕ) → reading net bytes ≡ letter x → T (letter_holds (network_of net) x)
  read_travels bytes e = read_holds (network_of net) bytes x (was_good bytes e).1
