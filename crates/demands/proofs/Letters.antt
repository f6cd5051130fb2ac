-- A letter's numbers: each when, and only when, its reason of specs/LetterReasons.antt stands; for every answer that the promise of the
-- reading allows.
use Rattle.std.specs.Prelude.{Result}
use Prim.Native.Nat.{ℕ, ◌/◌, ◌%◌, ◌≤◌, ◌<◌}
use mathlib.Core.Bool.{Bool, true, false, not, ◌&&◌}
use mathlib.Core.Path.{◌≡◌, refl, sym, ap, ◌∙◌, subst, subst⁻¹}
use mathlib.Core.Logic.{◌↔◌}
use mathlib.Core.List.{List, [], ◌∷◌, map}
use native.Mathlib.Omega.{arith}
use lib.Dec.{T, leb, ltb, ltb→lt, lt→ltb, leb→le, le→leb}
use lib.ListN.{length, get_or}
use Rattle.lists.proofs.Tests.{T_is, T_not_is, is_T, and_l, and_r, and_i, if_elim}
use Rattle.lists.specs.Lists.{below}
use Rattle.lists.proofs.Fill.{by_places}
use Rattle.fields.proofs.Seen.{tag_is, size_is}
use Rattle.fields.specs.Fields.{Field, wide, first_field, write_field, is_field, is_empty, are_bytes}
use Rattle.fields.proofs.Law.{parts_bytes}
use Rattle.net.specs.declared.Body.{Body}
use Rattle.net.specs.declared.Body.TheVariants.{Request, Reply, Notice}
use Rattle.net.specs.declared.Letter.{Letter}
use Rattle.net.specs.declared.Net.{Net}
use Rattle.net.specs.Network.{Network}
use Rattle.net.specs.Letters.{body_holds}
use Rattle.net.specs.Values.{network_of}
use Rattle.letters.specs.declared.LetterError.{LetterError}
use Rattle.letters.specs.Letters as L
use Rattle.letters.specs.Letters.{Letters, form_of, says, values_hold}
use Rattle.letters.specs.Values.{reading, letters_of}
use Rattle.letters.proofs.Laws.{written_read, read_written, read_travels}
use Rattle.letters.proofs.Refusals as R
use Rattle.demands.specs.Given.{net_holds, GoodNet, Front}
use Rattle.demands.specs.LetterReasons as W
use Rattle.demands.specs.LetterReasons.{Form, BodyInRange, InRange, LetterFault, LetterRead, letters_number}
use Rattle.demands.proofs.Fronts.{no_test, test_no, front_cut, cut_front, ends_short, short_ends, field_no, no_field}

-- ---- the forms
module _ (t : ℕ) (v : List ℕ) where
  abbrev Here : ℕ → Body → Type 0
  Here tag b = Form tag v (get_or v 0 0) (get_or v 1 0) b

  -- a field of this tag and of n bytes has the form that its bytes make
  of_bytes : (tag n : ℕ) (b : Body) → T (is_field tag n t v)
      → Form tag (map (λ i. get_or v i 0) (below n)) (get_or v 0 0) (get_or v 1 0) b → Here t b
  of_bytes tag n b h f =
      subst⁻¹ (λ (m : ℕ). Here m b) (tag_is tag n t v h)
      (subst⁻¹ (λ (l : List ℕ). Form tag l (get_or v 0 0) (get_or v 1 0) b) (by_places 0 n v (size_is tag n t v h)) f)

  form_told : (b : Body) → form_of t v ≡ says b → Here t b
  unfolding form_of
  form_told b e =
      if_elim P (is_field 33 2 t v) (λ h q. subst (Here t) (body q) (of_bytes 33 2 Request h W.request))
      (λ _. if_elim P (is_field 34 4 t v)
      (λ h q. subst (Here t) (body q) (of_bytes 34 4 (Reply (wide (get_or v 2 0) (get_or v 3 0))) h W.reply))
      (λ _. if_elim P (is_field 35 5 t v)
      (λ h q. subst (Here t) (body q) (of_bytes 35 5 (Notice (get_or v 2 0) (wide (get_or v 3 0) (get_or v 4 0))) h W.notice))
      (λ _ q. let z : ◌≡◌ {A = ℕ} 0 1 = cc in absurd (omega arith)))) e
    where
      P : L.Form → Type 0
      P x = x ≡ says b → Here t b

      body : {x : Body} → says x ≡ says b → x ≡ b
      body q = cc

-- a counter of two bytes is at most 65,535
abbrev Small : Body → Type 0
Small Request = Unit {0}
Small (Reply c) = c ≤ 65535
Small (Notice j c) = c ≤ 65535

-- what a form says of the definitions
record Formed (t : ℕ) (v : List ℕ) (k s : ℕ) (b : Body) : Type 0 where
  pub form : form_of t v ≡ says b
  pub link : get_or v 0 0 ≡ k
  pub side : get_or v 1 0 ≡ s
  pub small : T (are_bytes v) → Small b

byte_of : (x : ℕ) (l : List ℕ) → T (are_bytes (x ∷ l)) → (x < 256) × T (are_bytes l)
byte_of x l t = (ltb→lt x 256 (and_l (ltb x 256) _ t), and_r (ltb x 256) _ t)

form_when : {t : ℕ} {v : List ℕ} {k s : ℕ} {b : Body} → Form t v k s b → Formed t v k s b
unfolding form_of
form_when W.request = record { form = refl; link = refl; side = refl; small = λ _. tt }
form_when (W.reply {link} {side} {high} {low}) =
    record {
      form = refl;
      link = refl;
      side = refl;
      small = λ x.
          let a = byte_of high (low ∷ []) (byte_of side (high ∷ low ∷ []) (byte_of link (side ∷ high ∷ low ∷ []) x).1).1 in
          let b = byte_of low [] a.1 in
          omega (arith, a.0, b.0);
    }
form_when (W.notice {link} {side} {subject} {high} {low}) =
    record {
      form = refl;
      link = refl;
      side = refl;
      small = λ x.
          let a = byte_of high (low ∷ []) (byte_of subject (high ∷ low ∷ [])
          (byte_of side (subject ∷ high ∷ low ∷ []) (byte_of link (side ∷ subject ∷ high ∷ low ∷ []) x).1).1).1 in
          let b = byte_of low [] a.1 in
          omega (arith, a.0, b.0);
    }

-- ---- the range
module _ (net : Network) where
  body_told : (b : Body) → T (body_holds net b) → BodyInRange net b
  body_told Request t = tt
  body_told (Reply c) t = leb→le 1 c (and_l (leb 1 c) _ t)
  body_told (Notice j c) t =
      let m = length net.links in
      (ltb→lt j m (and_l (ltb j m) _ t), leb→le 1 c (and_l (leb 1 c) _ (and_r (ltb j m) _ t)))

  body_when : (b : Body) → Small b → BodyInRange net b → T (body_holds net b)
  body_when Request s r = tt
  body_when (Reply c) s r = and_i (leb 1 c) _ (le→leb 1 c r) (le→leb c 65535 s)
  body_when (Notice j c) s r =
      let m = length net.links in
      and_i (ltb j m) _ (lt→ltb j m r.0) (and_i (leb 1 c) _ (le→leb 1 c r.1) (le→leb c 65535 s))

  module _ (k s : ℕ) (b : Body) where
    abbrev a : Bool
    a = ltb k (length net.links)

    range_told : T (values_hold net k s b) → InRange net k s b
    range_told t =
        let u = and_l (a && leb s 1) _ t in
        record {
          link_exists = ltb→lt k (length net.links) (and_l a _ u);
          side_is = leb→le s 1 (and_r a _ u);
          body_is = body_told b (and_r (a && leb s 1) _ t);
        }

    range_when : Small b → InRange net k s b → T (values_hold net k s b)
    range_when z r =
        and_i (a && leb s 1) _ (and_i a _ (lt→ltb k (length net.links) r.link_exists) (le→leb s 1 r.side_is))
        (body_when b z r.body_is)

  -- ---- the field
  value_bytes : (tag : ℕ) (v rest bytes : List ℕ) → T (are_bytes bytes) → Front bytes tag v rest → T (are_bytes v)
  unfolding write_field
  value_bytes tag v rest bytes b e =
      let w = (parts_bytes (write_field tag v) rest (subst (λ (l : List ℕ). T (are_bytes l)) e b)).0 in
      (parts_bytes (tag ∷ length v / 256 ∷ length v % 256 ∷ []) v w).1

  module _ (bytes : List ℕ) (w : T (are_bytes bytes)) where
    fault_told : {n : ℕ} (f : Field) → first_field bytes ≡ f → R.Fault net f n → LetterFault net bytes n
    fault_told f e R.cut_off = W.one (short_ends bytes e)
    fault_told f e (R.unfit {t} {v} {rest} p q r) =
        W.two t v rest (cut_front bytes w e) (field_no 33 2 t v p) (field_no 34 4 t v q) (field_no 35 5 t v r)
    fault_told f e (R.no_value {t} {v} {rest} b g h) =
        let i = cut_front bytes w e in
        let c = form_told t v b g in
        W.three t v rest (get_or v 0 0) (get_or v 1 0) b i c
        (λ r. no_test (values_hold net (get_or v 0 0) (get_or v 1 0) b) h
        (range_when (get_or v 0 0) (get_or v 1 0) b ((form_when c).small (value_bytes t v rest bytes w i)) r))
    fault_told f e (R.trailing {t} {v} {rest} b g h m) =
        W.after t v rest (get_or v 0 0) (get_or v 1 0) b (cut_front bytes w e) (form_told t v b g)
        (range_told (get_or v 0 0) (get_or v 1 0) b (is_T (values_hold net (get_or v 0 0) (get_or v 1 0) b) h))
        (λ q. no_test (is_empty rest) m (subst⁻¹ (λ (l : List ℕ). T (is_empty l)) q tt))

    is_empty_lem : (l : List ℕ) → (l ≡ [] → ⊥) → is_empty l ≡ false
    is_empty_lem [] f = absurd (f refl)
    is_empty_lem (x ∷ l) f = refl

    fault_when : {n : ℕ} → LetterFault net bytes n → R.Fault net (first_field bytes) n
    fault_when (W.one e) = subst⁻¹ (λ (f : Field). R.Fault net f 1) (ends_short e) R.cut_off
    fault_when (W.two t v rest e p q r) =
        subst⁻¹ (λ (f : Field). R.Fault net f 2) (front_cut e) (R.unfit (no_field 33 2 t v p) (no_field 34 4 t v q) (no_field 35 5 t v r))
    fault_when (W.three t v rest k s b e c n) =
        let f = form_when c in
        subst⁻¹ (λ (f : Field). R.Fault net f 3) (front_cut e)
        (R.no_value b f.form (test_no (values_hold net (get_or v 0 0) (get_or v 1 0) b)
        (λ t. n (range_told k s b (subst (λ (y : ℕ). T (values_hold net k y b)) f.side
        (subst (λ (x : ℕ). T (values_hold net x (get_or v 1 0) b)) f.link t))))))
    fault_when (W.after t v rest k s b e c r n) =
        let f = form_when c in
        let u = range_when k s b (f.small (value_bytes t v rest bytes w e)) r in
        subst⁻¹ (λ (f : Field). R.Fault net f 2) (front_cut e)
        (R.trailing b f.form (T_is (values_hold net (get_or v 0 0) (get_or v 1 0) b)
        (subst⁻¹ (λ (x : ℕ). T (values_hold net x (get_or v 1 0) b)) f.link (subst⁻¹ (λ (y : ℕ). T (values_hold net k y b)) f.side u)))
        (is_empty_lem rest n))

-- ---- the whole letter
module _ (net : Net) (bytes : List ℕ) (w : T (are_bytes bytes)) where
  -- a letter was read, so the network was good
  was_good : (x : Letter) → reading net bytes ≡ L.letter x → GoodNet net
  was_good x e = go (net_holds net) refl
    where
      go : (b : Bool) → net_holds net ≡ b → GoodNet net
      go true p = is_T (net_holds net) p
      go false p = let q = R.refused_when net bytes 11 (R.bad_network p) in let z : ◌≡◌ {A = ℕ} 0 1 = cc in absurd (omega arith)

  read_why : (l : Letters) → reading net bytes ≡ l → LetterRead net bytes (letters_number l)
  read_why (L.refused n) e = told (R.refused_only net bytes n e)
    where
      told : {n : ℕ} → R.Refused net bytes n → LetterRead net bytes n
      told (R.bad_network p) = W.eleven (subst⁻¹ (λ (b : Bool). T (not b)) p tt)
      told (R.at_field p f) = W.at_field (is_T _ p) (fault_told (network_of net) bytes w (first_field bytes) refl f)
  read_why (L.letter x) e = W.taken (was_good x e) x (read_travels net x bytes e) (read_written net x bytes w e)

  why_read : {n : ℕ} → LetterRead net bytes n → letters_number (reading net bytes) ≡ n
  why_read (W.eleven p) = ap letters_number (R.refused_when net bytes 11 (R.bad_network (T_not_is _ p)))
  why_read {n} (W.at_field p f) =
      ap letters_number (R.refused_when net bytes n (R.at_field (T_is _ p) (fault_when (network_of net) bytes w f)))
  why_read (W.taken g x h e) = ap (λ (l : List ℕ). letters_number (reading net l)) e ∙ ap letters_number (written_read net x g h)

  -- EACH NUMBER WHEN, AND ONLY WHEN, ITS REASON STANDS: for every answer that the reading's promise allows
  pub letter_numbers_lem : (r : Result Letter LetterError) → letters_of r ≡ reading net bytes → (n : ℕ)
      → (letters_number (letters_of r) ≡ n) ↔ LetterRead net bytes n
  letter_numbers_lem r p n = (
    (λ e. subst (LetterRead net bytes) (sym (ap letters_number p) ∙ e) (read_why (reading net bytes) refl)),
    (λ q. ap letters_number p ∙ why_read q),
  )
