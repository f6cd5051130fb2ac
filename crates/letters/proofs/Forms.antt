-- What a known form says of the field: read backwards.
use Prim.Native.Nat.{ℕ, ◌/◌, ◌%◌, ◌≤◌, ◌<◌}
use mathlib.Core.Path.{◌≡◌, refl, sym, ap₂, ◌∙◌, subst}
use mathlib.Core.List.{List, [], ◌∷◌}
use native.Mathlib.Omega.{arith}
use lib.Dec.{T, ltb, ltb→lt}
use lib.ListN.{length, get_or}
use Rattle.lists.proofs.Tests.{if_elim, every_at}
use Rattle.lists.proofs.Fill.{by_places}
use Rattle.fields.proofs.Seen.{tag_is, size_is}
use Rattle.fields.specs.Fields.{wide, write_field, is_field, are_bytes}
use Rattle.net.specs.declared.Body.{Body}
use Rattle.net.specs.declared.Body.TheVariants.{Request, Reply, Notice}
use Rattle.letters.specs.Letters.{Form, says, form_of, body_bytes, request_tag, reply_tag, notice_tag}

-- the tag of a body, and what stands in the value after link and side
abbrev pub tag_of : Body → ℕ
tag_of Request = request_tag
tag_of (Reply c) = reply_tag
tag_of (Notice s c) = notice_tag

abbrev pub payload : Body → List ℕ
payload Request = []
payload (Reply c) = c / 256 ∷ c % 256 ∷ []
payload (Notice s c) = s ∷ c / 256 ∷ c % 256 ∷ []

pub bytes_are : (k side : ℕ) (b : Body) → body_bytes k side b ≡ write_field (tag_of b) (k ∷ side ∷ payload b)
bytes_are k side Request = refl
bytes_are k side (Reply c) = refl
bytes_are k side (Notice s c) = refl

pub record IsForm (t : ℕ) (v : List ℕ) (b : Body) : Type 0 where
  pub tag : t ≡ tag_of b
  pub size : 2 ≤ length v
  pub value : T (are_bytes v) → v ≡ get_or v 0 0 ∷ get_or v 1 0 ∷ payload b

-- a two-byte number of bytes, taken apart again
high_low : (v : List ℕ) (i j : ℕ) → T (are_bytes v) → i < length v → j < length v
    → (wide (get_or v i 0) (get_or v j 0) / 256 ≡ get_or v i 0) × (wide (get_or v i 0) (get_or v j 0) % 256 ≡ get_or v j 0)
high_low v i j t h g =
    let a = ltb→lt (get_or v i 0) 256 (every_at (λ b. ltb b 256) v i 0 t h) in
    let b = ltb→lt (get_or v j 0) 256 (every_at (λ b. ltb b 256) v j 0 t g) in
    (omega arith, omega arith)

module _ (t : ℕ) (v : List ℕ) where
  is_request_lem : T (is_field request_tag 2 t v) → IsForm t v Request
  is_request_lem h =
      let n = size_is request_tag 2 t v h in
      record { tag = tag_is request_tag 2 t v h; size = omega arith; value = λ w. by_places 0 2 v n }

  is_reply : T (is_field reply_tag 4 t v) → IsForm t v (Reply (wide (get_or v 2 0) (get_or v 3 0)))
  is_reply h =
      let n = size_is reply_tag 4 t v h in
      record {
        tag = tag_is reply_tag 4 t v h;
        size = omega arith;
        value =
            λ w. let c = high_low v 2 3 w (omega arith) (omega arith) in
            by_places 0 4 v n ∙ ap₂ (λ (x y : ℕ). get_or v 0 0 ∷ get_or v 1 0 ∷ x ∷ y ∷ []) (sym c.0) (sym c.1);
      }

  is_notice_lem : T (is_field notice_tag 5 t v) → IsForm t v (Notice (get_or v 2 0) (wide (get_or v 3 0) (get_or v 4 0)))
  is_notice_lem h =
      let n = size_is notice_tag 5 t v h in
      record {
        tag = tag_is notice_tag 5 t v h;
        size = omega arith;
        value =
            λ w. let c = high_low v 3 4 w (omega arith) (omega arith) in
            by_places 0 5 v n ∙ ap₂ (λ (x y : ℕ). get_or v 0 0 ∷ get_or v 1 0 ∷ get_or v 2 0 ∷ x ∷ y ∷ []) (sym c.0) (sym c.1);
      }

  pub is_form : (b : Body) → form_of t v ≡ says b → IsForm t v b
  unfolding form_of
  is_form b e =
      if_elim P (is_field request_tag 2 t v) (λ h q. subst (IsForm t v) (body q) (is_request_lem h))
      (λ _. if_elim P (is_field reply_tag 4 t v) (λ h q. subst (IsForm t v) (body q) (is_reply h))
      (λ _. if_elim P (is_field notice_tag 5 t v) (λ h q. subst (IsForm t v) (body q) (is_notice_lem h))
      (λ _ q. let z : ◌≡◌ {A = ℕ} 0 1 = cc in absurd (omega arith)))) e
    where
      P : Form → Type 0
      P x = x ≡ says b → IsForm t v b

      body : {x : Body} → says x ≡ says b → x ≡ b
      body q = cc
