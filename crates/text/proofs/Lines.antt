-- For callers: a line's parts, put one after the other, are their joined text.
use Prim.Native.Nat.{ℕ, ◌+◌, ◌≤◌, ◌<◌}
use mathlib.Core.Path.{◌≡◌, refl, sym, ap, ap₂, ◌∙◌, subst}
use mathlib.Core.List.{List, [], ◌++◌}
use native.Mathlib.Decide.{dec_le}
use native.Mathlib.Omega.{arith}
use lib.ListN.{length, length-append}
use lib.Seq.{paste-zero}
use Rattle.text.specs.Text.{put_at}
use Rattle.text.specs.Line.{Puts, Adds}
use Rattle.text.specs.declared.Line.{Line}
use Rattle.text.proofs.Puts.{place_over, place_fits, put_fits, length_put}
use Rattle.text.proofs.Chains.{put_twice}

pub adds_put : {text : List ℕ} {a b : Line} → Puts text a b → Adds text a b
adds_put {text} {a} {b} p =
    record {
      same = p.same;
      size = ap length p.output ∙ length_put text a.at a.out.now;
      place = λ h. p.place ∙ place_fits text a.at a.out.now h;
      output = λ h. p.output;
      over = λ h. omega (arith, p.place, place_over text a.at a.out.now h);
    }

pub adds_none : (a : Line) → Adds [] a a
adds_none a =
    record {
      same = refl;
      size = refl;
      place = λ h. omega arith;
      output = λ h. paste-zero a.out.now a.at [] ∙ sym (put_fits [] a.at a.out.now h);
      over = λ h. omega arith;
    }

pub adds_more : {xs ys : List ℕ} {a b c : Line} → Adds xs a b → Adds ys b c → Adds (xs ++ ys) a c
adds_more {xs} {ys} {a} {b} {c} p q =
    let whole : length (xs ++ ys) ≡ length xs + length ys = length-append xs ys in
    record {
      same = q.same ∙ p.same;
      size = q.size ∙ p.size;
      place = λ h. omega (arith, whole, p.size, p.place (omega arith), q.place (omega (arith, p.size, p.place (omega arith))));
      output = λ h.
          let here : b.at ≡ a.at + length xs = p.place (omega arith) in
          q.output (omega (arith, p.size, here))
          ∙ ap₂ (λ (x : ℕ) (y : List ℕ). put_at ys x y) here (p.output (omega arith)) ∙ put_twice xs ys a.at a.out.now h;
      over = λ h. go h (dec_le (a.at + length xs) (length a.out.now));
    }
  where
    go : length a.out.now < a.at + length (xs ++ ys) → Dec (a.at + length xs ≤ length a.out.now) → length a.out.now < c.at
    go h (yes l) = omega (arith, length-append xs ys, p.size, p.place l, q.over (omega (arith, length-append xs ys, p.size, p.place l)))
    go h (no l) = omega (arith, p.size, p.over (omega arith), q.over (omega (arith, p.size, p.over (omega arith))))

-- one part more
pub adds_then : {xs ys : List ℕ} {a b c : Line} → Adds xs a b → Puts ys b c → Adds (xs ++ ys) a c
adds_then p q = adds_more p (adds_put q)

-- the same text, written otherwise
pub adds_same : {xs ys : List ℕ} {a b : Line} → xs ≡ ys → Adds xs a b → Adds ys a b
adds_same {a = a} {b = b} e p = subst (λ (x : List ℕ). Adds x a b) e p

pub puts_same : {xs ys : List ℕ} {a b : Line} → xs ≡ ys → Puts xs a b → Puts ys a b
puts_same {a = a} {b = b} e p = subst (λ (x : List ℕ). Puts x a b) e p

-- parts of which all fit are a text put whole
pub puts_parts : {text : List ℕ} {a b : Line} → a.at + length text ≤ length a.out.now → Adds text a b → Puts text a b
puts_parts {text} {a} {b} h p =
    record { same = p.same; place = p.place h ∙ sym (place_fits text a.at a.out.now h); output = p.output h }

-- a line from the output's front, whose text fits: where it ends, and the output behind the line
pub adds_front : {text : List ℕ} {a b : Line} {last : List ℕ} → Adds text a b → a.at ≡ 0 → length text ≤ length a.out.now
    → last ≡ b.out.now → (b.at ≡ length text) × (last ≡ put_at text 0 a.out.now)
adds_front {text} {a} {b} p z h e =
    let fits : a.at + length text ≤ length a.out.now = omega arith in
    (omega (arith, p.place fits), e ∙ p.output fits ∙ ap (λ (n : ℕ). put_at text n a.out.now) z)
