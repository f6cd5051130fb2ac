-- Why the count of letters is the sizes of its words put together, and why it fits.
use Rattle.std.specs.Prelude.{if◌then◌else◌}
use Prim.Native.Nat.{ℕ, ◌+◌, ◌*◌, ◌^◌, ◌≤◌, ◌<◌}
use mathlib.Core.Bool.{Bool, true, false}
use mathlib.Core.Path.{◌≡◌, refl, sym, ap₂, ◌∙◌, subst, subst⁻¹}
use mathlib.Core.List.{List, [], ◌∷◌, ◌++◌}
use native.Mathlib.Nat.{mul-le-mul, zero-mul, suc-mul, add_comm}
use native.Mathlib.Omega.{arith}
use lib.Count.{ones}
use lib.ListN.{length, get_or, length-append, length-map}
use Rattle.lists.specs.Lists.{keep, below}
use Rattle.lists.specs.Words.{in_word}
use Rattle.lists.proofs.Numbers.{length_from}
use Rattle.lists.proofs.Counts.{ones_bits}
use Rattle.lists.proofs.Kept.{keep_le}
use Rattle.lists.proofs.Heads.{kept_ones}
use Rattle.net.specs.declared.Body.TheVariants.{Request, Reply, Notice}
use Rattle.net.specs.declared.Letter.{Letter}
use Rattle.station.specs.declared.Sending.{Sending}
use Rattle.station.specs.Done.{letter, on_each, tell}
use Rattle.station.specs.Values.{members_of, letters_of}

-- ---- how many links a word has
pub few_members : (w : ℕ) → length (members_of w) ≤ 64
unfolding members_of
few_members w = subst (λ (n : ℕ). length (keep (in_word w) (below 64)) ≤ n) (length_from 0 64) (keep_le (in_word w) (below 64))

pub ones_members : (w : ℕ) → w < 2 ^ 64 → ones w ≡ length (members_of w)
unfolding members_of
ones_members w h = ones_bits 64 w h ∙ kept_ones w (below 64)

-- ---- the count
length_tell : (s : ℕ) (c : ℕ → ℕ) (js ways : List ℕ) → length (tell s c js ways) ≡ length js * length ways
length_tell s c [] ways = sym (zero-mul (length ways))
length_tell s c (j ∷ js) ways =
    length-append (on_each s (Notice j (c j)) ways) (tell s c js ways)
    ∙ ap₂ (λ (x y : ℕ). x + y) (length-map ways (λ k. letter s k (Notice j (c j)))) (length_tell s c js ways)
    ∙ add_comm (length ways) (length js * length ways)
    ∙ sym (suc-mul (length js) (length ways))

one_or_none : (b : Bool) (x : Letter) → length (if b then (x ∷ []) else []) ≡ (if b then 1 else 0)
one_or_none true x = refl
one_or_none false x = refl

pub count_made : (s : ℕ) (told : List ℕ) (x : Sending) (requests subjects ways reply : ℕ)
    → requests ≡ length (members_of x.requests) → subjects ≡ length (members_of x.subjects)
    → ways ≡ length (members_of x.ways) → reply ≡ (if x.replies then 1 else 0)
    → requests + subjects * ways + reply ≡ length (letters_of s told x)
unfolding letters_of
count_made s told x requests subjects ways reply er es ew eb =
    let rs = on_each s Request (members_of x.requests) in
    let notices = tell s (λ j. get_or told j 0) (members_of x.subjects) (members_of x.ways) in
    let last = (if x.replies then (letter s x.link (Reply x.reply) ∷ []) else []) in
    let r : requests ≡ length rs = er ∙ sym (length-map (members_of x.requests) (λ k. letter s k Request)) in
    let n : subjects * ways ≡ length notices =
    ap₂ (λ (a b : ℕ). a * b) es ew ∙ sym (length_tell s (λ j. get_or told j 0) (members_of x.subjects) (members_of x.ways)) in
    let l : reply ≡ length last = eb ∙ sym (one_or_none x.replies (letter s x.link (Reply x.reply))) in
    omega (arith, length-append rs (notices ++ last), length-append notices last)

-- it fits
pub few : (r w : ℕ) → r ≡ length (members_of w) → r ≤ 64
few r w e = subst⁻¹ (λ (n : ℕ). n ≤ 64) e (few_members w)

pub few_notices : (a b v w : ℕ) → a ≡ length (members_of v) → b ≡ length (members_of w) → a * b ≤ 4096
few_notices a b v w e f = mul-le-mul (few a v e) (few b w f)

pub one_reply : (b : Bool) (r : ℕ) → r ≡ (if b then 1 else 0) → r ≤ 1
one_reply true r e = omega arith
one_reply false r e = omega arith
