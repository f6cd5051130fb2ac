-- A reader that takes the bytes of a text one by one answers for each of its lines, in order: the law of specs/Split.antt, for any
-- reader and for that of this crate.
use Prim.Native.Nat.{ℕ, ◌+◌, ◌<◌}
use mathlib.Core.Bool.{Bool, true, false}
use mathlib.Core.Path.{◌≡◌, refl, sym, ap, ap₂, ◌∙◌}
use mathlib.Core.List.{List, [], ◌∷◌, ◌++◌, map, append_assoc, append-nil}
use native.Mathlib.Decide.{ℕ_discrete}
use native.Mathlib.Numerals.{add-one}
use lib.ListN.{length, get_or, drop}
use lib.Seq.{drop-cons, drop-length}
use borrow.Author.Tests.{eq-eqb, ne_eqb}
use Rattle.std.proofs.lemmas.List.Sums.{fold-append}
use Rattle.event_lines.specs.Events.{event_line}
use Rattle.event_lines.specs.Steps.{start, read_on, line_end}
use Rattle.event_lines.specs.Split.{on_line, lines_of, fed_by, answers}
use Rattle.event_lines.proofs.Events.{read_line_lem}

-- the lines of the bytes to come, where the first of them goes on after xs
abbrev after : List ℕ → List (List ℕ) → List (List ℕ)
after [] [] = []
after (x ∷ xs) [] = (x ∷ xs) ∷ []
after xs (line ∷ others) = (xs ++ line) ∷ others

abbrev some : List ℕ → Bool
some [] = false
some (x ∷ xs) = true

after_none : (ls : List (List ℕ)) → after [] ls ≡ ls
after_none [] = refl
after_none (line ∷ others) = refl

after_end : (xs : List ℕ) (ls : List (List ℕ)) → after xs ([] ∷ ls) ≡ xs ∷ ls
after_end [] ls = refl
after_end (x ∷ xs) ls = ap {B = List (List ℕ)} (λ l. l ∷ ls) (append-nil (x ∷ xs))

after_byte : (xs : List ℕ) (b : ℕ) (ls : List (List ℕ)) → after (xs ++ (b ∷ [])) ls ≡ after xs (on_line b ls)
after_byte [] b [] = refl
after_byte [] b (line ∷ others) = refl
after_byte (x ∷ xs) b [] = refl
after_byte (x ∷ xs) b (line ∷ others) = ap {B = List (List ℕ)} (λ l. l ∷ others) (append_assoc (x ∷ xs) (b ∷ []) line)

some_byte : (xs : List ℕ) (b : ℕ) → some (xs ++ (b ∷ [])) ≡ true
some_byte [] b = refl
some_byte (x ∷ xs) b = refl

-- a reader whose answer for the bytes of one line is `whole`
module _ {R A : Type 0} (fresh : R) (on : R → ℕ → R) (ends : R → A) (whole : List ℕ → A)
    (law : (xs : List ℕ) → ends (fed_by on fresh xs) ≡ whole xs) where
  abbrev read : R → List ℕ → R
  read = fed_by on

  from : (bytes xs : List ℕ) → answers fresh on ends (read fresh xs) (some xs) bytes ≡ map whole (after xs (lines_of bytes))
  unfolding lines_of
  from [] [] = refl
  from [] (x ∷ xs) = ap {B = List A} (λ a. a ∷ []) (law (x ∷ xs))
  from (b ∷ bytes) xs = go (ℕ_discrete b 10) (from bytes []) (from bytes (xs ++ (b ∷ [])))
    where
      go : Dec (b ≡ 10) → answers fresh on ends (read fresh []) false bytes ≡ map whole (after [] (lines_of bytes))
          → answers fresh on ends (read fresh (xs ++ (b ∷ []))) (some (xs ++ (b ∷ []))) bytes ≡ map whole
          (after (xs ++ (b ∷ [])) (lines_of bytes))
          → answers fresh on ends (read fresh xs) (some xs) (b ∷ bytes) ≡ map whole (after xs (lines_of (b ∷ bytes)))
      go (yes e) p q =
          simp (eq-eqb b 10 e)
          (ap₂ {C = List A} (λ a l. a ∷ l) (law xs) (p ∙ ap (map whole) (after_none (lines_of bytes)))
          ∙ ap (map whole) (sym (after_end xs (lines_of bytes))))
      go (no e) p q =
          simp (ne_eqb b 10 e)
          (ap₂ (λ (r : R) (t : Bool). answers fresh on ends r t bytes) (sym (fold-append on fresh xs (b ∷ []))) (sym (some_byte xs b))
          ∙ q ∙ ap (map whole) (after_byte xs b (lines_of bytes)))

  pub each_line : (bytes : List ℕ) → answers fresh on ends fresh false bytes ≡ map whole (lines_of bytes)
  each_line bytes = from bytes [] ∙ ap (map whole) (after_none (lines_of bytes))

pub event_lines : (bytes : List ℕ) → answers start read_on line_end start false bytes ≡ map event_line (lines_of bytes)
event_lines = each_line start read_on line_end event_line read_line_lem

-- ---- the loop that reads bytes on: what holds between two of them, for any reader
module _ {R : Type 0} (on : R → ℕ → R) (r : R) (bytes : List ℕ) (i : ℕ) where
  pub fed_more : (n : R) → i < length bytes → n ≡ on r (get_or bytes i 0) → fed_by on r (drop i bytes) ≡ fed_by on n (drop (i + 1) bytes)
  fed_more n h e = rw (add-one, drop-cons bytes i 0 h, e)

  pub fed_all : i ≡ length bytes → r ≡ fed_by on r (drop i bytes)
  fed_all e = rw (e, drop-length bytes)
