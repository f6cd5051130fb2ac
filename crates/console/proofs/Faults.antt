-- The number of a refused sheet is never 0: so 0 says that there is a network.
use Prim.Native.Nat.{ℕ, zero, suc}
use mathlib.Core.Bool.{not, ◌&&◌}
use mathlib.Core.Path.{◌≡◌, subst}
use mathlib.Core.List.{List, [], ◌∷◌, ◌++◌}
use native.Mathlib.Omega.{arith}
use lib.Dec.{ltb}
use lib.ListN.{length, get_or}
use Rattle.lists.proofs.Tests.{if_elim}
use Rattle.fields.specs.Fields.{Field, short, field, first_field, is_field, is_empty}
use Rattle.net.specs.Network.{Ends}
use Rattle.sheet_rules.specs.Rules.{precedes, ends_hold}
use Rattle.sheet.specs.Sheet.{Sheet, refused, sheet, Opening, faulty, stations, Verdict, wrong, link, last, stations_hold, link_of, opened}
use Rattle.sheet.specs.Sheet.{judged, read_links, read_opened, read_sheet, no_link}
use Rattle.console.specs.Sheets.{file_sheet}

abbrev Opens : Opening → Type 0
Opens (faulty k) = k ≡ 0 → ⊥
Opens (stations n rest) = Unit {0}

abbrev Judges : Verdict → Type 0
Judges (wrong k) = k ≡ 0 → ⊥
Judges (link e rest) = Unit {0}
Judges last = Unit {0}

abbrev Counts : Sheet → Type 0
Counts (refused k) = k ≡ 0 → ⊥
Counts (sheet net) = Unit {0}

opens : (f : Field) → Opens (opened f)
unfolding opened
opens short = λ e. omega arith
opens (field t v rest) =
    if_elim Opens (not (is_field 1 1 t v)) (λ u e. omega arith)
    (λ u. if_elim Opens (not (stations_hold (get_or v 0 0))) (λ w e. omega arith) (λ w. tt))

judges : (n : ℕ) (prev : Ends) (f : Field) → Judges (judged n prev f)
unfolding judged
judges n prev short = λ e. omega arith
judges n prev (field t v rest) =
    if_elim Judges (is_field 2 2 t v)
    (λ u. if_elim Judges (not (ends_hold n (link_of v))) (λ w e. omega arith)
    (λ w. if_elim Judges (not (precedes prev (link_of v))) (λ x e. omega arith) (λ x. tt)))
    (λ u. if_elim Judges (is_field 15 0 t v && is_empty rest) (λ w. tt) (λ w e. omega arith))

counts : (room n : ℕ) (so : List Ends) (v : Verdict) → Judges v → Counts (read_links room n so v)
unfolding read_links
counts zero n so (wrong k) h = h
counts zero n so last h = tt
counts zero n so (link e rest) h = λ z. omega arith
counts (suc room) n so (wrong k) h = h
counts (suc room) n so last h = tt
counts (suc room) n so (link e rest) h = counts room n (so ++ (e ∷ [])) (judged n e (first_field rest)) (judges n e (first_field rest))

sheet_counts : (bytes : List ℕ) → Counts (read_sheet bytes)
unfolding read_sheet
sheet_counts bytes = go (opened (first_field bytes)) (opens (first_field bytes))
  where
    go : (o : Opening) → Opens o → Counts (read_opened o)
    go (faulty k) h = h
    go (stations n rest) h = counts 64 n [] (judged n no_link (first_field rest)) (judges n no_link (first_field rest))

file_counts : (file : List ℕ) → Counts (file_sheet file)
unfolding file_sheet
file_counts file = if_elim Counts (ltb 4096 (length file)) (λ u e. omega arith) (λ u. sheet_counts file)

pub refusal_counts : (file : List ℕ) (k : ℕ) → file_sheet file ≡ refused k → k ≡ 0 → ⊥
refusal_counts file k e = subst Counts e (file_counts file)
