-- What the private steps of the code answer.
use Rattle.std.specs.Prelude.{ℕ, not, List, [], map, get_or, if◌then◌else◌, Option, Some, None, Result, Ok, Err}
use Rattle.std.specs.Borrow.{Bor}
use Rattle.lists.specs.Lists.{below}
use Rattle.fields.specs.Fields.{first_field}
use Rattle.net.specs.Network.{Ends}
use Rattle.net.specs.Sizes.{link_room}
use Rattle.sheet_rules.specs.Rules.{precedes, ends_hold}
use Rattle.sheet.specs.declared.SheetError.{SheetError}
use Rattle.sheet.specs.declared.SheetError.TheVariants.{OutOfRange, OutOfOrder}
use Rattle.sheet.specs.Sheet.{Sheet, Opening, faulty, stations, Verdict, wrong, link, last, no_link, judged, read_links}
use Rattle.sheet.specs.Values.{error_number}

-- the first field of the bytes
abbrev pub opening_of : Result (ℕ × Bor (List ℕ)) SheetError → Opening
opening_of (Ok p) = stations p.0 p.1.now
opening_of (Err e) = faulty (error_number e)

abbrev pub ends_of : ℕ → ℕ → Ends
ends_of a b = record { low = a; high = b }

-- a link's ends: in range, then in order
unfoldable pub link_verdict : ℕ → ℕ → ℕ → ℕ → ℕ → Result (Unit {0}) SheetError
link_verdict n a b low high =
    if not (ends_hold n (ends_of low high)) then Err OutOfRange
    else (if not (precedes (ends_of a b) (ends_of low high)) then Err OutOfOrder
    else Ok tt)

-- a later field, at the front of the bytes
abbrev pub verdict_of : Result (Option ((ℕ × ℕ) × Bor (List ℕ))) SheetError → Verdict
verdict_of (Ok None) = last
verdict_of (Ok (Some p)) = link (ends_of p.0.0 p.0.1) p.1.now
verdict_of (Err e) = wrong (error_number e)

-- a sheet of n stations, from its second field on
unfoldable pub links_of : ℕ → List ℕ → Sheet
links_of n bytes = read_links link_room n [] (judged n no_link (first_field bytes))

-- the first m links of two rooms of ends
abbrev pub first_ends : List ℕ → List ℕ → ℕ → List Ends
first_ends low high m = map (λ i. ends_of (get_or low i 0) (get_or high i 0)) (below m)
