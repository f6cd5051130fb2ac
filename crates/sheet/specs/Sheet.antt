-- A sheet's bytes: cut one field off the front, judge it, go on.
use Rattle.std.specs.Prelude.{ℕ, zero, suc, Bool, not, ◌&&◌, List, [], ◌∷◌, ◌++◌, leb, get_or, if◌then◌else◌}
use Rattle.lists.specs.Places.{collect}
use Rattle.fields.specs.Fields.{Field, short, field, first_field, write_field, is_field, is_empty}
use Rattle.net.specs.Network.{Ends, Network}
use Rattle.net.specs.Sizes.{station_room, link_room}
use Rattle.sheet_rules.specs.Rules.{precedes, ends_hold}

-- what reading a sheet gives: the number of a refusal, or the network
pub data Sheet : Type 0 where
  refused : ℕ → Sheet
  sheet : Network → Sheet

-- ---- the fields' tags: 01, 02 and 0F in document 01
abbrev pub stations_tag : ℕ
stations_tag = 1

abbrev pub link_tag : ℕ
link_tag = 2

abbrev pub end_tag : ℕ
end_tag = 15

-- ---- the first field: length 1, the number of stations
pub data Opening : Type 0 where
  faulty : ℕ → Opening
  -- so many stations, and the bytes after the field
  stations : ℕ → List ℕ → Opening

abbrev pub stations_hold : ℕ → Bool
stations_hold n = leb 1 n && leb n station_room

unfoldable pub opened : Field → Opening
opened short = faulty 1
opened (field t v rest) =
    if not (is_field stations_tag 1 t v) then faulty 2
    else (if not (stations_hold (get_or v 0 0)) then faulty 3
    else stations (get_or v 0 0) rest)

-- ---- each later field: length 2, a link's two ends; at last the end, length 0, and no byte after it
pub data Verdict : Type 0 where
  wrong : ℕ → Verdict
  -- a link, and the bytes after the field
  link : Ends → List ℕ → Verdict
  last : Verdict

abbrev pub link_of : List ℕ → Ends
link_of v = record { low = get_or v 0 0; high = get_or v 1 0 }

-- what stands before the first link: every good link comes after 0, 0
abbrev pub no_link : Ends
no_link = record { low = 0; high = 0 }

-- a field after the first, in a sheet of n stations; the link before it is prev
unfoldable pub judged : ℕ → Ends → Field → Verdict
judged n prev short = wrong 1
judged n prev (field t v rest) =
    if is_field link_tag 2 t v then
    (if not (ends_hold n (link_of v)) then wrong 3
    else (if not (precedes prev (link_of v)) then wrong 4
    else link (link_of v) rest))
    else (if is_field end_tag 0 t v && is_empty rest then last else wrong 2)

-- a sheet of n stations with the links so far, at a later field; `on` is what a link and the bytes after it lead to
abbrev pub read_on : ℕ → List Ends → (Ends → List ℕ → Sheet) → Verdict → Sheet
read_on n so on (wrong k) = refused k
read_on n so on last = sheet (record { stations = n; links = so })
read_on n so on (link e rest) = on e rest

-- the same with room for so many more links
unfoldable pub read_links : ℕ → ℕ → List Ends → Verdict → Sheet
read_links zero n so v = read_on n so (λ e rest. refused 5) v
read_links (suc room) n so v = read_on n so (λ e rest. read_links room n (so ++ (e ∷ [])) (judged n e (first_field rest))) v

abbrev pub read_opened : Opening → Sheet
read_opened (faulty k) = refused k
read_opened (stations n rest) = read_links link_room n [] (judged n no_link (first_field rest))

unfoldable pub read_sheet : List ℕ → Sheet
read_sheet bytes = read_opened (opened (first_field bytes))

-- ---- the bytes that say a network
abbrev pub link_bytes : Ends → List ℕ
link_bytes e = write_field link_tag (e.low ∷ e.high ∷ [])

unfoldable pub write_links : List Ends → List ℕ
write_links es = collect link_bytes es

unfoldable pub write_sheet : Network → List ℕ
write_sheet net = write_field stations_tag (net.stations ∷ []) ++ write_links net.links ++ write_field end_tag []
