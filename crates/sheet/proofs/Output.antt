-- What is written, field by field, and what each return of `write` says.
use Prim.Native.Nat.{ℕ, ◌+◌, ◌-◌, ◌*◌, ◌≤◌, ◌<◌, min}
use mathlib.Core.Bool.{Bool, true, false, not}
use mathlib.Core.Path.{◌≡◌, refl, sym, ap, ap₂, ◌∙◌}
use mathlib.Core.List.{List, [], ◌∷◌, ◌++◌, map, append_assoc, append-nil}
use native.Mathlib.Omega.{arith}
use lib.ListN.{length, get_or, take, drop, length-append, length-take, length-drop}
use borrow.Author.Tests.{lt-ltb, le-ltb, not-true}
use Rattle.lists.specs.Lists.{below}
use Rattle.lists.proofs.Tests.{is_T}
use Rattle.lists.proofs.Numbers.{below_snoc, length_map_below}
use Rattle.lists.proofs.Fill.{map_append}
use Rattle.fields.specs.Fields.{write_field, onto, put_field}
use Rattle.fields.specs.Output.{Writing, writes, fitting, writing_numbers, writing_output}
use Rattle.fields.proofs.Seen.{put_written, length_field, length_onto, lent_more}
use lib.Seq.{get_or-take}
use Rattle.net.specs.declared.Net.{Net}
use Rattle.net.specs.Network.{Ends}
use Rattle.net.specs.Values.{network_of}
use Rattle.net.specs.Sizes.{station_room, link_room}
use Rattle.sheet_rules.specs.Values.{net_holds}
use Rattle.sheet_rules.proofs.Good.{holds_of}
use Rattle.std.specs.Prelude.{Ok, Err}
use Rattle.sheet.specs.declared.WriteError.TheVariants.{OutputShort, BadNetwork}
use Rattle.sheet.specs.Sheet.{link_bytes, write_links, write_sheet, stations_tag, link_tag, end_tag}
use Rattle.sheet.specs.Values.{writing, wrote_numbers}
use Rattle.sheet.specs.Steps.{ends_of, first_ends}

-- ---- the links
pub links_append : (es fs : List Ends) → write_links (es ++ fs) ≡ write_links es ++ write_links fs
unfolding write_links
links_append [] fs = refl
links_append (e ∷ es) fs =
    ap (λ (l : List ℕ). link_bytes e ++ l) (links_append es fs) ∙ sym (append_assoc (link_bytes e) (write_links es) (write_links fs))

pub links_length : (es : List Ends) → length (write_links es) ≡ 5 * length es
unfolding write_links
links_length [] = refl
links_length (e ∷ es) =
    length-append (link_bytes e) (write_links es) ∙ omega (arith, length_field link_tag (e.low ∷ e.high ∷ []), links_length es)

module _ (low high : List ℕ) where
  abbrev at : ℕ → Ends
  at i = ends_of (get_or low i 0) (get_or high i 0)

  pub first_length : (m : ℕ) → length (write_links (first_ends low high m)) ≡ 5 * m
  first_length m = links_length (first_ends low high m) ∙ ap (λ (k : ℕ). 5 * k) (length_map_below at m)

  pub first_more : (i : ℕ) → write_links (first_ends low high (i + 1)) ≡ write_links (first_ends low high i) ++ link_bytes (at i)
  unfolding write_links
  first_more i =
      ap write_links (ap (map at) (below_snoc i) ∙ map_append at (below i) (i ∷ []))
      ∙ links_append (first_ends low high i) (at i ∷ [])
      ∙ ap (λ (l : List ℕ). write_links (first_ends low high i) ++ l) (append-nil (link_bytes (at i)))

  pub none_written : (old : List ℕ) → old ≡ onto (write_links (first_ends low high 0)) old
  unfolding write_links
  none_written old = refl

  pub link_written : (m i : ℕ) (old out part : List ℕ) → out ≡ onto (write_links (first_ends low high i)) old → i < length (take m low)
      → 5 * m ≤ length old
      → part ≡ put_field link_tag (get_or (take m low) i 0 ∷ get_or high i 0 ∷ []) (take (length out - 5 * i) (drop (5 * i) out))
      → take (5 * i) out ++ (part ++ drop (length out - 5 * i) (drop (5 * i) out)) ≡ onto (write_links (first_ends low high (i + 1))) old
  link_written m i old out part e h l p =
      let k : i < m = omega (arith, length-take m low) in
      let size : length out ≡ length old = ap length e
      ∙ length_onto (write_links (first_ends low high i)) old (omega (arith, first_length i)) in
      let room : 5 ≤ length (take (length out - 5 * i) (drop (5 * i) out)) = omega
      (arith, length-take (length out - 5 * i) (drop (5 * i) out), length-drop (5 * i) out) in
      let q : part ≡ onto (link_bytes (at i)) (take (length out - 5 * i) (drop (5 * i) out)) = p
      ∙ put_written link_tag _ _ (omega arith) room
      ∙ ap (λ (x : ℕ). onto (write_field link_tag (x ∷ get_or high i 0 ∷ [])) (take (length out - 5 * i) (drop (5 * i) out)))
      (get_or-take m low i 0 k) in
      lent_more (write_links (first_ends low high i)) (link_bytes (at i)) old out part (5 * i) e (first_length i) q
      ∙ ap (λ (l : List ℕ). onto l old) (sym (first_more i))

-- ---- the whole sheet
module _ (net : Net) where
  pub write_bad : (r : Bool) → r ≡ net_holds net → (old : List ℕ) → not r ≡ true
      → (wrote_numbers (Err BadNetwork) ≡ writing_numbers (writing net old)) × (old ≡ writing_output (writing net old) old)
  unfolding writing
  write_bad r e old h = let b : net_holds net ≡ false = sym e ∙ not-true r h in (simp b, simp b)

  module _ (good : net_holds net ≡ true) where
    pub few_stations : net.stations ≤ station_room
    few_stations = (holds_of net (is_T (net_holds net) good)).few_stations

    pub few_links : net.links ≤ link_room
    few_links = (holds_of net (is_T (net_holds net) good)).few_links

    abbrev front : List ℕ
    front = write_field stations_tag (net.stations ∷ [])

    abbrev middle : List ℕ
    middle = write_links (first_ends net.low net.high net.links)

    front_length : length front ≡ 4
    front_length = length_field stations_tag (net.stations ∷ [])

    sheet_bytes_lem : write_sheet (network_of net) ≡ front ++ middle ++ write_field end_tag []
    unfolding write_sheet network_of
    sheet_bytes_lem =
        let s : min net.stations station_room ≡ net.stations = omega (arith, few_stations) in
        let m : min net.links link_room ≡ net.links = omega (arith, few_links) in
        ap₂ (λ (x y : ℕ). write_field stations_tag (x ∷ []) ++ write_links (first_ends net.low net.high y) ++ write_field end_tag []) s m

    sheet_length : length (write_sheet (network_of net)) ≡ 4 + 5 * net.links + 3
    sheet_length =
        ap length sheet_bytes_lem ∙ length-append (front ++ middle) (write_field end_tag [])
        ∙ omega (arith, length-append front middle, front_length, first_length net.low net.high net.links, length_field end_tag [])

    pub write_short : (old : List ℕ) → length old < 4 + 5 * net.links + 3
        → (wrote_numbers (Err OutputShort) ≡ writing_numbers (writing net old)) × (old ≡ writing_output (writing net old) old)
    unfolding writing fitting
    write_short old l =
        let s = lt-ltb (length old) (length (write_sheet (network_of net))) (omega (arith, sheet_length)) in
        (simp (good, s), simp (good, s))

    module _ (old : List ℕ) (l : 4 + 5 * net.links + 3 ≤ length old) where
      written : writing net old ≡ writes (write_sheet (network_of net))
      unfolding writing fitting
      written = let s = le-ltb (length old) (length (write_sheet (network_of net))) (omega (arith, sheet_length)) in simp (good, s)

      -- the output after the first field, after the links, and at the end
      module _ (one : List ℕ) (p : one ≡ put_field stations_tag (net.stations ∷ []) old) where
        one_is : one ≡ onto front old
        one_is = p ∙ put_written stations_tag (net.stations ∷ []) old (omega arith) (omega arith)

        one_length : length one ≡ length old
        one_length = ap length one_is ∙ length_onto front old (omega (arith, front_length))

        pub links_room : 5 * net.links ≤ length (take (length one - 4) (drop 4 one))
        links_room = omega (arith, one_length, length-take (length one - 4) (drop 4 one), length-drop 4 one)

        module _ (two part : List ℕ) (g : part ≡ onto middle (take (length one - 4) (drop 4 one)))
            (q : two ≡ take 4 one ++ (part ++ drop (length one - 4) (drop 4 one))) where
          two_is : two ≡ onto (front ++ middle) old
          two_is = q ∙ lent_more front middle old one part 4 one_is front_length g

          both_length : length (front ++ middle) ≡ 4 + 5 * net.links
          both_length = length-append front middle ∙ omega (arith, front_length, first_length net.low net.high net.links)

          two_length : length two ≡ length old
          two_length = ap length two_is ∙ length_onto (front ++ middle) old (omega (arith, both_length))

          pub write_all : (three last : List ℕ) → last ≡ put_field end_tag []
              (take (length two - (4 + 5 * net.links)) (drop (4 + 5 * net.links) two))
              → three ≡ take (4 + 5 * net.links) two ++ (last ++ drop (length two - (4 + 5 * net.links)) (drop (4 + 5 * net.links) two))
              → (wrote_numbers (Ok (4 + 5 * net.links + 3)) ≡ writing_numbers (writing net old))
              × (three ≡ writing_output (writing net old) old)
          write_all three last f w = (
            ap (λ (n : ℕ). 0 ∷ n ∷ []) (sym sheet_length) ∙ ap writing_numbers (sym written),
            w ∙ lent_more (front ++ middle) (write_field end_tag []) old two last (4 + 5 * net.links) two_is both_length
                (f ∙ put_written end_tag [] _ (omega arith) (omega (
                  arith,
                  two_length,
                  length-take (length two - (4 + 5 * net.links))
                      (drop (4 + 5 * net.links) two),
                  length-drop (4 + 5 * net.links) two,
                )))
                ∙ ap (λ (b : List ℕ). onto b old) (sym sheet_bytes_lem) ∙ ap (λ (x : Writing). writing_output x old) (sym written),
          )
