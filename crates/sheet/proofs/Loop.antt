-- Where the loop over a sheet's links stands, and what each field it meets leads to.
use Prim.Native.Nat.{ℕ, suc, ◌+◌, ◌-◌, ◌≤◌, ◌<◌}
use mathlib.Core.Path.{◌≡◌, refl, sym, ap, ◌∙◌}
use mathlib.Core.List.{List, [], ◌∷◌, ◌++◌, map, append_assoc}
use native.Mathlib.Omega.{arith}
use lib.ListN.{length, set, replicate, length-append, length-map}
use lib.Seq.{set_at}
use Rattle.std.specs.Prelude.{Ok, Err}
use Rattle.lists.proofs.Fill.{map_append}
use Rattle.fields.specs.Fields.{first_field}
use Rattle.net.specs.Network.{Ends}
use Rattle.net.specs.Sizes.{link_room}
use Rattle.sheet.specs.declared.SheetError.{SheetError}
use Rattle.sheet.specs.declared.SheetError.TheVariants.{TooManyLinks}
use Rattle.sheet.specs.Sheet.{Sheet, refused, faulty, stations, opened, Verdict, wrong, link, last, judged}
use Rattle.sheet.specs.Sheet.{read_links, read_opened, read_sheet}
use Rattle.sheet.specs.Values.{error_number, room_of, value_of, sheet_number, sheet_net, Says}
use Rattle.sheet.specs.Steps.{ends_of, links_of}
use Rattle.sheet.proofs.Judged.{wrong_read, last_read}

-- ---- the room
pub room_more : (xs : List ℕ) (x k : ℕ) → length xs ≡ k → k < link_room → set (room_of xs) k x ≡ room_of (xs ++ (x ∷ []))
unfolding room_of
room_more xs x k e h =
    let p : link_room - length xs ≡ suc (63 - k) = omega arith in
    let q : 63 - k ≡ link_room - length (xs ++ (x ∷ [])) = omega (arith, length-append xs (x ∷ [])) in
    ap (λ (m : ℕ). set (xs ++ replicate m 0) k x) p
    ∙ set_at xs 0 (replicate (63 - k) 0) x k e
    ∙ sym (append_assoc xs (x ∷ []) (replicate (63 - k) 0))
    ∙ ap (λ (m : ℕ). (xs ++ (x ∷ [])) ++ replicate m 0) q

-- ---- at a field
-- a refusal is answered
said : (whole : Sheet) (e : SheetError) → whole ≡ refused (error_number e) → Says (Err e) whole
said whole e is = record { number = ap sheet_number (sym is); net = ap sheet_net (sym is) }

pub record Standing (whole : Sheet) (n : ℕ) (low high : List ℕ) (a b k : ℕ) (rest : List ℕ) : Type 0 where
  pub so : List Ends
  pub count : length so ≡ k
  pub room : k ≤ link_room
  pub lows : low ≡ room_of (map (λ e. e.low) so)
  pub highs : high ≡ room_of (map (λ e. e.high) so)
  pub on : whole ≡ read_links (link_room - k) n so (judged n (ends_of a b) (first_field rest))

pub standing_first : (n : ℕ) (bytes : List ℕ) → Standing (links_of n bytes) n (replicate link_room 0) (replicate link_room 0) 0 0 0 bytes
unfolding links_of room_of
standing_first n bytes = record { so = []; count = refl; room = omega arith; lows = refl; highs = refl; on = refl }

module _ {whole : Sheet} {n : ℕ} {low high : List ℕ} {a b k : ℕ} {rest : List ℕ} (s : Standing whole n low high a b k rest) where
  told : (v : Verdict) → v ≡ judged n (ends_of a b) (first_field rest) → whole ≡ read_links (link_room - k) n s.so v
  told v p = s.on ∙ ap (read_links (link_room - k) n s.so) (sym p)

  pub standing_wrong : (e : SheetError) → wrong (error_number e) ≡ judged n (ends_of a b) (first_field rest) → Says (Err e) whole
  standing_wrong e p = said whole e (told (wrong (error_number e)) p ∙ wrong_read (link_room - k) n s.so (error_number e))

  pub standing_last : (m : ℕ) → m ≡ n → last ≡ judged n (ends_of a b) (first_field rest)
      → Says (Ok (record { stations = m; links = k; low = low; high = high })) whole
  unfolding value_of
  standing_last m e p =
      let is = told last p ∙ last_read (link_room - k) n s.so in
      record {
        number = ap sheet_number (sym is);
        net = (λ i. record { stations = e i; links = sym s.count i; low = s.lows i; high = s.highs i }) ∙ ap sheet_net (sym is);
      }

  module _ (l h : ℕ) (after : List ℕ) (p : link (ends_of l h) after ≡ judged n (ends_of a b) (first_field rest)) where
    abbrev met : Verdict
    met = link (ends_of l h) after

    pub standing_full : link_room ≤ k → Says (Err TooManyLinks) whole
    unfolding read_links
    standing_full full =
        let z : link_room - k ≡ 0 = omega arith in
        said whole TooManyLinks (told met p ∙ ap (λ (m : ℕ). read_links m n s.so met) z)

    pub standing_link : k < link_room → Standing whole n (set low k l) (set high k h) l h (k + 1) after
    unfolding read_links
    standing_link f =
        let z : link_room - k ≡ suc (link_room - (k + 1)) = omega arith in
        record {
          so = s.so ++ (ends_of l h ∷ []);
          count = length-append s.so (ends_of l h ∷ []) ∙ ap (λ (m : ℕ). m + 1) s.count;
          room = omega arith;
          lows =
              ap (λ (x : List ℕ). set x k l) s.lows
              ∙ room_more (map (λ x. x.low) s.so) l k (length-map s.so (λ x. x.low) ∙ s.count) f
              ∙ ap room_of (sym (map_append (λ x. x.low) s.so (ends_of l h ∷ [])));
          highs =
              ap (λ (x : List ℕ). set x k h) s.highs
              ∙ room_more (map (λ x. x.high) s.so) h k (length-map s.so (λ x. x.high) ∙ s.count) f
              ∙ ap room_of (sym (map_append (λ x. x.high) s.so (ends_of l h ∷ [])));
          on = told met p ∙ ap (λ (m : ℕ). read_links m n s.so met) z;
        }

-- ---- the whole sheet
module _ (bytes : List ℕ) where
  pub read_faulty : (e : SheetError) → faulty (error_number e) ≡ opened (first_field bytes) → Says (Err e) (read_sheet bytes)
  unfolding read_sheet
  read_faulty e p = said (read_sheet bytes) e (ap read_opened (sym p))

  pub read_on_lem : (n : ℕ) (rest : List ℕ) → stations n rest ≡ opened (first_field bytes) → links_of n rest ≡ read_sheet bytes
  unfolding read_sheet links_of
  read_on_lem n rest e = ap read_opened e
