-- One place of the stations: a value whose unused room is zero is what it holds, laid out in zero room.
use Prim.Native.Nat.{ℕ, ◌+◌, ◌-◌, ◌^◌, ◌≤◌, ◌<◌}
use mathlib.Core.Bool.{Bool, true, false, not, ◌&&◌, ◌||◌}
use mathlib.Core.Path.{◌≡◌, refl, sym, ap, ap₂, ◌∙◌, subst, subst⁻¹}
use mathlib.Core.List.{List, [], ◌∷◌, ◌++◌, map}
use native.Mathlib.Omega.{arith}
use lib.Dec.{T, eqb→eq}
use lib.ListN.{length, get_or, take, drop, replicate, length-append, length-drop, length-map, length-replicate}
use lib.ListN.{get_or-append, get_or-map, get_or-replicate}
use lib.Seq.{ext_get_or, get_or-append-add, get_or-drop, take_at, drop_at}
use Rattle.lists.specs.Lists.{every, from, below}
use Rattle.lists.specs.Words.{in_word, word_of}
use Rattle.lists.proofs.Tests.{and_l, and_r, and_i, at_every}
use Rattle.lists.proofs.Numbers.{every_from, from_every, get_or_map_below, length_map_below}
use Rattle.lists.proofs.Rooms.{drop_replicate}
use Rattle.lists.proofs.Words.{in_word_of, word_of_lt, none_in, zero_is_out}
use Rattle.net.specs.declared.Net.{Net}
use Rattle.net.specs.Values.{network_of, link_count, is_zero}
use Rattle.net.specs.Sizes.{link_room}
use Rattle.marks.specs.declared.Marks.{Marks}
use Rattle.marks.specs.declared.Words.{Words}
use Rattle.marks.specs.Marks.{marks_at}
use Rattle.station.specs.declared.Condition.{Condition}
use Rattle.station.specs.declared.Condition.TheVariants.{Down, Waiting, Live}
use Rattle.station.specs.declared.Station.{Station}
use Rattle.station.specs.Holding.{Holding, no_marks, is_down, is_off, holding_holds}
use Rattle.station.specs.Values.{holding_of, bits_of, laid_word, laid_words, laid, blank, unmarked, no_words}
use Rattle.station.proofs.Laid.{Fit, laid_same}
use Rattle.state_rules.specs.Formed.{station_formed}
use Rattle.state.specs.State.{no_word, is_blank, Fits}

-- ---- marks that are off, counters that are zero
pub off_none : (m : Marks) → T (is_off m) → m ≡ no_marks
off_none m t = go m.token m.turn m.testing m.asked m.quiet t
  where
    go : (a b c d e : Bool) → T (not (a || b || c || d || e))
        → ◌≡◌ {A = Marks} (record { token = a; turn = b; testing = c; asked = d; quiet = e }) no_marks
    go true b c d e t = absurd t
    go false true c d e t = absurd t
    go false false true d e t = absurd t
    go false false false true e t = absurd t
    go false false false false true t = absurd t
    go false false false false false t = refl

zeros : (l : List ℕ) → T (every is_zero l) → l ≡ replicate (length l) 0
zeros [] t = refl
zeros (x ∷ l) t = ap₂ (λ (y : ℕ) (r : List ℕ). y ∷ r) (eqb→eq x 0 (and_l (is_zero x) _ t)) (zeros l (and_r (is_zero x) _ t))

every_zero : (n : ℕ) → T (every is_zero (replicate n 0))
every_zero n =
    at_every is_zero (replicate n 0) 0 (λ i h. subst⁻¹ (λ (x : ℕ). T (is_zero x))
    (get_or-replicate n i 0 0 (omega (arith, h, length-replicate {A = ℕ} n 0))) tt)

condition_laid : (net : Net) (h : Holding) → (laid net blank h).condition ≡ h.condition
unfolding laid
condition_laid net h = refl

module _ (net : Net) where
  abbrev n : ℕ
  n = link_count net

  -- beyond the links there is no counter and no mark
  pub record Spare (st : Station) : Type 0 where
    pub counters : drop n st.counters ≡ replicate (link_room - n) 0
    pub marks : (t : ℕ) → n ≤ t → t < link_room → marks_at st.marks t ≡ no_marks

  blank_counters : drop n blank.counters ≡ replicate (link_room - n) 0
  unfolding blank
  blank_counters = drop_replicate n link_room 0

  -- ---- a station value without marks, and the zero one
  no_marks_at : (t : ℕ) → marks_at no_words t ≡ no_marks
  no_marks_at t =
      let e = zero_is_out 0 t (none_in t) in
      λ i. record { token = e i; turn = e i; testing = e i; asked = e i; quiet = e i }

  pub spare_unmarked : (st : Station) → Spare st → Spare (unmarked st)
  spare_unmarked st s = record { counters = s.counters; marks = λ t g l. no_marks_at t }

  -- ---- a holding laid over spare room is laid over the zero one
  bits_spare : (a b : ℕ) → ((t : ℕ) → n ≤ t → t < link_room → in_word a t ≡ in_word b t) → drop n (bits_of a) ≡ drop n (bits_of b)
  bits_spare a b f =
      ext_get_or false (drop n (bits_of a)) (drop n (bits_of b)) (size a ∙ sym (size b))
      (λ i h. let l : n + i < link_room = omega (arith, h, size a) in at a i l ∙ f (n + i) (omega arith) l ∙ sym (at b i l))
    where
      size : (w : ℕ) → length (drop n (bits_of w)) ≡ link_room - n
      size w = length-drop n (bits_of w) ∙ ap (λ (k : ℕ). k - n) (length_map_below (in_word w) link_room)

      at : (w i : ℕ) → n + i < link_room → get_or (drop n (bits_of w)) i false ≡ in_word w (n + i)
      at w i l = get_or-drop n (bits_of w) i false ∙ get_or_map_below (in_word w) link_room (n + i) false l

  words_spare : (w : Words) (ms : List Marks) → ((t : ℕ) → n ≤ t → t < link_room → marks_at w t ≡ no_marks)
      → laid_words n w ms ≡ laid_words n no_words ms
  words_spare w ms f = λ i. record {
    token = one w.token (map (λ m. m.token) ms) (λ t g l. ap (λ (m : Marks). m.token) (f t g l)) i;
    turn = one w.turn (map (λ m. m.turn) ms) (λ t g l. ap (λ (m : Marks). m.turn) (f t g l)) i;
    testing = one w.testing (map (λ m. m.testing) ms) (λ t g l. ap (λ (m : Marks). m.testing) (f t g l)) i;
    asked = one w.asked (map (λ m. m.asked) ms) (λ t g l. ap (λ (m : Marks). m.asked) (f t g l)) i;
    quiet = one w.quiet (map (λ m. m.quiet) ms) (λ t g l. ap (λ (m : Marks). m.quiet) (f t g l)) i;
  }
    where
      one : (a : ℕ) (bs : List Bool) → ((t : ℕ) → n ≤ t → t < link_room → in_word a t ≡ false) → laid_word n a bs ≡ laid_word n 0 bs
      one a bs g = ap (λ (r : List Bool). word_of (bs ++ r)) (bits_spare a 0 (λ t h l. g t h l ∙ sym (zero_is_out 0 t (none_in t))))

  blank_marks : blank.marks ≡ no_words
  unfolding blank
  blank_marks = refl

  pub spare_laid : (st : Station) (h : Holding) → Spare st → laid net st h ≡ laid net blank h
  unfolding laid
  spare_laid st h s =
      let cs = ap (λ (r : List ℕ). h.table ++ r) (s.counters ∙ sym blank_counters) in
      let ws = words_spare st.marks h.marks s.marks ∙ ap (λ (w : Words). laid_words n w h.marks) (sym blank_marks) in
      λ i. record { condition = h.condition; counters = cs i; marks = ws i }

  -- ---- what a well-formed value is
  fit : (st : Station) → Fits st → Fit st.marks
  fit st f = record { token = f.token; turn = f.turn; testing = f.testing; asked = f.asked; quiet = f.quiet }

  pub own_laid : (st : Station) → Fits st → Spare st → st ≡ laid net blank (holding_of net st)
  own_laid st f s = laid_same net st (fit st f) ∙ spare_laid st (holding_of net st) s

  module _ (i : ℕ) (st : Station) where
    abbrev holds : Bool
    holds = holding_holds (network_of net) i (holding_of net st)

    abbrev zeroes : Bool
    zeroes = every is_zero (drop n st.counters)

    abbrev offs : Bool
    offs = every (λ t. is_off (marks_at st.marks t)) (from n (link_room - n))

    pub formed_holds : T (station_formed net i st) → T holds
    unfolding station_formed
    formed_holds t = and_l holds zeroes (and_l (holds && zeroes) offs t)

    pub formed_spare : Fits st → T (station_formed net i st) → Spare st
    unfolding station_formed
    formed_spare f t = record {
      counters = zeros (drop n st.counters) (and_r holds zeroes (and_l (holds && zeroes) offs t)) ∙ ap (λ (k : ℕ). replicate k 0) size;
      marks =
          λ k g l. off_none (marks_at st.marks k) (subst (λ (x : ℕ). T (is_off (marks_at st.marks x))) (back k g)
          (every_from (λ t. is_off (marks_at st.marks t)) (link_room - n) n (and_r (holds && zeroes) offs t) (k - n) (omega arith)));
    }
      where
        size : length (drop n st.counters) ≡ link_room - n
        size = length-drop n st.counters ∙ ap (λ (k : ℕ). k - n) f.counters

        back : (k : ℕ) → n ≤ k → n + (k - n) ≡ k
        back k g = omega arith

    pub spare_formed : T holds → Spare st → T (station_formed net i st)
    unfolding station_formed
    spare_formed t s =
        and_i (holds && zeroes) offs (and_i holds zeroes t
        (subst⁻¹ (λ (l : List ℕ). T (every is_zero l)) s.counters (every_zero (link_room - n))))
        (from_every (λ t. is_off (marks_at st.marks t)) (link_room - n) n
        (λ k h. subst⁻¹ (λ (m : Marks). T (is_off m)) (s.marks (n + k) (omega arith) (omega arith)) tt))

  -- ---- a holding laid out in zero room
  module _ (h : Holding) (tl : length h.table ≡ n) (ml : length h.marks ≡ n) where
    few : n ≤ link_room
    few = omega arith

    rest_size : (w : ℕ) → length (drop n (bits_of w)) ≡ link_room - n
    rest_size w = length-drop n (bits_of w) ∙ ap (λ (k : ℕ). k - n) (length_map_below (in_word w) link_room)

    module _ (p : Marks → Bool) (q : p no_marks ≡ false) where
      abbrev word : ℕ
      word = laid_word n 0 (map p h.marks)

      size : length (map p h.marks) ≡ n
      size = length-map h.marks p ∙ ml

      word_at : (t : ℕ) → t < n → in_word word t ≡ p (get_or h.marks t no_marks)
      word_at t l =
          in_word_of (map p h.marks ++ drop n (bits_of 0)) t
          ∙ get_or-append (map p h.marks) (drop n (bits_of 0)) false t (omega (arith, size))
          ∙ ap (get_or (map p h.marks) t) (sym q) ∙ get_or-map p h.marks t no_marks

      word_past : (t : ℕ) → n ≤ t → t < link_room → in_word word t ≡ false
      word_past t g l =
          let j : ℕ = t - n in
          let e : length (map p h.marks) + j ≡ t = omega (arith, size) in
          let e' : n + j ≡ t = omega arith in
          in_word_of (map p h.marks ++ drop n (bits_of 0)) t
          ∙ subst (λ (x : ℕ). get_or (map p h.marks ++ drop n (bits_of 0)) x false ≡ get_or (drop n (bits_of 0)) j false) e
          (get_or-append-add (map p h.marks) (drop n (bits_of 0)) j false)
          ∙ get_or-drop n (bits_of 0) j false ∙ ap (λ (x : ℕ). get_or (bits_of 0) x false) e' ∙ get_or_map_below (in_word 0) link_room t false l
          ∙ zero_is_out 0 t (none_in t)

      word_fits : word < 2 ^ 64
      word_fits =
          subst (λ (k : ℕ). word < 2 ^ k) (length-append (map p h.marks) (drop n (bits_of 0)) ∙ sum)
          (word_of_lt (map p h.marks ++ drop n (bits_of 0)))
        where
          sum : length (map p h.marks) + length (drop n (bits_of 0)) ≡ link_room
          sum = omega (arith, size, rest_size 0, few)

    laid_words_lem : (laid net blank h).marks ≡ laid_words n no_words h.marks
    unfolding laid blank
    laid_words_lem = refl

    laid_counters : (laid net blank h).counters ≡ h.table ++ replicate (link_room - n) 0
    unfolding laid
    laid_counters = ap (λ (r : List ℕ). h.table ++ r) blank_counters

    pub fits_laid : Fits (laid net blank h)
    fits_laid = record {
      counters =
          ap length laid_counters ∙ length-append h.table (replicate (link_room - n) 0)
          ∙ omega (arith, tl, few, length-replicate {A = ℕ} (link_room - n) 0);
      token = subst⁻¹ (λ (w : Words). w.token < 2 ^ 64) laid_words_lem (word_fits (λ m. m.token) refl);
      turn = subst⁻¹ (λ (w : Words). w.turn < 2 ^ 64) laid_words_lem (word_fits (λ m. m.turn) refl);
      testing = subst⁻¹ (λ (w : Words). w.testing < 2 ^ 64) laid_words_lem (word_fits (λ m. m.testing) refl);
      asked = subst⁻¹ (λ (w : Words). w.asked < 2 ^ 64) laid_words_lem (word_fits (λ m. m.asked) refl);
      quiet = subst⁻¹ (λ (w : Words). w.quiet < 2 ^ 64) laid_words_lem (word_fits (λ m. m.quiet) refl);
    }

    pub laid_spare : Spare (laid net blank h)
    laid_spare = record {
      counters = ap (drop n) laid_counters ∙ drop_at h.table (replicate (link_room - n) 0) n tl;
      marks = λ t g l. ap (λ (w : Words). marks_at w t) laid_words_lem ∙ off t g l;
    }
      where
        off : (t : ℕ) → n ≤ t → t < link_room → marks_at (laid_words n no_words h.marks) t ≡ no_marks
        off t g l = λ i. record {
          token = word_past (λ m. m.token) refl t g l i;
          turn = word_past (λ m. m.turn) refl t g l i;
          testing = word_past (λ m. m.testing) refl t g l i;
          asked = word_past (λ m. m.asked) refl t g l i;
          quiet = word_past (λ m. m.quiet) refl t g l i;
        }

    pub holding_laid : holding_of net (laid net blank h) ≡ h
    unfolding holding_of
    holding_laid =
        let t = ap (take n) laid_counters ∙ take_at h.table (replicate (link_room - n) 0) n tl in
        let m = ap (λ (w : Words). map (marks_at w) (below n)) laid_words_lem ∙ same in
        λ i. record { condition = same_condition i; table = t i; marks = m i }
      where
        same_condition : (laid net blank h).condition ≡ h.condition
        same_condition = condition_laid net h

        at : (t : ℕ) → t < n → marks_at (laid_words n no_words h.marks) t ≡ get_or h.marks t no_marks
        at t l = λ i. record {
          token = word_at (λ m. m.token) refl t l i;
          turn = word_at (λ m. m.turn) refl t l i;
          testing = word_at (λ m. m.testing) refl t l i;
          asked = word_at (λ m. m.asked) refl t l i;
          quiet = word_at (λ m. m.quiet) refl t l i;
        }

        same : map (marks_at (laid_words n no_words h.marks)) (below n) ≡ h.marks
        same =
            ext_get_or no_marks (map (marks_at (laid_words n no_words h.marks)) (below n)) h.marks
            (length_map_below (marks_at (laid_words n no_words h.marks)) n ∙ sym ml)
            (λ t l. let l' : t < n = subst (λ (x : ℕ). t < x) (length_map_below (marks_at (laid_words n no_words h.marks)) n) l in
            get_or_map_below (marks_at (laid_words n no_words h.marks)) n t no_marks l' ∙ at t l')

-- ---- the zero place
pub blank_is : (st : Station) → Fits st → T (is_blank st) → st ≡ blank
unfolding blank
blank_is st f t =
    let d = and_l (is_down st.condition && no_word st.marks) (every is_zero st.counters) t in
    let c = down st.condition (and_l (is_down st.condition) (no_word st.marks) d) in
    let w = words st.marks (and_r (is_down st.condition) (no_word st.marks) d) in
    let z = zeros st.counters (and_r (is_down st.condition && no_word st.marks) (every is_zero st.counters) t)
    ∙ ap (λ (k : ℕ). replicate k 0) f.counters in
    λ i. record { condition = c i; counters = z i; marks = w i }
  where
    down : (c : Condition) → T (is_down c) → c ≡ Down
    down Down t = refl
    down Waiting t = absurd t
    down Live t = absurd t

    words : (w : Words) → T (no_word w) → w ≡ no_words
    words w t =
        let a = is_zero w.token && is_zero w.turn && is_zero w.testing && is_zero w.asked in
        let b = is_zero w.token && is_zero w.turn && is_zero w.testing in
        let c = is_zero w.token && is_zero w.turn in
        let ta = and_l a _ t in
        let tb = and_l b _ ta in
        let tc = and_l c _ tb in
        λ i. record {
          token = eqb→eq w.token 0 (and_l (is_zero w.token) _ tc) i;
          turn = eqb→eq w.turn 0 (and_r (is_zero w.token) _ tc) i;
          testing = eqb→eq w.testing 0 (and_r c _ tb) i;
          asked = eqb→eq w.asked 0 (and_r b _ ta) i;
          quiet = eqb→eq w.quiet 0 (and_r a _ t) i;
        }

pub is_blank_lem : T (is_blank blank)
unfolding blank
is_blank_lem = tt

pub fits_blank : Fits blank
unfolding blank
fits_blank =
    record { counters = refl; token = omega arith; turn = omega arith; testing = omega arith; asked = omega arith; quiet = omega arith }
