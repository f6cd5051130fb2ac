-- A station that is down, in words: counters 1, no mark, and the unused room zero.
use Prim.Native.Nat.{ℕ}
use mathlib.Core.Bool.{false}
use mathlib.Core.Path.{◌≡◌, refl, sym, ap, ◌∙◌}
use mathlib.Core.List.{◌++◌, map}
use native.Mathlib.Omega.{arith}
use lib.ListN.{drop, replicate}
use Rattle.net.specs.Sizes.{link_room}
use Rattle.lists.specs.Lists.{below}
use Rattle.lists.proofs.Words.{zero_is_out, none_in}
use Rattle.lists.proofs.Numbers.{get_or_map_below, length_map_below}
use Rattle.net.specs.declared.Net.{Net}
use Rattle.net.specs.Network.{link_numbers}
use Rattle.net.specs.Values.{network_of, link_count}
use Rattle.net.proofs.ValueLaws.{links_of_lem}
use Rattle.sets.specs.Sets.{word_by}
use Rattle.sets.proofs.WordLaws.{by_none}
use Rattle.marks.specs.Marks.{marks_at}
use Rattle.station.specs.declared.Condition.TheVariants.{Down}
use Rattle.station.specs.declared.Station.{Station}
use Rattle.station.specs.Holding.{no_marks}
use Rattle.station.specs.Done.{done_by}
use Rattle.station.specs.Values.{laid, laid_words, blank, no_words, fresh_table}
use Rattle.station.proofs.Doing.{stopped}
use Rattle.station.proofs.Laid.{words_laid, laid_is}

-- no mark in the empty words
pub no_marks_lem : (t : ℕ) → marks_at no_words t ≡ no_marks
no_marks_lem t =
    let z = zero_is_out 0 t (none_in t) in
    λ i. record { token = z i; turn = z i; testing = z i; asked = z i; quiet = z i }

none_laid : (net : Net) → no_words ≡ laid_words (link_count net) no_words (map (λ k. no_marks) (link_numbers (network_of net)))
none_laid net =
    (λ i. record { token = none i; turn = none i; testing = none i; asked = none i; quiet = none i })
    ∙ words_laid (link_count net) (omega arith) (λ t. no_marks) no_words (map (λ k. no_marks) (below (link_count net)))
    (length_map_below (λ k. no_marks) (link_count net))
    (λ t h. get_or_map_below (λ k. no_marks) (link_count net) t no_marks h) (λ t h l. no_marks_lem t)
    ∙ ap (λ (n : ℕ). laid_words (link_count net) no_words (map (λ k. no_marks) (below n))) (sym (links_of_lem net))
  where
    none : 0 ≡ word_by (λ t. false)
    none = by_none (λ t. false) (λ t h. refl)

abbrev pub down_in : Net → Station
down_in net = record { condition = Down; counters = fresh_table (link_count net); marks = no_words }

pub stop_is : (net : Net) (s : ℕ) → down_in net ≡ laid net blank (stopped (network_of net) s).holding
unfolding done_by blank fresh_table
stop_is net s =
    laid_is net blank (down_in net) (stopped (network_of net) s).holding refl
    (ap (λ (n : ℕ). map (λ k. 1) (below n) ++ drop (link_count net) (replicate link_room 0)) (sym (links_of_lem net))) (none_laid net)
