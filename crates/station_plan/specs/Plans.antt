-- A plan: an act of station in words, and what carrying it out makes of a station value: its table, its marks, and the letters that it
-- sends. That this is what the act does by station's definitions: proofs/Carried.antt.
use Rattle.std.specs.Prelude.{ℕ, Bool, true, false, ◌&&◌, List, eqb, if◌then◌else◌}
use Rattle.lists.specs.Words.{in_word}
use Rattle.tally.specs.declared.Tally.{Tally}
use Rattle.net.specs.declared.Letter.{Letter}
use Rattle.net.specs.declared.Net.{Net}
use Rattle.net.specs.Values.{link_count}
use Rattle.sets.specs.Sets.{word_by}
use Rattle.marks.specs.declared.Words.{Words}
use Rattle.marks.specs.Marks.{marks_at, words_by, words_with}
use Rattle.station.specs.declared.Sending.{Sending}
use Rattle.station.specs.declared.Condition.{Condition}
use Rattle.station.specs.declared.Heard.{Heard}
use Rattle.station.specs.declared.Heard.TheVariants.{Gone, Nothing, Overflows, Does}
use Rattle.station.specs.declared.Station.{Station}
use Rattle.station.specs.Acts.{Links, the_link, all_own, other_own, Marking, as_before, on_link, on_every, Tabling, kept, ones, sets}
use Rattle.station.specs.Acts.{Sends, nothing, requests, notices, all_known, reply, Act, idle}
use Rattle.station.specs.Events.{Due, counting}
use Rattle.station.specs.Values.{letters_of}
use Rattle.station_plan.specs.declared.Plan.{Plan}
pub use Rattle.station_plan.specs.Carrying.{told_by, purged_in, kept_by, known_in, narrowed}

-- ---- sets of links
abbrev pub every_link : ℕ
every_link = 18446744073709551615

-- the set with link k, or without it
abbrev pub putting : ℕ → ℕ → Bool → ℕ
putting v k on = word_by (λ t. if eqb t k then on else in_word v t)

-- ---- what is sent
abbrev pub requesting : ℕ → Sending
requesting ways = record { requests = ways; subjects = 0; ways = 0; replies = false; reply = 0; link = 0 }

abbrev pub telling : ℕ → ℕ → Sending
telling subjects ways = record { requests = 0; subjects = subjects; ways = ways; replies = false; reply = 0; link = 0 }

-- of the subjects only those that are known are told of
abbrev pub knows_by : Sends → Bool
knows_by nothing = false
knows_by (requests ways) = false
knows_by (notices j c ways) = false
knows_by (all_known ways) = true
knows_by (reply tells k c) = tells

-- ---- an act in words, for a station with these own links and these marks
module _ (own : ℕ) (w : Words) where
  abbrev pub links_word : Links → ℕ
  links_word (the_link k) = putting 0 k true
  links_word (all_own test) = word_by (λ t. in_word own t && test (marks_at w t))
  links_word (other_own k test) = putting (word_by (λ t. in_word own t && test (marks_at w t))) k false

  abbrev pub marks_by : Marking → Words
  marks_by as_before = w
  marks_by (on_link k f) = words_with w k (f (marks_at w k))
  marks_by (on_every f) = words_by (λ t. f (in_word own t) (marks_at w t))

  abbrev pub sending_by : Sends → Sending
  sending_by nothing = requesting 0
  sending_by (requests ways) = requesting (links_word ways)
  sending_by (notices j c ways) = telling (putting 0 j true) (links_word ways)
  sending_by (all_known ways) = telling every_link (links_word ways)
  sending_by (reply tells k c) =
      record {
        requests = 0;
        subjects = if tells then putting every_link k false else 0;
        ways = putting 0 k true;
        replies = true;
        reply = c;
        link = k;
      }

  module _ (d : Due) where
    abbrev made : Bool → Bool → ℕ → ℕ → Bool → Plan
    made resets writes at c purges =
        record {
          answer = d.number;
          condition = d.act.condition;
          marks = marks_by d.act.marks;
          resets = resets;
          sets = writes;
          at = at;
          counter = c;
          purges = purges;
          knows = knows_by d.act.sends;
          sends = sending_by d.act.sends;
          counts = d.counts;
        }

    abbrev pub tabled_plan : Tabling → Plan
    tabled_plan kept = made false false 0 0 false
    tabled_plan ones = made true false 0 0 false
    tabled_plan (sets j c purges) = made false true j c purges

    -- the plan of what an event comes to
    abbrev pub plan_of : Plan
    plan_of = tabled_plan d.act.table

-- what nothing refuses
abbrev pub done_plan : ℕ → Words → Act → Tally → Plan
done_plan own w a t = plan_of own w (record { number = 0; act = a; counts = t })

-- ---- a plan carried out at the station s
abbrev pub told_in : Plan → Station → List ℕ
told_in r st = told_by r.sets r.at r.counter st.counters

unfoldable pub station_by : Net → ℕ → Plan → Station → Station
station_by net s r st = record { condition = r.condition; counters = kept_by net s r.resets r.purges (told_in r st); marks = r.marks }

unfoldable pub letters_by : Net → ℕ → Plan → Station → List Letter
letters_by net s r st = letters_of s (told_in r st) (narrowed r.knows (link_count net) (told_in r st) r.sends)

-- ---- the three forms that most plans have
-- nothing is sent, and no counter and no condition changes
abbrev pub stays : ℕ → ℕ → ℕ → Condition → Words → Plan
stays number settled dropped x w = plan_of 0 w (record { number = number; act = idle x; counts = counting settled 0 dropped })

-- a letter that does nothing, by the receiver's answer: dropped, without effect, or refused
unfoldable pub drop_plan : Heard → ℕ → Condition → Words → Plan
drop_plan Gone settled x w = stays 0 settled 1 x w
drop_plan Nothing settled x w = stays 0 settled 0 x w
drop_plan Overflows settled x w = stays 8 0 0 x w
drop_plan (Does e) settled x w = stays 0 settled 0 x w

-- the condition and the marks change, and requests are sent
abbrev pub turns : Condition → Words → ℕ → Bool → Plan
turns x w asks resets =
    record {
      answer = 0;
      condition = x;
      marks = w;
      resets = resets;
      sets = false;
      at = 0;
      counter = 0;
      purges = false;
      knows = false;
      sends = requesting asks;
      counts = counting 0 0 0;
    }

-- one counter is set, and notices of these subjects are sent on these ways
abbrev pub tells : Condition → Words → ℕ → ℕ → Bool → Bool → ℕ → ℕ → Tally → Plan
tells x w at c purges knows subjects ways t =
    record {
      answer = 0;
      condition = x;
      marks = w;
      resets = false;
      sets = true;
      at = at;
      counter = c;
      purges = purges;
      knows = knows;
      sends = telling subjects ways;
      counts = t;
    }
