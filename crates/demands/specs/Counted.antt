-- What an accepted step counts, over what the state before it and the state after it mean, in the words of document 01's "The event
-- program".
use Rattle.std.specs.Prelude.{Bool, not, ◌&&◌, ◌||◌, ◌≡◌, ltb, ℕ, if◌then◌else◌}
use Rattle.lists.specs.Lists.{sum_of, below}
use Rattle.lists.specs.Words.{bit}
use Rattle.net.specs.declared.Letter.{Letter}
use Rattle.net.specs.Network.{link_numbers}
use Rattle.station.specs.Holding.{counter, mark}
use Rattle.station.specs.Acts.{hears}
use Rattle.station.specs.Events.{kind_of, delivers, loses, takes_letter, is_notice}
use Rattle.world.specs.World.{World, Event, holding_at, letter_at, receiver_in}
use Rattle.state.specs.declared.State.{State}
use Rattle.state.specs.State.{world_of}
use Rattle.step_rules.specs.declared.Stepped.{Stepped}

-- the letter that an event 7 or 8 takes
abbrev pub letter_of : State → Event → Letter
letter_of s e = letter_at (world_of s) e.a

-- it is heard at station i: live, and not quiet on the letter's link; and by its receiver
abbrev pub heard_at : World → Letter → ℕ → Bool
heard_at w x i = hears (holding_at w i).condition (mark (holding_at w i) x.link)

abbrev pub is_heard : State → Event → Bool
is_heard s e = heard_at (world_of s) (letter_of s e) (receiver_in (world_of s).net (letter_of s e))

-- the counter of link j at station i is higher after than before
abbrev pub rises : World → World → ℕ → ℕ → Bool
rises before after i j = ltb (counter (holding_at before i) j) (counter (holding_at after i) j)

-- how many counters are higher, over all stations and links
abbrev pub risen : World → World → ℕ
risen before after = sum_of (λ i. sum_of (λ j. bit (rises before after i j)) (link_numbers before.net)) (below before.net.stations)

pub record Counted (s : State) (e : Event) (r : Stepped) : Type 0 where
  -- "notices taken off by events 7 and 8"
  pub settled : r.counts.settled ≡ (if takes_letter (kind_of e.kind) then bit (is_notice (letter_of s e).body) else 0)
  -- "a counter is raised when an event leaves it higher than before"
  pub raised : r.counts.raised ≡ risen (world_of s) (world_of r.state)
  -- "a letter is dropped when event 8 takes it, or event 7 takes it at a receiver that isn't live or is quiet there"
  pub dropped : r.counts.dropped ≡ bit (loses (kind_of e.kind) || (delivers (kind_of e.kind) && not (is_heard s e)))
