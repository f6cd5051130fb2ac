-- What an event names is a place of its room, and the parts of what becomes of the list of letters.
use Rattle.std.specs.Prelude.{if◌then◌else◌}
use Prim.Native.Nat.{ℕ, ◌%◌, ◌<◌}
use mathlib.Core.Bool.{Bool}
use mathlib.Core.Path.{◌≡◌, ap, subst⁻¹}
use native.Mathlib.Omega.{arith}
use lib.Dec.{ltb, ltb→lt}
use Rattle.lists.proofs.Tests.{if_elim}
use Rattle.net.specs.declared.Letter.{Letter}
use Rattle.net.specs.Sizes.{station_room, link_room, letter_room}
use Rattle.station.specs.declared.Kind.{Kind}
use Rattle.world.specs.World.{no_letter, concerned_by}
use Rattle.sets.specs.Rooms.{in_room}
use Rattle.net.specs.declared.Net.{Net}
use Rattle.net.specs.Values.{network_of}
use Rattle.station.specs.Events.{takes_letter, link_of}
use Rattle.station.specs.Acts.{subject_of}
use Rattle.step_parts.specs.declared.Names.{Names}
use Rattle.step_parts.specs.declared.Room.{Room}
use Rattle.step_parts.specs.Parts.{place_by, fewer_by, number_by, names_by, room_by}

pub place_few : (a r : ℕ) → r ≡ place_by a → r < letter_room
place_few a r e =
    subst⁻¹ (λ (n : ℕ). n < letter_room) e
    (if_elim (λ (n : ℕ). n < letter_room) (ltb a letter_room) (λ t. ltb→lt a letter_room t) (λ t. omega arith))

pub room_few : (n r : ℕ) → r ≡ in_room n → r < station_room
room_few n r e =
    subst⁻¹ (λ (n : ℕ). n < station_room) e
    (if_elim (λ (n : ℕ). n < station_room) (ltb n station_room) (λ t. ltb→lt n station_room t) (λ t. omega arith))

-- what an event names has its places, whatever the event
pub record Placed (n : Names) : Type 0 where
  pub station : n.station < station_room
  pub link : n.link < link_room
  pub subject : n.subject < link_room

pub placed : (net : Net) (flying : ℕ) (kind : Kind) (a b : ℕ) (x : Letter) (n : Names) → n ≡ names_by net flying kind a b x → Placed n
unfolding names_by
placed net flying kind a b x n e =
    let k : n.link ≡ link_of kind b x % link_room = ap (λ (y : Names). y.link) e in
    let j : n.subject ≡ subject_of x.body % link_room = ap (λ (y : Names). y.subject) e in
    record {
      station = room_few (concerned_by kind (network_of net) a x) n.station (ap (λ (y : Names). y.station) e);
      link = omega (arith, k);
      subject = omega (arith, j);
    }

-- what becomes of the list of letters, part by part
pub room_made : (kind : Kind) (flying place planned count : ℕ) (x : Letter) {leaves : Bool} {left answer from free : ℕ} {unused : Letter}
    → leaves ≡ takes_letter kind → left ≡ fewer_by leaves flying → answer ≡ number_by planned left count
    → from ≡ (if leaves then place else left) → free ≡ (if leaves then left else place) → unused ≡ (if leaves then no_letter else x)
    → ◌≡◌ {A = Room} (record { answer = answer; left = left; from = from; free = free; unused = unused })
    (room_by kind flying place planned count x)
unfolding room_by
room_made kind flying place planned count x g l a m r u = cc
