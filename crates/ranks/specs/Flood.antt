-- A flood of notices over ranks: tables, notices in flight, and the ways in which one notice is settled.
-- A rank is a number: newer is larger. What it stands for is the user's affair: a counter, or absent, present and removed.
-- Nothing is said here of who sends to whom: only how many copies go out (Relay.antt says more, for those who need it).
use Rattle.std.specs.Prelude.{ℕ, suc, ◌≤◌, ◌<◌, ◌≡◌, ◌⊎◌, length}
use mathlib.Core.List.{List, ◌∷◌, ◌++◌, Memᴰ}

-- A notice on its way: the link that it travels on, its sender and its receiver, the link that it is about, and the rank
-- that it carries for that one.
pub record Notice : Type 0 where
  pub over : ℕ
  pub sender : ℕ
  pub receiver : ℕ
  pub subject : ℕ
  pub rank : ℕ

-- What there is at one moment: each station's rank for each link, and the notices in flight.
pub record Flood : Type 0 where
  pub rank : ℕ → ℕ → ℕ
  pub flying : List Notice

-- What stays as it is: how many stations and links there are, both numbered from 0, and each station's weight, the most
-- copies that it sends of a notice that it takes.
pub record Site : Type 0 where
  pub stations : ℕ
  pub links : ℕ
  pub weight : ℕ → ℕ

infix 4 ◌∈◌
abbrev pub ◌∈◌ : Notice → List Notice → Type 0
y ∈ l = Memᴰ y l

-- One notice is taken off, and nothing else happens: it is lost, or not heard, or no news to its receiver.
pub record Gone (F G : Flood) : Type 0 where
  pub before : List Notice
  pub it : Notice
  pub after : List Notice
  pub was : F.flying ≡ before ++ it ∷ after
  pub now : G.flying ≡ before ++ after
  pub same : (s k : ℕ) → G.rank s k ≡ F.rank s k

-- One notice is taken off and is strictly newer than its receiver's rank for the subject. The receiver takes it, no other
-- rank changes, and at most its weight of copies go out, alike in subject and rank.
pub record Taken (site : Site) (F G : Flood) : Type 0 where
  pub before : List Notice
  pub it : Notice
  pub after : List Notice
  pub copies : List Notice
  pub was : F.flying ≡ before ++ it ∷ after
  pub now : G.flying ≡ (before ++ after) ++ copies
  pub station : it.receiver < site.stations
  pub link : it.subject < site.links
  pub newer : F.rank it.receiver it.subject < it.rank
  pub takes : G.rank it.receiver it.subject ≡ it.rank
  pub others : (s k : ℕ) → ((s ≡ it.receiver) × (k ≡ it.subject) → ⊥) → G.rank s k ≡ F.rank s k
  pub few : length copies ≤ site.weight it.receiver
  pub alike : (y : Notice) → y ∈ copies → (y.subject ≡ it.subject) × (y.rank ≡ it.rank)

-- A notice is settled in one of these two ways.
abbrev pub Settles : Site → Flood → Flood → Type 0
Settles site F G = Gone F G ⊎ Taken site F G

-- A run made only of settlings, with how many notices are settled in it.
pub data Run (site : Site) : Flood → ℕ → Flood → Type 0 where
  none : {F : Flood} → Run site F 0 F
  more : {F G H : Flood} {n : ℕ} → Settles site F G → Run site G n H → Run site F (suc n) H
