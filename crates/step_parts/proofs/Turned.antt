-- A step whose loops have ended: the state that they leave is the one that the definition says.
use Prim.Native.Nat.{ℕ, ◌+◌}
use mathlib.Core.Path.{◌≡◌, refl, sym, ap, ◌∙◌}
use mathlib.Core.List.{List, ◌++◌}
use native.Mathlib.Omega.{arith}
use lib.ListN.{length, set, take}
use lib.Seq.{take-length, set-set}
use Rattle.lists.specs.Places.{closing, roomed}
use Rattle.net.specs.Sizes.{link_room, letter_room}
use Rattle.net.specs.declared.Letter.{Letter}
use Rattle.station.specs.declared.Sending.{Sending}
use Rattle.station.specs.declared.Kind.{Kind}
use Rattle.station.specs.declared.Station.{Station}
use Rattle.station_plan.specs.declared.Plan.{Plan}
use Rattle.station_plan.specs.Carrying.{kept_by}
use Rattle.post.specs.declared.Post.{Post}
use Rattle.post.specs.Post.{posted, begun_post}
use Rattle.post.proofs.PostLaws as P
use Rattle.world.specs.World.{no_letter}
use Rattle.state.specs.declared.State.{State}
use Rattle.step_rules.specs.declared.Stepped.{Stepped}
use Rattle.step_rules.specs.Step.{stepped_of}
use Rattle.step_parts.specs.declared.Names.{Names}
use Rattle.step_parts.specs.declared.Room.{Room}
use Rattle.step_parts.proofs.Made.{Facts, stored, left_letters, left_length, new_are, few_after, closed_up, closes_within, made}
use Rattle.step_parts.proofs.Made.{posted_none}
use Rattle.step_parts.proofs.Loops.{with_letters, with_station, Closing, closes_none, Putting}

-- the place that fell free is laid down anew
abbrev pub freed : Room → State → State
freed r s = with_letters s (set s.letters r.free r.unused)

module _ {s : State} {kind a b : ℕ} {e : Kind} {place : ℕ} {n : Names} {own : ℕ} {p : Plan} {told : List ℕ} {send : Sending} {count : ℕ}
    {r : Room}
    (f : Facts s kind a b e place n own p told send count r) (q : r.answer ≡ 0) where
  abbrev me : ℕ
  me = n.station

  -- the answer with this state
  abbrev pub stepping : State → Stepped
  stepping s₄ = record { answer = 0; counts = p.counts; state = s₄ }

  -- ---- the station is stored, with this table or that
  module _ (s₁ : State) (st₁ : Station) (x : s₁ ≡ with_station s me st₁) where
    pub closing_begins : Closing s₁ r.from r.left s₁ r.from
    closing_begins =
        let w = closes_within f q in
        closes_none s₁ r.from r.left w.0 w.1 (ap (λ (y : State). length y.letters) x ∙ f.seen.sized.letters)

    -- ---- both loops have ended, and it is known how many letters fly
    module _ (s₂ s₃ : State) (post last : Post) (i j : ℕ) (c : Closing s₁ r.from r.left s₂ i) (y : post ≡ begun_post send)
        (d : Putting (freed r s₂) me told r.left count post s₃ last j) (hi : i ≡ r.left) (hj : j ≡ count) where
      abbrev pub turned : State
      turned = record { net = s₃.net; flying = r.left + count; stations = s₃.stations; letters = s₃.letters }

      same_net : s₃.net ≡ s.net
      same_net = ap (λ (x : State). x.net) d.others ∙ ap (λ (x : State). x.net) c.so_far ∙ ap (λ (x : State). x.net) x

      one_set : s₃.stations ≡ set s.stations me st₁
      one_set =
          ap (λ (x : State). x.stations) d.others ∙ ap (λ (x : State). x.stations) c.so_far ∙ ap (λ (x : State). x.stations) x

      is_step : (kept : List ℕ) → kept ≡ kept_by s.net me p.resets p.purges told
          → (stations : List Station) → stations ≡ set s.stations me (stored p kept)
          → stepping (record { net = s₃.net; flying = r.left + count; stations = stations; letters = s₃.letters }) ≡ stepped_of s kind a b
      is_step kept k stations z =
          let all = posted me told post in
          let closed = ap (λ (x : State). set x.letters r.free r.unused) c.so_far
          ∙ ap (λ (x : State). set (closing r.from x.letters i) r.free r.unused) x
          ∙ ap (λ (i : ℕ). set (closing r.from s.letters i) r.free r.unused) hi ∙ closed_up f q in
          let put = d.letters (left_letters f q) closed (left_length f q)
          ∙ ap (λ (x : List Letter). roomed letter_room no_letter (left_letters f q ++ x))
          (ap (λ (i : ℕ). take i all) (hj ∙ d.many) ∙ take-length all ∙ (P.start me told send post y).0 ∙ new_are f q) in
          made f q s₃.net stations s₃.letters (r.left + count) kept same_net k z put refl

      -- the table that was stored is the one that is kept
      pub stays : (kept : List ℕ) → kept ≡ kept_by s.net me p.resets p.purges told → st₁ ≡ stored p kept
          → (s₄ : State) → s₄ ≡ turned → (s₄.net ≡ s.net) × (stepping s₄ ≡ stepped_of s kind a b)
      stays kept k z s₄ e = (
        ap (λ (x : State). x.net) e ∙ same_net,
        ap stepping e ∙ is_step kept k s₃.stations (one_set ∙ ap (set s.stations me) z),
      )

      -- or that one is stored now
      pub stores_again : (kept : List ℕ) → kept ≡ kept_by s.net me p.resets p.purges told
          → (s₄ : State) → s₄ ≡ with_station turned me (stored p kept) → (s₄.net ≡ s.net) × (stepping s₄ ≡ stepped_of s kind a b)
      stores_again kept k s₄ e = (
        ap (λ (x : State). x.net) e ∙ same_net,
        ap stepping e
            ∙ is_step kept k (set s₃.stations me (stored p kept))
            (ap (λ (l : List Station). set l me (stored p kept)) one_set ∙ set-set s.stations me st₁ (stored p kept)),
      )

  pub putting_begins : (s₂ : State) (post : Post) → length told ≡ link_room → post ≡ begun_post send
      → Putting (freed r s₂) me told r.left count post (freed r s₂) post 0
  putting_begins s₂ post h y =
      let g = P.start me told send post y in
      record {
        ahead = omega arith;
        fits = few_after f q;
        many = f.counts ∙ ap length (sym g.0);
        going = g.1;
        rest = refl;
        others = refl;
        table = h;
        letters = λ ls e l. e ∙ posted_none ls (posted me told post);
      }
