-- A sending that is being posted: which letters are left, the first of them, and what is left after it.
-- Their laws: proofs/PostLaws.antt.
use Rattle.std.specs.Prelude.{ℕ, Bool, true, false, ◌&&◌, ◌≡◌, List, [], ◌∷◌, ◌++◌, get_or, if◌then◌else◌}
use Rattle.net.specs.declared.Body.TheVariants.{Request, Reply, Notice}
use Rattle.net.specs.declared.Letter.{Letter}
use Rattle.station.specs.declared.Sending.{Sending}
use Rattle.station.specs.Done.{letter, on_each, tell}
use Rattle.station.specs.Values.{members_of}
use Rattle.post.specs.declared.Post.{Post}
use Rattle.post.specs.Links.{some_in, lowest_in, less_lowest}

-- ---- which letters are left
-- notices: of the first subject on the ways left, then of each later one on each way
abbrev pub telling : ℕ → (ℕ → ℕ) → List ℕ → List ℕ → List ℕ → List Letter
telling s c [] left ways = []
telling s c (j ∷ subjects) left ways = on_each s (Notice j (c j)) left ++ tell s c subjects ways

-- where the table told is this: requests by link; notices by subject, then by way; last the reply
unfoldable pub posted : ℕ → List ℕ → Post → List Letter
posted s told p =
    on_each s Request (members_of p.requests)
    ++ (telling s (λ j. get_or told j 0) (members_of p.subjects) (members_of p.left) (members_of p.ways)
    ++ (if p.replies then (letter s p.link (Reply p.reply) ∷ []) else []))

-- where no way is left for the lowest subject, there was none: no subject is told halfway and then left
unfoldable pub Going : Post → Type 0
Going p = members_of p.left ≡ [] → members_of p.ways ≡ []

-- ---- the beginning: every way is left for the lowest subject
abbrev pub begun_post : Sending → Post
begun_post x =
    record {
      requests = x.requests;
      subjects = x.subjects;
      ways = x.ways;
      left = x.ways;
      replies = x.replies;
      reply = x.reply;
      link = x.link;
    }

-- ---- the first letter left
-- once no request is left, it is a notice
abbrev pub tells : Post → Bool
tells p = some_in p.subjects && some_in p.left

-- by the two tests: a request, a notice of the counter c, or the reply
abbrev pub first_by : Bool → Bool → ℕ → ℕ → Post → Letter
first_by true t s c p = letter s (lowest_in p.requests) Request
first_by false true s c p = letter s (lowest_in p.left) (Notice (lowest_in p.subjects) c)
first_by false false s c p = letter s p.link (Reply p.reply)

unfoldable pub first_left : ℕ → ℕ → Post → Letter
first_left s c p = first_by (some_in p.requests) (tells p) s c p

-- ---- what is left after it
-- the same with this still to come
abbrev pub changed_post : Post → ℕ → ℕ → ℕ → Bool → Post
changed_post p requests subjects left replies =
    record { requests = requests; subjects = subjects; ways = p.ways; left = left; replies = replies; reply = p.reply; link = p.link }

-- by the same tests, and by whether a way is left for the subject that was told; where none is, every way is left for the next
abbrev pub rest_by : Bool → Bool → Bool → Post → Post
rest_by true t more p = changed_post p (less_lowest p.requests) p.subjects p.left p.replies
rest_by false true true p = changed_post p p.requests p.subjects (less_lowest p.left) p.replies
rest_by false true false p = changed_post p p.requests (less_lowest p.subjects) p.ways p.replies
rest_by false false more p = changed_post p p.requests p.subjects p.left false

unfoldable pub rest_left : Post → Post
rest_left p = rest_by (some_in p.requests) (tells p) (some_in (less_lowest p.left)) p
