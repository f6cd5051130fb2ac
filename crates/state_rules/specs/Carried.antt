-- The letters in flight: which of them are well formed, and what is gathered of many.
use Rattle.std.specs.Prelude.{ℕ, ◌+◌, ◌/◌, ◌%◌, Bool, true, ◌&&◌, eqb, leb, ltb}
use Rattle.lists.specs.Words.{in_word}
use Rattle.net.specs.declared.Body.{Body}
use Rattle.net.specs.declared.Body.TheVariants.{Request, Reply, Notice}
use Rattle.net.specs.declared.Letter.{Letter}
use Rattle.net.specs.Letters.{is_counter}
use Rattle.net.specs.Sizes.{station_room, link_room}

-- one past the subject of a notice; a request and a reply tell of no link
abbrev pub past_subject : Body → ℕ
past_subject Request = 0
past_subject (Reply c) = 0
past_subject (Notice subject c) = subject + 1

abbrev pub counter_holds : Body → Bool
counter_holds Request = true
counter_holds (Reply c) = is_counter c
counter_holds (Notice subject c) = is_counter c

-- a letter, with the own links of its sender; that this is `letter_holds`: proofs/LetterTests.antt
abbrev pub way_test : Letter → Bool
way_test x = ltb x.link link_room && ltb x.sender station_room

abbrev pub letter_test : ℕ → ℕ → Letter → Bool
letter_test links own x =
    ((way_test x && in_word own (x.link % link_room)) && leb (past_subject x.body) links) && counter_holds x.body

-- ---- gathered: links and senders joined as numbers, the sender's 65,536 times, have no bit beyond those of 63 and of 31
abbrev pub in_rooms : ℕ → Bool
in_rooms w = eqb (w / 64 % 1024) 0 && eqb (w / 2097152) 0

-- all ways are in their rooms, every sender is an end of its link, no more than these links are told of, the least counter is no 0
abbrev pub gathered_hold : ℕ → ℕ → ℕ → ℕ → ℕ → Bool
gathered_hold links ways ended most least = ((in_rooms ways && in_word ended 0) && leb most links) && leb 1 least
