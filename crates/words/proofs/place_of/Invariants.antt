-- The word's place is as many further than k as it is in what is left of the list. Assumes nothing.
use Rattle.std.proofs.Common.{◌≡◌, ◌+◌, ◌-◌, length}
use Rattle.words.specs.Place.{place_within, place_of}
use Rattle.words.proofs.place_of.Given as goal

abbrev pub invariant-loop-k : goal.invariant-loop-k
invariant-loop-k l = place_of l.word l.list ≡ l.k + place_within (length l.list - l.k) l.word l.left
