-- `words::place_of` meets its contract. Assumes nothing.
use Rattle.std.proofs.Common.{◌≡◌, ◌-◌, length, arith}
use Rattle.words.specs.Place.{place_within}
use Rattle.words.proofs.place_of.Goals as goal

pub returns : goal.returns
unfolding place_within
returns c =
    let n = length c.args.list.now in
    let z : n - c.loop-k.k ≡ 0 = omega arith in
    let e = rw z at c.loop-k.invariant in
    omega (arith, e)
