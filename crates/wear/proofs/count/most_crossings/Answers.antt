-- `most_crossings`: an entry that no entry is above is the most, and 0 is the most of none.
use Rattle.std.proofs.Common.{zero, suc, rules, arith, ◌≡◌, ◌≤◌, ◌<◌, ◌∙◌, length, get_or, get_or-take, take, ℕ, List, Option, Some, None}
use lib.Seq.{length-take-le}
use Rattle.std.specs.Prelude.{MatchOption, EachIndex, SomeIndex}
use Rattle.std.specs.Option.{unwrap_or}
use Rattle.model.specs.Yard.{most}
use Rattle.laws.proofs.Sums.{most_le}
use Rattle.wear.proofs.count.most_crossings.Goals as goal

-- the most is at most what no entry is above
most_bound : (n m : ℕ) (f : ℕ → ℕ) → ((v : ℕ) → v < n → f v ≤ m) → most n f ≤ m
unfolding most
most_bound zero m f h = omega arith
most_bound (suc n) m f h = omega (arith, most_bound n m f (λ v l. h v (omega arith)), h n (omega arith))

-- the greatest of a list
abbrev Greatest : List ℕ → Option ℕ → Type 0
Greatest xs r = MatchOption r (length xs ≡ 0) (λ m. EachIndex xs (λ k. get_or xs k 0 ≤ m) × SomeIndex xs (λ k. get_or xs k 0 ≡ m))

greatest_is : (xs : List ℕ) (n : ℕ) (r : Option ℕ) → n ≤ length xs → Greatest (take n xs) r → unwrap_or r 0 ≡ most n (λ v. get_or xs v 0)
unfolding most
greatest_is xs n None h g =
    let z : n ≡ 0 = omega (arith, g, length-take-le n xs h) in
    rw z
greatest_is xs n (Some m) h g =
    let l = length-take-le n xs h in
    let f : ℕ → ℕ = λ v. get_or xs v 0 in
    let k : g.1.0 < n = omega (arith, l, g.1.1) in
    let e = get_or-take n xs g.1.0 0 k in
    let below = most_bound n m f (λ v a. let d = get_or-take n xs v 0 a in omega (arith, d, g.0 v (omega arith))) in
    omega (arith, e, g.1.2, below, most_le f n g.1.0 k)

pub returns : goal.returns
returns c =
    let g : Greatest (take c.args.n c.args.counts.now) c.max.result = search rules in
    c.unwrap_or.ensures ∙ greatest_is c.args.counts.now c.args.n c.max.result (omega (arith, c.requires)) g
