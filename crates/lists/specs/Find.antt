-- What the searches answer: the lowest index whose entry passes a test, or none.
use Rattle.std.specs.Prelude.{cond, not, ◌&&◌, List, ℕ, Option, Some, None, length, get_or, leb, ltb, eqb}
use Rattle.model.specs.Yard.{lowest}

-- a number below n; none, if it is n or more
abbrev pub someBelow : ℕ → ℕ → Option ℕ
someBelow n k = cond (ltb k n) (Some k) None

-- below: the lowest index whose entry passes, or the list's length

-- an entry of at least `limit`
abbrev pub firstAtLeast : List ℕ → ℕ → ℕ
firstAtLeast list limit = lowest (length list) (λ v. leb limit (get_or list v 0))

-- an entry below `low` or above `high`
abbrev pub firstOutside : List ℕ → ℕ → ℕ → ℕ
firstOutside list low high = lowest (length list) (λ v. not ((leb low (get_or list v 0)) && (leb (get_or list v 0) high)))

-- from `start` on an entry that is its index
abbrev pub firstOwn : List ℕ → ℕ → ℕ
firstOwn list start = lowest (length list) (λ v. (leb start v) && (eqb (get_or list v 0) v))

-- an entry below the other list's
abbrev pub firstBelow : List ℕ → List ℕ → ℕ
firstBelow list other = lowest (length list) (λ v. ltb (get_or list v 0) (get_or other v 0))
