-- Which opening goes over an edge.
use Rattle.std.specs.Prelude.{cond, ◌&&◌, ℕ, ltb, ℤ, pos, Option, Some, None}
use Rattle.std.specs.Int.Signed.{lt_z}
use Rattle.model.specs.Yard.{Yard, parent}
use Rattle.model.specs.Push.{push}
use Rattle.model.specs.Openings.{opening}
use Rattle.openings.specs.declared.edges.Way.{Way}
use Rattle.openings.specs.declared.edges.Way.TheVariants.{Down, Up}

-- by the demand, the pebbles and the depth of its lower node, and those of the parent
abbrev pub wayOver : ℤ → ℕ → ℕ → ℕ → ℕ → Option Way
wayOver demand pebbles depth above limit =
    cond ((lt_z (pos 0) demand) && ((ltb 0 above) && (ltb pebbles depth))) (Some Down) (cond ((lt_z demand (pos 0)) && ((ltb 0 pebbles) && (ltb above limit))) (Some Up) None)

-- and by the openings themselves
abbrev pub way_of : Yard → ℕ → Option Way
way_of y v = cond (opening y (push (parent y v) v)) (Some Down) (cond (opening y (push v (parent y v))) (Some Up) None)
