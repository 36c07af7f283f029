-- What counting within a stretch asks and gives.
use Rattle.std.specs.Prelude.{cond, List, ℕ, ◌+◌, ◌-◌, ◌*◌, ◌≤◌, ◌<◌, length, get_or, set, eqb}
use Rattle.std.proofs.Math.Option.{Option, none, some}
use Rattle.model.specs.Yard.{up}
use Rattle.model.specs.Judge.{Fault}
use Rattle.model.specs.Push.{Move, push}
use Rattle.model.specs.Calls.Plans.{moves_of}
use Rattle.model.specs.Calls.Checks.{within}

-- a plan's move i, and its edge, by its bytes
abbrev pub move_in : List ℕ → ℕ → Move
move_in plan i = push (get_or plan (2 * i) 0) (get_or plan (2 * i + 1) 0)

abbrev pub edge_in : List ℕ → List ℕ → ℕ → ℕ
edge_in parents plan i = let from = get_or plan (2 * i) 0 in let to = get_or plan (2 * i + 1) 0 in cond (eqb (up parents from) to) from to

-- the moves of a plan that are obeyed where the first refused one ends it: all of them, or those before it, which are as many as the refusal's place says
abbrev pub obeyed_of : Option Fault → List ℕ → List Move
obeyed_of none plan = moves_of plan
obeyed_of (some f) plan = within plan f.place

-- a width from 1 to the number of moves, which are not too many
pub record AskedWear (plan : List ℕ) (w : ℕ) : Type 0 where
  pub some : 0 < w
  pub wide : w ≤ length (moves_of plan)
  pub few : length (moves_of plan) ≤ 131_072

-- one crossing less of one edge, then one more of another; what that asks
abbrev pub taken : List ℕ → ℕ → List ℕ
taken counts gone = set counts gone (get_or counts gone 0 - 1)

abbrev pub added : List ℕ → ℕ → List ℕ
added counts come = set counts come (get_or counts come 0 + 1)

pub record AskedShift (counts : List ℕ) (come gone : ℕ) : Type 0 where
  pub come_lt : come < 256
  pub gone_lt : gone < 256
  pub some : 0 < get_or counts gone 0
  pub small : get_or (taken counts gone) come 0 ≤ 262_144
