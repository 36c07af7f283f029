-- The loop over the parts: the moves made so far are the plans of the parts before (`parts_before`), and each part is balanced in the yard that these leave.
use mathlib.Core.Path.{◌≡◌, refl, sym, ap, ◌∙◌}
use mathlib.Core.Logic.{◌≢◌}
use mathlib.Core.Bool.{not}
use mathlib.Core.List.{List, map}
use mathlib.Core.Option.{none, some}
use Prim.Native.Nat.{ℕ, suc, ◌+◌, ◌/◌, ◌≤◌, ◌<◌}
use native.Mathlib.Omega.{arith}
use lib.ListN.{length, get_or}
use lib.Dec.{eqb}
use Rattle.model.specs.Yard.{Yard, size, shortest, Matched}
use Rattle.model.specs.Judge.{Fault, fault, Tree}
use Rattle.model.specs.Push.{after, run}
use Rattle.model.specs.Parts.{topmost}
use Rattle.model.specs.Calls.Answers.{refused, range}
use Rattle.model.specs.Calls.Parts.{parts_fault, parts_answer, parts_plan_list, parts_list}
use Rattle.laws.specs.Parts.{Top}
use Rattle.laws.proofs.Judged.{facts}
use Rattle.laws.proofs.Ranges.{length_range, get_d_listed}
use Rattle.laws.proofs.Shortest.{Good, good_nil, keeps}
use Rattle.laws.proofs.PartTurns.{top_even, parts_before, parts_before_none, parts_before_all, parts_pass, parts_turn}
use Rattle.laws.proofs.Demand3.{plan_length}
use Rattle.laws.proofs.PartsCall.{parts_fault_law, parts_none}
use Rattle.serve.specs.declared.state.State.{State}
use Rattle.serve.specs.declared.tree.Children.{Children}
use Rattle.serve.specs.Serving.{Kept, Tables, Made}
use Rattle.serve.proofs.Moving.{made_nil}
use Rattle.serve.proofs.Stretches.{rest, back, made_append, room_left, describes_after}
use Rattle.planner.specs.Balancing.{entered, AskedEven, Balanced}
use Rattle.planner.proofs.Planning.{plan_short, room}
use Rattle.parts.specs.Naming.{AskedNames}
use Rattle.parts.specs.Planning.{AskedParts, PlannedParts}

-- the call's refusals
module _ (y : Yard) (list parts : List ℕ) where
  pub parts_refused : (f : Fault) → parts_fault y list parts ≡ some f → (refused f ≡ parts_answer y list parts) × ((list ≡ parts_plan_list y list parts) × (parts ≡ parts_list y list parts))
  parts_refused f e = rw e (refl, (refl, refl))

  module _ (t : Tree y) (m : Matched y) (n : length parts ≡ size y) (l : ℕ) (e : l ≡ shortest y) where
    pub parts_short : length list / 2 < l → parts_fault y list parts ≡ fault 8 l
    parts_short h = parts_fault_law y list parts n ∙ plan_short y t m list l e h

    pub parts_accepted : l ≤ length list / 2 → parts_fault y list parts ≡ none
    parts_accepted h = (parts_none y list parts).1 (t, m, n, omega (arith, room y t m list l e h, plan_length y t m))

-- what naming the parts asks holds of an accepted yard, and what planning them asks of what naming leaves
module _ (y : Yard) (t : Tree y) (m : Matched y) (s : State) (k : Kept y s) where
  pub names_asked : (parts : List ℕ) → length parts ≡ size y → AskedNames y y.parents s.demands parts
  names_asked parts n = record {
    tree = t;
    matched = m;
    parents_are = refl;
    demands_are = k.demands;
    demands_long = omega (arith, k.long.demands, (facts y t).few);
    long = n;
  }

  pub parts_asked : (tables : Children) → Tables y.parents tables → (list : List ℕ) (l : ℕ) → l ≡ shortest y → l ≤ length list / 2
      → (parts : List ℕ) → parts ≡ map (topmost y) (range 0 (size y)) → AskedParts y tables s list parts
  parts_asked tables d list l e h parts n = record {
    described = record { tree = t; tables = d; kept = k };
    matched = m;
    room = room y t m list l e h;
    named = n;
  }

-- the parts before i are planned
pub record Before (y : Yard) (s : State) (before plan : List ℕ) (k i : ℕ) : Type 0 where
  pub few : i ≤ size y
  pub good : Good y (parts_before y i)
  pub made : Made y (parts_before y i) s before plan k

module _ {y : Yard} {t : Children} {s₀ : State} {before parts : List ℕ} (a : AskedParts y t s₀ before parts) where
  pub parts_long : length parts ≡ size y
  parts_long = rw a.named (length_range (topmost y) 0 (size y))

  pub name_is : (v : ℕ) → v < size y → get_or parts v 0 ≡ topmost y v
  name_is v l = rw a.named (get_d_listed (topmost y) 0 (size y) v l)

  pub before_none : Before y s₀ before before 0 0
  unfolding after
  before_none = record { few = omega arith; good = rw (parts_before_none y) (good_nil y); made = rw (parts_before_none y) (made_nil y s₀ before a.described.kept) }

  pub before_all : {s : State} {plan : List ℕ} {k i : ℕ} → size y ≤ i → Before y s before plan k i → PlannedParts y before plan k
  before_all {i = i} l b =
      let e : i ≡ size y = omega (arith, b.few) in
      let d = rw (e, parts_before_all y) at b.made in
      record { written = d.written; counted = d.counted }

  module _ {s : State} {plan : List ℕ} {k i : ℕ} (b : Before y s before plan k i) (l : i < size y) where
    one_more : i + 1 ≡ suc i
    one_more = omega arith

    -- a node that is not topmost is passed over
    pub before_pass : get_or parts i 0 ≢ i → Before y s before plan k (i + 1)
    before_pass d =
        let e : parts_before y (i + 1) ≡ parts_before y i = ap (parts_before y) one_more ∙ parts_pass y i (λ e. d (name_is i l ∙ e)) in
        record { few = omega arith; good = rw e b.good; made = rw e b.made }

    -- a topmost one is balanced
    module _ (q : get_or parts i 0 ≡ i) where
      top : Top y i
      top = record { lt = l; own = sym (name_is i l) ∙ q }

      pub part_asked : AskedEven (run y (parts_before y i)) t s (rest plan k) i
      part_asked = record {
        described = describes_after a.described b.good b.made;
        node = l;
        even = omega (arith, top_even y a.described.tree a.matched i top, keeps y a.described.tree (parts_before y i) b.good i l);
        room = room_left b.good a.room b.made;
      }

      pub before_next : {s' : State} {part : List ℕ} {m : ℕ} → Balanced (entered parts) (run y (parts_before y i)) i s' (rest plan k) part m → Before y s' before (back plan k part) (k + m) (i + 1)
      before_next v =
          let r = parts_turn y a.described.tree a.matched i top b.good (entered parts) (λ c h. ap (λ (x : ℕ). not (eqb x c)) (name_is c h)) v.moves v.balances in
          record { few = omega arith; good = rw one_more r.1; made = rw (ap (parts_before y) one_more ∙ r.0) (made_append b.made v.made) }
