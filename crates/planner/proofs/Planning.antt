-- What planning starts from: the demands and pebbles of the yard, its length, and an even root.
use mathlib.Core.Path.{◌≡◌, refl, sym, ◌∙◌}
use mathlib.Core.Bool.{Bool, true, false}
use mathlib.Core.List.{List}
use Prim.Native.Nat.{ℕ, ◌+◌, ◌*◌, ◌/◌, ◌≤◌, ◌<◌}
use native.Mathlib.Nat.{le-div_iff_mul-le, div-lt_iff_lt-mul}
use native.Mathlib.Omega.{arith}
use native.Mathlib.Decide.{ℕ_discrete, dec_lt}
use lib.ListN.{length, get_or, take, set, length-set, get_or-eq_default}
use lib.Seq.{get_or-set_same, get_or-set_other, get_or-take, length-take-le}
use lib.IntN.{ℤ, pos, nat_abs}
use borrow.Author.Tests.{lt-leb, ne_eqb}
use mathlib.Core.Option.{none}
use Rattle.model.specs.Yard.{Yard, size, sum, root, imbalance, shortest, Matched}
use Rattle.model.specs.Judge.{fault, Tree}
use Rattle.model.specs.Plan.{plan}
use Rattle.model.specs.Calls.Answers.{overwrite}
use Rattle.model.specs.Calls.Demands.{demands_of}
use Rattle.model.specs.Calls.Plans.{bytes, plan_fault}
use Rattle.laws.proofs.Sums.{sum_cong}
use Rattle.laws.proofs.Judged.{facts, wood}
use Rattle.laws.proofs.Demands.{root_even}
use Rattle.laws.proofs.Signed.{demand_size, demand_range}
use Rattle.laws.proofs.Balance.{plan_only}
use Rattle.laws.proofs.Own.{balances_in_all}
use Rattle.laws.proofs.Calls.{totals_none, plan_none}
use Rattle.laws.proofs.Demand3.{plan_length}
use Rattle.demand.proofs.Answers.{demands_at}
use Rattle.serve.specs.declared.state.State.{State}
use Rattle.serve.specs.declared.tree.Children.{Children}
use Rattle.serve.specs.Serving.{lasts, Long, Tables, Kept}
use Rattle.planner.specs.Balancing.{entered, AskedEven, Balanced, Placed}

-- no node is placed yet
pub place_none : (pebbles depths : List ℕ) (s : State) → Long s → Placed pebbles depths s s 0
place_none pebbles depths s e = record { long = e; low = refl; high = λ w l. absurd (omega arith); lasts = λ b w l. absurd (omega arith); deep = λ w l. absurd (omega arith) }

-- a list with the entry of one node more
entry_next : (list : List ℤ) (f : ℕ → ℤ) (v : ℕ) (p : ℤ) → v < length list → p ≡ f v → ((w : ℕ) → w < v → get_or list w (pos 0) ≡ f w) → (w : ℕ) → w < v + 1
    → get_or (set list v p) w (pos 0) ≡ f w
entry_next list f v p l e h w m = at (ℕ_discrete w v)
  where
    at : Dec (w ≡ v) → get_or (set list v p) w (pos 0) ≡ f w
    at (yes c) = rw c (get_or-set_same list v p (pos 0) l ∙ e)
    at (no d) = get_or-set_other list v w p (pos 0) d ∙ h w (omega arith)

-- node v is placed, after those below it
abbrev pub place_at : State → ℕ → ℤ → ℤ → ℤ → ℤ → State
place_at s v p q r z = record s {
  pebbles = set s.pebbles v p;
  last_filled = set s.last_filled v q;
  last_drawn = set s.last_drawn v r;
  depths = set s.depths v z;
}

pub place_next : (pebbles depths : List ℕ) (s₀ s : State) (v : ℕ) (p q r z : ℤ) → v < 256 → p ≡ pos (get_or pebbles v 0) → q ≡ pos v → r ≡ pos v → z ≡ pos (get_or depths v 0)
    → Placed pebbles depths s₀ s v → Placed pebbles depths s₀ (place_at s v p q r z) (v + 1)
place_next pebbles depths s₀ s v p q r z l e f g x h = record {
  long = record { demands = h.long.demands; pebbles = simp length-set h.long.pebbles; lasts = long; depths = simp length-set h.long.depths };
  low = h.low;
  high = entry_next s.pebbles (λ w. pos (get_or pebbles w 0)) v p (omega (arith, h.long.pebbles)) e h.high;
  lasts = last;
  deep = entry_next s.depths (λ w. pos (get_or depths w 0)) v z (omega (arith, h.long.depths)) x h.deep;
}
  where
    long : (b : Bool) → length (lasts b (place_at s v p q r z)) ≡ 256
    long true = length-set s.last_filled v q ∙ h.long.lasts true
    long false = length-set s.last_drawn v r ∙ h.long.lasts false

    last : (b : Bool) (w : ℕ) → w < v + 1 → get_or (lasts b (place_at s v p q r z)) w (pos 0) ≡ pos w
    last true = entry_next s.last_filled pos v q (omega (arith, h.long.lasts true)) f (h.lasts true)
    last false = entry_next s.last_drawn pos v r (omega (arith, h.long.lasts false)) g (h.lasts false)

-- all placed beside the demands of a tree
pub placed_kept : (y : Yard) → Tree y → (s₀ s : State) → take (size y) s₀.demands ≡ demands_of y → Placed y.pebbles y.depths s₀ s (length y.pebbles) → Kept y s
placed_kept y t s₀ s e h = record {
  long = h.long;
  demands = λ v l. rw h.low (demands_at y s₀.demands v e l);
  pebbles = λ v l. h.high v (omega (arith, (facts y t).pebbles_size));
  lasts = λ b u l. record { node = u; is = h.lasts b u (omega (arith, (facts y t).pebbles_size)); served = λ d. absurd (d refl) };
  depths = λ v l. h.deep v (omega (arith, (facts y t).pebbles_size));
}

-- the state's demands, and their sizes summed: the shortest length
module _ (y : Yard) (t : Tree y) (s : State) (k : Kept y s) where
  pub front_length : length (take (size y) s.demands) ≡ size y
  front_length = length-take-le (size y) s.demands (omega (arith, k.long.demands, (facts y t).few))

  pub front_long : size y ≤ length s.demands
  front_long = omega (arith, k.long.demands, (facts y t).few)

  pub sizes_range : (v : ℕ) → nat_abs (get_or (take (size y) s.demands) v (pos 0)) ≤ 2_048
  sizes_range v = go (dec_lt v (size y))
    where
      go : Dec (v < size y) → nat_abs (get_or (take (size y) s.demands) v (pos 0)) ≤ 2_048
      go (yes l) = rw (get_or-take (size y) s.demands v (pos 0) l, k.demands v l) (demand_range y t v)
      go (no l) = rw (get_or-eq_default (take (size y) s.demands) (pos 0) {n = v} (omega (arith, front_length))) (omega arith)

  pub sizes_shortest : sum (length (take (size y) s.demands)) (λ v. nat_abs (get_or (take (size y) s.demands) v (pos 0))) ≡ shortest y
  unfolding shortest
  sizes_shortest = rw front_length (sum_cong (size y) _ (imbalance y) (λ v l. rw (get_or-take (size y) s.demands v (pos 0) l, k.demands v l) (demand_size y v)))

module _ (y : Yard) (t : Tree y) (m : Matched y) (list : List ℕ) (l : ℕ) (e : l ≡ shortest y) where
  -- a list that is too short
  pub plan_short : length list / 2 < l → plan_fault y (length list) ≡ fault 8 l
  unfolding plan_fault
  plan_short h =
      let short : length list < 2 * length (plan y) = omega (arith, (div-lt_iff_lt-mul {k = 2} (omega arith)).0 h, plan_length y t m) in
      rw (t, (totals_none y).1 m, lt-leb (2 * length (plan y)) (length list) short, e, ← (plan_length y t m))

  -- a list that is long enough: balancing the root gives the plan
  module _ (h : l ≤ length list / 2) where
    pub room : 2 * shortest y ≤ length list
    room = omega (arith, (le-div_iff_mul-le {k = 2} (omega arith)).0 h)

    pub root_asked : (tab : Children) (s : State) → Tables y.parents tab → Kept y s → (r : ℕ) → r ≡ root y → AskedEven y tab s list r
    root_asked tab s a k r q = rw q (record {
      described = record { tree = t; tables = a; kept = k };
      node = (wood y t).root_lt;
      even = root_even y t m;
      room = room;
    })

    pub plan_accepted : plan_fault y (length list) ≡ none
    plan_accepted = (plan_none y (length list)).1 (t, m, omega (arith, room, plan_length y t m))

    pub plan_written : (r : ℕ) → r ≡ root y → (s : State) (after : List ℕ) (count : ℕ) → Balanced (entered y.parents) y r s list after count → (count ≡ length (plan y)) × (after ≡ overwrite (bytes (plan y)) list)
    plan_written r q s after count b =
        let p : b.moves ≡ plan y = plan_only y t m b.moves (balances_in_all (rw q at b.balances) (λ u c k. rw (k.up, ne_eqb u c (λ e. k.other (sym e))))) in
        rw (← p) (b.made.counted, b.made.written)
