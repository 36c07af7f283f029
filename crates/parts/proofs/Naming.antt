-- Laws about naming the parts. Each entry of the list leads up its part, so a climb ends; and to write a node's topmost node as its entry keeps that so.
use mathlib.Core.Path.{◌≡◌, refl, sym, ap, ◌∙◌}
use mathlib.Core.Logic.{◌≢◌, ◌⊎◌, inl, inr, ⊎_elim}
use mathlib.Core.Bool.{Bool, true, false, cond}
use mathlib.Core.List.{List, map}
use Prim.Native.Nat.{ℕ, suc, ◌+◌, ◌-◌, ◌≤◌, ◌<◌}
use native.Mathlib.Omega.{arith}
use native.Mathlib.Decide.{ℕ_discrete}
use lib.ListN.{length, get_or, set, length-set}
use lib.Seq.{get_or-set_same, get_or-set_other}
use lib.IntN.{ℤ, pos, negsuc, nat_abs}
use lib.Dec.{eqb}
use mir.Syntax.{w16}
use mir.Val.{SFits, to_z, of_z}
use mir.ValLaws.{to_z-of_z}
use borrow.Author.Count.{below_more}
use borrow.Author.Tests.{ne_eqb}
use Rattle.model.specs.Yard.{Yard, size, parent, Matched}
use Rattle.model.specs.Judge.{Tree}
use Rattle.model.specs.Parts.{is_cut, topmost}
use Rattle.model.specs.Calls.Answers.{range}
use Rattle.laws.proofs.Ranges.{listed}
use Rattle.laws.proofs.Demands.{weight, weight_le}
use Rattle.laws.proofs.Judged.{facts, wood}
use Rattle.laws.proofs.Signed.{demand_size}
use Rattle.laws.proofs.Parts.{topmost_cut, topmost_uncut, topmost_top, parent_heavier, topmost_heavier}
use Rattle.parts.specs.Naming.{onward, Cut, Lead, Leads, AskedName, AskedShort, Named, AskedNames}

-- a demand is 0 just where its bits are
pub bits_size : (z : ℤ) → SFits w16 z → eqb (nat_abs z) 0 ≡ eqb (of_z w16 z) 0
bits_size (pos n) f = refl
bits_size (negsuc n) f = ne_eqb (suc n) 0 (omega arith) ∙ sym (ne_eqb (65_536 - suc n) 0 (omega (arith, f.sfits)))

-- the edges are cut, node by node
module _ {parents : List ℕ} {demands : List ℤ} where
  pub cut_none : {list : List ℕ} → length list ≡ length parents → Cut parents demands list 0
  cut_none e = record { long = e; entries = λ v l. absurd (omega arith) }

  pub cut_next : {list : List ℕ} {v x : ℕ} → Cut parents demands list v → v < length parents
      → SFits w16 (get_or demands v (pos 0))
      → x ≡ onward v (get_or parents v 0) (to_z w16 (of_z w16 (get_or demands v (pos 0))))
      → Cut parents demands (set list v x) (v + 1)
  cut_next {list} {v} {x} c l f e = record {
    long = length-set list v x ∙ c.long;
    entries = below_more _ v (λ w k. get_or-set_other list v w x 0 (omega arith) ∙ c.entries w k)
        (get_or-set_same list v x 0 (omega (arith, c.long)) ∙ e
        ∙ ap (onward v (get_or parents v 0)) (to_z-of_z w16 (get_or demands v (pos 0)) f));
  }

module _ (y : Yard) (t : Tree y) (m : Matched y) where
  -- one step up the part, if its edge is not cut, leads on; and so does the topmost node at once
  lead_on : (v : ℕ) → v < size y → Lead y v (cond (is_cut y v) v (parent y v))
  lead_on v l = go (is_cut y v) refl
    where
      go : (b : Bool) → is_cut y v ≡ b → Lead y v (cond b v (parent y v))
      go true e = record { node = l; same = refl; end = λ _. topmost_cut y t m v l e; up = λ d. absurd (d refl) }
      go false e =
          let h = parent_heavier y t m v l e in
          record { node = (wood y t).parent_lt v l; same = sym (topmost_uncut y t m v l e); end = λ q. absurd (omega (arith, h, ap (weight y.parents) q)); up = λ _. h }

  lead_top : (v : ℕ) → v < size y → Lead y v (topmost y v)
  lead_top v l = let top = topmost_top y t m v l in record { node = top.lt; same = top.own; end = λ e. e; up = topmost_heavier y t m v l }

-- what naming all asks is enough to cut the edges, and then the list leads up each part
pub asked_cut : {y : Yard} {parents : List ℕ} {demands : List ℤ} {parts : List ℕ} → AskedNames y parents demands parts
    → (length parents ≤ 256) × (length parents ≤ length demands) × (length parts ≡ length parents)
asked_cut {y} a = omega (arith, ap length a.parents_are, a.demands_long, a.long, (facts y a.tree).few)

pub cut_leads : {y : Yard} {parents : List ℕ} {demands : List ℤ} {before list : List ℕ} → AskedNames y parents demands before → Cut parents demands list (length parents) → Leads y list
cut_leads {y} a c = record {
  tree = a.tree;
  matched = a.matched;
  long = c.long ∙ ap length a.parents_are;
  lead = λ v l. rw (c.entries v (omega (arith, ap length a.parents_are)), a.demands_are v l, demand_size y v, a.parents_are) (lead_on y a.tree a.matched v l);
}

-- a climb from v has come to u by k steps
pub record Climbing (y : Yard) (v u k : ℕ) : Type 0 where
  pub node : u < size y
  pub same : topmost y u ≡ topmost y v
  pub few : k ≤ weight y.parents u
  pub first : k ≡ 0 → u ≡ v

module _ {y : Yard} {parts : List ℕ} {v : ℕ} (a : AskedName y parts v) where
  pub climb_first : Climbing y v v 0
  climb_first = record { node = a.node; same = refl; few = omega arith; first = λ _. refl }

  module _ {u k : ℕ} (c : Climbing y v u k) where
    pub climb_few : (u < length parts) × (k ≤ length parts)
    climb_few = omega (arith, c.node, c.few, weight_le y.parents u, a.leads.long)

    pub climb_next : get_or parts u 0 ≢ u → Climbing y v (get_or parts u 0) (k + 1)
    climb_next d = let h = a.leads.lead u c.node in record { node = h.node; same = h.same ∙ c.same; few = omega (arith, c.few, h.up d); first = λ e. absurd (omega arith) }

    pub climb_last : get_or parts u 0 ≡ u → AskedShort y parts v u k
    climb_last e =
        let own = (a.leads.lead u c.node).end e in
        record { asked = a; found = sym own ∙ c.same; already = λ z. rw (sym (c.first z)) (e ∙ sym own) }

-- an entry is written: what holds of it, and of the others as they were, holds of all
module _ (P : ℕ → ℕ → Type 0) (list : List ℕ) (u x : ℕ) (l : u < length list) (p : P u x) where
  set_entry : (w : ℕ) → (w ≢ u → P w (get_or list w 0)) → P w (get_or (set list u x) w 0)
  set_entry w h = at (ℕ_discrete w u)
    where
      at : Dec (w ≡ u) → P w (get_or (set list u x) w 0)
      at (yes e) = rw (e, get_or-set_same list u x 0 l) p
      at (no d) = rw (get_or-set_other list u w x 0 d) (h d)

-- a climb from v by k steps has come to u, and the nodes on it lead to the topmost node
pub record Shortening (y : Yard) (before : List ℕ) (v : ℕ) (list : List ℕ) (u k : ℕ) : Type 0 where
  pub leads : Leads y list
  pub node : u < size y
  pub same : topmost y u ≡ topmost y v
  pub stay : (w : ℕ) → get_or before w 0 ≡ topmost y w → get_or list w 0 ≡ topmost y w
  pub met : ((k ≡ 0) × (u ≡ v)) ⊎ (get_or list v 0 ≡ topmost y v)

module _ {y : Yard} {before : List ℕ} {v top steps : ℕ} (a : AskedShort y before v top steps) where
  pub top_small : top < 256
  top_small = let q = a.asked.leads in omega (arith, a.found, (topmost_top y q.tree q.matched v a.asked.node).lt, (facts y q.tree).few)

  pub short_first : Shortening y before v before v 0
  short_first = record { leads = a.asked.leads; node = a.asked.node; same = refl; stay = λ w e. e; met = inl (refl, refl) }

  module _ {list : List ℕ} {u k : ℕ} (s : Shortening y before v list u k) where
    pub short_in : u < length list
    short_in = omega (arith, s.node, s.leads.long)

    pub short_next : Shortening y before v (set list u top) (get_or list u 0) (k + 1)
    short_next = let h = s.leads.lead u s.node in rw (a.found ∙ sym s.same) record {
      leads = record {
        tree = s.leads.tree;
        matched = s.leads.matched;
        long = length-set list u (topmost y u) ∙ s.leads.long;
        lead = λ w l. set_entry (Lead y) list u (topmost y u) short_in (lead_top y s.leads.tree s.leads.matched u s.node) w (λ _. s.leads.lead w l);
      };
      node = h.node;
      same = h.same ∙ s.same;
      stay = λ w e. named w (λ _. s.stay w e);
      met = inr (named v (⊎_elim (λ b d. absurd (d (sym b.1))) (λ e d. e) s.met));
    }
      where
        named : (w : ℕ) → (w ≢ u → get_or list w 0 ≡ topmost y w) → get_or (set list u (topmost y u)) w 0 ≡ topmost y w
        named = set_entry (λ w x. x ≡ topmost y w) list u (topmost y u) short_in refl

    pub short_last : steps ≤ k → Named y before list v
    short_last q = record { leads = s.leads; here = ⊎_elim (λ b. s.stay v (a.already (omega (arith, b.0)))) (λ e. e) s.met; stay = s.stay }

-- the node that v leads to
module _ {y : Yard} {parts : List ℕ} {v : ℕ} (a : AskedName y parts v) where
  pub asked_in : v < length parts
  asked_in = omega (arith, a.node, a.leads.long)

  pub asked_on : {w : ℕ} → w ≡ get_or parts v 0 → AskedName y parts w
  asked_on e = record { leads = a.leads; node = rw e (a.leads.lead v a.node).node }

-- if that one leads to a topmost node, it is v's
pub short_once : {y : Yard} {parts : List ℕ} {v w t : ℕ} → AskedName y parts v → w ≡ get_or parts v 0 → t ≡ get_or parts w 0 → get_or parts t 0 ≡ t → Named y parts (set parts v t) v
short_once {y} {parts} {v} {w} {t} a p q e =
    let b = asked_on a p in
    let same : topmost y t ≡ topmost y v = ap (topmost y) q ∙ (a.leads.lead w b.node).same ∙ ap (topmost y) p ∙ (a.leads.lead v a.node).same in
    let s : AskedShort y parts v t 1 = record { asked = a; found = sym ((a.leads.lead t (asked_on b q).node).end e) ∙ same; already = λ z. absurd (omega arith) } in
    short_last s (short_next s (short_first s)) (omega arith)

-- the nodes below v are named
pub record Names (y : Yard) (list : List ℕ) (v : ℕ) : Type 0 where
  pub leads : Leads y list
  pub below : (w : ℕ) → w < v → get_or list w 0 ≡ topmost y w

pub names_none : {y : Yard} {list : List ℕ} → Leads y list → Names y list 0
names_none h = record { leads = h; below = λ w l. absurd (omega arith) }

pub names_next : {y : Yard} {before list : List ℕ} {v : ℕ} → Names y before v → Named y before list v → Names y list (v + 1)
names_next n d = record { leads = d.leads; below = below_more _ _ (λ w l. d.stay w (n.below w l)) d.here }

pub names_all : {y : Yard} {list : List ℕ} {v : ℕ} → Names y list v → length list ≤ v → list ≡ map (topmost y) (range 0 (size y))
names_all {y} {list} n e = listed (topmost y) 0 (size y) list n.leads.long (λ w l. n.below w (omega (arith, n.leads.long)))
