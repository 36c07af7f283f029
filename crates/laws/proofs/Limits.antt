-- Refusals 9 and 18, each 'exactly if' (`Limits`).
use mathlib.Core.Path.{◌≡◌, ap, sym, ◌∙◌}
use mathlib.Core.Bool.{Bool, true, false, ◌&&◌, and-eq-true_iff}
use mathlib.Core.Logic.{◌↔◌}
use mathlib.Core.List.{List, [], ◌∷◌}
use Prim.Native.Nat.{ℕ, zero, suc, ◌<◌}
use native.Mathlib.Omega.{arith}
use lib.ListN.{length, drop}
use lib.Dec.{leb}
use borrow.Author.Tests.{leb-true, le-leb}
use Rattle.model.specs.Yard.{Yard, max_size}
use Rattle.model.specs.Judge.{row}
use Rattle.model.specs.Calls.Answers.{Answer, answered, refused, mapAnswer}
use Rattle.model.specs.Sheets.{header, begins, columns, readNodes, read_yard, reader}
use Rattle.laws.specs.Limits.{FourLists, Limits}
use Rattle.laws.proofs.Basics.{not_so}
use Rattle.laws.proofs.Cabinet.{bytes_fault_whole}
use Rattle.laws.proofs.Sheets.{read_nodes_end, read_nodes_over, read_nodes_cases}

-- the test of the four lists
abbrev roomy : List ℕ → List ℕ → List ℕ → List ℕ → Bool
roomy ps cs ts ds = (leb max_size (length ps)) && ((leb max_size (length cs)) && ((leb max_size (length ts)) && (leb max_size (length ds))))

abbrev read : Bool → List ℕ → Answer Yard
read t sheet = elim t [ true ↦ read_yard sheet | false ↦ refused (row 18 0) ]

module _ (ps cs ts ds : List ℕ) where
  four_roomy : (roomy ps cs ts ds ≡ true) ↔ FourLists ps cs ts ds
  four_roomy = (
    (λ e.
        let p = (and-eq-true_iff (leb max_size (length ps)) _).0 e in
        let c = (and-eq-true_iff (leb max_size (length cs)) _).0 p.1 in
        let t = (and-eq-true_iff (leb max_size (length ts)) _).0 c.1 in
        (leb-true 256 (length ps) p.0, leb-true 256 (length cs) c.0, leb-true 256 (length ts) t.0, leb-true 256 (length ds) t.1)),
    λ h. rw (le-leb 256 (length ps) h.0, le-leb 256 (length cs) h.1, le-leb 256 (length ts) h.2, le-leb 256 (length ds) h.3),
  )

-- a sheet is refused at a line, which is 1 or more, and 18 has place 0
abbrev Lined : {A : Type 0} → Answer A → Type 0
Lined (answered a) = Unit {0}
Lined (refused f) = 0 < f.place

map_lined : {A B : Type 0} (g : A → B) (a : Answer A) → Lined a → Lined (mapAnswer g a)
map_lined g (answered a) h = tt
map_lined g (refused f) h = h

nodes_lined : (k v : ℕ) (bs : List ℕ) → Lined (readNodes k v bs)
nodes_lined zero v [] = rw (read_nodes_end zero v) tt
nodes_lined zero v (b ∷ bs) = rw (read_nodes_over v b bs) (omega arith)
nodes_lined (suc k) v [] = rw (read_nodes_end (suc k) v) tt
nodes_lined (suc k) v (b ∷ bs) = read_nodes_cases k v b bs Lined (λ _. omega arith) (λ _ _ _. omega arith) (λ l _ _. map_lined (◌∷◌ l.values) (readNodes k (suc v) l.rest) (nodes_lined k (suc v) l.rest))

yard_lined : (sheet : List ℕ) → Lined (read_yard sheet)
unfolding read_yard
yard_lined sheet = go (begins header sheet) (drop (length header) sheet)
  where
    go : (t : Bool) (rest : List ℕ) → Lined {A = Yard} (elim t [ false ↦ refused (row 15 1) | true ↦ elim rest [ [] ↦ refused (row 1 2) | (b ∷ rest) ↦ mapAnswer columns (readNodes max_size 0 (b ∷ rest)) ] ])
    go false rest = omega arith
    go true [] = omega arith
    go true (b ∷ rest) = map_lined columns (readNodes max_size 0 (b ∷ rest)) (nodes_lined max_size 0 (b ∷ rest))

not_18 : (sheet : List ℕ) → read_yard sheet ≡ refused (row 18 0) → ⊥
not_18 sheet e = let l = rw e at (yard_lined sheet) in omega (arith, l)

pub limits : Limits
unfolding reader
limits = record {
  nine = bytes_fault_whole;
  eighteen = λ sheet ps cs ts ds. (
    (λ e h. not_18 sheet (sym (ap (λ (t : Bool). read t sheet) ((four_roomy ps cs ts ds).1 h)) ∙ e)),
    λ n. ap (λ (t : Bool). read t sheet) (not_so (roomy ps cs ts ds) (λ e. n ((four_roomy ps cs ts ds).0 e))),
  );
}
