-- A line field by field, and the nodes of a sheet line by line: what the fields or lines so far say stands in front of what the others do.
use mathlib.Core.Path.{◌≡◌, refl, sym, ap, ◌∙◌}
use mathlib.Core.Option.{Option, none, some, map}
use mathlib.Core.Bool.{Bool, true, false}
use mathlib.Core.List.{List, [], ◌∷◌, ◌++◌, append_assoc, append-nil}
use Prim.Native.Nat.{ℕ, suc, ◌+◌, ◌-◌, ◌<◌}
use native.Mathlib.Nat.{sub-zero, sub_self}
use native.Mathlib.Numerals.{add-one}
use native.Mathlib.Omega.{arith}
use lib.ListN.{length, take, drop, set, get_or, length-set}
use lib.Seq.{take-suc-set, take_all, get_or-take}
use Rattle.model.specs.Yard.{Yard, yard_of, max_size}
use Rattle.model.specs.Judge.{row}
use Rattle.model.specs.Calls.Answers.{Answer, answered, refused, mapAnswer}
use lib.Pointwise.{pointwise}
use lib.Dec.{eqb}
use Rattle.model.specs.Sheets.{begins, ◌>>=◌, text, header, stopBefore, line_values, field, Line, readLine, node_of, same, columns, readNodes}
use Rattle.laws.proofs.Basics.{eqb_sym, not_so}
use Rattle.laws.proofs.Lines.{same_true, same_self}
use Rattle.laws.proofs.Sheets.{read_nodes_end, read_nodes_over, read_nodes_shape, read_nodes_other, read_nodes_next}
use Rattle.reader.specs.Reading.{Full, lines_say}
use Rattle.sheet.proofs.Writing.{drop_next}

-- what an answer says, where it is known
pub seen : {A B : Type 0} (f : A → B) {a e : A} {o : B} → f a ≡ o → a ≡ e → o ≡ f e
seen f p q = sym p ∙ ap f q

-- a line, field by field: the values so far stand in front of those that the other fields have
abbrev fronted : List ℕ → Line → Line
fronted vs l = record { values = vs ++ l.values; rest = l.rest }

fronted_none : (o : Option Line) → o ≡ map (fronted []) o
fronted_none none = refl
fronted_none (some l) = refl

fronted_next : (vs : List ℕ) (v : ℕ) (o : Option Line)
    → map (fronted vs) (◌>>=◌ o (λ l. some (fronted (v ∷ []) l))) ≡ map (fronted (vs ++ (v ∷ []))) o
fronted_next vs v none = refl
fronted_next vs v (some l) = simp append_assoc

-- the list holds the first i of k values, and the others are read from `next` on
pub record LineSoFar (k : ℕ) (sheet : List ℕ) (at : ℕ) (values : List ℕ) (next i : ℕ) : Type 0 where
  pub full : length values ≡ k
  pub said : readLine k (drop at sheet) ≡ map (fronted (take i values)) (readLine (k - i) (drop next sheet))

pub line_none : (sheet : List ℕ) (at : ℕ) (values : List ℕ) → LineSoFar (length values) sheet at values at 0
line_none sheet at values = record { full = refl; said = rw sub-zero (fronted_none (readLine (length values) (drop at sheet))) }

module _ {k : ℕ} {sheet : List ℕ} {at : ℕ} {values : List ℕ} {next i : ℕ} (s : LineSoFar k sheet at values next i) where
  pub line_whole : i ≡ k → some (record { values = values; rest = drop next sheet }) ≡ readLine k (drop at sheet)
  unfolding readLine
  line_whole e = let n = s.full in sym (s.said ∙ rw (e, take_all k values (omega arith), sub_self, append-nil values))

  module _ (m : ℕ) (e : k - i ≡ suc m) where
    pub line_wrong : field (stopBefore m) (drop next sheet) ≡ none → none ≡ readLine k (drop at sheet)
    unfolding readLine
    line_wrong f = sym (s.said ∙ rw (e, f))

    pub line_more : (v next' : ℕ) → field (stopBefore m) (drop next sheet) ≡ some (record { value = v; rest = drop next' sheet })
        → LineSoFar k sheet at (set values i v) next' (i + 1)
    unfolding readLine
    line_more v next' f =
        let n : k - (i + 1) ≡ m = omega arith in
        let h : i < length values = omega (arith, s.full) in
        record {
          full = simp length-set s.full;
          said = s.said ∙ rw (e, f, n, add-one i, take-suc-set values i v h) (fronted_next (take i values) v (readLine m (drop next' sheet)));
        }

-- a list that begins with another, by the library's word and by the model's
same_is : (xs ys : List ℕ) → pointwise eqb xs ys ≡ same ys xs
unfolding same
same_is [] [] = refl
same_is [] (b ∷ ys) = refl
same_is (a ∷ xs) [] = refl
same_is (a ∷ xs) (b ∷ ys) = rw (eqb_sym a b, same_is xs ys)

pub begun_is : (list head : List ℕ) → pointwise eqb head (take (length head) list) ≡ begins head list
begun_is list head = same_is head (take (length head) list)

-- a list that begins with another
module _ (list head : List ℕ) where
  abbrev begun : Bool
  begun = same (take (length head) list) head

  front_of : begun ≡ true → take (length head) list ≡ head
  front_of e = same_true (take (length head) list) head e

  pub begins_short : length list < length head → false ≡ begun
  begins_short h = sym (not_so begun (λ e. omega (arith, ap length (sym (take_all (length head) list (omega arith)) ∙ front_of e))))

  pub begins_not : (i : ℕ) → i < length head → (get_or list i 0 ≡ get_or head i 0 → ⊥) → false ≡ begun
  begins_not i h n =
      sym (not_so begun (λ e. n (sym (get_or-take (length head) list i 0 h) ∙ ap (λ (l : List ℕ). get_or l i 0) (front_of e))))

  pub begins_all : take (length head) list ≡ head → true ≡ begun
  begins_all e = sym (rw e (same_self head))

-- what the first v lines say, in front of what the others do
abbrev front : List ℕ → List ℕ → List ℕ → List ℕ → Yard → Yard
front ps cs ts ds y = yard_of (ps ++ y.parents) (cs ++ y.pebbles) (ts ++ y.targets) (ds ++ y.depths)

front_none : (a : Answer Yard) → a ≡ mapAnswer (front [] [] [] []) a
front_none (answered y) = refl
front_none (refused f) = refl

front_line : (vs ps cs ts ds : List ℕ) (a : Answer (List (List ℕ))) → mapAnswer (front ps cs ts ds) (mapAnswer columns (mapAnswer (◌∷◌ vs) a))
    ≡ mapAnswer (front (ps ++ (get_or vs 1 0 ∷ [])) (cs ++ (get_or vs 2 0 ∷ [])) (ts ++ (get_or vs 3 0 ∷ [])) (ds ++ (get_or vs 4 0 ∷ []))) (mapAnswer columns a)
front_line vs ps cs ts ds (answered rows) = simp append_assoc
front_line vs ps cs ts ds (refused f) = refl

-- the arrays hold the first v nodes, and the bytes from `at` on are the other lines
pub record SoFar (sheet ps cs ts ds : List ℕ) (at v : ℕ) : Type 0 where
  pub full : Full ps cs ts ds
  pub said : lines_say sheet ≡ mapAnswer (front (take v ps) (take v cs) (take v ts) (take v ds)) (mapAnswer columns (readNodes (max_size - v) v (drop at sheet)))

pub so_far_none : (sheet ps cs ts ds : List ℕ) → Full ps cs ts ds → SoFar sheet ps cs ts ds 30 0
unfolding header text
so_far_none sheet ps cs ts ds f = record { full = f; said = front_none (lines_say sheet) }

module _ {sheet ps cs ts ds : List ℕ} {at v : ℕ} (s : SoFar sheet ps cs ts ds at v) where
  pub so_far_end : drop at sheet ≡ [] → answered (yard_of (take v ps) (take v cs) (take v ts) (take v ds)) ≡ lines_say sheet
  so_far_end e = sym (s.said ∙ rw (e, read_nodes_end (max_size - v) v, append-nil (take v ps), append-nil (take v cs), append-nil (take v ts), append-nil (take v ds)))

  module _ (h : at < length sheet) where
    pub so_far_over : {p : ℕ} → p ≡ v + 2 → v ≡ 256 → refused (row 1 p) ≡ lines_say sheet
    so_far_over q e = sym (s.said ∙ rw (q, drop_next sheet at h, e, read_nodes_over 256 (get_or sheet at 0) (drop (at + 1) sheet)))

    module _ (l : v < 256) where
      room : max_size - v ≡ suc (255 - v)
      room = omega arith

      pub so_far_shape : {p : ℕ} → p ≡ v + 2 → readLine line_values (drop at sheet) ≡ none → refused (row 16 p) ≡ lines_say sheet
      so_far_shape q e =
          sym (s.said ∙ rw (q, room, drop_next sheet at h, read_nodes_shape (255 - v) v (get_or sheet at 0) (drop (at + 1) sheet) (rw (drop_next sheet at h) at e)))

      pub so_far_other : {p : ℕ} {x : Line} → p ≡ v + 2 → readLine line_values (drop at sheet) ≡ some x → (node_of x ≡ v → ⊥) → refused (row 17 p) ≡ lines_say sheet
      so_far_other q e n =
          sym (s.said ∙ rw (q, room, drop_next sheet at h, read_nodes_other (255 - v) v (get_or sheet at 0) (drop (at + 1) sheet) (rw (drop_next sheet at h) at e) n))

      pub so_far_next : (vs : List ℕ) (next : ℕ) → readLine line_values (drop at sheet) ≡ some (record { values = vs; rest = drop next sheet }) → get_or vs 0 0 ≡ v
          → SoFar sheet (set ps v (get_or vs 1 0)) (set cs v (get_or vs 2 0)) (set ts v (get_or vs 3 0)) (set ds v (get_or vs 4 0)) next (v + 1)
      so_far_next vs next e q =
          let m : max_size - (v + 1) ≡ 255 - v = omega arith in
          let f = s.full in
          let n = rw (room, read_nodes_next (255 - v) v (drop at sheet) e q) at s.said in
          record {
            full = simp length-set f;
            said = rw (m, add-one v, take-suc-set ps v (get_or vs 1 0) (omega arith), take-suc-set cs v (get_or vs 2 0) (omega arith), take-suc-set ts v (get_or vs 3 0) (omega arith), take-suc-set ds v (get_or vs 4 0) (omega arith))
                (n ∙ front_line vs (take v ps) (take v cs) (take v ts) (take v ds) (readNodes (255 - v) (suc v) (drop next sheet)));
          }
