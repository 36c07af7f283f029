-- Lists of f at the numbers from a on, by their entries; lists of f and of g that agree at each entry; and lists one behind the other.
use mathlib.Core.Path.{◌≡◌, refl, sym, ap, ◌∙◌}
use mathlib.Core.Bool.{Bool, true, false, cond}
use mathlib.Core.List.{List, [], ◌∷◌, ◌++◌, append-nil, append_assoc, map, flatten}
use Prim.Native.Nat.{ℕ, zero, suc, ◌+◌, ◌<◌}
use native.Mathlib.Nat.{add-zero}
use native.Mathlib.Omega.{arith}
use lib.ListN.{length, get_or}
use lib.Seq.{ext_get_or}
use Rattle.model.specs.Calls.Answers.{range}
use Rattle.laws.proofs.Basics.{All}

pub length_range : {A : Type 0} (f : ℕ → A) (a k : ℕ) → length (map f (range a k)) ≡ k
unfolding range
length_range f a zero = refl
length_range f a (suc k) = ap suc (length_range f (suc a) k)

pub get_d_range : {A : Type 0} (f : ℕ → A) (d : A) (a k v : ℕ) → v < k → get_or (map f (range a k)) v d ≡ f (a + v)
unfolding range
get_d_range f d a zero v l = absurd (omega arith)
get_d_range f d a (suc k) zero l = rw add-zero
get_d_range f d a (suc k) (suc v) l = get_d_range f d (suc a) k v (omega arith) ∙ ap f (omega arith)

pub get_d_listed : {A : Type 0} (f : ℕ → A) (d : A) (k u : ℕ) → u < k → get_or (map f (range 0 k)) u d ≡ f u
get_d_listed f d k u l = get_d_range f d 0 k u l ∙ ap f (omega arith)

pub map_all : {A : Type 0} (f g : ℕ → A) (xs : List ℕ) → All (λ x. f x ≡ g x) xs → map f xs ≡ map g xs
map_all f g [] h = refl
map_all f g (x ∷ xs) h = cc (h.0, map_all f g xs h.1)

-- a list is the one that holds f if each of its entries is
pub listed : {A : Type 0} (f : ℕ → A) (d : A) (k : ℕ) (xs : List A) → length xs ≡ k → ((u : ℕ) → u < k → get_or xs u d ≡ f u) → xs ≡ map f (range 0 k)
listed f d k xs e h =
    ext_get_or d xs (map f (range 0 k)) (e ∙ sym (length_range f 0 k)) (λ u l.
    let m : u < k = omega arith in
    h u m ∙ sym (get_d_listed f d k u m))

-- lists one behind the other, and one more
module _ {A : Type 0} (f : ℕ → List A) where
  pub flatten_last : (ss : List ℕ) (i : ℕ) (b : Bool) → flatten (map f (ss ++ cond b (i ∷ []) [])) ≡ flatten (map f ss) ++ cond b (f i) []
  unfolding flatten
  flatten_last [] i true = append-nil (f i)
  flatten_last [] i false = refl
  flatten_last (s ∷ ss) i b = ap (λ (l : List A). f s ++ l) (flatten_last ss i b) ∙ sym (append_assoc (f s) (flatten (map f ss)) (cond b (f i) []))

-- the lists of f at the numbers below n
abbrev pub collect : {A : Type 0} → ℕ → (ℕ → List A) → List A
collect n f = flatten (map f (range 0 n))

range_last : (a k : ℕ) → range a (suc k) ≡ range a k ++ ((a + k) ∷ [])
unfolding range
range_last a zero = rw add-zero
range_last a (suc k) = ap (λ (l : List ℕ). a ∷ l) (range_last (suc a) k) ∙ ap (λ (n : ℕ). a ∷ range (suc a) k ++ (n ∷ [])) (omega arith)

module _ {A : Type 0} (f : ℕ → List A) where
  pub collect_none : collect 0 f ≡ []
  unfolding range flatten
  collect_none = refl

  pub collect_next : (n : ℕ) → collect (suc n) f ≡ collect n f ++ f n
  collect_next n = ap (λ (l : List ℕ). flatten (map f l)) (range_last 0 n ∙ ap (λ (k : ℕ). range 0 n ++ (k ∷ [])) (omega arith)) ∙ flatten_last f (range 0 n) n true
