-- The numbers below n that pass a test, numbered anew in rising order. The new number of v is how many below v pass (`rank`), the old number of
-- i is the entry i of their list (`nth`); each undoes the other, and both rise.
use mathlib.Core.Path.{◌≡◌, refl, sym, ap, ◌∙◌, subst}
use mathlib.Core.Bool.{Bool, true, false, cond}
use mathlib.Core.List.{List, [], ◌∷◌, ◌++◌, append-nil, map, map-append}
use Prim.Native.Nat.{ℕ, zero, suc, ◌+◌, ◌≤◌, ◌<◌}
use native.Mathlib.Omega.{arith}
use native.Mathlib.Decide.{ℕ_discrete, dec_lt}
use lib.ListN.{length, get_or, length-append, get_or-append}
use lib.Seq.{get_or-append_seam}
use lib.Dec.{eqb}
use borrow.Author.Tests.{eq-eqb, ne_eqb}
use Rattle.model.specs.Yard.{below, sum}
use Rattle.laws.proofs.Basics.{all_below}
use Rattle.laws.proofs.Found.{below_cong}
use Rattle.laws.proofs.Sums.{sum_cong}
use Rattle.laws.proofs.Ranges.{map_all}
use Rattle.laws.proofs.Own.{sifted}

module _ (p : ℕ → Bool) where
  abbrev pub rank : ℕ → ℕ
  rank v = length (below v p)

  abbrev pub nth : ℕ → ℕ → ℕ
  nth n i = get_or (below n p) i 0

  -- one more, that passes or does not
  below_in : (n : ℕ) → p n ≡ true → below (suc n) p ≡ below n p ++ (n ∷ [])
  unfolding below
  below_in n e = rw e

  below_out : (n : ℕ) → p n ≡ false → below (suc n) p ≡ below n p
  unfolding below
  below_out n e = rw e (append-nil (below n p))

  rank_in : (n : ℕ) → p n ≡ true → rank (suc n) ≡ suc (rank n)
  rank_in n e = rw (below_in n e, length-append (below n p) (n ∷ [])) (omega arith)

  nth_early : (n i : ℕ) → p n ≡ true → i < rank n → nth (suc n) i ≡ nth n i
  nth_early n i e l = rw (below_in n e) (get_or-append (below n p) (n ∷ []) 0 i l)

  nth_last : (n : ℕ) → p n ≡ true → nth (suc n) (rank n) ≡ n
  nth_last n e = rw (below_in n e) (get_or-append_seam (below n p) n [] 0)

  -- what holds of each number that passes, with its new number, holds of each new number, with its old one
  pub nth_all : (Q : ℕ → ℕ → Type 0) (n : ℕ) → ((v : ℕ) → v < n → p v ≡ true → Q (rank v) v) → (i : ℕ) → i < rank n → Q i (nth n i)
  unfolding below
  nth_all Q zero h i l = absurd (omega arith)
  nth_all Q (suc n) h i l = go (p n) refl (nth_all Q n (λ v k. h v (omega arith)) i)
    where
      go : (b : Bool) → p n ≡ b → (i < rank n → Q i (nth n i)) → Q i (nth (suc n) i)
      go true e ih = at (dec_lt i (rank n))
        where
          at : Dec (i < rank n) → Q i (nth (suc n) i)
          at (yes k) = subst (Q i) (sym (nth_early n i e k)) (ih k)
          at (no k) =
              let q : rank n ≡ i = omega (arith, rank_in n e) in
              subst (λ j. Q j (nth (suc n) j)) q (subst (Q (rank n)) (sym (nth_last n e)) (h n (omega arith) e))
      go false e ih = rw (below_out n e) (ih (rw (below_out n e) at l))

  pub nth_lt : (n i : ℕ) → i < rank n → nth n i < n
  nth_lt n = nth_all (λ _ v. v < n) n (λ v l e. l)

  pub nth_passes : (n i : ℕ) → i < rank n → p (nth n i) ≡ true
  nth_passes n = nth_all (λ _ v. p v ≡ true) n (λ v l e. e)

  rank_nth : (n i : ℕ) → i < rank n → rank (nth n i) ≡ i
  rank_nth n = nth_all (λ i v. rank v ≡ i) n (λ v l e. refl)

  -- ranks rise
  pub rank_le : (n v : ℕ) → v ≤ n → rank v ≤ rank n
  rank_le zero v l =
      let q : v ≡ 0 = omega arith in
      rw q (omega arith)
  rank_le (suc n) v l = go (ℕ_discrete v (suc n)) (p n) refl (rank_le n v)
    where
      go : Dec (v ≡ suc n) → (b : Bool) → p n ≡ b → (v ≤ n → rank v ≤ rank n) → rank v ≤ rank (suc n)
      go (yes q) b e ih = rw q (omega arith)
      go (no q) true e ih = omega (arith, rank_in n e, ih (omega arith))
      go (no q) false e ih = rw (below_out n e) (ih (omega arith))

  pub rank_lt : (n v : ℕ) → v < n → p v ≡ true → rank v < rank n
  rank_lt n v l e = omega (arith, rank_in v e, rank_le n (suc v) l)

  pub nth_rank : (n v : ℕ) → v < n → p v ≡ true → nth n (rank v) ≡ v
  nth_rank zero v l e = absurd (omega arith)
  nth_rank (suc n) v l e = go (ℕ_discrete v n) (p n) refl (nth_rank n v)
    where
      go : Dec (v ≡ n) → (b : Bool) → p n ≡ b → (v < n → p v ≡ true → nth n (rank v) ≡ v) → nth (suc n) (rank v) ≡ v
      go (yes q) b f ih = rw q (nth_last n (subst (λ u. p u ≡ true) q e))
      go (no q) true f ih = nth_early n (rank v) f (rank_lt n v (omega arith) e) ∙ ih (omega arith) e
      go (no q) false f ih = rw (below_out n f) (ih (omega arith) e)

  -- so do the old numbers, and no two are the same
  pub nth_rises : (n i j : ℕ) → i < j → j < rank n → nth n i < nth n j
  nth_rises n i j l k = go (dec_lt (nth n i) (nth n j))
    where
      go : Dec (nth n i < nth n j) → nth n i < nth n j
      go (yes h) = h
      go (no h) = absurd (omega (arith, rank_le (nth n i) (nth n j) (omega arith), rank_nth n i (omega arith), rank_nth n j k))

  pub nth_same : (n i j : ℕ) → i < rank n → j < rank n → nth n i ≡ nth n j → i ≡ j
  nth_same n i j k l e = sym (rank_nth n i k) ∙ ap rank e ∙ rank_nth n j l

  pub nth_eqb : (n i j : ℕ) → i < rank n → j < rank n → eqb (nth n i) (nth n j) ≡ eqb i j
  nth_eqb n i j k l = go (ℕ_discrete i j)
    where
      go : Dec (i ≡ j) → eqb (nth n i) (nth n j) ≡ eqb i j
      go (yes q) = rw (q, eq-eqb (nth n j) (nth n j) refl, eq-eqb j j refl)
      go (no q) = rw (ne_eqb i j q, ne_eqb (nth n i) (nth n j) (λ e. q (nth_same n i j k l e)))

  -- a sum over the numbers that pass
  pub sum_nth : (n : ℕ) (f : ℕ → ℕ) → ((v : ℕ) → v < n → p v ≡ false → f v ≡ 0) → sum n f ≡ sum (rank n) (λ i. f (nth n i))
  unfolding below sum
  sum_nth zero f h = refl
  sum_nth (suc n) f h = go (p n) refl (sum_nth n f (λ v l. h v (omega arith)))
    where
      go : (b : Bool) → p n ≡ b → sum n f ≡ sum (rank n) (λ i. f (nth n i)) → sum n f + f n ≡ sum (rank (suc n)) (λ i. f (nth (suc n) i))
      go true e ih = rw (rank_in n e) (omega (arith, ih, ap f (nth_last n e), sum_cong (rank n) (λ i. f (nth (suc n) i)) (λ i. f (nth n i)) (λ i l. ap f (nth_early n i e l))))
      go false e ih = rw (below_out n e) (omega (arith, ih, h n (omega arith) e))

-- those of a list that pass a test
module _ (p : ℕ → Bool) where
  sifted_append : (xs ys : List ℕ) → sifted p (xs ++ ys) ≡ sifted p xs ++ sifted p ys
  unfolding sifted
  sifted_append [] ys = refl
  sifted_append (x ∷ xs) ys = go (p x) (sifted_append xs ys)
    where
      go : (b : Bool) → sifted p (xs ++ ys) ≡ sifted p xs ++ sifted p ys → cond b (x ∷ sifted p (xs ++ ys)) (sifted p (xs ++ ys)) ≡ cond b (x ∷ sifted p xs) (sifted p xs) ++ sifted p ys
      go true e = ap (λ (l : List ℕ). x ∷ l) e
      go false e = e

  -- the numbers that pass two tests, by the one and by the other
  pub sifted_nth : (n : ℕ) (q : ℕ → Bool) → sifted p (below n q) ≡ map (nth p n) (below (rank p n) (λ i. q (nth p n i)))
  unfolding below sifted
  sifted_nth zero q = refl
  sifted_nth (suc n) q = sifted_append (below n q) (cond (q n) (n ∷ []) []) ∙ go (p n) refl (sifted_nth n q)
    where
      last : (b : Bool) → p n ≡ b → (c : Bool) → sifted p (cond c (n ∷ []) []) ≡ cond b (cond c (n ∷ []) []) []
      last true e true = rw e
      last true e false = refl
      last false e true = rw e
      last false e false = refl

      go : (b : Bool) → p n ≡ b → sifted p (below n q) ≡ map (nth p n) (below (rank p n) (λ i. q (nth p n i)))
          → sifted p (below n q) ++ sifted p (cond (q n) (n ∷ []) []) ≡ map (nth p (suc n)) (below (rank p (suc n)) (λ i. q (nth p (suc n) i)))
      go true e ih = rw (rank_in p n e, map-append, last true e (q n), ih, early, nth_last p n e) (ap (λ (l : List ℕ). map (nth p (suc n)) (below (rank p n) (λ i. q (nth p (suc n) i))) ++ l) (at (q n)))
        where
          early : map (nth p n) (below (rank p n) (λ i. q (nth p n i))) ≡ map (nth p (suc n)) (below (rank p n) (λ i. q (nth p (suc n) i)))
          early =
              map_all (nth p n) (nth p (suc n)) (below (rank p n) (λ i. q (nth p n i))) (all_below (λ i. nth p n i ≡ nth p (suc n) i) (λ i. q (nth p n i)) (rank p n) (λ i l _. sym (nth_early p n i e l)))
              ∙ ap (map (nth p (suc n))) (below_cong (rank p n) (λ i. q (nth p n i)) (λ i. q (nth p (suc n) i)) (λ i l. ap q (sym (nth_early p n i e l))))

          at : (c : Bool) → cond c (n ∷ []) [] ≡ map (nth p (suc n)) (cond c (rank p n ∷ []) [])
          at true = ap (λ (v : ℕ). v ∷ []) (sym (nth_last p n e))
          at false = refl
      go false e ih = rw (last false e (q n)) (append-nil (sifted p (below n q)) ∙ subst (λ l. sifted p (below n q) ≡ map (λ i. get_or l i 0) (below (length l) (λ i. q (get_or l i 0)))) (sym (below_out p n e)) ih)
