-- Request 2.10, 'All depths 1 must print the sheets of before, the added value aside': a sheet of before with the added value is read as it was read before, line by line.
use mathlib.Core.Path.{◌≡◌, refl, sym, ap, ◌∙◌, subst}
use mathlib.Core.Logic.{◌≢◌, ◌⊎◌, inl, inr}
use mathlib.Core.Bool.{Bool, true, false, not, cond, ◌&&◌, and-eq-true_iff, false≢true}
use mathlib.Core.List.{List, [], ◌∷◌, ◌++◌, map, append_assoc}
use mathlib.Core.Option
use mathlib.Core.Option.{Option, none, some, none-ne-some}
use Prim.Native.Nat.{ℕ, zero, suc, ◌+◌, ◌-◌, ◌≤◌, ◌<◌}
use native.Mathlib.Omega.{arith}
use native.Mathlib.Decide.{ℕ_discrete}
use lib.ListN.{length, get_or, take, drop, length-append, length-map, take-append-drop, get_or-append}
use lib.Seq.{take-take, take-append_seam, get_or-append_seam}
use lib.Dec.{leb, eqb}
use borrow.Author.Tests.{leb-true, eqb-true, ne_eqb, eq-eqb}
use Rattle.model.specs.Yard.{Yard, max_size, Shallow}
use Rattle.model.specs.Judge.{row}
use Rattle.model.specs.Calls.Answers.{Answer, answered, refused, mapAnswer}
use Rattle.model.specs.Sheets.{text, digits, decimal, stopBefore, line, header, begins, same, Line, readLine, line_values, node_of, column, columns, readNodes, read_yard, printed_of, refusal_sheet}
use Rattle.laws.specs.SheetsBefore.{header_before, values_before, read_nodes_before, yard_before, printed_before, whole_before, judged_before, program_before, deeper, deepened, SheetsAsBefore}
use Rattle.laws.proofs.Basics.{All, all_append, not_so}
use Rattle.laws.proofs.Lines.{plain, decimal_sound, same_true, same_self, Values, length_line, Begins, read_line_begins, read_line_some, cut_line, read_line_take}
use Rattle.laws.proofs.Sheets.{refused_ne_answered, answered_injective, map_answer_answered, read_nodes_end, read_nodes_over, read_nodes_next, read_nodes_shape, read_nodes_other, read_yard_header, drop_take, program_cut}
use Rattle.laws.proofs.Before.{sheets_before}

-- bytes without one
abbrev Without : ℕ → List ℕ → Type 0
Without stop = All (λ b. b ≢ stop)

plain_without : (stop : ℕ) → stop < 48 → (xs : List ℕ) → plain xs ≡ true → Without stop xs
unfolding plain
plain_without stop l [] e = tt
plain_without stop l (x ∷ xs) e = let p = (and-eq-true_iff (leb 48 x) (plain xs)).0 e in ((λ q. omega (arith, leb-true 48 x p.0)), plain_without stop l xs p.1)

without_none : (stop : ℕ) (xs ys : List ℕ) → Without stop (xs ++ stop ∷ ys) → ⊥
without_none stop [] ys a = a.0 refl
without_none stop (x ∷ xs) ys a = without_none stop xs ys a.1

head_same : {a b : ℕ} {xs ys : List ℕ} → a ∷ xs ≡ b ∷ ys → a ≡ b
head_same e = cc

tail_same : {a b : ℕ} {xs ys : List ℕ} → a ∷ xs ≡ b ∷ ys → xs ≡ ys
tail_same e = cc

-- the first of a byte parts a list in one way, and so does the last
first_parts : (stop : ℕ) (xs ys r s : List ℕ) → Without stop xs → Without stop ys → xs ++ stop ∷ r ≡ ys ++ stop ∷ s → xs ≡ ys
first_parts stop [] [] r s a b e = refl
first_parts stop [] (y ∷ ys) r s a b e = absurd (b.0 (sym (head_same e)))
first_parts stop (x ∷ xs) [] r s a b e = absurd (a.0 (head_same e))
first_parts stop (x ∷ xs) (y ∷ ys) r s a b e = cc (head_same e, first_parts stop xs ys r s a.1 b.1 (tail_same e))

last_parts : (stop : ℕ) (xs ys r s : List ℕ) → Without stop r → Without stop s → xs ++ stop ∷ r ≡ ys ++ stop ∷ s → xs ≡ ys
last_parts stop [] [] r s a b e = refl
last_parts stop [] (y ∷ ys) r s a b e = absurd (without_none stop ys s (subst (Without stop) (tail_same e) a))
last_parts stop (x ∷ xs) [] r s a b e = absurd (without_none stop xs r (subst (Without stop) (sym (tail_same e)) b))
last_parts stop (x ∷ xs) (y ∷ ys) r s a b e = cc (head_same e, last_parts stop xs ys r s a b (tail_same e))

-- a list has no line feed, or a first one
abbrev Parted : List ℕ → Type 0
Parted bs = Without 10 bs ⊎ ((xs : List ℕ) × (r : List ℕ) × Without 10 xs × (bs ≡ xs ++ 10 ∷ r))

parted : (bs : List ℕ) → Parted bs
parted [] = inl tt
parted (b ∷ bs) = go (ℕ_discrete b 10) (parted bs)
  where
    go : Dec (b ≡ 10) → Parted bs → Parted (b ∷ bs)
    go (yes e) p = inr ([], bs, tt, ap (λ (x : ℕ). x ∷ bs) e)
    go (no d) (inl a) = inl (d, a)
    go (no d) (inr p) = inr (b ∷ p.0, p.1, (d, p.2), ap (λ (l : List ℕ). b ∷ l) p.3)

-- the added value
abbrev deep : List ℕ → List ℕ
deep bs = deeper (text " 1") bs

deeper_word : (added xs r : List ℕ) → Without 10 xs → deeper added (xs ++ 10 ∷ r) ≡ xs ++ (added ++ 10 ∷ deep r)
unfolding deeper
deeper_word added [] r a = refl
deeper_word added (x ∷ xs) r a = rw (ne_eqb x 10 a.0) (ap (λ (l : List ℕ). x ∷ l) (deeper_word added xs r a.1))

deeper_flat : (added bs : List ℕ) → Without 10 bs → deeper added bs ≡ bs
unfolding deeper
deeper_flat added [] a = refl
deeper_flat added (b ∷ bs) a = rw (ne_eqb b 10 a.0) (ap (λ (l : List ℕ). b ∷ l) (deeper_flat added bs a.1))

-- if what is then the first line ends with ` 1`, or with ` depth`, the line before it stood there without
deeper_back : (mark bs xs r : List ℕ) (ws : List ℕ) → Without 32 mark → Without 32 ws → Without 10 xs → Without 10 (32 ∷ mark) → Without 10 (32 ∷ ws)
    → deeper (32 ∷ mark) bs ≡ (xs ++ 32 ∷ ws) ++ 10 ∷ r → (s : List ℕ) × (bs ≡ xs ++ 10 ∷ s)
deeper_back mark bs xs r ws m w x n k e = go (parted bs)
  where
    go : Parted bs → (s : List ℕ) × (bs ≡ xs ++ 10 ∷ s)
    go (inl a) = absurd (without_none 10 (xs ++ 32 ∷ ws) r (subst (Without 10) (sym (deeper_flat (32 ∷ mark) bs a) ∙ e) a))
    go (inr p) =
        let q : (p.0 ++ 32 ∷ mark) ++ 10 ∷ deep p.1 ≡ (xs ++ 32 ∷ ws) ++ 10 ∷ r =
        append_assoc p.0 (32 ∷ mark) (10 ∷ deep p.1) ∙ sym (deeper_word (32 ∷ mark) p.0 p.1 p.2) ∙ ap (deeper (32 ∷ mark)) (sym p.3) ∙ e in
        let f = first_parts 10 (p.0 ++ 32 ∷ mark) (xs ++ 32 ∷ ws) (deep p.1) r (all_append _ p.0 (32 ∷ mark) p.2 n) (all_append _ xs (32 ∷ ws) x k) q in
        (p.1, p.3 ∙ ap (λ (l : List ℕ). l ++ 10 ∷ p.1) (last_parts 32 p.0 xs mark ws m w f))

-- a line without its line feed
words : List ℕ → List ℕ
words [] = []
words (v ∷ []) = decimal v
words (v ∷ w ∷ vs) = decimal v ++ (32 ∷ words (w ∷ vs))

line_words : (v : ℕ) (vs : List ℕ) → line (v ∷ vs) ≡ words (v ∷ vs) ++ (10 ∷ [])
unfolding line words stopBefore
line_words v [] = refl
line_words v (w ∷ vs) = ap (λ (l : List ℕ). decimal v ++ (32 ∷ l)) (line_words w vs) ∙ sym (append_assoc (decimal v) (32 ∷ words (w ∷ vs)) (10 ∷ []))

words_last : (v : ℕ) (vs : List ℕ) (e : ℕ) → words (v ∷ (vs ++ e ∷ [])) ≡ words (v ∷ vs) ++ (32 ∷ decimal e)
unfolding words
words_last v [] e = refl
words_last v (w ∷ vs) e = ap (λ (l : List ℕ). decimal v ++ (32 ∷ l)) (words_last w vs e) ∙ sym (append_assoc (decimal v) (32 ∷ words (w ∷ vs)) (32 ∷ decimal e))

words_without : (vs : List ℕ) → Values vs → Without 10 (words vs)
unfolding words
words_without [] b = tt
words_without (v ∷ []) b = plain_without 10 (omega arith) (decimal v) (decimal_sound v b.0).0
words_without (v ∷ w ∷ vs) b = all_append _ (decimal v) (32 ∷ words (w ∷ vs)) (plain_without 10 (omega arith) (decimal v) (decimal_sound v b.0).0) ((λ q. omega arith), words_without (w ∷ vs) b.1)

line_front : (v : ℕ) (vs rest : List ℕ) → line (v ∷ vs) ++ rest ≡ words (v ∷ vs) ++ 10 ∷ rest
line_front v vs rest = ap (λ (l : List ℕ). l ++ rest) (line_words v vs) ∙ append_assoc (words (v ∷ vs)) (10 ∷ []) rest

line_more : (v : ℕ) (vs : List ℕ) (e : ℕ) (rest : List ℕ) → line (v ∷ (vs ++ e ∷ [])) ++ rest ≡ (words (v ∷ vs) ++ 32 ∷ decimal e) ++ 10 ∷ rest
line_more v vs e rest = line_front v (vs ++ e ∷ []) rest ∙ ap (λ (l : List ℕ). l ++ 10 ∷ rest) (words_last v vs e)

-- a line of values gets the value 1 behind them, and nothing else does
deep_line : (v : ℕ) (vs rest : List ℕ) → Values (v ∷ vs) → deep (line (v ∷ vs) ++ rest) ≡ line (v ∷ (vs ++ 1 ∷ [])) ++ deep rest
unfolding decimal digits text
deep_line v vs rest b =
    ap (deeper (text " 1")) (line_front v vs rest) ∙ deeper_word (text " 1") (words (v ∷ vs)) rest (words_without (v ∷ vs) b)
    ∙ sym (line_more v vs 1 (deep rest) ∙ append_assoc (words (v ∷ vs)) (32 ∷ decimal 1) (10 ∷ deep rest))

line_back : (v : ℕ) (vs : List ℕ) (e : ℕ) (bs rest : List ℕ) → Values (v ∷ vs) → e < 256 → deep bs ≡ line (v ∷ (vs ++ e ∷ [])) ++ rest → (s : List ℕ) × (bs ≡ line (v ∷ vs) ++ s)
unfolding text
line_back v vs e bs rest b l q =
    let d = (decimal_sound e l).0 in
    let r = deeper_back (49 ∷ []) bs (words (v ∷ vs)) rest (decimal e) ((λ q. omega arith), tt) (plain_without 32 (omega arith) (decimal e) d) (words_without (v ∷ vs) b)
    ((λ q. omega arith), ((λ q. omega arith), tt)) ((λ q. omega arith), plain_without 10 (omega arith) (decimal e) d) (q ∙ line_more v vs e rest) in
    (r.0, r.1 ∙ sym (line_front v vs r.0))

-- readLine
abbrev grown : Line → Line
grown l = record { values = l.values ++ 1 ∷ []; rest = deep l.rest }

begins_deep : (bs : List ℕ) (l : Line) → Begins values_before bs l → Begins line_values (deep bs) (grown l)
begins_deep bs l b = go l.values b.count b.small b.text
  where
    go : (vs : List ℕ) → length vs ≡ 4 → Values vs → bs ≡ line vs ++ l.rest → Begins 5 (deep bs) (record { values = vs ++ 1 ∷ []; rest = deep l.rest })
    go [] n s t = absurd (omega arith)
    go (v ∷ vs) n s t = record {
      count = length-append (v ∷ vs) (1 ∷ []) ∙ omega arith;
      small = all_append _ (v ∷ vs) (1 ∷ []) s (omega arith, tt);
      text = ap (deeper (text " 1")) t ∙ deep_line v vs l.rest s;
    }

begins_back : (bs : List ℕ) (l : Line) → Begins line_values (deep bs) l → (m : Line) × (readLine values_before bs ≡ some m)
begins_back bs l b = go l.values b.count b.small b.text
  where
    go : (vs : List ℕ) → length vs ≡ 5 → Values vs → deep bs ≡ line vs ++ l.rest → (m : Line) × (readLine values_before bs ≡ some m)
    go (a ∷ b ∷ c ∷ d ∷ e ∷ []) n s t =
        let r = line_back a (b ∷ c ∷ d ∷ []) e bs l.rest (s.0, (s.1.0, (s.1.1.0, (s.1.1.1.0, tt)))) s.1.1.1.1.0 t in
        (record { values = a ∷ b ∷ c ∷ d ∷ []; rest = r.0 }, read_line_begins (record { count = refl; small = (s.0, (s.1.0, (s.1.1.0, (s.1.1.1.0, tt)))); text = r.1 }))
    go [] n s t = absurd (omega arith)
    go (a ∷ []) n s t = absurd (omega arith)
    go (a ∷ b ∷ []) n s t = absurd (omega arith)
    go (a ∷ b ∷ c ∷ []) n s t = absurd (omega arith)
    go (a ∷ b ∷ c ∷ d ∷ []) n s t = absurd (omega arith)
    go (a ∷ b ∷ c ∷ d ∷ e ∷ f ∷ vs) n s t = absurd (omega arith)

read_line_deep : (bs : List ℕ) → readLine line_values (deep bs) ≡ Option.map grown (readLine values_before bs)
read_line_deep bs = go (readLine values_before bs) refl (readLine line_values (deep bs)) refl
  where
    go : (o : Option Line) → readLine values_before bs ≡ o → (c : Option Line) → readLine line_values (deep bs) ≡ c → readLine line_values (deep bs) ≡ Option.map grown o
    go (some l) p c q = read_line_begins (begins_deep bs l (read_line_some values_before bs p))
    go none p none q = q
    go none p (some l) q = let r = begins_back bs l (read_line_some line_values (deep bs) q) in absurd (none-ne-some r.0 (sym p ∙ r.1))

-- readNodes, and that of before case by case
abbrev checked_before : ℕ → ℕ → Line → Bool → Answer (List (List ℕ))
checked_before k v l t = elim t [ true ↦ mapAnswer (◌∷◌ l.values) (read_nodes_before k (suc v) l.rest) | false ↦ refused (row 17 (v + 2)) ]

abbrev parsed_before : ℕ → ℕ → Option Line → Answer (List (List ℕ))
parsed_before k v o = elim o [ none ↦ refused (row 16 (v + 2)) | some l ↦ checked_before k v l (eqb (node_of l) v) ]

before_next : (k v b : ℕ) (bs : List ℕ) → read_nodes_before (suc k) v (b ∷ bs) ≡ parsed_before k v (readLine values_before (b ∷ bs))
unfolding read_nodes_before
before_next k v b bs = refl

abbrev grow : List ℕ → List ℕ
grow vs = vs ++ 1 ∷ []

map_grow : (x : List ℕ) (a : Answer (List (List ℕ))) → mapAnswer (◌∷◌ (grow x)) (mapAnswer (map grow) a) ≡ mapAnswer (map grow) (mapAnswer (◌∷◌ x) a)
map_grow x (answered rows) = refl
map_grow x (refused f) = refl

deep_cons : (b : ℕ) (bs : List ℕ) → (c : ℕ) × (cs : List ℕ) × (deep (b ∷ bs) ≡ c ∷ cs)
unfolding deeper text
deep_cons b bs = go (eqb b 10) refl
  where
    go : (t : Bool) → eqb b 10 ≡ t → (c : ℕ) × (cs : List ℕ) × (cond t (32 ∷ 49 ∷ 10 ∷ deep bs) (b ∷ deep bs) ≡ c ∷ cs)
    go true e = (32, 49 ∷ 10 ∷ deep bs, refl)
    go false e = (b, deep bs, refl)

read_nodes_deep : (k v : ℕ) (bs : List ℕ) → readNodes k v (deep bs) ≡ mapAnswer (map grow) (read_nodes_before k v bs)
unfolding deeper read_nodes_before
read_nodes_deep zero v [] = read_nodes_end zero v
read_nodes_deep zero v (b ∷ bs) = let c = deep_cons b bs in ap (readNodes zero v) c.2 ∙ read_nodes_over v c.0 c.1
read_nodes_deep (suc k) v [] = read_nodes_end (suc k) v
read_nodes_deep (suc k) v (b ∷ bs) = go (readLine values_before (b ∷ bs)) refl (read_nodes_deep k (suc v))
  where
    c : (c : ℕ) × (cs : List ℕ) × (deep (b ∷ bs) ≡ c ∷ cs)
    c = deep_cons b bs

    go : (o : Option Line) → readLine values_before (b ∷ bs) ≡ o → ((rest : List ℕ) → readNodes k (suc v) (deep rest) ≡ mapAnswer (map grow) (read_nodes_before k (suc v) rest))
        → readNodes (suc k) v (deep (b ∷ bs)) ≡ mapAnswer (map grow) (parsed_before k v o)
    go none p ih = ap (readNodes (suc k) v) c.2 ∙ read_nodes_shape k v c.0 c.1 (ap (readLine line_values) (sym c.2) ∙ read_line_deep (b ∷ bs) ∙ ap (Option.map grown) p)
    go (some l) p ih = at (ℕ_discrete (node_of l) v)
      where
        read : readLine line_values (deep (b ∷ bs)) ≡ some (grown l)
        read = read_line_deep (b ∷ bs) ∙ ap (Option.map grown) p

        node : node_of (grown l) ≡ node_of l
        node = front l.values (read_line_some values_before (b ∷ bs) p).count
          where
            front : (vs : List ℕ) → length vs ≡ 4 → get_or (vs ++ 1 ∷ []) 0 0 ≡ get_or vs 0 0
            front [] n = absurd (omega arith)
            front (v ∷ vs) n = refl

        at : Dec (node_of l ≡ v) → readNodes (suc k) v (deep (b ∷ bs)) ≡ mapAnswer (map grow) (checked_before k v l (eqb (node_of l) v))
        at (yes q) =
            read_nodes_next k v (deep (b ∷ bs)) read (node ∙ q) ∙ ap (mapAnswer (◌∷◌ (grow l.values))) (ih l.rest) ∙ map_grow l.values (read_nodes_before k (suc v) l.rest)
            ∙ sym (ap (λ (t : Bool). mapAnswer (map grow) (checked_before k v l t)) (eq-eqb (node_of l) v q))
        at (no d) =
            ap (readNodes (suc k) v) c.2 ∙ read_nodes_other k v c.0 c.1 (ap (readLine line_values) (sym c.2) ∙ read) (λ q. d (sym node ∙ q))
            ∙ sym (ap (λ (t : Bool). mapAnswer (map grow) (checked_before k v l t)) (ne_eqb (node_of l) v d))

-- each line that was read has four values
abbrev Fours : List (List ℕ) → Type 0
Fours = All (λ (vs : List ℕ). length vs ≡ 4)

before_fours : (k v : ℕ) (bs : List ℕ) (rows : List (List ℕ)) → read_nodes_before k v bs ≡ answered rows → Fours rows
unfolding read_nodes_before
before_fours zero v [] rows e = subst Fours (answered_injective e) tt
before_fours zero v (b ∷ bs) rows e = absurd (refused_ne_answered e)
before_fours (suc k) v [] rows e = subst Fours (answered_injective e) tt
before_fours (suc k) v (b ∷ bs) rows e = go (readLine values_before (b ∷ bs)) refl e (before_fours k (suc v))
  where
    go : (o : Option Line) → readLine values_before (b ∷ bs) ≡ o → parsed_before k v o ≡ answered rows
        → ((rest : List ℕ) (rows : List (List ℕ)) → read_nodes_before k (suc v) rest ≡ answered rows → Fours rows) → Fours rows
    go none p e ih = absurd (refused_ne_answered e)
    go (some l) p e ih = at (eqb (node_of l) v) e
      where
        at : (t : Bool) → checked_before k v l t ≡ answered rows → Fours rows
        at false e = absurd (refused_ne_answered e)
        at true e =
            let r = map_answer_answered (◌∷◌ l.values) (read_nodes_before k (suc v) l.rest) e in
            subst Fours r.2 ((read_line_some values_before (b ∷ bs) p).count, ih l.rest r.0 r.1)

-- their columns
column_grow : (i : ℕ) → i < 4 → (rows : List (List ℕ)) → Fours rows → column i (map grow rows) ≡ column i rows
column_grow i l [] f = refl
column_grow i l (vs ∷ rows) f = cc (get_or-append vs (1 ∷ []) 0 i (omega (arith, f.0)), column_grow i l rows f.1)

column_ones : (rows : List (List ℕ)) → Fours rows → column 4 (map grow rows) ≡ map (λ _. 1) rows
column_ones [] f = refl
column_ones (vs ∷ rows) f = cc (ap (λ (i : ℕ). get_or (vs ++ 1 ∷ []) i 0) (sym f.0) ∙ get_or-append_seam vs 1 [] 0, column_ones rows f.1)

columns_grow : (rows : List (List ℕ)) → Fours rows → columns (map grow rows) ≡ yard_before rows
columns_grow rows f = rw (column_grow 1 (omega arith) rows f, column_grow 2 (omega arith) rows f, column_grow 3 (omega arith) rows f, column_ones rows f)

before_shallow : (rows : List (List ℕ)) → Shallow (yard_before rows)
before_shallow rows v l = go rows v (omega (arith, length-map rows (λ (vs : List ℕ). get_or vs 1 0)))
  where
    go : (rows : List (List ℕ)) (v : ℕ) → v < length rows → ◌≡◌ {A = ℕ} (get_or (map (λ _. 1) rows) v 0) 1
    go [] v l = absurd (omega arith)
    go (vs ∷ rows) zero l = refl
    go (vs ∷ rows) (suc v) l = go rows v (omega arith)

-- a test for bytes without one
lacks : ℕ → List ℕ → Bool
lacks stop [] = true
lacks stop (x ∷ xs) = (not (eqb x stop)) && (lacks stop xs)

lacks_without : (stop : ℕ) (xs : List ℕ) → lacks stop xs ≡ true → Without stop xs
unfolding lacks
lacks_without stop [] e = tt
lacks_without stop (x ∷ xs) e =
    let p = (and-eq-true_iff (not (eqb x stop)) (lacks stop xs)).0 e in
    ((λ q. false≢true (sym (ap not (eq-eqb x stop q)) ∙ p.0)), lacks_without stop xs p.1)

-- read_yard: the header of before gets its word, and no other line becomes the header
front : List ℕ
front = text "berth parent car target"

word : List ℕ
word = text "depth"

headed_deep : (rest : List ℕ) → deepened (header_before ++ rest) ≡ header ++ deep rest
unfolding header_before header text front lacks
headed_deep rest = deeper_word (text " depth") front rest (lacks_without 10 front refl)

header_back : (bs rest : List ℕ) → deepened bs ≡ header ++ rest → (s : List ℕ) × (bs ≡ header_before ++ s)
unfolding header_before header text front word lacks
header_back bs rest e =
    deeper_back word bs front rest word (lacks_without 32 word refl) (lacks_without 32 word refl) (lacks_without 10 front refl) (lacks_without 10 (32 ∷ word) refl) (lacks_without 10 (32 ∷ word) refl) e

begins_self : (start rest : List ℕ) → begins start (start ++ rest) ≡ true
begins_self start rest = rw (take-append_seam start rest) (same_self start)

begins_is : (start bs : List ℕ) → begins start bs ≡ true → bs ≡ start ++ drop (length start) bs
begins_is start bs e = sym (take-append-drop (length start) bs) ∙ ap (λ (l : List ℕ). l ++ drop (length start) bs) (same_true _ _ e)

read_yard_other : (bs : List ℕ) → begins header bs ≡ false → read_yard bs ≡ refused (row 15 1)
unfolding read_yard
read_yard_other bs e = ap (λ (t : Bool). elim t as (λ _. Answer Yard) [
  | false ↦ refused (row 15 1)
  | true ↦ elim (drop (length header) bs) [ [] ↦ refused (row 1 2) | (b ∷ rest) ↦ mapAnswer columns (readNodes max_size 0 (b ∷ rest)) ]
]) e

read_yard_empty : read_yard (header ++ deep []) ≡ refused (row 1 2)
unfolding read_yard header text same deeper
read_yard_empty = refl

-- what is printed for the lines
printed_deep : (b : ℕ) (bs : List ℕ) → printed_of (read_yard (header ++ deep (b ∷ bs))) ≡ printed_before (read_nodes_before max_size 0 (b ∷ bs))
printed_deep b bs = go (read_nodes_before max_size 0 (b ∷ bs)) refl
  where
    input : List ℕ
    input = header ++ deep (b ∷ bs)

    read : read_yard input ≡ mapAnswer columns (mapAnswer (map grow) (read_nodes_before max_size 0 (b ∷ bs)))
    read = let c = deep_cons b bs in read_yard_header (deep (b ∷ bs)) (rw c.2 (omega arith)) ∙ ap (mapAnswer columns) (read_nodes_deep max_size 0 (b ∷ bs))

    go : (a : Answer (List (List ℕ))) → read_nodes_before max_size 0 (b ∷ bs) ≡ a → printed_of (read_yard input) ≡ printed_before a
    go (refused f) e = ap printed_of (read ∙ ap (λ (a : Answer (List (List ℕ))). mapAnswer columns (mapAnswer (map grow) a)) e)
    go (answered rows) e =
        let said : read_yard input ≡ answered (yard_before rows) =
        read ∙ ap (λ (a : Answer (List (List ℕ))). mapAnswer columns (mapAnswer (map grow) a)) e ∙ ap answered (columns_grow rows (before_fours max_size 0 (b ∷ bs) rows e)) in
        sym (program_cut input) ∙ (sheets_before input (yard_before rows) said (before_shallow rows)).printed input said

abbrev shown_before : Bool → List ℕ → List ℕ
shown_before t rest = elim t [ false ↦ refusal_sheet (row 15 1) | true ↦ elim rest [ [] ↦ refusal_sheet (row 1 2) | (b ∷ bs) ↦ printed_before (read_nodes_before max_size 0 (b ∷ bs)) ] ]

-- an input cut at 4,200 bytes was read as the whole: so much room k lines of before from v on may take
room_before : ℕ → ℕ → ℕ
room_before zero v = 0
room_before (suc k) v = length (decimal v) + 13 + room_before k (suc v)

room_before_law : length header_before + room_before max_size 0 ≡ 4_010
unfolding room_before decimal digits header_before text
room_before_law = refl

line_before : (vs : List ℕ) → Values vs → length vs ≡ 4 → length (line vs) ≤ length (decimal (get_or vs 0 0)) + 13
unfolding line
line_before [] b n = absurd (omega arith)
line_before (v ∷ vs) b n = rw (length-append (decimal v)) (omega (arith, length_line vs b.1))

before_take : (k v m : ℕ) (bs : List ℕ) → room_before k v + 16 ≤ m → read_nodes_before k v (take m bs) ≡ read_nodes_before k v bs
unfolding room_before read_nodes_before
before_take zero v zero bs h = absurd (omega arith)
before_take zero v (suc m) [] h = refl
before_take zero v (suc m) (b ∷ bs) h = refl
before_take (suc k) v zero bs h = absurd (omega arith)
before_take (suc k) v (suc m) [] h = refl
before_take (suc k) v (suc m) (b ∷ bs) h =
    ap (parsed_before k v) (read_line_take values_before (suc m) (b ∷ bs) (omega arith)) ∙ go (readLine values_before (b ∷ bs)) refl (before_take k (suc v))
  where
    go : (o : Option Line) → readLine values_before (b ∷ bs) ≡ o → ((m : ℕ) (bs : List ℕ) → room_before k (suc v) + 16 ≤ m → read_nodes_before k (suc v) (take m bs) ≡ read_nodes_before k (suc v) bs)
        → parsed_before k v (Option.map (cut_line (suc m)) o) ≡ parsed_before k v o
    go none p ih = refl
    go (some l) p ih = at (eqb (node_of l) v) refl
      where
        at : (t : Bool) → eqb (node_of l) v ≡ t → checked_before k v (cut_line (suc m) l) t ≡ checked_before k v l t
        at false q = refl
        at true q =
            let g = read_line_some values_before (b ∷ bs) p in
            let n = rw (eqb-true (node_of l) v q) at (line_before l.values g.small g.count) in
            ap (mapAnswer (◌∷◌ l.values)) (ih (suc m - length (line l.values)) l.rest (omega arith))

shown_take : (n : ℕ) (rest : List ℕ) → room_before max_size 0 + 16 ≤ n → shown_before true (take n rest) ≡ shown_before true rest
shown_take zero rest h = absurd (omega arith)
shown_take (suc n) [] h = refl
shown_take (suc n) (b ∷ rest) h = ap printed_before (before_take max_size 0 (suc n) (b ∷ rest) h)

before_cut : (input : List ℕ) → program_before input ≡ whole_before input
unfolding program_before whole_before
before_cut input =
    let n : ℕ = length header_before in
    ap (λ (w : List ℕ). shown_before (same w header_before) (drop n (take judged_before input))) (take-take n judged_before input (omega (arith, room_before_law)))
    ∙ ap (shown_before (begins header_before input)) (drop_take n judged_before input (omega (arith, room_before_law)))
    ∙ go (begins header_before input)
  where
    go : (t : Bool) → shown_before t (take (judged_before - length header_before) (drop (length header_before) input)) ≡ shown_before t (drop (length header_before) input)
    go true = shown_take (judged_before - length header_before) (drop (length header_before) input) (omega (arith, room_before_law))
    go false = refl

-- so a sheet of before prints what it printed, whatever its bytes
pub sheets_as_before : SheetsAsBefore
unfolding whole_before
sheets_as_before bs = program_cut (deepened bs) ∙ go (begins header_before bs) refl ∙ sym (before_cut bs)
  where
    at : (rest : List ℕ) → bs ≡ header_before ++ rest → printed_of (read_yard (deepened bs)) ≡ shown_before true rest
    at [] q = ap (λ (l : List ℕ). printed_of (read_yard (deepened l))) q ∙ ap (λ (l : List ℕ). printed_of (read_yard l)) (headed_deep []) ∙ ap printed_of read_yard_empty
    at (b ∷ rest) q = ap (λ (l : List ℕ). printed_of (read_yard (deepened l))) q ∙ ap (λ (l : List ℕ). printed_of (read_yard l)) (headed_deep (b ∷ rest)) ∙ printed_deep b rest

    go : (t : Bool) → begins header_before bs ≡ t → printed_of (read_yard (deepened bs)) ≡ shown_before t (drop (length header_before) bs)
    go true e = at (drop (length header_before) bs) (begins_is header_before bs e)
    go false e = ap printed_of (read_yard_other (deepened bs) (not_so (begins header (deepened bs)) (λ h.
        let r = header_back bs _ (begins_is header (deepened bs) h) in
        false≢true (sym e ∙ ap (begins header_before) r.1 ∙ begins_self header_before r.0))))
