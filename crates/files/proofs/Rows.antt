-- What is read in a row is what was written in a row.
use Rattle.std.proofs.Common.{◌≡◌, ℕ, zero, suc, ◌+◌, ◌*◌, ◌/◌, ◌%◌, ◌<◌, ◌≤◌, Bool, true, false, cond, ◌&&◌, leb, List, [], ◌∷◌, ◌++◌, length, get_or, drop, Ok, Err, Result, sym, refl, ap, ◌∙◌, subst, append_assoc, append-nil, add-zero, arith}
use Rattle.std.proofs.lemmas.List.{drop_more, drop-drop, drop_at, length-append, length-drop, get_or-drop}
use Rattle.std.proofs.lemmas.Bool.{leb-true, le-leb, and_parts, and_from, cond-true}
use Rattle.files.specs.Layout.{then, row, word, field}
use Rattle.files.specs.Bytes.{word_bytes}

-- a reading that ended well came by a value
pub then_from : {X Y : Type 0} (d : Result X ℕ) (next : X → Result Y ℕ) (y : Y) → then d next ≡ Ok y → (x : X) × (d ≡ Ok x) × (next x ≡ Ok y)
then_from (Ok x) next y e = (x, refl, e)
then_from (Err p) next y e = let z : ◌≡◌ {A = ℕ} 0 1 = cc in absurd (omega arith)

pub same_ok : {X : Type 0} {x y : X} → ◌≡◌ {A = Result X ℕ} (Ok x) (Ok y) → x ≡ y
same_ok e = cc

-- what is left after a part of known length
pub rest_is : (bs front rest : List ℕ) (at on : ℕ) → drop at bs ≡ front ++ rest → on ≡ at + length front → rest ≡ drop on bs
rest_is bs front rest at on e m =
    sym (ap (λ k. drop k bs) m ∙ sym (drop-drop (length front) at bs) ∙ ap (drop (length front)) e ∙ drop_at front rest (length front) refl)

-- every number of the list is a byte
abbrev pub Bytes : List ℕ → Type 0
Bytes bs = (i : ℕ) → get_or bs i 0 < 256

module _ {S X : Type 0} (bs : List ℕ) (one : S → Result X ℕ) (on : S → X → S) where
  -- where a thing stands, its bytes, and what it keeps; reading it and writing it agree
  pub record Coded : Type 1 where
    pub at : S → ℕ
    pub enc : S → X → List ℕ
    pub Good : S → X → Type 0
    pub moves : (s : S) (x : X) → at (on s x) ≡ at s + length (enc s x)
    pub reads : Bytes bs → (s : S) (x : X) → one s ≡ Ok x → (drop (at s) bs ≡ enc s x ++ drop (at (on s x)) bs) × Good s x
    pub writes : (s : S) (x : X) (rest : List ℕ) → Good s x → drop (at s) bs ≡ enc s x ++ rest → one s ≡ Ok x

  module _ (k : Coded) where
    abbrev pub after : S → List X → S
    after s [] = s
    after s (x ∷ xs) = after (on s x) xs

    abbrev pub encs : S → List X → List ℕ
    encs s [] = []
    encs s (x ∷ xs) = k.enc s x ++ encs (on s x) xs

    abbrev pub Goods : S → List X → Type 0
    Goods s [] = Unit {0}
    Goods s (x ∷ xs) = k.Good s x × Goods (on s x) xs

    pub record Read (n : ℕ) (s : S) (xs ys : List X) : Type 0 where
      pub zs : List X
      pub adds : ys ≡ xs ++ zs
      pub count : length zs ≡ n
      pub bytes : drop (k.at s) bs ≡ encs s zs ++ drop (k.at (after s zs)) bs
      pub good : Goods s zs

    pub row_reads : Bytes bs → (n : ℕ) (s : S) (xs ys : List X) → row one on n s xs ≡ Ok ys → Read n s xs ys
    row_reads small zero s xs ys e = record { zs = []; adds = sym (same_ok e) ∙ sym (append-nil xs); count = refl; bytes = refl; good = tt }
    row_reads small (suc n) s xs ys e =
        let p = then_from (one s) (λ x. row one on n (on s x) (xs ++ x ∷ [])) ys e in
        let x = p.0 in
        let r = row_reads small n (on s x) (xs ++ x ∷ []) ys p.2 in
        let o = k.reads small s x p.1 in
        record {
          zs = x ∷ r.zs;
          adds = r.adds ∙ append_assoc xs (x ∷ []) r.zs;
          count = ap suc r.count;
          bytes = o.0 ∙ ap (λ l. k.enc s x ++ l) r.bytes ∙ sym (append_assoc (k.enc s x) (encs (on s x) r.zs) _);
          good = (o.1, r.good);
        }

    -- the same from nothing read so far
    pub row_reads_all :
        Bytes bs → (n : ℕ) (s : S) (ys : List X) → row one on n s [] ≡ Ok ys
        → (length ys ≡ n) × (drop (k.at s) bs ≡ encs s ys ++ drop (k.at (after s ys)) bs) × Goods s ys
    row_reads_all small n s ys e =
        let r = row_reads small n s [] ys e in
        let P : List X → Type 0 = λ zs. (length zs ≡ n) × (drop (k.at s) bs ≡ encs s zs ++ drop (k.at (after s zs)) bs) × Goods s zs in
        subst P (sym r.adds) (r.count, r.bytes, r.good)

    pub after-at : (s : S) (zs : List X) → k.at (after s zs) ≡ k.at s + length (encs s zs)
    after-at s [] = sym (add-zero (k.at s))
    after-at s (z ∷ zs) =
        after-at (on s z) zs ∙ ap (λ n. n + length (encs (on s z) zs)) (k.moves s z) ∙ rw length-append (omega arith)

    pub row_writes : (zs : List X) (s : S) (xs : List X) (rest : List ℕ) → Goods s zs → drop (k.at s) bs ≡ encs s zs ++ rest → row one on (length zs) s xs ≡ Ok (xs ++ zs)
    row_writes [] s xs rest g e = ap Ok (sym (append-nil xs))
    row_writes (z ∷ zs) s xs rest g e =
        let here = e ∙ append_assoc (k.enc s z) (encs (on s z) zs) rest in
        let there = rest_is bs (k.enc s z) (encs (on s z) zs ++ rest) (k.at s) (k.at (on s z)) here (k.moves s z) in
        ap (λ d. then d (λ x. row one on (length zs) (on s x) (xs ++ x ∷ []))) (k.writes s z _ g.0 here)
        ∙ row_writes zs (on s z) (xs ++ z ∷ []) rest g.1 (sym there)
        ∙ ap Ok (append_assoc xs (z ∷ []) zs)

pub word_parts : (a b : ℕ) → b < 256 → word_bytes (a * 256 + b) ≡ a ∷ b ∷ []
word_parts a b lt =
    let p : (a * 256 + b) / 256 ≡ a = omega arith in
    let q : (a * 256 + b) % 256 ≡ b = omega arith in
    cc

pub two_more : (bs : List ℕ) (at : ℕ) → at + 2 ≤ length bs → drop at bs ≡ get_or bs at 0 ∷ get_or bs (at + 1) 0 ∷ drop (at + 2) bs
two_more bs at le =
    let m : at + 1 + 1 ≡ at + 2 = omega arith in
    drop_more bs at 0 (omega arith)
    ∙ ap (λ l. get_or bs at 0 ∷ l) (drop_more bs (at + 1) 0 (omega arith) ∙ ap (λ k. get_or bs (at + 1) 0 ∷ drop k bs) m)

-- a test that ended well was passed
pub cond_ok : {X : Type 0} (b : Bool) (d : Result X ℕ) (p : ℕ) (x : X) → cond b d (Err p) ≡ Ok x → (b ≡ true) × (d ≡ Ok x)
cond_ok true d p x e = (refl, e)
cond_ok false d p x e = let z : ◌≡◌ {A = ℕ} 0 1 = cc in absurd (omega arith)

pub field_reads :
    (low high at : ℕ) (bs : List ℕ) (n : ℕ) → Bytes bs → field low high at bs ≡ Ok n
    → (drop at bs ≡ word_bytes n ++ drop (at + 2) bs) × (low ≤ n) × (n ≤ high)
field_reads low high at bs n small e =
    let p = cond_ok (leb (at + 2) (length bs)) _ (length bs) n e in
    let q = cond_ok (leb low (word bs at) && leb (word bs at) high) (Ok (word bs at)) at n p.1 in
    let is : word bs at ≡ n = same_ok q.1 in
    let t = and_parts (leb low (word bs at)) (leb (word bs at) high) q.0 in
    let l = leb-true _ _ t.0 in
    let h = leb-true _ _ t.1 in
    let parts = ap word_bytes (sym is) ∙ word_parts (get_or bs at 0) (get_or bs (at + 1) 0) (small (at + 1)) in
    (two_more bs at (leb-true _ _ p.0) ∙ ap (λ w. w ++ drop (at + 2) bs) (sym parts), omega arith, omega arith)

pub field_writes : (low high at : ℕ) (bs : List ℕ) (n : ℕ) (rest : List ℕ) → low ≤ n → n ≤ high → drop at bs ≡ word_bytes n ++ rest → field low high at bs ≡ Ok n
field_writes low high at bs n rest l h e =
    let long : at + 2 ≤ length bs = omega (arith, length-drop at bs, ap length e) in
    let first : get_or bs at 0 ≡ n / 256 = ap (λ k. get_or bs k 0) (sym (add-zero at)) ∙ sym (get_or-drop at bs 0 0) ∙ ap (λ xs. get_or xs 0 0) e in
    let second : get_or bs (at + 1) 0 ≡ n % 256 = sym (get_or-drop at bs 1 0) ∙ ap (λ xs. get_or xs 1 0) e in
    let is : word bs at ≡ n = omega arith in
    let low-test = le-leb low (word bs at) (omega arith) in
    let high-test = le-leb (word bs at) high (omega arith) in
    cond-true _ _ _ (le-leb _ _ long) ∙ cond-true _ _ _ (and_from _ _ low-test high-test) ∙ ap Ok is
