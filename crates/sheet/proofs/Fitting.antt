-- Bytes in front of a buffer, and more behind them.
use Rattle.std.proofs.Common.{◌≡◌, ℕ, suc, ◌+◌, ◌<◌, ◌≤◌, List, [], ◌∷◌, ◌++◌, length, take, drop, set, sym, refl, ap, ◌∙◌, subst, append_assoc, arith}
use Rattle.std.proofs.lemmas.List.{length-append, length-drop, append-nil, drop-drop, drop_all, drop_at, set_split, take_all, take_at}
use borrow.Rule.Slice.PartMut.{mid_of, put_mid}
use Rattle.run.specs.Writes.{Fits}

pub fits_none : (old : List ℕ) → Fits [] 0 old old
fits_none old = record { count = refl; buffer = refl }

module _ (a : List ℕ) (n : ℕ) (old mid : List ℕ) (f : Fits a n old mid) where
  pub fits_long : n ≤ length old → length mid ≡ length old
  fits_long le = ap (λ (l : List ℕ). length l) f.buffer ∙ omega (arith, length-append a (drop n old), length-drop n old, f.count)

  front : take n mid ≡ a
  front = ap (take n) f.buffer ∙ take_at a (drop n old) n (sym f.count)

  pub behind : drop n mid ≡ drop n old
  behind = ap (drop n) f.buffer ∙ drop_at a (drop n old) n (sym f.count)

  -- more bytes, in front of what is behind the first
  fits_more : (b : List ℕ) (m : ℕ) (part : List ℕ) → Fits b m (drop n mid) part → Fits (a ++ b) (n + m) old (take n mid ++ part)
  fits_more b m part g = record {
    count = omega (arith, f.count, g.count, length-append a b);
    buffer =
        ap (λ (l : List ℕ). l ++ part) front
        ∙ ap (λ (l : List ℕ). a ++ l) (g.buffer ∙ ap (λ (l : List ℕ). b ++ drop m l) behind ∙ ap (λ (l : List ℕ). b ++ l) (drop-drop m n old))
        ∙ sym (append_assoc a b (drop (n + m) old));
  }

  -- the same of a part of the buffer, from the place behind the first to the end
  pub fits_part : (b : List ℕ) (m k : ℕ) (part : List ℕ) → length mid ≤ n + k → Fits b m (mid_of n k mid) part → Fits (a ++ b) (n + m) old (put_mid n k mid part)
  fits_part b m k part le g =
      let rest : length (drop n mid) ≤ k = omega (arith, length-drop n mid) in
      subst (λ (l : List ℕ). Fits (a ++ b) (n + m) old (take n mid ++ l)) (sym (ap (λ (l : List ℕ). part ++ l) (drop_all k (drop n mid) rest) ∙ append-nil part))
      (fits_more b m part (subst (λ (l : List ℕ). Fits b m l part) (take_all k (drop n mid) rest) g))

  pub fits_byte : (c : ℕ) → n < length mid → Fits (a ++ c ∷ []) (n + 1) old (set mid n c)
  fits_byte c lt =
      let one : Fits (c ∷ []) 1 (drop n mid) (c ∷ drop (suc n) mid) = record {
        count = refl;
        buffer = ap (λ (l : List ℕ). c ∷ l) (ap (λ k. drop k mid) {x = suc n} {y = n + 1} (omega arith) ∙ sym (drop-drop 1 n mid));
      } in
      subst (λ (l : List ℕ). Fits (a ++ c ∷ []) (n + 1) old l) (sym (set_split mid n c lt)) (fits_more (c ∷ []) 1 (c ∷ drop (suc n) mid) one)
