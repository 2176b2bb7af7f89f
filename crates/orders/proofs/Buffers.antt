-- Writing over a buffer, part by part.
use Rattle.std.proofs.Common.{◌≡◌, ℕ, ◌+◌, ◌≤◌, List, [], ◌∷◌, ◌++◌, length, get_or, take, drop, set, sym, ap, ◌∙◌, append_assoc, add-zero, add-one, arith}
use Rattle.std.proofs.lemmas.List.{length-append, length-drop, length_push, length-take-le, set_split, set_at, drop_more, drop-drop, drop_at, take_at, take-append-drop}
use Rattle.orders.specs.File.{over}

pub set_two : (xs : List ℕ) (at a b : ℕ) → at + 2 ≤ length xs → set (set xs at a) (at + 1) b ≡ over xs at (a ∷ b ∷ [])
set_two xs at a b le =
    let p = take at xs ++ a ∷ [] in
    let q = drop (at + 1 + 1) xs in
    let long : length p ≡ at + 1 = length_push (take at xs) a ∙ ap (λ n. n + 1) (length-take-le at xs (omega arith)) in
    let first : set xs at a ≡ p ++ get_or xs (at + 1) 0 ∷ q = set_split xs at a (omega arith) ∙ ap (λ k. take at xs ++ a ∷ drop k xs) (sym (add-one at)) ∙ ap (λ l. take at xs ++ a ∷ l) (drop_more xs (at + 1) 0 (omega arith)) ∙ sym (append_assoc (take at xs) (a ∷ []) _) in
    let e : at + 1 + 1 ≡ at + 2 = omega arith in
    ap (λ l. set l (at + 1) b) first ∙ set_at p (get_or xs (at + 1) 0) q b (at + 1) long ∙ append_assoc (take at xs) (a ∷ []) (b ∷ q) ∙ ap (λ k. take at xs ++ (a ∷ b ∷ drop k xs)) e

pub length_over : (xs : List ℕ) (at : ℕ) (ys : List ℕ) → at + length ys ≤ length xs → length (over xs at ys) ≡ length xs
length_over xs at ys le =
    omega (arith, length-append (take at xs) (ys ++ drop (at + length ys) xs), length-append ys (drop (at + length ys) xs), length-take-le at xs (omega arith), length-drop (at + length ys) xs)

pub over_none : (xs : List ℕ) (at : ℕ) → over xs at [] ≡ xs
over_none xs at = ap (λ k. take at xs ++ drop k xs) (add-zero at) ∙ take-append-drop at xs

-- what is written behind what was written
pub over_more : (xs : List ℕ) (at : ℕ) (ys zs : List ℕ) (n : ℕ) → n ≡ at + length ys → at + length ys + length zs ≤ length xs → over (over xs at ys) n zs ≡ over xs at (ys ++ zs)
over_more xs at ys zs n is le =
    let p = take at xs ++ ys in
    let rest = drop (at + length ys) xs in
    let long : length p ≡ n = length-append (take at xs) ys ∙ omega (arith, length-take-le at xs (omega arith)) in
    let whole : over xs at ys ≡ p ++ rest = sym (append_assoc (take at xs) ys rest) in
    let front : take n (over xs at ys) ≡ p = ap (take n) whole ∙ take_at p rest n long in
    let end : at + length ys + length zs ≡ at + length (ys ++ zs) = omega (arith, length-append ys zs) in
    let back : drop (n + length zs) (over xs at ys) ≡ drop (at + length (ys ++ zs)) xs = ap (drop (n + length zs)) whole ∙ sym (drop-drop (length zs) n (p ++ rest)) ∙ ap (drop (length zs)) (drop_at p rest n long) ∙ drop-drop (length zs) (at + length ys) xs ∙ ap (λ k. drop k xs) end in
    (λ i. front i ++ (zs ++ back i)) ∙ append_assoc (take at xs) ys _ ∙ ap (λ l. take at xs ++ l) (sym (append_assoc ys zs _))
