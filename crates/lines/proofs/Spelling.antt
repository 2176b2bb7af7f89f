-- A line is read exactly where it is a spelling of the command that is read.
use Rattle.std.proofs.Common.{◌≡◌, ℕ, ◌^◌, ◌<◌, Bool, true, false, cond, ◌&&◌, eqb, ltb, leb, List, [], ◌∷◌, ◌++◌, length, get_or, take, drop, Some, None, decimal, Option, sym, refl, ap, ◌∙◌, subst, append_assoc, arith}
use Rattle.std.proofs.lemmas.List.{take_at, drop_at, take-append-drop, take_rest, length-take-le}
use Rattle.std.proofs.lemmas.Bool.{le-leb, leb-true, lt-ltb, ltb-true, eqb-true, cond-true, and_from, and_parts}
use Rattle.lines.specs.declared.commands.Command.{Command}
use Rattle.lines.specs.declared.commands.Command.TheVariants.{Hold, Tick, Redraw, Sheet}
use Rattle.lines.specs.Numbers.{worth, Writes, count_of_digits, then, numeral_of, number_of, ended, one_number, two_numbers}
use Rattle.lines.specs.Lines.{SpellsNumbers, Spells, ReadsExactly, command_from, command_of, command_text}
use Rattle.lines.proofs.Digits.{count_le, count_digits, count_exact, decimal_writes}
use Rattle.lines.proofs.Taken.{after}

none_some : {X : Type 0} {P : Type 0} (x : X) → ◌≡◌ {A = Option X} None (Some x) → P
none_some x e = absurd (let z : ◌≡◌ {A = ℕ} 0 1 = cc in omega arith)

same_some : {X : Type 0} (x y : X) → Some x ≡ Some y → x ≡ y
same_some x y e = cc

cond_some : {X : Type 0} (t : Bool) (x y : X) → cond t (Some x) None ≡ Some y → (t ≡ true) × (x ≡ y)
cond_some true x y e = (refl, same_some x y e)
cond_some false x y e = none_some y e

then_some : {X Y : Type 0} (o : Option X) (f : X → Option Y) (y : Y) → then o f ≡ Some y → (x : X) × (o ≡ Some x) × (f x ≡ Some y)
then_some None f y e = none_some y e
then_some (Some x) f y e = (x, refl, e)

-- a number that is read is spelled, and one that is spelled is read
numeral_reads : (bs rest : List ℕ) (n : ℕ) → numeral_of (count_of_digits bs) bs ≡ Some (n, rest) → (ds : List ℕ) × (bs ≡ ds ++ rest) × Writes ds n
numeral_reads bs rest n e =
    let k = count_of_digits bs in
    let p = cond_some (leb 1 k && leb k 10 && ltb (worth (take k bs)) (2 ^ 32)) (worth (take k bs), drop k bs) (n, rest) e in
    let tests = and_parts (leb 1 k && leb k 10) (ltb (worth (take k bs)) (2 ^ 32)) p.0 in
    let count = and_parts (leb 1 k) (leb k 10) tests.0 in
    let long : length (take k bs) ≡ k = length-take-le k bs (count_le bs) in
    let value : worth (take k bs) ≡ n = ap (λ q. q.0) p.1 in
    let left : drop k bs ≡ rest = ap (λ q. q.1) p.1 in (
      take k bs,
      sym (take-append-drop k bs) ∙ ap (λ r. take k bs ++ r) left,
      record {
        some = omega (arith, leb-true 1 k count.0);
        few = omega (arith, leb-true k 10 count.1);
        all = count_digits bs;
        value = value;
        fits = omega (arith, ltb-true (worth (take k bs)) (2 ^ 32) tests.1);
      },
    )

number_reads : (bs rest : List ℕ) (n : ℕ) → number_of bs ≡ Some (n, rest) → (ds : List ℕ) × (bs ≡ 32 ∷ ds ++ rest) × Writes ds n
number_reads [] rest n e = none_some (n, rest) e
number_reads (b ∷ bs) rest n e = go (eqb b 32) refl e
  where
    go : (t : Bool) → eqb b 32 ≡ t → cond t (numeral_of (count_of_digits bs) bs) None ≡ Some (n, rest) → (ds : List ℕ) × (b ∷ bs ≡ 32 ∷ ds ++ rest) × Writes ds n
    go true s e = let p = numeral_reads bs rest n e in (p.0, (λ i. eqb-true b 32 s i ∷ p.1 i), p.2)
    go false s e = none_some (n, rest) e

number_writes : (ds rest : List ℕ) (n : ℕ) → Writes ds n → count_of_digits rest ≡ 0 → number_of (32 ∷ ds ++ rest) ≡ Some (n, rest)
number_writes ds rest n w none =
    let front = take_at ds rest (length ds) refl in
    let left = drop_at ds rest (length ds) refl in
    let small : worth ds < 2 ^ 32 = omega (arith, w.value, w.fits) in
    ap (λ k. numeral_of k (ds ++ rest)) (count_exact ds rest w.all none)
    ∙ (λ i. cond (leb 1 (length ds) && leb (length ds) 10 && ltb (worth (front i)) (2 ^ 32)) (Some (worth (front i), left i)) None)
    ∙ cond-true (leb 1 (length ds) && leb (length ds) 10 && ltb (worth ds) (2 ^ 32)) (Some (worth ds, rest)) None
    (and_from (leb 1 (length ds) && leb (length ds) 10) _ (and_from _ _ (le-leb 1 _ w.some) (le-leb _ 10 w.few)) (lt-ltb _ _ small))
    ∙ ap (λ m. Some (m, rest)) w.value

ended_reads : {X : Type 0} (x y : X) (bs : List ℕ) → ended x bs ≡ Some y → (bs ≡ 10 ∷ []) × (x ≡ y)
ended_reads x y [] e = none_some y e
ended_reads x y (b ∷ []) e = let p = cond_some (eqb b 10) x y e in (ap (λ c. c ∷ []) (eqb-true b 10 p.0), p.1)
ended_reads x y (b ∷ c ∷ bs) e = none_some y e

-- one number, and two
one_reads : (bs : List ℕ) (n : ℕ) → one_number bs ≡ Some n → SpellsNumbers (n ∷ []) bs
one_reads bs n e =
    let q = then_some (number_of bs) (λ p. ended p.0 p.1) n e in
    let end = ended_reads q.0.0 n q.0.1 q.2 in
    let p = number_reads bs q.0.1 q.0.0 q.1 in
    (p.0, q.0.1, p.1, subst (Writes p.0) end.1 p.2, end.0)

one_writes : (bs : List ℕ) (n : ℕ) → SpellsNumbers (n ∷ []) bs → one_number bs ≡ Some n
one_writes bs n (ds, rest, e, w, end) =
    ap one_number (e ∙ ap (λ r. 32 ∷ ds ++ r) end) ∙ ap (λ o. then o λ p. ended p.0 p.1) (number_writes ds (10 ∷ []) n w refl)

two_reads : (bs : List ℕ) (m n : ℕ) → two_numbers bs ≡ Some (m, n) → SpellsNumbers (m ∷ n ∷ []) bs
two_reads bs m n e =
    let q = then_some (number_of bs) (λ p. then (one_number p.1) λ n. Some (p.0, n)) (m, n) e in
    let s = then_some (one_number q.0.1) (λ n. Some (q.0.0, n)) (m, n) q.2 in
    let same = same_some (q.0.0, s.0) (m, n) s.2 in
    let p = number_reads bs q.0.1 q.0.0 q.1 in
    (p.0, q.0.1, p.1, subst (Writes p.0) (ap (λ x. x.0) same) p.2, subst (λ k. SpellsNumbers (k ∷ []) q.0.1) (ap (λ x. x.1) same) (one_reads q.0.1 s.0 s.1))

-- what spells a number begins with no digit
no_digit : (bs : List ℕ) (ns : List ℕ) → SpellsNumbers ns bs → count_of_digits bs ≡ 0
no_digit bs [] e = ap count_of_digits e
no_digit bs (n ∷ ns) s = ap count_of_digits s.2

two_writes : (bs : List ℕ) (m n : ℕ) → SpellsNumbers (m ∷ n ∷ []) bs → two_numbers bs ≡ Some (m, n)
two_writes bs m n s =
    ap two_numbers s.2 ∙ ap (λ o. then o λ p. then (one_number p.1) λ n. Some (p.0, n)) (number_writes s.0 s.1 m s.3 (no_digit s.1 (n ∷ []) s.4))
    ∙ ap (λ o. then o λ n. Some (m, n)) (one_writes s.1 n s.4)

-- what follows the letter, as the code has it
pub begins : (bs : List ℕ) (b : ℕ) → 0 < length bs → b ≡ get_or bs 0 0 → command_of bs ≡ command_from b (after bs)
begins [] b some e = absurd (omega arith)
begins (a ∷ bs) b some e = λ i. command_from (sym e i) (sym (take_rest (a ∷ bs) 1) i)

-- a command
command_reads : (b : ℕ) (bs : List ℕ) (c : Command) → command_from b bs ≡ Some c → Spells c (b ∷ bs)
command_reads b bs c e = go (eqb b 72) (eqb b 84) (eqb b 82) (eqb b 83) refl refl refl refl e
  where
    go :
        (h t r s : Bool) → eqb b 72 ≡ h → eqb b 84 ≡ t → eqb b 82 ≡ r → eqb b 83 ≡ s
        → cond h (then (two_numbers bs) λ p. Some (Hold p.0 p.1)) (cond t (then (one_number bs) λ n. Some (Tick n)) (cond r (then (one_number bs) λ n. Some (Redraw n)) (cond s (ended Sheet bs) None))) ≡ Some c
        → Spells c (b ∷ bs)
    go true t r s is _ _ _ e =
        let q = then_some (two_numbers bs) (λ p. Some (Hold p.0 p.1)) c e in
        subst (λ c. Spells c (b ∷ bs)) (same_some (Hold q.0.0 q.0.1) c q.2) (bs, ap (λ x. x ∷ bs) (eqb-true b 72 is), two_reads bs q.0.0 q.0.1 q.1)
    go false true r s _ is _ _ e =
        let q = then_some (one_number bs) (λ n. Some (Tick n)) c e in
        subst (λ c. Spells c (b ∷ bs)) (same_some (Tick q.0) c q.2) (bs, ap (λ x. x ∷ bs) (eqb-true b 84 is), one_reads bs q.0 q.1)
    go false false true s _ _ is _ e =
        let q = then_some (one_number bs) (λ n. Some (Redraw n)) c e in
        subst (λ c. Spells c (b ∷ bs)) (same_some (Redraw q.0) c q.2) (bs, ap (λ x. x ∷ bs) (eqb-true b 82 is), one_reads bs q.0 q.1)
    go false false false true _ _ _ is e =
        let q = ended_reads Sheet c bs e in
        subst (λ c. Spells c (b ∷ bs)) q.1 (bs, ap (λ x. x ∷ bs) (eqb-true b 83 is), q.0)
    go false false false false _ _ _ _ e = none_some c e

line_reads : (bs : List ℕ) (c : Command) → command_of bs ≡ Some c → Spells c bs
line_reads [] c e = none_some c e
line_reads (b ∷ bs) c e = command_reads b bs c e

line_writes : (bs : List ℕ) (c : Command) → Spells c bs → command_of bs ≡ Some c
line_writes bs (Hold s d) p = ap command_of p.1 ∙ ap (λ o. then o λ p. Some (Hold p.0 p.1)) (two_writes p.0 s d p.2)
line_writes bs (Tick w) p = ap command_of p.1 ∙ ap (λ o. then o λ n. Some (Tick n)) (one_writes p.0 w p.2)
line_writes bs (Redraw b) p = ap command_of p.1 ∙ ap (λ o. then o λ n. Some (Redraw n)) (one_writes p.0 b p.2)
line_writes bs Sheet p = ap command_of p.1 ∙ ap (ended Sheet) p.2

pub exactly : (r : Option Command) (bs : List ℕ) → r ≡ command_of bs → ReadsExactly r bs
exactly r bs e c = (λ s. line_reads bs c (sym e ∙ s), λ s. e ∙ line_writes bs c s)

-- a written line reads back
pub hold_back : (s d : ℕ) → s < 2 ^ 32 → d < 2 ^ 32 → command_of (command_text (Hold s d)) ≡ Some (Hold s d)
hold_back s d small few =
    line_writes (command_text (Hold s d)) (Hold s d)
    (_, refl, (decimal s, 32 ∷ decimal d ++ 10 ∷ [], ap (λ l. 32 ∷ l) (regroup (decimal s) (32 ∷ []) (decimal d) (10 ∷ [])), decimal_writes s small, (decimal d, 10 ∷ [], refl, decimal_writes d few, refl)))
  where
    regroup : (a b c d : List ℕ) → a ++ b ++ c ++ d ≡ a ++ (b ++ (c ++ d))
    regroup a b c d = simp append_assoc

pub tick_back : (w : ℕ) → w < 2 ^ 32 → command_of (command_text (Tick w)) ≡ Some (Tick w)
tick_back w small = line_writes (command_text (Tick w)) (Tick w) (_, refl, (decimal w, 10 ∷ [], refl, decimal_writes w small, refl))

pub redraw_back : (b : ℕ) → b < 2 ^ 32 → command_of (command_text (Redraw b)) ≡ Some (Redraw b)
redraw_back b small = line_writes (command_text (Redraw b)) (Redraw b) (_, refl, (decimal b, 10 ∷ [], refl, decimal_writes b small, refl))

pub sheet_back : command_of (command_text Sheet) ≡ Some Sheet
sheet_back = line_writes (command_text Sheet) Sheet (_, refl, refl)
