-- A file is read exactly when it is the file of the plan that is read.
use Rattle.std.proofs.Common.{◌≡◌, ℕ, zero, suc, ◌+◌, ◌*◌, ◌<◌, ◌≤◌, leb, List, [], ◌∷◌, ◌++◌, map, length, get_or, drop, Ok, sum_by, sum, sym, refl, ap, ◌∙◌, subst, append_assoc, append-nil, add-zero, zero-add, arith}
use Rattle.std.specs.List.{flat_map, AllByRecursion}
use Rattle.std.proofs.lemmas.List.{length-append, length-drop, length-map, get_or-map, ext_get_or, drop_all}
use Rattle.std.proofs.lemmas.List.Sums.{sum_by-cons, sum-map}
use Rattle.std.proofs.lemmas.Bool.{leb-true, le-leb, cond-true}
use Rattle.files.specs.declared.plan.Stop.{Stop}
use Rattle.files.specs.declared.plan.TheConstants.{MOST_SHUTTLES, MOST_STOPS, MOST_STOPS_IN_ALL, MOST_TABLES}
use Rattle.files.specs.Layout.{Layout, row, field, Entry, entry, next_entry, contents, Table, table, next_table, tables, Body, body, next_body, bodies, bodies_at, tables_at, layout}
use Rattle.files.specs.Bytes.{word_bytes, path_bytes, contents_bytes, plan_bytes, FitsWord, StopFits, PathFits, Limits, ReadsExactly}
use Rattle.files.proofs.Rows.{then_from, cond_ok, same_ok, rest_is, after, encs, Goods, row_reads_all, row_writes, after-at, Bytes, field_reads, field_writes}
use Rattle.files.proofs.Fields.{then_ok}
use Rattle.files.proofs.Encoded.{encs_joined, goods_all, after_steady, length_path, entries, places, tracks}

-- the stop count of a path
abbrev CountFits : ℕ → Type 0
CountFits c = (1 ≤ c) × (c ≤ MOST_STOPS)

-- Rising as the reader goes by it
abbrev Rises : List ℕ → Type 0
Rises ts = (i : ℕ) → suc i < length ts → get_or ts i 0 < get_or ts (suc i) 0

-- five parts of a file, one after another
five :
    (whole a b c d e r₁ r₂ r₃ r₄ : List ℕ) → whole ≡ a ++ r₁ → r₁ ≡ b ++ r₂ → r₂ ≡ c ++ r₃ → r₃ ≡ d ++ r₄ → r₄ ≡ e → whole ≡ a ++ b ++ c ++ d ++ e
five whole a b c d e r₁ r₂ r₃ r₄ p q r s t =
    p ∙ ap (λ x. a ++ x) (q ∙ ap (λ x. b ++ x) (r ∙ ap (λ x. c ++ x) (s ∙ ap (λ x. d ++ x) t))) ∙ simp append_assoc

length-bodies : (ps : List (List Stop)) → length (flat_map path_bytes ps) ≡ 4 * sum_by length ps
length-bodies [] = refl
length-bodies (p ∷ ps) =
    let e = length-bodies ps in
    let s = sum_by-cons length p ps in
    length-append (path_bytes p) (flat_map path_bytes ps) ∙ omega (arith, length_path p)

length_words : (ts : List ℕ) → length (flat_map word_bytes ts) ≡ 2 * length ts
length_words [] = refl
length_words (t ∷ ts) = let e = length_words ts in omega arith

length-contents : (begin : ℕ) (cs : List ℕ) → length (contents_bytes begin cs) ≡ 4 * length cs
length-contents begin [] = refl
length-contents begin (c ∷ cs) = let e = length-contents (begin + 4 * c) cs in omega arith

paths_fit : (ps : List (List Stop)) → AllByRecursion CountFits (map length ps) → AllByRecursion (λ p. AllByRecursion StopFits p) ps → AllByRecursion PathFits ps
paths_fit [] a b = tt
paths_fit (p ∷ ps) a b = ((a.0.0, a.0.1, b.0), paths_fit ps a.1 b.1)

fit_paths : (ps : List (List Stop)) → AllByRecursion PathFits ps → AllByRecursion CountFits (map length ps) × AllByRecursion (λ p. AllByRecursion StopFits p) ps
fit_paths [] a = (tt, tt)
fit_paths (p ∷ ps) a = let r = fit_paths ps a.1 in (((a.0.0, a.0.1), r.0), (a.0.2, r.1))

module _ (bs : List ℕ) where
  contents_written : (e : Entry) (cs : List ℕ) → encs bs (entry bs) next_entry (entries bs) e cs ≡ contents_bytes e.begin cs
  contents_written e [] = refl
  contents_written e (c ∷ cs) = ap (λ l. word_bytes e.begin ++ word_bytes c ++ l) (contents_written (next_entry e c) cs)

  contents_good : (e : Entry) (cs : List ℕ) → Goods bs (entry bs) next_entry (entries bs) e cs → AllByRecursion CountFits cs × (sum cs ≤ e.room)
  contents_good e [] g = (tt, omega arith)
  contents_good e (c ∷ cs) g =
      let r = contents_good (next_entry e c) cs g.1 in
      let s = sum_by-cons (λ x. x) c cs in
      (((g.0.0, g.0.1), r.0), omega arith)

  good_contents : (e : Entry) (cs : List ℕ) → AllByRecursion CountFits cs → sum cs ≤ e.room → Goods bs (entry bs) next_entry (entries bs) e cs
  good_contents e [] a le = tt
  good_contents e (c ∷ cs) a le =
      let s = sum_by-cons (λ x. x) c cs in
      ((a.0.0, a.0.1, omega arith), good_contents (next_entry e c) cs a.1 (omega arith))

  tables_good : (t : Table) (ps : List ℕ) → Goods bs (table bs) next_table (places bs) t ps → AllByRecursion FitsWord ps × Rises ps × (0 < length ps → t.low ≤ get_or ps 0 0)
  tables_good t [] g = (tt, λ i lt. absurd (omega arith), λ lt. absurd (omega arith))
  tables_good t (p ∷ ps) g =
      let r = tables_good (next_table t p) ps g.1 in
      ((g.0.1, r.0), rises p ps r.2 r.1, λ _. g.0.0)
    where
      rises : (p : ℕ) (ps : List ℕ) → (0 < length ps → p + 1 ≤ get_or ps 0 0) → Rises ps → Rises (p ∷ ps)
      rises p ps first up zero lt = omega (arith, first (omega arith))
      rises p ps first up (suc i) lt = up i (omega arith)

  good_tables : (t : Table) (ps : List ℕ) → AllByRecursion FitsWord ps → Rises ps → (0 < length ps → t.low ≤ get_or ps 0 0) → Goods bs (table bs) next_table (places bs) t ps
  good_tables t [] a up first = tt
  good_tables t (p ∷ ps) a up first =
      ((first (omega arith), a.0), good_tables (next_table t p) ps a.1 (λ i lt. up (suc i) (omega arith)) (λ lt. omega (arith, up 0 (omega arith))))

  module _ (counts : List ℕ) where
    bodies_good : (b : Body) (ps : List (List Stop)) → Goods bs (body bs counts) next_body (tracks bs counts) b ps → (i : ℕ) → i < length ps → length (get_or ps i []) ≡ get_or counts (b.shuttle + i) 0
    bodies_good b [] g i lt = absurd (omega arith)
    bodies_good b (p ∷ ps) g zero lt = g.0.0 ∙ ap (λ k. get_or counts k 0) (sym (add-zero b.shuttle))
    bodies_good b (p ∷ ps) g (suc i) lt =
        let e : b.shuttle + 1 + i ≡ b.shuttle + suc i = omega arith in
        bodies_good (next_body b p) ps g.1 i (omega arith) ∙ ap (λ k. get_or counts k 0) e

    good_bodies :
        (b : Body) (ps : List (List Stop)) → ((i : ℕ) → i < length ps → length (get_or ps i []) ≡ get_or counts (b.shuttle + i) 0) → AllByRecursion (λ p. AllByRecursion StopFits p) ps
        → Goods bs (body bs counts) next_body (tracks bs counts) b ps
    good_bodies b [] each a = tt
    good_bodies b (p ∷ ps) each a = (
      (each 0 (omega arith) ∙ ap (λ k. get_or counts k 0) (add-zero b.shuttle), a.0),
      good_bodies (next_body b p) ps
          (λ i lt. let e : b.shuttle + suc i ≡ b.shuttle + 1 + i = omega arith in each (suc i) (omega arith) ∙ ap (λ k. get_or counts k 0) e) a.1,
    )

  contents-read :
      Bytes bs → (n begin : ℕ) (counts : List ℕ) → contents bs n begin ≡ Ok counts
      → (length counts ≡ n) × (drop 4 bs ≡ contents_bytes begin counts ++ drop (tables_at n) bs) × (AllByRecursion CountFits counts × (sum counts ≤ MOST_STOPS_IN_ALL))
  contents-read small n begin counts f =
      let s : Entry = record { at = 4; begin = begin; room = MOST_STOPS_IN_ALL } in
      let w = row_reads_all bs (entry bs) next_entry (entries bs) small n s counts f in
      let end = after_steady bs (entry bs) next_entry (entries bs) 4 (λ s x. refl) s counts ∙ ap (λ k. 4 + 4 * k) w.0 in (
        w.0,
        w.1 ∙ ap (λ l. l ++ drop (after bs (entry bs) next_entry (entries bs) s counts).at bs) (contents_written s counts) ∙ ap (λ i. contents_bytes begin counts ++ drop i bs) end,
        contents_good s counts w.2,
      )

  tables-read :
      Bytes bs → (m at : ℕ) (ts : List ℕ) → tables bs m at ≡ Ok ts
      → (length ts ≡ m) × (drop at bs ≡ flat_map word_bytes ts ++ drop (at + 2 * m) bs) × (AllByRecursion FitsWord ts × Rises ts)
  tables-read small m at ts f =
      let s : Table = record { at = at; low = 0 } in
      let w = row_reads_all bs (table bs) next_table (places bs) small m s ts f in
      let end = after_steady bs (table bs) next_table (places bs) 2 (λ s x. refl) s ts ∙ ap (λ k. at + 2 * k) w.0 in
      let g = tables_good s ts w.2 in (
        w.0,
        w.1 ∙ ap (λ l. l ++ drop (after bs (table bs) next_table (places bs) s ts).at bs) (encs_joined bs (table bs) next_table (places bs) word_bytes (λ s x. refl) s ts) ∙ ap (λ i. flat_map word_bytes ts ++ drop i bs) end,
        (g.0, g.1),
      )

  bodies-read :
      Bytes bs → (counts : List ℕ) (at : ℕ) (ps : List (List Stop)) → bodies bs counts at ≡ Ok ps
      → (map length ps ≡ counts) × (drop at bs ≡ flat_map path_bytes ps ++ drop (at + 4 * sum counts) bs) × AllByRecursion (λ p. AllByRecursion StopFits p) ps
  bodies-read small counts at ps f =
      let s : Body = record { at = at; shuttle = 0 } in
      let k = tracks bs counts in
      let w = row_reads_all bs (body bs counts) next_body k small (length counts) s ps f in
      let each = bodies_good counts s ps w.2 in
      let same : map length ps ≡ counts = ext_get_or 0 (map length ps) counts (length-map ps length ∙ w.0) (λ i lt. let l : i < length ps = omega (arith, length-map ps length) in get_or-map length ps i [] 0 l ∙ each i l ∙ ap (λ k. get_or counts k 0) (zero-add i)) in
      let written = encs_joined bs (body bs counts) next_body k path_bytes (λ s x. refl) s ps in
      let end : (after bs (body bs counts) next_body k s ps).at ≡ at + 4 * sum counts = after-at bs (body bs counts) next_body k s ps ∙ ap (λ l. at + length l) written ∙ ap (λ n. at + n) (length-bodies ps ∙ ap (λ n. 4 * n) (sym (sum-map length ps) ∙ ap sum same)) in (
        same,
        w.1 ∙ ap (λ l. l ++ drop (after bs (body bs counts) next_body k s ps).at bs) written ∙ ap (λ i. flat_map path_bytes ps ++ drop i bs) end,
        goods_all bs (body bs counts) next_body k (λ p. AllByRecursion StopFits p) (λ s p g. g.1) s ps w.2,
      )

  parts_read :
      Bytes bs → (n m : ℕ) (counts ts : List ℕ) (ps : List (List Stop))
      → field 1 MOST_SHUTTLES 0 bs ≡ Ok n → field 0 MOST_TABLES 2 bs ≡ Ok m → contents bs n (bodies_at n m) ≡ Ok counts → tables bs m (tables_at n) ≡ Ok ts
      → bodies bs counts (bodies_at n m) ≡ Ok ps → length bs ≤ bodies_at n m + 4 * sum counts
      → (bs ≡ plan_bytes (record { paths = ps; tables = ts })) × Limits (record { paths = ps; tables = ts })
  parts_read small n m counts ts ps f₁ f₂ f₃ f₄ f₅ end =
      let w₁ = field_reads 1 MOST_SHUTTLES 0 bs n small f₁ in
      let w₂ = field_reads 0 MOST_TABLES 2 bs m small f₂ in
      let w₃ = contents-read small n (bodies_at n m) counts f₃ in
      let w₄ = tables-read small m (tables_at n) ts f₄ in
      let w₅ = bodies-read small counts (bodies_at n m) ps f₅ in
      let n_is : n ≡ length ps = sym w₃.0 ∙ sym (ap length w₅.0) ∙ length-map ps length in
      let m_is : m ≡ length ts = sym w₄.0 in
      let last : flat_map path_bytes ps ++ drop (bodies_at n m + 4 * sum counts) bs ≡ flat_map path_bytes ps = ap (λ l. flat_map path_bytes ps ++ l) (drop_all _ bs end) ∙ append-nil (flat_map path_bytes ps) in
      let whole = five bs (word_bytes n) (word_bytes m) (contents_bytes (bodies_at n m) counts) (flat_map word_bytes ts) (flat_map path_bytes ps) _ _ _ _ w₁.0 w₂.0 w₃.1 w₄.1 (w₅.1 ∙ last) in
      let total : sum_by length ps ≡ sum counts = sym (sum-map length ps) ∙ ap sum w₅.0 in (
        whole ∙ (λ i. word_bytes (n_is i) ++ word_bytes (m_is i) ++ contents_bytes (bodies_at (n_is i) (m_is i)) (sym w₅.0 i) ++ flat_map word_bytes ts ++ flat_map path_bytes ps),
        record {
          some = omega arith;
          shuttles = omega arith;
          stops = paths_fit ps (subst (λ cs. AllByRecursion CountFits cs) (sym w₅.0) w₃.2.0) w₅.2;
          total = omega arith;
          few = omega arith;
          places = w₄.2.0;
          rising = w₄.2.1;
        },
      )

  layout-read : Bytes bs → (l : Layout) → layout bs ≡ Ok l → (bs ≡ plan_bytes l) × Limits l
  layout-read small l f =
      let p₁ = then_from (field 1 MOST_SHUTTLES 0 bs) _ l f in
      let p₂ = then_from (field 0 MOST_TABLES 2 bs) _ l p₁.2 in
      let p₃ = then_from (contents bs p₁.0 (bodies_at p₁.0 p₂.0)) _ l p₂.2 in
      let p₄ = then_from (tables bs p₂.0 (tables_at p₁.0)) _ l p₃.2 in
      let p₅ = then_from (bodies bs p₃.0 (bodies_at p₁.0 p₂.0)) _ l p₄.2 in
      let p₆ = cond_ok (leb (length bs) (bodies_at p₁.0 p₂.0 + 4 * sum p₃.0)) _ (bodies_at p₁.0 p₂.0 + 4 * sum p₃.0) l p₅.2 in
      subst (λ (x : Layout). (bs ≡ plan_bytes x) × Limits x) (same_ok p₆.1)
      (parts_read small p₁.0 p₂.0 p₃.0 p₄.0 p₅.0 p₁.1 p₂.1 p₃.1 p₄.1 p₅.1 (leb-true _ _ p₆.0))

  contents_write :
      (begin : ℕ) (counts : List ℕ) (n : ℕ) (rest : List ℕ) → length counts ≡ n → AllByRecursion CountFits counts → sum counts ≤ MOST_STOPS_IN_ALL
      → drop 4 bs ≡ contents_bytes begin counts ++ rest → contents bs n begin ≡ Ok counts
  contents_write begin counts n rest e a le d =
      let s : Entry = record { at = 4; begin = begin; room = MOST_STOPS_IN_ALL } in
      ap (λ k. contents bs k begin) (sym e)
      ∙ row_writes bs (entry bs) next_entry (entries bs) counts s [] rest (good_contents s counts a le) (d ∙ ap (λ l. l ++ rest) (sym (contents_written s counts)))

  tables_write : (at : ℕ) (ts rest : List ℕ) → AllByRecursion FitsWord ts → Rises ts → drop at bs ≡ flat_map word_bytes ts ++ rest → tables bs (length ts) at ≡ Ok ts
  tables_write at ts rest a up d =
      let s : Table = record { at = at; low = 0 } in
      row_writes bs (table bs) next_table (places bs) ts s [] rest (good_tables s ts a up (λ _. omega arith))
      (d ∙ ap (λ l. l ++ rest) (sym (encs_joined bs (table bs) next_table (places bs) word_bytes (λ s x. refl) s ts)))

  bodies_write : (at : ℕ) (ps : List (List Stop)) → AllByRecursion (λ p. AllByRecursion StopFits p) ps → drop at bs ≡ flat_map path_bytes ps → bodies bs (map length ps) at ≡ Ok ps
  bodies_write at ps a d =
      let s : Body = record { at = at; shuttle = 0 } in
      let k = tracks bs (map length ps) in
      let each = good_bodies (map length ps) s ps (λ i lt. sym (ap (λ j. get_or (map length ps) j 0) (zero-add i) ∙ get_or-map length ps i [] 0 lt)) a in
      ap (λ n. row (body bs (map length ps)) next_body n s []) (length-map ps length)
      ∙ row_writes bs (body bs (map length ps)) next_body k ps s [] [] each
      (d ∙ sym (encs_joined bs (body bs (map length ps)) next_body k path_bytes (λ s x. refl) s ps) ∙ sym (append-nil _))

  pub layout_write : (l : Layout) → bs ≡ plan_bytes l → Limits l → layout bs ≡ Ok l
  layout_write l whole lim =
      let ps = l.paths in
      let ts = l.tables in
      let n = length ps in
      let m = length ts in
      let counts = map length ps in
      let C = contents_bytes (bodies_at n m) counts in
      let T = flat_map word_bytes ts in
      let B = flat_map path_bytes ps in
      let n_is : length counts ≡ n = length-map ps length in
      let fit = fit_paths ps lim.stops in
      let d₀ : drop 0 bs ≡ word_bytes n ++ (word_bytes m ++ (C ++ (T ++ B))) = whole ∙ simp append_assoc in
      let d₂ : drop 2 bs ≡ word_bytes m ++ (C ++ (T ++ B)) = sym (rest_is bs (word_bytes n) _ 0 2 d₀ refl) in
      let d₄ : drop 4 bs ≡ C ++ (T ++ B) = sym (rest_is bs (word_bytes m) _ 2 4 d₂ refl) in
      let d₅ : drop (tables_at n) bs ≡ T ++ B = sym (rest_is bs C (T ++ B) 4 (tables_at n) d₄ (omega (arith, length-contents (bodies_at n m) counts))) in
      let d₆ : drop (bodies_at n m) bs ≡ B = sym (rest_is bs T B (tables_at n) (bodies_at n m) d₅ (omega (arith, length_words ts))) in
      let f₁ : field 1 MOST_SHUTTLES 0 bs ≡ Ok n = field_writes 1 MOST_SHUTTLES 0 bs n _ lim.some lim.shuttles d₀ in
      let f₂ : field 0 MOST_TABLES 2 bs ≡ Ok m = field_writes 0 MOST_TABLES 2 bs m _ (omega arith) lim.few d₂ in
      let total : sum counts ≡ sum_by length ps = sum-map length ps in
      let f₃ : contents bs n (bodies_at n m) ≡ Ok counts = contents_write (bodies_at n m) counts n (T ++ B) n_is fit.0 (omega (arith, lim.total)) d₄ in
      let f₄ : tables bs m (tables_at n) ≡ Ok ts = tables_write (tables_at n) ts B lim.places lim.rising d₅ in
      let f₅ : bodies bs counts (bodies_at n m) ≡ Ok ps = bodies_write (bodies_at n m) ps fit.1 d₆ in
      let end : length bs ≤ bodies_at n m + 4 * sum counts = omega (arith, length-drop (bodies_at n m) bs, ap length d₆, length-bodies ps) in
      then_ok _ f₁ ∙ then_ok _ f₂ ∙ then_ok _ f₃ ∙ then_ok _ f₄ ∙ then_ok _ f₅ ∙ cond-true _ _ _ (le-leb _ _ end)

pub layout_exact : (bs : List ℕ) → Bytes bs → ReadsExactly bs
layout_exact bs small l = (layout-read bs small l, layout_write bs l)
