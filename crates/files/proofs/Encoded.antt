-- Each part of a plan file is read as it was written.
use Rattle.std.proofs.Common.{◌≡◌, ℕ, ◌+◌, ◌*◌, ◌≤◌, min, List, [], ◌∷◌, ◌++◌, length, get_or, drop, Ok, Result, sym, refl, ap, ◌∙◌, subst, mul-zero, mul-suc, arith}
use Rattle.std.specs.List.{flat_map, AllByRecursion}
use Rattle.files.specs.declared.plan.Stop.{Stop}
use Rattle.files.specs.declared.plan.TheConstants.{MOST_STOPS}
use Rattle.files.specs.Layout.{then, row, field, Entry, entry, next_entry, table, next_table, stop, next_stop, Body, body, next_body}
use Rattle.files.specs.Bytes.{word_bytes, stop_bytes, path_bytes, FitsWord, StopFits}
use Rattle.files.proofs.Rows.{then_from, same_ok, rest_is, Coded, after, encs, Goods, row_reads_all, row_writes, Bytes, field_reads, field_writes}

module _ {S X : Type 0} (bs : List ℕ) (one : S → Result X ℕ) (on : S → X → S) (k : Coded bs one on) where
  -- things whose bytes do not depend on where they stand
  pub encs_joined : (f : X → List ℕ) → ((s : S) (x : X) → k.enc s x ≡ f x) → (s : S) (zs : List X) → encs bs one on k s zs ≡ flat_map f zs
  encs_joined f same s [] = refl
  encs_joined f same s (z ∷ zs) = ap (λ l. l ++ encs bs one on k (on s z) zs) (same s z) ∙ ap (λ l. f z ++ l) (encs_joined f same (on s z) zs)

  pub goods_all : (P : X → Type 0) → ((s : S) (x : X) → k.Good s x → P x) → (s : S) (zs : List X) → Goods bs one on k s zs → AllByRecursion P zs
  goods_all P each s [] g = tt
  goods_all P each s (z ∷ zs) g = (each s z g.0, goods_all P each (on s z) zs g.1)

  pub all_goods : (P : X → Type 0) → ((s : S) (x : X) → P x → k.Good s x) → (s : S) (zs : List X) → AllByRecursion P zs → Goods bs one on k s zs
  all_goods P each s [] g = tt
  all_goods P each s (z ∷ zs) g = (each s z g.0, all_goods P each (on s z) zs g.1)

  -- things of one size
  pub after_steady : (c : ℕ) → ((s : S) (x : X) → k.at (on s x) ≡ k.at s + c) → (s : S) (zs : List X) → k.at (after bs one on k s zs) ≡ k.at s + c * length zs
  after_steady c step s [] = rw mul-zero (omega arith)
  after_steady c step s (z ∷ zs) = after_steady c step (on s z) zs ∙ rw (step s z, mul-suc) (omega arith)

pub length_path : (path : List Stop) → length (path_bytes path) ≡ 4 * length path
length_path [] = refl
length_path (s ∷ path) = let e = length_path path in omega arith

module _ (bs : List ℕ) where
  -- a number of one of two fields in a row
  pub pair_reads :
      Bytes bs → (low high low' high' at m n : ℕ) → field low high at bs ≡ Ok m → field low' high' (at + 2) bs ≡ Ok n
      → (drop at bs ≡ word_bytes m ++ word_bytes n ++ drop (at + 4) bs) × ((low ≤ m) × (m ≤ high)) × ((low' ≤ n) × (n ≤ high'))
  pair_reads small low high low' high' at m n p q =
      let f = field_reads low high at bs m small p in
      let g = field_reads low' high' (at + 2) bs n small q in
      let e : at + 2 + 2 ≡ at + 4 = omega arith in
      (f.0 ∙ ap (λ l. word_bytes m ++ l) (g.0 ∙ ap (λ i. word_bytes n ++ drop i bs) e), (f.1, f.2), (g.1, g.2))

  pub pair_writes :
      (low high low' high' at m n : ℕ) (rest : List ℕ) → (low ≤ m) × (m ≤ high) → (low' ≤ n) × (n ≤ high') → drop at bs ≡ word_bytes m ++ word_bytes n ++ rest
      → (field low high at bs ≡ Ok m) × (field low' high' (at + 2) bs ≡ Ok n)
  pair_writes low high low' high' at m n rest f g d = (
    field_writes low high at bs m (word_bytes n ++ rest) f.0 f.1 d,
    field_writes low' high' (at + 2) bs n rest g.0 g.1 (sym (rest_is bs (word_bytes m) (word_bytes n ++ rest) at (at + 2) d refl)),
  )

  abbrev pub EntryGood : Entry → ℕ → Type 0
  EntryGood e count = (1 ≤ count) × (count ≤ MOST_STOPS) × (count ≤ e.room)

  pub entry_reads : Bytes bs → (e : Entry) (c : ℕ) → entry bs e ≡ Ok c → (drop e.at bs ≡ word_bytes e.begin ++ word_bytes c ++ drop (e.at + 4) bs) × EntryGood e c
  entry_reads small e c r =
      let p = then_from (field e.begin e.begin e.at bs) (λ _. field 1 (min e.room MOST_STOPS) (e.at + 2) bs) c r in
      let f = pair_reads small e.begin e.begin 1 (min e.room MOST_STOPS) e.at p.0 c p.1 p.2 in
      let o : p.0 ≡ e.begin = omega arith in
      (f.0 ∙ ap (λ b. word_bytes b ++ word_bytes c ++ drop (e.at + 4) bs) o, (omega arith, omega arith, omega arith))

  pub entry_writes : (e : Entry) (c : ℕ) (rest : List ℕ) → EntryGood e c → drop e.at bs ≡ word_bytes e.begin ++ word_bytes c ++ rest → entry bs e ≡ Ok c
  entry_writes e c rest g d =
      let f = pair_writes e.begin e.begin 1 (min e.room MOST_STOPS) e.at e.begin c rest (omega arith, omega arith) (omega arith, omega arith) d in
      ap (λ x. then x (λ _. field 1 (min e.room MOST_STOPS) (e.at + 2) bs)) f.0 ∙ f.1

  pub stop_reads : Bytes bs → (at : ℕ) (s : Stop) → stop bs at ≡ Ok s → (drop at bs ≡ stop_bytes s ++ drop (at + 4) bs) × StopFits s
  stop_reads small at s r =
      let p = then_from (field 0 65535 at bs) _ s r in
      let q = then_from (field 0 65535 (at + 2) bs) _ s p.2 in
      let f = pair_reads small 0 65535 0 65535 at p.0 q.0 p.1 q.1 in
      let is = same_ok q.2 in
      subst (λ (x : Stop). (drop at bs ≡ stop_bytes x ++ drop (at + 4) bs) × StopFits x) is (f.0, (f.1.1, f.2.1))

  pub stop_writes : (at : ℕ) (s : Stop) (rest : List ℕ) → StopFits s → drop at bs ≡ stop_bytes s ++ rest → stop bs at ≡ Ok s
  stop_writes at s rest g d =
      let f = pair_writes 0 65535 0 65535 at s.place s.tick rest (omega arith, g.0) (omega arith, g.1) d in
      ap (λ x. then x (λ place. then (field 0 65535 (at + 2) bs) (λ tick. Ok (record { place = place; tick = tick })))) f.0
      ∙ ap (λ x. then x (λ tick. Ok (record { place = s.place; tick = tick }))) f.1

  abbrev pub entries : Coded bs (entry bs) next_entry
  entries = record {
    at = λ e. e.at;
    enc = λ e count. word_bytes e.begin ++ word_bytes count;
    Good = EntryGood;
    moves = λ e count. refl;
    reads = entry_reads;
    writes = entry_writes;
  }

  abbrev pub places : Coded bs (table bs) next_table
  places = record {
    at = λ t. t.at;
    enc = λ t place. word_bytes place;
    Good = λ t place. (t.low ≤ place) × FitsWord place;
    moves = λ t place. refl;
    reads = λ small t place r. let f = field_reads t.low 65535 t.at bs place small r in (f.0, (f.1, f.2));
    writes = λ t place rest g d. field_writes t.low 65535 t.at bs place rest g.0 g.1 d;
  }

  abbrev pub halts : Coded bs (stop bs) next_stop
  halts = record {
    at = λ at. at;
    enc = λ at s. stop_bytes s;
    Good = λ at s. StopFits s;
    moves = λ at s. refl;
    reads = stop_reads;
    writes = stop_writes;
  }

  module _ (counts : List ℕ) where
    abbrev pub BodyGood : Body → List Stop → Type 0
    BodyGood b path = (length path ≡ get_or counts b.shuttle 0) × AllByRecursion StopFits path

    pub body_reads : Bytes bs → (b : Body) (path : List Stop) → body bs counts b ≡ Ok path → (drop b.at bs ≡ path_bytes path ++ drop (b.at + 4 * length path) bs) × BodyGood b path
    body_reads small b path r =
        let f = row_reads_all bs (stop bs) next_stop halts small (get_or counts b.shuttle 0) b.at path r in
        let end = after_steady bs (stop bs) next_stop halts 4 (λ s x. refl) b.at path in
        let written = encs_joined bs (stop bs) next_stop halts stop_bytes (λ s x. refl) b.at path in (
          f.1 ∙ ap (λ l. l ++ drop (after bs (stop bs) next_stop halts b.at path) bs) written ∙ ap (λ i. path_bytes path ++ drop i bs) end,
          (f.0, goods_all bs (stop bs) next_stop halts StopFits (λ s x g. g) b.at path f.2),
        )

    pub body_writes : (b : Body) (path : List Stop) (rest : List ℕ) → BodyGood b path → drop b.at bs ≡ path_bytes path ++ rest → body bs counts b ≡ Ok path
    body_writes b path rest g d =
        let written = encs_joined bs (stop bs) next_stop halts stop_bytes (λ s x. refl) b.at path in
        ap (λ n. row (stop bs) next_stop n b.at []) (sym g.0)
        ∙ row_writes bs (stop bs) next_stop halts path b.at [] rest (all_goods bs (stop bs) next_stop halts StopFits (λ s x p. p) b.at path g.1) (d ∙ ap (λ l. l ++ rest) (sym written))

    abbrev pub tracks : Coded bs (body bs counts) next_body
    tracks = record {
      at = λ b. b.at;
      enc = λ b path. path_bytes path;
      Good = BodyGood;
      moves = λ b path. ap (λ n. b.at + n) (sym (length_path path));
      reads = body_reads;
      writes = body_writes;
    }
