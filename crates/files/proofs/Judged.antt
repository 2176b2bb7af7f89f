-- A reading judges the fields of a file in order: it ends well if all keep their rules, and else at the first fault.
use Rattle.std.proofs.Common.{◌≡◌, ℕ, zero, suc, ◌+◌, ◌*◌, ◌<◌, ◌≤◌, inl, inr, ⊎_elim, min, ◌&&◌, leb, List, [], ◌∷◌, ◌++◌, map, length, get_or, Ok, Err, Result, sum, sym, refl, ap, ◌∙◌, subst, add-one, zero-add, arith}
use Rattle.std.specs.List.{range_with_len}
use Rattle.std.proofs.lemmas.Bool.{leb-true, leb-false, le-leb, and_parts, and_from, both_ways, cond_both, cases_lt}
use Rattle.std.proofs.lemmas.List.{length_push}
use Rattle.std.proofs.lemmas.List.FromFn.{map-range_with_len_more, get_or-map-range_with_len, length-map-range_with_len}
use Rattle.std.proofs.lemmas.List.Sums.{sum_by_push}
use Rattle.files.specs.declared.plan.Stop.{Stop}
use Rattle.files.specs.declared.plan.TheConstants.{MOST_SHUTTLES, MOST_STOPS, MOST_STOPS_IN_ALL, MOST_TABLES}
use Rattle.files.specs.Fields.{shuttles_in, tables_in, stops_in, table_in, stops_below, body_in, end_in, Field, Shuttles, Tables, Offset, Stops, TablePlace, place_of, Has, FieldKeeps, FirstFault}
use Rattle.files.specs.Layout.{Layout, then, row, word, field, Entry, entry, next_entry, contents, Table, table, next_table, tables, stop, next_stop, stops, Body, body, next_body, bodies, bodies_at, tables_at, layout}
use Rattle.files.proofs.Rows.{Bytes}

module _ (bs : List ℕ) where
  -- every field that lies wholly before a place keeps its rule
  abbrev pub SoundTo : ℕ → Type 0
  SoundTo at = (f : Field) → Has bs f → place_of bs f + 2 ≤ at → FieldKeeps bs f

  abbrev pub Sound : Type 0
  Sound = (f : Field) → Has bs f → FieldKeeps bs f

  -- What is read is good, or the reading ends at the first fault.
  abbrev pub Judged : {X : Type 0} → (X → Type 0) → Result X ℕ → Type 0
  Judged Good (Ok x) = Good x
  Judged Good (Err at) = Bytes bs → FirstFault bs at

  pub judge_then : {X Y : Type 0} (Good : X → Type 0) (Fine : Y → Type 0) (d : Result X ℕ) (next : X → Result Y ℕ) → Judged Good d → ((x : X) → Good x → Judged Fine (next x)) → Judged Fine (then d next)
  judge_then Good Fine (Ok x) next j go = go x j
  judge_then Good Fine (Err at) next j go = j

  weaker : {X : Type 0} (Good Fine : X → Type 0) (d : Result X ℕ) → Judged Good d → ((x : X) → Good x → Fine x) → Judged Fine d
  weaker Good Fine (Ok x) j go = go x j
  weaker Good Fine (Err at) j go = j

  -- a row is good if each thing of it keeps what is known so far
  row_judged :
      {S X : Type 0} (one : S → Result X ℕ) (on : S → X → S) (Known : ℕ → S → List X → Type 0) (n : ℕ)
      → ((i : ℕ) (s : S) (xs : List X) → i < n → Known i s xs → Judged (λ x. Known (suc i) (on s x) (xs ++ x ∷ [])) (one s))
      → (r i : ℕ) (s : S) (xs : List X) → i + r ≡ n → Known i s xs → Judged (λ ys. (t : S) × Known n t ys) (row one on r s xs)
  row_judged one on Known n step zero i s xs e known = let same : i ≡ n = omega arith in (s, subst (λ k. Known k s xs) same known)
  row_judged one on Known n step (suc r) i s xs e known =
      judge_then (λ x. Known (suc i) (on s x) (xs ++ x ∷ [])) (λ ys. (t : _) × Known n t ys) (one s) (λ x. row one on r (on s x) (xs ++ x ∷ [])) (step i s xs (omega arith) known)
      (λ x more. row_judged one on Known n step r (suc i) (on s x) (xs ++ x ∷ []) (omega arith) more)

  -- a number that is read is the one that stands there
  field_judged :
      (Good : ℕ → Type 0) (low high at : ℕ) → (at + 2 ≤ length bs → low ≤ word bs at → word bs at ≤ high → Good (word bs at))
      → (at + 2 ≤ length bs → ((low ≤ word bs at) × (word bs at ≤ high) → ⊥) → Bytes bs → FirstFault bs at) → (length bs < at + 2 → FirstFault bs (length bs))
      → Judged Good (field low high at bs)
  field_judged Good low high at good bad short =
      cond_both (leb (at + 2) (length bs)) _ _ (Judged Good)
      (λ t.
      let long = leb-true _ _ t in
      cond_both (leb low (word bs at) && leb (word bs at) high) _ _ (Judged Good)
      (λ u. let r = and_parts _ _ u in good long (leb-true _ _ r.0) (leb-true _ _ r.1))
      (λ u. bad long (λ r. both_ways _ u (and_from _ _ (le-leb _ _ r.0) (le-leb _ _ r.1)))))
      (λ t. λ small. short (leb-false _ _ t))

  -- all fields begin at even places
  pub half_of : (f : Field) → (h : ℕ) × (place_of bs f ≡ 2 * h)
  half_of Shuttles = (0, refl)
  half_of Tables = (1, refl)
  half_of (Offset s) = (2 + 2 * s, omega arith)
  half_of (Stops s) = (3 + 2 * s, omega arith)
  half_of (TablePlace k) = (2 + 2 * shuttles_in bs + k, omega arith)

  -- one field more
  sound_on : (h at next : ℕ) → at ≡ 2 * h → next ≡ at + 2 → SoundTo at → ((f : Field) → Has bs f → place_of bs f ≡ at → FieldKeeps bs f) → SoundTo next
  sound_on h at next e on before here f has le =
      let p = half_of f in
      ⊎_elim (λ (new : at < place_of bs f + 2). here f has (omega (arith, p.1))) (λ (old : place_of bs f + 2 ≤ at). before f has old) (cases_lt at (place_of bs f + 2))

  -- a fault where a field begins, or inside it
  breaks : (at : ℕ) → SoundTo at → (f : Field) → Has bs f → place_of bs f ≡ at → at + 2 ≤ length bs → (FieldKeeps bs f → ⊥) → FirstFault bs at
  breaks at sound f has there long broken = record { fault = inl (f, has, there, long, broken); within = omega arith; before = sound }

  cut_short : (h at : ℕ) → at ≡ 2 * h → SoundTo at → length bs < at + 2 → at + 2 ≤ end_in bs → FirstFault bs (length bs)
  cut_short h at e sound short inside =
      record { fault = inr (inl (refl, omega arith)); within = omega arith; before = λ f has le. let p = half_of f in sound f has (omega (arith, p.1)) }

  pub below_rises : (s r : ℕ) → s ≤ r → stops_below bs s ≤ stops_below bs r
  below_rises s zero le = let e : s ≡ 0 = omega arith in subst (λ k. stops_below bs k ≤ 0) (sym e) (omega arith)
  below_rises s (suc r) le =
      ⊎_elim (λ (less : s < suc r). omega (arith, below_rises s r (omega arith)))
      (λ (ge : suc r ≤ s). let e : s ≡ suc r = omega arith in subst (λ k. stops_below bs k ≤ stops_below bs (suc r)) (sym e) (omega arith)) (cases_lt s (suc r))

  -- the field that stands at a place is the one that is read there
  at_shuttles : FieldKeeps bs Shuttles → (f : Field) → Has bs f → place_of bs f ≡ 0 → FieldKeeps bs f
  at_shuttles is Shuttles has q = is
  at_shuttles is Tables has q = absurd (omega arith)
  at_shuttles is (Offset s) has q = absurd (omega arith)
  at_shuttles is (Stops s) has q = absurd (omega arith)
  at_shuttles is (TablePlace k) has q = absurd (omega arith)

  at_tables : FieldKeeps bs Tables → (f : Field) → Has bs f → place_of bs f ≡ 2 → FieldKeeps bs f
  at_tables is Shuttles has q = absurd (omega arith)
  at_tables is Tables has q = is
  at_tables is (Offset s) has q = absurd (omega arith)
  at_tables is (Stops s) has q = absurd (omega arith)
  at_tables is (TablePlace k) has q = absurd (omega arith)

  at_offset : (i p : ℕ) → p ≡ 4 + 4 * i → i < shuttles_in bs → word bs p ≡ body_in bs i → (f : Field) → Has bs f → place_of bs f ≡ p → FieldKeeps bs f
  at_offset i p e lt is Shuttles has q = absurd (omega arith)
  at_offset i p e lt is Tables has q = absurd (omega arith)
  at_offset i p e lt is (Offset s) has q = let same : i ≡ s = omega arith in ap (word bs) q ∙ is ∙ ap (body_in bs) same
  at_offset i p e lt is (Stops s) has q = absurd (omega arith)
  at_offset i p e lt is (TablePlace k) has q = absurd (omega arith)

  at_stops : (i p : ℕ) → p ≡ 6 + 4 * i → i < shuttles_in bs → FieldKeeps bs (Stops i) → (f : Field) → Has bs f → place_of bs f ≡ p → FieldKeeps bs f
  at_stops i p e lt is Shuttles has q = absurd (omega arith)
  at_stops i p e lt is Tables has q = absurd (omega arith)
  at_stops i p e lt is (Offset s) has q = absurd (omega arith)
  at_stops i p e lt is (Stops s) has q = let same : i ≡ s = omega arith in subst (λ k. FieldKeeps bs (Stops k)) same is
  at_stops i p e lt is (TablePlace k) has q = absurd (omega arith)

  at_table : (j p : ℕ) → p ≡ tables_at (shuttles_in bs) + 2 * j → FieldKeeps bs (TablePlace j) → (f : Field) → Has bs f → place_of bs f ≡ p → FieldKeeps bs f
  at_table j p e is Shuttles has q = absurd (omega arith)
  at_table j p e is Tables has q = absurd (omega arith)
  at_table j p e is (Offset s) has q = absurd (omega arith)
  at_table j p e is (Stops s) has q = absurd (omega arith)
  at_table j p e is (TablePlace k) has q = let same : j ≡ k = omega arith in subst (λ i. FieldKeeps bs (TablePlace i)) same is

  -- the stop counts of the first shuttles
  abbrev pub counts_to : ℕ → List ℕ
  counts_to i = map (stops_in bs) (range_with_len 0 i)

  counts_more : (i : ℕ) → counts_to i ++ stops_in bs i ∷ [] ≡ counts_to (suc i)
  counts_more i = sym (map-range_with_len_more (stops_in bs) 0 i i (zero-add i)) ∙ ap counts_to (add-one i)

  sum-counts : (i : ℕ) → sum (counts_to i) ≡ stops_below bs i
  sum-counts zero = refl
  sum-counts (suc i) = ap sum (sym (counts_more i)) ∙ sum_by_push (λ x. x) (counts_to i) (stops_in bs i) ∙ omega (arith, sum-counts i)

  -- what is known with i entries of the contents read
  record Counted (i : ℕ) (e : Entry) (counts : List ℕ) : Type 0 where
    at : e.at ≡ 4 + 4 * i
    begin : e.begin ≡ body_in bs i
    room : e.room + stops_below bs i ≡ MOST_STOPS_IN_ALL
    are : counts ≡ counts_to i
    long : e.at ≤ length bs
    sound : SoundTo e.at

  entry_judged : (i : ℕ) (e : Entry) (counts : List ℕ) → i < shuttles_in bs → Counted i e counts → Judged (λ c. Counted (suc i) (next_entry e c) (counts ++ c ∷ [])) (entry bs e)
  entry_judged i e counts lt k =
      let Next : ℕ → Type 0 = λ c. Counted (suc i) (next_entry e c) (counts ++ c ∷ []) in
      let there : e.at + 2 ≡ 6 + 4 * i = omega (arith, k.at) in
      let count_is : word bs (e.at + 2) ≡ stops_in bs i = ap (word bs) there in
      judge_then (λ _. (word bs e.at ≡ body_in bs i) × (e.at + 2 ≤ length bs)) Next (field e.begin e.begin e.at bs) (λ _. field 1 (min e.room MOST_STOPS) (e.at + 2) bs)
      (field_judged (λ _. (word bs e.at ≡ body_in bs i) × (e.at + 2 ≤ length bs)) e.begin e.begin e.at (λ long low high. (omega (arith, k.begin), long))
      (λ long bad _. breaks e.at k.sound (Offset i) lt (sym k.at) long (λ is. let w = ap (word bs) k.at in bad (omega (arith, k.begin), omega (arith, k.begin))))
      (λ short. cut_short (2 + 2 * i) e.at (omega (arith, k.at)) k.sound short (omega (arith, k.at))))
      (λ _ first.
      let sound = sound_on (2 + 2 * i) e.at (e.at + 2) (omega (arith, k.at)) refl k.sound (at_offset i e.at k.at lt first.0) in
      field_judged Next 1 (min e.room MOST_STOPS) (e.at + 2)
      (λ long low high.
      let keeps : FieldKeeps bs (Stops i) = (omega arith, omega arith, omega (arith, k.room)) in
      record {
        at = omega (arith, k.at);
        begin = omega (arith, k.begin);
        room = omega (arith, k.room);
        are = (λ j. k.are j ++ count_is j ∷ []) ∙ counts_more i;
        long = omega arith;
        sound = sound_on (3 + 2 * i) (e.at + 2) (e.at + 4) (omega (arith, k.at)) (omega arith) sound (at_stops i (e.at + 2) there lt keeps);
      })
      (λ long bad _. breaks (e.at + 2) sound (Stops i) lt (sym there) long (λ is. bad (omega arith, omega (arith, k.room))))
      (λ short. cut_short (3 + 2 * i) (e.at + 2) (omega (arith, k.at)) sound short (omega (arith, k.at))))

  -- what is known with k tables read
  Low : ℕ → ℕ → Type 0
  Low zero low = low ≡ 0
  Low (suc k) low = low ≡ table_in bs k + 1

  record Tabled (k : ℕ) (t : Table) (places : List ℕ) : Type 0 where
    at : t.at ≡ tables_at (shuttles_in bs) + 2 * k
    low : Low k t.low
    long : t.at ≤ length bs
    sound : SoundTo t.at

  table_keeps : (k low : ℕ) → Low k low → low ≤ table_in bs k → FieldKeeps bs (TablePlace k)
  unfolding Low
  table_keeps zero low l le = tt
  table_keeps (suc k) low l le = omega arith

  keeps_low : (k low : ℕ) → Low k low → FieldKeeps bs (TablePlace k) → low ≤ table_in bs k
  unfolding Low
  keeps_low zero low l is = omega arith
  keeps_low (suc k) low l is = omega arith

  word_fits : Bytes bs → (at : ℕ) → word bs at ≤ 65535
  word_fits small at = omega (arith, small at, small (at + 1))

  table_judged : (k : ℕ) (t : Table) (places : List ℕ) → k < tables_in bs → Tabled k t places → Judged (λ place. Tabled (suc k) (next_table t place) (places ++ place ∷ [])) (table bs t)
  unfolding Low
  table_judged k t places lt h =
      let place_is : word bs t.at ≡ table_in bs k = ap (word bs) h.at in
      field_judged (λ place. Tabled (suc k) (next_table t place) (places ++ place ∷ [])) t.low 65535 t.at
      (λ long low high.
      let keeps = table_keeps k t.low h.low (subst (λ w. t.low ≤ w) place_is low) in
      record {
        at = omega (arith, h.at);
        low = ap (λ w. w + 1) place_is;
        long = long;
        sound = sound_on (2 + 2 * shuttles_in bs + k) t.at (t.at + 2) (omega (arith, h.at)) refl h.sound (at_table k t.at h.at keeps);
      })
      (λ long bad small. breaks t.at h.sound (TablePlace k) lt (sym h.at) long (λ is. bad (subst (λ w. t.low ≤ w) (sym place_is) (keeps_low k t.low h.low is), word_fits small t.at)))
      (λ short. cut_short (2 + 2 * shuttles_in bs + k) t.at (omega (arith, h.at)) h.sound short (omega (arith, h.at)))

  -- behind the tables all fields have kept their rules
  all_sound : SoundTo (bodies_at (shuttles_in bs) (tables_in bs)) → Sound
  all_sound sound Shuttles has = sound Shuttles has (omega arith)
  all_sound sound Tables has = sound Tables has (omega arith)
  all_sound sound (Offset s) has = sound (Offset s) has (omega arith)
  all_sound sound (Stops s) has = sound (Stops s) has (omega arith)
  all_sound sound (TablePlace k) has = sound (TablePlace k) has (omega arith)

  module _ (all : Sound) where
    -- nothing but a missing byte is wrong with a body
    ends : length bs < end_in bs → FirstFault bs (length bs)
    ends short = record { fault = inr (inl (refl, short)); within = omega arith; before = λ f has le. all f has }

    -- what is known with i stops of a body read that begins at a place
    record Walked (begin i at : ℕ) (path : List Stop) : Type 0 where
      there : at ≡ begin + 4 * i
      count : length path ≡ i
      long : at ≤ length bs

    number_judged : (Good : ℕ → Type 0) (at : ℕ) → at + 2 ≤ end_in bs → (at + 2 ≤ length bs → Good (word bs at)) → Judged Good (field 0 65535 at bs)
    number_judged Good at inside good =
        field_judged Good 0 65535 at (λ long low high. good long) (λ long bad small. absurd (bad (omega arith, word_fits small at))) (λ short. ends (omega arith))

    stop_judged :
        (begin count : ℕ) → begin + 4 * count ≤ end_in bs → (i at : ℕ) (path : List Stop) → i < count → Walked begin i at path
        → Judged (λ s. Walked begin (suc i) (next_stop at s) (path ++ s ∷ [])) (stop bs at)
    stop_judged begin count inside i at path lt w =
        let Next : Stop → Type 0 = λ s. Walked begin (suc i) (next_stop at s) (path ++ s ∷ []) in
        judge_then (λ _. at + 2 ≤ length bs) Next (field 0 65535 at bs) _ (number_judged (λ _. at + 2 ≤ length bs) at (omega (arith, w.there)) (λ long. long))
        (λ place _. judge_then (λ _. at + 4 ≤ length bs) Next (field 0 65535 (at + 2) bs) _ (number_judged (λ _. at + 4 ≤ length bs) (at + 2) (omega (arith, w.there)) (λ long. omega arith))
        (λ tick long. record { there = omega (arith, w.there); count = length_push path _ ∙ omega (arith, w.count); long = long }))

    -- what is known with i bodies read
    record Carried (i : ℕ) (b : Body) (paths : List (List Stop)) : Type 0 where
      shuttle : b.shuttle ≡ i
      at : b.at ≡ body_in bs i
      long : b.at ≤ length bs

    body_judged :
        (counts : List ℕ) → counts ≡ counts_to (shuttles_in bs) → (i : ℕ) (b : Body) (paths : List (List Stop)) → i < shuttles_in bs → Carried i b paths
        → Judged (λ path. Carried (suc i) (next_body b path) (paths ++ path ∷ [])) (body bs counts b)
    body_judged counts are i b paths lt h =
        let Next : List Stop → Type 0 = λ path. Carried (suc i) (next_body b path) (paths ++ path ∷ []) in
        let count = get_or counts b.shuttle 0 in
        let count_is : count ≡ stops_in bs i = (λ j. get_or (are j) (h.shuttle j) 0) ∙ get_or-map-range_with_len (stops_in bs) 0 (shuttles_in bs) i i 0 lt (zero-add i) in
        let inside = below_rises (suc i) (shuttles_in bs) lt in
        let rows = row_judged (stop bs) next_stop (Walked b.at) count (stop_judged b.at count (omega (arith, h.at))) count 0 b.at [] (zero-add count) (record { there = omega arith; count = refl; long = h.long }) in
        weaker (λ path. (t : ℕ) × Walked b.at count t path) Next (stops bs count b.at) rows
        (λ path w. record {
          shuttle = omega (arith, h.shuttle);
          at = omega (arith, h.at, w.1.count);
          long = omega (arith, w.1.there, w.1.count, w.1.long);
        })

  nothing_before : SoundTo 0
  nothing_before f has le = absurd (omega arith)

  shuttles_judged : Judged (λ s. (s ≡ shuttles_in bs) × SoundTo 2) (field 1 MOST_SHUTTLES 0 bs)
  shuttles_judged =
      field_judged (λ s. (s ≡ shuttles_in bs) × SoundTo 2) 1 MOST_SHUTTLES 0
      (λ long low high. (refl, sound_on 0 0 2 refl refl nothing_before (at_shuttles (low, high))))
      (λ long bad _. breaks 0 nothing_before Shuttles tt refl long bad)
      (λ short. cut_short 0 0 refl nothing_before short (omega arith))

  places_judged : SoundTo 2 → Judged (λ p. (p ≡ tables_in bs) × SoundTo 4 × (4 ≤ length bs)) (field 0 MOST_TABLES 2 bs)
  places_judged sound =
      field_judged (λ p. (p ≡ tables_in bs) × SoundTo 4 × (4 ≤ length bs)) 0 MOST_TABLES 2
      (λ long low high. (refl, sound_on 1 2 4 refl refl sound (at_tables high), long))
      (λ long bad _. breaks 2 sound Tables tt refl long (λ is. bad (omega arith, is)))
      (λ short. cut_short 1 2 refl sound short (omega arith))

  contents_judged :
      (s p : ℕ) → s ≡ shuttles_in bs → p ≡ tables_in bs → SoundTo 4 → 4 ≤ length bs
      → Judged (λ counts. (counts ≡ counts_to (shuttles_in bs)) × SoundTo (tables_at (shuttles_in bs)) × (tables_at (shuttles_in bs) ≤ length bs)) (contents bs s (bodies_at s p))
  contents_judged s p e q sound long =
      let start : Entry = record { at = 4; begin = bodies_at s p; room = MOST_STOPS_IN_ALL } in
      weaker (λ counts. (t : Entry) × Counted (shuttles_in bs) t counts) _ (contents bs s (bodies_at s p))
      (row_judged (entry bs) next_entry Counted (shuttles_in bs) entry_judged s 0 start [] (omega arith)
      (record { at = refl; begin = omega arith; room = refl; are = refl; long = long; sound = sound }))
      (λ counts r. (r.1.are, subst SoundTo r.1.at r.1.sound, subst (λ k. k ≤ length bs) r.1.at r.1.long))

  tables_judged :
      (s p : ℕ) → s ≡ shuttles_in bs → p ≡ tables_in bs → SoundTo (tables_at (shuttles_in bs)) → tables_at (shuttles_in bs) ≤ length bs
      → Judged (λ _. SoundTo (bodies_at (shuttles_in bs) (tables_in bs)) × (bodies_at (shuttles_in bs) (tables_in bs) ≤ length bs)) (tables bs p (tables_at s))
  unfolding Low
  tables_judged s p e q sound long =
      let start : Table = record { at = tables_at s; low = 0 } in
      let here : tables_at (shuttles_in bs) ≡ tables_at s = omega arith in
      weaker (λ places. (t : Table) × Tabled (tables_in bs) t places) _ (tables bs p (tables_at s))
      (row_judged (table bs) next_table Tabled (tables_in bs) table_judged p 0 start [] (omega arith)
      (record { at = omega arith; low = refl; long = omega arith; sound = subst SoundTo here sound }))
      (λ places r. (subst SoundTo r.1.at r.1.sound, subst (λ k. k ≤ length bs) r.1.at r.1.long))

  bodies_judged :
      Sound → (s p : ℕ) (counts : List ℕ) → s ≡ shuttles_in bs → p ≡ tables_in bs → counts ≡ counts_to (shuttles_in bs) → bodies_at (shuttles_in bs) (tables_in bs) ≤ length bs
      → Judged (λ _. end_in bs ≤ length bs) (bodies bs counts (bodies_at s p))
  bodies_judged all s p counts e q are long =
      let start : Body = record { at = bodies_at s p; shuttle = 0 } in
      let many : length counts ≡ shuttles_in bs = ap length are ∙ length-map-range_with_len (stops_in bs) 0 (shuttles_in bs) in
      weaker (λ paths. (b : Body) × Carried all (shuttles_in bs) b paths) _ (bodies bs counts (bodies_at s p))
      (row_judged (body bs counts) next_body (Carried all) (shuttles_in bs) (body_judged all counts are) (length counts) 0 start [] (omega arith)
      (record { shuttle = refl; at = omega arith; long = omega arith }))
      (λ paths r. subst (λ k. k ≤ length bs) r.1.at r.1.long)

  -- all fields keep their rules, and the file ends with the last body
  abbrev pub Whole : Type 0
  Whole = Sound × (length bs ≡ end_in bs)

  pub layout_judged : Judged (λ (l : Layout). Whole) (layout bs)
  layout_judged =
      let Fine : Layout → Type 0 = λ _. Whole in
      judge_then _ Fine (field 1 MOST_SHUTTLES 0 bs) _ shuttles_judged
      (λ s first.
      judge_then _ Fine (field 0 MOST_TABLES 2 bs) _ (places_judged first.1)
      (λ p second.
      judge_then _ Fine (contents bs s (bodies_at s p)) _ (contents_judged s p first.0 second.0 second.1 second.2)
      (λ counts third.
      judge_then _ Fine (tables bs p (tables_at s)) _ (tables_judged s p first.0 second.0 third.1 third.2)
      (λ places fourth.
      let all = all_sound fourth.0 in
      judge_then _ Fine (bodies bs counts (bodies_at s p)) _ (bodies_judged all s p counts first.0 second.0 third.0 fourth.1)
      (λ paths long.
      let end : bodies_at s p + 4 * sum counts ≡ end_in bs = omega (arith, first.0, second.0, ap sum third.0, sum-counts (shuttles_in bs)) in
      cond_both (leb (length bs) (bodies_at s p + 4 * sum counts)) _ _ (Judged Fine) (λ t. (all, omega (arith, leb-true _ _ t)))
      (λ t. λ small. record { fault = inr (inr (end, omega (arith, leb-false _ _ t))); within = omega (arith, leb-false _ _ t); before = λ f has le. all f has }))))))
