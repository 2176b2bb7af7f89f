-- What a genuine order file shows of the orders that it was written of.
use Rattle.std.proofs.Common.{◌≡◌, ℕ, zero, suc, ◌+◌, ◌-◌, ◌*◌, ◌/◌, ◌%◌, ◌<◌, ◌≤◌, Bool, true, false, cond, List, [], ◌∷◌, ◌++◌, length, get_or, filter, sym, refl, ap, ◌∙◌, subst, ⊎_elim, arith}
use Rattle.std.specs.List.{flat_map, ContainsAt, AllByRecursion}
use Rattle.std.proofs.ByRecursion.{All-get_or, all_kept_by, all_has_itself, kept_by_passes, has_get_or}
use Rattle.std.proofs.lemmas.List.{length-append, get_or_append_left, get_or-append_right}
use Rattle.std.proofs.lemmas.Bool.{cond-true, eq-eqb, eqb-true, cases_lt}
use Rattle.files.specs.Bytes.{word_bytes}
use Rattle.files.specs.Layout.{word}
use Rattle.meetings.specs.declared.meet.First.{First}
use Rattle.meetings.specs.declared.meet.First.TheVariants.{Lower, Other}
use Rattle.meetings.specs.declared.meet.Meeting.{Meeting}
use Rattle.meetings.specs.Joined.{joined, JoinedLaw}
use Rattle.orders.specs.declared.waits.Wait.{Wait}
use Rattle.orders.specs.File.{wait_bytes, body_bytes, body_at, entry_bytes, order_bytes}
use Rattle.orders.specs.Reading.{EntryIs, LowerWaits, Guessed}
use Rattle.orders.specs.Waits.{wait_under, waits, nth_wait, is_second, body_of}
use Rattle.orders.proofs.Bodies.{length-wait_bytes}
use Rattle.orders.proofs.Lengths.{Ordered, length-entries}
use Rattle.orders.proofs.Zipped.{no_meeting, no_wait, length-waits, waits-at}

-- two bytes make a number
word_from : (bs : List ℕ) (at x : ℕ) → get_or bs at 0 ≡ x / 256 → get_or bs (at + 1) 0 ≡ x % 256 → word bs at ≡ x
word_from bs at x h l = omega arith

six_at : (xs : List Wait) (e i : ℕ) → e < length xs → i < 6 → get_or (flat_map wait_bytes xs) (6 * e + i) 0 ≡ get_or (wait_bytes (nth_wait xs e)) i 0
six_at [] e i lt small = absurd (omega arith)
six_at (x ∷ xs) zero i lt small =
    let k : 6 * 0 + i ≡ i = omega arith in
    ap (λ j. get_or (flat_map wait_bytes (x ∷ xs)) j 0) k ∙ get_or_append_left (wait_bytes x) (flat_map wait_bytes xs) 0 i small
six_at (x ∷ xs) (suc e) i lt small =
    let k : 6 * suc e + i - 6 ≡ 6 * e + i = omega arith in
    get_or-append_right (wait_bytes x) (flat_map wait_bytes xs) 6 (6 * suc e + i) 0 refl (omega arith) ∙ ap (λ j. get_or (flat_map wait_bytes xs) j 0) k ∙ six_at xs e i (omega arith) small

module _ (joins : JoinedLaw ℕ) (n : ℕ) (ws : List Wait) (bs : List ℕ) (is : bs ≡ order_bytes n ws) where
  length_front : length (word_bytes n ++ joined (entry_bytes n ws) n) ≡ 2 + 4 * n
  length_front = length-append (word_bytes n) (joined (entry_bytes n ws) n) ∙ omega (arith, length-entries joins n ws n)

  contents_byte : (s i k : ℕ) → s < n → i < 4 → k ≡ 2 + 4 * s + i → get_or bs k 0 ≡ get_or (entry_bytes n ws s) i 0
  contents_byte s i k lt small at =
      let long = length-entries joins n ws s in
      let j : k - 2 ≡ length (joined (entry_bytes n ws) s) + i = omega arith in
      ap (λ l. get_or l k 0) is
      ∙ get_or_append_left (word_bytes n ++ joined (entry_bytes n ws) n) (joined (body_bytes ws) n) 0 k (omega (arith, length_front))
      ∙ get_or-append_right (word_bytes n) (joined (entry_bytes n ws) n) 2 k 0 refl (omega arith)
      ∙ ap (λ m. get_or (joined (entry_bytes n ws) n) m 0) j
      ∙ joins.at (entry_bytes n ws) n s i 0 lt small

  pub offset_is : (s : ℕ) → s < n → word bs (2 + 4 * s) ≡ body_at n ws s
  offset_is s lt = word_from bs (2 + 4 * s) (body_at n ws s) (contents_byte s 0 _ lt (omega arith) (omega arith)) (contents_byte s 1 _ lt (omega arith) refl)

  pub count_is : (s : ℕ) → s < n → word bs (4 + 4 * s) ≡ length (body_of s ws)
  count_is s lt = word_from bs (4 + 4 * s) (length (body_of s ws)) (contents_byte s 2 _ lt (omega arith) (omega arith)) (contents_byte s 3 _ lt (omega arith) (omega arith))

  body_byte : (s e i k : ℕ) → s < n → e < length (body_of s ws) → i < 6 → k ≡ body_at n ws s + 6 * e + i → get_or bs k 0 ≡ get_or (wait_bytes (nth_wait (body_of s ws) e)) i 0
  body_byte s e i k lt in_body small at =
      let j : k - (2 + 4 * n) ≡ length (joined (body_bytes ws) s) + (6 * e + i) = omega arith in
      ap (λ l. get_or l k 0) is
      ∙ get_or-append_right (word_bytes n ++ joined (entry_bytes n ws) n) (joined (body_bytes ws) n) (2 + 4 * n) k 0 length_front (omega arith)
      ∙ ap (λ m. get_or (joined (body_bytes ws) n) m 0) j
      ∙ joins.at (body_bytes ws) n s (6 * e + i) 0 lt (omega (arith, length-wait_bytes (body_of s ws)))
      ∙ six_at (body_of s ws) e i in_body small

  -- the entry of a wait has its three numbers
  pub entry_there : (s e : ℕ) → s < n → e < length (body_of s ws) → EntryIs bs (body_at n ws s + 6 * e) (nth_wait (body_of s ws) e)
  entry_there s e lt in_body =
      let x = nth_wait (body_of s ws) e in
      let at = body_at n ws s + 6 * e in (
        word_from bs at x.second.stop (body_byte s e 0 _ lt in_body (omega arith) (omega arith)) (body_byte s e 1 _ lt in_body (omega arith) refl),
        word_from bs (at + 2) x.awaited.shuttle (body_byte s e 2 _ lt in_body (omega arith) refl) (body_byte s e 3 _ lt in_body (omega arith) (omega arith)),
        word_from bs (at + 4) x.awaited.stop (body_byte s e 4 _ lt in_body (omega arith) refl) (body_byte s e 5 _ lt in_body (omega arith) (omega arith)),
      )

-- what passes stays
has_kept : {X : Type 0} (p : X → Bool) (xs : List X) (x : X) (k : ℕ) → k < length xs → ((d : X) → get_or xs k d ≡ x) → p x ≡ true → ContainsAt (filter p xs) x
has_kept p [] x k lt at e = absurd (omega arith)
has_kept {X} p (y ∷ ys) x zero lt at e =
    let same : y ≡ x = at y in
    subst (λ (l : List X). ContainsAt l x) (sym (cond-true (p y) (y ∷ filter p ys) (filter p ys) (ap p same ∙ e))) (0, omega arith, λ d. same)
has_kept p (y ∷ ys) x (suc k) lt at e = go (p y) (has_kept p ys x k (omega arith) (λ d. at d) e)
  where
    go : (b : Bool) → ContainsAt (filter p ys) x → ContainsAt (cond b (y ∷ filter p ys) (filter p ys)) x
    go true r = (suc r.0, omega (arith, r.1), λ d. r.2 d)
    go false r = r

abbrev pub meeting_at : List Meeting → ℕ → Meeting
meeting_at ms k = get_or ms k no_meeting

-- no two meetings have the same stops
abbrev pub Apart : List Meeting → Type 0
Apart ms = (k l : ℕ) → k < l → l < length ms → (meeting_at ms k).lower ≡ (meeting_at ms l).lower → (meeting_at ms k).other ≡ (meeting_at ms l).other → ⊥

module _ (joins : JoinedLaw ℕ) (n : ℕ) (ms : List Meeting) (fs : List First) (bs : List ℕ) (is : bs ≡ order_bytes n (waits ms fs)) (len : length fs ≡ length ms) (within : AllByRecursion (Ordered n) ms) (apart : Apart ms) where
  same_index : (k l : ℕ) → k < length ms → l < length ms → (meeting_at ms k).lower ≡ (meeting_at ms l).lower → (meeting_at ms k).other ≡ (meeting_at ms l).other → k ≡ l
  same_index k l kl ll p q =
      ⊎_elim (λ (less : k < l). absurd (apart k l less ll p q))
      (λ (ge : l ≤ k). ⊎_elim (λ (less : l < k). absurd (apart l k less kl (sym p) (sym q))) (λ (le : k ≤ l). omega arith) (cases_lt l k))
      (cases_lt k l)

  ordered : (k : ℕ) → k < length ms → Ordered n (meeting_at ms k)
  ordered k lt = All-get_or (Ordered n) ms k no_meeting lt within

  wait_is : (k : ℕ) → k < length ms → nth_wait (waits ms fs) k ≡ wait_under (meeting_at ms k) (get_or fs k Lower)
  wait_is k lt = waits-at ms fs k lt (omega arith)

  waits_lower : (k : ℕ) → k < length ms → get_or fs k Lower ≡ Other → LowerWaits bs (meeting_at ms k)
  waits_lower k lt other =
      let ws = waits ms fs in
      let m = meeting_at ms k in
      let s = m.lower.shuttle in
      let w = wait_under m Other in
      let sn : s < n = omega (arith, ordered k lt) in
      let here : nth_wait ws k ≡ w = wait_is k lt ∙ ap (wait_under m) other in
      let kw : k < length ws = omega (arith, length-waits ms fs) in
      let has = has_get_or ws k no_wait kw in
      let e = has_kept (is_second s) ws w has.0 has.1 (λ d. has.2 d ∙ here) (eq-eqb s s refl) in
      let there = subst (EntryIs bs (body_at n ws s + 6 * e.0)) (e.2 no_wait) (entry_there joins n ws bs is s e.0 sn e.1) in
      (e.0, omega (arith, count_is joins n ws bs is s sn, e.1), subst (λ at. EntryIs bs (at + 6 * e.0) w) (sym (offset_is joins n ws bs is s sn)) there)

  other_first : (k l : ℕ) → k < length ms → l < length ms → (g : First) → get_or fs l Lower ≡ g → wait_under (meeting_at ms l) g ≡ wait_under (meeting_at ms k) Other → get_or fs k Lower ≡ Other
  other_first k l kl ll Lower gl e =
      let a = ap (λ (w : Wait). w.second.shuttle) e in
      let b = ap (λ (w : Wait). w.awaited.shuttle) e in
      absurd (omega (arith, ordered k kl, ordered l ll))
  other_first k l kl ll Other gl e =
      let p = ap (λ (w : Wait). w.second) e in
      let q = ap (λ (w : Wait). w.awaited.shuttle) e in
      let t : (meeting_at ms l).other.stop ≡ (meeting_at ms k).other.stop = omega (arith, ap (λ (w : Wait). w.awaited.stop) e) in
      let same = same_index l k ll kl p (λ i. record { shuttle = q i; stop = t i }) in
      ap (λ j. get_or fs j Lower) (sym same) ∙ gl

  lower_waits : (k : ℕ) → k < length ms → LowerWaits bs (meeting_at ms k) → get_or fs k Lower ≡ Other
  lower_waits k lt (e, el, there) =
      let ws = waits ms fs in
      let m = meeting_at ms k in
      let s = m.lower.shuttle in
      let sn : s < n = omega (arith, ordered k lt) in
      let body = body_of s ws in
      let eb : e < length body = omega (arith, count_is joins n ws bs is s sn) in
      let given = subst (λ at. EntryIs bs (at + 6 * e) (wait_under m Other)) (offset_is joins n ws bs is s sn) there in
      let x = nth_wait body e in
      let mine = entry_there joins n ws bs is s e sn eb in
      let shuttle : x.second.shuttle ≡ s = eqb-true _ _ (All-get_or (λ y. is_second s y ≡ true) body e no_wait eb (kept_by_passes (is_second s) ws)) in
      let same : x ≡ wait_under m Other = (λ i. record { second = record { shuttle = shuttle i; stop = (sym mine.0 ∙ given.0) i }; awaited = record { shuttle = (sym mine.1 ∙ given.1) i; stop = (sym mine.2 ∙ given.2) i } }) in
      let has = All-get_or (ContainsAt ws) body e no_wait eb (all_kept_by (is_second s) (ContainsAt ws) ws (all_has_itself ws)) in
      let ll : has.0 < length ms = omega (arith, length-waits ms fs, has.1) in
      other_first k has.0 lt ll (get_or fs has.0 Lower) refl (sym (wait_is has.0 ll) ∙ has.2 no_wait ∙ same)

  -- the guess at each meeting is right
  pub guess_right : (k : ℕ) (r : First) → k < length ms → Guessed bs (meeting_at ms k) r → r ≡ get_or fs k Lower
  guess_right k Other lt g = sym (lower_waits k lt g)
  guess_right k Lower lt g = go (get_or fs k Lower) refl
    where
      go : (f : First) → get_or fs k Lower ≡ f → Lower ≡ get_or fs k Lower
      go Lower e = sym e
      go Other e = absurd (g (waits_lower k lt e))
