-- How long the parts of an order file are.
use Rattle.std.proofs.Common.{◌≡◌, ℕ, zero, suc, ◌+◌, ◌*◌, ◌<◌, ◌≤◌, min, List, [], ◌∷◌, ◌++◌, length, sym, refl, ap, ◌∙◌, ⊎_elim, add-one, arith}
use Rattle.std.specs.List.{AllByRecursion}
use Rattle.std.proofs.lemmas.List.{length-append}
use Rattle.std.proofs.lemmas.Bool.{cases_lt}
use Rattle.files.specs.Bytes.{word_bytes}
use Rattle.meetings.specs.declared.meet.First.{First}
use Rattle.meetings.specs.declared.meet.First.TheVariants.{Lower, Other}
use Rattle.meetings.specs.declared.meet.Meeting.{Meeting}
use Rattle.meetings.specs.Joined.{joined, JoinedLaw}
use Rattle.orders.specs.declared.waits.Wait.{Wait}
use Rattle.orders.specs.File.{wait_bytes, body_bytes, body_at, entry_bytes, order_bytes}
use Rattle.orders.specs.Waits.{waits, body_of}
use Rattle.orders.proofs.Bodies.{length-wait_bytes, body_own, body_other}
use Rattle.orders.proofs.Zipped.{length-waits}

-- a meeting of shuttles of the plan, the lower first
abbrev pub Ordered : ℕ → Meeting → Type 0
Ordered n m = (m.lower.shuttle < m.other.shuttle) × (m.other.shuttle < n)

-- a wait of a shuttle below n
abbrev pub Below : ℕ → Wait → Type 0
Below n w = w.second.shuttle < n

waits_below : (n : ℕ) (ms : List Meeting) (fs : List First) → AllByRecursion (Ordered n) ms → AllByRecursion (Below n) (waits ms fs)
waits_below n [] fs h = tt
waits_below n (m ∷ ms) [] h = tt
waits_below n (m ∷ ms) (Lower ∷ fs) h = (h.0.1, waits_below n ms fs h.1)
waits_below n (m ∷ ms) (Other ∷ fs) h = (omega (arith, h.0.0, h.0.1), waits_below n ms fs h.1)

module _ (joins : JoinedLaw ℕ) where
  pub length-joined-suc : (f : ℕ → List ℕ) (s : ℕ) → length (joined f (suc s)) ≡ length (joined f s) + length (f s)
  length-joined-suc f s = ap (λ k. length (joined f k)) (sym (add-one s)) ∙ ap length (joins.more f s) ∙ length-append (joined f s) (f s)

  pub length-entries : (n : ℕ) (ws : List Wait) (s : ℕ) → length (joined (entry_bytes n ws) s) ≡ 4 * s
  length-entries n ws zero = refl
  length-entries n ws (suc s) = length-joined-suc (entry_bytes n ws) s ∙ omega (arith, length-entries n ws s)

  pub body_at-more : (n : ℕ) (ws : List Wait) (s : ℕ) → body_at n ws (s + 1) ≡ body_at n ws s + 6 * length (body_of s ws)
  body_at-more n ws s = omega (arith, ap length (joins.more (body_bytes ws) s), length-append (joined (body_bytes ws) s) (body_bytes ws s), length-wait_bytes (body_of s ws))

  -- one wait more stands in the body of its shuttle
  before_it : (w : Wait) (ws : List Wait) (s : ℕ) → s ≤ w.second.shuttle → length (joined (body_bytes (w ∷ ws)) s) ≡ length (joined (body_bytes ws) s)
  before_it w ws zero le = refl
  before_it w ws (suc s) le =
      let same = ap length (body_other s w ws (λ e. omega arith)) in
      omega (arith, length-joined-suc (body_bytes (w ∷ ws)) s, length-joined-suc (body_bytes ws) s, before_it w ws s (omega arith))

  behind_it : (w : Wait) (ws : List Wait) (s : ℕ) → w.second.shuttle < s → length (joined (body_bytes (w ∷ ws)) s) ≡ 6 + length (joined (body_bytes ws) s)
  behind_it w ws zero lt = absurd (omega arith)
  behind_it w ws (suc s) lt =
      let long = length-joined-suc (body_bytes (w ∷ ws)) s in
      let rest = length-joined-suc (body_bytes ws) s in
      ⊎_elim (λ (less : w.second.shuttle < s). let same = ap length (body_other s w ws (λ e. omega arith)) in omega (arith, behind_it w ws s less))
      (λ (ge : s ≤ w.second.shuttle). let own = ap length (body_own s w ws (omega arith)) in omega (arith, before_it w ws s ge, length-append (wait_bytes w) (body_bytes ws s)))
      (cases_lt w.second.shuttle s)

  length-bodies : (n : ℕ) (ws : List Wait) → AllByRecursion (Below n) ws → length (joined (body_bytes ws) n) ≡ 6 * length ws
  length-bodies n [] h = none n
    where
      none : (s : ℕ) → length (joined (body_bytes []) s) ≡ 0
      none zero = refl
      none (suc s) = length-joined-suc (body_bytes []) s ∙ omega (arith, none s)
  length-bodies n (w ∷ ws) h = omega (arith, behind_it w ws n h.0, length-bodies n ws h.1)

  pub length-order_bytes : (n : ℕ) (ws : List Wait) → length (order_bytes n ws) ≡ body_at n ws n
  length-order_bytes n ws = length-append (word_bytes n ++ joined (entry_bytes n ws) n) (joined (body_bytes ws) n) ∙ omega (arith, length-append (word_bytes n) (joined (entry_bytes n ws) n), length-entries n ws n)

  -- a wait for each meeting that has a first
  pub length-orders : (n : ℕ) (ms : List Meeting) (fs : List First) → AllByRecursion (Ordered n) ms → length (order_bytes n (waits ms fs)) ≡ 2 + 4 * n + 6 * min (length ms) (length fs)
  length-orders n ms fs h = length-order_bytes n (waits ms fs) ∙ omega (arith, length-bodies n (waits ms fs) (waits_below n ms fs h), length-waits ms fs)
