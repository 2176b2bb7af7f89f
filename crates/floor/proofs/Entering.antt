-- A stop gets its entry tick.
use Rattle.std.proofs.Common.{◌≡◌, ℕ, zero, suc, ◌+◌, ◌-◌, ◌*◌, ◌<◌, ◌≤◌, max, ◌⊎◌, cond, eqb, ltb, leb, List, [], ◌∷◌, map, length, sum_by, bit_or, refl, sym, ap, ap₂, ◌∙◌, subst, subst₂, inl, inr, arith}
use Rattle.std.specs.Int.{bit_at}
use Rattle.std.specs.List.{ContainsAt, range_with_len}
use Rattle.std.proofs.ByRecursion.{All-weaker}
use Rattle.std.proofs.lemmas.Bool.{cases_eq, cases_lt, cond-true, cond-false, ne_eqb, lt-ltb, le-ltb, lt-leb}
use Rattle.std.proofs.lemmas.List.{get_or-set_same, get_or-set_other, length-set}
use Rattle.std.proofs.lemmas.List.Sums.{sum_by-cons}
use Rattle.std.proofs.lemmas.Nat.Bits.{bit_at-lt, bit_at_or}
use Rattle.meetings.specs.declared.stays.At.{At}
use Rattle.meetings.specs.Laws.{StopOf}
use Rattle.traffic.specs.Scene.{Scene, at, Numbers, number, greatest, own, rule}
use Rattle.traffic.specs.Sweep.{Ready, Advances, SweepsAdvance, SweepsBound}
use Rattle.floor.specs.declared.floor.calls.TheConstants.{LONGEST_HOLD}
use Rattle.floor.specs.declared.scene.Scene.{Scene as Under}
use Rattle.floor.specs.declared.worklist.Progress.{Progress}
use Rattle.floor.specs.declared.worklist.Worklist.{Worklist}
use Rattle.floor.specs.Latest.{IsLatest}
use Rattle.floor.specs.Positions.{IsSound}
use Rattle.floor.specs.Under.{paths_under, scene_under, shuttles_under}
use Rattle.floor.specs.Worklists.{Cared, ComesAfter, Going, Held, Looked, LookedFor, Noted, Shaped, count_in, entry_of, known_in, next_in, own_in, progress_of, ticks_in, with_tick, work}
use Rattle.floor.proofs.Entries.{entry_here, entry_other, many_still, wide_still}
use Rattle.floor.proofs.Floors.{few, long, short}

-- a number more at one of the first n
pub sum_more : (f g : ℕ → ℕ) (k n s : ℕ) → k ≤ s → s < k + n → g s ≡ f s + 1 → ((r : ℕ) → (r ≡ s → ⊥) → g r ≡ f r) → sum_by g (range_with_len k n) ≡ sum_by f (range_with_len k n) + 1
sum_more f g k zero s le lt here there = absurd (omega (arith, le, lt))
sum_more f g k (suc n) s le lt here there =
    let fs = sum_by-cons f k (range_with_len (k + 1) n) in
    let gs = sum_by-cons g k (range_with_len (k + 1) n) in
    elim (cases_eq k s) [
      | inl e ↦ omega (arith, fs, gs, subst (λ x. g x ≡ f x + 1) (sym e) here, sum_same f g (k + 1) n (λ r far. there r (λ q. omega (arith, q, far, e))))
      | inr ne ↦ omega (arith, fs, gs, there k ne, sum_more f g (k + 1) n s (omega (arith, le, ne)) (omega (arith, lt)) here there)
    ]
  where
    sum_same : (f g : ℕ → ℕ) (k n : ℕ) → ((r : ℕ) → k ≤ r → g r ≡ f r) → sum_by g (range_with_len k n) ≡ sum_by f (range_with_len k n)
    sum_same f g k zero h = refl
    sum_same f g k (suc n) h = omega (arith, sum_by-cons f k (range_with_len (k + 1) n), sum_by-cons g k (range_with_len (k + 1) n), h k (omega arith), sum_same f g (k + 1) n (λ r le. h r (omega (arith, le))))

-- and no more than so much each
pub sum_most : (f : ℕ → ℕ) (most k n : ℕ) → ((r : ℕ) → k ≤ r → r < k + n → f r ≤ most) → sum_by f (range_with_len k n) ≤ most * n
sum_most f most k zero h = omega arith
sum_most f most k (suc n) h =
    let rest = sum_most f most (k + 1) n (λ r le lt. h r (omega (arith, le)) (omega (arith, lt))) in
    let more : most * suc n ≡ most * n + most = omega arith in
    omega (arith, sum_by-cons f k (range_with_len (k + 1) n), h k (omega arith) (omega arith), rest, more)

-- what is known stays
module _ (known known' : ℕ → ℕ) (e e' : Numbers) (onward : (r : ℕ) → known r ≤ known' r) (kept : (r j : ℕ) → j < known r → e' r j ≡ e r j) where
  greatest_kept : (l : List At) → Ready known l → greatest (map (number e') l) ≡ greatest (map (number e) l)
  greatest_kept [] w = refl
  greatest_kept (a ∷ l) w = ap₂ max (kept a.shuttle a.stop w.0) (greatest_kept l w.1)

  pub latest_kept : (l : List At) (n b b' : ℕ) → b' ≡ b → IsLatest n b known e l → IsLatest n b' known' e' l
  latest_kept l n b b' same h = record {
    all = All-weaker _ _ (λ b lt. omega (arith, lt, onward b.shuttle)) l h.all;
    is = omega (arith, same, h.is, greatest_kept l h.all);
  }

-- a bit that is set stays set
pub set_still : (v w r : ℕ) → bit_at v r ≡ 1 → bit_at (bit_or v w) r ≡ 1
set_still v w r h = omega (arith, bit_at_or v w r, bit_at-lt w r, h)

pub set_too : (v w r : ℕ) → bit_at w r ≡ 1 → bit_at (bit_or v w) r ≡ 1
set_too v w r h = omega (arith, bit_at_or v w r, bit_at-lt v r, h)

-- as far as a shuttle is known
pub known_there : (u : Under) (w : Worklist) (s : ℕ) → s < shuttles_under u → known_in u w s ≡ suc (progress_of w s).stop
known_there u w s lt = cond-true _ _ _ (lt-ltb s (shuttles_under u) lt)

pub known_past : (u : Under) (w : Worklist) (s : ℕ) → shuttles_under u ≤ s → known_in u w s ≡ 1
known_past u w s le = cond-false _ _ _ (le-ltb s (shuttles_under u) le)

module _ (u : Under) (sound : IsSound u.floor.now) (w : Worklist) (g : Going u w) where
  -- no path is known beyond its end
  pub known_most : (s : ℕ) → s < shuttles_under u → known_in u w s ≤ 64
  known_most s lt = omega (arith, g.sofar.within s, long u.floor.now sound s lt)

  pub count_most : count_in u w ≤ 2048
  count_most = omega (arith, sum_most (known_in u w) 64 0 (shuttles_under u) (λ r _ lt. known_most r (omega (arith, lt))), few u.floor.now sound)

  -- a stop that comes after what is known
  module _ (a : At) (stop : StopOf (paths_under u) a) (next : a.stop ≡ known_in u w a.shuttle) (latest v : ℕ) (after : ComesAfter u w a latest) (is : v ≡ latest + 1) where
    abbrev c : Scene
    c = scene_under u

    abbrev s : ℕ
    s = a.shuttle

    abbrev i : ℕ
    i = (progress_of w s).stop

    abbrev pub w' : Worklist
    w' = with_tick w a v

    here : a.stop ≡ suc i
    here = next ∙ known_there u w s stop.0

    low : s < 32
    low = omega (arith, stop.0, few u.floor.now sound)

    wide : a.stop < 64
    wide = omega (arith, stop.1, long u.floor.now sound s stop.0)

    rows : s < length w.entries
    rows = omega (arith, low, g.shaped.rows)

    unentered : c.entered s < a.stop
    unentered = omega (arith, next, g.sofar.begun s)

    progress_here : progress_of w' s ≡ record { stop = a.stop; seen = (progress_of w s).seen; latest = (progress_of w s).latest }
    progress_here = get_or-set_same w.progress s _ _ (omega (arith, low, g.shaped.progress))

    progress_other : (r : ℕ) → (r ≡ s → ⊥) → progress_of w' r ≡ progress_of w r
    progress_other r ne = get_or-set_other w.progress s r _ _ ne

    pub known_here : known_in u w' s ≡ suc a.stop
    known_here = known_there u w' s stop.0 ∙ ap (λ (p : Progress). suc p.stop) progress_here

    pub known_other : (r : ℕ) → (r ≡ s → ⊥) → known_in u w' r ≡ known_in u w r
    known_other r ne = ap (λ (p : Progress). cond (ltb r (shuttles_under u)) (suc p.stop) 1) (progress_other r ne)

    onward : (r : ℕ) → known_in u w r ≤ known_in u w' r
    onward r = elim (cases_eq r s) [
      | inl e ↦ subst (λ x. known_in u w x ≤ known_in u w' x) (sym e) (omega (arith, known_here, next))
      | inr ne ↦ omega (arith, known_other r ne)
    ]

    -- what is kept for any other stop is as it was
    entry_still : (b : At) → (b.shuttle ≡ s → b.stop ≡ a.stop → ⊥) → entry_of w' b ≡ entry_of w b
    entry_still b ne = entry_other w.entries a (record { tick = v; waiting = 0 }) rows g.shaped.wide wide b ne

    kept : (r j : ℕ) → j < known_in u w r → ticks_in u w' r j ≡ ticks_in u w r j
    kept r j lt = ap (λ x. cond (leb j (c.entered r)) 0 x.tick) (entry_still (at r j) (λ e q. omega (arith, q, next, subst (λ x. j < known_in u w x) e lt)))

    made : ticks_in u w' s a.stop ≡ v
    made = cond-false _ _ _ (lt-leb a.stop (c.entered s) unentered) ∙ ap (λ x. x.tick) (entry_here w.entries a (record { tick = v; waiting = 0 }) rows g.shaped.wide wide)

    at_next : at s (suc i) ≡ a
    at_next = ap (at s) (sym here)

    by_rule : v ≡ rule c (ticks_in u w) s i
    by_rule =
        let back : a.stop - 1 ≡ i = omega (arith, here) in
        let mine : own_in u w a ≡ own c (ticks_in u w) s i = ap (own c (ticks_in u w) s) back in
        let theirs : greatest (map (number (ticks_in u w)) (c.waits a)) ≡ greatest (map (number (ticks_in u w)) (c.waits (at s (suc i)))) = ap (λ b. greatest (map (number (ticks_in u w)) (c.waits b))) (sym at_next) in
        omega (arith, is, after.is, mine, theirs)

    advances : Advances c s i (known_in u w) (known_in u w') (ticks_in u w) (ticks_in u w')
    advances = record {
      here = omega (arith, next, here);
      short = omega (arith, stop.1, here);
      ready = subst (λ b. Ready (known_in u w) (c.waits b)) (sym at_next) after.all;
      next = omega (arith, known_here, here);
      rest = known_other;
      keeps = kept;
      made = ap (ticks_in u w' s) (sym here) ∙ made ∙ by_rule;
    }

    grown : count_in u w' ≡ count_in u w + 1
    grown = sum_more (known_in u w) (known_in u w') 0 (shuttles_under u) s (omega arith) (omega (arith, stop.0)) (omega (arith, known_here, next)) known_other

    shaped' : Shaped w'
    shaped' = record {
      rows = many_still w.entries a (record { tick = v; waiting = 0 }) ∙ g.shaped.rows;
      wide = wide_still w.entries a (record { tick = v; waiting = 0 }) rows g.shaped.wide wide;
      progress = length-set w.progress s _ ∙ g.shaped.progress;
    }

    module _ (bound : SweepsBound) where
      fits : v ≤ suc LONGEST_HOLD * count_in u w + suc LONGEST_HOLD
      fits =
          let b = bound c (known_in u w) (ticks_in u w) s i (suc LONGEST_HOLD * count_in u w) LONGEST_HOLD (short u.floor.now sound s stop.0) g.small (omega (arith, here, next)) (advances.ready) in
          omega (arith, by_rule, b)

      -- and not too great for its type
      pub tick_fits : v ≤ 8392704
      tick_fits = omega (arith, fits, count_most)

      small' : (r j : ℕ) → j < known_in u w' r → ticks_in u w' r j ≤ suc LONGEST_HOLD * count_in u w'
      small' r j lt = elim (cases_lt j (known_in u w r)) [
        | inl l ↦ omega (arith, kept r j l, g.small r j l, grown)
        | inr le ↦ elim (cases_eq r s) [
          | inl e ↦
              let last : j ≡ a.stop = omega (arith, subst (λ x. j < known_in u w' x) e lt, known_here, subst (λ x. known_in u w x ≤ j) e le, next) in
              subst₂ (λ x y. ticks_in u w' x y ≤ suc LONGEST_HOLD * count_in u w') (sym e) (sym last) (omega (arith, made, fits, grown))
          | inr ne ↦ omega (arith, lt, le, known_other r ne)
        ]
      ]

      pub going_enter : SweepsAdvance → Going u w'
      going_enter advance = record {
        shaped = shaped';
        sofar = advance c s i (known_in u w) (known_in u w') (ticks_in u w) (ticks_in u w') g.sofar advances;
        past = λ r j lt le. ap (λ x. x.tick) (entry_still (at r j) (λ e q. omega (arith, q, unentered, subst (λ x. j ≤ c.entered x) e le))) ∙ g.past r j lt le;
        small = small';
      }

    -- the next stop begins with this one's tick
    pub looked_enter : Looked u w' (next_in u w' s) 0 v
    looked_enter =
        let back : known_in u w' s - 1 ≡ a.stop = omega (arith, known_here) in
        let off : cond (eqb a.stop (c.entered s)) (c.hold s) 0 ≡ 0 = cond-false _ _ _ (ne_eqb a.stop (c.entered s) (λ e. omega (arith, e, unentered))) in
        let mine : own_in u w' (next_in u w' s) ≡ v = ap (own c (ticks_in u w') s) back ∙ (omega (arith, made, off)) in
        record { all = tt; is = omega (arith, mine) }

    own_still : (r : ℕ) → own_in u w' (next_in u w r) ≡ own_in u w (next_in u w r)
    own_still r =
        let j = known_in u w r - 1 in
        ap (λ n. n + cond (eqb j (c.entered r)) (c.hold r) 0) (kept r j (omega (arith, g.sofar.begun r)))

    looked_still : (r : ℕ) → (r ≡ s → ⊥) → LookedFor u w r → LookedFor u w' r
    looked_still r ne l =
        subst₂ (λ n (p : Progress). Looked u w' (at r n) p.seen p.latest) (sym (known_other r ne)) (sym (progress_other r ne))
        (latest_kept (known_in u w) (known_in u w') (ticks_in u w) (ticks_in u w') onward kept _ (progress_of w r).latest (own_in u w (next_in u w r)) (own_in u w' (next_in u w r)) (own_still r) l)

    held_still : (r : ℕ) → (r ≡ s → ⊥) → (b : At) → Held u w (next_in u w r) b → (b.shuttle ≡ s → b.stop ≡ a.stop → ⊥) → Held u w' (next_in u w' r) b
    held_still r ne b h far = record {
      shuttle = h.shuttle;
      unknown = elim (cases_eq b.shuttle s) [
        | inl e ↦ (let q : b.stop ≡ a.stop → ⊥ = far e in let k : known_in u w s ≤ b.stop = subst (λ x. known_in u w x ≤ b.stop) e h.unknown in subst (λ x. known_in u w' x ≤ b.stop) (sym e) (omega (arith, known_here, next, k, q)))
        | inr n ↦ omega (arith, known_other b.shuttle n, h.unknown)
      ];
      waits = subst (λ n. ContainsAt (c.waits (at r n)) b) (sym (known_other r ne)) h.waits;
    }

    noted_still : (r : ℕ) → (r ≡ s → ⊥) → (n : Noted u w r) → (n.by.shuttle ≡ s → n.by.stop ≡ a.stop → ⊥) → Noted u w' r
    noted_still r ne n far = record { by = n.by; held = held_still r ne n.by n.held far; bit = λ lt. ap (λ x. bit_at x.waiting r) (entry_still n.by far) ∙ n.bit lt }

    ready_or_noted : (r : ℕ) → (r ≡ s → ⊥) → (bit_at w.ready r ≡ 1) ⊎ Noted u w r → (bit_at w'.ready r ≡ 1) ⊎ Noted u w' r
    ready_or_noted r ne (inl b) = inl (set_still w.ready (entry_of w a).waiting r b)
    ready_or_noted r ne (inr n) = elim (cases_eq n.by.shuttle s) [
      | inl e ↦ elim (cases_eq n.by.stop a.stop) [
        | inl p ↦ inl (set_too w.ready (entry_of w a).waiting r (subst₂ (λ x y. bit_at (entry_of w (at x y)).waiting r ≡ 1) e p (n.bit (omega (arith, p, wide)))))
        | inr q ↦ inr (noted_still r ne n (λ _ p. q p))
      ]
      | inr q ↦ inr (noted_still r ne n (λ e _. q e))
    ]

    pub cared_enter : (r : ℕ) → (r ≡ s → ⊥) → Cared u w r → Cared u w' r
    cared_enter r ne (inl h) = inl (omega (arith, h, known_other r ne))
    cared_enter r ne (inr l) = inr (looked_still r ne l.0, ready_or_noted r ne l.1)

    pub less_enter : count_in u w' ≤ 2048 → work u w' < work u w
    less_enter most = omega (arith, grown, most)
