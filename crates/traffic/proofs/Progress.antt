-- Progress of one step.
use Rattle.std.proofs.Common.{◌≡◌, ℕ, zero, suc, ◌+◌, ◌-◌, ◌<◌, ◌≤◌, Bool, true, false, cond, List, [], ◌∷◌, map, sum_by, sym, refl, ap, ◌∙◌, subst, ⊎_elim, add-one, arith}
use Rattle.std.specs.List.{range_with_len, ContainsAt, AllByRecursion}
use Rattle.std.proofs.ByRecursion.{all-has}
use Rattle.std.proofs.lemmas.List.Sums.{sum_by_push}
use Rattle.std.proofs.lemmas.Bool.{and_cases, leb-false, cases_Bool, cases_lt, both_ways}
use Rattle.meetings.specs.declared.stays.At.{At}
use Rattle.traffic.proofs.Lists.{counting_more}
use Rattle.traffic.specs.Safety.{TicksNeverRaise, TicksMakeFall}
use Rattle.traffic.specs.Scene.{Scene, at, every, done, moves, tick, nobody, Numbers, number, greatest, rule, EntryTicks, OnPaths}
use Rattle.traffic.proofs.Ranking.{every_done, moved, moves_from, below_greatest}

sum_more : (f : ℕ → ℕ) (n : ℕ) → sum_by f (range_with_len 0 (suc n)) ≡ sum_by f (range_with_len 0 n) + f n
sum_more f n = ap (λ k. sum_by f (range_with_len 0 k)) (sym (add-one n)) ∙ ap (sum_by f) (counting_more n) ∙ sum_by_push f (range_with_len 0 n) n

sum_le : (f g : ℕ → ℕ) → ((s : ℕ) → f s ≤ g s) → (n : ℕ) → sum_by f (range_with_len 0 n) ≤ sum_by g (range_with_len 0 n)
sum_le f g h zero = omega arith
sum_le f g h (suc n) = omega (arith, sum_le f g h n, h n, sum_more f n, sum_more g n)

sum_lt : (f g : ℕ → ℕ) → ((s : ℕ) → f s ≤ g s) → (n s : ℕ) → s < n → f s < g s → sum_by f (range_with_len 0 n) < sum_by g (range_with_len 0 n)
sum_lt f g h zero s lt less = absurd (omega arith)
sum_lt f g h (suc n) s lt less =
    ⊎_elim
    (λ (in-front : s < n). omega (arith, sum_lt f g h n s in-front less, h n, sum_more f n, sum_more g n))
    (λ (ge : n ≤ s). let e : s ≡ n = omega arith in omega (arith, sum_le f g h n, subst (λ k. f k < g k) e less, sum_more f n, sum_more g n))
    (cases_lt s n)

-- what one shuttle has left
abbrev share : Scene → ℕ → ℕ
share c s = (c.last s - c.entered s) + c.hold s

share_le : (c : Scene) (stands : ℕ → Bool) (s : ℕ) → share (tick c stands) s ≤ share c s
share_le c stands s = omega arith

pub ticks_never_raise : TicksNeverRaise
ticks_never_raise c stands n = sum_le (share (tick c stands)) (share c) (share_le c stands) n

-- a test of all that fails fails at one
not_every : {X : Type 0} (p : X → Bool) (l : List X) → every p l ≡ false → (x : X) × ContainsAt l x × (p x ≡ false)
not_every p [] e = absurd (both_ways true e refl)
not_every p (x ∷ l) e =
    ⊎_elim
    (λ (here : p x ≡ false). (x, (0, omega arith, λ d. refl), here))
    (λ (there : every p l ≡ false). let r = not_every p l there in (r.0, (suc r.1.0, omega (arith, r.1.1), λ d. r.1.2 d), r.2))
    (and_cases (p x) (every p l) e)

module _ (c : Scene) (n : ℕ) (on : OnPaths c) (e : Numbers) (ee : EntryTicks c e) (few : (a : At) → AllByRecursion (λ b. b.shuttle < n) (c.waits a)) where
  held_falls : (s : ℕ) → 0 < c.hold s → share (tick c nobody) s < share c s
  held_falls s h = omega arith

  moved_falls : (s : ℕ) → moves c nobody s ≡ true → share (tick c nobody) s < share c s
  moved_falls s m =
      let p = moved c nobody s m in
      let gone : (tick c nobody).entered s ≡ c.entered s + 1 = ap (λ b. c.entered s + cond b 1 0) m in
      omega (arith, p.short, p.hold)

  -- entry ticks do not fall along a path
  along : (s i k : ℕ) → c.entered s ≤ i → i + k ≤ c.last s → e s i ≤ e s (i + k)
  along s i zero p w = let z : i + zero ≡ i = omega arith in omega (arith, ap (e s) z)
  along s i (suc k) p w =
      let r : e s (suc (i + k)) ≡ rule c e s (i + k) = ee.ahead s (i + k) (omega arith) (omega arith) in
      let z : i + suc k ≡ suc (i + k) = omega arith in
      omega (arith, along s i k p (omega arith), ap (e s) z)

  found : (k s : ℕ) → e s (suc (c.entered s)) ≤ k → c.entered s < c.last s → s < n → (r : ℕ) × (r < n) × (share (tick c nobody) r < share c r)
  found zero s b short sn = let r : e s (suc (c.entered s)) ≡ rule c e s (c.entered s) = ee.ahead s (c.entered s) (omega arith) short in absurd (omega arith)
  found (suc k) s b short sn =
      ⊎_elim
      (λ (held : 0 < c.hold s). (s, sn, held_falls s held))
      (λ (free : c.hold s ≤ 0).
      ⊎_elim
      (λ (ready : every (done c) (c.waits (at s (suc (c.entered s)))) ≡ true). (s, sn, moved_falls s (moves_from c nobody s (record { free = refl; hold = omega arith; short = short; ready = every_done c _ ready }))))
      (λ (waits : every (done c) (c.waits (at s (suc (c.entered s)))) ≡ false).
      let a = at s (suc (c.entered s)) in
      let r : e s (suc (c.entered s)) ≡ rule c e s (c.entered s) = ee.ahead s (c.entered s) (omega arith) short in
      let x = not_every (done c) (c.waits a) waits in
      let t = x.0.shuttle in
      let i = x.0.stop in
      let open_yet : c.entered t < i = leb-false _ _ x.2 in
      let end = all-has (λ b. b.stop ≤ c.last b.shuttle) (c.waits a) x.0 (on.awaited a) x.1 in
      let below = all-has (λ b. number e b ≤ greatest (map (number e) (c.waits a))) (c.waits a) x.0 (below_greatest e (c.waits a)) x.1 in
      let back : suc (c.entered t) + (i - suc (c.entered t)) ≡ i = omega arith in
      let first = along t (suc (c.entered t)) (i - suc (c.entered t)) (omega arith) (omega arith) in
      found k t (omega (arith, ap (e t) back)) (omega arith) (all-has (λ b. b.shuttle < n) (c.waits a) x.0 (few a) x.1))
      (cases_Bool (every (done c) (c.waits (at s (suc (c.entered s)))))))
      (cases_lt 0 (c.hold s))

pub ticks_make_fall : TicksMakeFall
ticks_make_fall c n on r few s sn short =
    let f = found c n on r.0 r.1 few (r.0 s (suc (c.entered s))) s (omega arith) short sn in
    sum_lt (share (tick c nobody)) (share c) (share_le c nobody) n f.0 f.1 f.2
