-- A shuttle is noted at the stop that it waits for.
use Rattle.std.proofs.Common.{◌≡◌, ℕ, suc, ◌*◌, ◌%◌, ◌^◌, ◌<◌, ◌≤◌, ◌+◌, ◌-◌, ◌⊎◌, cond, leb, ltb, List, length, sum_by, take, bit_or, sym, ap, ◌∙◌, subst, subst₂, inl, inr, arith}
use Rattle.std.specs.Int.{bit_at}
use Rattle.std.specs.List.{ContainsAt, range_with_len}
use Rattle.std.proofs.lemmas.Bool.{cases_eq, cases_lt, cond-true, cond-false, lt-ltb, le-ltb}
use Rattle.std.proofs.lemmas.List.{get_or-set_same, get_or-set_other, length-set}
use Rattle.std.proofs.lemmas.Nat.Bits.{bit_at-pow_same}
use Rattle.meetings.specs.declared.stays.At.{At}
use Rattle.traffic.specs.Scene.{Numbers, at, own}
use Rattle.traffic.specs.Sweep.{Sofar}
use Rattle.floor.specs.declared.floor.calls.TheConstants.{LONGEST_HOLD}
use Rattle.floor.specs.declared.scene.Scene.{Scene as Under}
use Rattle.floor.specs.declared.worklist.Block.{Block}
use Rattle.floor.specs.declared.worklist.Entry.{Entry}
use Rattle.floor.specs.declared.worklist.Progress.{Progress}
use Rattle.floor.specs.declared.worklist.Worklist.{Worklist}
use Rattle.floor.specs.Latest.{IsLatest}
use Rattle.floor.specs.Positions.{IsSound}
use Rattle.floor.specs.Touches.{awaited_at}
use Rattle.floor.specs.Under.{orders_under, scene_under, shuttles_under, touches_under}
use Rattle.floor.specs.Worklists.{Cared, Going, Held, Looked, Noted, Shaped, count_in, entry_in, entry_of, known_in, next_in, progress_of, ticks_in, with_entry, with_note, work}
use Rattle.floor.proofs.Entering.{set_still, set_too}
use Rattle.floor.proofs.Entries.{Wide, entry_here, entry_other, many_still, wide_still}
use Rattle.floor.proofs.Floors.{few}

module _ (u : Under) (sound : IsSound u.floor.now) (w : Worklist) (g : Going u w) (s : ℕ) (lt : s < shuttles_under u) (b : Block) (held : Held u w (next_in u w s) b.awaited) (looked : Looked u w (next_in u w s) b.seen b.latest) where
  abbrev a : At
  a = b.awaited

  abbrev w' : Worklist
  w' = with_note w s b

  abbrev x : Entry
  x = record { tick = (entry_of w a).tick; waiting = bit_or (entry_of w a).waiting (2 ^ s) }

  low : s < length w.progress
  low = omega (arith, lt, few u.floor.now sound, g.shaped.progress)

  row : a.shuttle < length w.entries
  row = omega (arith, held.shuttle, few u.floor.now sound, g.shaped.rows)

  -- with room for the note, and without
  room : a.stop < 64 → w'.entries ≡ with_entry w.entries a x
  room l = cond-true _ _ _ (lt-ltb a.stop 64 l)

  full : 64 ≤ a.stop → w'.entries ≡ w.entries
  full le = cond-false _ _ _ (le-ltb a.stop 64 le)

  -- ticks stay, and so do notes
  ticks_still : (c : At) → (entry_of w' c).tick ≡ (entry_of w c).tick
  ticks_still c = elim (cases_lt a.stop 64) [
    | inr le ↦ ap (λ rows. (entry_in rows c).tick) (full le)
    | inl l ↦ ap (λ rows. (entry_in rows c).tick) (room l) ∙ same l
  ]
    where
      same : a.stop < 64 → (entry_in (with_entry w.entries a x) c).tick ≡ (entry_of w c).tick
      same l = elim (cases_eq c.shuttle a.shuttle) [
        | inl e ↦ elim (cases_eq c.stop a.stop) [
          | inl q ↦ (let is : c ≡ a = λ i. record { shuttle = e i; stop = q i } in subst (λ d. (entry_in (with_entry w.entries a x) d).tick ≡ (entry_of w d).tick) (sym is) (ap (λ (y : Entry). y.tick) (entry_here w.entries a x row g.shaped.wide l)))
          | inr ne ↦ ap (λ (y : Entry). y.tick) (entry_other w.entries a x row g.shaped.wide l c (λ _. ne))
        ]
        | inr ne ↦ ap (λ (y : Entry). y.tick) (entry_other w.entries a x row g.shaped.wide l c (λ e _. ne e))
      ]

  notes_still : (c : At) (r : ℕ) → bit_at (entry_of w c).waiting r ≡ 1 → bit_at (entry_of w' c).waiting r ≡ 1
  notes_still c r h = elim (cases_lt a.stop 64) [
    | inr le ↦ subst (λ rows. bit_at (entry_in rows c).waiting r ≡ 1) (sym (full le)) h
    | inl l ↦ subst (λ rows. bit_at (entry_in rows c).waiting r ≡ 1) (sym (room l)) (same l)
  ]
    where
      same : a.stop < 64 → bit_at (entry_in (with_entry w.entries a x) c).waiting r ≡ 1
      same l = elim (cases_eq c.shuttle a.shuttle) [
        | inl e ↦ elim (cases_eq c.stop a.stop) [
          | inl q ↦
              let is : c ≡ a = λ i. record { shuttle = e i; stop = q i } in
              subst (λ d. bit_at (entry_in (with_entry w.entries a x) d).waiting r ≡ 1) (sym is)
              (ap (λ (y : Entry). bit_at y.waiting r) (entry_here w.entries a x row g.shaped.wide l) ∙ set_still (entry_of w a).waiting (2 ^ s) r (subst (λ d. bit_at (entry_of w d).waiting r ≡ 1) is h))
          | inr ne ↦ ap (λ (y : Entry). bit_at y.waiting r) (entry_other w.entries a x row g.shaped.wide l c (λ _. ne)) ∙ h
        ]
        | inr ne ↦ ap (λ (y : Entry). bit_at y.waiting r) (entry_other w.entries a x row g.shaped.wide l c (λ e _. ne e)) ∙ h
      ]

  note_here : a.stop < 64 → bit_at (entry_of w' a).waiting s ≡ 1
  note_here l =
      ap (λ rows. bit_at (entry_in rows a).waiting s) (room l)
      ∙ ap (λ (y : Entry). bit_at y.waiting s) (entry_here w.entries a x row g.shaped.wide l)
      ∙ set_too (entry_of w a).waiting (2 ^ s) s (bit_at-pow_same s)

  -- so what is known stays
  stop_still : (r : ℕ) → (progress_of w' r).stop ≡ (progress_of w r).stop
  stop_still r = elim (cases_eq r s) [
    | inl e ↦ subst (λ z. (progress_of w' z).stop ≡ (progress_of w z).stop) (sym e) (ap (λ (p : Progress). p.stop) (get_or-set_same w.progress s _ _ low))
    | inr ne ↦ ap (λ (p : Progress). p.stop) (get_or-set_other w.progress s r _ _ ne)
  ]

  known_still : known_in u w' ≡ known_in u w
  known_still = λ i r. cond (ltb r (shuttles_under u)) (suc (stop_still r i)) 1

  numbers_still : ticks_in u w' ≡ ticks_in u w
  numbers_still = λ i r j. cond (leb j ((scene_under u).entered r)) 0 (ticks_still (at r j) i)

  shaped' : Shaped w'
  shaped' = elim (cases_lt a.stop 64) [
    | inr le ↦ record { rows = ap (λ (l : List (List Entry)). length l) (full le) ∙ g.shaped.rows; wide = subst Wide (sym (full le)) g.shaped.wide; progress = length-set w.progress s _ ∙ g.shaped.progress }
    | inl l ↦ record {
      rows = ap (λ (l : List (List Entry)). length l) (room l) ∙ many_still w.entries a x ∙ g.shaped.rows;
      wide = subst Wide (sym (room l)) (wide_still w.entries a x row g.shaped.wide l);
      progress = length-set w.progress s _ ∙ g.shaped.progress;
    }
  ]

  same_count : count_in u w' ≡ count_in u w
  same_count = ap (λ (known : ℕ → ℕ). sum_by known (range_with_len 0 (shuttles_under u))) known_still

  pub going_note : Going u w'
  going_note = record {
    shaped = shaped';
    sofar = subst₂ (λ known e. Sofar (scene_under u) known e) (sym known_still) (sym numbers_still) g.sofar;
    past = λ r j rl le. ticks_still (at r j) ∙ g.past r j rl le;
    small = λ r j jl.
        let before : ticks_in u w r j ≤ suc LONGEST_HOLD * count_in u w = g.small r j (subst (λ (known : ℕ → ℕ). j < known r) known_still jl) in
        omega (arith, before, same_count, ap (λ (e : Numbers). e r j) numbers_still);
  }

  pub same_note : work u w' ≡ work u w
  same_note = ap (λ n. (2048 - n) * 2 ^ 32 + w.ready % 2 ^ 32) same_count

  next_still : (r : ℕ) → next_in u w' r ≡ next_in u w r
  next_still r = ap (λ (known : ℕ → ℕ). at r (known r)) known_still

  looked_still : (c : At) (seen latest : ℕ) → Looked u w c seen latest → Looked u w' c seen latest
  looked_still c seen latest l =
      subst₂ (λ (known : ℕ → ℕ) (e : Numbers). IsLatest latest (own (scene_under u) e c.shuttle (c.stop - 1)) known e (awaited_at (orders_under u) (take seen (touches_under u c)))) (sym known_still) (sym numbers_still) l

  held_still : (r : ℕ) (c : At) → Held u w (next_in u w r) c → Held u w' (next_in u w' r) c
  held_still r c h = record {
    shuttle = h.shuttle;
    unknown = subst (λ (known : ℕ → ℕ). known c.shuttle ≤ c.stop) (sym known_still) h.unknown;
    waits = subst (λ d. ContainsAt ((scene_under u).waits d) c) (sym (next_still r)) h.waits;
  }

  ready_or_noted : (r : ℕ) → (bit_at w.ready r ≡ 1) ⊎ Noted u w r → (bit_at w'.ready r ≡ 1) ⊎ Noted u w' r
  ready_or_noted r (inl h) = inl h
  ready_or_noted r (inr n) = inr (record { by = n.by; held = held_still r n.by n.held; bit = λ l. notes_still n.by r (n.bit l) })

  -- the shuttle itself
  noted : Cared u w' s
  noted =
      let p : progress_of w' s ≡ record { stop = (progress_of w s).stop; seen = b.seen; latest = b.latest } = get_or-set_same w.progress s _ _ low in
      inr (
        subst₂ (λ d (q : Progress). Looked u w' d q.seen q.latest) (sym (next_still s)) (sym p) (looked_still (next_in u w s) b.seen b.latest looked),
        inr (record { by = a; held = held_still s a held; bit = note_here }),
      )

  other : (r : ℕ) → (r ≡ s → ⊥) → Cared u w r → Cared u w' r
  other r ne (inl h) = inl (subst (λ (known : ℕ → ℕ). (scene_under u).last r < known r) (sym known_still) h)
  other r ne (inr l) =
      let p : progress_of w' r ≡ progress_of w r = get_or-set_other w.progress s r _ _ ne in
      inr (
        subst₂ (λ d (q : Progress). Looked u w' d q.seen q.latest) (sym (next_still r)) (sym p) (looked_still (next_in u w r) (progress_of w r).seen (progress_of w r).latest l.0),
        ready_or_noted r l.1,
      )

  pub cared_note : (r : ℕ) → ((r ≡ s → ⊥) → Cared u w r) → Cared u w' r
  cared_note r h = elim (cases_eq r s) [
    | inl e ↦ subst (Cared u w') (sym e) noted
    | inr ne ↦ other r ne (h ne)
  ]
