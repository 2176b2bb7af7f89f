-- The touches of one path, out of the index of all.
use Rattle.std.proofs.Common.{◌≡◌, ℕ, suc, ◌+◌, ◌-◌, ◌<◌, ◌≤◌, List, length, get_or, take, drop, vec_items, sym, ap, ◌∙◌, arith}
use Rattle.std.specs.List.{slice_range}
use Rattle.std.proofs.lemmas.List.{get_or-drop, get_or-take, length-drop, length-take}
use Rattle.files.specs.declared.plan.Stop.{Stop}
use Rattle.files.specs.Rules.{path_at}
use Rattle.meetings.specs.declared.meet.Meeting.{Meeting}
use Rattle.traffic.specs.Scene.{at}
use Rattle.floor.specs.declared.index.Index.{Index}
use Rattle.floor.specs.declared.index.PathTouches.{PathTouches}
use Rattle.floor.specs.declared.index.Touch.{Touch}
use Rattle.floor.specs.Indexes.{IsIndexOf, IsPathOf, stops_in}
use Rattle.floor.proofs.Indexing.{length-starts}
use Rattle.floor.proofs.Numbering.{start_next, start_within}

module _ (ps : List (List Stop)) (ms : List Meeting) (x : Index) (h : IsIndexOf ps ms x) (s : ℕ) (lt : s < length ps) where
  abbrev starts : List ℕ
  starts = vec_items x.starts

  abbrev begins : List ℕ
  begins = vec_items x.begins

  abbrev n : ℕ
  n = length (path_at ps s)

  pub path_there : suc s < length starts
  path_there = omega (arith, ap (λ (l : List ℕ). length l) h.starts, length-starts 0 ps, lt)

  next : get_or starts (suc s) 0 ≡ get_or starts s 0 + n
  next = ap (λ l. get_or l (suc s) 0) h.starts ∙ start_next ps s lt ∙ ap (λ l. get_or l s 0 + n) (sym h.starts)

  inside : get_or starts s 0 + n ≤ stops_in ps
  inside = omega (arith, start_within ps s lt, ap (λ l. get_or l s 0) h.starts)

  pub path_order : get_or starts s 0 ≤ get_or starts (suc s) 0
  path_order = omega (arith, next)

  pub path_end : get_or starts (suc s) 0 < length begins
  path_end = omega (arith, next, inside, h.count)

  module _ (p : PathTouches) (begins_are : p.begins.now ≡ slice_range begins (get_or starts s 0) (suc (get_or starts (suc s) 0))) (touches_are : p.touches.now ≡ vec_items x.touches) where
    b : ℕ
    b = get_or starts s 0

    size : suc (get_or starts (suc s) 0) - get_or starts s 0 ≡ suc n
    size = omega (arith, next)

    path_count : length p.begins.now ≡ suc n
    path_count =
        ap (λ (l : List ℕ). length l) begins_are
        ∙ ap (λ k. length (take k (drop (get_or starts s 0) begins))) size
        ∙ (omega (arith, length-take (suc n) (drop (get_or starts s 0) begins), length-drop (get_or starts s 0) begins, inside, h.count))

    begin-at : (i : ℕ) → i ≤ n → get_or p.begins.now i 0 ≡ get_or begins (get_or starts s 0 + i) 0
    begin-at i le =
        ap (λ (l : List ℕ). get_or l i 0) begins_are
        ∙ get_or-take (suc (get_or starts (suc s) 0) - get_or starts s 0) (drop (get_or starts s 0) begins) i 0 (omega (arith, size, le))
        ∙ get_or-drop (get_or starts s 0) begins i 0

    begin_after : (i : ℕ) → i < n → get_or p.begins.now (suc i) 0 ≡ get_or begins (suc (get_or starts s 0 + i)) 0
    begin_after i il = begin-at (suc i) (omega (arith, il)) ∙ ap (λ k. get_or begins k 0) {x = get_or starts s 0 + suc i} {y = suc (get_or starts s 0 + i)} (omega arith)

    pub is_path : IsPathOf ms s n p
    is_path = record {
      count = path_count;
      order = λ i il. omega (arith, begin-at i (omega (arith, il)), begin_after i il, h.order (get_or starts s 0 + i) (omega (arith, il, inside)));
      end = λ i il. omega (arith, begin_after i il, h.end (get_or starts s 0 + i) (omega (arith, il, inside)), ap (λ (l : List Touch). length l) touches_are);
      each = λ i il.
          ap (λ (l : List Touch). slice_range l (get_or p.begins.now i 0) (get_or p.begins.now (suc i) 0)) touches_are
          ∙ ap (λ k. slice_range (vec_items x.touches) k (get_or p.begins.now (suc i) 0)) (begin-at i (omega (arith, il)))
          ∙ ap (λ k. slice_range (vec_items x.touches) (get_or begins (get_or starts s 0 + i) 0) k) (begin_after i il)
          ∙ h.each (at s i) (lt, il);
    }
