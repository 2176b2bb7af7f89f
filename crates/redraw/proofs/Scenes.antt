-- The scenes of nodes and of words: a node waits for no more than any word that agrees with it.
use Rattle.std.proofs.Common.{◌≡◌, ℕ, ◌<◌, Bool, true, false, not, ◌&&◌, eqb, List, length, Some, None, Option, sym, ap, ◌∙◌, inl, inr, zero-add, IsTrue, arith}
use Rattle.std.specs.Prelude.{if◌then◌else◌}
use Rattle.std.specs.Int.{bit_at}
use Rattle.std.specs.List.{ContainsAt}
use Rattle.std.proofs.ByRecursion.{All-weaker, all_has_itself}
use Rattle.std.proofs.lemmas.Bool.{cases_Bool, eqb-true, false≢true}
use Rattle.std.proofs.lemmas.List.{get_or-map}
use Rattle.std.proofs.lemmas.List.FromFn.{get_or-map-range_with_len}
use Rattle.std.proofs.lemmas.Nat.Bits.{bit_at_and, bit_at-lt}
use Rattle.meetings.specs.declared.meet.First.{First}
use Rattle.meetings.specs.declared.meet.First.TheVariants.{Lower}
use Rattle.meetings.specs.declared.meet.Meeting.{Meeting}
use Rattle.meetings.specs.declared.stays.At.{At}
use Rattle.meetings.specs.Meetings.{meetings}
use Rattle.search.specs.Decisions.{Agrees}
use Rattle.traffic.specs.Index.{order_at, WaitsAt}
use Rattle.traffic.specs.Laws.{Among}
use Rattle.traffic.specs.Plans.{named}
use Rattle.traffic.specs.Scene.{Scene, OnPaths}
use Rattle.traffic.specs.Ticks.{IsWithin}
use Rattle.floor.specs.Words.{bit}
use Rattle.run.specs.Lawful.{first_at}
use Rattle.run.specs.Opens.{open_at, rank, OpensLaw}
use Rattle.run.specs.Sound.{RunsSoundly}
use Rattle.run.specs.State.{State, paths_on, meetings_on, count_on, scene_under}
use Rattle.redraw.specs.Orders.{turned_first, first_by, orders_of_word, order_by, orders_of}
use Rattle.redraw.proofs.Below.{Below}
use Rattle.redraw.proofs.Wording.{closed_by, word_agrees, word_at, word_count}

-- a decided bit is that of a word that agrees, and an undecided one is not turned
decided_bit : (word decided turned k : ℕ) → Agrees word decided turned → bit decided k ≡ true → bit turned k ≡ bit word k
decided_bit word decided turned k a t =
    let one : bit_at decided k ≡ 1 = eqb-true _ _ t in
    sym (ap (λ x. eqb (bit_at x k) 1) a) ∙ ap (λ v. eqb v 1) (omega (arith, bit_at_and word decided k, bit_at-lt word k, one))

pub undecided_bit : (turned decided k : ℕ) → Agrees turned decided turned → bit decided k ≡ false → bit turned k ≡ false
undecided_bit turned decided k a f =
    elim (cases_Bool (bit turned k)) [
      | inr g ↦ g
      | inl t ↦
          let one : bit_at turned k ≡ 1 = eqb-true _ _ t in
          let same : bit_at decided k ≡ 1 = omega (arith, one, ap (λ x. bit_at x k) a, bit_at_and turned decided k, bit_at-lt decided k) in
          absurd (false≢true (sym f ∙ ap (λ v. eqb v 1) same))
    ]

module _ (b : Below) (st : State) (sound : RunsSoundly st) where
  abbrev pub opens : OpensLaw st
  opens = b.runs.opens st

  abbrev pub node : ℕ → ℕ → Scene
  node decided turned = scene_under st (orders_of st decided turned)

  abbrev pub full : ℕ → Scene
  full word = scene_under st (named (orders_of_word st word))

  pub all_at : (orders : List (Option First)) → IsWithin (count_on st) (scene_under st orders)
  all_at orders = b.runs.all sound.0 st orders sound.1

  pub as_many : length st.firsts ≡ length (meetings_on st)
  as_many = sound.1.force.count

  pub as_listed : (j : ℕ) → j < length (meetings (paths_on st)) → j < length st.firsts
  as_listed j lt = omega (arith, lt, as_many, ap (λ (l : List Meeting). length l) sound.1.kept.listed)

  -- the order of a meeting at a node, and by a word
  pub node-at : (decided turned j : ℕ) → j < length st.firsts → order_at (orders_of st decided turned) j ≡ order_by st decided turned j
  node-at decided turned j lt = get_or-map-range_with_len (order_by st decided turned) 0 (length st.firsts) j j None lt (zero-add j)

  pub full-at : (word j : ℕ) → j < length st.firsts → order_at (named (orders_of_word st word)) j ≡ Some (first_by st word j)
  full-at word j lt =
      get_or-map (λ f. Some f) (orders_of_word st word) j Lower None (omega (arith, lt, word_count st opens word))
      ∙ ap (λ f. Some f) (word_at st opens word j lt)

  -- At a node a meeting is left out, or has the order of any word that agrees.
  pub data Either (decided turned word j : ℕ) : Type 0 where
    left_out : IsTrue (open_at st j) → bit decided (rank st j) ≡ false → order_by st decided turned j ≡ None → Either decided turned word j
    agreed : order_by st decided turned j ≡ Some (first_by st word j) → Either decided turned word j

  -- that of the bits turned, in any case
  own_either : (decided turned j : ℕ) → Either decided turned turned j
  own_either decided turned j =
      let P : Bool → Option First = λ left. if left then None else Some (first_by st turned j) in
      elim (cases_Bool (open_at st j)) [
        | inr f ↦ agreed (ap (λ b. P (b && not (bit decided (rank st j)))) f)
        | inl t ↦
            let by : order_by st decided turned j ≡ P (not (bit decided (rank st j))) = ap (λ b. P (b && not (bit decided (rank st j)))) t in
            elim (cases_Bool (bit decided (rank st j))) [
              | inr f ↦ left_out t f (by ∙ ap (λ b. P (not b)) f)
              | inl d ↦ agreed (by ∙ ap (λ b. P (not b)) d)
            ]
      ]

  pub either : (decided turned word j : ℕ) → Agrees word decided turned → Either decided turned word j
  either decided turned word j a =
      elim (own_either decided turned j) [
        | left_out t f e ↦ left_out t f e
        | agreed e ↦
            elim (cases_Bool (open_at st j)) [
              | inr f ↦ agreed (e ∙ ap (λ f. Some f) (closed_by st opens turned j f ∙ sym (closed_by st opens word j f)))
              | inl t ↦
                  elim (cases_Bool (bit decided (rank st j))) [
                    | inl d ↦ agreed (e ∙ ap (λ b. Some (if open_at st j && b then turned_first (first_at st.firsts j) else first_at st.firsts j)) (decided_bit word decided turned (rank st j) a d))
                    | inr f ↦ left_out t f (ap (λ b. if b && not (bit decided (rank st j)) then None else Some (first_by st turned j)) t ∙ ap (λ b. if not b then None else Some (first_by st turned j)) f)
                  ]
            ]
      ]

  -- where one stop waits for another at a node, it does by the word
  pub waits_by_word : (decided turned word : ℕ) → Agrees word decided turned → (x y : At) → WaitsAt (meetings (paths_on st)) (orders_of st decided turned) x y → WaitsAt (meetings (paths_on st)) (named (orders_of_word st word)) x y
  waits_by_word decided turned word a x y w =
      let low = as_listed w.meeting w.there in
      let at = sym (node-at decided turned w.meeting low) ∙ w.ordered in
      record { meeting = w.meeting; there = w.there; first = w.first; wait = w.wait; ordered = full-at word w.meeting low ∙ by (either decided turned word w.meeting a) at }
    where
      by : Either decided turned word w.meeting → order_by st decided turned w.meeting ≡ Some w.first → Some (first_by st word w.meeting) ≡ Some w.first
      by (left_out t f e) o = cc
      by (agreed e) o = sym e ∙ o

  pub among : (decided turned word : ℕ) → Agrees word decided turned → Among (node decided turned).waits (full word).waits
  among decided turned word a stop =
      let ms = meetings (paths_on st) in
      let less = (node decided turned).waits stop in
      let more = (full word).waits stop in
      All-weaker (ContainsAt less) (ContainsAt more)
      (λ y c. (b.waits.exactly ms (named (orders_of_word st word)) stop y).1 (waits_by_word decided turned word a stop y ((b.waits.exactly ms (orders_of st decided turned) stop y).0 c)))
      less (all_has_itself less)

  -- with the orders of a word every stop waited for exists
  pub full_on : (word : ℕ) → OnPaths (full word)
  full_on word = b.runs.agreed sound.0 st (orders_of_word st word) sound.1 (word_count st opens word ∙ as_many) (word_agrees st opens word)
