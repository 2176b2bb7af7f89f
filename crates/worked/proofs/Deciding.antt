-- By a rule that leaves one row after each put, a search has one answer.
use Rattle.std.specs.Prelude.{◌≡◌, ℕ, zero, suc, ◌+◌, Bool, true, false, if◌then◌else◌, nat_lt, List, [], ◌∷◌, drop, length, slice_index, Err}
use Rattle.std.specs.List.{insert}
use Rattle.std.proofs.Common.{refl, ap, sym, subst, ◌∙◌}
use Rattle.heap.specs.Bounded.{Holding}
use Rattle.lists.specs.Moves.{Put, Refuse, Follows, Goes}
use Rattle.lists.specs.declared.node.Node.{Node}
use Rattle.search.specs.Questions.{Question}
use Rattle.search.specs.Steps.{Course, after, ends, children, best_after, look, put_each, go_on, searched}
use Rattle.search.specs.declared.found.SearchFault.TheVariants.{Full}
use Rattle.worked.specs.Drafts.{Rule}

abbrev pub rows : Holding Node → List Node
rows h = h.row

module _ (rule : Rule) where
  -- Two puts of a node into one row leave one row.
  abbrev pub Decides : Type 0
  Decides =
      (a b c d : Holding Node) (node : Node) (p q : ℕ) → a.row ≡ c.row
      → Goes rows rule a (Put node p) b → Goes rows rule c (Put node q) d
      → b.row ≡ d.row

  -- at these rows the courses that the rule allows have one answer
  abbrev OneFrom : (List Node → List ℕ → Course) → List Node → List Node → Type 0
  OneFrom go row other =
      (ps qs : List ℕ) (a b c d : Holding Node) → a.row ≡ row → c.row ≡ other
      → Follows rows rule a (go row ps).moves b → Follows rows rule c (go other qs).moves d
      → (go row ps).answer ≡ (go other qs).answer

  abbrev One : (List Node → List ℕ → Course) → Type 0
  One go = (row : List Node) → OneFrom go row row

  from_two :
      (go : List Node → List ℕ → Course) → One go → (row other : List Node) → row ≡ other
      → OneFrom go row other
  from_two go one row other same = subst (λ o. OneFrom go row o) same (one row)

  -- a node is put at the first of the places, if there is room for it
  abbrev put_if :
      (taken : ℕ) → (List Node → List ℕ → Course) → Node → List Node → Bool → List ℕ → Course
  put_if taken rest node row has places =
      if has
      then after (Put node (slice_index places 0))
      (rest (insert row (slice_index places 0) node) (drop 1 places))
      else after (Refuse node) (ends (Err (Full taken)))

  module _ (decides : Decides) where
    put_one :
        (taken : ℕ) (rest : List Node → List ℕ → Course) (node : Node) → One rest
        → (row : List Node) (has : Bool) (ps qs : List ℕ) (a b c d : Holding Node)
        → a.row ≡ row → c.row ≡ row
        → Follows rows rule a (put_if taken rest node row has ps).moves b
        → Follows rows rule c (put_if taken rest node row has qs).moves d
        → (put_if taken rest node row has ps).answer ≡ (put_if taken rest node row has qs).answer
    put_one taken rest node one row true ps qs a b c d ar cr f h =
        let p = slice_index ps 0 in
        let q = slice_index qs 0 in
        let first : f.0.row ≡ insert row p node =
        subst (λ r. f.0.row ≡ insert r p node) ar f.1.1.1 in
        let second : h.0.row ≡ insert row q node =
        subst (λ r. h.0.row ≡ insert r q node) cr h.1.1.1 in
        let same = sym first ∙ decides a f.0 c h.0 node p q (ar ∙ sym cr) f.1 h.1 ∙ second in
        from_two rest one (insert row p node) (insert row q node) same (drop 1 ps) (drop 1 qs)
        f.0 b h.0 d first second f.2 h.2
    put_one taken rest node one row false ps qs a b c d ar cr f h = refl

    puts_one :
        (room taken : ℕ) (nodes : List Node) (go : List Node → List ℕ → Course)
        → One go → One (put_each room taken nodes go)
    puts_one room taken [] go one row = one row
    puts_one room taken (node ∷ nodes) go one row =
        put_one taken (put_each room taken nodes go) node (puts_one room taken nodes go one) row
        (nat_lt (length row) room)

    goes_one : (q : Question) (room more taken : ℕ) (best : _) → One (go_on q room more taken best)
    goes_one q room more taken best [] ps qs a b c d ar cr f h = refl
    goes_one q room zero taken best (node ∷ row) ps qs a b c d ar cr f h = refl
    goes_one q room (suc more) taken best (node ∷ row) ps qs a b c d ar cr f h =
        let found = look q best.cost node in
        puts_one room (taken + 1) (children node found)
        (go_on q room more (taken + 1) (best_after best node found))
        (goes_one q room more (taken + 1) (best_after best node found))
        row ps qs f.0 b h.0 d
        (f.1.1 ∙ ap (λ (r : List Node). drop 1 r) ar)
        (h.1.1 ∙ ap (λ (r : List Node). drop 1 r) cr) f.2 h.2

    pub one_answer :
        (q : Question) (room budget : ℕ) (ps qs : List ℕ) (a b c d : Holding Node)
        → Follows rows rule a (searched q room budget ps).moves b
        → Follows rows rule c (searched q room budget qs).moves d
        → (searched q room budget ps).answer ≡ (searched q room budget qs).answer
    one_answer q room budget ps qs a b c d f h =
        puts_one room 0 (record { bound = 0; decided = 0; turned = 0 } ∷ [])
        (go_on q room budget 0 (record { turned = 0; cost = q.start }))
        (goes_one q room budget 0 (record { turned = 0; cost = q.start }))
        [] ps qs f.0 b h.0 d f.1.1 h.1.1 f.2 h.2
