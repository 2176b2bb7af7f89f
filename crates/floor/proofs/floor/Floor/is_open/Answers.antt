use Rattle.std.proofs.Common.{◌≡◌, ◌<◌, ◌≤◌, false, List, length, sym, ap, ◌∙◌, subst, arith}
use Rattle.std.proofs.ByRecursion.{All-get_or}
use Rattle.std.proofs.lemmas.Bool.{ltb-false}
use Rattle.meetings.specs.declared.meet.Meeting.{Meeting}
use Rattle.meetings.specs.Laws.{Meets}
use Rattle.traffic.specs.Index.{no_meeting, meeting_at}
use Rattle.floor.specs.Floors.{IsFloor}
use Rattle.floor.specs.Open.{is_meeting_open}
use Rattle.floor.specs.Positions.{is_open, meetings_in, paths_in, tables_in}
use Rattle.floor.proofs.Opening.{open_there, open_past, open_decides}
use Rattle.floor.proofs.floor.Floor.is_open.Goals as goal
use Rattle.floor.proofs.floor.Floor.is_open.Goals.{After-is_meeting_open, In-Some, In_default}

-- the list that is read
meetings_are : (c : In-Some) → c.meetings.result.now ≡ meetings_in c.args.self.now
meetings_are c = c.meetings.ensures.value ∙ ap meetings_in c.self.view_is

within : (c : In-Some) → c.args.meeting < length (meetings_in c.args.self.now)
within c = omega (arith, c.in-Some.ensures.lookup.3.0, ap (λ (l : List Meeting). length l) (meetings_are c))

is : (c : In-Some) → meeting_at (meetings_in c.args.self.now) c.args.meeting ≡ c.in-Some.meeting.now
is c = ap (λ (l : List Meeting). meeting_at l c.args.meeting) (sym (meetings_are c)) ∙ sym (c.in-Some.ensures.lookup.3.1 no_meeting)

meets : (c : In-Some) → Meets (paths_in c.args.self.now) c.in-Some.meeting.now
meets c =
    let p = c.args.self.now in
    let floor = subst (λ q. IsFloor q c.self.inside.index) c.self.view_is c.self.invariant in
    subst (Meets (paths_in p)) (is c) (All-get_or (Meets (paths_in p)) (meetings_in p) c.args.meeting no_meeting (within c) floor.sound.meet)

pub is_meeting_open-requires : goal.is_meeting_open-requires
is_meeting_open-requires c = let m = meets (goal.at.is_meeting_open-requires c).In-Some in record { lower = m.lower; other = m.other }

-- the test, of no meeting and of one
test_none : (c : In_default) → false ≡ is_open c.args.self.now c.args.meeting
test_none c =
    let p = c.args.self.now in
    let past : length c.meetings.result.now ≤ c.args.meeting = ltb-false c.args.meeting (length c.meetings.result.now) (sym c.in_default.ensures.lookup.0) in
    sym (open_past (paths_in p) (tables_in p) p.shuttles (meetings_in p) c.args.meeting (omega (arith, past, ap (λ (l : List Meeting). length l) (c.meetings.ensures.value ∙ ap meetings_in c.self.view_is))))

test_one : (c : After-is_meeting_open) → c.is_meeting_open.result ≡ is_open c.args.self.now c.args.meeting
test_one c =
    let p = c.args.self.now in
    let here = (goal.at.returns-clause-test c).In-Some in
    c.is_meeting_open.ensures
    ∙ ap (is_meeting_open (paths_in p) (tables_in p) p.shuttles) (sym (is here))
    ∙ sym (open_there (paths_in p) (tables_in p) p.shuttles (meetings_in p) c.args.meeting (within here))

pub returns-in_default-clause-test : goal.returns-in_default-clause-test
returns-in_default-clause-test c = test_none c

pub returns-in_default-clause-open : goal.returns-in_default-clause-open
returns-in_default-clause-open c = let p = c.args.self.now in open_decides (paths_in p) (tables_in p) p.shuttles (meetings_in p) c.args.meeting false (test_none c)

pub returns-clause-test : goal.returns-clause-test
returns-clause-test c = test_one c

pub returns-clause-open : goal.returns-clause-open
returns-clause-open c = let p = c.args.self.now in open_decides (paths_in p) (tables_in p) p.shuttles (meetings_in p) c.args.meeting c.is_meeting_open.result (test_one c)
