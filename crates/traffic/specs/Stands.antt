-- The laws of traffic, as each function that states some has them.
use Rattle.traffic.specs.Index.{WaitsAreIndexed, StopsWaitExactly}
use Rattle.traffic.specs.Laws.{EntryTicksAgree, OnPathsAreTimed, EntryTicksRise, RankedExactly, HoldsMakeNoRing, TicksMakeNoRing, FewerMakeNoRing, TicksAreEntryTicks, MoreIsLater, SatisfiedIsSame}
use Rattle.traffic.specs.Plans.{FreshRunsHaveNoRing, FullOrdersSettle, PlansAreWithin}
use Rattle.traffic.specs.Safety.{MovesExactly, TicksKeepWaits, ChangesKeepWaits, NoTwoInOnePlace, NoneFollows, TicksNeverRaise, TicksMakeFall}
use Rattle.traffic.specs.Sweep.{SweepsStart, SweepsAdvance, SweepsEnd, SweepsRing, SweepsBound}
use Rattle.traffic.specs.Tables.{TablesAreServedInOrder}
use Rattle.traffic.specs.Ticks.{EntryTicksAreTimed, NoStopHasNone, TimedIsFound, RingIsNone, NoneIsLater}
use Rattle.traffic.specs.Worked.{WorkedOut}

-- Entry ticks: unique, there exactly when something ranks the stops, and those of the execution; and what waits do to them.
pub record EntryTickLaws : Type 0 where
  pub agree : EntryTicksAgree
  pub timed : OnPathsAreTimed
  pub rise : EntryTicksRise
  pub ranked : RankedExactly
  pub holds : HoldsMakeNoRing
  pub ticks : TicksMakeNoRing
  pub fewer : FewerMakeNoRing
  pub execution : TicksAreEntryTicks
  pub later : MoreIsLater
  pub same : SatisfiedIsSame

-- Entry ticks worked out by rounds of their rule, as a function of the scene.
pub record RoundLaws : Type 0 where
  pub timed : EntryTicksAreTimed
  pub none : NoStopHasNone
  pub found : TimedIsFound
  pub ring : RingIsNone
  pub late : NoneIsLater
  pub worked : WorkedOut

-- Entry ticks worked out stop by stop.
pub record SweepLaws : Type 0 where
  pub start : SweepsStart
  pub advance : SweepsAdvance
  pub end : SweepsEnd
  pub ring : SweepsRing
  pub bound : SweepsBound

-- Safety and progress of one step.
pub record StepLaws : Type 0 where
  pub moves : MovesExactly
  pub ticks : TicksKeepWaits
  pub changes : ChangesKeepWaits
  pub apart : NoTwoInOnePlace
  pub behind : NoneFollows
  pub never : TicksNeverRaise
  pub fall : TicksMakeFall

-- What stops wait for at the meetings of a list.
pub record WaitLaws : Type 0 where
  pub exactly : StopsWaitExactly
  pub indexed : WaitsAreIndexed

-- What a plan gives the laws.
pub record PlanLaws : Type 0 where
  pub fresh : FreshRunsHaveNoRing
  pub settled : FullOrdersSettle
  pub within : PlansAreWithin
  pub tables : TablesAreServedInOrder
