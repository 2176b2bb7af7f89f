use Rattle.std.proofs.Common.{◌≡◌, List, None, OnErr, sym, ◌∙◌, subst}
use Rattle.meetings.specs.declared.meet.First.{First}
use Rattle.traffic.specs.Plans.{named}
use Rattle.traffic.specs.Ticks.{entry_ticks}
use Rattle.floor.specs.Times.{IsTimetable}
use Rattle.run.specs.State.{State, count_on, scene_under, scene_now}
use Rattle.run.specs.Timing.{HasExpected}
use Rattle.run.specs.Views.{state_in}
use Rattle.run.proofs.Executing.{arrived}
use Rattle.run.proofs.Timing.{no_ring}
use Rattle.run.proofs.run.Driven.expected.Goals as goal

pub unwrap-requires : goal.unwrap-requires
unwrap-requires c =
    let st = state_in c.self.inside in
    let none = subst (λ (fs : List First). OnErr c.work_out.result (entry_ticks (scene_under st (named fs)) (count_on st) ≡ None)) c.as_slice.ensures.value c.work_out.ensures.ring in
    no_ring (scene_now st) (count_on st) c.work_out.result c.self.invariant.1.force.no_ring none

pub returns : goal.returns
returns c =
    let st = state_in c.self.inside in
    let sound = c.self.invariant in
    let good = subst (λ (fs : List First). IsTimetable (scene_under st (named fs)) (count_on st) c.work_out.new.self) c.as_slice.ensures.value
    (rw c.unwrap.ensures at c.work_out.ensures.ticks) in
    subst (λ (st : State). HasExpected st c.work_out.new.self) c.self.view_is
    (record { timetable = good; arrivals = good.arrivals ∙ sym (arrived st good.ticks good.worked); execution = c.runs_stand.ensures.execution sound.0 st sound.1 })
