-- What a clause sees of a dispatcher.
use Rattle.std.specs.Prelude.{◌≡◌, false, None, Some, Option, IfSome}
use Rattle.run.specs.Lawful.{LawfulFor}
use Rattle.run.specs.State.{State}
use Rattle.dispatch.specs.declared.dispatcher.Dispatcher.TheInside.{Inside}
use Rattle.dispatch.specs.declared.dispatcher.HandDraft.{HandDraft}
use Rattle.dispatch.specs.Dispatch.{Dispatch, dispatch_of}

abbrev pub dispatch_in : Inside → Option Dispatch
dispatch_in d = dispatch_of d.run d.drafts d.hand

-- A draft in hand that is not overtaken is lawful; without a plan there is none.
abbrev pub KeepsLawful : Option State → Option HandDraft → Type 0
KeepsLawful None hand = hand ≡ None
KeepsLawful (Some st) hand = IfSome hand (λ d. d.overtaken ≡ false → LawfulFor st d.orders)

abbrev pub HandIsLawful : Inside → Type 0
HandIsLawful d = KeepsLawful d.run d.hand
