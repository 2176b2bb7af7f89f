-- What two stays give the list of meetings.
use Rattle.std.proofs.Common.{◌≡◌, true, false, [], ◌∷◌, None}
use Rattle.std.proofs.lemmas.Bool.{cond-true, cond-false}
use Rattle.meetings.specs.declared.stays.Stay.{Stay}
use Rattle.meetings.specs.Meetings.{meets, meeting_between, meet_with}

-- the stay that stands for none
abbrev pub nobody : Stay
nobody = record { at = record { shuttle = 0; stop = 0 }; place = 0; enter = 0; leave = None }

pub meet_yes : (x y : Stay) → meets x y ≡ true → meet_with x y ≡ meeting_between x y ∷ []
meet_yes x y e = cond-true (meets x y) _ _ e

pub meet_no : (x y : Stay) → meets x y ≡ false → meet_with x y ≡ []
meet_no x y e = cond-false (meets x y) _ _ e
