-- A roster that a call is given or gives, as a value of these definitions.
use Rattle.group_roster.specs.declared.roster.Roster.{Roster as GivenRoster}
use Rattle.group_roster.specs.Roster.{Roster}

-- the version and the keys of a roster that a call is given
abbrev pub roster_of : GivenRoster → Roster
roster_of given = record { version = given.version; keys = given.keys }
