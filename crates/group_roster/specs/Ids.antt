-- What a group's id determines.
use Rattle.std.specs.Prelude.{◌≡◌, ◌⊎◌, [], ◌∷◌}
use Rattle.wire_core.specs.declared.tag.Tag.TheVariants.{Roster as RosterTag}
use Rattle.wire_core.specs.Hash.{Collides, hashed}
use Rattle.group_roster.specs.Roster.{Roster, IsRosterForm, roster_id, roster_spelling}

-- two rosters of one id are equal, or the two strings of which the ids are hashes collide
abbrev pub IdsDetermine : Type 0
IdsDetermine = (r s : Roster) → IsRosterForm r → IsRosterForm s → roster_id r ≡ roster_id s
    → (r ≡ s) ⊎ Collides (hashed RosterTag (roster_spelling r ∷ [])) (hashed RosterTag (roster_spelling s ∷ []))
