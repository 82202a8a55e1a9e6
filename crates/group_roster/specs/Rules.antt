-- The rules that a file of a roster may break, and how a refusal tells them.
use Rattle.std.specs.Prelude.{ℕ, Option, Some, None}
use Rattle.group_roster.specs.declared.rule.Rule.{Rule}
use Rattle.group_roster.specs.declared.rule.Rule.TheVariants.{Magic, Version, Size, Short, Trailing, LmsKind, OtsKind, Duplicate, NotToml, FurtherKey, TomlVersion, TomlMembers, Entry}
use Rattle.group_roster.specs.declared.rule.Offence.{Offence}
use Rattle.group_roster.specs.declared.refusal.RosterRefusal.{RosterRefusal}
use Rattle.group_roster.specs.declared.refusal.RosterRefusal.TheVariants.{Bad, Memory}

-- the number of a rule, as it is printed
abbrev pub rule_number : Rule → ℕ
rule_number Magic = 1
rule_number Version = 2
rule_number Size = 3
rule_number Short = 4
rule_number Trailing = 5
rule_number LmsKind = 6
rule_number OtsKind = 7
rule_number Duplicate = 8
rule_number NotToml = 9
rule_number FurtherKey = 10
rule_number TomlVersion = 11
rule_number TomlMembers = 12
rule_number Entry = 13

-- an offence: a rule, and where it is broken
abbrev pub offence : ℕ → Rule → Offence
offence at rule = record { at = at; rule = rule }

-- a rule that is broken there, as a refusal tells it: the offset, and the number of the rule
abbrev pub broken : ℕ → Rule → ℕ × ℕ
broken at rule = (at, rule_number rule)

-- an offence as a refusal tells it
abbrev pub numbered : Offence → ℕ × ℕ
numbered found = broken found.at found.rule

-- which offence a refusal tells: none where it is out of memory
abbrev pub offence_told : RosterRefusal → Option (ℕ × ℕ)
offence_told (Bad at rule) = Some (at, rule)
offence_told Memory = None
