-- What the program prints, and the numbers that it ends with.
use Rattle.std.specs.Prelude.{ℕ, List, [], ◌∷◌, codes, decimal}
use Rattle.transcript_form.specs.Claim.{claim_name}
use Rattle.member_spec.specs.declared.state.State.TheVariants.{Waiting}
use Rattle.group_report.specs.Report.{line_of, state_words}
use Rattle.offline_commands.specs.declared.status.Status.{Status}
use Rattle.offline_commands.specs.declared.status.Status.TheVariants.{Done, Usage, Open, Blamed, Refused, ReadFault, WriteFault, LinkFault, DiskFault, Exhausted, OldRound, BadRoster, BadKeyFile, TooLong, Flooded, BadScript, OutOfMemory, NotMember}

-- the exit status
abbrev pub status_number : Status → ℕ
status_number Done = 0
status_number Usage = 1
status_number (Open stage missing) = 2
status_number (Blamed accused claim) = 3
status_number (Refused check post at) = 4
status_number ReadFault = 5
status_number WriteFault = 6
status_number LinkFault = 7
status_number DiskFault = 8
status_number (Exhausted next height) = 9
status_number (OldRound kept) = 10
status_number (BadRoster at rule) = 11
status_number (BadKeyFile at) = 12
status_number (TooLong limit) = 13
status_number Flooded = 14
status_number (BadScript line) = 15
status_number OutOfMemory = 16
status_number NotMember = 17

-- the line of a command that came to its end without an output of its own, unless it is that of an open round
abbrev pub closed_line : Status → List ℕ
closed_line Done = []
closed_line Usage = line_of (codes "usage" ∷ [])
closed_line (Open stage missing) = []
closed_line (Blamed accused claim) = line_of (codes "blamed " ∷ decimal accused ∷ codes " " ∷ claim_name claim ∷ [])
closed_line (Refused check post at) =
    line_of (codes "refused check " ∷ decimal check ∷ codes " post " ∷ decimal post ∷ codes " at " ∷ decimal at ∷ [])
closed_line ReadFault = line_of (codes "read fault" ∷ [])
closed_line WriteFault = []
closed_line LinkFault = line_of (codes "link fault" ∷ [])
closed_line DiskFault = line_of (codes "disk fault" ∷ [])
closed_line (Exhausted next height) =
    line_of (codes "exhausted next " ∷ decimal next ∷ codes " height " ∷ decimal height ∷ [])
closed_line (OldRound kept) = line_of (codes "old round kept " ∷ decimal kept ∷ [])
closed_line (BadRoster at rule) = line_of (codes "bad roster at " ∷ decimal at ∷ codes " rule " ∷ decimal rule ∷ [])
closed_line (BadKeyFile at) = line_of (codes "bad key file at " ∷ decimal at ∷ [])
closed_line (TooLong limit) = line_of (codes "too long limit " ∷ decimal limit ∷ [])
closed_line Flooded = line_of (codes "flooded" ∷ [])
closed_line (BadScript line) = line_of (codes "bad script line " ∷ decimal line ∷ [])
closed_line OutOfMemory = line_of (codes "out of memory" ∷ [])
closed_line NotMember = line_of (codes "not a member" ∷ [])

-- The line of a status. A command that printed an output of its own, and one whose output failed, have none; an open round
-- names its stage, and the members whose posts are missing there.
abbrev pub status_line : Status → List ℕ
status_line (Open stage missing) = line_of (state_words (Waiting stage missing) ∷ [])
status_line status = closed_line status
