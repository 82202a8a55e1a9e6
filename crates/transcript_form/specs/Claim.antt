-- Claims: their numbers and names, and how many posts each takes.
use Rattle.std.specs.Prelude.{◌≡◌, ◌↔◌, ℕ, zero, suc, ◌+◌, ◌*◌, List, [], ◌∷◌, Option, Some, None, codes}
use Rattle.std.specs.List.{slice_get}
use Rattle.phase_message.specs.Shape.{Shape}
use Rattle.transcript_form.specs.declared.claim.Claim.{Claim}
use Rattle.transcript_form.specs.declared.claim.Claim.TheVariants.{Equivocation, Malformed, WrongSeed, BadLog, Replay, Pad}

-- the byte of a claim
abbrev pub claim_number : Claim → ℕ
claim_number Equivocation = 1
claim_number Malformed = 2
claim_number WrongSeed = 3
claim_number BadLog = 4
claim_number Replay = 5
claim_number Pad = 6

-- the claims by their numbers, from 1 on
abbrev pub claims : List Claim
claims = Equivocation ∷ Malformed ∷ WrongSeed ∷ BadLog ∷ Replay ∷ Pad ∷ []

-- the claim of a number, if it has one
abbrev pub claim_of : ℕ → Option Claim
claim_of zero = None
claim_of (suc k) = slice_get claims k

-- a number has a claim exactly where it is that claim's number
abbrev pub NumbersAreClaims : Type 0
NumbersAreClaims = (number : ℕ) (claim : Claim) → (claim_of number ≡ Some claim) ↔ (number ≡ claim_number claim)

-- a claim as it is printed
abbrev pub claim_name : Claim → List ℕ
claim_name Equivocation = codes "Equivocation"
claim_name Malformed = codes "Malformed"
claim_name WrongSeed = codes "WrongSeed"
claim_name BadLog = codes "BadLog"
claim_name Replay = codes "Replay"
claim_name Pad = codes "Pad"

-- How many posts a claim takes: two of the accused in one slot; one of the accused; its keys and what it
-- revealed; its closing post; the closing posts of all members; all posts before the pads, which are five
-- of each member, and the accused's pads.
abbrev pub claim_posts : Shape → Claim → ℕ
claim_posts shape Equivocation = 2
claim_posts shape Malformed = 1
claim_posts shape WrongSeed = 2
claim_posts shape BadLog = 1
claim_posts shape Replay = shape.members
claim_posts shape Pad = 5 * shape.members + 1
