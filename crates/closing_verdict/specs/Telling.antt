-- What the members tell where votes are closed, by the parts of it that are looked at.
use Rattle.std.specs.Prelude.{ℕ, ◌+◌, List, [], ◌∷◌, Bool, true, false, Option, Some, None, bytes_eq, option_and_then, slice_index_or, if◌then◌else◌}
use Rattle.ring_encrypt.specs.Capsule.{key_of_seed}
use Rattle.phase_message.specs.declared.stage.StageKind.{StageKind}
use Rattle.phase_message.specs.declared.stage.StageKind.TheVariants.{Final}
use Rattle.transcript_form.specs.declared.accusation.Accusation.{Accusation}
use Rattle.transcript_form.specs.declared.claim.Claim.TheVariants.{WrongSeed}
use Rattle.transcript_form.specs.Accusation.{accusation_of}
use Rattle.shuffle_blame.specs.declared.fault.Shown.{Shown}
use Rattle.round_spec.specs.Verdict.{ClosedStage, Verdict, conviction, is_held, past_at, sent_in, shape_at}
use Rattle.closing_verdict.specs.declared.reading.Told.{Told}
use Rattle.closing_verdict.specs.declared.reading.Told.TheVariants.{Reveals, Confirms, Disputes, Differs}

-- whether a member tells that the votes are unanimous
abbrev pub tells_assent : Told → Bool
tells_assent (Reveals seed) = true
tells_assent Confirms = true
tells_assent (Disputes shown) = false
tells_assent Differs = false

-- a member tells its inner seed
abbrev pub TellsSeed : Told → Type 0
TellsSeed (Reveals seed) = Unit {0}
TellsSeed told = ⊥

-- that seed
abbrev pub seed_told : Told → List ℕ
seed_told (Reveals seed) = seed
seed_told told = []

-- a member tells its part of the outer layers
abbrev pub TellsPart : Told → Type 0
TellsPart (Disputes shown) = Unit {0}
TellsPart told = ⊥

-- that part
abbrev pub part_told : Told → Shown
part_told (Disputes shown) = shown
part_told told = record { outer_seed = []; outer_opening = [] }

-- the shuffle that a stage of a kind ends, if it ends one
abbrev pub shuffle_ended : Option StageKind → Option ℕ
shuffle_ended (Some (Final shuffle)) = Some shuffle
shuffle_ended kind = None

-- the keys that a member said and its seed convict it
abbrev pub seed_conviction : ClosedStage → ℕ → Verdict
seed_conviction v member = conviction v.round member WrongSeed (sent_in v 0 member ∷ sent_in v v.stage member ∷ [])

-- the number of the member at a place, from 0, of which the seed is not that of its key
abbrev pub wrong_at : List (List ℕ) → List (List ℕ) → ℕ → Option ℕ
wrong_at seeds keys place = if bytes_eq (key_of_seed (slice_index_or seeds place [])) (slice_index_or keys place []) then None else Some
    (place + 1)

-- whether an accusation holds, by what was said to the end of a stage
abbrev pub is_held_at : ClosedStage → Accusation → Bool
is_held_at v a = is_held (shape_at v) (past_at v) a

-- an accusation that holds
abbrev pub held_at : ClosedStage → Accusation → Option Accusation
held_at v a = if is_held_at v a then Some a else None

-- the accusation that an item opened to, if it holds
abbrev pub held_by : ClosedStage → Option (List ℕ) → Option Accusation
held_by v item = option_and_then (held_at v) (option_and_then accusation_of item)
