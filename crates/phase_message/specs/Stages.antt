-- The stages of a round, and who speaks in each.
use Rattle.std.specs.Prelude.{ℕ, List, [], ◌∷◌, ◌++◌, map, Bool, false, nat_eq, nat_le, ◌&&◌, Option, Some, None}
use Rattle.std.specs.List.{slice_get, range_with_len}
use Rattle.phase_message.specs.declared.shape.Shape.{Shape as GivenShape}
use Rattle.phase_message.specs.declared.stage.StageKind.{StageKind}
use Rattle.phase_message.specs.declared.stage.StageKind.TheVariants.{Keys, Submit, Shuffle, Go, Final, Pad, Check, Confirm}
use Rattle.phase_message.specs.Shape.{Shape}

-- the two numbers of a shape that a call is given
abbrev pub shape_of : GivenShape → Shape
shape_of given = record { version = given.version; members = given.members }

-- the turns of a shuffle: of member 1, 2, .., to the last
abbrev pub turns : ℕ → ℕ → List StageKind
turns shuffle n = map (λ k. Shuffle shuffle k) (range_with_len 1 n)

-- The stages in their order, from number 0 on. Shuffle A is number 1 and shuffle B number 2.
abbrev pub stages : Shape → List StageKind
stages shape =
    (Keys ∷ Submit 1 ∷ []) ++ (turns 1 shape.members
    ++ ((Go 1 ∷ Final 1 ∷ Pad ∷ Check ∷ Confirm ∷ Submit 2 ∷ []) ++ (turns 2 shape.members
    ++ (Go 2 ∷ Final 2 ∷ []))))

-- what a stage is, if the round has it
abbrev pub kind_of_stage : Shape → ℕ → Option StageKind
kind_of_stage shape stage = slice_get (stages shape) stage

-- the numbers of members are 1, 2, .., n
abbrev pub is_member : ℕ → ℕ → Bool
is_member n sender = nat_le 1 sender && nat_le sender n

-- who speaks in a stage of a kind: one member at its turn of a shuffle, else all
abbrev pub is_sender : Shape → StageKind → ℕ → Bool
is_sender shape (Shuffle shuffle k) sender = nat_eq sender k
is_sender shape Keys sender = is_member shape.members sender
is_sender shape (Submit shuffle) sender = is_member shape.members sender
is_sender shape (Go shuffle) sender = is_member shape.members sender
is_sender shape (Final shuffle) sender = is_member shape.members sender
is_sender shape Pad sender = is_member shape.members sender
is_sender shape Check sender = is_member shape.members sender
is_sender shape Confirm sender = is_member shape.members sender

-- whether somebody speaks: a stage that the round does not have has no sender
abbrev pub speaks : Shape → Option StageKind → ℕ → Bool
speaks shape None sender = false
speaks shape (Some kind) sender = is_sender shape kind sender

-- whether a stage and a member are a slot: the round has the stage, and the member speaks in it
abbrev pub is_slot : Shape → ℕ → ℕ → Bool
is_slot shape stage sender = speaks shape (kind_of_stage shape stage) sender

-- the votes that a closing stage closes: those of the shuffle, or those on what was seen
abbrev pub vote_of : StageKind → Option StageKind
vote_of (Final shuffle) = Some (Go shuffle)
vote_of Confirm = Some Check
vote_of _ = None
