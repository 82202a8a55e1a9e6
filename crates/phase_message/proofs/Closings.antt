-- Which stage stands before a closing stage.
use Rattle.std.proofs.Common.{◌≡◌, ℕ, zero, suc, ◌+◌, ◌-◌, ◌≤◌, List, [], ◌∷◌, ◌++◌, map, Option, Some, None, refl, ap, ◌∙◌, arith}
use Rattle.std.specs.List.{slice_get, range_with_len}
use Rattle.phase_message.specs.declared.stage.StageKind.{StageKind}
use Rattle.phase_message.specs.declared.stage.StageKind.TheVariants.{Submit, Shuffle, Go, Final, Pad, Check, Confirm}
use Rattle.phase_message.specs.Shape.{Shape}
use Rattle.phase_message.specs.Stages.{stages, turns, kind_of_stage, vote_of}

-- before a stage with votes stand these votes
abbrev Follows : Option StageKind → Option StageKind → Type 0
Follows before None = Unit {0}
Follows before (Some vote) = before ≡ Some vote

-- so it is for each stage of a list, of which the first stands behind this one
abbrev AllFollow : Option StageKind → List StageKind → Type 0
AllFollow before [] = Unit {0}
AllFollow before (kind ∷ kinds) = Follows before (vote_of kind) × AllFollow (Some kind) kinds

turns-follow : (before : Option StageKind) (shuffle a n : ℕ) (kinds : List StageKind) → ((o : Option StageKind) → AllFollow o kinds)
    → AllFollow before (map (λ k. Shuffle shuffle k) (range_with_len a n) ++ kinds)
turns-follow before shuffle a zero kinds rest = rest before
turns-follow before shuffle a (suc n) kinds rest = (tt, turns-follow (Some (Shuffle shuffle a)) shuffle (a + 1) n kinds rest)

stages-follow : (shape : Shape) → AllFollow None (stages shape)
stages-follow shape =
    let b : (o : Option StageKind) → AllFollow o (turns 2 shape.members ++ last) = λ o. turns-follow o 2 1 shape.members last
    (λ o. (tt, (refl, tt))) in
    let a : (o : Option StageKind) → AllFollow o (middle ++ (turns 2 shape.members ++ last)) = λ o.
    (tt, (refl, (tt, (tt, (refl, (tt, b (Some (Submit 2)))))))) in
    (tt, (tt, turns-follow (Some (Submit 1)) 1 1 shape.members (middle ++ (turns 2 shape.members ++ last)) a))
  where
    last : List StageKind
    last = Go 2 ∷ Final 2 ∷ []

    middle : List StageKind
    middle = Go 1 ∷ Final 1 ∷ Pad ∷ Check ∷ Confirm ∷ Submit 2 ∷ []

-- the stage before one of a list
before_at : Option StageKind → List StageKind → ℕ → Option StageKind
before_at before kinds zero = before
before_at before kinds (suc i) = slice_get kinds i

follows-at : (before : Option StageKind) (kinds : List StageKind) (i : ℕ) (kind vote : StageKind) → AllFollow before kinds
    → slice_get kinds i ≡ Some kind → vote_of kind ≡ Some vote → before_at before kinds i ≡ Some vote
unfolding before_at
follows-at before [] i kind vote all at is = absurd cc
follows-at before (head ∷ kinds) zero kind vote all at is =
    let same : head ≡ kind = cc in
    let votes : vote_of head ≡ Some vote = ap vote_of same ∙ is in
    rw votes at all.0
follows-at before (head ∷ kinds) (suc zero) kind vote all at is = follows-at (Some head) kinds zero kind vote all.1 at is
follows-at before (head ∷ kinds) (suc (suc i)) kind vote all at is = follows-at (Some head) kinds (suc i) kind vote all.1 at is

pub closing-follows : (shape : Shape) (stage : ℕ) (kind vote : StageKind) → kind_of_stage shape stage ≡ Some kind → vote_of kind ≡ Some vote
    → (1 ≤ stage) × (kind_of_stage shape (stage - 1) ≡ Some vote)
unfolding before_at
closing-follows shape zero kind vote at is = absurd (let none = follows-at None (stages shape) 0 kind vote (stages-follow shape) at is in
    cc)
closing-follows shape (suc stage) kind vote at is =
    let place : suc stage - 1 ≡ stage = omega arith in
    (omega arith, ap (slice_get (stages shape)) place ∙ follows-at None (stages shape) (suc stage) kind vote (stages-follow shape) at is)
