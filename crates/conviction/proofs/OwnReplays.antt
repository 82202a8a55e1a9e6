-- The replay of what an honest member kept does not blame the member, whichever rule answers.
use Rattle.std.proofs.Common.{◌≡◌, ℕ, [], ◌∷◌, Option, Some, ap, sym, ◌∙◌, inl, inr}
use Rattle.wire_core.specs.Answers.{first_some}
use Rattle.wire_core.proofs.AnswerLemmas.{first_some-some_parts}
use Rattle.phase_message.specs.declared.stage.StageKind.{StageKind}
use Rattle.phase_message.specs.declared.stage.StageKind.TheVariants.{Confirm, Final}
use Rattle.phase_message.specs.Stages.{kind_of_stage}
use Rattle.shuffle_blame.specs.declared.fault.Fault.{Fault}
use Rattle.shuffle_blame.specs.Replay.{culprit_at, seed_fault, submission_fault, turn_fault, view_fault, vote_fault}
use Rattle.conviction.specs.Blame.{ReplayNotOwn}
use Rattle.conviction.proofs.Closings.{closing-kind}
use Rattle.conviction.proofs.OwnVotes.{no_go_not_own}
use Rattle.conviction.proofs.Replays.{seed_not_own, view_not_own}
use Rattle.conviction.proofs.Shuffles.{shuffle_not_own}
use Rattle.conviction.proofs.Submissions.{submission_not_own}

same-shuffle : (o : Option StageKind) (x y : ℕ) → o ≡ Some (Final x) → o ≡ Some (Final y) → x ≡ y
same-shuffle o x y e f = let both : Some (Final x) ≡ Some (Final y) = sym e ∙ f in cc

not-final : (o : Option StageKind) (x : ℕ) → o ≡ Some Confirm → o ≡ Some (Final x) → ⊥
not-final o x e f = absurd (let both : Some Confirm ≡ Some (Final x) = sym e ∙ f in cc)

nobody : (found : Fault) → (let told : Fault → Option Fault = λ f. Some f in first_some [] ≡ told found) → ⊥
nobody found e = absurd cc

pub replay_not_own : ReplayNotOwn
replay_not_own run q strings found honest is closing shown e own = elim (closing-kind (kind_of_stage q.shape q.stage) closing) [
  | inl (shuffle, kind) ↦
      elim (first_some-some_parts (view_fault q) (seed_fault q shuffle ∷ submission_fault q shuffle ∷ turn_fault q ∷ vote_fault q ∷ [])
      found
      (sym (ap (λ (o : Option StageKind). culprit_at o q) kind) ∙ e)) [
        | inl view ↦ view_not_own run q found honest is view own
        | inr (no_view, e1) ↦ elim (first_some-some_parts (seed_fault q shuffle)
            (submission_fault q shuffle ∷ turn_fault q ∷ vote_fault q ∷ []) found e1) [
              | inl seed ↦ seed_not_own run q shuffle found honest is kind seed own
              | inr (no_seed, e2) ↦ elim (first_some-some_parts (submission_fault q shuffle) (turn_fault q ∷ vote_fault q ∷ []) found e2) [
                | inl submission ↦ submission_not_own run q shuffle found honest is kind no_seed submission own
                | inr (no_submission, e3) ↦ elim (first_some-some_parts (turn_fault q) (vote_fault q ∷ []) found e3) [
                  | inl turn ↦ shuffle_not_own run q shuffle found strings honest is kind no_submission (shown shuffle kind) turn own
                  | inr (no_turn, e4) ↦ elim (first_some-some_parts (vote_fault q) [] found e4) [
                    | inl vote ↦ no_go_not_own run q found honest is closing no_view
                        (λ other at. (let same = same-shuffle (kind_of_stage q.shape q.stage) shuffle other kind at in
                        (ap (seed_fault q) (sym same) ∙ no_seed, ap (submission_fault q) (sym same) ∙ no_submission, no_turn))) vote own
                    | inr (no_vote, e5) ↦ nobody found e5
                  ]
                ]
              ]
            ]
      ]
  | inr kind ↦ elim (first_some-some_parts (view_fault q) (vote_fault q ∷ []) found
      (sym (ap (λ (o : Option StageKind). culprit_at o q) kind) ∙ e)) [
        | inl view ↦ view_not_own run q found honest is view own
        | inr (no_view, e1) ↦ elim (first_some-some_parts (vote_fault q) [] found e1) [
          | inl vote ↦ no_go_not_own run q found honest is closing no_view
              (λ other at. absurd (not-final (kind_of_stage q.shape q.stage) other kind at)) vote own
          | inr (no_vote, e2) ↦ nobody found e2
        ]
      ]
]
