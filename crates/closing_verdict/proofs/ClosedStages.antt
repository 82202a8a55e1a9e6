-- A closing stage all posts of which a log has.
use Rattle.std.proofs.Common.{◌≡◌, ◌⊎◌, ℕ, ◌+◌, ◌-◌, ◌≤◌, true, Option, Some, None, Ok, ap, sym, ◌∙◌, refl, subst, arith, inl, inr}
use Rattle.std.specs.Prelude.{is_some, option_and_then}
use Rattle.std.proofs.lemmas.Option.{none-some}
use Rattle.phase_message.specs.declared.content.Content.{Content}
use Rattle.phase_message.specs.declared.stage.StageKind.{StageKind}
use Rattle.phase_message.specs.declared.stage.StageKind.TheVariants.{Keys as AtKeys, Submit as AtSubmit, Shuffle as AtShuffle, Go as AtGo, Final as AtFinal, Pad as AtPad, Check as AtCheck, Confirm as AtConfirm}
use Rattle.phase_message.specs.Offence.{content_read}
use Rattle.phase_message.specs.Shape.{Shape}
use Rattle.phase_message.specs.Slots.{slots_before}
use Rattle.phase_message.specs.Stages.{kind_of_stage, vote_of}
use Rattle.phase_message.proofs.StageCounts.{confirm-at}
use Rattle.group_roster.specs.Roster.{shape_of_roster}
use Rattle.shuffle_blame.proofs.Endings.{ends_at}
use Rattle.round_spec.specs.Slots.{final_stage}
use Rattle.round_spec.specs.Verdict.{closing_content, is_closing, post_in}
use Rattle.round_spec.specs.Cases.{IsWhole}
use Rattle.closing_verdict.specs.Judgement.{Completed, IsComplete, stage_closed}
use Rattle.closing_verdict.specs.Telling.{shuffle_ended}
use Rattle.closing_verdict.proofs.ClosingPosts.{closed-long}
use Rattle.closing_verdict.proofs.ClosingSaid.{closing-said, content-same}

-- ---- kinds

-- a stage ends a shuffle, or it is behind the checks
abbrev pub IsEnd : Shape → ℕ → Type 0
IsEnd shape stage = ((shuffle : ℕ) × (kind_of_stage shape stage ≡ Some (AtFinal shuffle))) ⊎ (kind_of_stage shape stage ≡ Some AtConfirm)

pub closing-end : (shape : Shape) (stage : ℕ) → is_closing shape stage ≡ true → IsEnd shape stage
closing-end shape stage closing = by_kind (kind_of_stage shape stage) refl
  where
    by_kind : (o : Option StageKind) → kind_of_stage shape stage ≡ o → IsEnd shape stage
    by_kind (Some (AtFinal shuffle)) e = inl (shuffle, e)
    by_kind (Some AtConfirm) e = inr e
    by_kind None e = absurd (let none = sym (ap (λ (o : Option StageKind). is_some (option_and_then vote_of o)) e) ∙ closing in cc)
    by_kind (Some AtKeys) e = absurd (let none = sym (ap (λ (o : Option StageKind). is_some (option_and_then vote_of o)) e) ∙ closing in cc)
    by_kind (Some (AtSubmit shuffle)) e = absurd (let none = sym (ap (λ (o : Option StageKind). is_some (option_and_then vote_of o)) e)
        ∙ closing in cc)
    by_kind (Some (AtShuffle shuffle k)) e = absurd (let none = sym (ap (λ (o : Option StageKind). is_some (option_and_then vote_of o)) e)
        ∙ closing in cc)
    by_kind (Some (AtGo shuffle)) e = absurd (let none = sym (ap (λ (o : Option StageKind). is_some (option_and_then vote_of o)) e)
        ∙ closing in cc)
    by_kind (Some AtPad) e = absurd (let none = sym (ap (λ (o : Option StageKind). is_some (option_and_then vote_of o)) e) ∙ closing in cc)
    by_kind (Some AtCheck) e = absurd (let none = sym (ap (λ (o : Option StageKind). is_some (option_and_then vote_of o)) e)
        ∙ closing in cc)

-- ---- the stage is whole

pub whole-stage : (c : Completed) → IsComplete c → IsWhole (stage_closed c)
whole-stage c is =
    let members : c.log.shape.members ≡ (shape_of_roster c.roster).members = ap (λ (shape : Shape). shape.members) is.shape in record {
      members = omega (arith, is.form.shape.least, members);
      closing = subst (λ (shape : Shape). is_closing shape c.stage ≡ true) is.shape is.closing;
      posts = closed-long c is ∙ ap (λ (shape : Shape). slots_before shape (c.stage + 1)) is.shape;
      named = λ member content who reads. (
          let said = closing-said c is member who.least (let most = who.most in omega (arith, members)) in
          let read : closing_content (stage_closed c) member ≡ Ok said.content = ap
          (λ (shape : Shape). content_read shape (post_in (stage_closed c) c.stage member).content) (sym is.shape) ∙ said.reads in
          ap (λ (x : Content). x.header.stage) (content-same (closing_content (stage_closed c) member) content said.content reads read)
          ∙ said.stage_is);
    }

-- ---- where the ends stand

-- the end of a shuffle is that of the first or the second
pub end-first : (shape : Shape) (stage shuffle : ℕ) → kind_of_stage shape stage ≡ Some (AtFinal shuffle) → shuffle ≡ 1
    → stage ≡ final_stage shape 1
end-first shape stage shuffle kind first = elim (ends_at shape stage shuffle kind) [
  | inl a ↦ (let at = a.1 in let final : final_stage shape 1 ≡ 1 + (shape.members + 2) = refl in omega (arith, at, final))
  | inr b ↦ absurd (let is = b.0 in omega (arith, is, first))
]

pub end-second : (shape : Shape) (stage shuffle : ℕ) → kind_of_stage shape stage ≡ Some (AtFinal shuffle) → (shuffle ≡ 1 → ⊥)
    → (shuffle ≡ 2) × (stage ≡ final_stage shape 2)
end-second shape stage shuffle kind second = elim (ends_at shape stage shuffle kind) [
  | inl a ↦ absurd (second a.0)
  | inr b ↦ (let at = b.1 in let final : final_stage shape 2 ≡ shape.members + 7 + (shape.members + 2) = refl in
      (b.0, omega (arith, at, final)))
]

-- a closing stage is behind the keys and the first shuffle, and there are few
pub record IsLate (shape : Shape) (stage : ℕ) : Type 0 where
  pub least : shape.members + 3 ≤ stage
  pub most : stage ≤ shape.members + shape.members + 9

pub closing-late : (shape : Shape) (stage : ℕ) → is_closing shape stage ≡ true → IsLate shape stage
closing-late shape stage closing = elim (closing-end shape stage closing) [
  | inl final ↦ elim (ends_at shape stage final.0 final.1) [
    | inl a ↦ (let at = a.1 in record { least = omega arith; most = omega arith })
    | inr b ↦ (let at = b.1 in record { least = omega arith; most = omega arith })
  ]
  | inr confirm ↦ (let at = confirm-at shape stage confirm in record { least = omega arith; most = omega arith })
]

-- one that ends no shuffle is behind the checks
pub none-ended : (shape : Shape) (stage : ℕ) → is_closing shape stage ≡ true → shuffle_ended (kind_of_stage shape stage) ≡ None
    → kind_of_stage shape stage ≡ Some AtConfirm
none-ended shape stage closing none = elim (closing-end shape stage closing) [
  | inl final ↦ absurd (none-some final.0 (sym none ∙ ap shuffle_ended final.1))
  | inr confirm ↦ confirm
]
