-- Until when a member needs its secrets.
use Rattle.std.specs.Prelude.{◌≡◌, ℕ, ◌+◌, Bool, true, false, not, ◌&&◌, nat_lt, is_some}
use Rattle.round_spec.specs.Slots.{final_stage, submit_stage}
use Rattle.member_spec.specs.declared.mood.Mood.{Mood}
use Rattle.member_spec.specs.declared.mood.Mood.TheVariants.{Unasked, Mute}
use Rattle.member_parts.specs.Endings.{is_going}
use Rattle.member_core.specs.Membership.{Holdings}

-- how many stages a member was asked at or goes past: those before the one that is being filled, and this one once it
-- was asked there
abbrev pub stages_behind : ℕ → Mood → ℕ
stages_behind stage Unasked = stage
stages_behind stage mood = stage + 1

-- whether a member that fills this stage is past another, or was asked there
abbrev pub was_asked : ℕ → Mood → ℕ → Bool
was_asked stage mood other = nat_lt other (stages_behind stage mood)

-- whether it says nothing more
abbrev pub is_mute : Mood → Bool
is_mute Mute = true
is_mute mood = false

-- whether the secrets that a stage takes are still needed: the round is open, the member is not mute, and it was not
-- asked at that stage yet
abbrev pub needs : Holdings → ℕ → Bool
needs h stage = is_going h.ending && (not (is_mute h.mood) && not (was_asked h.stage h.mood stage))

-- a member holds just the secrets that it still needs: those of a shuffle until its end, and those of the messages until
-- the submission to shuffle B
pub record HoldsNeeded (h : Holdings) : Type 0 where
  pub first : is_some h.secrets.first ≡ needs h (final_stage h.log.shape 1)
  pub bulk : is_some h.secrets.bulk ≡ needs h (submit_stage h.log.shape 2)
  pub second : is_some h.secrets.second ≡ needs h (final_stage h.log.shape 2)
