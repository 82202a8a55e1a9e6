-- Asking again about what was put off.
use Rattle.std.proofs.Common.{◌≡◌, ℕ, List, ap, sym, ◌∙◌, refl, subst}
use Rattle.std.specs.Prelude.{IsTrue, not, ◌&&◌}
use Rattle.shuffle_blame.specs.Asked.{past_of}
use Rattle.round_spec.specs.Say.{Configuration}
use Rattle.round_spec.specs.Slots.{submit_stage}
use Rattle.member_spec.specs.declared.mood.Mood.{Mood}
use Rattle.member_spec.specs.declared.mood.Mood.TheVariants.{Unasked, PutOff, Spoken, Mute}
use Rattle.member_spec.specs.Actor.{Actor, actor_behind_repeat}
use Rattle.member_spec.specs.Replies.{Replies}
use Rattle.member_parts.specs.Endings.{IsOpen, is_going}
use Rattle.member_core.specs.declared.machine.Machine.{Machine}
use Rattle.member_core.specs.Asking.{IsSpeakable, StandsAsked, asked_at}
use Rattle.member_core.specs.Membership.{Holdings, holdings_of}
use Rattle.member_core.specs.Needs.{HoldsNeeded, is_mute, needs, was_asked}
use Rattle.member_core.specs.Sound.{IsMoodOf, IsPutOff, IsReady}
use Rattle.member_core.specs.Stands.{AnswersBy, GoesOn, IsOwnOf, KeepsOwn, StandsFor}
use Rattle.member_core.proofs.Changes.{at-mood, ready-mood}

-- a member in another mood
abbrev pub with_mood : Machine → Mood → Machine
with_mood m mood = record m { mood = mood }

-- ---- what was put off

mood-put-off : (m : Machine) (bytes : List ℕ) → m.mood ≡ PutOff bytes → IsReady m → IsMoodOf m (PutOff bytes)
mood-put-off m bytes e r = subst (λ (mood : Mood). IsMoodOf m mood) e r.mood

pub ready-unasked : (m : Machine) (bytes : List ℕ) → m.mood ≡ PutOff bytes → IsReady m → IsReady (with_mood m Unasked)
ready-unasked m bytes e r =
    let is = mood-put-off m bytes e r in
    ready-mood m Unasked (is.0, is.1) r

pub question-again : (m : Machine) (bytes : List ℕ) → m.mood ≡ PutOff bytes → IsReady m → IsPutOff (with_mood m Unasked) bytes
question-again m bytes e r = (mood-put-off m bytes e r).2

-- a member that was asked needs the same secrets, whether it has put off or spoken
needs-asked : (h : Holdings) (bytes : List ℕ) (stage : ℕ) → h.mood ≡ PutOff bytes → needs h stage ≡ needs (asked_at h Spoken) stage
needs-asked h bytes stage e =
    ap (λ (mood : Mood). is_going h.ending && (not (is_mute mood) && not (was_asked h.stage mood stage))) e

pub speakable-again : (m : Machine) (bytes : List ℕ) → m.mood ≡ PutOff bytes → IsOpen m.ending → IsReady m → HoldsNeeded (holdings_of m)
    → IsSpeakable (with_mood m Unasked)
speakable-again m bytes e going r n =
    let is = mood-put-off m bytes e r in
    record {
      to_be_asked = record { going = going; speaks = is.2.speaks; unasked = refl };
      needed = record {
        first = n.first ∙ needs-asked (holdings_of m) bytes _ e;
        bulk = n.bulk ∙ needs-asked (holdings_of m) bytes _ e;
        second = n.second ∙ needs-asked (holdings_of m) bytes _ e;
      };
    }

-- ---- the pure machine

pub stands-again : (now start : Replies) (c : Configuration) (a : Actor) (h : Holdings) (bytes : List ℕ) → h.mood ≡ PutOff bytes
    → StandsFor now start c a h
    → StandsAsked now start c a (asked_at h Unasked)
stands-again now start c a h bytes e s = record {
  can_enter = s.can_enter;
  entered = s.entered;
  at = at-mood c a h Spoken h.secrets h.own s.at;
  conduct = subst (λ (mood : Mood). AnswersBy now start c (past_of h.log 1) (was_asked h.stage mood 1)) e
      (subst (λ (mood : Mood). GoesOn now start c h mood) e s.conduct);
  own = record {
    descriptor = λ asked. o.descriptor (back 1 asked);
    pad = λ asked. o.pad (back 1 asked);
    first = λ asked not_yet. o.first (back 1 asked) (ap (λ (mood : Mood). was_asked h.stage mood (submit_stage h.log.shape 2)) e ∙ not_yet);
    second = λ asked. o.second (back (submit_stage h.log.shape 2) asked);
  };
}
  where
    o : IsOwnOf start c h
    o = subst (λ (mood : Mood). KeepsOwn start c h mood) e s.own

    back : (stage : ℕ) → IsTrue (was_asked h.stage (PutOff bytes) stage) → IsTrue (was_asked h.stage h.mood stage)
    back stage asked = subst (λ (mood : Mood). IsTrue (was_asked h.stage mood stage)) (sym e) asked

-- where nothing was put off nothing is asked again
pub repeat-none : (replies : Replies) (c : Configuration) (a : Actor) (mood : Mood) → ((bytes : List ℕ) → mood ≡ PutOff bytes → ⊥)
    → actor_behind_repeat replies c a mood ≡ a
repeat-none replies c a Unasked nothing = refl
repeat-none replies c a (PutOff bytes) nothing = absurd (nothing bytes refl)
repeat-none replies c a Spoken nothing = refl
repeat-none replies c a Mute nothing = refl
