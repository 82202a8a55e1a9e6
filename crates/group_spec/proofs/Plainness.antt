-- The conduct of a member without a fault is plain, and so is that of one of two votes.
use Rattle.std.proofs.Common.{◌≡◌, ℕ, List, Option, Some, refl}
use Rattle.std.specs.Prelude.{Result, Ok, Err}
use Rattle.phase_message.specs.declared.content.Content.{Content}
use Rattle.phase_message.specs.declared.offence.Offence.{Offence}
use Rattle.phase_message.specs.Offence.{content_read}
use Rattle.stage_log.specs.Table.{Log}
use Rattle.bulk_descriptor.specs.Descriptor.{Description}
use Rattle.member_spec.specs.declared.conduct.Speech.TheVariants.{Say}
use Rattle.member_spec.specs.Replies.{IsPlain}
use Rattle.round_script.specs.declared.fault.Fault.TheVariants.{None as Honest, TwoVotes}
use Rattle.group_spec.specs.Faulty.{HonestConductsArePlain, faulty_replies, faulty_speech, speech_if_read}

-- what is read so is said as it is
honest-read : (member : ℕ) (own : Option Description) (bytes : List ℕ) (log : Log) (read : Result Content Offence) →
    speech_if_read (record { fault = Honest; member = member; own = own }) bytes log read ≡ Say bytes
honest-read member own bytes log (Ok content) = refl
honest-read member own bytes log (Err offence) = refl

votes-read : (member : ℕ) (own : Option Description) (bytes : List ℕ) (log : Log) (read : Result Content Offence) →
    speech_if_read (record { fault = TwoVotes; member = member; own = own }) bytes log read ≡ Say bytes
votes-read member own bytes log (Ok content) = refl
votes-read member own bytes log (Err offence) = refl

honest-says : (member : ℕ) (own : Option Description) (stage : ℕ) (bytes : List ℕ) (log : Log) →
    faulty_speech (record { fault = Honest; member = member; own = own }) stage bytes log ≡ Say bytes
unfolding faulty_speech
honest-says member own stage bytes log = honest-read member own bytes log (content_read log.shape bytes)

votes-says : (member : ℕ) (own : Option Description) (stage : ℕ) (bytes : List ℕ) (log : Log) →
    faulty_speech (record { fault = TwoVotes; member = member; own = own }) stage bytes log ≡ Say bytes
unfolding faulty_speech
votes-says member own stage bytes log = votes-read member own bytes log (content_read log.shape bytes)

pub honest-plain : (member : ℕ) (own : Option Description) → IsPlain
    (faulty_replies (record { fault = Honest; member = member; own = own }))
honest-plain member own = record {
  descriptor = λ d. refl;
  speech = λ stage bytes log. honest-says member own stage bytes log;
  speech_after = λ d stage bytes log. honest-says member (Some d) stage bytes log;
}

pub votes-plain : (member : ℕ) (own : Option Description) → IsPlain
    (faulty_replies (record { fault = TwoVotes; member = member; own = own }))
votes-plain member own = record {
  descriptor = λ d. refl;
  speech = λ stage bytes log. votes-says member own stage bytes log;
  speech_after = λ d stage bytes log. votes-says member (Some d) stage bytes log;
}

pub honest_are_plain : HonestConductsArePlain
honest_are_plain member own = (honest-plain member own, votes-plain member own)
