-- What becomes of a member that asked its conduct about a content.
use Rattle.std.proofs.Common.{◌≡◌, ℕ, ◌+◌, ◌≤◌, Bool, true, false, List, [], length, Option, ap, sym, ◌∙◌, refl, subst, arith, inl, inr, eq-eqb}
use Rattle.std.specs.Prelude.{◌==◌, IsSome, unwrap_or}
use Rattle.std.proofs.lemmas.Bool.{cases_lt, cond-false, cond-true, eqb-true, false_from_ne_true, lt-ltb, ltb-true}
use Rattle.phase_message.specs.declared.post.Post.{Post}
use Rattle.phase_message.specs.Shape.{Shape}
use Rattle.phase_message.specs.Stages.{kind_of_stage}
use Rattle.stage_log.specs.Log.{before, contents_of}
use Rattle.stage_log.specs.Table.{Log}
use Rattle.stage_log.proofs.Fronts.{before-front, some_is}
use Rattle.stage_log.proofs.Pasts.{some_of}
use Rattle.shuffle_blame.specs.Asked.{past_of}
use Rattle.bulk_descriptor.specs.Descriptor.{Description, made_descriptor}
use Rattle.round_spec.specs.Say.{Configuration, own_description, own_pad_seeds, shape_in}
use Rattle.round_spec.specs.Slots.{bulk_place, keys_said}
use Rattle.honest_say.proofs.Staying.{keys_stay}
use Rattle.member_spec.specs.declared.conduct.Speech.{Speech}
use Rattle.member_spec.specs.declared.conduct.Speech.TheVariants.{Wait, Silent}
use Rattle.member_spec.specs.declared.mood.Mood.TheVariants.{Mute, PutOff, Spoken}
use Rattle.member_spec.specs.Actor.{Actor, actor_behind_answer, actor_behind_question, speech_about}
use Rattle.member_spec.specs.Replies.{HasSlot, Replies}
use Rattle.member_parts.specs.Secrets.{no_secrets}
use Rattle.member_core.specs.declared.machine.Machine.{Machine}
use Rattle.member_core.specs.Asking.{IsSpeakable, IsToBeAsked, StandsAsked, asked_at}
use Rattle.member_core.specs.Membership.{holdings_of}
use Rattle.member_core.specs.Needs.{HoldsNeeded, was_asked}
use Rattle.member_core.specs.Shorts.{own_limit}
use Rattle.member_core.specs.Sound.{IsFormed, IsReady, IsSound, slot_here}
use Rattle.member_core.specs.Stands.{AnswersBy, IsOwnOf, StandsFor}
use Rattle.member_core.proofs.Changes.{at-mood, entry-with, formed-bare, formed-mood, no-secrets-of, ready-mood}
use Rattle.member_core.proofs.Posting.{mute-needed, mute-ready, muted, round-shape, silent-here}

-- ---- the question

-- the descriptor by the keys that were said is the same at every later stage
own-stays : (c : Configuration) (log : Log) (stage : ℕ) → log.shape ≡ shape_in c → IsSome (before log 1) → IsSome (before log stage)
    → 1 ≤ stage
    → own_description c (past_of log 1) ≡ own_description c (past_of log stage)
own-stays c log stage shape first later le =
    ap (λ (keys : List (List ℕ)). made_descriptor keys (own_pad_seeds c) c.number c.message)
    (subst (λ (s : Shape). keys_said s (past_of log 1) bulk_place ≡ keys_said s (past_of log stage) bulk_place) shape
    (keys_stay log 1 stage bulk_place (record { order = le; at = first; at_later = later }) (omega arith)))

asked-told : (now start : Replies) (c : Configuration) (past : List (List ℕ)) (b : Bool) → AnswersBy now start c past b → b ≡ true
    → now.speech ≡ start.speech_after (own_description c past)
asked-told now start c past true e is = e
asked-told now start c past false e is = absurd cc

start-told : (now start : Replies) (c : Configuration) (past : List (List ℕ)) (b : Bool) → AnswersBy now start c past b → b ≡ false
    → now ≡ start
start-told now start c past true e is = absurd cc
start-told now start c past false e is = e

-- the conduct answers as the pure machine's does
pub speech-is : (now start : Replies) (c : Configuration) (a : Actor) (m : Machine) (bytes : List ℕ) → IsFormed m → IsReady m
    → StandsAsked now start c a (holdings_of m) → now.speech m.stage bytes m.log ≡ speech_about start c a bytes
speech-is now start c a m bytes f r s = elim (cases_lt 0 m.stage) [
  | inl behind ↦
      let past = some_of (before m.log m.stage) r.past in
      let first = some_is (before m.log 1) _ (before-front m.log 1 m.stage past.0 behind past.1) in
      let shape = round-shape c m f s.entered in
      let said : past_of m.log m.stage ≡ contents_of a.stand.past = ap (λ (o : Option (List Post)). contents_of (unwrap_or o [])) s.at.past
      in
      let told = asked-told now start c (past_of m.log 1) (was_asked m.stage Spoken 1) s.conduct (lt-ltb 1 (m.stage + 1) (omega arith)) in
      let at = s.at.stage in
      let later : (a.stand.at == 0) ≡ false = false_from_ne_true (a.stand.at == 0)
      (λ e. (let same = eqb-true a.stand.at 0 e in omega arith)) in
      ap (λ (speech : ℕ → List ℕ → Log → Speech). speech m.stage bytes m.log) told
      ∙ ap (λ (own : Description). start.speech_after own m.stage bytes m.log)
      (own-stays c m.log m.stage shape first r.past behind ∙ ap (own_description c) said)
      ∙ here m.stage a.stand.at m.log a.log (start.speech_after (own_description c (contents_of a.stand.past))) at s.at.log
      ∙ sym (cond-false (a.stand.at == 0) _ _ later)
  | inr none ↦
      let asked : was_asked m.stage Spoken 1 ≡ false = false_from_ne_true (was_asked m.stage Spoken 1)
      (λ e. (let lt = ltb-true 1 (m.stage + 1) e in omega arith)) in
      let same = start-told now start c (past_of m.log 1) (was_asked m.stage Spoken 1) s.conduct asked in
      let at = s.at.stage in
      ap (λ (replies : Replies). replies.speech m.stage bytes m.log) same
      ∙ here m.stage a.stand.at m.log a.log start.speech at s.at.log
      ∙ sym (cond-true (a.stand.at == 0) _ _ (eq-eqb a.stand.at 0 (omega arith)))
]
  where
    here : (stage other : ℕ) (log kept : Log) (speech : ℕ → List ℕ → Log → Speech) → stage ≡ other → log ≡ kept
        → speech stage bytes log ≡ speech other bytes kept
    here stage other log kept speech at same = ap (λ (x : ℕ). speech x bytes log) at ∙ ap (λ (l : Log). speech other bytes l) same

-- so behind the answer the member stands for the pure machine behind the question
pub question-so : (now start : Replies) (c : Configuration) (a : Actor) (m n : Machine) (bytes : List ℕ) (speech : Speech) → IsFormed m
    → IsReady m
    → speech ≡ now.speech m.stage bytes m.log → StandsAsked now start c a (holdings_of m)
    → StandsFor now start c (actor_behind_answer c a speech) (holdings_of n)
    → StandsFor now start c (actor_behind_question start c a bytes) (holdings_of n)
question-so now start c a m n bytes speech f r told s behind =
    subst (λ (answer : Speech). StandsFor now start c (actor_behind_answer c a answer) (holdings_of n))
    (told ∙ speech-is now start c a m bytes f r s) behind

-- ---- what is put off

abbrev pub put_off : Machine → List ℕ → Machine
put_off m bytes = record m { mood = PutOff bytes }

pub put_off-sound : (m : Machine) (bytes : List ℕ) → IsFormed m → IsReady m → IsSpeakable m → HasSlot (slot_here m) bytes
    → length bytes ≤ own_limit (kind_of_stage m.log.shape m.stage) → IsSound (put_off m bytes)
put_off-sound m bytes f r able slot short =
    let n : HoldsNeeded (asked_at (holdings_of m) Spoken) = able.needed in
    let silent = silent-here m r able.to_be_asked in
    record {
      formed = formed-mood m (PutOff bytes) f;
      ready = λ still. ready-mood m (PutOff bytes)
          (silent.empty, silent.stray, record { speaks = able.to_be_asked.speaks; slot = slot; short = short }) r;
      needed = record { first = n.first; bulk = n.bulk; second = n.second };
    }

pub put_off-stands : (now start : Replies) (c : Configuration) (a : Actor) (m : Machine) (bytes : List ℕ) → IsToBeAsked m
    → StandsAsked now start c a (holdings_of m) → StandsFor now start c (actor_behind_answer c a (Wait bytes))
    (holdings_of (put_off m bytes))
put_off-stands now start c a m bytes asked s =
    let made_own : IsOwnOf start c (asked_at (holdings_of m) Spoken) = s.own in
    record {
      can_enter = s.can_enter;
      entered = s.entered;
      at = at-mood c (record a { mood = Spoken }) (asked_at (holdings_of m) Spoken) (PutOff bytes) m.secrets m.own s.at;
      conduct = s.conduct;
      own = record { descriptor = made_own.descriptor; pad = made_own.pad; first = made_own.first; second = made_own.second };
    }

-- ---- where nothing is said

pub muted-sound : (m : Machine) → IsFormed m → IsReady m → IsToBeAsked m → IsSound (muted m)
muted-sound m f r asked = record {
  formed = formed-bare m Mute m.ending f;
  ready = λ still. mute-ready m m.leaves m.stray r asked;
  needed = mute-needed (holdings_of (muted m)) refl refl;
}

pub muted-stands : (now start : Replies) (c : Configuration) (a : Actor) (m : Machine) → IsToBeAsked m
    → StandsAsked now start c a (holdings_of m)
    → StandsFor now start c (actor_behind_answer c a Silent) (holdings_of (muted m))
muted-stands now start c a m asked s =
    record {
      can_enter = s.can_enter;
      entered = entry-with c (holdings_of m) no_secrets s.entered (no-secrets-of c);
      at = at-mood c (record a { mood = Spoken }) (asked_at (holdings_of m) Spoken) Mute no_secrets m.own s.at;
      conduct = tt;
      own = tt;
    }
