-- What stays true of a member where something of it changes.
use Rattle.std.proofs.Common.{◌≡◌, ℕ, ◌+◌, ◌-◌, List, [], ◌++◌, ◌∷◌, length, Option, Vec, Global, ap, arith, refl, length-append}
use Rattle.lms_tree.specs.States.{RunState}
use Rattle.phase_message.specs.declared.post.Post.{Post}
use Rattle.stage_log.specs.declared.seen.Seen.{Seen}
use Rattle.round_spec.specs.Say.{Configuration}
use Rattle.honest_say.specs.declared.group_keys.GroupKeys.{GroupKeys}
use Rattle.honest_say.specs.declared.opening.Slots.{Slots}
use Rattle.member_spec.specs.Actor.{Actor}
use Rattle.member_spec.specs.declared.mood.Mood.{Mood}
use Rattle.member_spec.specs.declared.mood.Mood.TheVariants.{Unasked, PutOff, Spoken, Mute}
use Rattle.member_parts.specs.declared.ending.Ending.{Ending}
use Rattle.member_parts.specs.declared.own.Own.{Own}
use Rattle.member_parts.specs.declared.secrets.Secrets.{Secrets}
use Rattle.member_parts.specs.Secrets.{AreSecretsOf, no_secrets}
use Rattle.member_core.specs.declared.machine.Machine.{Machine}
use Rattle.member_core.specs.Membership.{Holdings, posts_made}
use Rattle.member_core.specs.Sound.{IsFormed, IsMachineOf, IsMoodOf, IsReady}
use Rattle.member_core.specs.Stands.{HasEntered, IsAt, IsEntryOf}

-- ---- what it entered with

-- secrets that are not held are of nobody
pub no-secrets-of : (c : Configuration) → AreSecretsOf c no_secrets
no-secrets-of c = record { first = tt; bulk = tt; second = tt }

-- the code, with other secrets
pub held-with : (c : Configuration) (m : Machine) (secrets : Secrets) → IsMachineOf c m → AreSecretsOf c secrets
    → IsMachineOf c (record m { secrets = secrets })
held-with c m secrets is are = record {
  roster = is.roster;
  seat = is.seat;
  message = is.message;
  secrets = are;
  hidden = is.hidden;
  hidden_short = is.hidden_short;
  pad = is.pad;
}

-- the same as its calls see it
pub entry-with : (c : Configuration) (h : Holdings) (secrets : Secrets) → HasEntered c h → AreSecretsOf c secrets
    → HasEntered c (record h { secrets = secrets })
entry-with c h secrets is are = record {
  roster = is.roster;
  number = is.number;
  round = is.round;
  message = is.message;
  key = is.key;
  next = is.next;
  secrets = are;
}

-- a leaf is used
abbrev pub leaf_spent : RunState → RunState
leaf_spent leaves = record { parts = leaves.parts; first = leaves.first + 1; left = leaves.left - 1 }

-- with one post more, which has used a leaf
pub entry-said : (c : Configuration) (h : Holdings) (post : Post) (said : List Post) (secrets : Secrets) → said ≡ posts_made h ++ post ∷ []
    → HasEntered c h → AreSecretsOf c secrets
    → IsEntryOf c h.roster h.number h.round h.message (leaf_spent h.leaves) said secrets
entry-said c h post said secrets made is are = record {
  roster = is.roster;
  number = is.number;
  round = is.round;
  message = is.message;
  key = is.key;
  next = (let used = is.next in let longer = length-append (posts_made h) (post ∷ []) in let more = ap length made in omega
      (arith, used, longer, more));
  secrets = are;
}

-- ---- what is always true

-- it says nothing of the stage, of the mood, of what is carried and of what has ended the round
pub formed-else : (m : Machine) (secrets : Secrets) (own : Own) (seen : Seen) (stage : ℕ) (mood : Mood) (keys : Option GroupKeys)
    (opened : Option (Vec (Option (List ℕ)) Global))
    (slots : Option Slots)
    (ending : Ending) → (c : Configuration) × IsMachineOf c (record m { secrets = secrets; own = own }) → IsFormed m
    → IsFormed (record m {
      secrets = secrets;
      own = own;
      seen = seen;
      stage = stage;
      mood = mood;
      keys = keys;
      opened = opened;
      slots = slots;
      ending = ending;
    })
formed-else m secrets own seen stage mood keys opened slots ending entered formed = record {
  entered = entered;
  message = formed.message;
  log = formed.log;
  shape = formed.shape;
  stand = formed.stand;
  short = formed.short;
  leaves = formed.leaves;
  handed = formed.handed;
  stray = formed.stray;
}

-- with other secrets and with other that it made of its own
pub formed-with : (m : Machine) (secrets : Secrets) (own : Own) → IsFormed m
    → (c : Configuration) × IsMachineOf c (record m { secrets = secrets; own = own })
    → IsFormed (record m { secrets = secrets; own = own })
formed-with m secrets own formed entered =
    formed-else m secrets own m.seen m.stage m.mood m.keys m.opened m.slots m.ending entered formed

-- in another mood
pub formed-mood : (m : Machine) (mood : Mood) → IsFormed m → IsFormed (record m { mood = mood })
formed-mood m mood formed =
    formed-else m m.secrets m.own m.seen m.stage mood m.keys m.opened m.slots m.ending formed.entered formed

-- and without secrets
pub formed-bare : (m : Machine) (mood : Mood) (ending : Ending) → IsFormed m
    → IsFormed (record m { secrets = no_secrets; mood = mood; ending = ending })
formed-bare m mood ending formed =
    let c : Configuration = formed.entered.0 in
    formed-else m no_secrets m.own m.seen m.stage mood m.keys m.opened m.slots ending
    (c, held-with c m no_secrets formed.entered.1 (no-secrets-of c)) formed

-- ---- what is true while the round is open

mood-else : (m : Machine) (leaves : RunState) (stray : Option Post) (handed : ℕ) (secrets : Secrets) (own : Own) (was mood : Mood)
    → IsMoodOf (record m { stray = stray }) mood
    → IsMoodOf (record m { leaves = leaves; mood = was; stray = stray; handed = handed; secrets = secrets; own = own }) mood
mood-else m leaves stray handed secrets own was Unasked is = is
mood-else m leaves stray handed secrets own was (PutOff bytes) is = is
mood-else m leaves stray handed secrets own was Spoken is = is
mood-else m leaves stray handed secrets own was Mute is = is

-- with another mood, another post that it does not keep, and other of what is not spoken of
pub ready-else : (m : Machine) (leaves : RunState) (stray : Option Post) (handed : ℕ) (secrets : Secrets) (own : Own) (mood : Mood)
    → IsMoodOf (record m { stray = stray }) mood → IsReady m
    → IsReady (record m { leaves = leaves; mood = mood; stray = stray; handed = handed; secrets = secrets; own = own })
ready-else m leaves stray handed secrets own mood is ready = record {
  stage = ready.stage;
  past = ready.past;
  seen = ready.seen;
  keys = ready.keys;
  opened = ready.opened;
  slots = ready.slots;
  keys_behind = ready.keys_behind;
  opened_behind = ready.opened_behind;
  slots_behind = ready.slots_behind;
  mood = mood-else m leaves stray handed secrets own mood mood is;
}

-- in another mood
pub ready-mood : (m : Machine) (mood : Mood) → IsMoodOf m mood → IsReady m → IsReady (record m { mood = mood })
ready-mood m mood is ready = ready-else m m.leaves m.stray m.handed m.secrets m.own mood is ready

-- ---- where it stands

-- in another mood, with other secrets and other that it made of its own, it stands where it did
pub at-mood : (c : Configuration) (a : Actor) (h : Holdings) (mood : Mood) (secrets : Secrets) (own : Own) → IsAt c a h
    → IsAt c (record a { mood = mood }) (record h { mood = mood; secrets = secrets; own = own })
at-mood c a h mood secrets own is = record {
  log = is.log;
  stage = is.stage;
  past = is.past;
  mood = refl;
  made = is.made;
  ending = is.ending;
}
