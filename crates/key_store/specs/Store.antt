-- A key file as its callers see it, and what its calls answer.
use Rattle.std.specs.Prelude.{◌≡◌, ℕ, ◌+◌, ◌<◌, ◌≤◌, Bool, false, IsTrue, List, take, Option, Some, None, IfSome, Result, Ok, Err, IsOk}
use Rattle.lms_tree.specs.Secret.{SecretParts, leaves}
use Rattle.lms_tree.specs.States.{RunState, SecretState, made_leaves}
use Rattle.key_store.specs.declared.layout.Standing.{Standing}
use Rattle.key_store.specs.declared.layout.KeyContent.{KeyContent}
use Rattle.key_store.specs.declared.refusals.StoreRefusal.{StoreRefusal}
use Rattle.key_store.specs.declared.refusals.StoreRefusal.TheVariants.{DiskFault, NotKeyFile, OldRound, Exhausted, Memory}
use Rattle.crash_disk.specs.declared.disk.DiskAnswer.{DiskAnswer}
use Rattle.crash_disk.specs.declared.disk.DiskAnswer.TheVariants.{Done, Failed}
use Rattle.outside.specs.Faults.{Rose}
use Rattle.key_store.specs.History.{Handed}
use Rattle.key_store.specs.KeyFiles.{IsAtRest, key_read, parts_in, stands}

-- what the key is of, the file's first 128 bytes as they were last read or written, and whether the disk failed
pub record KeyState : Type 0 where
  pub parts : SecretParts
  pub image : List ℕ
  pub failed : Bool

-- the greatest round, and the least leaf that was not handed out
abbrev pub kept_by : KeyState → Standing
kept_by key = stands (leaves key.parts) key.image

abbrev pub leaves_of : KeyState → ℕ
leaves_of key = leaves key.parts

-- the file, and whatever a crash leaves of it, is as the key file holds it, unless the disk failed
abbrev pub IsCurrent : KeyState → Option (List ℕ) → (images : List ℕ → Type 0) → Type 0
IsCurrent key told images = key.failed ≡ false → IsAtRest told images key.image

-- the secret is that of a file that was read so, and its next leaf is that which the file stands for
abbrev pub IsSecretOf : Result KeyContent ℕ → SecretState → Type 0
IsSecretOf (Ok content) secret = secret ≡ record { parts = parts_in content; next = content.kept.next }
IsSecretOf (Err at) secret = ⊥

-- a key file of these bytes, which were read so
abbrev pub IsLoaded : Result KeyContent ℕ → List ℕ → KeyState → Type 0
IsLoaded (Ok content) image key =
    (key ≡ record { parts = parts_in content; image = image; failed = false }) × (kept_by key ≡ content.kept)
IsLoaded (Err at) image key = ⊥

-- a key file that works, and says this, may begin a round that is greater, and for which enough leaves are left
pub record MayBegin (key : KeyState) (content : KeyContent) (round leaves : ℕ) : Type 0 where
  pub works : key.failed ≡ false
  pub read : key_read key.image ≡ Ok content
  pub parts : key.parts ≡ parts_in content
  pub kept : kept_by key ≡ content.kept
  pub later : content.kept.round < round
  pub enough : content.kept.next + leaves ≤ made_leaves content.height

-- what it says once the round has begun
abbrev pub begun_by : KeyContent → (round leaves : ℕ) → KeyContent
begun_by content round leaves = record content { kept = record { round = round; next = content.kept.next + leaves } }

-- why a round may not begin: the disk failed before; or the round is not greater; or else fewer leaves are left
abbrev pub RoundRefused : StoreRefusal → KeyState → (round leaves : ℕ) → Type 0
RoundRefused DiskFault key round leaves = IsTrue key.failed
RoundRefused (OldRound kept) key round leaves = (key.failed ≡ false) × (kept ≡ (kept_by key).round) × (round ≤ (kept_by key).round)
RoundRefused (Exhausted next) key round leaves =
    (key.failed ≡ false) × (next ≡ (kept_by key).next) × ((kept_by key).round < round) × (leaves_of key < (kept_by key).next + leaves)
RoundRefused Memory key round leaves = ⊥
RoundRefused (NotKeyFile at) key round leaves = ⊥

-- the disk failed: its count of faults rose
abbrev pub IsFault : StoreRefusal → (before now : ℕ) → Type 0
IsFault refusal before now = (refusal ≡ DiskFault) × Rose before now

-- why a file was not loaded; memory was short only where it is a key file
abbrev pub LoadRefused : StoreRefusal → Option (List ℕ) → (before now : ℕ) → Type 0
LoadRefused (NotKeyFile at) told before now = IfSome told (λ file. key_read (take 128 file) ≡ Err at)
LoadRefused DiskFault told before now = Rose before now
LoadRefused Memory told before now = IfSome told (λ file. IsOk (key_read (take 128 file)))
LoadRefused (OldRound kept) told before now = ⊥
LoadRefused (Exhausted next) told before now = ⊥

-- why bytes that were read so gave no key file
abbrev pub FrontRefused : StoreRefusal → Result KeyContent ℕ → Type 0
FrontRefused (NotKeyFile at) read = read ≡ Err at
FrontRefused Memory read = IsOk read
FrontRefused DiskFault read = ⊥
FrontRefused (OldRound kept) read = ⊥
FrontRefused (Exhausted next) read = ⊥

-- what was handed out for a round
abbrev pub handed_by : (round : ℕ) → Result RunState StoreRefusal → Option Handed
handed_by round (Ok run) = Some record { round = round; first = run.first; leaves = run.left }
handed_by round (Err e) = None

-- what the raise of a file that says this hands out
abbrev pub handed_when : DiskAnswer → KeyContent → (round leaves : ℕ) → Option Handed
handed_when Done content round leaves = Some record { round = round; first = content.kept.next; leaves = leaves }
handed_when Failed content round leaves = None
