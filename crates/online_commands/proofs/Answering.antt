-- What comes of words that are not taken further.
use Rattle.std.proofs.Common.{◌≡◌, inl, inr, refl, ℕ, List, [], take, Option, Some, None, Result, Err, arith}
use Rattle.std.specs.Prelude.{IfSome}
use Rattle.crash_disk.specs.Names.{Names}
use Rattle.key_store.specs.declared.layout.KeyContent.{KeyContent}
use Rattle.key_store.specs.KeyFiles.{key_read}
use Rattle.round_link.specs.Traffic.{Shown}
use Rattle.offline_commands.specs.declared.status.Status.TheVariants.{OutOfMemory}
use Rattle.offline_commands.specs.Outside.{DiskTold, Held, Shows}
use Rattle.member_entry.specs.Entering.{Found, MemberWords, before_key, entrance_by, entrant_by, key_file_told}
use Rattle.member_entry.specs.Steps.{KeepsHeld}
use Rattle.online_commands.specs.TakingPart.{Outside}
use Rattle.online_commands.specs.Promise.{IsLeftAlone, IsMemberAnswered, IsSilent}
use Rattle.online_commands.proofs.Stepping.{broken, others-same, whenever}

-- the outside of a call that leaves all as it is
abbrev pub still : (held : Option Held) (files_faults : ℕ) (disk : DiskTold) (disk_faults : ℕ) (link : Shown) → Outside
still held files_faults disk disk_faults link = record {
  files = record { faults_before = files_faults; faults_now = files_faults; before = held; now = held };
  disk = record { faults_before = disk_faults; faults_now = disk_faults; before = disk; now = disk };
  link_before = link;
  link_now = link;
}

some_file : (told : Option Held) (name : List ℕ) → (file : Option (List ℕ)) × Shows told name file
some_file None name = (Some [], refl)
some_file (Some held) name = (held name, refl)

some_read : (told : Option (List ℕ)) → (r : Result KeyContent ℕ) × IfSome told (λ bytes. key_read (take 128 bytes) ≡ r)
some_read None = (Err 0, tt)
some_read (Some bytes) = (key_read (take 128 bytes), refl)

keeps_same : (names : Option Names) (name : List ℕ) → KeepsHeld names names name
keeps_same None name = tt
keeps_same (Some names) name = λ other apart. refl

alone : (held : Option Held) (files_faults : ℕ) (disk : DiskTold) (disk_faults : ℕ) (link : Shown)
    → IsLeftAlone (still held files_faults disk disk_faults link)
alone held files_faults disk disk_faults link = record { files = refl; disk = record { told = refl; count = refl }; link = refl }

silent : (held : Option Held) (files_faults : ℕ) (disk : DiskTold) (disk_faults : ℕ) (link : Shown) (words : MemberWords) (found : Found)
    → IsSilent (still held files_faults disk disk_faults link) words found
silent held files_faults disk disk_faults link words found = record {
  files = refl;
  link = (refl, refl, refl);
  disk_alone = whenever (before_key words found) _ (record { told = refl; count = refl });
  link_alone = whenever (entrant_by words found) _ refl;
}

-- words that memory was wanting for
pub wanting : (held : Option Held) (files_faults : ℕ) (disk : DiskTold) (disk_faults : ℕ) (link : Shown) (fresh : List ℕ)
    (words : Option MemberWords) → IsMemberAnswered (still held files_faults disk disk_faults link) fresh words (Err OutOfMemory)
wanting held files_faults disk disk_faults link fresh None = record {
  answers = (alone held files_faults disk disk_faults link, inr refl);
  files_kept = refl;
  names_kept = refl;
  files_count = omega arith;
  disk_count = omega arith;
  link_count = omega arith;
}
wanting held files_faults disk disk_faults link fresh (Some words) =
    let roster = some_file held words.roster in
    let message = some_file held words.message in
    let key = some_read (key_file_told disk words.key) in
    let found : Found = record { roster_file = roster.0; message_file = message.0; key_file = key.0 } in
    record {
      answers = (
        found,
        record { roster = roster.1; message = message.1; key = key.1 },
        broken (still held files_faults disk disk_faults link) words found (entrance_by words fresh found)
            (Err OutOfMemory) (silent held files_faults disk disk_faults link words found) (inl (refl, refl)),
      );
      files_kept = others-same held held words.transcript refl;
      names_kept = keeps_same disk.names words.key;
      files_count = omega arith;
      disk_count = omega arith;
      link_count = omega arith;
    }
