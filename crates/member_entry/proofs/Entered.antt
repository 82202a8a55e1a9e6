-- How the answers of the steps go together by which a member enters a round.
use Rattle.std.proofs.Common.{◌≡◌, ◌⊎◌, inl, inr, refl, sym, ◌∙◌, ap, subst, ℕ, ◌≤◌, ◌==◌, List, [], length, true, false, Option, Some, None, Result, Ok, Err, IsOk, IfErr, arith}
use Rattle.outside.specs.Changes.{Change, Failed}
use Rattle.crash_disk.specs.Names.{Names}
use Rattle.lms_tree.specs.Secret.{own_public}
use Rattle.lms_tree.specs.declared.keys.LmsPublic.{LmsPublic}
use Rattle.lms_tree.specs.Tree.{key_bytes}
use Rattle.bulk_descriptor.specs.declared.making.TheConstants.{MESSAGE_LIMIT}
use Rattle.group_roster.specs.declared.refusal.RosterRefusal.{RosterRefusal}
use Rattle.group_roster.specs.declared.refusal.RosterRefusal.TheVariants.{Bad, Memory as RosterMemory}
use Rattle.group_roster.specs.Binary.{roster_read}
use Rattle.group_roster.specs.Roster.{Roster}
use Rattle.key_store.specs.declared.layout.KeyContent.{KeyContent}
use Rattle.key_store.specs.KeyFiles.{parts_in}
use Rattle.key_store.specs.Store.{KeyState}
use Rattle.group_roster.specs.Given.{roster_of}
use Rattle.offline_commands.specs.declared.commands.TheConstants.{ROSTER_LIMIT}
use Rattle.offline_commands.specs.declared.status.Status.{Status}
use Rattle.offline_commands.specs.declared.status.Status.TheVariants.{NotMember, OutOfMemory, ReadFault, Usage}
use Rattle.offline_commands.specs.Outcome.{Yields, within}
use Rattle.offline_commands.specs.Outside.{DiskTold, Held, Shows}
use Rattle.offline_commands.specs.Refusals.{RefusesRoster, roster_status}
use Rattle.member_entry.specs.declared.entering.Entrant.{Entrant as EntrantRead}
use Rattle.member_entry.specs.Entering.{Entrant, Found, MemberWords, before_key, entrant_by, key_file_told, number_in, or_bad_key_file}
use Rattle.member_entry.specs.Steps.{Enters, IsUntouched, KeepsHeld, KeepsKeyFile, Opens}
use Rattle.member_entry.proofs.Opening.{same_stands, some_read}

-- some file that may have stood at a name
some_file : (told : Option Held) (name : List ℕ) → (file : Option (List ℕ)) × Shows told name file
some_file None name = (Some [], refl)
some_file (Some held) name = (held name, refl)

-- bytes within their limit
within_limit : (limit : ℕ) (bytes : List ℕ) → length bytes ≤ limit → within limit (Some bytes) ≡ Ok bytes
within_limit limit bytes short = grind arith

-- the same names
keeps_same : (names : Option Names) (name : List ℕ) → KeepsHeld names names name
keeps_same None name = tt
keeps_same (Some names) name = λ other apart. refl

-- what stays while a member enters, before its key file is opened
pub record Stays (files : Change (Option Held)) (disk : Change DiskTold) : Type 0 where
  pub files_kept : files.now ≡ files.before
  pub files_count : files.faults_before ≤ files.faults_now
  pub untouched : IsUntouched disk

-- ---- what it comes to, step by step

module _ (words : MemberWords) (found : Found) where
  -- a step before the key file refuses
  refused_first : (status : Status) → before_key words found ≡ Err status → entrant_by words found ≡ Err status
  refused_first status is = rw is

  -- the roster's file is not read
  no_roster : (status : Status) → within ROSTER_LIMIT found.roster_file ≡ Err status → before_key words found ≡ Err status
  no_roster status is = rw is

  module _ (bytes : List ℕ) (is : within ROSTER_LIMIT found.roster_file ≡ Ok bytes) where
    -- it is no roster
    bad_roster : (at rule : ℕ) → roster_read bytes ≡ Err (at, rule) → before_key words found ≡ Err (roster_status (Bad at rule))
    bad_roster at rule read = rw (is, read)

    module _ (roster : Roster) (read : roster_read bytes ≡ Ok roster) where
      -- there is not an address for each member
      no_addresses : (length words.addresses == length roster.keys) ≡ false → before_key words found ≡ Err Usage
      no_addresses counts = rw (is, read, counts)

      module _ (counts : (length words.addresses == length roster.keys) ≡ true) where
        -- the message is not read
        no_message : (status : Status) → within MESSAGE_LIMIT found.message_file ≡ Err status → before_key words found ≡ Err status
        no_message status message = rw (is, read, counts, message)

        -- nothing is refused before the key file
        all_first : (message : List ℕ) → within MESSAGE_LIMIT found.message_file ≡ Ok message → before_key words found ≡ Ok (roster, message)
        all_first message taken = rw (is, read, counts, taken)

  module _ (roster : Roster) (message : List ℕ) (first : before_key words found ≡ Ok (roster, message)) where
    -- then the disk may be touched
    may_touch : (disk : Change DiskTold) → IfErr (before_key words found) (λ _. IsUntouched disk)
    may_touch disk = rw first tt

    is_passed : IsOk (before_key words found)
    is_passed = rw first refl

    -- the key file is none
    no_key : (at : ℕ) → found.key_file ≡ Err at → entrant_by words found ≡ Err (Status.BadKeyFile at)
    no_key at key = rw (first, key)

    module _ (key : KeyContent) (opens : found.key_file ≡ Ok key) where
      -- the roster does not have the key
      no_member : number_in roster (key_bytes (own_public (parts_in key))) ≡ None → entrant_by words found ≡ Err NotMember
      no_member none = rw (first, opens, none)

      -- all is there
      entrant : (number : ℕ) → number_in roster (key_bytes (own_public (parts_in key))) ≡ Some number
          → entrant_by words found ≡ Ok (record { roster = roster; number = number; message = message; key = key })
      entrant number some = rw (first, opens, some)

-- ---- what is answered

-- what was found where the roster's file and the message were looked at
abbrev found_first : Change DiskTold → MemberWords → (roster_file message_file : Option (List ℕ)) → Found
found_first disk words file message = record {
  roster_file = file;
  message_file = message;
  key_file = (some_read (key_file_told disk.before words.key)).0;
}

-- and where the message was not looked at
abbrev found_roster : Change (Option Held) → Change DiskTold → MemberWords → Option (List ℕ) → Found
found_roster files disk words file = found_first disk words file (some_file files.before words.message).0

-- the answer to what is refused before the key file is opened
refuses_first : (files : Change (Option Held)) (disk : Change DiskTold) (words : MemberWords) (file message : Option (List ℕ)) (status : Status)
    → Stays files disk → Shows files.before words.roster file → Shows files.before words.message message
    → (before_key words (found_first disk words file message) ≡ Err status) ⊎ (status ≡ OutOfMemory) ⊎ ((status ≡ ReadFault) × Failed files)
    → Enters files disk words (Err status)
refuses_first files disk words file message status stays shows shows_message why =
    let was : Found = found_first disk words file message in
    let keeps : KeepsKeyFile disk words.key = ap (λ (d : DiskTold). key_file_told d words.key) stays.untouched.told in
    record {
      found = was;
      roster = shows;
      message = shows_message;
      key = (some_read (key_file_told disk.before words.key)).1;
      answers = elim why [
        | inl is ↦ inl (refused_first words was status is, keeps)
        | inr others ↦ inr (elim others [
          | inl memory ↦ inl (memory, keeps)
          | inr fault ↦ inr (inl (fault.0, fault.1, stays.untouched))
        ])
      ];
      untouched = if_err (before_key words was) stays.untouched;
      stands = same_stands (key_file_told disk.before words.key) (key_file_told disk.now words.key) keeps;
      names = subst (λ (d : DiskTold). KeepsHeld disk.before.names d.names words.key) (sym stays.untouched.told)
          (keeps_same disk.before.names words.key);
      files_kept = stays.files_kept;
      files_count = stays.files_count;
      disk_count = omega (arith, stays.untouched.count);
    }
  where
    if_err : (first : Result (Roster × List ℕ) Status) → IsUntouched disk → IfErr first (λ _. IsUntouched disk)
    if_err (Ok first) untouched = tt
    if_err (Err e) untouched = untouched

-- the same where the message was not looked at
refuses_roster : (files : Change (Option Held)) (disk : Change DiskTold) (words : MemberWords) (file : Option (List ℕ)) (status : Status)
    → Stays files disk → Shows files.before words.roster file
    → (before_key words (found_roster files disk words file) ≡ Err status) ⊎ (status ≡ OutOfMemory) ⊎ ((status ≡ ReadFault) × Failed files)
    → Enters files disk words (Err status)
refuses_roster files disk words file status stays shows why =
    let message = some_file files.before words.message in
    refuses_first files disk words file message.0 status stays shows message.1 why

same_error : (a b : Status) → ◌≡◌ {A = Result (List ℕ) Status} (Err a) (Err b) → a ≡ b
same_error a b e = cc

-- a file that is not read, as what refuses it
unread : (fault fault' : Type 0) (expected : Result (Roster × List ℕ) Status) (read : Result (List ℕ) Status) (status : Status) → (fault → fault')
    → ((s : Status) → read ≡ Err s → expected ≡ Err s) → Yields fault read (Err status)
    → (expected ≡ Err status) ⊎ (status ≡ OutOfMemory) ⊎ ((status ≡ ReadFault) × fault')
unread fault fault' expected read status more so (inl is) = inl (so status (sym is))
unread fault fault' expected read status more so (inr (inl memory)) = inr (inl (same_error status OutOfMemory memory))
unread fault fault' expected read status more so (inr (inr (is, failed))) = inr (inr (same_error status ReadFault is, more failed))

-- whether there is an address for each member
pub not_counted : (addresses members counted total : ℕ) → counted ≡ addresses → total ≡ members → (counted ≡ total → ⊥)
    → (addresses == members) ≡ false
not_counted addresses members counted total e f apart = grind arith

pub all_counted : (addresses members counted total : ℕ) → counted ≡ addresses → total ≡ members → counted ≡ total
    → (addresses == members) ≡ true
all_counted addresses members counted total e f same = grind arith

-- the roster's file could not be read
pub roster_unread : (files : Change (Option Held)) (disk : Change DiskTold) (words : MemberWords) (status : Status) → Stays files disk
    → ((file : Option (List ℕ)) × Shows files.before words.roster file × Yields (Failed files) (within ROSTER_LIMIT file) (Err status))
    → Enters files disk words (Err status)
roster_unread files disk words status stays (file, shows, yields) =
    refuses_roster files disk words file status stays shows
    (unread (Failed files) (Failed files) _ (within ROSTER_LIMIT file) status (λ f. f) (no_roster words (found_roster files disk words file)) yields)

-- the same under another name for the name
pub unread_named : (told : Option Held) (name name' : List ℕ) (limit : ℕ) (fault : Type 0) (status : Status) → name ≡ name'
    → ((file : Option (List ℕ)) × Shows told name file × Yields fault (within limit file) (Err status))
    → (file : Option (List ℕ)) × Shows told name' file × Yields fault (within limit file) (Err status)
unread_named told name name' limit fault status e read =
    subst (λ n. (file : Option (List ℕ)) × Shows told n file × Yields fault (within limit file) (Err status)) e read

-- and of files that were read before
pub read_later : (told told' : Option Held) (name : List ℕ) (limit : ℕ) (fault : Type 0) (status : Status) → told' ≡ told
    → ((file : Option (List ℕ)) × Shows told' name file × Yields fault (within limit file) (Err status))
    → (file : Option (List ℕ)) × Shows told name file × Yields fault (within limit file) (Err status)
read_later told told' name limit fault status e read =
    subst (λ t. (file : Option (List ℕ)) × Shows t name file × Yields fault (within limit file) (Err status)) e read

pub shown_later : (told told' : Option Held) (name bytes : List ℕ) → told' ≡ told → Shows told' name (Some bytes) → Shows told name (Some bytes)
shown_later told told' name bytes e shows = subst (λ t. Shows t name (Some bytes)) e shows

-- a file was read
pub record HasRead (told : Option Held) (name : List ℕ) (limit : ℕ) (bytes : List ℕ) : Type 0 where
  pub shows : Shows told name (Some bytes)
  pub short : length bytes ≤ limit

pub has_read : (told : Option Held) (name name' : List ℕ) (limit : ℕ) (bytes : List ℕ) → name ≡ name' → Shows told name (Some bytes)
    → length bytes ≤ limit → HasRead told name' limit bytes
has_read told name name' limit bytes e shows short = record { shows = subst (λ n. Shows told n (Some bytes)) e shows; short = short }

-- it is outside the grammar
pub roster_refused : (files : Change (Option Held)) (disk : Change DiskTold) (words : MemberWords) (bytes bytes' : List ℕ)
    (refusal : RosterRefusal) → Stays files disk → HasRead files.before words.roster ROSTER_LIMIT bytes → bytes' ≡ bytes → RefusesRoster (roster_read bytes') refusal
    → Enters files disk words (Err (roster_status refusal))
roster_refused files disk words bytes bytes' (Bad at rule) stays has e refuses =
    refuses_roster files disk words (Some bytes) _ stays has.shows
    (inl (bad_roster words (found_roster files disk words (Some bytes)) bytes (within_limit ROSTER_LIMIT bytes has.short) at rule
    (ap roster_read (sym e) ∙ refuses)))
roster_refused files disk words bytes bytes' RosterMemory stays has e refuses =
    refuses_roster files disk words (Some bytes) _ stays has.shows (inr (inl refl))

-- a roster that was read and decoded
pub record HasRoster (files : Change (Option Held)) (words : MemberWords) (roster : Roster) : Type 0 where
  pub bytes : List ℕ
  pub file : HasRead files.before words.roster ROSTER_LIMIT bytes
  pub decoded : roster_read bytes ≡ Ok roster

pub decoded : (bytes bytes' : List ℕ) (roster : Roster) → bytes' ≡ bytes → roster_read bytes' ≡ Ok roster → roster_read bytes ≡ Ok roster
decoded bytes bytes' roster e read = ap roster_read (sym e) ∙ read

-- there is not an address for each member
pub uncounted : (files : Change (Option Held)) (disk : Change DiskTold) (words : MemberWords) (roster : Roster) → Stays files disk
    → HasRoster files words roster → (length words.addresses == length roster.keys) ≡ false → Enters files disk words (Err Usage)
uncounted files disk words roster stays has counts =
    refuses_roster files disk words (Some has.bytes) Usage stays has.file.shows
    (inl (no_addresses words (found_roster files disk words (Some has.bytes)) has.bytes (within_limit ROSTER_LIMIT has.bytes has.file.short)
    roster has.decoded counts))

-- the message could not be read
pub message_unread : (files : Change (Option Held)) (disk : Change DiskTold) (words : MemberWords) (roster : Roster) (fault : Type 0)
    (status : Status) → Stays files disk → HasRoster files words roster → (length words.addresses == length roster.keys) ≡ true → (fault → Failed files)
    → ((file : Option (List ℕ)) × Shows files.before words.message file × Yields fault (within MESSAGE_LIMIT file) (Err status))
    → Enters files disk words (Err status)
message_unread files disk words roster fault status stays has counts more (file, shows, yields) =
    refuses_first files disk words (Some has.bytes) file status stays has.file.shows shows
    (unread fault (Failed files) _ (within MESSAGE_LIMIT file) status more
    (no_message words (found_first disk words (Some has.bytes) file) has.bytes
    (within_limit ROSTER_LIMIT has.bytes has.file.short) roster has.decoded counts) yields)

-- all that was read before the key file was opened
pub record HasAll (files : Change (Option Held)) (words : MemberWords) (roster : Roster) (message : List ℕ) : Type 0 where
  pub has : HasRoster files words roster
  pub counts : (length words.addresses == length roster.keys) ≡ true
  pub text : HasRead files.before words.message MESSAGE_LIMIT message

-- what was found then, with a reading of the key file
abbrev found_all : {files : Change (Option Held)} {words : MemberWords} {roster : Roster} {message : List ℕ} → HasAll files words roster message
    → Result KeyContent ℕ → Found
found_all {files} {words} {roster} {message} all read = record { roster_file = Some all.has.bytes; message_file = Some message; key_file = read }

-- so nothing was refused before it
passed : (files : Change (Option Held)) (words : MemberWords) (roster : Roster) (message : List ℕ) (all : HasAll files words roster message)
    (read : Result KeyContent ℕ) → before_key words (found_all all read) ≡ Ok (roster, message)
passed files words roster message all read =
    all_first words (found_all all read) all.has.bytes (within_limit ROSTER_LIMIT all.has.bytes all.has.file.short) roster all.has.decoded
    all.counts message (within_limit MESSAGE_LIMIT message all.text.short)

-- a key file that was opened, under another name for its name
pub opens_named : (disk : Change DiskTold) (name name' : List ℕ) (answer : Result KeyState Status) → name ≡ name' → Opens disk name answer
    → Opens disk name' answer
opens_named disk name name' answer e opens = subst (λ n. Opens disk n answer) e opens

-- the key file was not opened
pub key_unopened : (files : Change (Option Held)) (disk : Change DiskTold) (words : MemberWords) (roster : Roster) (message : List ℕ)
    (status : Status) → files.now ≡ files.before → files.faults_before ≤ files.faults_now → HasAll files words roster message
    → Opens disk words.key (Err status) → Enters files disk words (Err status)
key_unopened files disk words roster message status kept count all opens =
    let was : Found = found_all all opens.read in
    let first = passed files words roster message all opens.read in
    record {
      found = was;
      roster = all.has.file.shows;
      message = all.text.shows;
      key = opens.told;
      answers = elim opens.answers [
        | inl is ↦ inl (by_read opens.read is.0, is.1)
        | inr others ↦ inr (elim others [
          | inl memory ↦ inl memory
          | inr fault ↦ inr (inr (fault.0, fault.1, is_passed words was roster message first))
        ])
      ];
      untouched = may_touch words was roster message first disk;
      stands = opens.stands;
      names = opens.names;
      files_kept = kept;
      files_count = count;
      disk_count = opens.count;
    }
  where
    same : (at : ℕ) → ◌≡◌ {A = Result KeyContent Status} (Err (Status.BadKeyFile at)) (Err status)
        → ◌≡◌ {A = Result Entrant Status} (Err (Status.BadKeyFile at)) (Err status)
    same at e = cc

    by_read : (read : Result KeyContent ℕ) → or_bad_key_file read ≡ Err status → entrant_by words (found_all all read) ≡ Err status
    by_read (Ok key) is = cc
    by_read (Err at) is = no_key words (found_all all (Err at)) roster message (passed files words roster message all (Err at)) at refl
        ∙ same at is

-- the roster does not have its key
pub not_member : (files : Change (Option Held)) (disk : Change DiskTold) (words : MemberWords) (roster : Roster) (message : List ℕ)
    (key : KeyState) (public : LmsPublic) (bytes : List ℕ) → files.now ≡ files.before → files.faults_before ≤ files.faults_now
    → HasAll files words roster message → Opens disk words.key (Ok key) → public ≡ own_public key.parts → bytes ≡ key_bytes public
    → number_in roster bytes ≡ None → Enters files disk words (Err NotMember)
not_member files disk words roster message key public bytes kept count all opens public_is bytes_are none =
    let a = opens.answers in
    let content : KeyContent = a.0 in
    let same : bytes ≡ key_bytes (own_public (parts_in content)) = bytes_are
    ∙ ap key_bytes (public_is ∙ ap own_public a.2.parts) in
    let was : Found = found_all all opens.read in
    let first = passed files words roster message all opens.read in
    record {
      found = was;
      roster = all.has.file.shows;
      message = all.text.shows;
      key = opens.told;
      answers = inl (no_member words was roster message first content a.1 (ap (number_in roster) (sym same) ∙ none), a.4);
      untouched = may_touch words was roster message first disk;
      stands = opens.stands;
      names = opens.names;
      files_kept = kept;
      files_count = count;
      disk_count = opens.count;
    }

-- all was read
pub entered : (files : Change (Option Held)) (disk : Change DiskTold) (words : MemberWords) (e : EntrantRead)
    (public : LmsPublic) (bytes : List ℕ) → files.now ≡ files.before → files.faults_before ≤ files.faults_now
    → HasAll files words (roster_of e.roster) e.message.items → Opens disk words.key (Ok e.key) → public ≡ own_public e.key.parts
    → bytes ≡ key_bytes public → number_in (roster_of e.roster) bytes ≡ Some e.number → Enters files disk words (Ok e)
entered files disk words e public bytes kept count all opens public_is bytes_are some =
    let a = opens.answers in
    let content : KeyContent = a.0 in
    let same : bytes ≡ key_bytes (own_public (parts_in content)) = bytes_are
    ∙ ap key_bytes (public_is ∙ ap own_public a.2.parts) in
    let was : Found = found_all all opens.read in
    let first = passed files words (roster_of e.roster) e.message.items all opens.read in
    record {
      found = was;
      roster = all.has.file.shows;
      message = all.text.shows;
      key = opens.told;
      answers = (
        record { roster = roster_of e.roster; number = e.number; message = e.message.items; key = content },
        entrant words was (roster_of e.roster) e.message.items first content a.1 e.number
            (ap (number_in (roster_of e.roster)) (sym same) ∙ some),
        record { roster = refl; number = refl; message = refl; key = a.2 },
        a.3,
        a.4,
      );
      untouched = may_touch words was (roster_of e.roster) e.message.items first disk;
      stands = opens.stands;
      names = opens.names;
      files_kept = kept;
      files_count = count;
      disk_count = opens.count;
    }
