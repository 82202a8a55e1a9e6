-- What is answered before the member takes part: nothing was taken and nothing posted.
use Rattle.std.proofs.Common.{◌≡◌, ◌≢◌, ◌⊎◌, inl, inr, refl, sym, ap, ◌∙◌, subst, ℕ, ◌≤◌, List, Option, Some, None, Result, Ok, Err, arith}
use Rattle.std.specs.Prelude.{IfErr, IsOk, IsSomeAnd}
use Rattle.wire_core.proofs.AnswerLemmas.{bind_ok}
use Rattle.outside.specs.Changes.{Change, Failed}
use Rattle.outside.specs.Faults.{Rose}
use Rattle.crash_disk.specs.Names.{IsOfChosen, StaysBeside}
use Rattle.lms_tree.specs.States.{RunState}
use Rattle.key_store.specs.Crashes.{LeavesHalfRaised}
use Rattle.key_store.specs.Store.{KeyState}
use Rattle.key_store.specs.declared.layout.KeyContent.{KeyContent}
use Rattle.round_link.specs.Traffic.{Shown}
use Rattle.round_spec.specs.Say.{Configuration}
use Rattle.offline_commands.specs.declared.status.Status.{Status}
use Rattle.offline_commands.specs.declared.status.Status.TheVariants.{DiskFault, LinkFault, OutOfMemory, ReadFault}
use Rattle.offline_commands.specs.Outside.{DiskTold, Held, OthersStay}
use Rattle.member_entry.specs.declared.entering.Entrant.{Entrant as EntrantRead}
use Rattle.member_entry.specs.Entering.{Entrant, Found, MemberWords, ROUND_LEAVES, before_key, configuration_by, entrance_by, entrant_by, key_file_told, or_not_begun}
use Rattle.member_entry.specs.Steps.{Begins, Enters, IsOpen, IsReadFault, IsUntouched, KeepsHeld, KeepsKeyFile}
use Rattle.online_commands.specs.TakingPart.{IsIdle, Outside}
use Rattle.online_commands.specs.Promise.{BreaksOff, ComesOf, IsMemberAnswered, IsSilent, WasFound}
use Rattle.online_commands.proofs.Raised.{is-half-raised, is-raised, names-beside}

-- ---- small facts

pub others-same : (told now : Option Held) (name : List ℕ) → now ≡ told → OthersStay told now name
others-same None now name same = tt
others-same (Some held) now name same =
    subst (λ (o : Option Held). IsSomeAnd o (λ after. (other : List ℕ) → other ≢ name → after other ≡ held other)) (sym same)
    (λ other apart. refl)

-- a count that rose in a call rose since an earlier one
pub rose-from : (begun before now : ℕ) → begun ≤ before → Rose before now → Rose begun now
rose-from begun before now le rose = omega (arith, le, rose)

pub no-less : (begun before now : ℕ) → begun ≤ before → before ≤ now → begun ≤ now
no-less begun before now le more = omega (arith, le, more)

-- what holds anyway holds where something is refused
pub whenever : {A : Type 0} (r : Result A Status) (P : Type 0) → P → IfErr r (λ _. P)
whenever (Ok x) P p = tt
whenever (Err status) P p = p

-- and nothing is refused where something stands
pub never : {A : Type 0} (r : Result A Status) (x : A) (P : Type 0) → r ≡ Ok x → IfErr r (λ _. P)
never (Ok y) x P is = tt
never (Err status) x P is = absurd cc

told-same : (a b : Status) → a ≡ b → (let told : Status → Result (List ℕ) Status = λ s. Err s in told a ≡ told b)
told-same a b e = cc

-- the outside over a call, part by part
abbrev pub outside_of : Change (Option Held) → Change DiskTold → (before now : Shown) → Outside
outside_of files disk before now = record { files = files; disk = disk; link_before = before; link_now = now }

-- ---- what the words come to

refused-entrant : (words : MemberWords) (fresh : List ℕ) (found : Found) (status : Status) → entrant_by words found ≡ Err status
    → entrance_by words fresh found ≡ Err status
refused-entrant words fresh found status is = rw is

refused-round : (words : MemberWords) (fresh : List ℕ) (found : Found) (entrant : Entrant) (status : Status)
    → entrant_by words found ≡ Ok entrant → or_not_begun words.round entrant.key ≡ Err status → entrance_by words fresh found ≡ Err status
refused-round words fresh found entrant status is refuses = rw (is, refuses)

pub entrance-ok : (words : MemberWords) (fresh : List ℕ) (found : Found) (entrant : Entrant) → entrant_by words found ≡ Ok entrant
    → or_not_begun words.round entrant.key ≡ Ok tt
    → entrance_by words fresh found ≡ Ok (entrant, configuration_by words.round fresh entrant)
entrance-ok words fresh found entrant is begun = rw (is, begun)

is-ok : {A : Type 0} (r : Result A Status) (x : A) → r ≡ Ok x → IsOk r
is-ok {A} r x is = subst (λ (o : Result A Status). IsOk o) (sym is) refl

-- what a member comes with stands behind the steps before the key file
entered-first : (words : MemberWords) (found : Found) (entrant : Entrant) → entrant_by words found ≡ Ok entrant
    → IsOk (before_key words found)
entered-first words found entrant is =
    let first = bind_ok (before_key words found) _ entrant is in
    is-ok (before_key words found) first.0 first.1

-- ---- answers

pub broken : (outside : Outside) (words : MemberWords) (found : Found) (r : Result (Entrant × Configuration) Status)
    (answer : Result (List ℕ) Status)
    → IsSilent outside words found → BreaksOff outside words found answer → ComesOf outside words found r answer
broken outside words found (Err status) answer silent breaks = (silent, inr breaks)
broken outside words found (Ok entrance) answer silent breaks = inl (silent, breaks)

refused : (outside : Outside) (words : MemberWords) (found : Found)
    (r : Result (Entrant × Configuration) Status) (status : Status) → IsSilent outside words found
    → r ≡ Err status → KeepsKeyFile outside.disk words.key → ComesOf outside words found r (Err status)
refused outside words found r status silent is keeps =
    subst (λ (e : Result (Entrant × Configuration) Status). ComesOf outside words found e (Err status)) (sym is) (silent, inl (refl, keeps))

-- what a call found that took nothing and posted nothing, and what it left
record IsQuiet (outside : Outside) (words : MemberWords) (found : Found) : Type 0 where
  found_so : WasFound outside words found
  silent : IsSilent outside words found
  names : KeepsHeld outside.disk.before.names outside.disk.now.names words.key
  files_count : outside.files.faults_before ≤ outside.files.faults_now
  disk_count : outside.disk.faults_before ≤ outside.disk.faults_now
  link_count : outside.link_before.faults ≤ outside.link_now.faults

quiet-answers : (outside : Outside) (fresh : List ℕ) (words : MemberWords) (found : Found) (answer : Result (List ℕ) Status)
    → IsQuiet outside words found → ComesOf outside words found (entrance_by words fresh found) answer
    → IsMemberAnswered outside fresh (Some words) answer
quiet-answers outside fresh words found answer q comes = record {
  answers = (found, q.found_so, comes);
  files_kept = others-same outside.files.before outside.files.now words.transcript q.silent.files;
  names_kept = q.names;
  files_count = q.files_count;
  disk_count = q.disk_count;
  link_count = q.link_count;
}

quiet-entered : (files : Change (Option Held)) (disk : Change DiskTold) (words : MemberWords) (link now : Shown)
    (a : Result EntrantRead Status) (e : Enters files disk words a) → IsIdle link now → link.faults ≤ now.faults
    → IfErr (entrant_by words e.found) (λ _. now ≡ link) → IsQuiet (outside_of files disk link now) words e.found
quiet-entered files disk words link now a e idle more alone = record {
  found_so = record { roster = e.roster; message = e.message; key = e.key };
  silent = record { files = e.files_kept; link = idle; disk_alone = e.untouched; link_alone = alone };
  names = e.names;
  files_count = e.files_count;
  disk_count = e.disk_count;
  link_count = more;
}

-- the words, the files or the key file are refused, or are not read
pub not-entered : (files : Change (Option Held)) (disk : Change DiskTold) (words : MemberWords) (fresh : List ℕ) (link : Shown)
    (status : Status) → Enters files disk words (Err status)
    → IsMemberAnswered (outside_of files disk link link) fresh (Some words) (Err status)
not-entered files disk words fresh link status e =
    let quiet = quiet-entered files disk words link link (Err status) e (refl, refl, refl) (omega arith)
    (whenever (entrant_by words e.found) (link ≡ link) refl) in
    quiet-answers (outside_of files disk link link) fresh words e.found (Err status) quiet (comes e.found quiet.silent e.answers)
  where
    comes : (found : Found) → IsSilent (outside_of files disk link link) words found
        → ((entrant_by words found ≡ Err status) × KeepsKeyFile disk words.key)
        ⊎ ((status ≡ OutOfMemory) × KeepsKeyFile disk words.key) ⊎ IsReadFault files disk (before_key words found) status
        → ComesOf (outside_of files disk link link) words found (entrance_by words fresh found) (Err status)
    comes found silent (inl (is, keeps)) = refused (outside_of files disk link link) words found (entrance_by words fresh found)
        status silent (refused-entrant words fresh found status is) keeps
    comes found silent (inr (inl (memory, keeps))) = broken (outside_of files disk link link) words found (entrance_by words fresh found)
        (Err status) silent (inl (told-same status OutOfMemory memory, keeps))
    comes found silent (inr (inr (inl (is, failed, untouched)))) = broken (outside_of files disk link link) words found (entrance_by words fresh found)
        (Err status) silent (inr (inl (told-same status ReadFault is, failed, untouched)))
    comes found silent (inr (inr (inr (is, failed, ok)))) = broken (outside_of files disk link link) words found
        (entrance_by words fresh found) (Err status) silent
        (inr (inr (inl (told-same status DiskFault is, failed, ok, inl e.stands))))

-- the link is not there
pub not-linked : (files : Change (Option Held)) (disk : Change DiskTold) (words : MemberWords) (fresh : List ℕ) (link now : Shown)
    (e : EntrantRead) (status : Status) → Enters files disk words (Ok e) → IsIdle link now → link.faults ≤ now.faults
    → (status ≡ OutOfMemory) ⊎ ((status ≡ LinkFault) × Rose link.faults now.faults)
    → IsMemberAnswered (outside_of files disk link now) fresh (Some words) (Err status)
not-linked files disk words fresh link now e status enters idle more why =
    let quiet = quiet-entered files disk words link now (Ok e) enters idle more
    (never (entrant_by words enters.found) enters.answers.0 (now ≡ link) enters.answers.1) in
    quiet-answers (outside_of files disk link now) fresh words enters.found (Err status) quiet
    (broken (outside_of files disk link now) words enters.found (entrance_by words fresh enters.found) (Err status)
    quiet.silent (breaks why))
  where
    breaks : (status ≡ OutOfMemory) ⊎ ((status ≡ LinkFault) × Rose link.faults now.faults)
        → BreaksOff (outside_of files disk link now) words enters.found (Err status)
    breaks (inl memory) = inl (told-same status OutOfMemory memory, enters.answers.4)
    breaks (inr (is, rose)) = inr (inr (inr (
      told-same status LinkFault is,
      rose,
      is-ok (entrant_by words enters.found) enters.answers.0 enters.answers.1,
      enters.answers.4,
    )))

-- ---- once the key file is open

-- the change of a disk up to its middle, and from there on
abbrev pub first_part : Change DiskTold → DiskTold → ℕ → Change DiskTold
first_part disk mid faults = record { faults_before = disk.faults_before; faults_now = faults; before = disk.before; now = mid }

abbrev pub second_part : Change DiskTold → DiskTold → ℕ → Change DiskTold
second_part disk mid faults = record { faults_before = faults; faults_now = disk.faults_now; before = mid; now = disk.now }

-- what a member has that has entered, is in touch with the others, and has asked for the round to begin
pub record HasAsked (files : Change (Option Held)) (disk : Change DiskTold) (mid : DiskTold) (faults : ℕ) (words : MemberWords) (link now : Shown)
    (e : EntrantRead) (key : KeyState) (run : Result RunState Status) : Type 0 where
  pub enters : Enters files (first_part disk mid faults) words (Ok e)
  pub begins : (content : KeyContent) → IsOpen e.key content → Begins (second_part disk mid faults) words.round content key run
  pub beside : StaysBeside mid.names disk.now.names
  pub idle : IsIdle link now
  pub link_count : link.faults ≤ now.faults

quiet-asked : (files : Change (Option Held)) (disk : Change DiskTold) (mid : DiskTold) (faults : ℕ) (words : MemberWords) (link now : Shown)
    (e : EntrantRead) (key : KeyState) (run : Result RunState Status)
    → (h : HasAsked files disk mid faults words link now e key run) → IsQuiet (outside_of files disk link now) words h.enters.found
quiet-asked files disk mid faults words link now e key run h =
    let entrant = h.enters.answers in
    let begun = h.begins entrant.0.key entrant.2.key in
    record {
      found_so = record { roster = h.enters.roster; message = h.enters.message; key = h.enters.key };
      silent = record {
        files = h.enters.files_kept;
        link = h.idle;
        disk_alone = (let first = bind_ok (before_key words h.enters.found) _ entrant.0 entrant.1 in
            never (before_key words h.enters.found) first.0 _ first.1);
        link_alone = never (entrant_by words h.enters.found) entrant.0 (now ≡ link) entrant.1;
      };
      names = names-beside disk.before.names mid.names disk.now.names words.key h.enters.names entrant.3 h.beside;
      files_count = h.enters.files_count;
      disk_count = no-less disk.faults_before faults disk.faults_now h.enters.disk_count begun.count;
      link_count = h.link_count;
    }

-- a round that begins, by another name of its number
pub begun-named : (disk : Change DiskTold) (opened key : KeyState) (run : Result RunState Status) (a b : ℕ) → a ≡ b
    → ((content : KeyContent) → IsOpen opened content → Begins disk a content key run)
    → (content : KeyContent) → IsOpen opened content → Begins disk b content key run
begun-named disk opened key run a b same begins content is =
    subst (λ (round : ℕ). Begins disk round content key run) same (begins content is)

-- the round is refused, or the key file is not raised
pub not-begun : (files : Change (Option Held)) (disk : Change DiskTold) (mid : DiskTold) (faults : ℕ) (words : MemberWords) (fresh : List ℕ)
    (link now : Shown) (e : EntrantRead) (key : KeyState) (status : Status)
    → HasAsked files disk mid faults words link now e key (Err status)
    → IsOfChosen mid.names mid.file → IsOfChosen disk.now.names disk.now.file
    → IsMemberAnswered (outside_of files disk link now) fresh (Some words) (Err status)
not-begun files disk mid faults words fresh link now e key status h of now_of =
    let entrant = h.enters.answers in
    let quiet = quiet-asked files disk mid faults words link now e key (Err status) h in
    quiet-answers (outside_of files disk link now) fresh words h.enters.found (Err status) quiet
    (comes h.enters.found entrant.0 quiet.silent entrant.1 entrant.4 (h.begins entrant.0.key entrant.2.key).answers)
  where
    comes : (found : Found) (entrant : Entrant) → IsSilent (outside_of files disk link now) words found → entrant_by words found ≡ Ok entrant
        → KeepsKeyFile (first_part disk mid faults) words.key
        → ((or_not_begun words.round entrant.key ≡ Err status) × IsUntouched (second_part disk mid faults))
        ⊎ ((status ≡ OutOfMemory) × IsUntouched (second_part disk mid faults))
        ⊎ ((status ≡ DiskFault) × Failed (second_part disk mid faults) × (or_not_begun words.round entrant.key ≡ Ok tt)
        × LeavesHalfRaised mid.file disk.now.file entrant.key ROUND_LEAVES)
        → ComesOf (outside_of files disk link now) words found (entrance_by words fresh found) (Err status)
    comes found entrant silent is keeps (inl (refuses, untouched)) = refused (outside_of files disk link now) words
        found (entrance_by words fresh found) status silent (refused-round words fresh found entrant status is refuses)
        (ap (λ (d : DiskTold). key_file_told d words.key) untouched.told ∙ keeps)
    comes found entrant silent is keeps (inr (inl (memory, untouched))) = broken (outside_of files disk link now) words
        found (entrance_by words fresh found) (Err status) silent
        (inl (told-same status OutOfMemory memory, ap (λ (d : DiskTold). key_file_told d words.key) untouched.told ∙ keeps))
    comes found entrant silent is keeps (inr (inr (fault, failed, could, torn))) = broken (outside_of files disk link now) words
        found (entrance_by words fresh found) (Err status) silent
        (inr (inr (inl (
          told-same status DiskFault fault,
          rose-from disk.faults_before faults disk.faults_now h.enters.disk_count failed,
          entered-first words found entrant is,
          inr (entrant, is, could, is-half-raised disk mid words.key keeps h.enters.answers.3 h.beside of now_of entrant.key torn),
        ))))

-- memory is wanting once it has begun
pub no-memory : (files : Change (Option Held)) (disk : Change DiskTold) (mid : DiskTold) (faults : ℕ) (words : MemberWords) (fresh : List ℕ)
    (link now : Shown) (e : EntrantRead) (key : KeyState) (run : RunState)
    → HasAsked files disk mid faults words link now e key (Ok run)
    → IsOfChosen mid.names mid.file → IsOfChosen disk.now.names disk.now.file
    → IsMemberAnswered (outside_of files disk link now) fresh (Some words) (Err OutOfMemory)
no-memory files disk mid faults words fresh link now e key run h of now_of =
    let quiet = quiet-asked files disk mid faults words link now e key (Ok run) h in
    let entered = h.enters.answers in
    let begun = h.begins entered.0.key entered.2.key in
    let raised = is-raised disk mid words.key entered.4 entered.3 h.beside of now_of words.round entered.0 begun.answers.2 in
    quiet-answers (outside_of files disk link now) fresh words h.enters.found (Err OutOfMemory) quiet
    (subst (λ (r : Result (Entrant × Configuration) Status).
    ComesOf (outside_of files disk link now) words h.enters.found r (Err OutOfMemory))
    (sym (entrance-ok words fresh h.enters.found entered.0 entered.1 begun.answers.0)) (inr (inl (quiet.silent, refl, raised))))
