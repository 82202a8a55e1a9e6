-- How the key file of a name is found, and what is known of it then.
use Rattle.std.proofs.Common.{◌≡◌, ◌⊎◌, inl, inr, refl, sym, ◌∙◌, ap, subst, ℕ, ◌≤◌, List, take, false, Option, Some, None, IfSome, IsSome, Result, Ok, Err, arith}
use Rattle.outside.specs.Changes.{Change}
use Rattle.outside.specs.Faults.{Rose}
use Rattle.crash_disk.specs.declared.disk.DiskAnswer.TheVariants.{Done, Failed}
use Rattle.crash_disk.specs.Names.{Chooses, IsOfChosen, Names, StaysBeside}
use Rattle.key_store.specs.declared.layout.KeyContent.{KeyContent}
use Rattle.key_store.specs.KeyFiles.{key_read}
use Rattle.key_store.specs.declared.refusals.StoreRefusal.{StoreRefusal}
use Rattle.key_store.specs.declared.refusals.StoreRefusal.TheVariants.{DiskFault as StoreDiskFault, NotKeyFile}
use Rattle.key_store.specs.Store.{IsLoaded, KeyState, LoadRefused}
use Rattle.offline_commands.specs.declared.status.Status.{Status}
use Rattle.offline_commands.specs.declared.status.Status.TheVariants.{BadKeyFile, DiskFault, OutOfMemory}
use Rattle.offline_commands.specs.Outside.{DiskTold}
use Rattle.member_entry.specs.Entering.{file_told, key_file_told}
use Rattle.member_entry.specs.Steps.{IsChosenNow, IsOpen, KeepsHeld, KeepsKeyFile, KeepsStanding, Opens}

-- some reading of a key file that may not be known
pub some_read : (told : Option (List ℕ)) → (read : Result KeyContent ℕ) × IfSome told (λ bytes. key_read (take 128 bytes) ≡ read)
some_read None = (Err 0, tt)
some_read (Some bytes) = (key_read (take 128 bytes), refl)

-- what is known of a disk whose file of a name was chosen, and kept: its bytes are the file's before and now
pub record IsFound (before now : Option Names) (file file_now : Option (List ℕ)) (name : List ℕ) : Type 0 where
  pub was : file_told before file name ≡ file
  pub is : file_told now file_now name ≡ file
  pub chosen : IsChosenNow now name
  pub keeps : KeepsHeld before now name

-- the file of the chosen name
chosen_file : (names : Names) (name : List ℕ) (file : Option (List ℕ)) → names.chosen ≡ Some name → IsOfChosen (Some names) file
    → names.held name ≡ file
chosen_file names name file chosen of =
    (subst (λ (c : Option (List ℕ)). IfSome c (λ n. (names.held n ≡ file) × IsSome file)) chosen of).0

some_is : (o name : List ℕ) → Some o ≡ Some name → o ≡ name
some_is o name e = cc

-- a name was chosen, and what stands under all names stays since then
pub found : (before middle now : Option Names) (file0 file1 file2 : Option (List ℕ)) (name : List ℕ) → Chooses before middle name false Done
    → file1 ≡ file0 → StaysBeside middle now → file2 ≡ file1 → IsOfChosen middle file1 → IsOfChosen now file2
    → IsFound before now file0 file2 name
found None None None file0 file1 file2 name chooses same stays same2 of of2 =
    record { was = refl; is = same2 ∙ same; chosen = tt; keeps = tt }
found None None (Some now) file0 file1 file2 name chooses same stays same2 of of2 = cc
found None (Some middle) now file0 file1 file2 name chooses same stays same2 of of2 = cc
found (Some before) None now file0 file1 file2 name chooses same stays same2 of of2 = absurd chooses
found (Some before) (Some middle) None file0 file1 file2 name chooses same stays same2 of of2 = absurd stays
found (Some before) (Some middle) (Some now) file0 file1 file2 name chooses same stays same2 of of2 =
    let chose : now.chosen ≡ Some name = stays.chosen ∙ chooses.chosen in
    let held : middle.held name ≡ file1 = chosen_file middle name file1 chooses.chosen of in
    record {
      was = ap (λ (h : List ℕ → Option (List ℕ)). h name) (sym (chooses.kept refl)) ∙ held ∙ same;
      is = chosen_file now name file2 chose of2 ∙ same2 ∙ same;
      chosen = chose;
      keeps = λ other apart. stays.others other (λ e. apart (some_is other name (sym e ∙ chooses.chosen)))
          ∙ ap (λ (h : List ℕ → Option (List ℕ)). h other) (chooses.kept refl);
    }

-- bytes that were known, and stay
pub same_stands : (before now : Option (List ℕ)) → now ≡ before → IfSome before (λ bytes. now ≡ Some bytes)
same_stands None now same = tt
same_stands (Some bytes) now same = same

where_known : (before now : Option (List ℕ)) → (IsSome before → now ≡ before) → IfSome before (λ bytes. now ≡ Some bytes)
where_known None now stays = tt
where_known (Some bytes) now stays = stays refl

-- a name was not chosen
pub refused_keeps : (before now : Option Names) (name : List ℕ) → Chooses before now name false Failed → KeepsHeld before now name
refused_keeps None now name refused = tt
refused_keeps (Some before) None name refused = absurd refused
refused_keeps (Some before) (Some now) name refused = refused.others

pub refused_stands : (before now : Option Names) (file file_now : Option (List ℕ)) (name : List ℕ) → Chooses before now name false Failed
    → file_now ≡ file → IfSome (file_told before file name) (λ bytes. file_told now file_now name ≡ Some bytes)
refused_stands None None file file_now name refused same = same_stands file file_now same
refused_stands None (Some now) file file_now name refused same = cc
refused_stands (Some before) None file file_now name refused same = absurd refused
refused_stands (Some before) (Some now) file file_now name refused same =
    where_known (before.held name) (now.held name) (refused.stood name)

-- ---- what was loaded

-- what a key file says that was loaded
pub record IsRead (key : KeyState) (file : Option (List ℕ)) : Type 0 where
  pub content : KeyContent
  pub is_open : IsOpen key content
  pub told : IfSome file (λ bytes. key_read (take 128 bytes) ≡ Ok content)

says_content : (read : Result KeyContent ℕ) (key : KeyState) → key_read key.image ≡ read → IsLoaded read key.image key → key.failed ≡ false
    → (content : KeyContent) × IsOpen key content
says_content (Ok content) key e (is, kept) works =
    (content, record { works = works; says = e; parts = ap (λ (k : KeyState). k.parts) is; kept = kept })
says_content (Err at) key e loaded works = absurd loaded

image_of : (read : Result KeyContent ℕ) (image : List ℕ) (key : KeyState) → IsLoaded read image key → key.image ≡ image
image_of (Ok content) image key (is, kept) = ap (λ (k : KeyState). k.image) is
image_of (Err at) image key loaded = absurd loaded

told_content : (file : Option (List ℕ)) (key : KeyState) (content : KeyContent)
    → IfSome file (λ bytes. IsLoaded (key_read (take 128 bytes)) (take 128 bytes) key) → key_read key.image ≡ Ok content
    → IfSome file (λ bytes. key_read (take 128 bytes) ≡ Ok content)
told_content None key content loaded says = tt
told_content (Some bytes) key content loaded says =
    ap key_read (sym (image_of (key_read (take 128 bytes)) (take 128 bytes) key loaded)) ∙ says

pub read_of : (key : KeyState) (file : Option (List ℕ)) → IsLoaded (key_read key.image) key.image key → key.failed ≡ false
    → IfSome file (λ bytes. IsLoaded (key_read (take 128 bytes)) (take 128 bytes) key) → IsRead key file
read_of key file says works loaded =
    let c = says_content (key_read key.image) key refl says works in
    record { content = c.0; is_open = c.1; told = told_content file key c.0 loaded c.1.says }

-- ---- what opening came to

-- why it was not loaded
pub refused_at : (e : StoreRefusal) (at : ℕ) (told : Option (List ℕ)) (before now : ℕ) → e ≡ NotKeyFile at → LoadRefused e told before now
    → IfSome told (λ bytes. key_read (take 128 bytes) ≡ Err at)
refused_at e at told before now is refused = subst (λ r. LoadRefused r told before now) is refused

pub refused_by_fault : (e : StoreRefusal) (told : Option (List ℕ)) (before now : ℕ) → e ≡ StoreDiskFault → LoadRefused e told before now
    → Rose before now
refused_by_fault e told before now is refused = subst (λ r. LoadRefused r told before now) is refused

-- a fault of a later call is one of both
pub rose_over : (before middle now : ℕ) → before ≤ middle → Rose middle now → Rose before now
rose_over before middle now le rose = omega arith

-- the name was not chosen, since the disk failed
pub not_chosen : (disk : Change DiskTold) (name : List ℕ) → Rose disk.faults_before disk.faults_now → KeepsStanding disk name
    → KeepsHeld disk.before.names disk.now.names name → disk.faults_before ≤ disk.faults_now → Opens disk name (Err DiskFault)
not_chosen disk name rose stands keeps count =
    let r = some_read (key_file_told disk.before name) in
    record { read = r.0; told = r.1; answers = inr (inr (refl, rose)); stands = stands; names = keeps; count = count }

-- memory was wanting, or the disk failed, once it was chosen
pub unopened : (disk : Change DiskTold) (name : List ℕ) (status : Status)
    → IsFound disk.before.names disk.now.names disk.before.file disk.now.file name
    → (status ≡ OutOfMemory) ⊎ ((status ≡ DiskFault) × Rose disk.faults_before disk.faults_now)
    → disk.faults_before ≤ disk.faults_now → Opens disk name (Err status)
unopened disk name status f why count =
    let r = some_read (key_file_told disk.before name) in
    let keeps : KeepsKeyFile disk name = f.is ∙ sym f.was in
    record {
      read = r.0;
      told = r.1;
      answers = inr (elim why [ inl memory ↦ inl (memory, keeps) | inr fault ↦ inr fault ]);
      stands = same_stands (key_file_told disk.before name) (key_file_told disk.now name) keeps;
      names = f.keeps;
      count = count;
    }

-- the bytes are no key file
pub bad_key_file : (disk : Change DiskTold) (name : List ℕ) (file : Option (List ℕ)) (at : ℕ)
    → IsFound disk.before.names disk.now.names disk.before.file disk.now.file name → file ≡ disk.before.file
    → IfSome file (λ bytes. key_read (take 128 bytes) ≡ Err at) → disk.faults_before ≤ disk.faults_now
    → Opens disk name (Err (BadKeyFile at))
bad_key_file disk name file at f same refused count = record {
  read = Err at;
  told = subst (λ (o : Option (List ℕ)). IfSome o (λ bytes. key_read (take 128 bytes) ≡ Err at)) (same ∙ sym f.was) refused;
  answers = inl (refl, f.is ∙ sym f.was);
  stands = same_stands (key_file_told disk.before name) (key_file_told disk.now name) (f.is ∙ sym f.was);
  names = f.keeps;
  count = count;
}

-- it was loaded
pub opened_key : (disk : Change DiskTold) (name : List ℕ) (file : Option (List ℕ)) (key : KeyState)
    → IsFound disk.before.names disk.now.names disk.before.file disk.now.file name → file ≡ disk.before.file → IsRead key file
    → disk.faults_before ≤ disk.faults_now → Opens disk name (Ok key)
opened_key disk name file key f same r count = record {
  read = Ok r.content;
  told = subst (λ (o : Option (List ℕ)). IfSome o (λ bytes. key_read (take 128 bytes) ≡ Ok r.content)) (same ∙ sym f.was) r.told;
  answers = (r.content, refl, r.is_open, f.chosen, f.is ∙ sym f.was);
  stands = same_stands (key_file_told disk.before name) (key_file_told disk.now name) (f.is ∙ sym f.was);
  names = f.keeps;
  count = count;
}
