-- What stands on the disk of the key file once a round has begun.
use Rattle.std.proofs.Common.{◌≡◌, sym, ◌∙◌, subst, ℕ, List, take, Option, Some, None, Ok}
use Rattle.std.specs.Prelude.{IfSome, IsSome, IsSomeAnd}
use Rattle.outside.specs.Changes.{Change}
use Rattle.crash_disk.specs.Names.{IsOfChosen, Names, StaysBeside}
use Rattle.key_store.specs.declared.layout.KeyContent.{KeyContent}
use Rattle.key_store.specs.Crashes.{IsHalfRaised, LeavesHalfRaised}
use Rattle.key_store.specs.KeyFiles.{key_read}
use Rattle.offline_commands.specs.Outside.{DiskTold}
use Rattle.member_entry.specs.Entering.{Entrant, ROUND_LEAVES, file_told, key_file_told, raised_to}
use Rattle.member_entry.specs.Steps.{IsChosenNow, IsLeftHalfRaised, KeepsHeld}
use Rattle.online_commands.specs.TakingPart.{IsRaised}

name-same : (a b : List ℕ) → (let told : List ℕ → Option (List ℕ) = λ x. Some x in told a ≡ told b) → a ≡ b
name-same a b e = cc

-- ---- the key file

-- the file under the chosen name is the disk's file
of-chosen : (names : Names) (file : Option (List ℕ)) (name : List ℕ) → names.chosen ≡ Some name
    → IfSome names.chosen (λ n. (names.held n ≡ file) × IsSome file) → names.held name ≡ file
of-chosen names file name chosen of =
    (subst (λ (o : Option (List ℕ)). IfSome o (λ n. (names.held n ≡ file) × IsSome file)) chosen of).0

-- what is told of the disk's file, before and now, is told of the file under the name
told-raised : (names now_names : Option Names) (file now_file : Option (List ℕ)) (name : List ℕ) (P : List ℕ → List ℕ → Type 0)
    → IsChosenNow names name → StaysBeside names now_names → IsOfChosen names file → IsOfChosen now_names now_file
    → IfSome file (λ was. IsSomeAnd now_file (P was))
    → IfSome (file_told names file name) (λ was. IsSomeAnd (file_told now_names now_file name) (P was))
told-raised None now_names file now_file name P chosen beside of now_of raised =
    subst (λ (o : Option Names). IfSome file (λ was. IsSomeAnd (file_told o now_file name) (P was))) (sym beside) raised
told-raised (Some m) None file now_file name P chosen beside of now_of raised = absurd beside
told-raised (Some m) (Some n) file now_file name P chosen beside of now_of raised =
    let held = of-chosen m file name chosen of in
    let now_held = of-chosen n now_file name (beside.chosen ∙ chosen) now_of in
    subst (λ (o : Option (List ℕ)). IfSome o (λ was. IsSomeAnd (n.held name) (P was))) (sym held)
    (subst (λ (o : Option (List ℕ)). IfSome file (λ was. IsSomeAnd o (P was))) (sym now_held) raised)

-- and so since the key file was opened
module _ (disk : Change DiskTold) (mid : DiskTold) (name : List ℕ) (keeps : key_file_told mid name ≡ key_file_told disk.before name)
    (chosen : IsChosenNow mid.names name) (beside : StaysBeside mid.names disk.now.names) (of : IsOfChosen mid.names mid.file)
    (now_of : IsOfChosen disk.now.names disk.now.file) where
  told-since : (P : List ℕ → List ℕ → Type 0) → IfSome mid.file (λ was. IsSomeAnd disk.now.file (P was))
      → IfSome (key_file_told disk.before name) (λ was. IsSomeAnd (key_file_told disk.now name) (P was))
  told-since P raised =
      subst (λ (o : Option (List ℕ)). IfSome o (λ was. IsSomeAnd (key_file_told disk.now name) (P was))) keeps
      (told-raised mid.names disk.now.names mid.file disk.now.file name P chosen beside of now_of raised)

  pub is-raised : (round : ℕ) (entrant : Entrant)
      → IfSome mid.file (λ _. IsSomeAnd disk.now.file (λ bytes. key_read (take 128 bytes) ≡ Ok (raised_to round entrant.key)))
      → IsRaised disk name round entrant
  is-raised round entrant raised = told-since (λ was bytes. key_read (take 128 bytes) ≡ Ok (raised_to round entrant.key)) raised

  pub is-half-raised : (content : KeyContent) → LeavesHalfRaised mid.file disk.now.file content ROUND_LEAVES
      → IsLeftHalfRaised disk name content
  is-half-raised content torn = told-since (IsHalfRaised content ROUND_LEAVES) torn

-- a key file that was opened stands where names are told
pub key-stood : (disk : Change DiskTold) (mid : DiskTold) (name : List ℕ) → KeepsHeld disk.before.names mid.names name
    → key_file_told mid name ≡ key_file_told disk.before name → IsChosenNow mid.names name → IsOfChosen mid.names mid.file
    → IfSome disk.before.names (λ _. IsSome (key_file_told disk.before name))
key-stood disk mid name held keeps chosen of =
    by_names disk.before.names mid.names held chosen of keeps
  where
    stands : (names : Names) → names.chosen ≡ Some name → IfSome names.chosen (λ n. (names.held n ≡ mid.file) × IsSome mid.file)
        → IsSome (names.held name)
    stands names is of_name =
        let parts = subst (λ (o : Option (List ℕ)). IfSome o (λ n. (names.held n ≡ mid.file) × IsSome mid.file)) is of_name in
        subst (λ (o : Option (List ℕ)). IsSome o) (sym parts.0) parts.1

    by_names : (before now : Option Names) → KeepsHeld before now name → IsChosenNow now name → IsOfChosen now mid.file
        → file_told now mid.file name ≡ key_file_told disk.before name
        → IfSome before (λ _. IsSome (key_file_told disk.before name))
    by_names None now held chosen of keeps = tt
    by_names (Some b) None held chosen of keeps = absurd held
    by_names (Some b) (Some n) held chosen of keeps =
        subst (λ (o : Option (List ℕ)). IsSome o) keeps (stands n chosen of)

-- ---- the other names

-- they stay where the key file is changed alone
pub names-beside : (before mid now : Option Names) (name : List ℕ) → KeepsHeld before mid name → IsChosenNow mid name
    → StaysBeside mid now → KeepsHeld before now name
names-beside None mid now name keeps chosen beside = tt
names-beside (Some b) None now name keeps chosen beside = absurd keeps
names-beside (Some b) (Some m) None name keeps chosen beside = absurd beside
names-beside (Some b) (Some m) (Some n) name keeps chosen beside = λ other apart.
    beside.others other (λ is. apart (name-same other name (sym is ∙ chosen))) ∙ keeps other apart
