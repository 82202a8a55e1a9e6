-- What happens to a key file over time: calls that come to their end, calls that a crash cuts off, and crashes between
-- two calls. A disk is of any type D, with the meanings that `Disk` gives it.
use Rattle.std.specs.Prelude.{◌≡◌, ℕ, ◌+◌, ◌<◌, ◌≤◌, List, [], ◌∷◌, Option, Some, None, IfSome, AllPairs}
use Rattle.key_store.specs.declared.layout.KeyContent.{KeyContent}
use Rattle.crash_disk.specs.Disk.{Every, Only}
use Rattle.key_store.specs.Crashes.{KeepsFront}

-- leaves that a call handed out, and the round for which it did
pub record Handed : Type 0 where
  pub round : ℕ
  pub first : ℕ
  pub leaves : ℕ

-- the round is later, and the leaves come behind
abbrev pub IsBefore : Handed → Handed → Type 0
IsBefore a b = (a.round < b.round) × (a.first + a.leaves ≤ b.first)

-- the same key file, which stands for this round and for the leaf behind these
abbrev pub raised_to : KeyContent → Handed → KeyContent
raised_to least h = record least { kept = record { round = h.round; next = h.first + h.leaves } }

-- what was handed out is beyond what the file stood for at least, and now every image stands for it
pub record IsRaised (least : KeyContent) (h : Handed) (images : List ℕ → Type 0) : Type 0 where
  pub later : least.kept.round < h.round
  pub behind : least.kept.next ≤ h.first
  pub kept : Every images (KeepsFront (raised_to least h))

-- what a call made of a disk whose every image keeps `least`, where it left the disk `new`
pub record IsKept {D : Type 0} (may_leave : D → List ℕ → Type 0) (moment : D → ℕ) (left_since : D → ℕ → List ℕ → Type 0)
    (old new : D) (handed : Option Handed) (least : KeyContent) : Type 0 where
  -- every image keeps it at each moment of the call, and at its end
  pub moments : Every (left_since new (moment old)) (KeepsFront least)
  pub now : Every (may_leave new) (KeepsFront least)
  pub hands : IfSome handed (λ h. IsRaised least h (may_leave new))

-- a call on a key file, and what it handed out
abbrev pub IsCall : {D : Type 0} → (may_leave : D → List ℕ → Type 0) (moment : D → ℕ) (left_since : D → ℕ → List ℕ → Type 0)
    → (old new : D) (handed : Option Handed) → Type 0
IsCall may_leave moment left_since old new handed =
    (least : KeyContent) → Every (may_leave old) (KeepsFront least) → IsKept may_leave moment left_since old new handed least

-- what happens: a call ends with this disk; a crash cuts off a call that would have ended with the first of these disks,
-- and leaves the second; or a crash between two calls leaves this disk
pub data Event (D : Type 0) : Type 0 where
  returned : D → Option Handed → Event D
  cut_off : D → D → Event D
  crashed : D → Event D

-- a crash leaves a disk that tells one of these images, and of which a crash leaves no other
abbrev pub IsLeft : {D : Type 0} → (told : D → Option (List ℕ)) (may_leave : D → List ℕ → Type 0) → (images : List ℕ → Type 0) → D → Type 0
IsLeft told may_leave images left = (image : List ℕ) × images image × (told left ≡ Some image) × Only image (may_leave left)

-- each of these happened to the disk that the one before left
abbrev pub Happened : {D : Type 0} → (told : D → Option (List ℕ)) (may_leave : D → List ℕ → Type 0) (moment : D → ℕ)
    (left_since : D → ℕ → List ℕ → Type 0)
    → (old : D) → List (Event D) → Type 0
Happened told may_leave moment left_since old [] = Unit {0}
Happened told may_leave moment left_since old (returned new handed ∷ events) =
    IsCall may_leave moment left_since old new handed × Happened told may_leave moment left_since new events
Happened told may_leave moment left_since old (cut_off new left ∷ events) =
    (handed : Option Handed) × IsCall may_leave moment left_since old new handed
    × IsLeft told may_leave (left_since new (moment old)) left × Happened told may_leave moment left_since left events
Happened told may_leave moment left_since old (crashed left ∷ events) =
    IsLeft told may_leave (may_leave old) left × Happened told may_leave moment left_since left events

-- the disk in the end
abbrev pub disk_after : {D : Type 0} → D → List (Event D) → D
disk_after old [] = old
disk_after old (returned new handed ∷ events) = disk_after new events
disk_after old (cut_off new left ∷ events) = disk_after left events
disk_after old (crashed left ∷ events) = disk_after left events

-- all that was handed out, in order
abbrev pub all_handed : {D : Type 0} → List (Event D) → List Handed
all_handed [] = []
all_handed (returned new None ∷ events) = all_handed events
all_handed (returned new (Some h) ∷ events) = h ∷ all_handed events
all_handed (cut_off new left ∷ events) = all_handed events
all_handed (crashed left ∷ events) = all_handed events

-- what the file stands for at least once all this was handed out
abbrev pub raised_to_last : KeyContent → List Handed → KeyContent
raised_to_last least [] = least
raised_to_last least (h ∷ handed) = raised_to_last (raised_to least h) handed

-- From a disk of which every image is a key file, whatever happens: rounds rise strictly, the leaves of each come behind
-- those of all earlier ones, so none is handed out twice, and every image stays a key file of the same key that stands
-- for what was handed out last.
abbrev pub IsUsedOnce : {D : Type 0} → (told : D → Option (List ℕ)) (may_leave : D → List ℕ → Type 0) (moment : D → ℕ)
    (left_since : D → ℕ → List ℕ → Type 0) → Type 0
IsUsedOnce {D} told may_leave moment left_since =
    (least : KeyContent) (start : D) (events : List (Event D)) → Every (may_leave start) (KeepsFront least)
    → Happened told may_leave moment left_since start events
    → AllPairs IsBefore (all_handed events)
    × Every (may_leave (disk_after start events)) (KeepsFront (raised_to_last least (all_handed events)))
