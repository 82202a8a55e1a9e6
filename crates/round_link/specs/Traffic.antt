-- What a link tells: the frames that have still to come, and the calls that were made. What is said of them is said of
-- links that tell them; a link that tells nothing goes on to tell nothing.
use Rattle.std.specs.Prelude.{◌≡◌, ◌⊎◌, ℕ, List, [], ◌∷◌, ◌++◌, take, slice_get, Option, Some, None}
use Rattle.outside.specs.Faults.{counted}
use Rattle.round_link.specs.declared.link.Arrival.{Arrival}
use Rattle.round_link.specs.declared.link.Arrival.TheVariants.{Frame, End, Failed, OutOfMemory}
use Rattle.round_link.specs.declared.link.LinkAnswer.{LinkAnswer}
use Rattle.round_link.specs.declared.link.LinkAnswer.TheVariants.{Done}
use Rattle.round_link.specs.declared.link_call.LinkCall.{LinkCall}
use Rattle.round_link.specs.declared.link_call.LinkCall.TheVariants.{Received, Posted}

-- the frames that have still to come, and the calls of `recv` and `post` in their order. A post stands there where it was
-- made; a `recv` stands there whatever it answers, but for one that ran out of memory, and one behind an End.
pub record Traffic : Type 0 where
  pub left : List (List ℕ)
  pub calls : List LinkCall

-- the frames that were taken in some calls, and the posts that were made
abbrev pub frames_in : List LinkCall → List (List ℕ)
frames_in [] = []
frames_in (Received (Some frame) ∷ calls) = frame ∷ frames_in calls
frames_in (call ∷ calls) = frames_in calls

abbrev pub posts_in : List LinkCall → List (List ℕ)
posts_in [] = []
posts_in (Posted bytes ∷ calls) = bytes ∷ posts_in calls
posts_in (call ∷ calls) = posts_in calls

-- at each `recv` of some calls, what was called before it has P
abbrev pub AtEachRecv : List LinkCall → (List LinkCall → Type 0) → Type 0
AtEachRecv calls P = (place : ℕ) (frame : Option (List ℕ)) → slice_get calls place ≡ Some (Received frame) → P (take place calls)

-- ---- a call

-- the same with one call more
abbrev pub with_call : Traffic → LinkCall → Traffic
with_call traffic call = record { left = traffic.left; calls = traffic.calls ++ call ∷ [] }

-- a frame is the first of those that were left
abbrev pub TakesFirst : Option Traffic → Option Traffic → List ℕ → Type 0
TakesFirst None now frame = now ≡ None
TakesFirst (Some traffic) now frame =
    (rest : List (List ℕ)) × (traffic.left ≡ frame ∷ rest)
    × (now ≡ Some (record { left = rest; calls = traffic.calls ++ Received (Some frame) ∷ [] }))

-- a `recv` that took none
abbrev pub TakesNone : Option Traffic → Option Traffic → Type 0
TakesNone None now = now ≡ None
TakesNone (Some traffic) now = now ≡ Some (with_call traffic (Received None))

-- no frame is left
abbrev pub IsExhausted : Option Traffic → Type 0
IsExhausted None = Unit {0}
IsExhausted (Some traffic) = traffic.left ≡ []

-- what `recv` does, by what it answers. An End behind an End need not be told.
abbrev pub Receives : Option Traffic → Option Traffic → Arrival → Type 0
Receives old now (Frame frame) = TakesFirst old now frame
Receives old now End = IsExhausted old × (TakesNone old now ⊎ (now ≡ old))
Receives old now Failed = TakesNone old now
Receives old now OutOfMemory = now ≡ old

-- what `post` does, by what it answers
abbrev pub Makes : Option Traffic → Option Traffic → List ℕ → LinkAnswer → Type 0
Makes None now bytes answer = now ≡ None
Makes (Some traffic) now bytes Done = now ≡ Some (with_call traffic (Posted bytes))
Makes (Some traffic) now bytes answer = now ≡ Some traffic

-- ---- counts

-- if an arrival is a frame, its bytes have P
abbrev pub IfFrame : Arrival → (List ℕ → Type 0) → Type 0
IfFrame (Frame frame) P = P frame
IfFrame arrival P = Unit {0}

-- the count of frames behind an arrival, and that of Ends
abbrev pub frames_after : Arrival → ℕ → ℕ
frames_after (Frame frame) count = counted count
frames_after arrival count = count

abbrev pub ends_after : Arrival → ℕ → ℕ
ends_after End count = counted count
ends_after arrival count = count

-- ---- a link at a moment

-- what a link shows: how often a call has failed, how many frames it gave and how often it answered End, and its traffic,
-- where it tells it
pub record Shown : Type 0 where
  pub faults : ℕ
  pub frames : ℕ
  pub ends : ℕ
  pub traffic : Option Traffic

abbrev pub shown_by : {L : Type 0} → (faults frames ends : L → ℕ) → (told : L → Option Traffic) → L → Shown
shown_by faults frames ends told link =
    record { faults = faults link; frames = frames link; ends = ends link; traffic = told link }
