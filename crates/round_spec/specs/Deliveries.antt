-- How what is heard grows with each delivery, and when deliveries may be taken whole.
use Rattle.std.specs.Prelude.{◌≡◌, ◌⊎◌, ℕ, ◌+◌, List, [], ◌∷◌, ◌++◌, length, take, IsTrue, Contains, is_ok, Some, None, option_map, if◌then◌else◌}
use Rattle.phase_message.specs.declared.post.Post.{Post}
use Rattle.phase_message.specs.declared.stage.Slot.{Slot}
use Rattle.round_spec.specs.Embedded.{slot_named}
use Rattle.round_spec.specs.Say.{Configuration}
use Rattle.round_spec.specs.Verdict.{Verdict}
use Rattle.round_spec.specs.Course.{Others, Stand, is_open, own_posts}
use Rattle.round_spec.specs.Result.{Heard, Outcome, ending_of, first_posts, heard_of, least_ending, outcome_ended, post_given, posts_of, result_of, stand_after, waiting_outcome}
use Rattle.round_spec.specs.Laws.{IsContained}

-- ---- one delivery more

-- deliveries with one more behind them
abbrev pub with_last : List (List ℕ) → List ℕ → List (List ℕ)
with_last delivered bytes = delivered ++ bytes ∷ []

-- the first post of a slot stays the first, and where there is none the new string may give it
pub record FirstPostsGrow (c : Configuration) (delivered : List (List ℕ)) (bytes : List ℕ) (slot : Slot) : Type 0 where
  pub stays : (post : Post) → first_posts c delivered slot ≡ Some post → first_posts c (with_last delivered bytes) slot ≡ Some post
  pub comes : first_posts c delivered slot ≡ None → first_posts c (with_last delivered bytes) slot ≡ post_given c slot bytes

-- the least number that ends stays, and where none does it may be all, by what ends them
pub record LeastEndingGrows (c : Configuration) (delivered : List (List ℕ)) (bytes : List ℕ) : Type 0 where
  pub stays : (ending : ℕ × Verdict) → least_ending c delivered ≡ Some ending → least_ending c (with_last delivered bytes) ≡ Some ending
  pub comes : least_ending c delivered ≡ None →
      least_ending c (with_last delivered bytes) ≡ option_map (λ verdict. (length delivered + 1, verdict))
      (ending_of c (with_last delivered bytes))

-- what has come of fewer deliveries has come of more
abbrev pub FirstPostsContained : Type 0
FirstPostsContained = (c : Configuration) (delivered : List (List ℕ)) (count : ℕ) →
    IsContained (first_posts c (take count delivered)) (first_posts c delivered)

-- ---- strings that change nothing

-- a string that says what its slot has: its body is in the grammar, and its content is that of the first post there
pub record IsSame (c : Configuration) (delivered : List (List ℕ)) (heard : Heard) : Type 0 where
  pub reads : IsTrue (is_ok heard.content)
  pub kept : Post
  pub first : first_posts c delivered (slot_named heard.header) ≡ Some kept
  pub same : kept.content ≡ heard.post.content

-- a string that changes nothing: nothing is heard of it, or it says what its slot has
abbrev pub IsIdle : Configuration → List (List ℕ) → List ℕ → Type 0
IsIdle c delivered bytes =
    (heard_of c bytes ≡ None) ⊎ ((heard : Heard) × (heard_of c bytes ≡ Some heard) × IsSame c delivered heard)

-- behind it each slot has the post that it had, the member stands where it stood, and nothing has ended that had not
pub record ChangesNothing (c : Configuration) (delivered : List (List ℕ)) (bytes : List ℕ) : Type 0 where
  pub posts : (slot : Slot) → first_posts c (with_last delivered bytes) slot ≡ first_posts c delivered slot
  pub stand : stand_after c (with_last delivered bytes) ≡ stand_after c delivered
  pub ending : ending_of c delivered ≡ None → ending_of c (with_last delivered bytes) ≡ None

abbrev pub IdleChangesNothing : Type 0
IdleChangesNothing = (c : Configuration) (delivered : List (List ℕ)) (bytes : List ℕ) → IsIdle c delivered bytes →
    ChangesNothing c delivered bytes

-- ---- deliveries as a whole

-- nobody is at fault: all that is heard has a body in the grammar, and the content of the first post of its slot
abbrev pub AreConsistent : Configuration → List (List ℕ) → Type 0
AreConsistent c delivered = (bytes : List ℕ) (heard : Heard) → Contains delivered bytes → heard_of c bytes ≡ Some heard →
    IsTrue (is_ok heard.content)
    × ((first : Post) → first_posts c delivered (slot_named heard.header) ≡ Some first → first.content ≡ heard.post.content)

-- how the round stands by a stand alone
abbrev pub outcome_of_stand : Configuration → Others → Stand → Outcome
outcome_of_stand c others stand =
    if is_open stand.verdict then waiting_outcome c others stand else outcome_ended c stand stand.verdict

-- the result and the posts are read off from the course of all first posts
pub record IsWholeCourse (c : Configuration) (delivered : List (List ℕ)) : Type 0 where
  pub result : result_of c delivered ≡ outcome_of_stand c (first_posts c delivered) (stand_after c delivered)
  pub posts : posts_of c delivered ≡ own_posts c (stand_after c delivered)

abbrev pub WholeCourse : Type 0
WholeCourse = (c : Configuration) (delivered : List (List ℕ)) → AreConsistent c delivered → IsWholeCourse c delivered
