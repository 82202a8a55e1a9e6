-- What all honest members have in common where one of them agreed with all others.
use Rattle.std.specs.Prelude.{◌≡◌, ℕ, ◌-◌, List, Contains, Some, take, IsTrue, ◌≢◌, ◌∷◌, ◌<◌, ◌≤◌, ◌+◌, []}
use Rattle.phase_message.specs.declared.post.Post.{Post}
use Rattle.phase_message.specs.Slots.{slots_before}
use Rattle.stage_log.specs.Log.{before, contents_of}
use Rattle.round_spec.specs.Cases.{AllAgree}
use Rattle.round_spec.specs.Course.{closing_of}
use Rattle.round_spec.specs.Premises.{NoRunsCollide}
use Rattle.round_spec.specs.Runs.{Run, run_after, AreHonest}
use Rattle.round_spec.specs.Say.{Configuration, shape_in, own_descriptor, own_item, own_submission}
use Rattle.accountability.specs.Evidence.{IsKeptEnd}
use Rattle.accountability.specs.Faulty.{IsAmong}
use Rattle.round_spec.specs.Slots.{final_stage, inner_place, items_opened, key_said, list_said, said_in, seed_in}
use Rattle.ring_encrypt.specs.Capsule.{key_of_seed}
use Rattle.std.specs.List.{slice_get}
use Rattle.go_nogo.specs.Votes.{votes_agree}

-- a member among honest runs, no two of whose strings have one hash, kept these posts to the end of a closing stage, and
-- all members agree there
pub record IsAgreedEnd (c : Configuration) (delivered : List (List ℕ)) (runs : List Run) (stage : ℕ) (posts : List Post) : Type 0 where
  pub among : IsAmong c delivered runs
  pub distinct : NoRunsCollide runs
  pub kept : IsKeptEnd (run_after c delivered) stage posts
  pub agree : AllAgree (closing_of c posts stage)

-- a run kept before a stage what has the contents that the member kept there
pub record HasSamePast (c : Configuration) (stage : ℕ) (posts : List Post) (run : Run) : Type 0 where
  pub past : List Post
  pub kept : before run.log stage ≡ Some past
  pub same : contents_of past ≡ take (slots_before (shape_in c) stage) (contents_of posts)

-- so did each run of the round before the votes
abbrev pub SamePast : Type 0
SamePast = (c : Configuration) (delivered : List (List ℕ)) (runs : List Run) (stage : ℕ) (posts : List Post) (run : Run) →
    IsAgreedEnd c delivered runs stage posts → Contains runs run → run.config.round ≡ c.round → HasSamePast c (stage - 1) posts run

-- ---- where its message is

-- the votes before the end of a shuffle are unanimous, and each member revealed the seed of its inner key there
pub record HasSeeds (c : Configuration) (posts : List Post) (shuffle : ℕ) : Type 0 where
  pub votes : IsTrue (votes_agree (shape_in c) (contents_of posts) (final_stage (shape_in c) shuffle))
  pub seeds : (member : ℕ) → 1 ≤ member → member ≤ (shape_in c).members →
      key_of_seed (seed_in (said_in (shape_in c) (contents_of posts) (final_stage (shape_in c) shuffle) member))
      ≡ key_said (shape_in c) (contents_of posts) (inner_place shuffle) member

-- the inner ciphertext of a run's submission to a shuffle, by what the member kept
abbrev pub inner_kept : List Post → Run → ℕ → List ℕ
inner_kept posts run shuffle =
    (own_submission run.config (own_descriptor run.config (contents_of posts)) (contents_of posts) shuffle).inner_ciphertext

-- what it submits to a shuffle, by what the member kept
abbrev pub item_kept : List Post → Run → ℕ → List ℕ
item_kept posts run shuffle = own_item run.config (own_descriptor run.config (contents_of posts)) (contents_of posts) shuffle

-- the run's inner ciphertext stands at a place of the last list of a shuffle, and what the list opens to is its item there
pub record OpensAt (c : Configuration) (posts : List Post) (shuffle : ℕ) (run : Run) (place : ℕ) : Type 0 where
  pub list : List (List ℕ)
  pub said : list_said (shape_in c) (contents_of posts) shuffle (shape_in c).members ≡ Some list
  pub stands : slice_get list place ≡ Some (inner_kept posts run shuffle)
  pub opens : slice_get (items_opened (shape_in c) (contents_of posts) shuffle) place ≡ Some (Some (item_kept posts run shuffle))

-- each run of the round stands at a place of the last list of shuffle A, which opens to its own descriptor
abbrev pub PlaceOpens : Type 0
PlaceOpens = (c : Configuration) (delivered : List (List ℕ)) (runs : List Run) (stage : ℕ) (posts : List Post) (run : Run) →
    IsAgreedEnd c delivered runs stage posts → (shape_in c).members + 4 < stage → Contains runs run → run.config.round ≡ c.round →
    (place : ℕ) × OpensAt c posts 1 run place

-- and two members stand at two places
abbrev pub PlacesDiffer : Type 0
PlacesDiffer = (c : Configuration) (runs : List Run) (posts : List Post) (shuffle : ℕ) (run other : Run) (place other_place : ℕ) →
    AreHonest c.roster runs → NoRunsCollide runs → Contains runs run → Contains runs other → Contains (1 ∷ 2 ∷ []) shuffle →
    HasSeeds c posts shuffle → run.config.number ≢ other.config.number →
    OpensAt c posts shuffle run place → OpensAt c posts shuffle other other_place → place ≢ other_place
