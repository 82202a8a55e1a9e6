-- The first runs: of a member that has said nothing, and of one that has said its keys.
use Rattle.std.specs.Prelude.{◌≡◌, ◌⊎◌, List, [], map, All, AllPairs}
use Rattle.phase_message.specs.declared.post.Post.{Post}
use Rattle.phase_message.specs.Post.{post_spelling}
use Rattle.group_roster.specs.Roster.{Roster}
use Rattle.stage_log.specs.Table.{empty_log, filled}
use Rattle.round_spec.specs.Say.{Configuration, own_post, shape_in}
use Rattle.round_spec.specs.Runs.{AreApart, AreHonest, HonestRun, IsConfiguration, NoForgery, Run}

-- a member that has said nothing
abbrev pub silent_run : Configuration → Run
silent_run c = record { config = c; log = empty_log (shape_in c) }

-- the post of its keys
abbrev pub keys_post : Configuration → Post
keys_post c = own_post c [] 0

-- a member that has said its keys, and has heard nobody
abbrev pub keys_run : Configuration → Run
keys_run c = record { config = c; log = filled (empty_log (shape_in c)) (record { stage = 0; sender = c.number }) (keys_post c) }

-- one of the two, of a member that can be honest
pub record IsBeginning (run : Run) : Type 0 where
  pub config : IsConfiguration run.config
  pub is : (run ≡ silent_run run.config) ⊎ (run ≡ keys_run run.config)

-- each of them is an honest run
abbrev pub BeginningsAreHonest : Type 0
BeginningsAreHonest = (run : Run) → IsBeginning run → HonestRun run

-- and lists of them are honest
abbrev pub ListsAreHonest : Type 0
ListsAreHonest = (roster : Roster) (runs : List Run) → All IsBeginning runs → All (λ run. run.config.roster ≡ roster) runs →
    AllPairs AreApart runs → AreHonest roster runs

-- nothing is forged where nothing is delivered
abbrev pub NothingIsForged : Type 0
NothingIsForged = (roster : Roster) (runs : List Run) → NoForgery roster [] runs

-- and nothing where the keys are delivered that such runs said
abbrev pub KeysAreNotForged : Type 0
KeysAreNotForged = (roster : Roster) (configs : List Configuration) → All IsConfiguration configs → All (λ c. c.roster ≡ roster) configs →
    NoForgery roster (map (λ c. post_spelling (keys_post c)) configs) (map keys_run configs)
