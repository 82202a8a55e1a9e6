-- Votes, and when they are unanimous. A past is the list of the contents of a round's slots so far, in the order of
-- slots.
use Rattle.std.specs.Prelude.{◌≡◌, ℕ, ◌-◌, List, [], ◌∷◌, map, Bool, true, false, ◌&&◌, IsTrue, All, Option, Some, None, Result, Ok, Err, bytes_eq}
use Rattle.std.specs.List.{list_all}
use Rattle.phase_message.specs.declared.content.Body.{Body}
use Rattle.phase_message.specs.declared.content.Body.TheVariants.{Go, Check}
use Rattle.phase_message.specs.declared.content.Content.{Content}
use Rattle.phase_message.specs.declared.offence.Offence.{Offence}
use Rattle.phase_message.specs.Offence.{content_read}
use Rattle.phase_message.specs.Shape.{Shape}
use Rattle.stage_log.specs.Log.{all_some, contents_at}
use Rattle.go_nogo.specs.declared.votes.Vote.{Vote}

-- ---- votes

-- the vote of a body under a header with this view, if it is one
abbrev pub body_vote : List ℕ → Body → Option Vote
body_vote view (Go flag) = Some (record { yes = flag; view = view })
body_vote view (Check flag) = Some (record { yes = flag; view = view })
body_vote view _ = None

-- the vote of what is read as a content, if it is one
abbrev pub vote_read : Result Content Offence → Option Vote
vote_read (Ok content) = body_vote content.header.view content.body
vote_read (Err offence) = None

-- the vote that bytes spell, if they spell one
abbrev pub vote_of : Shape → List ℕ → Option Vote
vote_of shape content = vote_read (content_read shape content)

-- the votes that contents spell, if each of them spells one
abbrev pub votes_of : Shape → List (List ℕ) → Option (List Vote)
votes_of shape contents = all_some (map (vote_of shape) contents)

-- ---- unanimous votes

-- whether a vote says yes and carries this view
abbrev pub is_yes_with : List ℕ → Vote → Bool
is_yes_with view vote = vote.yes && bytes_eq vote.view view

-- whether all votes say yes and carry one view, which is that of the first
abbrev pub is_unanimous : List Vote → Bool
is_unanimous [] = true
is_unanimous (first ∷ others) = list_all (is_yes_with first.view) (first ∷ others)

-- all votes say yes, and there is one view that they all carry
abbrev pub AreUnanimous : List Vote → Type 0
AreUnanimous votes = (view : List ℕ) × All (λ (vote : Vote). IsTrue vote.yes × (vote.view ≡ view)) votes

-- whether there are votes, and they are unanimous
abbrev pub has_unanimous : Option (List Vote) → Bool
has_unanimous None = false
has_unanimous (Some votes) = is_unanimous votes

-- whether contents are votes, and these are unanimous
unfoldable pub are_unanimous : Shape → List (List ℕ) → Bool
are_unanimous shape contents = has_unanimous (votes_of shape contents)

-- whether the votes of the stage before a closing stage are unanimous
abbrev pub votes_agree : Shape → List (List ℕ) → ℕ → Bool
votes_agree shape past stage = are_unanimous shape (contents_at shape past (stage - 1))
