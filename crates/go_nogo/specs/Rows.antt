-- What an honest member says where it votes, and where votes are closed. A past is the list of what was said in the
-- slots before the stage, in the order of slots.
use Rattle.std.specs.Prelude.{ℕ, ◌+◌, ◌-◌, List, map, Bool, false, ◌&&◌, is_none, Option, Some, None, Result, Ok, Err, bytes_eq, if◌then◌else◌}
use Rattle.std.specs.List.{list_any, slice_get, slice_range}
use Rattle.phase_message.specs.declared.content.Body.{Body}
use Rattle.phase_message.specs.declared.content.Body.TheVariants.{Shuffled, Go, Reveal, Dispute, Check, Confirm, Differ}
use Rattle.phase_message.specs.declared.content.Content.{Content}
use Rattle.phase_message.specs.declared.header.Header.{Header}
use Rattle.phase_message.specs.declared.post.Post.{Post}
use Rattle.phase_message.specs.declared.offence.Offence.{Offence}
use Rattle.phase_message.specs.Offence.{content_read}
use Rattle.phase_message.specs.Post.{post_spelling}
use Rattle.phase_message.specs.Shape.{Shape}
use Rattle.phase_message.specs.Slots.{slots_before}
use Rattle.stage_log.specs.Log.{all_some, contents_of, first_wrong}
use Rattle.go_nogo.specs.Votes.{votes_agree}

-- ---- votes

-- whether every slot before a stage carries the view of its own stage
abbrev pub all_right : Shape → List (List ℕ) → ℕ → Bool
all_right shape past stage = is_none (first_wrong shape past stage)

-- the list that a body says
abbrev pub list_in : Body → Option (List (List ℕ))
list_in (Shuffled list) = Some list
list_in _ = None

-- the list of what is read as a turn; a turn that says Abort has none
abbrev pub list_read : Result Content Offence → Option (List (List ℕ))
list_read (Ok content) = list_in content.body
list_read (Err offence) = None

-- the turns of the shuffle that a stage of votes is about: one slot for each member, and they stand right before it
abbrev pub turns_before : Shape → List (List ℕ) → ℕ → List (List ℕ)
turns_before shape past stage = slice_range past (slots_before shape stage - shape.members) (slots_before shape stage)

-- the lists of these turns, if none of them said Abort
abbrev pub lists_before : Shape → List (List ℕ) → ℕ → Option (List (List (List ℕ)))
lists_before shape past stage = all_some (map (λ turn. list_read (content_read shape turn)) (turns_before shape past stage))

-- whether an entry stands in a list that is there
abbrev pub stands_in : List ℕ → Option (List (List ℕ)) → Bool
stands_in entry None = false
stands_in entry (Some list) = list_any (bytes_eq entry) list

-- whether an entry stands in the last of the lists, of which there is one for each member
abbrev pub stands_last : Shape → List ℕ → Option (List (List (List ℕ))) → Bool
stands_last shape entry None = false
stands_last shape entry (Some lists) = stands_in entry (slice_get lists (shape.members - 1))

-- the vote on a shuffle: yes exactly where every slot before is right, no turn said Abort, and the own inner ciphertext
-- stands in the last list
unfoldable pub go_row : Shape → List (List ℕ) → ℕ → List ℕ → Body
go_row shape past stage inner = Go (all_right shape past stage && stands_last shape inner (lists_before shape past stage))

-- the vote on what was seen: yes exactly where every slot before is right
unfoldable pub check_row : Shape → List (List ℕ) → ℕ → Body
check_row shape past stage = Check (all_right shape past stage)

-- ---- where votes are closed

-- the posts of a stage, by sender
abbrev pub posts_at : Shape → List Post → ℕ → List Post
posts_at shape posts stage = slice_range posts (slots_before shape stage) (slots_before shape (stage + 1))

-- posts as they are sent
abbrev pub written : List Post → List (List ℕ)
written posts = map post_spelling posts

-- at the end of a shuffle: where its votes are unanimous, these and the seed of the inner key; else all posts before,
-- and what makes the outer layers anew
unfoldable pub final_row : Shape → List Post → ℕ → List ℕ → List ℕ → List ℕ → Body
final_row shape posts stage inner_seed outer_seed outer_opening =
    if votes_agree shape (contents_of posts) stage
    then Reveal (written (posts_at shape posts (stage - 1))) inner_seed
    else Dispute (written posts) outer_seed outer_opening

-- behind the checks: where they are unanimous, these; else all posts before
unfoldable pub confirm_row : Shape → List Post → ℕ → Body
confirm_row shape posts stage =
    if votes_agree shape (contents_of posts) stage
    then Confirm (written (posts_at shape posts (stage - 1)))
    else Differ (written posts)

-- the contents with a header
abbrev pub final_content : Shape → List Post → Header → List ℕ → List ℕ → List ℕ → Content
final_content shape posts header inner_seed outer_seed outer_opening =
    record { header = header; body = final_row shape posts header.stage inner_seed outer_seed outer_opening }

abbrev pub confirm_content : Shape → List Post → Header → Content
confirm_content shape posts header = record { header = header; body = confirm_row shape posts header.stage }
