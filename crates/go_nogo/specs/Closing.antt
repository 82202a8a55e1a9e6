-- Closing contents: which posts they embed, and when they are justified.
use Rattle.std.specs.Prelude.{ℕ, ◌+◌, ◌-◌, List, [], take, Bool, true, false, not, ◌&&◌, IsTrue, IsSome, bytes_eq, if◌then◌else◌}
use Rattle.std.specs.List.{slice_range}
use Rattle.phase_message.specs.declared.content.Body.{Body}
use Rattle.phase_message.specs.declared.content.Body.TheVariants.{Reveal, Dispute, Confirm, Differ}
use Rattle.phase_message.specs.declared.content.Content.{Content}
use Rattle.phase_message.specs.declared.stage.Slot.{Slot}
use Rattle.phase_message.specs.Shape.{Shape}
use Rattle.phase_message.specs.Slots.{slots_before, slots_of}
use Rattle.phase_message.specs.Closing.{ClosesVotes}
use Rattle.stage_log.specs.Log.{before, view_of}
use Rattle.stage_log.specs.Table.{Log, is_complete}
use Rattle.go_nogo.specs.Votes.{are_unanimous, votes_agree}

-- ---- what is embedded

-- whether a body is a Reveal or a Confirm, which say that the votes are unanimous
abbrev pub is_assent : Body → Bool
is_assent (Reveal votes seed) = true
is_assent (Confirm votes) = true
is_assent _ = false

-- the posts that a closing body embeds, as they were sent
abbrev pub posts_embedded : Body → List (List ℕ)
posts_embedded (Reveal votes seed) = votes
posts_embedded (Dispute posts seed opening) = posts
posts_embedded (Confirm votes) = votes
posts_embedded (Differ posts) = posts
posts_embedded _ = []

-- of a list with a value for each slot, those of the slots that a closing content embeds: of the votes before it where
-- it assents, and else of all slots before it
abbrev pub embedded_of : {A : Type 0} → Shape → Content → List A → List A
embedded_of shape content values =
    if is_assent content.body
    then slice_range values (slots_before shape (content.header.stage - 1)) (slots_before shape (content.header.stage - 1 + 1))
    else take (slots_before shape content.header.stage) values

-- the slots that a closing content embeds
abbrev pub slots_embedded : Shape → Content → List Slot
slots_embedded shape content = embedded_of shape content (slots_of shape)

-- a content of a closing stage
abbrev pub IsClosing : Shape → Content → Type 0
IsClosing shape content = ClosesVotes shape content.header.stage

-- a log keeps all posts of the stage before, for one that assents, or else those of all stages before
abbrev pub HoldsFor : Bool → ℕ → Log → Type 0
HoldsFor true stage log = IsTrue (is_complete log (stage - 1))
HoldsFor false stage log = IsSome (before log stage)

-- a log keeps a post in each slot that a closing content embeds
abbrev pub HoldsEmbedded : Content → Log → Type 0
HoldsEmbedded content log = HoldsFor (is_assent content.body) content.header.stage log

-- ---- when it is justified

-- whether a closing content that embeds posts of these contents is justified: the votes are unanimous where it assents,
-- and else they are not, and its header carries the view of what it embeds
unfoldable pub is_justified : Shape → Content → List (List ℕ) → Bool
is_justified shape content embedded =
    if is_assent content.body
    then are_unanimous shape embedded
    else not (votes_agree shape embedded content.header.stage) && bytes_eq content.header.view (view_of shape embedded content.header.stage)
