-- What a member finds of a post that it hears, and what it shows by it.
use Rattle.std.specs.Prelude.{ℕ, List, [], ◌∷◌, is_ok, Option, Some, None, if◌then◌else◌}
use Rattle.phase_message.specs.declared.header.Header.{Header}
use Rattle.phase_message.specs.declared.post.Post.{Post}
use Rattle.phase_message.specs.Offence.{content_read}
use Rattle.phase_message.specs.Post.{post_spelling}
use Rattle.phase_message.specs.Shape.{Shape}
use Rattle.transcript_form.specs.declared.claim.Claim.TheVariants.{Equivocation, Malformed as Outside}
use Rattle.round_spec.specs.Verdict.{Verdict, conviction}
use Rattle.member_spec.specs.Taking.{is_content}
use Rattle.member_parts.specs.declared.finding.Found.{Found}
use Rattle.member_parts.specs.declared.finding.Found.TheVariants.{New, Same, Other, Malformed}

-- what a content of the grammar is to a slot that does not hold it: it is new, or another than the one that is kept
abbrev pub found_beside : Option Post → Found
found_beside None = New
found_beside (Some kept) = Other

-- what a content is to its slot, which holds this
abbrev pub found_of : Shape → Option Post → List ℕ → Found
found_of shape kept content =
    if is_content content kept then Same
    else (if is_ok (content_read shape content) then found_beside kept else Malformed)

-- the verdict that a string shows: with the post that its slot keeps, where it holds another content, and else alone
abbrev pub verdict_shown : ℕ → Header → List ℕ → Option Post → Found → Verdict
verdict_shown round header bytes (Some first) Other = conviction round header.sender Equivocation (post_spelling first ∷ bytes ∷ [])
verdict_shown round header bytes kept found = conviction round header.sender Outside (bytes ∷ [])
